-- What other crates cite of the lemmas of this one.
pub use Rattle.vch_machine.proofs.Others.{leaves_of, Leaves, still}
pub use Rattle.vch_machine.proofs.Walks.{Walk, event_walked, still_claim}
pub use Rattle.vch_machine.proofs.WithoutWant.{without_want}
