-- What other crates cite of the lemmas of this one.
pub use Rattle.vch_frame.proofs.Cases.{cases_of, either_way}
pub use Rattle.vch_frame.proofs.Pairs.{pairwise, optional}
pub use Rattle.vch_frame.proofs.Keys.{same_key_refl, of_with, same_at}
pub use Rattle.vch_frame.proofs.Room.{room_for}
pub use Rattle.vch_frame.proofs.Entries.{there_of, entry_of_handle}
pub use Rattle.vch_frame.proofs.Tasks.{at_place, task_number}
pub use Rattle.vch_frame.proofs.Runs.{run_on, event_is}
