-- What other crates cite of the lemmas of this one.
pub use Rattle.vch_intern.proofs.Plays.{played, played_value}
