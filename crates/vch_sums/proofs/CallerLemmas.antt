-- What other crates cite of the lemmas of this one.
pub use Rattle.vch_sums.proofs.Live.{Numbered, Rising, numbered, made_at, gone_at, found_value}
pub use Rattle.vch_sums.proofs.Passing.{passed}
