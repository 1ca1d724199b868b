-- What other crates cite of the lemmas of this one.
pub use Rattle.vch_recipe.proofs.FourBytes.{AreBytes, read_number, word_spelled, word_below}
pub use Rattle.vch_recipe.proofs.Outcomes.{one_outcome}
pub use Rattle.vch_recipe.proofs.Spelled.{first_spelled}
