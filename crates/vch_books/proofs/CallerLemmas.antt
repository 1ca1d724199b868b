-- What other crates cite of the lemmas of this one.
pub use Rattle.vch_books.proofs.Sound.{standing_live, standing_same, good_live}
