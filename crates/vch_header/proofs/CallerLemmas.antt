-- What other crates cite of the lemmas of this one.
pub use Rattle.vch_header.proofs.Translations.{apart}
