-- What other crates cite of the lemmas of this one.
pub use Rattle.vch_shelf.proofs.Finds.{finds_same, finds_inserted, finds_removed, named_at, named_none, unknown_of, item_found, not_found, names_same}
