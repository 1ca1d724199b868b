-- What other crates cite of the lemmas of this one.
pub use Rattle.vch_table.proofs.Maps.{by_cases, same_equal}
pub use Rattle.vch_table.proofs.Cells.{decides}
