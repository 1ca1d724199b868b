-- What other crates cite of the lemmas of this one.
pub use Rattle.vch_base.proofs.Handing.{is_fresh, sum_handed, sum_set, all_handed, all_set, value_set, value_stays, handed_cases, again, first_free, sum_at, not_fresh}
pub use Rattle.vch_base.proofs.Shelves.{inside_of, there}
pub use Rattle.vch_base.proofs.Slots.{writes_set, writes_push, place_of, all_after, item_of, count_after, apart_same, apart_gone, apart_new}
pub use Rattle.vch_base.proofs.Tables.{with_of, equal_where_equal}
pub use Rattle.vch_base.proofs.TaskLists.{as_long, own_item, set_twice, other_items}
