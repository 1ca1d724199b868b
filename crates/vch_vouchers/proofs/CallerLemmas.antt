-- What other crates cite of the lemmas of this one.
pub use Rattle.vch_vouchers.proofs.Different.{count_with, same_count}
pub use Rattle.vch_vouchers.proofs.Changes.{Gains, Same, among_append, count_gains, count_same, gains, loses, same}
pub use Rattle.vch_vouchers.proofs.Callers.{dropped_loses, dropped_same, given_gains, queued_gains, queued_same, removed_loses, removed_same, taken_loses, taken_same}
