-- What other crates cite of the lemmas of this one.
pub use Rattle.vch_bounds.proofs.counts.Rooms.{counted, within, one_more, room_grows}
pub use Rattle.vch_bounds.proofs.lists.TaskSums.{set_sum, sum_changed, one_of_all, no_more}
pub use Rattle.vch_bounds.proofs.runs.Runs.{limited_of, bounded, in_numbers, reached_spent, run_bounded, run_in_numbers}
pub use Rattle.vch_bounds.proofs.runs.Steps.{start_spent, event_spent, phase_spent, move_spent}
