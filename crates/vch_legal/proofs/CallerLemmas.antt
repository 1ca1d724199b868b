-- What the crates above cite of the machine's theorem beside its laws.
pub use Rattle.vch_legal.proofs.added.AddedLines.{limited_added}
pub use Rattle.vch_legal.proofs.added.AddedRuns.{run_added, legal_added, store_added}
pub use Rattle.vch_legal.proofs.spots.AskSpots.{without_here, without_other}
pub use Rattle.vch_legal.proofs.store.AtRest.{Rests, task_rests, task_of}
pub use Rattle.vch_legal.proofs.bounds.Bounds.{move_lowers, run_bounded, is_among}
pub use Rattle.vch_legal.proofs.bounds.LeftMakes.{few_managed}
pub use Rattle.vch_legal.proofs.facts.Choices.{not_true, or_left, or_right, cases_bool, number_eq}
pub use Rattle.vch_legal.proofs.sums.AcceptedCalls.{IsExtern, extern_done, IsCharge, charge_done}
pub use Rattle.vch_legal.proofs.sums.MadeEntries.{made_value}
pub use Rattle.vch_legal.proofs.sums.AmountEntries.{phase_uncounted, gone_uncounted, lost_uncounted, refused_uncounted, call_uncounted}
pub use Rattle.vch_legal.proofs.sums.AmountEntries.{released_amount, made_amount, other_made, made_amounts, KeepAmounts}
pub use Rattle.vch_legal.proofs.sums.AmountEntries.{extern_amount, extern_ledger, account_amount, account_ledger, own_amount, own_ledger}
pub use Rattle.vch_legal.proofs.sums.Conservation.{task_range}
pub use Rattle.vch_legal.proofs.lines.EachLine.{line_has}
pub use Rattle.vch_legal.proofs.forming.Forming.{rest_of, LiveAt, eval_bound}
pub use Rattle.vch_legal.proofs.values.FoundValues.{append_here, append_other, found_value}
pub use Rattle.vch_legal.proofs.values.HeldLive.{held_live, voucher_live, forming_live, names_live}
pub use Rattle.vch_legal.proofs.facts.Keeps.{event_keeps, phase_keeps, start_keeps, refuse_keeps}
pub use Rattle.vch_legal.proofs.sums.Ledgers.{charges_are_kept}
pub use Rattle.vch_legal.proofs.lines.LineSums.{lines_of_tasks, all_of_tasks, start_few, line_sum}
pub use Rattle.vch_legal.proofs.spots.MakeSpots.{fresh_dead}
pub use Rattle.vch_legal.proofs.tasks.OwnTask.{work_few, orphaned_few, places_few, doubled_few, option_few, first_few}
pub use Rattle.vch_legal.proofs.tasks.OwnTask.{Near, near_self, near_then, near_own, near_queued, near_either, named_begun}
pub use Rattle.vch_legal.proofs.tasks.OwnSteps.{Before}
pub use Rattle.vch_legal.proofs.lines.PhaseCounts.{lines_with_phase}
pub use Rattle.vch_legal.proofs.lines.PhaseLines.{phase_of_line, all_lines, no_lines}
pub use Rattle.vch_legal.proofs.spots.Places.{same_place_eq}
pub use Rattle.vch_legal.proofs.spots.PutSpots.{handles_eq}
pub use Rattle.vch_legal.proofs.forming.RecordPlaces.{record_place, record_long, record_inside, record_rest}
pub use Rattle.vch_legal.proofs.forming.Records.{voucher_seen, seen_names, asks_same}
pub use Rattle.vch_legal.proofs.steps.Refusals.{names_seen}
pub use Rattle.vch_legal.proofs.reports.ReportBytes.{no_bytes, bytes_joined, word_bytes, spelling_bytes}
pub use Rattle.vch_legal.proofs.reports.RunReports.{legal_reportable, run_reportable, all_reversed}
pub use Rattle.vch_legal.proofs.runs.Runs.{start_stands, happens_stands, reached_stands, run_whole}
pub use Rattle.vch_legal.proofs.forming.RunsEvaluated.{run_evaluated}
pub use Rattle.vch_legal.proofs.runs.ScheduleRuns.{none_next_rests, waiting_next, resting}
pub use Rattle.vch_legal.proofs.seen.SeenNames.{LiveAll, same_vouchers, AllLive}
pub use Rattle.vch_legal.proofs.seen.SeenTasks.{claims_task, member_seen, own_task}
pub use Rattle.vch_legal.proofs.seen.SeenValues.{AtMostOnce, Each, found_place, each_of, at_most_once, numbered, plain_numbered}
pub use Rattle.vch_legal.proofs.tasks.TaskLists.{IsAmong, before, behind, all_split, all_set, flat_map_map}
pub use Rattle.vch_legal.proofs.runs.Turns.{all_numbers, own_number, all_tasks, count_cons, lowest_some, lowest_none, number_of_all, opened_next}
pub use Rattle.vch_legal.proofs.forming.Creates.{eval_step, reaches_step, then_eval, then_reaches, eval_other, reaches_other, reaches_bound, one_above, there_enough}
pub use Rattle.vch_legal.proofs.seen.SeenHeld.{values_refl, values_eq, value_at_key}
pub use Rattle.vch_legal.proofs.steps.EventSteps.{Happened, event_happens, same_answer}
pub use Rattle.vch_legal.proofs.steps.Follows.{Follows as Steps}
pub use Rattle.vch_legal.proofs.steps.MakeSteps.{MayStep}
pub use Rattle.vch_legal.proofs.steps.Nexts.{Called, called, forms_at, at_keys, moved_is, some_kind, still_open}
pub use Rattle.vch_legal.proofs.steps.WorkSteps.{no_work}
pub use Rattle.vch_legal.proofs.spots.Shapes.{Shape, shape_of}
pub use Rattle.vch_legal.proofs.steps.Standing.{Step}
pub use Rattle.vch_legal.proofs.store.StoreLegal.{legal_store, call_live, answered_line}
pub use Rattle.vch_legal.proofs.store.StoreSteps.{StoreFits, AliveGood, AllGood, equals, none_equal}
pub use Rattle.vch_legal.proofs.sums.ReportSums.{added, credited, external_few, due_few, ledger_few}
