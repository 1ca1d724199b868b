-- The sums over a history at every moment of every run.
use Rattle.std.proofs.Common.{◌≡◌, ◌+◌, List, length, Some}
use Rattle.vch_model.specs.declared.lists.Scenario.{Scenario}
use Rattle.vch_model.specs.Totals.{held, out, ledger}
use Rattle.vch_machine.specs.State.{Machine}
use Rattle.vch_machine.specs.Schedules.{Move, run_from_start}
use Rattle.vch_legal.specs.Conserved.{each_task, accepted, dues}
use Rattle.vch_legal.proofs.sums.Conservation.{held_is_out}
use Rattle.vch_legal.proofs.sums.Ledgers.{charges_are_kept}
use Rattle.vch_legal.proofs.runs.Runs.{reached_stands}

pub run_held_is_out : (sc : Scenario) (moves : List Move) (n : Machine) → run_from_start sc moves ≡ Some n
    → each_task (held sc n.past) (length sc.flags) ≡ each_task (out sc n.past) (length sc.flags)
run_held_is_out sc moves n e = held_is_out sc n.past (reached_stands sc moves n e).legal

pub run_charges_are_kept : (sc : Scenario) (moves : List Move) (n : Machine) → run_from_start sc moves ≡ Some n
    → accepted sc n.past ≡ each_task (ledger sc n.past) (length sc.flags) + dues sc n.past
run_charges_are_kept sc moves n e = charges_are_kept sc n.past (reached_stands sc moves n e).legal
