-- What a legal history gives its report.
use Rattle.std.proofs.Common.{◌≡◌, ◌⊎◌, ℕ, suc, ◌+◌, ◌^◌, ◌<◌, List, [], ◌∷◌, length, reverse, refl, sym, ap, subst, ◌∙◌, arith, Option, Some, None}
use Rattle.std.specs.List.{AllByRecursion}
use Rattle.vch_base.specs.declared.flags.Flags.{Flags}
use Rattle.vch_base.specs.declared.key.Key.{Key}
use Rattle.vch_base.specs.declared.key.Key.TheVariants as keys
use Rattle.vch_base.specs.declared.value.Value.{Value}
use Rattle.vch_base.specs.declared.value.Value.TheVariants as values
use Rattle.vch_base.specs.Keys.{key_of}
use Rattle.vch_base.specs.Values.{BelongsAt}
use Rattle.vch_model.specs.declared.entry.Entry.{Entry}
use Rattle.vch_model.specs.declared.entry.Entry.TheVariants as entries
use Rattle.vch_model.specs.declared.lists.Scenario.{Scenario}
use Rattle.vch_model.specs.After.{store_of}
use Rattle.vch_model.specs.Canonical.{IsWritable}
use Rattle.vch_model.specs.Scenarios.{IsLimited}
use Rattle.vch_model.specs.Legal.{CanFollow, LegalPast, Legal}
use Rattle.vch_model.specs.Text.{totals_from}
use Rattle.vch_model.specs.WellFormed.{IsTotal}
use Rattle.vch_legal.specs.Reports.{IsByteEntry, IsReportable}
use Rattle.vch_machine.specs.State.{Machine}
use Rattle.vch_machine.specs.Schedules.{Move, run_from_start}
use Rattle.vch_legal.proofs.CallerLemmas.{legal_reportable, run_reportable}
use Rattle.vch_report.specs.declared.report.Report.{Report}
use Rattle.vch_report.specs.WellFormed.{Making, IsWellFormed}
use Rattle.vch_report.specs.OfCore.{HasTask, Tells}

-- each list of tasks that a legal history makes has a task

made_task : (o : Option Key) (x : Value) → BelongsAt o x → HasTask x
made_task None x h = absurd h
made_task (Some k) (values.User bytes) h = tt
made_task (Some keys.Importance) (values.Chain list) h = h.0
made_task (Some keys.Bank) (values.Chain list) h = absurd h
made_task (Some keys.User) (values.Chain list) h = absurd h
made_task (Some keys.Test) (values.Chain list) h = absurd h
made_task (Some k) values.Default h = tt
made_task (Some k) (values.Task t) h = tt
made_task (Some k) (values.Account holder merchant) h = tt

pub tasks_made : (sc : Scenario) (past : List Entry) → LegalPast sc past → AllByRecursion (Making HasTask) past
tasks_made sc [] legal = tt
tasks_made sc (e ∷ past) legal = (by e legal.1, tasks_made sc past legal.0)
  where
    by : (e : Entry) → CanFollow sc past (store_of sc past) e → Making HasTask e
    by (entries.Made k x) f = made_task (key_of sc.version k) x f.0
    by e f = tt

totals_long : (sc : Scenario) (past : List Entry) (t : ℕ) (flags : List Flags) → length (totals_from sc past t flags) ≡ length flags
totals_long sc past t [] = refl
totals_long sc past t (f ∷ flags) = ap suc (totals_long sc past (t + 1) flags)

-- a report that tells what has a text has one
formed : (sc : Scenario) (history : List Entry) (report : Report) → IsLimited sc → IsReportable sc history → Tells sc history report → IsWellFormed report
formed sc history report limited r tells =
    let size : length report.totals ≡ length sc.flags = ap length tells.totals ∙ totals_long sc (reverse history) 1 sc.flags in
    record {
      version = subst (λ (n : ℕ). (n ≡ 1) ⊎ (n ≡ 2)) (sym tells.version) limited.version;
      entries = rw (tells.version, tells.entries) r.entries;
      totals = subst (AllByRecursion IsTotal) (sym tells.totals) r.totals;
      some_task = omega (arith, size, limited.some_task);
      numbered = omega (arith, size, limited.tasks);
      vouchers = omega (arith, tells.vouchers, r.vouchers);
      values = omega (arith, tells.values, r.values);
    }

-- a report that tells of a legal history has a text
pub legal_report : (sc : Scenario) (history : List Entry) (report : Report) → IsLimited sc → length history < 2 ^ 32
    → AllByRecursion IsByteEntry history → Legal history sc → Tells sc history report → IsWellFormed report
legal_report sc history report limited few bytes legal tells =
    formed sc history report limited (legal_reportable sc history limited legal few bytes) tells

-- so has one that tells of the history of a run
pub run_report : (sc : Scenario) (moves : List Move) (n : Machine) (report : Report) → IsWritable sc → run_from_start sc moves ≡ Some n
    → Tells sc (reverse n.past) report → IsWellFormed report
run_report sc moves n report writable run tells =
    formed sc (reverse n.past) report writable.limited (run_reportable sc moves n writable run) tells
