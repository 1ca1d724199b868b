-- What a check of a report finds. The order of the flaws is this project's own.
use Rattle.std.specs.Prelude.{◌≡◌, ◌⊎◌, ℕ, ◌+◌, ◌-◌, ◌<◌, ◌≤◌, true, false, List, length, reverse, take, slice_get, Option}
use Rattle.vch_model.specs.declared.entry.Entry.{Entry}
use Rattle.vch_model.specs.declared.lists.Scenario.{Scenario}
use Rattle.vch_model.specs.After.{store_of}
use Rattle.vch_model.specs.Legal.{Legal, Whole, IsUnheld, EachTask, find_made, all_held}
use Rattle.vch_model.specs.Lines.{is_task, lines_of, calls_in, phases_in}
use Rattle.vch_model.specs.Store.{Store}
use Rattle.vch_model.specs.Text.{totals_of, vouchers_in, values_in}
use Rattle.vch_judge.specs.Judged.{IsFirstIllegal}
use Rattle.vch_report.specs.OfCore.{Tells}
use Rattle.vch_report.specs.declared.report.Report.{Report}
use Rattle.vch_certify.specs.declared.verdict.Verdict.{Verdict}
use Rattle.vch_certify.specs.declared.verdict.Verdict.TheVariants as verdicts
use Rattle.vch_certify.specs.declared.verdict.Flaw.{Flaw}
use Rattle.vch_certify.specs.declared.verdict.Flaw.TheVariants as flaws

abbrev pub Not : Type 0 → Type 0
Not P = P → ⊥

-- the entries of a report, the oldest first, and the same with the newest first
abbrev pub history_of : Report → List Entry
history_of report = report.history.entries

abbrev pub past_of : Report → List Entry
past_of report = reverse (history_of report)

-- What has to hold, in this order.

abbrev pub IsOfVersion : Scenario → Report → Type 0
IsOfVersion sc report = report.version ≡ sc.version

abbrev pub IsLegal : Scenario → Report → Type 0
IsLegal sc report = Legal (history_of report) sc

-- each line of each task has its Call
abbrev pub AllCalled : Scenario → List Entry → Type 0
AllCalled sc past = EachTask (length sc.flags) (λ t. calls_in past t ≡ length (lines_of sc t))

abbrev pub AllEnded : Scenario → List Entry → Type 0
AllEnded sc past = phases_in past ≡ length sc.phases

abbrev pub AllHeld : Scenario → List Entry → Type 0
AllHeld sc past = all_held (store_of sc past) ≡ true

abbrev pub SameTotals : Scenario → Report → Type 0
SameTotals sc report = report.totals ≡ totals_of sc (past_of report)

abbrev pub SameCounts : Scenario → Report → Type 0
SameCounts sc report =
    let s = store_of sc (past_of report) in (report.vouchers ≡ vouchers_in s) × (report.values ≡ values_in s)

-- What the first that does not hold is told by.

-- the task has calls for fewer than its lines, and this one is the next; each lower task has a call for each line
pub record IsFirstUncalled (sc : Scenario) (past : List Entry) (task number : ℕ) : Type 0 where
  pub there : is_task sc task ≡ true
  pub fewer : calls_in past task < length (lines_of sc task)
  pub first : number ≡ calls_in past task + 1
  pub lower : (t : ℕ) → is_task sc t ≡ true → t < task → calls_in past t ≡ length (lines_of sc t)

pub record IsFirstOpen (sc : Scenario) (past : List Entry) (phase : ℕ) : Type 0 where
  pub fewer : phases_in past < length sc.phases
  pub first : phase ≡ phases_in past + 1

-- the value of this Made entry is live and not held, and that of no lower one is
pub record IsFirstLeft (s : Store) (made : ℕ) : Type 0 where
  pub here : IsUnheld s (find_made s.live made)
  pub lower : (e : ℕ) → e < made → Not (IsUnheld s (find_made s.live e))

-- the two lists of totals differ at this task and at none before it; a total that is missing differs
pub record IsFirstOther {A : Type 0} (told wanted : List A) (task : ℕ) : Type 0 where
  pub some : 1 ≤ task
  pub here : Not (slice_get told (task - 1) ≡ slice_get wanted (task - 1))
  pub lower : (t : ℕ) → 1 ≤ t → t < task → slice_get told (t - 1) ≡ slice_get wanted (t - 1)

-- the first flaw of a report
abbrev pub IsFlaw : Scenario → Report → Flaw → Type 0
IsFlaw sc report flaws.Version = Not (IsOfVersion sc report)
IsFlaw sc report (flaws.Entry number) = IsOfVersion sc report × IsFirstIllegal sc (history_of report) number
IsFlaw sc report (flaws.Call task number) =
    IsOfVersion sc report × IsLegal sc report × IsFirstUncalled sc (past_of report) task number
IsFlaw sc report (flaws.Phase phase) =
    IsOfVersion sc report × IsLegal sc report × AllCalled sc (past_of report) × IsFirstOpen sc (past_of report) phase
IsFlaw sc report (flaws.Left made) =
    IsOfVersion sc report × IsLegal sc report × AllCalled sc (past_of report) × AllEnded sc (past_of report)
    × IsFirstLeft (store_of sc (past_of report)) made
IsFlaw sc report (flaws.Total task) =
    IsOfVersion sc report × Whole (history_of report) sc × IsFirstOther report.totals (totals_of sc (past_of report)) task
IsFlaw sc report flaws.Count =
    IsOfVersion sc report × Whole (history_of report) sc × SameTotals sc report × Not (SameCounts sc report)

-- the verdict on a report: the history is whole and the report is the one of it, or the first flaw
abbrev pub IsVerdict : Scenario → Report → Verdict → Type 0
IsVerdict sc report verdicts.Whole = Whole (history_of report) sc × Tells sc (history_of report) report
IsVerdict sc report (verdicts.Not flaw) = IsFlaw sc report flaw
