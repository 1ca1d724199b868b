-- The summary of a run in turn of a generated scenario. It is this project's own.
use Rattle.std.specs.Prelude.{◌≡◌, ℕ, ◌+◌, Bool, true, false, List, [], ◌∷◌, ◌++◌, reverse, codes}
use Rattle.std.specs.List.{count_by, sum_by}
use Rattle.vch_model.specs.declared.entry.Entry.{Entry}
use Rattle.vch_model.specs.declared.entry.Entry.TheVariants as entries
use Rattle.vch_model.specs.declared.lists.Scenario.{Scenario}
use Rattle.vch_model.specs.declared.total.Total.{Total}
use Rattle.vch_model.specs.After.{store_of}
use Rattle.vch_model.specs.Legal.{Whole, has_code}
use Rattle.vch_model.specs.Text.{spaced, newline, totals_of, vouchers_in, values_in}
use Rattle.vch_machine.specs.EndedRuns.{IsInTurn}
use Rattle.vch_generate.specs.Generated.{generated}
use Rattle.vch_replay.specs.declared.load.Counted.{Counted}
use Rattle.vch_replay.specs.declared.load.Counted.TheVariants as counts

abbrev pub is_call : Entry → Bool
is_call (entries.Call t n word reply) = true
is_call entry = false

-- a call whose reply has another code than 0
abbrev pub is_refusal : Entry → Bool
is_refusal (entries.Call t n word reply) = has_code reply
is_refusal entry = false

abbrev pub is_made : Entry → Bool
is_made (entries.Made key value) = true
is_made entry = false

abbrev pub is_release : Entry → Bool
is_release (entries.Released made) = true
is_release entry = false

-- the entries that are counted in a line
abbrev pub is_counted : Counted → Entry → Bool
is_counted counts.Calls = is_call
is_counted counts.Refused = is_refusal
is_counted counts.Made = is_made
is_counted counts.Released = is_release

-- a line of a word and a number
abbrev pub number_line : List ℕ → ℕ → List ℕ
number_line word n = word ++ spaced n ++ newline

-- the lines of the ledgers of the tasks from this number on
abbrev pub ledger_lines : ℕ → List Total → List ℕ
ledger_lines t [] = []
ledger_lines t (total ∷ totals) = number_line (codes "task" ++ spaced t ++ codes " ledger") total.ledger ++ ledger_lines (t + 1) totals

-- the sum of all ledgers
abbrev pub credited : List Total → ℕ
credited totals = sum_by (λ (t : Total). t.ledger) totals

-- the lines of what a history has
abbrev pub count_lines : List Entry → List ℕ
count_lines history =
    number_line (codes "calls") (count_by is_call history)
    ++ number_line (codes "refused") (count_by is_refusal history)
    ++ number_line (codes "made") (count_by is_made history)
    ++ number_line (codes "released") (count_by is_release history)

-- what a history with these totals comes to
abbrev pub summary_text : ℕ → List Entry → List Total → ℕ → ℕ → List ℕ
summary_text n history totals vouchers values =
    number_line (codes "load") n
    ++ count_lines history
    ++ number_line (codes "credited") (credited totals)
    ++ ledger_lines 1 totals
    ++ number_line (codes "vouchers") vouchers
    ++ number_line (codes "values") values
    ++ codes "end" ++ newline

-- the summary of a history of the scenario, the oldest entry first
abbrev pub summary : ℕ → Scenario → List Entry → List ℕ
summary n sc history =
    let past = reverse history in
    summary_text n history (totals_of sc past) (vouchers_in (store_of sc past)) (values_in (store_of sc past))

-- the text is the summary of a history of the run in turn of the scenario that is drawn from the number
pub record IsSummary (n : ℕ) (text : List ℕ) : Type 0 where
  pub history : List Entry
  pub whole : Whole history (generated n)
  pub in_turn : IsInTurn (generated n) history
  pub text_is : text ≡ summary n (generated n) history
