-- Whether a history is legal.
use Rattle.std.specs.Prelude.{◌≡◌, ℕ, ◌+◌, ◌-◌, ◌≤◌, List, length, take}
use Rattle.vch_model.specs.Legal.{Legal}
use Rattle.vch_model.specs.declared.entry.Entry.{Entry}
use Rattle.vch_model.specs.declared.lists.Scenario.{Scenario}
use Rattle.vch_books.specs.Audits.{Audit, advanced}
use Rattle.vch_judge.specs.declared.judge.Judged.{Judged}
use Rattle.vch_judge.specs.declared.judge.Judged.TheVariants as judges
use Rattle.vch_judge.specs.declared.judge.Step.{Step}
use Rattle.vch_judge.specs.declared.judge.Step.TheVariants as steps

-- with this entry, counted from 1, the history is no longer legal
pub record IsFirstIllegal (sc : Scenario) (history : List Entry) (number : ℕ) : Type 0 where
  pub some : 1 ≤ number
  pub inside : number ≤ length history
  pub before : Legal (take (number - 1) history) sc
  pub here : Legal (take number history) sc → ⊥

-- a whole history of a scenario
abbrev pub whole_audit : Scenario → List Entry → Audit
whole_audit sc history = record { scenario = sc; history = history; taken = length history }

-- the history is legal, with the books of all of it; or this is the first entry with which it is not
abbrev pub IsHistory : Scenario → List Entry → Judged → Type 0
IsHistory sc history (judges.Legal books) = books ≡ whole_audit sc history
IsHistory sc history (judges.Not number) = IsFirstIllegal sc history number

-- so of the history of the books that have come so far; or they have one entry more
abbrev pub IsStep : Audit → Step → Type 0
IsStep a (steps.On books) = (books ≡ advanced a) × (a.taken + 1 ≤ length a.history)
IsStep a (steps.Over judged) = IsHistory a.scenario a.history judged
