-- What is not over at the end of a legal history. A history is given with its newest entry first.
use Rattle.std.specs.Prelude.{ℕ, List, Option, Some, None}
use Rattle.vch_model.specs.After.{store_of}
use Rattle.vch_model.specs.Legal.{Ended}
use Rattle.vch_model.specs.Totals.{ledger, held, out}
use Rattle.vch_model.specs.declared.entry.Entry.{Entry}
use Rattle.vch_model.specs.declared.lists.Scenario.{Scenario}
use Rattle.vch_model.specs.declared.total.Total.{Total}
use Rattle.vch_certify.specs.Verdicts.{AllCalled, AllEnded, IsFirstUncalled, IsFirstOpen, IsFirstLeft}
use Rattle.vch_certify.specs.declared.verdict.Flaw.{Flaw}
use Rattle.vch_certify.specs.declared.verdict.Flaw.TheVariants as flaws

-- the first flaw of what has to be over; none where all is
abbrev pub IsEnding : Scenario → List Entry → Option Flaw → Type 0
IsEnding sc past None = Ended sc past
IsEnding sc past (Some (flaws.Call task number)) = IsFirstUncalled sc past task number
IsEnding sc past (Some (flaws.Phase phase)) = AllCalled sc past × IsFirstOpen sc past phase
IsEnding sc past (Some (flaws.Left made)) = AllCalled sc past × AllEnded sc past × IsFirstLeft (store_of sc past) made
IsEnding sc past (Some flaws.Version) = ⊥
IsEnding sc past (Some (flaws.Entry number)) = ⊥
IsEnding sc past (Some (flaws.Total task)) = ⊥
IsEnding sc past (Some flaws.Count) = ⊥

-- the total of a task
abbrev pub total_of : Scenario → List Entry → ℕ → Total
total_of sc past t = record { ledger = ledger sc past t; held = held sc past t; out = out sc past t }
