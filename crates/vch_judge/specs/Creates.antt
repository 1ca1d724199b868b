-- What the records of a create make, from a place on.
use Rattle.std.specs.Prelude.{◌≡◌, ℕ, suc, ◌<◌, ◌≤◌, Bool, true, false, ◌||◌, List, length, drop, Option, Some, Result, Ok, Err, ℤ}
use Rattle.vch_base.specs.declared.fault.Code.{Code}
use Rattle.vch_model.specs.Eval.{eval_all, create}
use Rattle.vch_model.specs.Legal.{reaches}
use Rattle.vch_model.specs.Store.{member, voucher_of}
use Rattle.vch_model.specs.Voucher.{Voucher, nothing}
use Rattle.vch_books.specs.Audits.{Audit, store_at}
use Rattle.vch_judge.specs.Formed.{IsFormed, IsResult, IsVoucher}
use Rattle.vch_books.specs.declared.numbers.Numbers.{Numbers}
use Rattle.vch_judge.specs.declared.create.Evaluation.{Evaluation}
use Rattle.vch_judge.specs.declared.create.Going.{Going}
use Rattle.vch_judge.specs.declared.create.Going.TheVariants as goings
use Rattle.vch_judge.specs.declared.formed.Formed.{Formed}

-- the vouchers of a task's names
abbrev pub names_at : Audit → ℕ → ℕ → Option Voucher
names_at a t = voucher_of (member (store_at a) t).names

-- what the records of some bytes make of a map
abbrev pub made_of : Audit → ℕ → Voucher → List ℕ → Result Voucher ℤ
made_of a t map bytes = eval_all a.scenario.version (suc (length bytes)) (names_at a t) t map bytes

-- whether they reach the end, or a record that asks a manager
abbrev pub reached_of : Audit → ℕ → Voucher → List ℕ → Bool
reached_of a t map bytes = reaches a.scenario.version (suc (length bytes)) (names_at a t) t map bytes

abbrev pub is_formed : Result Formed Code → Bool
is_formed (Ok f) = true
is_formed (Err c) = false

-- a create goes on behind its next record
pub record GoesOn (a : Audit) (t : ℕ) (bytes : List ℕ) (at : ℕ) (map : Voucher) (f : Formed) (asked : Bool) (next : ℕ) : Type 0 where
  pub then_map : Voucher
  pub formed : IsFormed a f then_map
  pub further : at < next
  pub inside : next ≤ length bytes
  pub made : made_of a t map (drop at bytes) ≡ made_of a t then_map (drop next bytes)
  pub reached : reached_of a t map (drop at bytes) ≡ (asked || reached_of a t then_map (drop next bytes))

-- it is over there
pub record IsOver (a : Audit) (t : ℕ) (bytes : List ℕ) (map : Voucher) (e : Evaluation) : Type 0 where
  pub made : IsResult a e.outcome (made_of a t map bytes)
  pub reached : reached_of a t map bytes ≡ (e.asked || is_formed e.outcome)

abbrev pub IsGoing : Audit → ℕ → List ℕ → ℕ → Voucher → Going → Type 0
IsGoing a t bytes at map (goings.On f asked next) = GoesOn a t bytes at map f asked next
IsGoing a t bytes at map (goings.Over e) = IsOver a t (drop at bytes) map e

-- what all records of some bytes make, of which there are some
pub record IsEvaluated (a : Audit) (t : ℕ) (bytes : List ℕ) (e : Evaluation) : Type 0 where
  pub made : IsResult a e.outcome (eval_all a.scenario.version (length bytes) (names_at a t) t nothing bytes)
  pub reached : reaches a.scenario.version (length bytes) (names_at a t) t nothing bytes ≡ (e.asked || is_formed e.outcome)

-- what a create makes of some bytes: a code, or a voucher, with its numbers where each of its values is live
abbrev pub IsCreated : Audit → ℕ → List ℕ → Result (Option Numbers) Code → Type 0
IsCreated a t bytes (Err c) = create a.scenario.version (names_at a t) t bytes ≡ Err c.number
IsCreated a t bytes (Ok numbers) =
    (map : Voucher) × (create a.scenario.version (names_at a t) t bytes ≡ Ok (Some map)) × IsVoucher a map numbers
