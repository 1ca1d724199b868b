-- A task by its number: its item stands one place before it.
use Rattle.std.proofs.Common.{◌≡◌, refl, ℕ, zero, suc, ◌+◌, ◌-◌, ◌<◌, true, List, length, arith, get_or}
use Rattle.std.proofs.lemmas.Grind.{common_steps}
use Rattle.vch_base.specs.Tasks.{at_task}
use Rattle.vch_model.specs.Lines.{is_task}
use Rattle.vch_model.specs.declared.lists.Scenario.{Scenario}

no_number : 0 < 0 → ⊥
no_number e = omega arith

back : (t : ℕ) → suc t - 1 ≡ t
back t = omega arith

pub at_place : {A : Type 0} (items : List A) (t : ℕ) (d : A) → 0 < t → at_task items t d ≡ get_or items (t - 1) d
at_place items zero d p = absurd (no_number p)
at_place items (suc t) d p = rw (back t) refl

pub task_number : (sc : Scenario) (t : ℕ) → is_task sc t ≡ true → (0 < t) × (t - 1 < length sc.flags)
task_number sc t e = let a : 0 < t = grind (arith, common_steps) in let b : t < length sc.flags + 1 = grind (arith, common_steps) in (a, omega (arith, a, b))
