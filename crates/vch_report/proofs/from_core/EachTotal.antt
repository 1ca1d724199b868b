-- The totals of a core's tasks, one by one.
use Rattle.std.proofs.Common.{◌≡◌, ℕ, zero, suc, ◌+◌, ◌-◌, ◌<◌, ◌≤◌, List, [], ◌∷◌, ◌++◌, refl, arith, sym, ap, ◌∙◌, length, drop}
use Rattle.vch_base.specs.declared.flags.Flags.{Flags}
use Rattle.vch_model.specs.declared.total.Total.{Total}
use Rattle.vch_model.specs.declared.entry.Entry.{Entry}
use Rattle.vch_model.specs.declared.lists.Scenario.{Scenario}
use Rattle.vch_model.specs.Text.{totals_from, totals_of}
use Rattle.vch_model.specs.Totals.{ledger, held, out}
use Rattle.vch_machine.specs.State.{Machine}
use Rattle.vch_parts.specs.declared.parts.Parts.{Parts}
use Rattle.vch_parts.specs.Reached.{Stands}

-- the totals of the tasks below a number are made, and with those of the others they are all
pub record Totalled (p : Parts) (t : ℕ) (made : List Total) : Type 0 where
  pub all : (m : Machine) → Stands p m → made ++ totals_from p.scenario m.past t (drop (t - 1) p.scenario.flags) ≡ totals_of p.scenario m.past

pub totalled_first : (p : Parts) → Totalled p 1 []
totalled_first p = record { all = λ m s. refl }

-- a list from a place on
record From (flags : List Flags) (i : ℕ) : Type 0 where
  first : Flags
  split : drop i flags ≡ first ∷ drop (i + 1) flags

from_at : (flags : List Flags) (i : ℕ) → i < length flags → From flags i
from_at [] i l = absurd (omega (arith, l))
from_at (f ∷ flags) zero l = record { first = f; split = refl }
from_at (f ∷ flags) (suc i) l =
    let r = from_at flags i (omega (arith, l)) in
    record { first = r.first; split = r.split ∙ ap (λ n. r.first ∷ drop n (f ∷ flags)) (next i) }
  where
    next : (i : ℕ) → suc (i + 1) ≡ suc i + 1
    next i = omega arith

one_more : (xs ys : List Total) (x : Total) → xs ++ x ∷ ys ≡ (xs ++ x ∷ []) ++ ys
one_more [] ys x = refl
one_more (y ∷ xs) ys x = ap (λ zs. y ∷ zs) (one_more xs ys x)

append_none : (xs : List Total) → xs ++ [] ≡ xs
append_none [] = refl
append_none (x ∷ xs) = ap (λ ys. x ∷ ys) (append_none xs)

abbrev total_at : Scenario → List Entry → ℕ → Total
total_at sc past t = record { ledger = ledger sc past t; held = held sc past t; out = out sc past t }

pub totalled_more : (p : Parts) (t : ℕ) (made : List Total) (x : Total) → 0 < t → t ≤ length p.scenario.flags → ((m : Machine) → Stands p m → x ≡ total_at p.scenario m.past t) → Totalled p t made
    → Totalled p (t + 1) (made ++ x ∷ [])
totalled_more p t made x a b told h =
    let f : From p.scenario.flags (t - 1) = from_at p.scenario.flags (t - 1) (omega (arith, a, b)) in
    let n : (t - 1) + 1 ≡ (t + 1) - 1 = omega (arith, a) in
    record {
      all = λ m s.
          sym (one_more made (totals_from p.scenario m.past (t + 1) (drop ((t + 1) - 1) p.scenario.flags)) x)
          ∙ (ap (λ y. made ++ y ∷ totals_from p.scenario m.past (t + 1) (drop ((t + 1) - 1) p.scenario.flags)) (told m s)
          ∙ (ap (λ k. made ++ totals_from p.scenario m.past t (f.first ∷ drop k p.scenario.flags)) (sym n)
          ∙ (ap (λ fs. made ++ totals_from p.scenario m.past t fs) (sym f.split) ∙ h.all m s)));
    }

drop_end : (flags : List Flags) (i : ℕ) → length flags ≤ i → drop i flags ≡ []
drop_end [] zero l = refl
drop_end [] (suc i) l = refl
drop_end (f ∷ flags) zero l = absurd (omega (arith, l))
drop_end (f ∷ flags) (suc i) l = drop_end flags i (omega (arith, l))

pub totalled_last : (p : Parts) (t : ℕ) (made : List Total) → length p.scenario.flags < t → Totalled p t made → (m : Machine) → Stands p m → made ≡ totals_of p.scenario m.past
totalled_last p t made l h m s =
    sym (append_none made) ∙ (ap (λ fs. made ++ totals_from p.scenario m.past t fs) (sym (drop_end p.scenario.flags (t - 1) (omega (arith, l)))) ∙ h.all m s)
