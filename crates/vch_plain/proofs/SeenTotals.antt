-- The totals of a history, task by task.
use Rattle.std.proofs.Common.{◌≡◌, ℕ, zero, suc, ◌+◌, ◌≤◌, ◌<◌, List, [], ◌∷◌, ◌++◌, take, length, refl, ap, ◌∙◌, arith}
use Rattle.vch_base.specs.declared.flags.Flags.{Flags}
use Rattle.vch_model.specs.declared.entry.Entry.{Entry}
use Rattle.vch_model.specs.declared.lists.Scenario.{Scenario}
use Rattle.vch_model.specs.Text.{totals_from, totals_of}
use Rattle.vch_plain.specs.Played.{total_at}

from_next : (sc : Scenario) (past : List Entry) (t i : ℕ) (flags : List Flags) → i < length flags
    → take (suc i) (totals_from sc past t flags) ≡ take i (totals_from sc past t flags) ++ total_at sc past (t + i) ∷ []
from_next sc past t i [] l = absurd (omega (arith, l))
from_next sc past t zero (f ∷ flags) l = ap (λ u. total_at sc past u ∷ []) (none t)
  where
    none : (n : ℕ) → n ≡ n + 0
    none n = omega arith
from_next sc past t (suc i) (f ∷ flags) l =
    ap (λ xs. total_at sc past t ∷ xs) (from_next sc past (t + 1) i flags (omega (arith, l))
    ∙ ap (λ u. take i (totals_from sc past (t + 1) flags) ++ total_at sc past u ∷ []) (along t i))
  where
    along : (a b : ℕ) → a + 1 + b ≡ a + suc b
    along a b = omega arith

-- one total more
pub totals_next : (sc : Scenario) (past : List Entry) (i : ℕ) → i < length sc.flags
    → take (i + 1) (totals_of sc past) ≡ take i (totals_of sc past) ++ total_at sc past (i + 1) ∷ []
totals_next sc past i l =
    ap (λ n. take n (totals_of sc past)) (one i)
    ∙ (from_next sc past 1 i sc.flags l ∙ ap (λ u. take i (totals_of sc past) ++ total_at sc past u ∷ []) (other i))
  where
    one : (n : ℕ) → n + 1 ≡ suc n
    one n = omega arith

    other : (n : ℕ) → 1 + n ≡ n + 1
    other n = omega arith

from_all : (sc : Scenario) (past : List Entry) (t n : ℕ) (flags : List Flags) → length flags ≤ n → take n (totals_from sc past t flags) ≡ totals_from sc past t flags
from_all sc past t zero [] l = refl
from_all sc past t (suc n) [] l = refl
from_all sc past t zero (f ∷ flags) l = absurd (omega (arith, l))
from_all sc past t (suc n) (f ∷ flags) l = ap (λ xs. total_at sc past t ∷ xs) (from_all sc past (t + 1) n flags (omega (arith, l)))

-- all of them
pub totals_all : (sc : Scenario) (past : List Entry) (n : ℕ) → length sc.flags ≤ n → take n (totals_of sc past) ≡ totals_of sc past
totals_all sc past n l = from_all sc past 1 n sc.flags l
