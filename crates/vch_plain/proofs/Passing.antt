-- A count that rises by one.
use Rattle.std.proofs.Common.{◌≡◌, ◌≢◌, ℕ, ◌+◌, ◌-◌, ◌<◌, ◌==◌, Bool, true, false, List, refl, arith, sym, ◌∙◌, length, get_or, subst}
use Rattle.std.proofs.Math.ListN.{set}
use Rattle.std.proofs.lemmas.List.{get_or-set_same, get_or-set_other}
use Rattle.std.proofs.lemmas.Grind.{common_steps}
use Rattle.vch_legal.specs.Facts.{bit}

-- a line is counted
pub set_count : (now : List ℕ) (t u : ℕ) → 0 < t → 0 < u → u - 1 < length now → get_or (set now (u - 1) (get_or now (u - 1) 0 + 1)) (t - 1) 0 ≡ get_or now (t - 1) 0 + bit (u == t)
set_count now t u p q l = by (u == t) refl
  where
    by : (b : Bool) → (u == t) ≡ b → get_or (set now (u - 1) (get_or now (u - 1) 0 + 1)) (t - 1) 0 ≡ get_or now (t - 1) 0 + bit b
    by true e = let k : u ≡ t = grind (arith, common_steps) in subst (λ v. get_or (set now (u - 1) (get_or now (u - 1) 0 + 1)) (v - 1) 0 ≡ get_or now (v - 1) 0 + 1) k (get_or-set_same now (u - 1) (get_or now (u - 1) 0 + 1) 0 l)
    by false e = let k : t - 1 ≢ u - 1 = grind (arith, common_steps) in get_or-set_other now (u - 1) (t - 1) (get_or now (u - 1) 0 + 1) 0 k ∙ sym (zero_more (get_or now (t - 1) 0))
      where
        zero_more : (n : ℕ) → n + 0 ≡ n
        zero_more n = omega arith
