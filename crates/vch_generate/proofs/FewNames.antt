-- A group gives each of two tasks a name, so no task has more names than groups were made.
use Rattle.std.proofs.Common.{◌≡◌, ◌≢◌, ◌≤◌, ◌<◌, ◌+◌, ◌%◌, ◌==◌, ℕ, zero, suc, List, [], ◌∷◌, length, replicate, refl, sym, ap, subst, ◌∙◌, inl, inr, arith}
use Rattle.std.proofs.Math.Nat.{mod-lt}
use Rattle.std.proofs.lemmas.Bool.Decides.{eqb_tells}
use Rattle.vch_base.specs.Tasks.{at_task}
use Rattle.vch_base.proofs.CallerLemmas.{own_item, other_items, as_long}
use Rattle.vch_generate.specs.Generated.{maker, taker, one_more, names_after, tasks}
use Rattle.vch_generate.specs.Generating.{AreFew}

-- the two tasks of a group are two of the eight
pub maker_task : (draw : ℕ) → (1 ≤ maker draw) × (maker draw ≤ tasks)
maker_task draw = let a : draw % 8 < 8 = mod-lt draw (omega arith) in (omega (arith, a), omega (arith, a))

pub taker_task : (a : ℕ) → (1 ≤ taker a) × (taker a ≤ tasks)
taker_task a = let e : a % 8 < 8 = mod-lt a (omega arith) in (omega (arith, e), omega (arith, e))

pub taker_other : (a : ℕ) → 1 ≤ a → a ≤ tasks → taker a ≢ a
taker_other a e f g = omega (arith, e, f, g)

-- one task has a name more, and the others have those that they had
one_has : (names : List ℕ) (t : ℕ) → 1 ≤ t → t ≤ length names → at_task (one_more names t) t 0 ≡ at_task names t 0 + 1
one_has names t e f = own_item names t (at_task names t 0 + 1) 0 e f

pub others_have : (names : List ℕ) (t u : ℕ) → u ≢ t → at_task (one_more names t) u 0 ≡ at_task names u 0
others_have names t u e = other_items names t u (at_task names t 0 + 1) 0 e

long_as : (names : List ℕ) (t : ℕ) → length (one_more names t) ≡ length names
long_as names t = as_long names t (at_task names t 0 + 1)

-- at the start no task has a name
pub none_named : (t : ℕ) → at_task (replicate tasks 0) t 0 ≤ 0
none_named zero = omega arith
none_named (suc zero) = omega arith
none_named (suc (suc zero)) = omega arith
none_named (suc (suc (suc zero))) = omega arith
none_named (suc (suc (suc (suc zero)))) = omega arith
none_named (suc (suc (suc (suc (suc zero))))) = omega arith
none_named (suc (suc (suc (suc (suc (suc zero)))))) = omega arith
none_named (suc (suc (suc (suc (suc (suc (suc zero))))))) = omega arith
none_named (suc (suc (suc (suc (suc (suc (suc (suc zero)))))))) = omega arith
none_named (suc (suc (suc (suc (suc (suc (suc (suc (suc t))))))))) = omega arith

pub few_at_start : AreFew 0 (replicate tasks 0)
few_at_start = record { all = refl; few = none_named }

-- the first task of a group has a name less than the groups with this one, and then so has the second
pub few_after : (made : ℕ) (names : List ℕ) (a : ℕ) → 1 ≤ a → a ≤ tasks → AreFew made names → AreFew (made + 1) (names_after names a)
few_after made names a e f few = record {
  all = long_as (one_more names a) (taker a) ∙ (long_as names a ∙ few.all);
  few = each;
}
  where
    b_in : (1 ≤ taker a) × (taker a ≤ tasks)
    b_in = taker_task a

    long : length (one_more names a) ≡ tasks
    long = long_as names a ∙ few.all

    of_taker : at_task (names_after names a) (taker a) 0 ≤ made + 1
    of_taker =
        let one : at_task (names_after names a) (taker a) 0 ≡ at_task (one_more names a) (taker a) 0 + 1 =
        one_has (one_more names a) (taker a) b_in.0 (subst (λ n. taker a ≤ n) (sym long) b_in.1) in
        let two : at_task (one_more names a) (taker a) 0 ≡ at_task names (taker a) 0 = others_have names a (taker a) (taker_other a e f) in
        let three : at_task names (taker a) 0 ≤ made = few.few (taker a) in
        omega (arith, one, two, three)

    of_maker : at_task (names_after names a) a 0 ≤ made + 1
    of_maker =
        let one : at_task (names_after names a) a 0 ≡ at_task (one_more names a) a 0 =
        others_have (one_more names a) (taker a) a (λ g. taker_other a e f (sym g)) in
        let two : at_task (one_more names a) a 0 ≡ at_task names a 0 + 1 = one_has names a e (subst (λ n. a ≤ n) (sym few.all) f) in
        let three : at_task names a 0 ≤ made = few.few a in
        omega (arith, one, two, three)

    of_other : (t : ℕ) → t ≢ a → t ≢ taker a → at_task (names_after names a) t 0 ≤ made + 1
    of_other t g h =
        let one : at_task (names_after names a) t 0 ≡ at_task (one_more names a) t 0 = others_have (one_more names a) (taker a) t h in
        let two : at_task (one_more names a) t 0 ≡ at_task names t 0 = others_have names a t g in
        let three : at_task names t 0 ≤ made = few.few t in
        omega (arith, one, two, three)

    each : (t : ℕ) → at_task (names_after names a) t 0 ≤ made + 1
    each t = elim (eqb_tells t a) [
      | inl g ↦ subst (λ u. at_task (names_after names a) u 0 ≤ made + 1) (sym g.1) of_maker
      | inr g ↦ elim (eqb_tells t (taker a)) [
        | inl h ↦ subst (λ u. at_task (names_after names a) u 0 ≤ made + 1) (sym h.1) of_taker
        | inr h ↦ of_other t g.1 h.1
      ]
    ]

-- the groups that a run of draws gives, step by step
pub second_small : (made x : ℕ) (names more : List ℕ) → made < 1024 → AreFew made names → more ≡ one_more names (maker x)
    → at_task more (taker (maker x)) 0 < 4294967295
second_small made x names more e few f =
    let a : at_task (one_more names (maker x)) (taker (maker x)) 0 ≡ at_task names (taker (maker x)) 0 =
    others_have names (maker x) (taker (maker x)) (taker_other (maker x) (maker_task x).0 (maker_task x).1) in
    let b : at_task names (taker (maker x)) 0 ≤ made = few.few (taker (maker x)) in
    subst (λ l. at_task l (taker (maker x)) 0 < 4294967295) (sym f) (omega (arith, a, b, e))

pub few_then : (made x : ℕ) (names mid more : List ℕ) → AreFew made names → mid ≡ one_more names (maker x)
    → more ≡ one_more mid (taker (maker x)) → AreFew (made + 1) more
few_then made x names mid more few f g =
    subst (AreFew (made + 1)) (sym (g ∙ ap (λ l. one_more l (taker (maker x))) f))
    (few_after made names (maker x) (maker_task x).0 (maker_task x).1 few)
