-- Lines that are counted, task by task.
use Rattle.std.proofs.Common.{◌≡◌, ◌≢◌, ℕ, zero, suc, ◌+◌, ◌-◌, ◌<◌, ◌≤◌, ◌==◌, Bool, true, false, List, [], ◌∷◌, refl, arith, sym, ap, ◌∙◌, length, drop, get_or, subst, Some}
use Rattle.std.specs.Prelude.{slice_get}
use Rattle.std.proofs.Math.ListN.{set}
use Rattle.std.proofs.lemmas.List.{get_or-set_same, get_or-set_other, length-set}
use Rattle.std.proofs.lemmas.Grind.{common_steps}
use Rattle.vch_model.specs.declared.call.Line.{Line}
use Rattle.vch_legal.specs.Facts.{bit}
use Rattle.vch_runs.specs.Turning.{AreOfTasks, lines_of_task}

-- the lines from a place on are still to be counted
pub record Counted (old now : List ℕ) (lines : List Line) (i : ℕ) : Type 0 where
  pub long : length now ≡ length old
  pub counts : (t : ℕ) → 0 < t → t ≤ 64 → get_or now (t - 1) 0 + lines_of_task t (drop i lines) ≡ get_or old (t - 1) 0 + lines_of_task t lines

-- a line of so many tasks
pub line_in : (lines : List Line) (i : ℕ) (x : Line) → AreOfTasks lines → slice_get lines i ≡ Some x → (0 < x.task) × (x.task ≤ 64)
line_in [] i x h e = cc
line_in (l ∷ lines) zero x h e = let q : l ≡ x = cc in subst (λ (y : Line). (0 < y.task) × (y.task ≤ 64)) q h.0
line_in (l ∷ lines) (suc i) x h e = line_in lines i x h.1 e

drop_at : (lines : List Line) (i : ℕ) (x : Line) → slice_get lines i ≡ Some x → drop i lines ≡ x ∷ drop (i + 1) lines
drop_at [] i x e = cc
drop_at (l ∷ lines) zero x e = let q : l ≡ x = cc in ap (λ y. y ∷ lines) q
drop_at (l ∷ lines) (suc i) x e = drop_at lines i x e ∙ ap (λ n. x ∷ drop n (l ∷ lines)) (next i)
  where
    next : (i : ℕ) → suc (i + 1) ≡ suc i + 1
    next i = omega arith

pub one_more : (t : ℕ) (x : Line) (lines : List Line) → lines_of_task t (x ∷ lines) ≡ bit (x.task == t) + lines_of_task t lines
one_more t x lines = refl

pub few_of_task : (t : ℕ) (lines : List Line) → lines_of_task t lines ≤ length lines
few_of_task t [] = omega arith
few_of_task t (x ∷ lines) =
    let a : lines_of_task t (x ∷ lines) ≡ bit (x.task == t) + lines_of_task t lines = one_more t x lines in
    let b : lines_of_task t lines ≤ length lines = few_of_task t lines in
    let d : bit (x.task == t) ≤ 1 = at_most (x.task == t) in
    omega (arith, a, b, d)
  where
    at_most : (b : Bool) → bit b ≤ 1
    at_most true = omega arith
    at_most false = omega arith

-- a line is counted
pub set_count : (now : List ℕ) (t u : ℕ) → 0 < t → 0 < u → u - 1 < length now → get_or (set now (u - 1) (get_or now (u - 1) 0 + 1)) (t - 1) 0 ≡ get_or now (t - 1) 0 + bit (u == t)
set_count now t u p q l = by (u == t) refl
  where
    by : (b : Bool) → (u == t) ≡ b → get_or (set now (u - 1) (get_or now (u - 1) 0 + 1)) (t - 1) 0 ≡ get_or now (t - 1) 0 + bit b
    by true e = let k : u ≡ t = grind (arith, common_steps) in subst (λ v. get_or (set now (u - 1) (get_or now (u - 1) 0 + 1)) (v - 1) 0 ≡ get_or now (v - 1) 0 + 1) k (get_or-set_same now (u - 1) (get_or now (u - 1) 0 + 1) 0 l)
    by false e = let k : t - 1 ≢ u - 1 = grind (arith, common_steps) in get_or-set_other now (u - 1) (t - 1) (get_or now (u - 1) 0 + 1) 0 k ∙ sym (zero_more (get_or now (t - 1) 0))
      where
        zero_more : (n : ℕ) → n + 0 ≡ n
        zero_more n = omega arith

pub count_line : (old now : List ℕ) (lines : List Line) (i : ℕ) (x : Line) → length old ≡ 64 → AreOfTasks lines → slice_get lines i ≡ Some x → Counted old now lines i → Counted old (set now (x.task - 1) (get_or now (x.task - 1) 0 + 1)) lines (i + 1)
count_line old now lines i x long of e c = record {
  long = length-set now (x.task - 1) (get_or now (x.task - 1) 0 + 1) ∙ c.long;
  counts = λ t p q.
      let n = line_in lines i x of e in
      let l = c.long in
      let a : get_or (set now (x.task - 1) (get_or now (x.task - 1) 0 + 1)) (t - 1) 0 ≡ get_or now (t - 1) 0 + bit (x.task == t) = set_count now t x.task p n.0 (let n1 = n.1 in let n0 = n.0 in omega (arith, n0, n1, l, long)) in
      let b : lines_of_task t (drop i lines) ≡ bit (x.task == t) + lines_of_task t (drop (i + 1) lines) = ap (lines_of_task t) (drop_at lines i x e) ∙ one_more t x (drop (i + 1) lines) in
      let d = c.counts t p q in
      omega (arith, a, b, d);
}

-- no count passes its type
pub count_fits : (old now : List ℕ) (lines : List Line) (i : ℕ) (x : Line) → AreOfTasks lines → slice_get lines i ≡ Some x → Counted old now lines i → (k : ℕ) → get_or old (x.task - 1) 0 + length lines < k → get_or now (x.task - 1) 0 + 1 < k
count_fits old now lines i x of e c k few =
    let n = line_in lines i x of e in
    let a = c.counts x.task n.0 n.1 in
    let b : lines_of_task x.task (drop i lines) ≡ bit (x.task == x.task) + lines_of_task x.task (drop (i + 1) lines) = ap (lines_of_task x.task) (drop_at lines i x e) ∙ one_more x.task x (drop (i + 1) lines) in
    let d : bit (x.task == x.task) ≡ 1 = ap bit (own x.task) in
    let f : lines_of_task x.task lines ≤ length lines = few_of_task x.task lines in
    omega (arith, a, b, d, f, few)
  where
    own : (n : ℕ) → (n == n) ≡ true
    own n = grind (arith, common_steps)
