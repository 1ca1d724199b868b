-- The lowest task with a frame.
use Rattle.std.proofs.Common.{◌≡◌, ℕ, zero, suc, ◌+◌, ◌<◌, ◌≤◌, ◌==◌, Bool, true, false, List, [], ◌∷◌, ◌++◌, refl, arith, sym, ◌∙◌, length, subst, Option, Some, None}
use Rattle.std.specs.Prelude.{is_some, if◌then◌else◌}
use Rattle.std.proofs.lemmas.Grind.{common_steps}
use Rattle.vch_model.specs.Lines.{is_task}
use Rattle.vch_machine.specs.State.{Machine, tasked}
use Rattle.vch_machine.specs.Events.{numbers}
use Rattle.vch_machine.specs.Schedules.{lowest_open}
use Rattle.vch_legal.proofs.CallerLemmas.{task_of}
use Rattle.vch_parts.specs.declared.parts.Parts.{Parts}
use Rattle.vch_parts.specs.declared.frames.Working.{Working}
use Rattle.vch_parts.specs.Framed.{frame_of}
use Rattle.vch_parts.specs.Reached.{Reached, Stands}
use Rattle.vch_runs.specs.Turning.{IsLowest, IsStart, NoneBelow, NoneBefore, IsTaskOrNone, start_after, CanGo, Goes}
use Rattle.vch_runs.proofs.Framed.{Reach, reach, frame_same}
use Rattle.vch_runs.proofs.Quiet.{number_within}
use Rattle.vch_runs.proofs.Apart.{Apart, event_apart}

pub none_at_start : (frames : List Working) → NoneBelow frames 1
none_at_start frames = record { none = λ u a b. absurd (omega (arith, a, b)) }

pub none_more : (frames : List Working) (t : ℕ) → NoneBelow frames t → is_some (frame_of frames t) ≡ false → NoneBelow frames (t + 1)
none_more frames t n e = record { none = λ u a b. by u a b (u == t) refl }
  where
    by : (u : ℕ) → 0 < u → u < t + 1 → (c : Bool) → (u == t) ≡ c → is_some (frame_of frames u) ≡ false
    by u a b true q = let k : t ≡ u = grind (arith, common_steps) in subst (λ v. is_some (frame_of frames v) ≡ false) k e
    by u a b false q = let k : u < t = grind (arith, common_steps) in n.none u a k

-- an open task behind some that are not is the lowest
open_append : (m : Machine) (ts : List ℕ) (t : ℕ) → lowest_open m ts ≡ None → is_some (tasked m t).frame ≡ true → lowest_open m (ts ++ t ∷ []) ≡ Some t
open_append m [] t n e = rw e refl
open_append m (u ∷ ts) t n e = by (λ z. open_append m ts t z e) (is_some (tasked m u).frame) refl n
  where
    by : (lowest_open m ts ≡ None → lowest_open m (ts ++ t ∷ []) ≡ Some t) → (b : Bool) → is_some (tasked m u).frame ≡ b → (if b then Some u else lowest_open m ts) ≡ None → (if b then Some u else lowest_open m (ts ++ t ∷ [])) ≡ Some t
    by f true q z = absurd (cc)
    by f false q z = f z

-- one that was found stays the lowest
found_append : (m : Machine) (ts : List ℕ) (t u : ℕ) → lowest_open m ts ≡ Some t → lowest_open m (ts ++ u ∷ []) ≡ Some t
found_append m [] t u e = absurd (cc)
found_append m (v ∷ ts) t u e = by (λ q. found_append m ts t u q) (is_some (tasked m v).frame) e
  where
    by : (lowest_open m ts ≡ Some t → lowest_open m (ts ++ u ∷ []) ≡ Some t) → (b : Bool) → (if b then Some v else lowest_open m ts) ≡ Some t → (if b then Some v else lowest_open m (ts ++ u ∷ [])) ≡ Some t
    by f true q = q
    by f false q = f q

rest_append : (m : Machine) (ts : List ℕ) (u : ℕ) → lowest_open m ts ≡ None → is_some (tasked m u).frame ≡ false → lowest_open m (ts ++ u ∷ []) ≡ None
rest_append m [] u n e = rw e refl
rest_append m (v ∷ ts) u n e = by (λ z. rest_append m ts u z e) (is_some (tasked m v).frame) n
  where
    by : (lowest_open m ts ≡ None → lowest_open m (ts ++ u ∷ []) ≡ None) → (b : Bool) → (if b then Some v else lowest_open m ts) ≡ None → (if b then Some v else lowest_open m (ts ++ u ∷ [])) ≡ None
    by f true z = absurd (cc)
    by f false z = f z

none_open : (m : Machine) (n : ℕ) → ((u : ℕ) → 0 < u → u ≤ n → is_some (tasked m u).frame ≡ false) → lowest_open m (numbers n) ≡ None
none_open m zero h = refl
none_open m (suc n) h = rest_append m (numbers n) (suc n) (none_open m n (λ u a b. h u a (omega (arith, b)))) (h (suc n) (omega arith) (omega arith))

first_open : (m : Machine) (n t : ℕ) → 0 < t → t ≤ n → ((u : ℕ) → 0 < u → u < t → is_some (tasked m u).frame ≡ false) → is_some (tasked m t).frame ≡ true → lowest_open m (numbers n) ≡ Some t
first_open m zero t a b h e = absurd (omega (arith, a, b))
first_open m (suc n) t a b h e = by (λ k. first_open m n t a k h e) (t == suc n) refl
  where
    by : (t ≤ n → lowest_open m (numbers n) ≡ Some t) → (c : Bool) → (t == suc n) ≡ c → lowest_open m (numbers (suc n)) ≡ Some t
    by f true q =
        let k : t ≡ suc n = grind (arith, common_steps) in
        subst (λ v. lowest_open m (numbers (suc n)) ≡ Some v) (sym k)
        (open_append m (numbers n) (suc n) (none_open m n (λ u x y. h u x (omega (arith, y, k)))) (subst (λ v. is_some (tasked m v).frame ≡ true) k e))
    by f false q = let k : t ≤ n = grind (arith, common_steps) in found_append m (numbers n) t (suc n) (f k)

machine_none : (p : Parts) (m : Machine) (u : ℕ) → Stands p m → 0 < u → u ≤ length p.scenario.flags → is_some (frame_of p.frames u) ≡ false → is_some (tasked m u).frame ≡ false
machine_none p m u s a b e = frame_same p m u s (task_of p.scenario u a b) ∙ e

pub few_tasks : (p : Parts) → Reached p → length p.scenario.flags ≤ 64
few_tasks p r = (reach p r).limited.tasks

pub lowest_found : (p : Parts) (t : ℕ) → 0 < t → t ≤ length p.scenario.flags → NoneBelow p.frames t → is_some (frame_of p.frames t) ≡ true → IsLowest p (Some t)
unfolding IsLowest
lowest_found p t a b n e m s =
    first_open m (length p.scenario.flags) t a b (λ u x y. machine_none p m u s x (omega (arith, b, y)) (n.none u x y)) (frame_same p m t s (task_of p.scenario t a b) ∙ e)

pub lowest_none : (p : Parts) (k : ℕ) → length p.scenario.flags < k → NoneBelow p.frames k → IsLowest p None
unfolding IsLowest
lowest_none p k l n m s = none_open m (length p.scenario.flags) (λ u x y. machine_none p m u s x y (n.none u x (omega (arith, y, l))))

-- Where the look for it starts.

pub start_first : (p : Parts) → IsStart p 1
start_first p = record { positive = omega arith; below = none_at_start p.frames }

below_less : (frames : List Working) (t k : ℕ) → t ≤ k → NoneBelow frames k → NoneBelow frames t
below_less frames t k l n = record { none = λ u a b. n.none u a (omega (arith, l, b)) }

pub none_before : (p : Parts) (k : ℕ) → length p.scenario.flags < k → NoneBelow p.frames k → NoneBefore p None
none_before p k l n = below_less p.frames (length p.scenario.flags + 1) k (omega (arith, l)) n

pub waiting_before : (p : Parts) (choice : Option ℕ) → NoneBefore p None → IsTaskOrNone p choice → NoneBefore p choice
waiting_before p None n o = n
waiting_before p (Some t) n o = let b = (number_within p.scenario t o).1 in below_less p.frames t (length p.scenario.flags + 1) (omega (arith, b)) n

none_after : (p q : Parts) (t : ℕ) → Reached p → t ≤ length p.scenario.flags → NoneBelow p.frames t → Goes (Some t) p q → NoneBelow q.frames t
none_after p q t r few n f = record {
  none = λ u a b.
      let x : Reach p = reach p r in
      let y = f.move x.m x.state in
      let g : Apart t x.m y.0 = event_apart p.scenario f.want t x.m y.0 y.1 in
      let task : is_task p.scenario u ≡ true = task_of p.scenario u a (omega (arith, b, few)) in
      sym (frame_same q y.0 u y.2 (subst (λ sc. is_task sc u ≡ true) (sym f.scenario) task)) ∙ g.frames u (λ e. omega (arith, b, e)) ∙ frame_same p x.m u x.state task ∙ n.none u a b;
}

pub start_kept : (p q : Parts) (choice : Option ℕ) → Reached p → CanGo p choice → NoneBefore p choice → Goes choice p q → IsStart q (start_after choice)
start_kept p q None r c n f = start_first q
start_kept p q (Some t) r c n f =
    let w = number_within p.scenario t c.0 in
    record { positive = w.0; below = none_after p q t r w.1 n f }
