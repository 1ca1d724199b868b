-- The tasks that have a next event, and the one that a seed chooses.
use Rattle.std.proofs.Common.{◌≡◌, ℕ, zero, suc, ◌+◌, ◌-◌, ◌<◌, ◌≤◌, ◌%◌, Bool, true, false, List, [], ◌∷◌, ◌++◌, refl, arith, sym, ap, ◌∙◌, length, get_or, subst, Option, Some, None, IsTrue}
use Rattle.std.specs.Prelude.{is_some, IsSome, ◌↔◌, ◌==◌, if◌then◌else◌}
use Rattle.std.proofs.Math.Nat.{mod-lt}
use Rattle.std.proofs.lemmas.Grind.{common_steps}
use Rattle.std.specs.List.{AllByRecursion}
use Rattle.vch_base.specs.declared.kind.Kind.{Kind}
use Rattle.vch_model.specs.declared.lists.Scenario.{Scenario}
use Rattle.vch_model.specs.Lines.{is_task}
use Rattle.vch_machine.specs.State.{Machine}
use Rattle.vch_machine.specs.Events.{numbers, ready}
use Rattle.vch_machine.specs.Next.{next_kind}
use Rattle.vch_machine.specs.Schedules.{picked, seed_after, next_seed, drawn}
use Rattle.vch_legal.proofs.CallerLemmas.{all_tasks}
use Rattle.vch_parts.specs.declared.parts.Parts.{Parts}
use Rattle.vch_parts.specs.Framed.{frame_of}
use Rattle.vch_parts.specs.Reached.{Reached, Stands, IsNext}
use Rattle.vch_runs.specs.Turning.{all_of, AreReady, IsReady, IsDraw, IsResting, CanGo}
use Rattle.vch_runs.specs.Called.{HasNext}
use Rattle.vch_runs.proofs.Framed.{reach, next_of, is_true, to_true}
use Rattle.vch_runs.proofs.Turned.{for_all, frame_can}

-- the tasks below a number that have a next event; all of these are tasks
pub record ReadyBelow (p : Parts) (t : ℕ) (tasks : List ℕ) : Type 0 where
  pub ready_is : (m : Machine) → Stands p m → ready p.scenario m (numbers (t - 1)) ≡ tasks
  pub few : length tasks + 1 ≤ t

ready_append : (sc : Scenario) (m : Machine) (ts : List ℕ) (t : ℕ) → ready sc m (ts ++ t ∷ []) ≡ ready sc m ts ++ (if is_some (next_kind sc m t) then t ∷ [] else [])
ready_append sc m [] t = refl
ready_append sc m (u ∷ ts) t = by (is_some (next_kind sc m u)) (ready_append sc m ts t)
  where
    by : (b : Bool) → ready sc m (ts ++ t ∷ []) ≡ ready sc m ts ++ (if is_some (next_kind sc m t) then t ∷ [] else [])
        → (if b then u ∷ ready sc m (ts ++ t ∷ []) else ready sc m (ts ++ t ∷ [])) ≡ (if b then u ∷ ready sc m ts else ready sc m ts) ++ (if is_some (next_kind sc m t) then t ∷ [] else [])
    by true r = ap (λ xs. u ∷ xs) r
    by false r = r

number_next : (t : ℕ) → 0 < t → numbers ((t + 1) - 1) ≡ numbers (t - 1) ++ t ∷ []
number_next zero l = absurd (omega (arith, l))
number_next (suc n) l = let a : (suc n + 1) - 1 ≡ suc n = omega arith in let b : suc n - 1 ≡ n = omega arith in rw (a, b) refl

append_none : (xs : List ℕ) → xs ++ [] ≡ xs
append_none [] = refl
append_none (x ∷ xs) = ap (λ ys. x ∷ ys) (append_none xs)

length_one : (xs : List ℕ) (x : ℕ) → length (xs ++ x ∷ []) ≡ length xs + 1
length_one [] x = refl
length_one (y ∷ xs) x = let e : length (xs ++ x ∷ []) ≡ length xs + 1 = length_one xs x in omega (arith, e)

pub ready_none_yet : (p : Parts) → ReadyBelow p 1 []
ready_none_yet p = record { ready_is = λ m s. refl; few = omega arith }

-- a task with a frame has a next event, and one without it where there is a kind
pub frame_ready : (p : Parts) (t : ℕ) (b : Bool) → Reached p → IsTrue (is_task p.scenario t) → IsTrue b ↔ IsSome (frame_of p.frames t) → b ≡ true → IsReady p t true
unfolding IsReady HasNext
frame_ready p t b r task i e m s = (frame_can p t r (is_true _ task, i.0 (to_true b e))).1 m s

pub kind_ready : (p : Parts) (t : ℕ) (o : Option Kind) (b : Bool) → IsNext p t o → b ≡ is_some o → IsReady p t b
unfolding IsReady
kind_ready p t o b e i m s = ap is_some (next_of p t o m e s) ∙ sym i

pub ready_some : (p : Parts) (t : ℕ) (tasks : List ℕ) (b : Bool) → 0 < t → IsReady p t b → b ≡ true → ReadyBelow p t tasks → ReadyBelow p (t + 1) (tasks ++ t ∷ [])
unfolding IsReady
ready_some p t tasks b l e i r = record {
  ready_is = λ m s.
      ap (ready p.scenario m) (number_next t l) ∙ ready_append p.scenario m (numbers (t - 1)) t
      ∙ ap (λ c. ready p.scenario m (numbers (t - 1)) ++ (if c then t ∷ [] else [])) (e m s ∙ i)
      ∙ ap (λ xs. xs ++ t ∷ []) (r.ready_is m s);
  few = let a = r.few in let d : length (tasks ++ t ∷ []) ≡ length tasks + 1 = length_one tasks t in omega (arith, a, d);
}

pub ready_not : (p : Parts) (t : ℕ) (tasks : List ℕ) (b : Bool) → 0 < t → IsReady p t b → b ≡ false → ReadyBelow p t tasks → ReadyBelow p (t + 1) tasks
unfolding IsReady
ready_not p t tasks b l e i r = record {
  ready_is = λ m s.
      ap (ready p.scenario m) (number_next t l) ∙ ready_append p.scenario m (numbers (t - 1)) t
      ∙ ap (λ c. ready p.scenario m (numbers (t - 1)) ++ (if c then t ∷ [] else [])) (e m s ∙ i)
      ∙ append_none (ready p.scenario m (numbers (t - 1))) ∙ r.ready_is m s;
  few = let a = r.few in omega (arith, a);
}

pub are_ready : (p : Parts) (k : ℕ) (tasks : List ℕ) → k ≡ length p.scenario.flags + 1 → ReadyBelow p k tasks → AreReady p tasks
unfolding AreReady
are_ready p k tasks e r m s = let a : k - 1 ≡ length p.scenario.flags = omega (arith, e) in subst (λ n. ready p.scenario m (numbers n) ≡ tasks) a (r.ready_is m s)

-- The choice.

pub rests : (p : Parts) (seed : ℕ) → AreReady p [] → IsDraw p seed None seed
unfolding AreReady IsDraw
rests p seed r m s = (ap (λ ts. picked ts seed) (r m s), ap (λ ts. seed_after ts seed) (r m s))

pub rest_can : (p : Parts) → p.phase < length p.scenario.phases → AreReady p [] → CanGo p None
unfolding AreReady IsResting
rest_can p left r = (left, λ m s. r m s)

abbrev chosen : List ℕ → ℕ → ℕ
chosen ts seed = get_or ts (drawn seed % length ts) 0

pub draws : (p : Parts) (seed t : ℕ) (ts : List ℕ) → AreReady p (t ∷ ts) → IsDraw p seed (Some (chosen (t ∷ ts) (next_seed seed))) (next_seed seed)
unfolding AreReady IsDraw
draws p seed t ts r m s = (ap (λ us. picked us (next_seed seed)) (r m s), ap (λ us. seed_after us seed) (r m s))

-- each of them is a task with a next event
record ReadyTask (sc : Scenario) (m : Machine) (t : ℕ) : Type 0 where
  task : is_task sc t ≡ true
  next : is_some (next_kind sc m t) ≡ true

all_have : (sc : Scenario) (m : Machine) (ts : List ℕ) → AllByRecursion (λ t. is_task sc t ≡ true) ts → AllByRecursion (ReadyTask sc m) (ready sc m ts)
all_have sc m [] h = tt
all_have sc m (t ∷ ts) h = by (is_some (next_kind sc m t)) refl (all_have sc m ts h.1)
  where
    by : (b : Bool) → is_some (next_kind sc m t) ≡ b → AllByRecursion (ReadyTask sc m) (ready sc m ts) → AllByRecursion (ReadyTask sc m) (if b then t ∷ ready sc m ts else ready sc m ts)
    by true e r = (record { task = h.0; next = e }, r)
    by false e r = r

at_of : (P : ℕ → Type 0) (xs : List ℕ) (i : ℕ) → AllByRecursion P xs → i < length xs → P (get_or xs i 0)
at_of P [] i h l = absurd (omega (arith, l))
at_of P (x ∷ xs) zero h l = h.0
at_of P (x ∷ xs) (suc i) h l = at_of P xs i h.1 (omega (arith, l))

pub ready_can : (p : Parts) (tasks : List ℕ) (i : ℕ) → Reached p → AreReady p tasks → i < length tasks → CanGo p (Some (get_or tasks i 0))
unfolding AreReady
ready_can p tasks i r a l =
    let x = reach p r in
    let h : AllByRecursion (ReadyTask p.scenario x.m) tasks = subst (AllByRecursion (ReadyTask p.scenario x.m)) (a x.m x.state) (all_have p.scenario x.m (all_of p.scenario) (all_tasks p.scenario)) in
    let t = at_of (ReadyTask p.scenario x.m) tasks i h l in
    (t.task, for_all p (get_or tasks i 0) x.m t.task x.state t.next)

none_of : (tasks : List ℕ) → (length tasks == 0) ≡ true → tasks ≡ []
none_of [] e = refl
none_of (t ∷ tasks) e = absurd (grind (arith, common_steps))

pub draws_none : (p : Parts) (seed : ℕ) (tasks : List ℕ) → (length tasks == 0) ≡ true → AreReady p tasks → IsDraw p seed None seed
draws_none p seed tasks e a = rests p seed (subst (AreReady p) (none_of tasks e) a)

pub none_can : (p : Parts) (tasks : List ℕ) → p.phase < length p.scenario.phases → (length tasks == 0) ≡ true → AreReady p tasks → CanGo p None
none_can p tasks left e a = rest_can p left (subst (AreReady p) (none_of tasks e) a)

pub draws_at : (p : Parts) (seed next : ℕ) (tasks : List ℕ) → (length tasks == 0) ≡ false → AreReady p tasks → next ≡ next_seed seed → IsDraw p seed (Some (get_or tasks (drawn next % length tasks) 0)) next
draws_at p seed next [] e a q = cc
draws_at p seed next (t ∷ tasks) e a q = subst (λ n. IsDraw p seed (Some (get_or (t ∷ tasks) (drawn n % length (t ∷ tasks)) 0)) n) (sym q) (draws p seed t tasks a)

pub at_can : (p : Parts) (n : ℕ) (tasks : List ℕ) → Reached p → (length tasks == 0) ≡ false → AreReady p tasks → CanGo p (Some (get_or tasks (n % length tasks) 0))
at_can p n tasks r e a = ready_can p tasks (n % length tasks) r a (mod-lt n (let l : 0 < length tasks = grind (arith, common_steps) in l))
