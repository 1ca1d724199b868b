-- What bounds a state of a run, in numbers.
use Rattle.std.proofs.Common.{◌≡◌, ℕ, suc, ◌+◌, ◌*◌, ◌<◌, ◌≤◌, Bool, cond, List, [], ◌∷◌, refl, true, false, ◌&&◌, arith, sym, ap, ◌∙◌, subst, length, map, get_or, Some, None, Option}
use Rattle.std.proofs.lemmas.List.{length-map}
use Rattle.std.specs.Prelude.{is_some, nat_lt, nat_le}
use Rattle.std.specs.List.{filter, sum_by, AllByRecursion}
use Rattle.std.proofs.lemmas.List.Sums.{sum_by-cons}
use Rattle.vch_model.specs.Store as store
use Rattle.vch_model.specs.declared.entry.Entry.{Entry}
use Rattle.vch_model.specs.declared.lists.Scenario.{Scenario}
use Rattle.vch_model.specs.Lines.{is_task, lines_of, lines_until, calls_in, phases_in}
use Rattle.vch_model.specs.Store.{Store, Member, member}
use Rattle.vch_model.specs.After.{store_of}
use Rattle.vch_model.specs.declared.call.Call.{Call}
use Rattle.vch_model.specs.declared.call.Line.{Line}
use Rattle.vch_machine.specs.State.{Living, Named, Frame, Tasked, Machine, idle, tasked, named_of, message_of, member_of, start}
use Rattle.vch_machine.specs.Next.{nth_call}
use Rattle.vch_model.specs.Scenarios.{IsLimited, IsIn}
use Rattle.vch_model.specs.Grammar.{IsSmall}
use Rattle.vch_script.proofs.CallerLemmas.{of_tasks}
use Rattle.vch_machine.specs.Schedules.{Move, happens, run, run_from_start}
use Rattle.vch_legal.specs.Facts.{bit}
use Rattle.vch_legal.specs.Tie.{Ties, is_answering}
use Rattle.vch_legal.proofs.CallerLemmas.{lines_of_tasks, all_of_tasks, member_seen, start_stands, happens_stands, reached_stands}
use Rattle.vch_bounds.specs.Bounded.{AreSmall, Limited, Bounded, InNumbers, open_in, things_in, owned_in}
use Rattle.vch_bounds.specs.Owned as owned
use Rattle.vch_bounds.specs.Rooms.{calls_of, answers_in, Counted}
use Rattle.vch_bounds.specs.Spent.{Spent, takes_of, flying_of, takes_in, flying_in, begun_in, in_all}
use Rattle.vch_bounds.specs.Sums.{sum_tasks}
use Rattle.vch_bounds.proofs.counts.AnsweredLines.{answers_of, answers_in_range}
use Rattle.vch_bounds.proofs.counts.Rooms.{counted, within}
use Rattle.vch_bounds.proofs.runs.Steps.{start_spent, move_spent}

lines_small : (version tasks : ℕ) (lines : List Line) → AllByRecursion (IsIn version tasks) lines → AllByRecursion (λ (l : Line). IsSmall l.call) lines
lines_small version tasks [] h = tt
lines_small version tasks (l ∷ lines) h = (h.0.2, lines_small version tasks lines h.1)

small_of : (version tasks : ℕ) (phases : List (List Line)) → AllByRecursion (λ lines. AllByRecursion (IsIn version tasks) lines) phases → AreSmall phases
small_of version tasks [] h = tt
small_of version tasks (p ∷ phases) h = (lines_small version tasks p h.0, small_of version tasks phases h.1)

-- a scenario within the limits of a text
pub limited_of : (sc : Scenario) → IsLimited sc → Limited sc
limited_of sc limited = record {
  tasks = limited.tasks;
  phases = limited.phases;
  calls = let a = limited.calls in omega (arith, a);
  lines = of_tasks sc.version (length sc.flags) sc.phases limited.lines;
  numbers = small_of sc.version (length sc.flags) sc.phases limited.lines;
}

-- A run.

run_spent : (sc : Scenario) (moves : List Move) (o : Option Machine) (n : Machine)
    → ((m : Machine) → o ≡ Some m → Ties sc m × Spent sc m) → run sc moves o ≡ Some n → Spent sc n
run_spent sc moves None n h e = absurd (none moves e)
  where
    none : (moves : List Move) → run sc moves None ≡ Some n → ⊥
    none [] e = cc
    none (x ∷ moves) e = cc
run_spent sc [] (Some m) n h e = (h n e).1
run_spent sc (move ∷ moves) (Some m) n h e =
    run_spent sc moves (happens sc m move) n
    (λ k g. let s = h m refl in (happens_stands sc m k move s.0 g, move_spent sc m k move s.0 s.1 g)) e

pub reached_spent : (sc : Scenario) (moves : List Move) (n : Machine) → run_from_start sc moves ≡ Some n → Spent sc n
reached_spent sc moves n e =
    run_spent sc moves (Some (start sc)) n (λ m g. subst (λ k. Ties sc k × Spent sc k) (some_eq g) (start_stands sc, start_spent sc)) e
  where
    some_eq : {x y : Machine} → Some x ≡ Some y → x ≡ y
    some_eq h = cc

-- Sums.

-- a receipt in flight is one of the references that a task may take
four_flying : (sc : Scenario) (xs : List Tasked) (t : ℕ) → 4 * sum_tasks flying_in t xs ≤ sum_tasks (takes_in sc) t xs
four_flying sc [] t = omega arith
four_flying sc (x ∷ xs) t =
    let a = one (nth_call sc t x.begun) x.frame in let b = four_flying sc xs (t + 1) in omega (arith, a, b)
  where
    one : (call : Option Call) (f : Option Frame) → 4 * flying_of f ≤ takes_of sc.version call f
    one call None = omega arith
    one call (Some f) = omega arith

-- at most one receipt a task
one_flying : (xs : List Tasked) (t : ℕ) → sum_tasks flying_in t xs ≤ length xs
one_flying [] t = omega arith
one_flying (x ∷ xs) t = let a = one x.frame in let b = one_flying xs (t + 1) in omega (arith, a, b)
  where
    bit_few : (b : Bool) → bit b ≤ 1
    bit_few true = omega arith
    bit_few false = omega arith

    one : (f : Option Frame) → flying_of f ≤ 1
    one None = omega arith
    one (Some f) = bit_few (is_some f.receipt)

shift : (u i : ℕ) → u + suc i ≡ u + 1 + i
shift u i = omega arith

-- the calls begun are answered or under way
begun_answers : (past : List Entry) (xs : List Tasked) (u : ℕ)
    → ((i : ℕ) → i < length xs → (get_or xs i idle).begun ≡ calls_in past (u + i) + bit (is_answering (get_or xs i idle).frame))
    → sum_tasks begun_in u xs ≡ answers_of past u (length xs) + sum_tasks open_in u xs
begun_answers past [] u h = refl
begun_answers past (x ∷ xs) u h =
    let e : u + 0 ≡ u = omega arith in
    let a : x.begun ≡ calls_in past u + bit (is_answering x.frame) =
    subst (λ v. x.begun ≡ calls_in past v + bit (is_answering x.frame)) e (h 0 (omega arith)) in
    let b : sum_tasks begun_in (u + 1) xs ≡ answers_of past (u + 1) (length xs) + sum_tasks open_in (u + 1) xs =
    begun_answers past xs (u + 1) (λ i l. subst (λ v. (get_or xs i idle).begun ≡ calls_in past v + bit (is_answering (get_or xs i idle).frame))
    (shift u i) (h (suc i) (omega (arith, l)))) in
    omega (arith, a, b)

-- and are lines
begun_lines : (sc : Scenario) (xs : List Tasked) (u : ℕ)
    → ((i : ℕ) → i < length xs → (get_or xs i idle).begun ≤ length (lines_of sc (u + i)))
    → sum_tasks begun_in u xs ≤ lines_of_tasks sc u (length xs)
begun_lines sc [] u h = omega arith
begun_lines sc (x ∷ xs) u h =
    let e : u + 0 ≡ u = omega arith in
    let a : x.begun ≤ length (lines_of sc u) = subst (λ v. x.begun ≤ length (lines_of sc v)) e (h 0 (omega arith)) in
    let b : sum_tasks begun_in (u + 1) xs ≤ lines_of_tasks sc (u + 1) (length xs) =
    begun_lines sc xs (u + 1) (λ i l. subst (λ v. (get_or xs i idle).begun ≤ length (lines_of sc v)) (shift u i) (h (suc i) (omega (arith, l)))) in
    omega (arith, a, b)

-- what tasks have is what the store has
things_seen : (live : List Living) (xs : List Tasked) (t : ℕ)
    → sum_tasks (λ u (x : Member). length x.names + length x.queue) t (map (member_of live) xs) ≡ sum_tasks things_in t xs
things_seen live [] t = refl
things_seen live (x ∷ xs) t =
    let a = length-map x.names (named_of live) in
    let b = length-map x.queue (message_of live) in
    let c = things_seen live xs (t + 1) in
    omega (arith, a, b, c)

owned_seen : (live : List Living) (xs : List Tasked) (t : ℕ)
    → sum_tasks (λ u (x : Member). sum_by (λ (n : store.Named). n.refs) x.names + length x.queue) t (map (member_of live) xs)
    ≡ sum_tasks owned_in t xs
owned_seen live [] t = refl
owned_seen live (x ∷ xs) t =
    let a = names_seen x.names in
    let b = length-map x.queue (message_of live) in
    let c = owned_seen live xs (t + 1) in
    omega (arith, a, b, c)
  where
    names_seen : (names : List Named) → sum_by (λ (n : store.Named). n.refs) (map (named_of live) names) ≡ sum_by (λ (n : Named). n.refs) names
    names_seen [] = refl
    names_seen (n ∷ names) =
        let r = names_seen names in
        let a = sum_by-cons (λ (k : store.Named). k.refs) (named_of live n) (map (named_of live) names) in
        let b = sum_by-cons (λ (k : Named). k.refs) n names in
        omega (arith, r, a, b)

-- A state.

few_lines : (sc : Scenario) (t phase : ℕ) → lines_until sc phase t ≤ length (lines_of sc t)
few_lines sc t phase = shorter (λ (l : ℕ × Line). nat_le l.0 phase) (lines_of sc t)
  where
    shorter : (p : ℕ × Line → Bool) (xs : List (ℕ × Line)) → length (filter p xs) ≤ length xs
    shorter p [] = omega arith
    shorter p (x ∷ xs) = by_test (p x) (shorter p xs)
      where
        by_test : (b : Bool) → length (filter p xs) ≤ length xs → length (cond b (x ∷ filter p xs) (filter p xs)) ≤ suc (length xs)
        by_test true r = omega (arith, r)
        by_test false r = omega (arith, r)

module _ (sc : Scenario) (m : Machine) (limited : Limited sc) (ties : Ties sc m) (spent : Spent sc m) where
  in_scenario : (i : ℕ) → i < length m.tasks → is_task sc (suc i) ≡ true
  in_scenario i l = let a = ties.fits.tasks in both i (length sc.flags) (omega (arith, a, l))
    where
      both : (i n : ℕ) → i < n → (nat_lt 0 (suc i) && nat_lt (suc i) (n + 1)) ≡ true
      both i n l = grind arith

  number : (i : ℕ) → suc i ≡ 1 + i
  number i = omega arith

  all_begun : in_all begun_in m ≡ answers_of m.past 1 (length m.tasks) + in_all open_in m
  all_begun = begun_answers m.past m.tasks 1 (λ i l. subst (λ v. (get_or m.tasks i idle).begun ≡ calls_in m.past v + bit (is_answering (get_or m.tasks i idle).frame))
      (number i) (ties.tasks (suc i) (in_scenario i l)).counted)

  begun_few : in_all begun_in m ≤ calls_of sc
  begun_few =
      let a : in_all begun_in m ≤ lines_of_tasks sc 1 (length m.tasks) =
      begun_lines sc m.tasks 1 (λ i l. subst (λ v. (get_or m.tasks i idle).begun ≤ length (lines_of sc v)) (number i)
      (let b = (ties.tasks (suc i) (in_scenario i l)).begun in
      let c = few_lines sc (suc i) (phases_in m.past + 1) in omega (arith, b, c))) in
      let b = all_of_tasks sc 1 (length m.tasks) in
      omega (arith, a, b)

  counts : Counted sc m.past
  counts = counted sc m.past ties.legal

  all_answers : answers_in m.past + in_all open_in m ≤ in_all begun_in m
  all_answers =
      let a = answers_in_range sc m.past limited.lines ties.legal in
      let b : answers_of m.past 1 (length m.tasks) ≡ answers_of m.past 1 (length sc.flags) = ap (answers_of m.past 1) ties.fits.tasks in
      let c = all_begun in
      omega (arith, a, b, c)

  things_same : owned.things_in (store_of sc m.past) ≡ in_all things_in m
  things_same = ap owned.things_in (sym ties.same_store) ∙ things_seen m.live m.tasks 1

  owned_same : owned.references_in (store_of sc m.past) ≡ in_all owned_in m
  owned_same = ap owned.references_in (sym ties.same_store) ∙ owned_seen m.live m.tasks 1

  next_same : (t : ℕ) → (member (store_of sc m.past) t).next ≡ (tasked m t).next
  next_same t = ap (λ (s : Store). (member s t).next) (sym ties.same_store) ∙ ap (λ (x : Member). x.next) (member_seen m t)

  pub bounded : Bounded sc m
  bounded = record {
    begun = begun_few;
    flying = let a = one_flying m.tasks 1 in let b = ties.fits.tasks in omega (arith, a, b);
    refers = let a = four_flying sc m.tasks 1 in omega (arith, a, spent.refers);
    claims = let a = all_answers in let b = counts.given_up in omega (arith, a, b, spent.claims);
    asks = let a = ties.fits.counted in omega (arith, a);
    made = spent.made;
    used = λ k. let a = spent.used k in omega (arith, a, spent.made);
    things = let a = all_answers in let b = counts.given_up in let c = things_same in omega (arith, a, b, c);
    owned = let a = all_answers in let b = counts.references in let c = owned_same in omega (arith, a, b, c);
    nexts = λ t. let a = all_answers in let b = counts.nexts t in let c = next_same t in omega (arith, a, b, c);
  }

  pub in_numbers : InNumbers m
  in_numbers =
      let b = bounded in
      record {
        begun = omega (arith, b.begun, limited.calls);
        refers = omega (arith, b.refers, b.begun, limited.calls);
        claims = omega (arith, b.claims, b.refers, b.begun, limited.calls);
        asks = omega (arith, b.asks, b.refers, b.begun, limited.calls);
        made = omega (arith, b.made, b.refers, b.begun, limited.calls);
        used = λ k. let a = b.used k in omega (arith, a, b.refers, b.begun, limited.calls);
        things = omega (arith, b.things, b.begun, limited.calls);
        owned = omega (arith, b.owned, b.begun, limited.calls);
        nexts = λ t. let a = b.nexts t in omega (arith, a, b.begun, limited.calls);
        past =
            let a = within sc m.past ties.legal in
            omega (arith, a, b.made, b.refers, b.begun, limited.calls, limited.phases);
      }

pub run_bounded : (sc : Scenario) (moves : List Move) (m : Machine) → Limited sc → run_from_start sc moves ≡ Some m → Bounded sc m
run_bounded sc moves m limited e = bounded sc m limited (reached_stands sc moves m e) (reached_spent sc moves m e)

pub run_in_numbers : (sc : Scenario) (moves : List Move) (m : Machine) → Limited sc → run_from_start sc moves ≡ Some m → InNumbers m
run_in_numbers sc moves m limited e = in_numbers sc m limited (reached_stands sc moves m e) (reached_spent sc moves m e)
