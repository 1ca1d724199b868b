-- What holds of each line of a scenario holds of the line of a call that is answered.
use Rattle.std.proofs.Common.{◌≡◌, ℕ, zero, suc, ◌+◌, ◌-◌, ◌<◌, ◌≤◌, ◌==◌, Bool, true, false, List, [], ◌∷◌, ◌++◌, refl, arith, subst, length, map, Some, None, Option}
use Rattle.std.specs.Prelude.{if◌then◌else◌, slice_get}
use Rattle.std.specs.List.{AllByRecursion, filter}
use Rattle.std.proofs.lemmas.Option.{slice_get_within}
use Rattle.vch_model.specs.declared.call.Call.{Call}
use Rattle.vch_model.specs.declared.call.Line.{Line}
use Rattle.vch_model.specs.declared.entry.Entry.{Entry}
use Rattle.vch_model.specs.declared.lists.Scenario.{Scenario}
use Rattle.vch_model.specs.Lines.{lines_from, lines_of, line_at, calls_in, phases_in, next_line, call_of_phase, current_call}
use Rattle.vch_model.specs.Grammar.{IsSmall}
use Rattle.vch_model.specs.Scenarios.{IsIn, IsCallOf, IsLimited, line_count}
use Rattle.vch_model.specs.WellFormed.{IsNumber}
use Rattle.vch_legal.proofs.facts.Choices.{number_eq}
use Rattle.vch_legal.proofs.lines.LineSums.{line_sum}

pub all_joined : {A : Type 0} (P : A → Type 0) (xs ys : List A) → AllByRecursion P xs → AllByRecursion P ys
    → AllByRecursion P (xs ++ ys)
all_joined P [] ys p q = q
all_joined P (x ∷ xs) ys p q = (p.0, all_joined P xs ys p.1 q)

all_filtered : {A : Type 0} (P : A → Type 0) (test : A → Bool) (xs : List A) → AllByRecursion P xs
    → AllByRecursion P (filter test xs)
all_filtered P test [] p = tt
all_filtered P test (x ∷ xs) p = by_test (test x) (all_filtered P test xs p.1)
  where
    by_test : (b : Bool) → AllByRecursion P (filter test xs)
        → AllByRecursion P (if b then x ∷ filter test xs else filter test xs)
    by_test true r = (p.0, r)
    by_test false r = r

-- a filtered list passes the test
all_pass : {A : Type 0} (test : A → Bool) (xs : List A) → AllByRecursion (λ x. test x ≡ true) (filter test xs)
all_pass test [] = tt
all_pass test (x ∷ xs) = by_test (test x) refl (all_pass test xs)
  where
    by_test : (b : Bool) → test x ≡ b → AllByRecursion (λ x. test x ≡ true) (filter test xs)
        → AllByRecursion (λ x. test x ≡ true) (if b then x ∷ filter test xs else filter test xs)
    by_test true e r = (e, r)
    by_test false e r = r

fewer : {A : Type 0} (test : A → Bool) (xs : List A) → length (filter test xs) ≤ length xs
fewer test [] = omega arith
fewer test (x ∷ xs) = by_test (test x) (fewer test xs)
  where
    by_test : (b : Bool) → length (filter test xs) ≤ length xs
        → length (if b then x ∷ filter test xs else filter test xs) ≤ suc (length xs)
    by_test true l = omega (arith, l)
    by_test false l = omega (arith, l)

item_of : {A : Type 0} (P : A → Type 0) (xs : List A) (i : ℕ) (x : A) → AllByRecursion P xs → slice_get xs i ≡ Some x → P x
item_of P [] i x h e = absurd (cc)
item_of P (y ∷ xs) zero x h e = let q : y ≡ x = cc in subst P q h.0
item_of P (y ∷ xs) (suc i) x h e = item_of P xs i x h.1 e

module _ (P : Line → Type 0) where
  abbrev Of : ℕ × Line → Type 0
  Of l = P l.1

  numbered : (phase : ℕ) (lines : List Line) → AllByRecursion P lines → AllByRecursion Of (map (λ line. (phase, line)) lines)
  numbered phase [] p = tt
  numbered phase (l ∷ lines) p = (p.0, numbered phase lines p.1)

  from : (phase : ℕ) (phases : List (List Line)) → AllByRecursion (λ lines. AllByRecursion P lines) phases
      → AllByRecursion Of (lines_from phase phases)
  from phase [] p = tt
  from phase (lines ∷ phases) p =
      all_joined Of (map (λ line. (phase, line)) lines) (lines_from (phase + 1) phases) (numbered phase lines p.0)
      (from (phase + 1) phases p.1)

  pub line_has : (sc : Scenario) (t n : ℕ) (l : ℕ × Line) → AllByRecursion (λ lines. AllByRecursion P lines) sc.phases
      → line_at sc t n ≡ Some l → P l.1
  line_has sc t n l p e =
      item_of Of (lines_of sc t) (n - 1) l (all_filtered Of (λ (x : ℕ × Line). x.1.task == t) (lines_from 1 sc.phases)
      (from 1 sc.phases p)) e

-- what is known of a line that a task may come to
pub record LineFits (sc : Scenario) (t n : ℕ) (call : Call) : Type 0 where
  pub task : IsNumber t
  pub number : n ≤ 16385
  pub small : IsSmall call
  pub version : IsCallOf sc.version call

pub line_fits : (sc : Scenario) (t n : ℕ) (l : ℕ × Line) → IsLimited sc → line_at sc t n ≡ Some l → LineFits sc t n l.1.call
line_fits sc t n l limited e =
    let inside : IsIn sc.version (length sc.flags) l.1 = line_has (IsIn sc.version (length sc.flags)) sc t n l limited.lines e in
    let own : (l.1.task == t) ≡ true =
    item_of (λ (l : ℕ × Line). (l.1.task == t) ≡ true) (lines_of sc t) (n - 1) l
    (all_pass (λ (x : ℕ × Line). x.1.task == t) (lines_from 1 sc.phases)) e in
    let same : l.1.task ≡ t = number_eq l.1.task t own in
    let a : n - 1 < length (lines_of sc t) = slice_get_within (lines_of sc t) (n - 1) l e in
    let b : length (lines_of sc t) ≤ length (lines_from 1 sc.phases) =
    fewer (λ (x : ℕ × Line). x.1.task == t) (lines_from 1 sc.phases) in
    let d : length (lines_from 1 sc.phases) ≡ line_count sc.phases = line_sum 1 sc.phases in
    record {
      task = (omega (arith, same, inside.0), omega (arith, same, inside.1, limited.tasks));
      number = omega (arith, a, b, d, limited.calls);
      small = inside.2;
      version = inside.3;
    }

-- the call that a task comes to in the current phase is that of a line
pub current_fits : (sc : Scenario) (past : List Entry) (t : ℕ) (call : Call) → IsLimited sc
    → current_call sc past t ≡ Some call → LineFits sc t (calls_in past t + 1) call
current_fits sc past t call limited e = by_line (next_line sc past t) refl e
  where
    by_line : (o : Option (ℕ × Line)) → line_at sc t (calls_in past t + 1) ≡ o
        → call_of_phase (phases_in past + 1) o ≡ Some call → LineFits sc t (calls_in past t + 1) call
    by_line None h g = absurd (cc)
    by_line (Some l) h g = by_phase (l.0 == phases_in past + 1) g
      where
        some_eq : {a b : Call} → Some a ≡ Some b → a ≡ b
        some_eq h = cc

        by_phase : (b : Bool) → (if b then Some l.1.call else None) ≡ Some call → LineFits sc t (calls_in past t + 1) call
        by_phase true k = subst (LineFits sc t (calls_in past t + 1)) (some_eq k) (line_fits sc t (calls_in past t + 1) l limited h)
        by_phase false k = absurd (cc)
