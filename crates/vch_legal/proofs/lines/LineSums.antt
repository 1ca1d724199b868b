-- The lines of all tasks are no more than all lines, and so what is left at the start is bounded by the number of calls.
use Rattle.std.proofs.Common.{◌≡◌, ℕ, zero, suc, ◌+◌, ◌*◌, ◌<◌, ◌≤◌, ◌==◌, nat_lt, Bool, true, false, cond, List, [], ◌∷◌, ◌++◌, refl, arith, ap, subst, length, length-append, map}
use Rattle.std.specs.Prelude.{if◌then◌else◌}
use Rattle.std.specs.List.{filter}
use Rattle.std.proofs.lemmas.Grind.{common_steps}
use Rattle.vch_base.specs.declared.flags.Flags.{Flags}
use Rattle.vch_base.specs.declared.limits.TheConstants.{ARRAY_BYTES}
use Rattle.vch_base.specs.Keys.{every_key}
use Rattle.vch_model.specs.declared.call.Call.{Call}
use Rattle.vch_model.specs.declared.call.Call.TheVariants as calls
use Rattle.vch_model.specs.declared.call.Line.{Line}
use Rattle.vch_model.specs.declared.lists.Scenario.{Scenario}
use Rattle.vch_model.specs.Lines.{lines_from, lines_of}
use Rattle.vch_model.specs.Scenarios.{line_count}
use Rattle.vch_machine.specs.State.{start, idle}
use Rattle.vch_legal.specs.Left.{event_left, call_left, lines_left, tasks_left, work_left, largest_call}

abbrev Numbered : Type 0
Numbered = ℕ × Line

abbrev lines_at : List Numbered → ℕ → ℕ
lines_at ls t = length (filter (λ l. l.1.task == t) ls)

abbrev from : List Numbered → ℕ → ℕ → ℕ
from ls t zero = 0
from ls t (suc n) = lines_at ls t + from ls (t + 1) n

abbrev ones : ℕ → ℕ → ℕ → ℕ
ones u t zero = 0
ones u t (suc n) = (cond (u == t) 1 0) + ones u (t + 1) n

ones_above : (u t n : ℕ) → u < t → ones u t n ≡ 0
ones_above u t zero l = refl
ones_above u t (suc n) l = let e : (u == t) ≡ false = grind (arith, common_steps) in let r : ones u (t + 1) n ≡ 0 =
    ones_above u (t + 1) n (omega (arith, l)) in rw (e, r) refl

one_at_most : (u t n : ℕ) → ones u t n ≤ 1
one_at_most u t zero = omega arith
one_at_most u t (suc n) = by (one_at_most u (t + 1) n) (u == t) refl
  where
    by : ones u (t + 1) n ≤ 1 → (b : Bool) → (u == t) ≡ b → (cond b 1 0) + ones u (t + 1) n ≤ 1
    by r true e = let l : u < t + 1 = grind (arith, common_steps) in let z : ones u (t + 1) n ≡ 0 =
        ones_above u (t + 1) n l in omega (arith, z)
    by r false e = omega (arith, r)

one_more : (l : Numbered) (ls : List Numbered) (t : ℕ) → lines_at (l ∷ ls) t ≡ (cond (l.1.task == t) 1 0) + lines_at ls
    t
one_more l ls t = by (l.1.task == t) refl
  where
    by : (b : Bool) → (l.1.task == t) ≡ b
        → length (cond b (l ∷ filter (λ x. x.1.task == t) ls) (filter (λ x. x.1.task == t) ls))
        ≡ (cond b 1 0) + lines_at ls t
    by true e = omega arith
    by false e = omega arith

from_cons : (l : Numbered) (ls : List Numbered) (t n : ℕ) → from (l ∷ ls) t n ≡ ones l.1.task t n + from ls t n
from_cons l ls t zero = refl
from_cons l ls t (suc n) =
    let a : lines_at (l ∷ ls) t ≡ (cond (l.1.task == t) 1 0) + lines_at ls t = one_more l ls t in
    let b : from (l ∷ ls) (t + 1) n ≡ ones l.1.task (t + 1) n + from ls (t + 1) n = from_cons l ls (t + 1) n in
    omega (arith, a, b)

from_none : (t n : ℕ) → from [] t n ≡ 0
from_none t zero = refl
from_none t (suc n) = let e : from [] (t + 1) n ≡ 0 = from_none (t + 1) n in omega (arith, e)

all_lines : (ls : List Numbered) (t n : ℕ) → from ls t n ≤ length ls
all_lines [] t n = let e : from [] t n ≡ 0 = from_none t n in omega (arith, e)
all_lines (l ∷ ls) t n =
    let a : from (l ∷ ls) t n ≡ ones l.1.task t n + from ls t n = from_cons l ls t n in
    let b : ones l.1.task t n ≤ 1 = one_at_most l.1.task t n in
    let d : from ls t n ≤ length ls = all_lines ls t n in
    omega (arith, a, b, d)

abbrev numbered : ℕ → List Line → List Numbered
numbered phase lines = map (λ line. (phase, line)) lines

length_numbered : (phase : ℕ) (lines : List Line) → length (numbered phase lines) ≡ length lines
length_numbered phase [] = refl
length_numbered phase (line ∷ lines) = ap suc (length_numbered phase lines)

pub line_sum : (phase : ℕ) (phases : List (List Line)) → length (lines_from phase phases) ≡ line_count phases
line_sum phase [] = refl
line_sum phase (lines ∷ phases) =
    let a : length (numbered phase lines ++ lines_from (phase + 1) phases) ≡ length (numbered phase lines) + length
    (lines_from (phase + 1) phases) = length-append (numbered phase lines) (lines_from (phase + 1) phases) in
    let b : length (numbered phase lines) ≡ length lines = length_numbered phase lines in
    let d : length (lines_from (phase + 1) phases) ≡ line_count phases = line_sum (phase + 1) phases in
    omega (arith, a, b, d)

-- the number of lines of so many tasks, from one on
abbrev pub lines_of_tasks : Scenario → ℕ → ℕ → ℕ
lines_of_tasks sc t n = from (lines_from 1 sc.phases) t n

pub all_of_tasks : (sc : Scenario) (t n : ℕ) → lines_of_tasks sc t n ≤ line_count sc.phases
all_of_tasks sc t n =
    let b : from (lines_from 1 sc.phases) t n ≤ length (lines_from 1 sc.phases) =
    all_lines (lines_from 1 sc.phases) t n in
    let d : length (lines_from 1 sc.phases) ≡ line_count sc.phases = line_sum 1 sc.phases in
    omega (arith, b, d)

-- What is left at the start.

array_bytes : ARRAY_BYTES ≡ 5120
array_bytes = refl

short_left : (n : ℕ) (b : Bool) → nat_lt ARRAY_BYTES n ≡ b
    → 10 + (if b then 0 else event_left * (2 + length every_key + n)) ≤ largest_call
short_left n true e = omega arith
short_left n false e = let l : n ≤ 5120 = at_most n (subst (λ k. nat_lt k n ≡ false) array_bytes e) in omega (arith, l)
  where
    at_most : (n : ℕ) → nat_lt 5120 n ≡ false → n ≤ 5120
    at_most n e = grind (arith, common_steps)

call_few : (call : Call) → call_left call ≤ largest_call
call_few (calls.Create bytes) = short_left (length bytes) (nat_lt ARRAY_BYTES (length bytes)) refl
call_few (calls.GiveUp name) = omega arith
call_few (calls.Extract name key) = omega arith
call_few (calls.Recipes name) = omega arith
call_few (calls.Send to moving name id) = omega arith
call_few calls.Recv = omega arith
call_few (calls.Extern name adding n) = omega arith
call_few (calls.Charge name n) = omega arith
call_few calls.Ledger = omega arith
call_few calls.Assertions = omega arith
call_few calls.Live = omega arith
call_few calls.Exit = omega arith

lines_few : (ls : List Numbered) → lines_left ls ≤ largest_call * length ls
lines_few [] = omega arith
lines_few (l ∷ ls) = let a : call_left l.1.call ≤ largest_call = call_few l.1.call in
    let b : lines_left ls ≤ largest_call * length ls = lines_few ls in omega (arith, a, b)

tasks_few : (sc : Scenario) (t : ℕ) (flags : List Flags) → tasks_left sc t (map (λ _. idle) flags)
    ≤ largest_call * lines_of_tasks sc t (length flags)
tasks_few sc t [] = omega arith
tasks_few sc t (f ∷ flags) =
    let a : lines_left (lines_of sc t) ≤ largest_call * length (lines_of sc t) = lines_few (lines_of sc t) in
    let b : tasks_left sc (t + 1) (map (λ _. idle) flags) ≤ largest_call * lines_of_tasks sc (t + 1) (length flags) =
    tasks_few sc (t + 1) flags in
    omega (arith, a, b)

pub start_few : (sc : Scenario) → work_left sc (start sc) ≤ largest_call * line_count sc.phases + length sc.phases
start_few sc =
    let a : tasks_left sc 1 (map (λ _. idle) sc.flags) ≤ largest_call * lines_of_tasks sc 1 (length sc.flags) =
    tasks_few sc 1 sc.flags in
    let b : lines_of_tasks sc 1 (length sc.flags) ≤ line_count sc.phases = all_of_tasks sc 1 (length sc.flags) in
    omega (arith, a, b)
