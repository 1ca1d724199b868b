-- The places of the lines of each task, line by line and phase by phase.
use Rattle.std.proofs.Common.{◌≡◌, ◌≢◌, ℕ, zero, suc, ◌+◌, ◌-◌, ◌<◌, ◌≤◌, ◌==◌, Bool, true, false, cond, List, [], ◌∷◌, ◌++◌, refl, arith, sym, ap, ◌∙◌, subst, length, map, take, get_or, Option, Some, append_assoc}
use Rattle.std.specs.Prelude.{slice_get}
use Rattle.std.specs.List.{filter}
use Rattle.std.proofs.Math.ListN.{set}
use Rattle.std.proofs.lemmas.List.{map-append, append-nil, length-set, get_or-set_same, get_or-set_other}
use Rattle.std.proofs.lemmas.List.Elements.{filter-append}
use Rattle.std.proofs.lemmas.Option.{get_or_from_slice_get}
use Rattle.std.proofs.lemmas.Grind.{common_steps}
use Rattle.vch_model.specs.declared.call.Line.{Line}
use Rattle.vch_model.specs.Lines.{lines_from}
use Rattle.vch_script.specs.declared.places.Spot.{Spot}
use Rattle.vch_script.specs.Places.{AreOfTasks, IsOfTask}
use Rattle.vch_script.specs.Places.{line_at_spot, spots_of, Placed, first_lines, AddsLines}
use Rattle.vch_script.proofs.finding.OfTasks.{line_of_task}
use Rattle.vch_script.proofs.finding.Loops.{take_next}

abbrev Numbered : Type 0
Numbered = ℕ × Line

abbrev is_of : ℕ → Numbered → Bool
is_of t l = l.1.task == t

abbrev some : Numbered → Option Numbered
some l = Some l

same_number : (a b : ℕ) → (a == b) ≡ true → a ≡ b
same_number a b e = grind (arith, common_steps)

other_number : (a b : ℕ) → (a == b) ≡ false → a ≢ b
other_number a b e = grind (arith, common_steps)

is_same : (a : ℕ) → (a == a) ≡ true
is_same a = grind (arith, common_steps)

not_zero : (t : ℕ) → 0 < t → (t == 0) ≡ false
not_zero t p = grind (arith, common_steps)

is_zero : (t : ℕ) → (t == 0) ≡ true → t ≡ 0
is_zero t e = grind (arith, common_steps)

spots_at : (places : List (List Spot)) (t : ℕ) → 0 < t → spots_of places t ≡ get_or places (t - 1) []
spots_at places t p = rw (not_zero t p) refl

-- the places of a task with a line more, and those of another
spots_here : (places : List (List Spot)) (t : ℕ) (s : Spot) → 0 < t → t ≤ length places → spots_of (set places (t - 1) (get_or places (t - 1) [] ++ s ∷ [])) t ≡ spots_of places t ++ s ∷ []
spots_here places t s p l =
    spots_at (set places (t - 1) (get_or places (t - 1) [] ++ s ∷ [])) t p
    ∙ (get_or-set_same places (t - 1) (get_or places (t - 1) [] ++ s ∷ []) [] (omega (arith, p, l)) ∙ ap (λ xs. xs ++ s ∷ []) (sym (spots_at places t p)))

spots_there : (places : List (List Spot)) (t u : ℕ) (xs : List Spot) → 0 < t → u ≢ t → spots_of (set places (t - 1) xs) u ≡ spots_of places u
spots_there places t u xs p n = by (u == 0) refl
  where
    apart : 0 < u → u - 1 ≢ t - 1
    apart q e = n (omega (arith, p, q, e))

    positive : (u == 0) ≡ false → 0 < u
    positive e = grind (arith, common_steps)

    by : (b : Bool) → (u == 0) ≡ b → cond (u == 0) [] (get_or (set places (t - 1) xs) (u - 1) []) ≡ cond (u == 0) [] (get_or places (u - 1) [])
    by true e = rw e refl
    by false e = rw e (get_or-set_other places (t - 1) (u - 1) xs [] (apart (positive e)))

filter_one : (t : ℕ) (lines : List Numbered) (l : Numbered) → filter (is_of t) (lines ++ l ∷ []) ≡ filter (is_of t) lines ++ cond (l.1.task == t) (l ∷ []) []
filter_one t lines l = filter-append (is_of t) lines (l ∷ [])

-- with a line more
abbrev written : List (List Spot) → Spot → Numbered → List (List Spot)
written old s l = set old (l.1.task - 1) (get_or old (l.1.task - 1) [] ++ s ∷ [])

pub placed_more : (tasks : ℕ) (phases : List (List Line)) (lines : List Numbered) (old new : List (List Spot)) (s : Spot) (l : Numbered) → Placed tasks phases lines old → line_at_spot phases s ≡ Some l → 0 < l.1.task → l.1.task ≤ tasks
    → new ≡ set old (l.1.task - 1) (get_or old (l.1.task - 1) [] ++ s ∷ []) → Placed tasks phases (lines ++ l ∷ []) new
placed_more tasks phases lines old new s l placed there positive within e = record {
  long = ap length e ∙ (length-set old (l.1.task - 1) (get_or old (l.1.task - 1) [] ++ s ∷ []) ∙ placed.long);
  each = λ t. subst (λ (x : List (List Spot)). map (line_at_spot phases) (spots_of x t) ≡ map some (filter (is_of t) (lines ++ l ∷ []))) (sym e) (by t (l.1.task == t) refl);
}
  where
    inside : l.1.task ≤ length old
    inside = let a : length old ≡ tasks = placed.long in omega (arith, a, within)

    here : map (line_at_spot phases) (spots_of (written old s l) l.1.task) ≡ map some (filter (is_of l.1.task) (lines ++ l ∷ []))
    here =
        ap (map (line_at_spot phases)) (spots_here old l.1.task s positive inside)
        ∙ (map-append (line_at_spot phases) (spots_of old l.1.task) (s ∷ [])
        ∙ (ap (λ x. map (line_at_spot phases) (spots_of old l.1.task) ++ x ∷ []) there
        ∙ (ap (λ xs. xs ++ Some l ∷ []) (placed.each l.1.task)
        ∙ (sym (map-append some (filter (is_of l.1.task) lines) (l ∷ []))
        ∙ ap (map some) (sym (filter_one l.1.task lines l ∙ ap (λ b. filter (is_of l.1.task) lines ++ cond b (l ∷ []) []) (is_same l.1.task)))))))

    other : (t : ℕ) → (l.1.task == t) ≡ false → map (line_at_spot phases) (spots_of (written old s l) t) ≡ map some (filter (is_of t) (lines ++ l ∷ []))
    other t f =
        ap (map (line_at_spot phases)) (spots_there old l.1.task t (get_or old (l.1.task - 1) [] ++ s ∷ []) positive (λ q. other_number l.1.task t f (sym q)))
        ∙ (placed.each t
        ∙ ap (map some) (sym (filter_one t lines l ∙ (ap (λ b. filter (is_of t) lines ++ cond b (l ∷ []) []) f ∙ append-nil (filter (is_of t) lines)))))

    by : (t : ℕ) (b : Bool) → (l.1.task == t) ≡ b → map (line_at_spot phases) (spots_of (written old s l) t) ≡ map some (filter (is_of t) (lines ++ l ∷ []))
    by t true f = subst (λ u. map (line_at_spot phases) (spots_of (written old s l) u) ≡ map some (filter (is_of u) (lines ++ l ∷ []))) (same_number l.1.task t f) here
    by t false f = other t f

-- no line of a phase yet
pub adds_none : (phases : List (List Line)) (phase : ℕ) (places : List (List Spot)) → AddsLines phases phase 0 places places
adds_none phases phase places = record { long = refl; adds = λ lines placed. subst (λ ls. Placed (length places) phases ls places) (sym (append-nil lines)) placed }

more_lines : (phases : List (List Line)) (phase n : ℕ) (l : Line) → slice_get (get_or phases phase []) n ≡ Some l → first_lines phases phase (n + 1) ≡ first_lines phases phase n ++ (phase + 1, l) ∷ []
more_lines phases phase n l e =
    ap (map (λ line. (phase + 1, line))) (sym (take_next (get_or phases phase []) (take n (get_or phases phase [])) (take n (get_or phases phase []) ++ l ∷ []) n l l refl e refl refl))
    ∙ map-append (λ line. (phase + 1, line)) (take n (get_or phases phase [])) (l ∷ [])

-- the next line of a phase
pub adds_next : (phases : List (List Line)) (phase n : ℕ) (old mid new : List (List Spot)) (here : List Line) (l : Line) → AddsLines phases phase n old mid → AreOfTasks (length old) phases → slice_get phases phase ≡ Some here → slice_get here n ≡ Some l
    → new ≡ set mid (l.task - 1) (get_or mid (l.task - 1) [] ++ record { phase = phase; line = n } ∷ []) → AddsLines phases phase (n + 1) old new
adds_next phases phase n old mid new here l adds tasks e f q = record {
  long = ap length q ∙ (length-set mid (l.task - 1) (get_or mid (l.task - 1) [] ++ record { phase = phase; line = n } ∷ []) ∙ adds.long);
  adds = λ lines placed.
      subst (λ ls. Placed (length old) phases ls new) (append_assoc lines (first_lines phases phase n) ((phase + 1, l) ∷ []) ∙ ap (λ ls. lines ++ ls) (sym (more_lines phases phase n l there)))
      (placed_more (length old) phases (lines ++ first_lines phases phase n) mid new (record { phase = phase; line = n }) (phase + 1, l) (adds.adds lines placed) stands own.0 own.1 q);
}
  where
    in_phase : get_or phases phase [] ≡ here
    in_phase = get_or_from_slice_get phases phase here [] e

    there : slice_get (get_or phases phase []) n ≡ Some l
    there = ap (λ (ls : List Line). slice_get ls n) in_phase ∙ f

    own : IsOfTask (length old) l
    own = line_of_task (length old) phases phase n here l tasks e f

    stands : line_at_spot phases (record { phase = phase; line = n }) ≡ Some (phase + 1, l)
    stands = rw there refl

-- the task of the next line has a place
pub next_task : (phases : List (List Line)) (phase n : ℕ) (old mid : List (List Spot)) (here : List Line) (l : Line) → AddsLines phases phase n old mid → AreOfTasks (length old) phases → slice_get phases phase ≡ Some here → slice_get here n ≡ Some l → (0 < l.task) × (l.task ≤ length mid)
next_task phases phase n old mid here l adds tasks e f =
    let own : IsOfTask (length old) l = line_of_task (length old) phases phase n here l tasks e f in
    let a : l.task ≤ length old = own.1 in
    let b : length mid ≡ length old = adds.long in (own.0, omega (arith, a, b))

-- no line at all
pub placed_none : (tasks : ℕ) (phases : List (List Line)) (places : List (List Spot)) → length places ≡ tasks → ((t : ℕ) → spots_of places t ≡ []) → Placed tasks phases [] places
placed_none tasks phases places long none = record { long = long; each = λ t. ap (map (line_at_spot phases)) (none t) }

from_next : (p : ℕ) (phases : List (List Line)) (i : ℕ) → i < length phases → lines_from p (take (suc i) phases) ≡ lines_from p (take i phases) ++ map (λ line. (p + i, line)) (get_or phases i [])
from_next p [] i l = absurd (omega arith)
from_next p (lines ∷ phases) zero l = append-nil (map (λ line. (p, line)) lines) ∙ ap (λ q. map (λ line. (q, line)) lines) (sym (same p))
  where
    same : (p : ℕ) → p + 0 ≡ p
    same p = omega arith
from_next p (lines ∷ phases) (suc i) l =
    ap (λ ls. map (λ line. (p, line)) lines ++ ls) (from_next (p + 1) phases i (omega (arith, l)))
    ∙ (sym (append_assoc (map (λ line. (p, line)) lines) (lines_from (p + 1) (take i phases)) (map (λ line. ((p + 1) + i, line)) (get_or phases i [])))
    ∙ ap (λ q. (map (λ line. (p, line)) lines ++ lines_from (p + 1) (take i phases)) ++ map (λ line. (q, line)) (get_or phases i [])) (shift p i))
  where
    shift : (p i : ℕ) → (p + 1) + i ≡ p + suc i
    shift p i = omega arith

whole_phase : (phases : List (List Line)) (i : ℕ) → first_lines phases i (length (get_or phases i [])) ≡ map (λ line. (i + 1, line)) (get_or phases i [])
whole_phase phases i = ap (map (λ line. (i + 1, line))) (all (get_or phases i []))
  where
    all : {A : Type 0} (xs : List A) → take (length xs) xs ≡ xs
    all [] = refl
    all (x ∷ xs) = ap (λ ys. x ∷ ys) (all xs)

-- a whole phase more
pub placed_phase : (tasks : ℕ) (phases : List (List Line)) (i : ℕ) (old new : List (List Spot)) → i < length phases → Placed tasks phases (lines_from 1 (take i phases)) old → AddsLines phases i (length (get_or phases i [])) old new
    → Placed tasks phases (lines_from 1 (take (i + 1) phases)) new
placed_phase tasks phases i old new l placed adds =
    subst (λ ls. Placed tasks phases ls new) (ap (λ ls. lines_from 1 (take i phases) ++ ls) (whole_phase phases i ∙ ap (λ q. map (λ line. (q, line)) (get_or phases i [])) (back i)) ∙ sym (ap (λ n. lines_from 1 (take n phases)) (more i) ∙ from_next 1 phases i l))
    (subst (λ n. Placed n phases (lines_from 1 (take i phases) ++ first_lines phases i (length (get_or phases i []))) new) placed.long
    (adds.adds (lines_from 1 (take i phases)) (subst (λ n. Placed n phases (lines_from 1 (take i phases)) old) (sym placed.long) placed)))
  where
    back : (i : ℕ) → i + 1 ≡ 1 + i
    back i = omega arith

    more : (i : ℕ) → i + 1 ≡ suc i
    more i = omega arith

-- and all phases
pub placed_all : (tasks : ℕ) (phases : List (List Line)) (n : ℕ) (places : List (List Spot)) → length phases ≤ n → Placed tasks phases (lines_from 1 (take n phases)) places → Placed tasks phases (lines_from 1 phases) places
placed_all tasks phases n places l placed = subst (λ ps. Placed tasks phases (lines_from 1 ps) places) (all phases n l) placed
  where
    all : {A : Type 0} (xs : List A) (n : ℕ) → length xs ≤ n → take n xs ≡ xs
    all [] zero l = refl
    all [] (suc n) l = refl
    all (x ∷ xs) zero l = absurd (omega arith)
    all (x ∷ xs) (suc n) l = ap (λ t. x ∷ t) (all xs n (omega arith))

-- all lines of the phase were added
pub adds_all : (phases : List (List Line)) (phase n m : ℕ) (old new : List (List Spot)) (here : List Line) → AddsLines phases phase n old new → slice_get phases phase ≡ Some here → m ≡ length here → n ≡ m → AddsLines phases phase (length (get_or phases phase [])) old new
adds_all phases phase n m old new here adds e q r = subst (λ k. AddsLines phases phase k old new) (r ∙ (q ∙ ap length (sym (get_or_from_slice_get phases phase here [] e)))) adds
