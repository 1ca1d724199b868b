-- Names and queues of tasks beside what the tasks work at: one of either is another.
use Rattle.std.proofs.Common.{◌≡◌, ℕ, zero, suc, ◌-◌, ◌<◌, ◌≤◌, ◌==◌, Bool, true, false, cond, List, [], ◌∷◌, refl, arith, sym, ap, ◌∙◌, subst, length, map, get_or}
use Rattle.std.proofs.Math.ListN.{set}
use Rattle.std.proofs.lemmas.Grind.{common_steps}
use Rattle.vch_base.specs.Tasks.{at_task, set_task}
use Rattle.vch_base.proofs.CallerLemmas.{as_long}
use Rattle.vch_parts.specs.declared.frames.Working.{Working}
use Rattle.vch_vouchers.specs.Desks.{Desk, desk, empty_desk}
use Rattle.vch_parts.specs.Framed.{resting, working_of}
use Rattle.vch_parts.specs.Plain.{Part, idle_part}
use Rattle.vch_parts.specs.Reached.{part_in, beside, parts_in}

-- As many of both.

same_number : (a b : ℕ) → (a == b) ≡ true → a ≡ b
same_number a b h = grind (arith, common_steps)

equal_number : (a b : ℕ) → a ≡ b → (a == b) ≡ true
equal_number a b h = grind (arith, common_steps)

-- where some task is there, there are as many of both
pub even_of : (ds : List Desk) (fs : List Working) (i : ℕ) → i < length (parts_in ds fs) → length ds ≡ length fs
even_of ds fs i l = by (length ds == length fs) refl l
  where
    by : (b : Bool) → (length ds == length fs) ≡ b → i < length (cond b (beside ds fs) []) → length ds ≡ length fs
    by true e h = same_number (length ds) (length fs) e
    by false e h = absurd (omega (arith, h))

pub parts_even : (ds : List Desk) (fs : List Working) → length ds ≡ length fs → parts_in ds fs ≡ beside ds fs
parts_even ds fs e = ap (λ b. cond b (beside ds fs) []) (equal_number (length ds) (length fs) e)

beside_long : (ds : List Desk) (fs : List Working) → length ds ≡ length fs → length (beside ds fs) ≡ length fs
beside_long [] [] e = refl
beside_long [] (x ∷ fs) e = absurd (omega (arith, e))
beside_long (d ∷ ds) [] e = absurd (omega (arith, e))
beside_long (d ∷ ds) (x ∷ fs) e = let r : length (beside ds fs) ≡ length fs = beside_long ds fs (omega (arith, e)) in omega (arith, r)

pub as_many_parts : (ds : List Desk) (fs : List Working) → length (parts_in ds fs) ≤ length fs
as_many_parts ds fs = by (length ds == length fs) refl
  where
    by : (b : Bool) → (length ds == length fs) ≡ b → length (cond b (beside ds fs) []) ≤ length fs
    by true e = let n = beside_long ds fs (same_number (length ds) (length fs) e) in omega (arith, n)
    by false e = omega arith

pub as_many_desks : (ds : List Desk) (fs : List Working) → length (parts_in ds fs) ≤ length ds
as_many_desks ds fs = by (length ds == length fs) refl
  where
    by : (b : Bool) → (length ds == length fs) ≡ b → length (cond b (beside ds fs) []) ≤ length ds
    by true e = let s = same_number (length ds) (length fs) e in let n = beside_long ds fs s in omega (arith, n, s)
    by false e = omega arith

-- A task's part.

beside_at : (ds : List Desk) (fs : List Working) (i : ℕ) → length ds ≡ length fs → i < length fs → get_or (beside ds fs) i idle_part ≡ part_in (get_or ds i (empty_desk 0)) (get_or fs i resting)
beside_at [] fs i e l = absurd (omega (arith, e, l))
beside_at (d ∷ ds) [] i e l = absurd (omega (arith, l))
beside_at (d ∷ ds) (x ∷ fs) zero e l = refl
beside_at (d ∷ ds) (x ∷ fs) (suc i) e l = beside_at ds fs i (omega (arith, e)) (omega (arith, l))

pub side_at : (ds : List Desk) (fs : List Working) (t : ℕ) → 0 < t → t - 1 < length (parts_in ds fs) → at_task (parts_in ds fs) t idle_part ≡ part_in (desk ds t) (working_of fs t)
side_at ds fs zero p l = absurd (omega (arith, p))
side_at ds fs (suc i) p l =
    let e = even_of ds fs i (omega (arith, l)) in
    let n = as_many_parts ds fs in
    ap (λ ps. get_or ps i idle_part) (parts_even ds fs e) ∙ beside_at ds fs i e (omega (arith, l, n))

-- One of either is another.

beside_both : (ds : List Desk) (fs : List Working) (i : ℕ) (d : Desk) (x : Working) → beside (set ds i d) (set fs i x) ≡ set (beside ds fs) i (part_in d x)
beside_both [] fs i d x = refl
beside_both (e ∷ ds) [] zero d x = refl
beside_both (e ∷ ds) [] (suc i) d x = refl
beside_both (e ∷ ds) (y ∷ fs) zero d x = refl
beside_both (e ∷ ds) (y ∷ fs) (suc i) d x = ap (λ ps. part_in e y ∷ ps) (beside_both ds fs i d x)

beside_desk : (ds : List Desk) (fs : List Working) (i : ℕ) (d : Desk) → beside (set ds i d) fs ≡ set (beside ds fs) i (part_in d (get_or fs i resting))
beside_desk [] fs i d = refl
beside_desk (e ∷ ds) [] zero d = refl
beside_desk (e ∷ ds) [] (suc i) d = refl
beside_desk (e ∷ ds) (y ∷ fs) zero d = refl
beside_desk (e ∷ ds) (y ∷ fs) (suc i) d = ap (λ ps. part_in e y ∷ ps) (beside_desk ds fs i d)

beside_work : (ds : List Desk) (fs : List Working) (i : ℕ) (x : Working) → beside ds (set fs i x) ≡ set (beside ds fs) i (part_in (get_or ds i (empty_desk 0)) x)
beside_work [] fs i x = refl
beside_work (e ∷ ds) [] i x = refl
beside_work (e ∷ ds) (y ∷ fs) zero x = refl
beside_work (e ∷ ds) (y ∷ fs) (suc i) x = ap (λ ps. part_in e y ∷ ps) (beside_work ds fs i x)

no_parts : (i : ℕ) (p : Part) → set [] i p ≡ []
no_parts i p = refl

-- as many as before, so all are there or none
both_sides : (ds es : List Desk) (fs gs : List Working) (i : ℕ) (p : Part) → length es ≡ length ds → length gs ≡ length fs → beside es gs ≡ set (beside ds fs) i p → parts_in es gs ≡ set (parts_in ds fs) i p
both_sides ds es fs gs i p a b same = rw (a, b) (by (length ds == length fs))
  where
    by : (b : Bool) → cond b (beside es gs) [] ≡ set (cond b (beside ds fs) []) i p
    by true = same
    by false = refl

-- a task gets other names and messages, and works at something else
pub set_sides : (ds : List Desk) (fs : List Working) (t : ℕ) (d : Desk) (x : Working) → 0 < t → parts_in (set_task ds t d) (set_task fs t x) ≡ set_task (parts_in ds fs) t (part_in d x)
set_sides ds fs zero d x p = absurd (omega (arith, p))
set_sides ds fs (suc i) d x p = both_sides ds (set ds i d) fs (set fs i x) i (part_in d x) (as_long ds (suc i) d) (as_long fs (suc i) x) (beside_both ds fs i d x)

pub set_desk : (ds : List Desk) (fs : List Working) (t : ℕ) (d : Desk) → 0 < t → parts_in (set_task ds t d) fs ≡ set_task (parts_in ds fs) t (part_in d (working_of fs t))
set_desk ds fs zero d p = absurd (omega (arith, p))
set_desk ds fs (suc i) d p = both_sides ds (set ds i d) fs fs i (part_in d (get_or fs i resting)) (as_long ds (suc i) d) refl (beside_desk ds fs i d)

pub set_work : (ds : List Desk) (fs : List Working) (t : ℕ) (x : Working) → 0 < t → parts_in ds (set_task fs t x) ≡ set_task (parts_in ds fs) t (part_in (desk ds t) x)
set_work ds fs zero x p = absurd (omega (arith, p))
set_work ds fs (suc i) x p = both_sides ds ds fs (set fs i x) i (part_in (get_or ds i (empty_desk 0)) x) refl (as_long fs (suc i) x) (beside_work ds fs i x)

-- the names and queues of all tasks again
beside_desks : (ds : List Desk) (fs : List Working) → length ds ≡ length fs → map (λ (x : Part). record { names = x.names; next = x.next; queue = x.queue; limit = x.limit }) (beside ds fs) ≡ ds
beside_desks [] fs e = refl
beside_desks (d ∷ ds) [] e = absurd (omega (arith, e))
beside_desks (d ∷ ds) (x ∷ fs) e = ap (λ es. d ∷ es) (beside_desks ds fs (omega (arith, e)))

pub desks_again : (ds : List Desk) (fs : List Working) (i : ℕ) → i < length (parts_in ds fs) → map (λ (x : Part). record { names = x.names; next = x.next; queue = x.queue; limit = x.limit }) (parts_in ds fs) ≡ ds
desks_again ds fs i l =
    let e = even_of ds fs i l in
    ap (map (λ (x : Part). record { names = x.names; next = x.next; queue = x.queue; limit = x.limit })) (parts_even ds fs e) ∙ beside_desks ds fs e
