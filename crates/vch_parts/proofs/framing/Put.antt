-- The parts of the tasks, where a frame was taken and put again, and fresh ones.
use Rattle.std.proofs.Common.{◌≡◌, ℕ, zero, suc, ◌+◌, ◌-◌, ◌<◌, ◌≤◌, List, [], ◌∷◌, ◌++◌, refl, arith, sym, ap, ◌∙◌, length, get_or, Option, None}
use Rattle.std.proofs.Math.ListN.{set}
use Rattle.std.proofs.lemmas.List.{set-set, get_or-set_same}
use Rattle.vch_base.specs.Tasks.{at_task, set_task}
use Rattle.vch_base.proofs.CallerLemmas.{as_long}
use Rattle.vch_parts.specs.declared.frame.Frame.{Frame}
use Rattle.vch_parts.specs.declared.frames.Working.{Working}
use Rattle.vch_vouchers.specs.Desks.{Desk}
use Rattle.vch_parts.specs.Framed.{resting, working_of, with_frame_of, all_resting}
use Rattle.vch_parts.specs.Plain.{Part, idle_part, with_frame}
use Rattle.vch_parts.specs.Reached.{parts_in}
use Rattle.vch_parts.proofs.framing.Sides.{as_many_parts, set_work, side_at}

-- no item is lost
pub as_many : {A : Type 0} (items : List A) (t : ℕ) (x : A) → length (set_task items t x) ≡ length items
as_many items t x = as_long items t x

pub parts_range : (ds : List Desk) (fs : List Working) → length (parts_in ds fs) ≤ length fs
parts_range = as_many_parts

-- a frame that is put where another was taken
pub put_taken : (ds : List Desk) (fs : List Working) (t : ℕ) (f : Option Frame) → 0 < t → t - 1 < length (parts_in ds fs)
    → parts_in ds (with_frame_of (with_frame_of fs t None) t f) ≡ set_task (parts_in ds fs) t (with_frame (at_task (parts_in ds fs) t idle_part) f)
put_taken ds fs zero f p l = absurd (omega (arith, p))
put_taken ds fs (suc i) f p l =
    let w = get_or fs i resting in
    let e : working_of (with_frame_of fs (suc i) None) (suc i) ≡ record w { frame = None } = get_or-set_same fs i (record w { frame = None }) resting (omega (arith, l, parts_range ds fs)) in
    ap (parts_in ds) (ap (λ (w : Working). set (with_frame_of fs (suc i) None) i (record w { frame = f })) e ∙ set-set fs i (record w { frame = None }) (record w { frame = f }))
    ∙ (set_work ds fs (suc i) (record w { frame = f }) p ∙ ap (λ (x : Part). set (parts_in ds fs) i (with_frame x f)) (sym (side_at ds fs (suc i) p l)))

-- a task's frame in the parts, and how many calls it has begun
pub frame_at : (ds : List Desk) (fs : List Working) (t : ℕ) → 0 < t → t - 1 < length (parts_in ds fs) → ((at_task (parts_in ds fs) t idle_part).frame ≡ (working_of fs t).frame) × ((at_task (parts_in ds fs) t idle_part).begun ≡ (working_of fs t).begun)
frame_at ds fs t p l = let e = side_at ds fs t p l in (ap (λ (x : Part). x.frame) e, ap (λ (x : Part). x.begun) e)

one_more : (i : ℕ) → suc i ≡ i + 1
one_more i = omega arith

pub resting_next : (n : ℕ) → all_resting n ++ resting ∷ [] ≡ all_resting (n + 1)
resting_next n = next n ∙ ap all_resting (one_more n)
  where
    next : (n : ℕ) → all_resting n ++ resting ∷ [] ≡ all_resting (suc n)
    next zero = refl
    next (suc n) = ap (λ t. resting ∷ t) (next n)
