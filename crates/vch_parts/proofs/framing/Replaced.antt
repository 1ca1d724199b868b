-- A frame of one task is replaced: what the picture of a key is then, and that names, queues and frames still agree.
use Rattle.vch_base.specs.Tasks.{at_task, set_task}
use Rattle.vch_base.proofs.CallerLemmas.{own_item, other_items, as_long}
use Rattle.std.proofs.Common.{◌≡◌, ◌≢◌, ℕ, ◌-◌, ◌<◌, List, ◌++◌, refl, arith, sym, ap, ◌∙◌, length, append_assoc, subst, Option, inl, inr}
use Rattle.std.proofs.lemmas.Bool.{cases_eq}
use Rattle.std.specs.List.{flat_map}
use Rattle.vch_base.specs.declared.key.Key.{Key}
use Rattle.vch_value.specs.Flight.{Receipt}
use Rattle.vch_value.specs.Picture.{Picture, Claimed}
use Rattle.vch_model.specs.Store.{limit_of}
use Rattle.vch_model.specs.declared.lists.Scenario.{Scenario}
use Rattle.vch_machine.specs.State as machine
use Rattle.vch_machine.specs.State.{Handles, Machine, Tasked, tasked, idle}
use Rattle.vch_legal.proofs.CallerLemmas.{IsAmong, before, behind, all_split, all_set}
use Rattle.vch_parts.specs.declared.frame.Frame.{Frame}
use Rattle.vch_parts.specs.Plain.{Plain, Part, part_of, idle_part, with_frame}
use Rattle.vch_parts.specs.Shape.{Shape, IsTask}
use Rattle.vch_parts.specs.Pictures.{Both, both, picture_of, task_holds, part_expects, both_claimed, frame_holds, receipts_of, frame_claimed, voucher_holds, known_vouchers, task_vouchers, different}
use Rattle.vch_parts.proofs.framing.Boths.{both_put, both_at, both_length}

abbrev pub pictured : List ℕ → List Receipt → List Claimed → Picture
pictured a b c = record { holders = a; receipts = b; claims = c }

picture_is : (a a2 : List ℕ) (b b2 : List Receipt) (c c2 : List Claimed) → a ≡ a2 → b ≡ b2 → c ≡ c2 → pictured a b c ≡ pictured a2 b2 c2
picture_is a a2 b b2 c c2 x y z = rw (x, y, z) refl

-- the task with another frame
abbrev pub framed : Tasked → Option machine.Frame → Tasked
framed x g = record x { frame = g }

abbrev nothing_both : Both
nothing_both = record { part = idle_part; task = idle }

module _ (k : Key) (c : Plain) (m : Machine) (t : ℕ) where
  abbrev known : List ℕ
  known = flat_map (voucher_holds k) (known_vouchers m.tasks)

  -- what stands before and behind a task's own
  abbrev pub held_before : List ℕ
  held_before = before (task_holds k) m.tasks t

  abbrev pub held_behind : List ℕ
  held_behind = behind (task_holds k) m.tasks t ++ known

  abbrev pub receipts_before : List Receipt
  receipts_before = before (part_expects k) c.tasks t

  abbrev pub receipts_behind : List Receipt
  receipts_behind = behind (part_expects k) c.tasks t

  abbrev pub claims_before : List Claimed
  claims_before = before (both_claimed k) (both c.tasks m.tasks) t

  abbrev pub claims_behind : List Claimed
  claims_behind = behind (both_claimed k) (both c.tasks m.tasks) t

  -- the picture where the task has these frames
  abbrev pub picture_by : Option Frame → Option machine.Frame → Picture
  picture_by f g = pictured (held_before ++ (frame_holds k g ++ held_behind)) (receipts_before ++ (receipts_of k f ++ receipts_behind)) (claims_before ++ (frame_claimed k f g ++ claims_behind))

  module _ (positive : 0 < t) (long : length c.tasks ≡ length m.tasks) (inside : t - 1 < length c.tasks) where
    among_parts : IsAmong t c.tasks
    among_parts = (positive, omega (arith, inside))

    among_tasks : IsAmong t m.tasks
    among_tasks = (positive, omega (arith, long, inside))

    among_both : IsAmong t (both c.tasks m.tasks)
    among_both = (positive, (let l : length (both c.tasks m.tasks) ≡ length c.tasks = both_length c.tasks m.tasks long in omega (arith, l, inside)))

    pub picture_now : picture_of k c m ≡ picture_by (part_of c t).frame (tasked m t).frame
    picture_now = picture_is _ _ _ _ _ _
        (ap (λ x. x ++ known) (all_split (task_holds k) m.tasks t idle among_tasks) ∙ simp append_assoc)
        (all_split (part_expects k) c.tasks t idle_part among_parts)
        (all_split (both_claimed k) (both c.tasks m.tasks) t nothing_both among_both
        ∙ ap (λ b. claims_before ++ (both_claimed k b ++ claims_behind)) (both_at c.tasks m.tasks t long))

    module _ (d : Plain) (n : Machine) (f : Option Frame) (g : Option machine.Frame)
        (parts : d.tasks ≡ set_task c.tasks t (with_frame (part_of c t) f))
        (tasks : n.tasks ≡ set_task m.tasks t (framed (tasked m t) g)) where
      -- names and messages stay
      vouchers_stay : flat_map task_vouchers n.tasks ≡ flat_map task_vouchers m.tasks
      vouchers_stay = ap (flat_map task_vouchers) tasks ∙ all_set task_vouchers m.tasks t (framed (tasked m t) g) among_tasks ∙ sym (all_split task_vouchers m.tasks t idle among_tasks)

      pub picture_then : picture_of k d n ≡ picture_by f g
      picture_then = picture_is _ _ _ _ _ _
          (ap (λ x. x ++ flat_map (voucher_holds k) (known_vouchers n.tasks)) (ap (flat_map (task_holds k)) tasks ∙ all_set (task_holds k) m.tasks t (framed (tasked m t) g) among_tasks)
          ∙ ap (λ vs. (held_before ++ (frame_holds k g ++ behind (task_holds k) m.tasks t)) ++ flat_map (voucher_holds k) (different vs)) vouchers_stay ∙ simp append_assoc)
          (ap (flat_map (part_expects k)) parts ∙ all_set (part_expects k) c.tasks t (with_frame (part_of c t) f) among_parts)
          (rw (parts, tasks) (ap (flat_map (both_claimed k)) (both_put c.tasks m.tasks t (with_frame (part_of c t) f) (framed (tasked m t) g))
          ∙ all_set (both_claimed k) (both c.tasks m.tasks) t (record { part = with_frame (part_of c t) f; task = framed (tasked m t) g }) among_both))

      -- it stays where the frames hold, expect and claim the same
      pub picture_same : frame_holds k g ≡ frame_holds k (tasked m t).frame → receipts_of k f ≡ receipts_of k (part_of c t).frame
          → frame_claimed k f g ≡ frame_claimed k (part_of c t).frame (tasked m t).frame → picture_of k d n ≡ picture_of k c m
      picture_same a b e = picture_then ∙ picture_is _ _ _ _ _ _
          (ap (λ x. held_before ++ (x ++ held_behind)) a) (ap (λ x. receipts_before ++ (x ++ receipts_behind)) b) (ap (λ x. claims_before ++ (x ++ claims_behind)) e)
          ∙ sym picture_now

-- The shape.

same_task : (t u : ℕ) → 0 < t → 0 < u → u - 1 ≡ t - 1 → u ≡ t
same_task t u a b e = omega arith

module _ (sc : Scenario) (c : Plain) (m : Machine) (t : ℕ) (positive : 0 < t) (inside : t - 1 < length c.tasks) (s : Shape sc c m)
    (d : Plain) (n : Machine) (f : Option Frame) (g : Option machine.Frame)
    (parts : d.tasks ≡ set_task c.tasks t (with_frame (part_of c t) f))
    (tasks : n.tasks ≡ set_task m.tasks t (framed (tasked m t) g))
    (others : (u : ℕ) → u - 1 ≢ t - 1 → 0 < u → u - 1 < length c.tasks → IsTask d.keyed (part_of c u) (tasked m u))
    (own : IsTask d.keyed (with_frame (part_of c t) f) (framed (tasked m t) g)) where
  abbrev Fit : ℕ → Part → Tasked → Type 0
  Fit u x z = IsTask d.keyed x z × (x.limit ≡ limit_of sc u)

  abbrev new_part : Part
  new_part = with_frame (part_of c t) f

  abbrev new_task : Tasked
  new_task = framed (tasked m t) g

  every_task : (u : ℕ) → 0 < u → u - 1 < length c.tasks → Fit u (at_task (set_task c.tasks t new_part) u idle_part) (at_task (set_task m.tasks t new_task) u idle)
  every_task u p i = elim (cases_eq u t) [
    | inl e ↦ subst (λ v. Fit v (at_task (set_task c.tasks t new_part) v idle_part) (at_task (set_task m.tasks t new_task) v idle)) (sym e) here
    | inr n ↦ there n
  ]
    where
      here : Fit t (at_task (set_task c.tasks t new_part) t idle_part) (at_task (set_task m.tasks t new_task) t idle)
      here = subst (λ x. Fit t x (at_task (set_task m.tasks t new_task) t idle)) (sym (own_item c.tasks t new_part idle_part positive (omega (arith, inside))))
          (subst (λ z. Fit t new_part z) (sym (own_item m.tasks t new_task idle positive (omega (arith, s.long, inside)))) (own, s.limits t positive inside))

      there : u ≢ t → Fit u (at_task (set_task c.tasks t new_part) u idle_part) (at_task (set_task m.tasks t new_task) u idle)
      there n = subst (λ x. Fit u x (at_task (set_task m.tasks t new_task) u idle)) (sym (other_items c.tasks t u new_part idle_part n))
          (subst (λ z. Fit u (part_of c u) z) (sym (other_items m.tasks t u new_task idle n)) (others u (λ e. n (same_task t u positive p e)) p i, s.limits u p i))

  all_tasks : (u : ℕ) → 0 < u → u - 1 < length d.tasks → Fit u (part_of d u) (tasked n u)
  all_tasks u p i = subst (λ xs. Fit u (at_task xs u idle_part) (at_task n.tasks u idle)) (sym parts)
      (subst (λ ys. Fit u (at_task (set_task c.tasks t new_part) u idle_part) (at_task ys u idle)) (sym tasks)
      (every_task u p (subst (λ l. u - 1 < l) (ap length parts ∙ as_long c.tasks t new_part) i)))

  pub shape_then : Shape sc d n
  shape_then = record {
    long = ap length parts ∙ as_long c.tasks t new_part ∙ s.long ∙ sym (ap length tasks ∙ as_long m.tasks t new_task);
    tasks = λ u p i. (all_tasks u p i).0;
    limits = λ u p i. (all_tasks u p i).1;
  }
