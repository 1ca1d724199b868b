-- One task is replaced, on both sides: names, queues and frames agree again, and what the pictures are made of.
use Rattle.std.proofs.Common.{◌≡◌, ◌≢◌, ℕ, zero, suc, ◌+◌, ◌-◌, ◌<◌, List, [], ◌∷◌, ◌++◌, refl, arith, sym, ap, ◌∙◌, length, get_or, subst, inl, inr}
use Rattle.std.proofs.lemmas.Bool.{cases_eq}
use Rattle.std.specs.List.{flat_map}
use Rattle.std.proofs.Math.ListN.{set}
use Rattle.vch_base.specs.declared.key.Key.{Key}
use Rattle.vch_base.specs.Tasks.{at_task, set_task}
use Rattle.vch_base.specs.Managers.{count}
use Rattle.vch_base.proofs.CallerLemmas.{own_item, other_items, as_long}
use Rattle.vch_model.specs.Store.{limit_of}
use Rattle.vch_model.specs.declared.lists.Scenario.{Scenario}
use Rattle.vch_machine.specs.State.{Machine, Tasked, tasked, idle}
use Rattle.vch_legal.proofs.CallerLemmas.{IsAmong, before, behind, all_split, all_set}
use Rattle.vch_parts.specs.Plain.{Plain, Part, part_of, idle_part}
use Rattle.vch_parts.specs.Shape.{Shape, IsTask}
use Rattle.vch_parts.specs.Pictures.{Both, both, task_holds, part_expects, both_claimed, task_vouchers}
use Rattle.vch_parts.proofs.CallerLemmas.{both_put, both_at, both_length, Keeps, task_stays}
use Rattle.vch_moves.specs.Known.{frames_in, vouchers_in}
use Rattle.vch_moves.specs.Kept.{SameFlight}
use Rattle.vch_moves.proofs.holding.Different.{count_append}

-- the task that is replaced is there
pub record Replaces (c d : Plain) (m n : Machine) (t : ℕ) (x : Part) (y : Tasked) : Type 0 where
  pub positive : 0 < t
  pub inside : t - 1 < length c.tasks
  pub parts : d.tasks ≡ set_task c.tasks t x
  pub tasks : n.tasks ≡ set_task m.tasks t y

module _ (sc : Scenario) (c d : Plain) (m n : Machine) (t : ℕ) (x : Part) (y : Tasked) (s : Shape sc c m) (r : Replaces c d m n t x y) where
  among_parts : IsAmong t c.tasks
  among_parts = (r.positive, omega (arith, r.inside))

  among_tasks : IsAmong t m.tasks
  among_tasks = (r.positive, omega (arith, s.long, r.inside))

  among_both : IsAmong t (both c.tasks m.tasks)
  among_both = (r.positive, (let l : length (both c.tasks m.tasks) ≡ length c.tasks = both_length c.tasks m.tasks s.long in omega (arith, l, r.inside)))

  -- names, queues and frames

  abbrev Fit : ℕ → Part → Tasked → Type 0
  Fit u a b = IsTask d.keyed a b × (a.limit ≡ limit_of sc u)

  module _ (stable : Keeps c.keyed d.keyed) (own : IsTask d.keyed x y) (limit : x.limit ≡ (part_of c t).limit) where
    every_task : (u : ℕ) → 0 < u → u - 1 < length c.tasks → Fit u (at_task (set_task c.tasks t x) u idle_part) (at_task (set_task m.tasks t y) u idle)
    every_task u p i = elim (cases_eq u t) [
      | inl e ↦ subst (λ v. Fit v (at_task (set_task c.tasks t x) v idle_part) (at_task (set_task m.tasks t y) v idle)) (sym e) here
      | inr q ↦ there q
    ]
      where
        here : Fit t (at_task (set_task c.tasks t x) t idle_part) (at_task (set_task m.tasks t y) t idle)
        here = subst (λ a. Fit t a (at_task (set_task m.tasks t y) t idle)) (sym (own_item c.tasks t x idle_part r.positive among_parts.1))
            (subst (λ b. Fit t x b) (sym (own_item m.tasks t y idle r.positive among_tasks.1)) (own, limit ∙ s.limits t r.positive r.inside))

        there : u ≢ t → Fit u (at_task (set_task c.tasks t x) u idle_part) (at_task (set_task m.tasks t y) u idle)
        there q = subst (λ a. Fit u a (at_task (set_task m.tasks t y) u idle)) (sym (other_items c.tasks t u x idle_part q))
            (subst (λ b. Fit u (part_of c u) b) (sym (other_items m.tasks t u y idle q)) (task_stays c.keyed d.keyed stable (part_of c u) (tasked m u) (s.tasks u p i), s.limits u p i))

    all_tasks : (u : ℕ) → 0 < u → u - 1 < length d.tasks → Fit u (part_of d u) (tasked n u)
    all_tasks u p i = subst (λ xs. Fit u (at_task xs u idle_part) (at_task n.tasks u idle)) (sym r.parts)
        (subst (λ ys. Fit u (at_task (set_task c.tasks t x) u idle_part) (at_task ys u idle)) (sym r.tasks)
        (every_task u p (subst (λ l. u - 1 < l) (ap length r.parts ∙ as_long c.tasks t x) i)))

    pub shape_one : Shape sc d n
    shape_one = record {
      long = ap length r.parts ∙ as_long c.tasks t x ∙ s.long ∙ sym (ap length r.tasks ∙ as_long m.tasks t y);
      tasks = λ u p i. (all_tasks u p i).0;
      limits = λ u p i. (all_tasks u p i).1;
    }

  -- receipts and claims

  abbrev nothing_both : Both
  nothing_both = record { part = idle_part; task = idle }

  pub flight_one : (k : Key) → part_expects k x ≡ part_expects k (part_of c t) → both_claimed k (record { part = x; task = y }) ≡ both_claimed k (record { part = part_of c t; task = tasked m t }) → SameFlight k c d m n
  flight_one k a b = record {
    receipts = ap (flat_map (part_expects k)) r.parts ∙ all_set (part_expects k) c.tasks t x among_parts
        ∙ ap (λ rs. before (part_expects k) c.tasks t ++ (rs ++ behind (part_expects k) c.tasks t)) a
        ∙ sym (all_split (part_expects k) c.tasks t idle_part among_parts);
    claims = ap (λ ps. flat_map (both_claimed k) (both ps n.tasks)) r.parts ∙ ap (λ ts. flat_map (both_claimed k) (both (set_task c.tasks t x) ts)) r.tasks
        ∙ ap (flat_map (both_claimed k)) (both_put c.tasks m.tasks t x y)
        ∙ all_set (both_claimed k) (both c.tasks m.tasks) t (record { part = x; task = y }) among_both
        ∙ ap (λ cs. before (both_claimed k) (both c.tasks m.tasks) t ++ (cs ++ behind (both_claimed k) (both c.tasks m.tasks) t))
        (b ∙ ap (both_claimed k) (sym (both_at c.tasks m.tasks t s.long)))
        ∙ sym (all_split (both_claimed k) (both c.tasks m.tasks) t nothing_both among_both);
  }

  -- the holders in frames
  pub frames_one : (k : Key) (h : ℕ) → frames_in k h n.tasks + count h (task_holds k (tasked m t)) ≡ frames_in k h m.tasks + count h (task_holds k y)
  frames_one k h =
      let f = task_holds k in
      let a : frames_in k h n.tasks ≡ count h (before f m.tasks t) + (count h (f y) + count h (behind f m.tasks t)) =
      ap (λ ts. count h (flat_map f ts)) r.tasks ∙ ap (count h) (all_set f m.tasks t y among_tasks) ∙ three (before f m.tasks t) (f y) (behind f m.tasks t) in
      let b : frames_in k h m.tasks ≡ count h (before f m.tasks t) + (count h (f (tasked m t)) + count h (behind f m.tasks t)) =
      ap (count h) (all_split f m.tasks t idle among_tasks) ∙ three (before f m.tasks t) (f (tasked m t)) (behind f m.tasks t) in
      sums _ _ _ _ _ _ a b
    where
      three : (xs ys zs : List ℕ) → count h (xs ++ (ys ++ zs)) ≡ count h xs + (count h ys + count h zs)
      three xs ys zs = count_append h xs (ys ++ zs) ∙ ap (λ i. count h xs + i) (count_append h ys zs)

      sums : (new old a b y z : ℕ) → new ≡ a + (y + b) → old ≡ a + (z + b) → new + z ≡ old + y
      sums new old a b y z p q = omega (arith, p, q)

  -- the vouchers of names and messages: those of the task, among those of the others
  pub vouchers_then : vouchers_in n.tasks ≡ before task_vouchers m.tasks t ++ (task_vouchers y ++ behind task_vouchers m.tasks t)
  vouchers_then = ap (flat_map task_vouchers) r.tasks ∙ all_set task_vouchers m.tasks t y among_tasks

  pub vouchers_now : vouchers_in m.tasks ≡ before task_vouchers m.tasks t ++ (task_vouchers (tasked m t) ++ behind task_vouchers m.tasks t)
  vouchers_now = all_split task_vouchers m.tasks t idle among_tasks

-- they stay where the task's own do
pub vouchers_stay : (m : Machine) (t : ℕ) (y : Tasked) → task_vouchers y ≡ task_vouchers (tasked m t) → vouchers_in (set_task m.tasks t y) ≡ vouchers_in m.tasks
vouchers_stay m t y e = by t e
  where
    same_from : (xs : List Tasked) (i : ℕ) → task_vouchers y ≡ task_vouchers (get_or xs i idle) → flat_map task_vouchers (set xs i y) ≡ flat_map task_vouchers xs
    same_from [] i e = refl
    same_from (x ∷ xs) zero e = ap (λ vs. vs ++ flat_map task_vouchers xs) e
    same_from (x ∷ xs) (suc i) e = ap (λ vs. task_vouchers x ++ vs) (same_from xs i e)

    by : (t : ℕ) → task_vouchers y ≡ task_vouchers (tasked m t) → vouchers_in (set_task m.tasks t y) ≡ vouchers_in m.tasks
    by zero e = refl
    by (suc i) e = same_from m.tasks i e
