-- A voucher more or less in one task, among those of all, and what is let go where it was known before or is an orphan.
use Rattle.std.proofs.Common.{◌≡◌, ℕ, ◌+◌, ◌||◌, Bool, true, false, cond, List, [], ◌++◌, refl, arith, sym, ap, ◌∙◌, subst, Option, Some, None}
use Rattle.std.specs.List.{flat_map}
use Rattle.std.proofs.lemmas.List.Folds.{list_any-append}
use Rattle.vch_base.specs.declared.key.Key.{Key}
use Rattle.vch_base.specs.Managers.{count}
use Rattle.vch_base.specs.Tasks.{set_task}
use Rattle.vch_machine.specs.Naming.{is_known, places, orphaned, doubled, handles_of, same_handles}
use Rattle.vch_machine.specs.State.{Handles, Place, Tasked, Machine, tasked, idle}
use Rattle.vch_legal.proofs.CallerLemmas.{IsAmong, before, behind, all_split, all_set}
use Rattle.vch_parts.specs.Pictures.{task_vouchers, let_holds}
use Rattle.vch_moves.specs.Known.{holds_in, known_in, is_among, vouchers_in}
use Rattle.vch_moves.proofs.holding.Different.{OneMore, one_more_within, known_more, known_less}
use Rattle.vch_moves.proofs.holding.Items.{places_hold}
use Rattle.vch_moves.proofs.holding.Vouchers.{MoreBy, known_among, named_among, named_in, queued_in}

within : (o : Option Handles) (old new ahead after : List Handles) → MoreBy o old new → MoreBy o (ahead ++ (old ++ after)) (ahead ++ (new ++ after))
within None old new ahead after e = ap (λ vs. ahead ++ (vs ++ after)) e
within (Some v) old new ahead after e = one_more_within v old new ahead after e

module _ (m : Machine) (t : ℕ) (y : Tasked) (among : IsAmong t m.tasks) where
  then_ : vouchers_in (set_task m.tasks t y) ≡ before task_vouchers m.tasks t ++ (task_vouchers y ++ behind task_vouchers m.tasks t)
  then_ = all_set task_vouchers m.tasks t y among

  now_ : vouchers_in m.tasks ≡ before task_vouchers m.tasks t ++ (task_vouchers (tasked m t) ++ behind task_vouchers m.tasks t)
  now_ = all_split task_vouchers m.tasks t idle among

  pub more_in_tasks : (o : Option Handles) → MoreBy o (task_vouchers (tasked m t)) (task_vouchers y) → MoreBy o (vouchers_in m.tasks) (vouchers_in (set_task m.tasks t y))
  more_in_tasks o e = subst (λ vs. MoreBy o vs (vouchers_in (set_task m.tasks t y))) (sym now_) (subst (λ vs. MoreBy o (before task_vouchers m.tasks t ++ (task_vouchers (tasked m t) ++ behind task_vouchers m.tasks t)) vs) (sym then_)
      (within o (task_vouchers (tasked m t)) (task_vouchers y) (before task_vouchers m.tasks t) (behind task_vouchers m.tasks t) e))

  pub less_in_tasks : (o : Option Handles) → MoreBy o (task_vouchers y) (task_vouchers (tasked m t)) → MoreBy o (vouchers_in (set_task m.tasks t y)) (vouchers_in m.tasks)
  less_in_tasks o e = subst (λ vs. MoreBy o (vouchers_in (set_task m.tasks t y)) vs) (sym now_) (subst (λ vs. MoreBy o vs (before task_vouchers m.tasks t ++ (task_vouchers (tasked m t) ++ behind task_vouchers m.tasks t))) (sym then_)
      (within o (task_vouchers y) (task_vouchers (tasked m t)) (before task_vouchers m.tasks t) (behind task_vouchers m.tasks t) e))

module _ (k : Key) (h : ℕ) where
  abbrev pub lets_in : List Place → ℕ
  lets_in ps = count h (flat_map (let_holds k) ps)

  -- the handles of a voucher that was known are let go: each is held as often as before, and by who formed the voucher
  pub doubled_holds : (m : Machine) (v : Handles) (new : List Handles) → OneMore v (vouchers_in m.tasks) new → known_in k h new + lets_in (doubled m v) ≡ known_in k h (vouchers_in m.tasks) + holds_in k h v
  doubled_holds m v new e = ap (λ i. known_in k h new + i) (ap (λ b. lets_in (cond b (places v) [])) (known_among m v) ∙ by (is_among v (vouchers_in m.tasks))) ∙ known_more k h v (vouchers_in m.tasks) new e
    where
      by : (b : Bool) → lets_in (cond b (places v) []) ≡ cond b (holds_in k h v) 0
      by true = ap (count h) (places_hold k v)
      by false = refl

  -- and those of an orphan: each is held as often as it was
  pub orphaned_holds : (m : Machine) (o : Option Handles) (old : List Handles) → MoreBy o (vouchers_in m.tasks) old → known_in k h (vouchers_in m.tasks) + lets_in (orphaned m o) ≡ known_in k h old
  orphaned_holds m None old e = rw e (omega arith)
  orphaned_holds m (Some v) old e = ap (λ i. known_in k h (vouchers_in m.tasks) + i) (ap (λ b. lets_in (cond b [] (places v))) (known_among m v) ∙ by (is_among v (vouchers_in m.tasks))) ∙ known_less k h v old (vouchers_in m.tasks) e
    where
      by : (b : Bool) → lets_in (cond b [] (places v)) ≡ cond b 0 (holds_in k h v)
      by true = refl
      by false = ap (count h) (places_hold k v)

-- the vouchers are the same where those of the task are
pub vouchers_put : (m : Machine) (t : ℕ) (y z : Tasked) → IsAmong t m.tasks → task_vouchers y ≡ task_vouchers z → vouchers_in (set_task m.tasks t y) ≡ vouchers_in (set_task m.tasks t z)
vouchers_put m t y z among e = all_set task_vouchers m.tasks t y among ∙ ap (λ vs. before task_vouchers m.tasks t ++ (vs ++ behind task_vouchers m.tasks t)) e ∙ sym (all_set task_vouchers m.tasks t z among)

-- a task in two ways
pub more_put : (m : Machine) (t : ℕ) (y z : Tasked) (among : IsAmong t m.tasks) (o : Option Handles) → MoreBy o (task_vouchers y) (task_vouchers z) → MoreBy o (vouchers_in (set_task m.tasks t y)) (vouchers_in (set_task m.tasks t z))
more_put m t y z among o e = subst (λ vs. MoreBy o vs (vouchers_in (set_task m.tasks t z))) (sym (all_set task_vouchers m.tasks t y among))
    (subst (λ vs. MoreBy o (before task_vouchers m.tasks t ++ (task_vouchers y ++ behind task_vouchers m.tasks t)) vs) (sym (all_set task_vouchers m.tasks t z among))
    (within o (task_vouchers y) (task_vouchers z) (before task_vouchers m.tasks t) (behind task_vouchers m.tasks t) e))

-- the voucher of a name of a task is known
pub own_known : (m : Machine) (t : ℕ) (name : ℕ) (v : Handles) → IsAmong t m.tasks → handles_of (tasked m t).names name ≡ Some v → is_known m v ≡ true
own_known m t name v among e = known_among m v ∙ ap (is_among v) (all_split task_vouchers m.tasks t idle among)
    ∙ list_any-append (same_handles v) (before task_vouchers m.tasks t) (task_vouchers (tasked m t) ++ behind task_vouchers m.tasks t)
    ∙ ap (λ b. is_among v (before task_vouchers m.tasks t) || b) (list_any-append (same_handles v) (task_vouchers (tasked m t)) (behind task_vouchers m.tasks t)
    ∙ ap (λ b. b || is_among v (behind task_vouchers m.tasks t)) (list_any-append (same_handles v) (named_in (tasked m t).names) (queued_in (tasked m t).queue)
    ∙ ap (λ b. b || is_among v (queued_in (tasked m t).queue)) (named_among (tasked m t).names name v e)))
    ∙ either_ (is_among v (before task_vouchers m.tasks t))
  where
    either_ : (b : Bool) → (b || true) ≡ true
    either_ b = grind arith
