-- What a task holds is live.
use Rattle.std.proofs.Common.{◌≡◌, ℕ, List, [], ◌∷◌, refl, true, false, arith, ap, ◌∙◌, Some, None, Option}
use Rattle.std.specs.Prelude.{is_some}
use Rattle.std.specs.List.{list_any}
use Rattle.vch_model.specs.declared.lists.Scenario.{Scenario}
use Rattle.vch_base.specs.Keyed.{of_key}
use Rattle.vch_machine.specs.State.{Handles, Place, Living, Named, Message, Frame, Machine, idle, tasked, living_at, is_handle, has_place, option_has, frame_holds, task_holds, is_held, is_expected}
use Rattle.vch_legal.specs.Facts.{Fits, Spot, spot, spot_fits}
use Rattle.vch_legal.proofs.forming.Forming.{LiveAt}
use Rattle.vch_legal.proofs.seen.SeenNames.{LiveAll, AllLive}
use Rattle.vch_legal.proofs.tasks.TaskItems.{any_at}
use Rattle.vch_legal.proofs.facts.Choices.{not_true, both_ways, or_left, or_right, eq_refl}

holder_is_live : (s : Spot) → spot_fits s ≡ true → s.held ≡ true → s.live ≡ true
holder_is_live s h e = grind arith

expected_is_live : (s : Spot) → spot_fits s ≡ true → s.expected ≡ true → s.live ≡ true
expected_is_live s h e = grind arith

-- a handle that is not live is not held, and none expects it
pub dead_unheld : (sc : Scenario) (m : Machine) (p : Place) → Fits sc m → living_at m.live p ≡ None → is_held m p
    ≡ false
dead_unheld sc m p f e = not_true (is_held m p)
    (λ h. both_ways (holder_is_live (spot m p) (f.spots p) h) (ap is_some e))

pub dead_unexpected : (sc : Scenario) (m : Machine) (p : Place) → Fits sc m → living_at m.live p ≡ None
    → is_expected m p ≡ false
dead_unexpected sc m p f e = not_true (is_expected m p)
    (λ h. both_ways (expected_is_live (spot m p) (f.spots p) h) (ap is_some e))

-- what a task holds is held
pub task_held : (m : Machine) (t : ℕ) (p : Place) → task_holds p (tasked m t) ≡ true → is_held m p ≡ true
task_held m t p h = any_at (task_holds p) m.tasks t idle refl h

pub held_live : (sc : Scenario) (m : Machine) (t : ℕ) (p : Place) → Fits sc m → task_holds p (tasked m t) ≡ true
    → is_some (living_at m.live p) ≡ true
held_live sc m t p f h = holder_is_live (spot m p) (f.spots p) (task_held m t p h)

-- a voucher of which each place is live
pub voucher_live : (live : List Living) (v : Handles) →
    ((p : Place) → has_place v p ≡ true → is_some (living_at live p) ≡ true) → LiveAll live v
voucher_live live v h k = at_key (of_key k v) refl
  where
    at_key : (x : Option ℕ) → of_key k v ≡ x → LiveAt live k x
    at_key None e = tt
    at_key (Some i) e = h (record { key = k; handle = i }) (ap (λ o. is_handle o i) e ∙ eq_refl i)

-- the voucher that a frame forms
pub forming_live : (sc : Scenario) (m : Machine) (t : ℕ) (f : Frame) (v : Handles) → Fits sc m → (tasked m t).frame
    ≡ Some f → f.forming ≡ Some v → LiveAll m.live v
forming_live sc m t f v fits e forming = voucher_live m.live v (λ p h. held_live sc m t p fits
    (or_right _ _ (or_right (list_any (λ (q : Message). option_has q.voucher p) (tasked m t).queue)
    (frame_holds (tasked m t).frame p)
    (ap (λ g. frame_holds g p) e ∙ or_left _ _ (ap (λ o. option_has o p) forming ∙ h)))))

-- the vouchers of names
pub names_live : (sc : Scenario) (m : Machine) (t : ℕ) → Fits sc m → AllLive m.live (tasked m t).names
names_live sc m t fits = each (tasked m t).names
    (λ p h. held_live sc m t p fits (or_left (list_any (λ (n : Named). has_place n.voucher p) (tasked m t).names) _
    h))
  where
    each : (names : List Named) → ((p : Place) → list_any (λ (n : Named). has_place n.voucher p) names ≡ true
        → is_some (living_at m.live p) ≡ true) → AllLive m.live names
    each [] h = tt
    each (n ∷ names) h = (
      voucher_live m.live n.voucher (λ p g. h p (or_left (has_place n.voucher p) _ g)),
      each names
          (λ p g. h p (or_right (has_place n.voucher p) _ g)),
    )
