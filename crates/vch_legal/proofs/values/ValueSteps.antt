-- A Make that is answered a value, whether it is live or made so.
use Rattle.std.proofs.Common.{◌≡◌, ℕ, ◌+◌, Bool, List, [], ◌∷◌, ◌++◌, refl, true, false, not, ◌||◌, arith, sym, ap, ◌∙◌, subst, length, map, Some, None, Option}
use Rattle.vch_base.specs.Keyed.{of_key, with_key}
use Rattle.std.specs.Prelude.{if◌then◌else◌, nat_lt, is_some}
use Rattle.std.specs.List.{list_any, flat_map}
use Rattle.vch_base.specs.declared.key.Key.{Key}
use Rattle.vch_base.specs.Keys.{number_of, key_of}
use Rattle.vch_base.specs.Values.{Belongs, BelongsAt}
use Rattle.vch_base.specs.declared.value.Value.{Value}
use Rattle.vch_model.specs.declared.call.Call.{Call}
use Rattle.vch_model.specs.declared.entry.Entry.TheVariants as entries
use Rattle.vch_model.specs.declared.lists.Scenario.{Scenario}
use Rattle.vch_model.specs.Voucher.{Voucher}
use Rattle.vch_model.specs.Store as store
use Rattle.vch_model.specs.Store.{Member}
use Rattle.vch_model.specs.After.{store_after}
use Rattle.vch_machine.specs.State.{Handles, Place, Living, Frame, Machine, idle, tasked, seen, living_at, handle_of, value_of, valued, alive_of, member_of, is_held, is_empty}
use Rattle.vch_machine.specs.Frames.{with_frame}
use Rattle.vch_machine.specs.Making.{fresh_handle, minted, race_claim, on_claim, on_task, given_receipt, made_at}
use Rattle.vch_machine.specs.Next.{nth_call}
use Rattle.vch_legal.specs.Facts.{Fits, ValueFits}
use Rattle.vch_legal.specs.Tie.{Forms, moved_place, moved_keys, map_with, is_answering, is_open, IsForming, AsksAt, IsAwaited}
use Rattle.vch_legal.proofs.forming.Forming.{valued_with}
use Rattle.vch_legal.proofs.tasks.TaskItems.{none_at}
use Rattle.vch_legal.proofs.tasks.TaskLists.{IsAmong}
use Rattle.vch_legal.proofs.spots.MakeSpots.{fresh_dead}
use Rattle.vch_legal.proofs.seen.SeenHeld.{vouchers_hold, none_hold}
use Rattle.vch_legal.proofs.seen.SeenSame.{AgreeBut, members_same, member_same}
use Rattle.vch_legal.proofs.seen.SeenTasks.{seen_frame, seen_claims, own_task, frame_in, claims_task, store_with}
use Rattle.vch_legal.proofs.seen.SeenValues.{at_most_once, value_dead}
use Rattle.vch_legal.proofs.values.HeldLive.{dead_unheld, dead_unexpected}
use Rattle.vch_legal.proofs.steps.Follows.{Follows, kept_eq}
use Rattle.vch_legal.proofs.steps.Lifts.{Lives, forms_kept, map_lives}
use Rattle.vch_legal.proofs.steps.Standing.{Step}
use Rattle.vch_legal.proofs.tasks.OwnSteps.{framed_step}
use Rattle.vch_legal.proofs.steps.Nexts.{forms_in}
use Rattle.vch_legal.proofs.steps.Refusals.{Calling}
use Rattle.vch_legal.proofs.values.FoundValues.{found_value, append_other, append_here, flat_append}

-- the frame with its receipt
abbrev received_frame : Frame → Place → Frame
received_frame f p = record f { receipt = Some p; claim = on_claim (race_claim p) f.claim }

receipt_open : (f : Frame) (p : Place) → is_open (received_frame f p) ≡ true
receipt_open f p = second (not f.answered) (is_some (on_claim (race_claim p) f.claim) || not (is_empty f.lets))
  where
    second : (a d : Bool) → (a || (true || d)) ≡ true
    second a d = grind arith

given_own : (n : Machine) (t : ℕ) (f : Frame) (p : Place) → IsAmong t n.tasks → tasked (given_receipt n t f p) t
    ≡ record (tasked n t) { frame = Some (received_frame f p) }
given_own n t f p l =
    claims_task (with_frame n t (Some (record f { receipt = Some p }))) (race_claim p) t
    ∙ ap (on_task (race_claim p)) (own_task n t (record (tasked n t) { frame = Some (record f { receipt = Some p }) })
    l)

given_seen : (n : Machine) (t : ℕ) (f : Frame) (p : Place) → seen (given_receipt n t f p) ≡ seen n
given_seen n t f p = seen_claims (with_frame n t (Some (record f { receipt = Some p }))) (race_claim p)
    ∙ seen_frame n t (Some (record f { receipt = Some p }))

-- what goes on, with the receipt for a handle of the value
received_forming : (sc : Scenario) (live : List Living) (x : Member) (t begun : ℕ) (f : Frame) (v : Handles)
    (call : Call) (k : Key) (h : ℕ) (w : Voucher) → f.forming ≡ Some v → nth_call sc t begun ≡ Some call
    → valued live (with_key k (Some h) v) ≡ w → Forms sc x t call (moved_place sc.version call f.at_byte f.keys)
    (moved_keys sc.version call f.at_byte f.keys) w
    → IsAwaited sc live x t call f.at_byte f.keys v (record { key = k; handle = h })
    → IsForming sc live x t begun (Some (received_frame f (record { key = k; handle = h })))
received_forming sc live x t begun f v call k h w forming there same forms awaited =
    forms_in sc live x t begun (received_frame f (record { key = k; handle = h })) v
    (Some (record { key = k; handle = h })) call forming refl there
    (subst (λ (u : Voucher). Forms sc x t call (moved_place sc.version call f.at_byte f.keys)
    (moved_keys sc.version call f.at_byte f.keys)
    u) (sym same) forms) awaited

-- what is asked of a value
abbrev pub Asking : Scenario → ℕ → Machine → Frame → Handles → Call → Key → Value → Type 0
Asking sc t m f v call k x =
    Forms sc (member_of m.live (tasked m t)) t call f.at_byte f.keys (valued m.live v)
    × AsksAt sc (member_of m.live (tasked m t)) t call f.at_byte f.keys (valued m.live v) k x

-- a value that has a handle
found_step : (sc : Scenario) (t : ℕ) (m : Machine) (f : Frame) (v : Handles) (call : Call) (k : Key) (x : Value)
    (h : ℕ) → Fits sc m → Calling sc t m f call → f.forming ≡ Some v
    → handle_of m.live k x ≡ Some h → Forms sc (member_of m.live (tasked m t)) t call
    (moved_place sc.version call f.at_byte f.keys) (moved_keys sc.version call f.at_byte f.keys)
    (with_key k (Some x) (valued m.live v)) → Asking sc t m f v call k x
    → Step sc t m (given_receipt m t f (record { key = k; handle = h }))
found_step sc t m f v call k x h fits c forming found forms asking =
    framed_step sc t m (given_receipt m t f p) (Some (received_frame f p)) c.before
    (Follows.Quiet refl (given_seen m t f p)) (Lives.Same refl) refl
    (given_own m t f p (frame_in m t f c.frame)) (sym (ap is_answering c.frame))
    (received_forming sc m.live (member_of m.live (tasked m t)) t (tasked m t).begun f v call k h
    (with_key k (Some x) (valued m.live v)) forming c.there
    (valued_with m.live k (Some h) v ∙ ap (λ o. with_key k o (valued m.live v))
    (found_value m.live k x h (at_most_once m fits.each_once) found)) forms
    (record {
      value = x;
      there = found_value m.live k x h (at_most_once m fits.each_once) found;
      forms = asking.0;
      asked = asking.1;
    })) (receipt_open f p)
  where
    p : Place
    p = record { key = k; handle = h }

key_number : (version : ℕ) (k : Key) (x : Value) → key_of version (number_of k) ≡ Some k → Belongs k x
    → BelongsAt (key_of version (number_of k)) x
key_number version k x managed b = subst (λ (o : Option Key). BelongsAt o x) (sym managed) b

-- a value that is made live
minted_step : (sc : Scenario) (t : ℕ) (m : Machine) (f : Frame) (v : Handles) (call : Call) (k : Key) (x : Value)
    → Fits sc m → Calling sc t m f call → f.forming ≡ Some v → f.receipt ≡ None
    → handle_of m.live k x ≡ None → key_of sc.version (number_of k) ≡ Some k
    → Forms sc (member_of m.live (tasked m t)) t call
    (moved_place sc.version call f.at_byte f.keys) (moved_keys sc.version call f.at_byte f.keys)
    (with_key k (Some x) (valued m.live v)) → Asking sc t m f v call k x
    → Fits sc (given_receipt (minted m k x) t f (record { key = k; handle = fresh_handle (of_key k m.pools) }))
    → Step sc t m (given_receipt (minted m k x) t f (record { key = k; handle = fresh_handle (of_key k m.pools) }))
minted_step sc t m f v call k x fits c forming receipt absent managed forms asking fits_after =
    framed_step sc t m n (Some (received_frame f q)) c.before
    (Follows.Adds (entries.Made (number_of k) x) refl (given_seen (minted m k x) t f q ∙ store_eq members lists)
    (key_number sc.version k x managed fit.belongs, fit.tasks, value_dead sc m k x fits fit.belongs absent) tt)
    lives refl (given_own (minted m k x) t f q (frame_in m t f c.frame)) (sym (ap is_answering c.frame))
    (received_forming sc n.live (member_of n.live (tasked m t)) t (tasked m t).begun f v call k
    (fresh_handle (of_key k m.pools)) (with_key k (Some x) (valued m.live v)) forming c.there
    (valued_with n.live k (Some (fresh_handle (of_key k m.pools))) v
    ∙ (ap (λ o. with_key k (value_of o) (valued n.live v)) here ∙ ap (with_key k (Some x)) kept))
    (forms_kept sc (member_of m.live (tasked m t)) (member_of n.live (tasked m t)) t call _ _ _ (kept_eq _ _ own)
    forms)
    (record {
      value = x;
      there = ap value_of here;
      forms = subst (λ (w : Voucher). Forms sc (member_of n.live (tasked m t)) t call f.at_byte f.keys w) (sym kept)
          (forms_kept sc (member_of m.live (tasked m t)) (member_of n.live (tasked m t)) t call _ _ _ (kept_eq _ _ own)
          asking.0);
      asked = subst (λ (w : Voucher). AsksAt sc (member_of n.live (tasked m t)) t call f.at_byte f.keys w k x) (sym kept)
          (subst (λ (y : Member). AsksAt sc y t call f.at_byte f.keys (valued m.live v) k x) (sym own) asking.1);
    })) (receipt_open f q)
  where
    q : Place
    q = record { key = k; handle = fresh_handle (of_key k m.pools) }

    made : Living
    made = record {
      place = record { key = k; handle = fresh_handle (of_key k m.pools) };
      value = x;
      made = length
          m.past + 1;
    }

    n : Machine
    n = given_receipt (minted m k x) t f (record { key = k; handle = fresh_handle (of_key k m.pools) })

    dead : living_at m.live q ≡ None
    dead = fresh_dead m k fits.each_once

    here : living_at n.live q ≡ Some made
    here = append_here m.live made dead

    agree : AgreeBut q n.live m.live
    agree p other = append_other m.live made p other

    held : is_held m q ≡ false
    held = dead_unheld sc m q fits dead

    unknown : list_any (vouchers_hold q) m.tasks ≡ false
    unknown = none_hold q m.tasks held

    members : map (member_of n.live) m.tasks ≡ map (member_of m.live) m.tasks
    members = members_same n.live m.live q m.tasks agree unknown

    positive : (a : ℕ) → nat_lt 0 (a + 1) ≡ true
    positive a = grind arith

    lists : flat_map alive_of n.live ≡ (store_after sc (length m.past) (seen m) (entries.Made (number_of k) x)).live
    lists = flat_append alive_of m.live made ∙ ap
        (λ b. flat_map alive_of m.live ++ (if b then record { key = number_of k; value = x; made = length m.past + 1 }
        ∷ [] else [])) (positive (length m.past))

    store_eq : {xs ys : List Member} {us vs : List store.Alive} → xs ≡ ys → us ≡ vs → store_with xs us
        ≡ store_with ys vs
    store_eq g h = cc

    fit : ValueFits sc k x
    fit = fits_after.values q made here

    lives : Lives m n
    lives = Lives.But q agree held (dead_unexpected sc m q fits dead)

    own : member_of n.live (tasked m t) ≡ member_of m.live (tasked m t)
    own = member_same n.live m.live q (tasked m t) agree (none_at (vouchers_hold q) m.tasks t idle refl unknown)

    kept : valued n.live v ≡ valued m.live v
    kept = subst (λ (r : Option Place). valued n.live (map_with v r) ≡ valued m.live (map_with v r)) receipt
        (map_lives m n lives t f v c.frame forming)

pub value_step : (sc : Scenario) (t : ℕ) (m : Machine) (f : Frame) (v : Handles) (call : Call) (k : Key) (x : Value)
    (found : Option ℕ) → Fits sc m → Calling sc t m f call → f.forming ≡ Some v → f.receipt ≡ None
    → handle_of m.live k x ≡ found → key_of sc.version (number_of k) ≡ Some k
    → Forms sc (member_of m.live (tasked m t)) t call
    (moved_place sc.version call f.at_byte f.keys) (moved_keys sc.version call f.at_byte f.keys)
    (with_key k (Some x) (valued m.live v)) → Asking sc t m f v call k x
    → Fits sc (made_at m t f k x found) → Step sc t m (made_at m t f k x found)
value_step sc t m f v call k x (Some h) fits c forming receipt found managed forms asking after =
    found_step sc t m f v call k x h
    fits c forming found forms asking
value_step sc t m f v call k x None fits c forming receipt found managed forms asking after =
    minted_step sc t m f v call k x fits c forming receipt found managed forms asking after
