-- A task gets a name for a voucher, or a message with it.
use Rattle.std.proofs.Common.{◌≡◌, ◌≤◌, ◌<◌, ◌+◌, ℕ, zero, suc, List, [], ◌∷◌, ◌++◌, length, Option, None, Some, cond, ◌==◌, Bool, true, false, refl, sym, ap, ◌∙◌, subst, arith}
use Rattle.std.proofs.lemmas.List.{map-append, set-get_or}
use Rattle.std.specs.Bool.{then_some}
use Rattle.std.specs.Option.{option_to_list}
use Rattle.std.specs.Prelude.{Err, Ok, OnErr, Result}
use Rattle.vch_base.specs.Slots.{slot_at}
use Rattle.vch_base.specs.Tasks.{at_task, set_task}
use Rattle.vch_base.proofs.CallerLemmas.{as_long}
use Rattle.vch_table.specs.declared.table.Cell.{Cell}
use Rattle.vch_table.specs.declared.table.Met.{Met}
use Rattle.vch_table.specs.Vouchers.{AreBelow, Vouchers, meets, references_of}
use Rattle.vch_ports.specs.declared.space.Added.{Added}
use Rattle.vch_ports.specs.declared.space.Named as ports
use Rattle.vch_ports.specs.declared.mail.Message as mail
use Rattle.vch_ports.specs.Names.{Adds, by_slot, counted}
use Rattle.vch_vouchers.specs.declared.desks.SlotDesk.{SlotDesk}
use Rattle.vch_vouchers.specs.Desks.{Desk, Voucher, desk, empty_desk, given, is_known, name_for, name_with, queued}
use Rattle.vch_vouchers.specs.Held.{AllSlotDesks}
use Rattle.vch_vouchers.specs.Slots.{Balanced, HasRoom, IsHeld, Releases, desk_at, desks_at, message_at, message_slots, name_slots, slot_desk, times, voucher_at, with_mail}
use Rattle.vch_vouchers.proofs.Known.{IsLive, known_is}
use Rattle.vch_vouchers.proofs.Naming.{IsGiven, is_given, times_added}
use Rattle.vch_vouchers.proofs.Pictures.{desks_same, desks_set}
use Rattle.vch_vouchers.proofs.Seen.{Leaves, desk_seen, inside, leaves, names_live}
use Rattle.vch_vouchers.proofs.Sound.{at_desk, referred_few}
use Rattle.vch_vouchers.proofs.Steps.{IsMet, is_met, live_of}
use Rattle.vch_vouchers.proofs.Times.{balanced_set, first_once, referred_by, times_append}

same_again : (items : List Desk) (t : ℕ) (d : Desk) → set_task items t (at_task items t d) ≡ items
same_again items zero d = refl
same_again items (suc i) d = set-get_or items i d

pub on_err : {A E P : Type 0} → (r : Result A E) → P → OnErr r P
on_err (Ok x) p = tt
on_err (Err e) p = p

-- references are below the most
pub all_below : (table : List (Option Cell)) (ds : List SlotDesk) → IsHeld table ds → AllSlotDesks ds → AreBelow 4294967295 table
all_below table ds held sound i = let a = held.balanced.counts i in let b = referred_few i ds sound in omega (arith, a, b, held.few)

-- room was made for a name
pub record IsRoomier (table : List (Option Cell)) (ds : List SlotDesk) (seen : List Desk) : Type 0 where
  pub held : IsHeld table ds
  pub is : desks_at table ds ≡ seen

pub roomier : (table : List (Option Cell)) (ds mid : List SlotDesk) (seen : List Desk) (t : ℕ) → IsHeld table ds → desks_at table ds ≡ seen → (1 ≤ t) × (t ≤ length seen)
    → (slot_desk mid t).space.names ≡ (slot_desk ds t).space.names → (slot_desk mid t).space.next ≡ (slot_desk ds t).space.next → mid ≡ set_task ds t (record (slot_desk ds t) { space = (slot_desk mid t).space }) → IsRoomier table mid seen
roomier table ds mid seen t held is task names next left =
    let n = inside table ds seen is t task in
    let d : SlotDesk = record (slot_desk ds t) { space = (slot_desk mid t).space } in
    let same : desk_at table d ≡ desk seen t = rw (names, next) (sym (desk_seen table ds seen is t task)) in
    record {
      held = record {
        balanced = subst (λ x. Balanced table x []) (sym left) (balanced_set table ds t d [] [] n.0 n.1 held.balanced (λ s. ap (λ ns. times s (name_slots ns ++ message_slots (slot_desk ds t).mail.messages) + 0) names));
        few = omega (arith, held.few, ap length left, as_long ds t d);
      };
      is = ap (desks_at table) left ∙ desks_set table ds t d ∙ ap (λ x. set_task x t (desk_at table d)) is ∙ ap (set_task seen t) same ∙ same_again seen t (empty_desk 0);
    }

no_name : (s : ℕ) (ns : List ports.Named) → times s (name_slots ns) ≡ 0 → by_slot ns s ≡ None
no_name s [] e = refl
no_name s (n ∷ ns) e = by (n.slot == s) e (no_name s ns)
  where
    by : (b : Bool) → cond b 1 0 + times s (name_slots ns) ≡ 0 → (times s (name_slots ns) ≡ 0 → by_slot ns s ≡ None) → cond b (Some n) (by_slot ns s) ≡ None
    by true q next = absurd (omega (arith, q))
    by false q next = next (omega (arith, q))

message_pushed : (s : ℕ) (qs : List mail.Message) (q : mail.Message) → times s (message_slots (qs ++ q ∷ [])) ≡ times s (message_slots qs) + times s (option_to_list q.slot)
message_pushed s [] q = let a = times_append s (option_to_list q.slot) [] in omega (arith, a)
message_pushed s (x ∷ qs) q =
    let a = times_append s (option_to_list x.slot) (message_slots (qs ++ q ∷ [])) in
    let b = times_append s (option_to_list x.slot) (message_slots qs) in
    let r : times s (message_slots (qs ++ q ∷ [])) ≡ times s (message_slots qs) + times s (option_to_list q.slot) = message_pushed s qs q in
    omega (arith, a, b, r)

-- a message is queued, and its slot comes out of the hand
pub sent : (table : List (Option Cell)) (ds after : List SlotDesk) (seen : List Desk) (t : ℕ) (q : mail.Message) (hand : List ℕ) → Vouchers table → Balanced table ds hand → length ds ≤ 4190000 → desks_at table ds ≡ seen → (1 ≤ t) × (t ≤ length seen)
    → ((s : ℕ) → times s (option_to_list q.slot) ≡ times s hand) → after ≡ set_task ds t (with_mail (slot_desk ds t) ((slot_desk ds t).mail.messages ++ q ∷ []))
    → Leaves table after (set_task seen t (queued (desk seen t) (message_at table q))) None None
sent table ds after seen t q hand vouchers balanced few is task same left =
    let n = inside table ds seen is t task in
    let own : SlotDesk = slot_desk ds t in
    let d : SlotDesk = with_mail own (own.mail.messages ++ q ∷ []) in
    let r = leaves table table ds after seen t d hand None None vouchers balanced few is n
    (λ s. let a = times_append s (name_slots own.space.names) (message_slots (own.mail.messages ++ q ∷ [])) in let b = times_append s (name_slots own.space.names) (message_slots own.mail.messages) in let e = message_pushed s own.mail.messages q in let f = same s in omega (arith, a, b, e, f))
    left (refl, refl) in
    let p : desk_at table d ≡ queued (desk seen t) (message_at table q) = rw (desk_seen table ds seen is t task, map-append (message_at table) own.mail.messages (q ∷ [])) refl in
    record { held = r.held; seen = r.seen ∙ ap (set_task seen t) p; orphan = r.orphan }

module _ (old mid : List (Option Cell)) (ds : List SlotDesk) (seen : List Desk) (v : Voucher) (met : Met) (before : Vouchers old) (vouchers : Vouchers mid) (held : IsHeld old ds)
    (is : desks_at old ds ≡ seen) (meeting : meets (slot_at old met.slot) old v met mid) where
  pub m : IsMet old mid ds v met
  m = is_met old mid ds v met before held.balanced meeting

  pub now : desks_at mid ds ≡ seen
  now = desks_same old mid ds m.same ∙ is

  live : IsLive mid vouchers met.slot
  live = live_of mid met.slot (let a = m.balanced.counts met.slot in let b = first_once met.slot [] in omega (arith, a, b))

  pub known : met.was_there ≡ is_known seen v
  known = m.was ∙ sym (known_is mid vouchers ds (met.slot ∷ []) m.balanced met.slot live) ∙ ap (λ d. is_known d (voucher_at mid met.slot)) now ∙ ap (is_known seen) m.its

  -- the name of the voucher has room for one more user reference
  pub has_room : (t : ℕ) → (1 ≤ t) × (t ≤ length ds) → HasRoom old v (slot_desk ds t).space.names → counted (by_slot (slot_desk ds t).space.names met.slot) < 4294967294
  has_room t n room = by (slot_at old met.slot) refl meeting
    where
      by : (o : Option Cell) → slot_at old met.slot ≡ o → meets o old v met mid → counted (by_slot (slot_desk ds t).space.names met.slot) < 4294967294
      by (Some c) q e = room met.slot c q e.1
      by None q e =
          let a = held.balanced.counts met.slot in
          let b = referred_by met.slot ds t n.0 n.1 in
          let d = times_append met.slot (name_slots (slot_desk ds t).space.names) (message_slots (slot_desk ds t).mail.messages) in
          let z : references_of (slot_at old met.slot) ≡ 0 = ap references_of q in
          let none : by_slot (slot_desk ds t).space.names met.slot ≡ None = no_name met.slot (slot_desk ds t).space.names (omega (arith, a, b, d, z)) in
          rw none (omega arith)

  pub sent_met : (after : List SlotDesk) (t sender id : ℕ) → (1 ≤ t) × (t ≤ length seen) → after ≡ set_task ds t (with_mail (slot_desk ds t) ((slot_desk ds t).mail.messages ++ record { sender = sender; id = id; slot = Some met.slot } ∷ []))
      → Leaves mid after (set_task seen t (queued (desk seen t) (record { sender = sender; id = id; voucher = Some v }))) None None
  sent_met after t sender id task left =
      let r = sent mid ds after seen t (record { sender = sender; id = id; slot = Some met.slot }) (met.slot ∷ []) vouchers m.balanced held.few now task (λ s. refl) left in
      record { held = r.held; seen = r.seen ∙ ap (λ w. set_task seen t (queued (desk seen t) (record { sender = sender; id = id; voucher = Some w }))) m.its; orphan = r.orphan }

  module _ (new : List (Option Cell)) (after : List SlotDesk) (t : ℕ) (added : Added) (answer : Option Voucher) (task : (1 ≤ t) × (t ≤ length seen)) (sound : AllSlotDesks ds)
      (adds : Adds (slot_desk ds t).space met.slot added (slot_desk after t).space) where
    n : (1 ≤ t) × (t ≤ length ds)
    n = inside mid ds seen now t task

    g : IsGiven mid vouchers met.slot live (slot_desk ds t).space (slot_desk after t).space (slot_desk ds t).mail added
    g = is_given mid vouchers met.slot live (slot_desk ds t).space (slot_desk after t).space (slot_desk ds t).mail added (at_desk ds t sound n.0 n.1).spaced (names_live mid vouchers ds (met.slot ∷ []) t m.balanced n) adds

    seen_as : desk seen t ≡ desk_at mid (slot_desk ds t)
    seen_as = desk_seen mid ds seen now t task

    pub named : added.name ≡ name_for (desk seen t) (name_with (desk seen t).names v)
    named = g.name ∙ ap (λ (x : Desk). name_for x (name_with x.names (voucher_at mid met.slot))) (sym seen_as) ∙ ap (λ w. name_for (desk seen t) (name_with (desk seen t).names w)) m.its

    pub names : after ≡ set_task ds t (record (slot_desk ds t) { space = (slot_desk after t).space }) → Releases (then_some added.was_there met.slot) mid answer new → IsRoomier new after (set_task seen t (given (desk seen t) v))
    names left released =
        let d : SlotDesk = record (slot_desk ds t) { space = (slot_desk after t).space } in
        let r = leaves mid new ds after seen t d (met.slot ∷ []) (then_some added.was_there met.slot) answer vouchers m.balanced held.few now n
        (λ s. let a = times_append s (name_slots (slot_desk after t).space.names) (message_slots (slot_desk ds t).mail.messages) in let b = times_append s (name_slots (slot_desk ds t).space.names) (message_slots (slot_desk ds t).mail.messages) in let e = times_added s (slot_desk ds t).space (slot_desk after t).space met.slot added adds in omega (arith, a, b, e))
        left released in
        let p : desk_at mid d ≡ given (desk seen t) v = g.desk ∙ ap (λ x. given x (voucher_at mid met.slot)) (sym seen_as) ∙ ap (given (desk seen t)) m.its in
        record { held = r.held; is = r.seen ∙ ap (set_task seen t) p }
