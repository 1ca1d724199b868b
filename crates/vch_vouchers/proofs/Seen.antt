-- The desks that callers see, and those that are kept.
use Rattle.std.proofs.Common.{◌≡◌, ◌≤◌, ◌+◌, ℕ, List, [], ◌∷◌, length, map, slice_get, Option, None, Some, refl, sym, ap, ◌∙◌, subst, arith}
use Rattle.std.proofs.lemmas.List.{length-map}
use Rattle.std.specs.Option.{IfSome, IsSome, option_map, option_to_list}
use Rattle.vch_base.specs.Slots.{slot_at}
use Rattle.vch_base.specs.Tasks.{set_task}
use Rattle.vch_base.proofs.CallerLemmas.{as_long}
use Rattle.vch_table.specs.declared.table.Cell.{Cell}
use Rattle.vch_table.specs.Vouchers.{Vouchers}
use Rattle.vch_ports.specs.declared.mail.Message as mail
use Rattle.vch_vouchers.specs.declared.desks.SlotDesk.{SlotDesk}
use Rattle.vch_vouchers.specs.Desks.{Desk, Voucher, desk, orphaned}
use Rattle.vch_vouchers.specs.Slots.{Balanced, IsHeld, Releases, desk_at, desks_at, message_at, message_slots, name_slots, slot_desk, slots_at, times, voucher_at}
use Rattle.vch_vouchers.proofs.Known.{AllLive, IsLive, settled}
use Rattle.vch_vouchers.proofs.Pictures.{desk_is, desks_length, desks_set}
use Rattle.vch_vouchers.proofs.Steps.{referred_live, some_is}
use Rattle.vch_vouchers.proofs.Times.{balanced_set, first_once, in_first, referred_by}

module _ (table : List (Option Cell)) (ds : List SlotDesk) (seen : List Desk) (is : desks_at table ds ≡ seen) (t : ℕ) (task : (1 ≤ t) × (t ≤ length seen)) where
  pub inside : (1 ≤ t) × (t ≤ length ds)
  inside = (task.0, omega (arith, task.1, desks_length table ds, ap length is))

  pub desk_seen : desk seen t ≡ desk_at table (slot_desk ds t)
  desk_seen = ap (λ d. desk d t) (sym is) ∙ desk_is table ds t inside.0 inside.1

  -- a queue that has room has it
  pub room_seen : (length (desk seen t).queue ≡ (desk seen t).limit → ⊥) → length (slot_desk ds t).mail.messages ≡ (slot_desk ds t).mail.limit → ⊥
  room_seen room e = room (ap (λ (d : Desk). length d.queue) desk_seen ∙ length-map (slot_desk ds t).mail.messages (message_at table) ∙ e ∙ sym (ap (λ (d : Desk). d.limit) desk_seen))

  -- the first message
  pub first_seen : slice_get (desk seen t).queue 0 ≡ option_map (message_at table) (slice_get (slot_desk ds t).mail.messages 0)
  first_seen = ap (λ (d : Desk). slice_get d.queue 0) desk_seen ∙ by (slot_desk ds t).mail.messages
    where
      by : (qs : List mail.Message) → slice_get (map (message_at table) qs) 0 ≡ option_map (message_at table) (slice_get qs 0)
      by [] = refl
      by (q ∷ qs) = refl

-- the slots of a task are live
pub task_live : (table : List (Option Cell)) (vouchers : Vouchers table) (ds : List SlotDesk) (hand : List ℕ) (t : ℕ) → Balanced table ds hand → (1 ≤ t) × (t ≤ length ds) → AllLive table vouchers (slots_at (slot_desk ds t))
task_live table vouchers ds hand t b n s l = referred_live table ds hand b s (let a = referred_by s ds t n.0 n.1 in omega (arith, a, l))

pub names_live : (table : List (Option Cell)) (vouchers : Vouchers table) (ds : List SlotDesk) (hand : List ℕ) (t : ℕ) → Balanced table ds hand → (1 ≤ t) × (t ≤ length ds) → AllLive table vouchers (name_slots (slot_desk ds t).space.names)
names_live table vouchers ds hand t b n s l = task_live table vouchers ds hand t b n s (in_first s (name_slots (slot_desk ds t).space.names) (message_slots (slot_desk ds t).mail.messages) l)

-- and so is one that the task gives up
pub slot_live : (table : List (Option Cell)) (vouchers : Vouchers table) (ds : List SlotDesk) (hand : List ℕ) (t : ℕ) → Balanced table ds hand → (1 ≤ t) × (t ≤ length ds) → (slot : Option ℕ) → ((s : ℕ) → times s (option_to_list slot) ≤ times s (slots_at (slot_desk ds t))) → IfSome slot (λ s. IsSome (slot_at table s))
slot_live table vouchers ds hand t b n None le = tt
slot_live table vouchers ds hand t b n (Some s) le =
    let l : IsLive table vouchers s = task_live table vouchers ds hand t b n s (let a = le s in let e = first_once s [] in omega (arith, a, e)) in
    some_is (slot_at table s) l.0 l.1

-- What a call leaves: the desks that are kept stand for those that it promises, and what is handed out is an orphan.

pub record Leaves (new : List (Option Cell)) (after : List SlotDesk) (then : List Desk) (slot : Option Voucher) (answer : Option Voucher) : Type 0 where
  pub held : IsHeld new after
  pub seen : desks_at new after ≡ then
  pub orphan : answer ≡ orphaned (desks_at new after) slot

-- the desk of one task gives up a slot, or none, whose reference is given back
pub leaves : (table new : List (Option Cell)) (ds after : List SlotDesk) (seen : List Desk) (t : ℕ) (d : SlotDesk) (hand : List ℕ) (slot : Option ℕ) (answer : Option Voucher)
    → Vouchers table → Balanced table ds hand → length ds ≤ 4190000 → desks_at table ds ≡ seen → (1 ≤ t) × (t ≤ length ds)
    → ((s : ℕ) → times s (slots_at d) + times s (option_to_list slot) ≡ times s (slots_at (slot_desk ds t)) + times s hand)
    → after ≡ set_task ds t d → Releases slot table answer new → Leaves new after (set_task seen t (desk_at table d)) (option_map (voucher_at table) slot) answer
leaves table new ds after seen t d hand slot answer vouchers balanced few is n same left released =
    let b : Balanced table after (option_to_list slot) = subst (λ x. Balanced table x (option_to_list slot)) (sym left) (balanced_set table ds t d hand (option_to_list slot) n.0 n.1 balanced same) in
    let s = settled table new after slot answer vouchers b released in
    record {
      held = record { balanced = s.balanced; few = omega (arith, few, ap length left, as_long ds t d) };
      seen = s.same ∙ ap (desks_at table) left ∙ desks_set table ds t d ∙ ap (λ x. set_task x t (desk_at table d)) is;
      orphan = s.orphan;
    }
