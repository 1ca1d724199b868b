-- What the desks of slots are, as the table or one desk changes.
use Rattle.std.proofs.Common.{◌≡◌, ◌≤◌, ℕ, zero, suc, List, [], ◌∷◌, ◌++◌, length, map, Option, Some, None, refl, ap, arith}
use Rattle.std.proofs.lemmas.List.{get_or-map, length-map, map-append, map-set}
use Rattle.std.specs.List.{flat_map}
use Rattle.std.specs.Option.{IfSome, IsSome, option_map, option_to_list}
use Rattle.vch_base.specs.Slots.{slot_at}
use Rattle.vch_base.specs.Tasks.{set_task}
use Rattle.vch_table.specs.declared.table.Cell.{Cell}
use Rattle.vch_ports.specs.declared.space.Named as ports
use Rattle.vch_ports.specs.declared.mail.Message as mail
use Rattle.vch_vouchers.specs.declared.answers.Message.{Message}
use Rattle.vch_vouchers.specs.declared.desks.SlotDesk.{SlotDesk}
use Rattle.vch_vouchers.specs.Desks.{Named, Voucher, all_vouchers, desk, vouchers_at}
use Rattle.vch_vouchers.specs.Slots.{desk_at, desks_at, message_at, message_slots, name_at, name_slots, no_desk, referred, slot_desk, slots_at, times, voucher_at, voucher_in}
use Rattle.vch_vouchers.proofs.Times.{first_once, in_first, in_second, later}

-- the voucher of a live slot
pub voucher_is : (table : List (Option Cell)) (s : ℕ) (c : Cell) → slot_at table s ≡ Some c → voucher_at table s ≡ c.indices
unfolding voucher_at
voucher_is table s c e = rw e refl

pub voucher_same : (old new : List (Option Cell)) (s : ℕ) → slot_at new s ≡ slot_at old s → voucher_at new s ≡ voucher_at old s
unfolding voucher_at
voucher_same old new s e = rw e refl

pub voucher_told : (table : List (Option Cell)) (s : ℕ) (v : Voucher) → IsSome (slot_at table s) → IfSome (slot_at table s) (λ c. v ≡ c.indices) → v ≡ voucher_at table s
unfolding voucher_at
voucher_told table s v = by (slot_at table s)
  where
    by : (o : Option Cell) → IsSome o → IfSome o (λ c. v ≡ c.indices) → v ≡ voucher_in o
    by None y e = absurd (cc)
    by (Some c) y e = e

-- The table changes, and the slots of a list keep their vouchers.

module _ (old new : List (Option Cell)) where
  abbrev pub Keeps : List ℕ → Type 0
  Keeps xs = (s : ℕ) → 1 ≤ times s xs → voucher_at new s ≡ voucher_at old s

  names_same : (ns : List ports.Named) → Keeps (name_slots ns) → map (name_at new) ns ≡ map (name_at old) ns
  names_same [] k = refl
  names_same (n ∷ ns) k = rw (k n.slot (first_once n.slot (name_slots ns)), names_same ns (λ s l. k s (later s n.slot (name_slots ns) l))) refl

  message_same : (q : mail.Message) → Keeps (option_to_list q.slot) → message_at new q ≡ message_at old q
  message_same q k = ap (λ o. record { sender = q.sender; id = q.id; voucher = o }) (by q.slot k)
    where
      by : (o : Option ℕ) → Keeps (option_to_list o) → option_map (voucher_at new) o ≡ option_map (voucher_at old) o
      by None f = refl
      by (Some s) f = ap Some (f s (first_once s []))

  messages_same : (qs : List mail.Message) → Keeps (message_slots qs) → map (message_at new) qs ≡ map (message_at old) qs
  messages_same [] k = refl
  messages_same (q ∷ qs) k =
      let a = message_same q (λ s l. k s (in_first s (option_to_list q.slot) (message_slots qs) l)) in
      let b = messages_same qs (λ s l. k s (in_second s (option_to_list q.slot) (message_slots qs) l)) in
      cc (a, b)

  desk_same : (d : SlotDesk) → Keeps (slots_at d) → desk_at new d ≡ desk_at old d
  desk_same d k =
      let a = names_same d.space.names (λ s l. k s (in_first s (name_slots d.space.names) (message_slots d.mail.messages) l)) in
      let b = messages_same d.mail.messages (λ s l. k s (in_second s (name_slots d.space.names) (message_slots d.mail.messages) l)) in
      rw (a, b) refl

  all_same : (ds : List SlotDesk) → Keeps (flat_map slots_at ds) → map (desk_at new) ds ≡ map (desk_at old) ds
  all_same [] k = refl
  all_same (d ∷ ds) k =
      let a = desk_same d (λ s l. k s (in_first s (slots_at d) (flat_map slots_at ds) l)) in
      let b = all_same ds (λ s l. k s (in_second s (slots_at d) (flat_map slots_at ds) l)) in
      cc (a, b)

  pub desks_same : (ds : List SlotDesk) → ((s : ℕ) → 1 ≤ referred s ds → voucher_at new s ≡ voucher_at old s) → desks_at new ds ≡ desks_at old ds
  unfolding referred desks_at
  desks_same ds k = all_same ds k

-- One desk changes.

module _ (table : List (Option Cell)) where
  pub desks_set : (ds : List SlotDesk) (t : ℕ) (d : SlotDesk) → desks_at table (set_task ds t d) ≡ set_task (desks_at table ds) t (desk_at table d)
  unfolding desks_at
  desks_set ds zero d = refl
  desks_set ds (suc i) d = map-set (desk_at table) ds i d

  pub desk_is : (ds : List SlotDesk) (t : ℕ) → 1 ≤ t → t ≤ length ds → desk (desks_at table ds) t ≡ desk_at table (slot_desk ds t)
  unfolding desks_at
  desk_is ds zero p l = absurd (omega (arith, p))
  desk_is ds (suc i) p l = get_or-map (desk_at table) ds i no_desk _ (omega (arith, l))

  pub desks_length : (ds : List SlotDesk) → length (desks_at table ds) ≡ length ds
  unfolding desks_at
  desks_length ds = length-map ds (desk_at table)

  pub desks_push : (ds : List SlotDesk) (d : SlotDesk) → desks_at table (ds ++ d ∷ []) ≡ desks_at table ds ++ desk_at table d ∷ []
  unfolding desks_at
  desks_push ds d = map-append (desk_at table) ds (d ∷ [])

  -- the vouchers of all names and messages are those of their slots

  of_names : (ns : List ports.Named) → map (λ (n : Named). n.voucher) (map (name_at table) ns) ≡ map (voucher_at table) (name_slots ns)
  of_names [] = refl
  of_names (n ∷ ns) = ap (λ r. voucher_at table n.slot ∷ r) (of_names ns)

  of_option : (o : Option ℕ) → option_to_list (option_map (voucher_at table) o) ≡ map (voucher_at table) (option_to_list o)
  of_option None = refl
  of_option (Some s) = refl

  of_messages : (qs : List mail.Message) → flat_map (λ (q : Message). option_to_list q.voucher) (map (message_at table) qs) ≡ map (voucher_at table) (message_slots qs)
  of_messages [] = refl
  of_messages (q ∷ qs) =
      let a = of_option q.slot in
      let b = of_messages qs in
      let d = map-append (voucher_at table) (option_to_list q.slot) (message_slots qs) in
      cc (a, b, d)

  of_desk : (d : SlotDesk) → vouchers_at (desk_at table d) ≡ map (voucher_at table) (slots_at d)
  of_desk d =
      let a = of_names d.space.names in
      let b = of_messages d.mail.messages in
      let e = map-append (voucher_at table) (name_slots d.space.names) (message_slots d.mail.messages) in
      cc (a, b, e)

  pub all_are : (ds : List SlotDesk) → all_vouchers (desks_at table ds) ≡ map (voucher_at table) (flat_map slots_at ds)
  unfolding desks_at
  all_are [] = refl
  all_are (d ∷ ds) =
      let a = of_desk d in
      let b : all_vouchers (map (desk_at table) ds) ≡ map (voucher_at table) (flat_map slots_at ds) = all_are ds in
      let e = map-append (voucher_at table) (slots_at d) (flat_map slots_at ds) in
      cc (a, b, e)
