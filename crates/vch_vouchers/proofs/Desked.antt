-- What is true of every desk that callers see.
use Rattle.std.proofs.Common.{◌≡◌, ℕ, Option, List, [], ◌∷◌, map, sym, subst, arith}
use Rattle.std.proofs.lemmas.List.{length-map}
use Rattle.vch_table.specs.declared.table.Cell.{Cell}
use Rattle.vch_table.specs.Vouchers.{Vouchers}
use Rattle.vch_ports.specs.declared.space.Named as ports
use Rattle.vch_ports.specs.Names as names
use Rattle.vch_ports.specs.Names.{AllBelow, AllReferred, NoneHas, name_of, slot_of}
use Rattle.vch_vouchers.specs.declared.desks.SlotDesk.{SlotDesk}
use Rattle.vch_vouchers.specs.Desks.{AllDiffer, AreDesks, AreInUse, Desk, IsDesk, Named, NoneIs}
use Rattle.vch_vouchers.specs.Held.{AllSlotDesks, IsSlotDesk}
use Rattle.vch_vouchers.specs.Slots.{IsHeld, desk_at, desks_at, message_at, name_at, name_slots, slot_desk, voucher_at}
use Rattle.vch_vouchers.proofs.Known.{AllLive, IsLive, one_slot}
use Rattle.vch_vouchers.proofs.Seen.{desk_seen, inside, names_live}
use Rattle.vch_vouchers.proofs.Sound.{AllNames, at_desk}
use Rattle.vch_vouchers.proofs.Times.{first_once, later}

module _ (table : List (Option Cell)) where
  none_named : (k : ℕ) (ns : List ports.Named) → NoneHas name_of k ns → NoneIs (λ (n : Named). n.name) k (map (name_at table) ns)
  none_named k [] e = tt
  none_named k (n ∷ ns) e = (e.0, none_named k ns e.1)

  names_differ : (ns : List ports.Named) → names.AllDiffer name_of ns → AllDiffer (λ (n : Named). n.name) (map (name_at table) ns)
  names_differ [] e = tt
  names_differ (n ∷ ns) e = (none_named n.name ns e.0, names_differ ns e.1)

  in_use : (next : ℕ) (ns : List ports.Named) → AllNames ns → AllBelow next ns → AllReferred ns → AreInUse next (map (name_at table) ns)
  in_use next [] a b r = tt
  in_use next (n ∷ ns) a b r = (a.0.0, b.0, r.0, in_use next ns a.1 b.1 r.1)

  module _ (vouchers : Vouchers table) where
    none_has : (k : ℕ) (ns : List ports.Named) → IsLive table vouchers k → AllLive table vouchers (name_slots ns) → NoneHas slot_of k ns → NoneIs (λ (n : Named). n.voucher) (voucher_at table k) (map (name_at table) ns)
    none_has k [] y all e = tt
    none_has k (n ∷ ns) y all e = ((λ q. e.0 (one_slot table vouchers n.slot k (all n.slot (first_once n.slot (name_slots ns))) y q)), none_has k ns y (λ s l. all s (later s n.slot (name_slots ns) l)) e.1)

    vouchers_differ : (ns : List ports.Named) → AllLive table vouchers (name_slots ns) → names.AllDiffer slot_of ns → AllDiffer (λ (n : Named). n.voucher) (map (name_at table) ns)
    vouchers_differ [] all e = tt
    vouchers_differ (n ∷ ns) all e =
        let rest : AllLive table vouchers (name_slots ns) = (λ s l. all s (later s n.slot (name_slots ns) l)) in
        (none_has n.slot ns (all n.slot (first_once n.slot (name_slots ns))) rest e.0, vouchers_differ ns rest e.1)

    is_desk : (d : SlotDesk) → IsSlotDesk d → AllLive table vouchers (name_slots d.space.names) → IsDesk (desk_at table d)
    is_desk d s all = record {
      names_differ = names_differ d.space.names s.spaced.names_differ;
      vouchers_differ = vouchers_differ d.space.names all s.spaced.slots_differ;
      in_use = in_use d.space.next d.space.names s.names s.spaced.above s.spaced.referred;
      within = let a = length-map d.mail.messages (message_at table) in omega (arith, a, s.boxed.within);
      few = s.boxed.few;
    }

    pub are_desks : (ds : List SlotDesk) (seen : List Desk) → IsHeld table ds → AllSlotDesks ds → desks_at table ds ≡ seen → AreDesks seen
    are_desks ds seen held sound is t p l =
        let n = inside table ds seen is t (p, l) in
        subst IsDesk (sym (desk_seen table ds seen is t (p, l))) (is_desk (slot_desk ds t) (at_desk ds t sound n.0 n.1) (names_live table vouchers ds [] t held.balanced n))
