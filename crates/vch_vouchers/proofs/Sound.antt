-- What is true of each desk of slots, through a change of its names, and what follows from it.
use Rattle.std.proofs.Common.{◌≡◌, ◌≤◌, ◌<◌, ◌+◌, ◌-◌, ◌*◌, ℕ, zero, suc, List, [], ◌∷◌, ◌++◌, length, map, set, get_or, Option, Some, None, Bool, true, false, cond, ◌==◌, refl, sym, ap, ◌∙◌, subst, arith}
use Rattle.std.proofs.lemmas.Bool.{ne_eqb}
use Rattle.std.proofs.lemmas.List.{get_or_default}
use Rattle.std.specs.List.{AllByRecursion, filter, flat_map}
use Rattle.std.specs.Option.{option_to_list}
use Rattle.vch_table.proofs.CallerLemmas.{by_cases}
use Rattle.vch_ports.specs.declared.space.Added.{Added}
use Rattle.vch_ports.specs.declared.space.Named as ports
use Rattle.vch_ports.specs.declared.mail.Message as mail
use Rattle.vch_ports.specs.Names.{Names, Adds, adds, AllDiffer, AllReferencesBelow, NoneHas, Spaced, by_slot, counted, given_up, is_other, less, more, new_name, slot_of}
use Rattle.vch_vouchers.specs.declared.desks.SlotDesk.{SlotDesk}
use Rattle.vch_vouchers.specs.Held.{AllSlotDesks, IsSlotDesk, IsSlotName}
use Rattle.vch_vouchers.specs.Slots.{message_slots, name_slots, no_desk, referred, slot_desk, slots_at, times}
use Rattle.vch_vouchers.proofs.Times.{test_true, times_append}

abbrev pub AllNames : List ports.Named → Type 0
AllNames ns = AllByRecursion IsSlotName ns

pub references_below : (ns : List ports.Named) → AllNames ns → AllReferencesBelow 4294967295 ns
references_below [] a = tt
references_below (n ∷ ns) a = (a.0.1, references_below ns a.1)

-- Lists of desks.

pub all_set : (ds : List SlotDesk) (i : ℕ) (d : SlotDesk) → AllSlotDesks ds → IsSlotDesk d → AllSlotDesks (set ds i d)
all_set [] i d a k = tt
all_set (x ∷ ds) zero d a k = (k, a.1)
all_set (x ∷ ds) (suc i) d a k = (a.0, all_set ds i d a.1 k)

pub all_get : (ds : List SlotDesk) (i : ℕ) (d : SlotDesk) → AllSlotDesks ds → i < length ds → IsSlotDesk (get_or ds i d)
all_get [] i d a l = absurd (omega (arith, l))
all_get (x ∷ ds) zero d a l = a.0
all_get (x ∷ ds) (suc i) d a l = all_get ds i d a.1 (omega (arith, l))

pub at_desk : (ds : List SlotDesk) (t : ℕ) → AllSlotDesks ds → 1 ≤ t → t ≤ length ds → IsSlotDesk (slot_desk ds t)
at_desk ds zero a p l = absurd (omega (arith, p))
at_desk ds (suc i) a p l = all_get ds i no_desk a (omega (arith, l))

-- the desk that is read from the list
pub record IsRead (now : List SlotDesk) (t : ℕ) (x : SlotDesk) : Type 0 where
  pub inside : t - 1 < length now
  pub its : x ≡ slot_desk now t
  pub sound : IsSlotDesk x

pub is_read : (items now : List SlotDesk) (t : ℕ) (x : SlotDesk) → items ≡ now → AllSlotDesks items → (1 ≤ t) × (t ≤ length now) → x ≡ get_or items (t - 1) x → IsRead items t x
is_read items now zero x e a n q = absurd (omega (arith, n.0))
is_read items now (suc i) x e a n q =
    let l : i < length items = omega (arith, n.1, ap (λ (y : List SlotDesk). length y) e) in
    let k : suc i - 1 ≡ i = omega arith in
    let z : x ≡ get_or items i x = subst (λ j. x ≡ get_or items j x) k q in
    record { inside = omega (arith, l); its = z ∙ get_or_default items i x no_desk l; sound = subst IsSlotDesk (sym z) (all_get items i x a l) }

-- Names that change.

names_filter : (t : ports.Named → Bool) (ns : List ports.Named) → AllNames ns → AllNames (filter t ns)
names_filter t [] a = tt
names_filter t (n ∷ ns) a = by_cases (t n) (λ b. AllNames (cond b (n ∷ filter t ns) (filter t ns))) (λ _. (a.0, names_filter t ns a.1)) (λ _. names_filter t ns a.1)

names_less : (k : ℕ) (ns : List ports.Named) → AllNames ns → AllNames (map (less k) ns)
names_less k [] a = tt
names_less k (n ∷ ns) a = (by (n.name == k), names_less k ns a.1)
  where
    by : (b : Bool) → IsSlotName (cond b (record n { references = n.references - 1 }) n)
    by true = (a.0.0, omega (arith, a.0.1))
    by false = a.0

names_push : (ns : List ports.Named) (n : ports.Named) → AllNames ns → IsSlotName n → AllNames (ns ++ n ∷ [])
names_push [] n a k = (k, tt)
names_push (x ∷ ns) n a k = (a.0, names_push ns n a.1 k)

none_more : (s : ℕ) (ns : List ports.Named) → NoneHas slot_of s ns → AllNames ns → AllNames (map (more s) ns)
none_more s [] e a = tt
none_more s (n ∷ ns) e a = rw (ne_eqb n.slot s e.0) (a.0, none_more s ns e.1 a.1)

names_more : (s : ℕ) (ns : List ports.Named) → AllDiffer slot_of ns → counted (by_slot ns s) < 4294967294 → AllNames ns → AllNames (map (more s) ns)
names_more s [] d l a = tt
names_more s (n ∷ ns) d l a = by (n.slot == s) refl l (names_more s ns d.1)
  where
    by : (b : Bool) → (n.slot == s) ≡ b → counted (cond b (Some n) (by_slot ns s)) < 4294967294 → (counted (by_slot ns s) < 4294967294 → AllNames ns → AllNames (map (more s) ns))
        → AllNames (cond b (record n { references = n.references + 1 }) n ∷ map (more s) ns)
    by true e k next = ((a.0.0, omega (arith, k)), none_more s ns (subst (λ i. NoneHas slot_of i ns) (test_true n.slot s e) d.0) a.1)
    by false e k next = (a.0, next k a.1)

pub names_added : (old new : Names) (s : ℕ) (added : Added) → Spaced old.names old.next → AllNames old.names → 1 ≤ old.next → counted (by_slot old.names s) < 4294967294 → Adds old s added new → AllNames new.names × (1 ≤ new.next)
names_added old new s added spaced a p l e = by (by_slot old.names s) refl e
  where
    by : (o : Option ports.Named) → by_slot old.names s ≡ o → adds o old s added new → AllNames new.names × (1 ≤ new.next)
    by (Some x) q e = (subst AllNames (sym e.1) (names_more s old.names spaced.slots_differ l a), omega (arith, e.2, p))
    by None q e = (subst AllNames (sym e.1) (names_push old.names (new_name old.next s) a (p, omega arith)), omega (arith, e.2))

pub names_given_up : (o : Option ports.Named) (k : ℕ) (ns : List ports.Named) → AllNames ns → AllNames (given_up o k ns)
names_given_up None k ns a = a
names_given_up (Some x) k ns a = by_cases (x.references == 1) (λ b. AllNames (cond b (filter (is_other k) ns) (map (less k) ns))) (λ _. names_filter (is_other k) ns a) (λ _. names_less k ns a)

pub names_removed : (k : ℕ) (ns : List ports.Named) → AllNames ns → AllNames (filter (is_other k) ns)
names_removed k ns a = names_filter (is_other k) ns a

-- A slot has few references.

module _ (s : ℕ) where
  no_times : (ns : List ports.Named) → NoneHas slot_of s ns → times s (name_slots ns) ≡ 0
  no_times [] e = refl
  no_times (n ∷ ns) e = rw (ne_eqb n.slot s e.0) (no_times_more (no_times ns e.1))
    where
      no_times_more : times s (name_slots ns) ≡ 0 → 0 + times s (name_slots ns) ≡ 0
      no_times_more r = omega (arith, r)

  once : (ns : List ports.Named) → AllDiffer slot_of ns → times s (name_slots ns) ≤ 1
  once [] d = omega arith
  once (n ∷ ns) d = by (n.slot == s) refl (once ns d.1)
    where
      by : (b : Bool) → (n.slot == s) ≡ b → times s (name_slots ns) ≤ 1 → cond b 1 0 + times s (name_slots ns) ≤ 1
      by true e k = let r : times s (name_slots ns) ≡ 0 = no_times ns (subst (λ i. NoneHas slot_of i ns) (test_true n.slot s e) d.0) in omega (arith, r)
      by false e k = omega (arith, k)

  queued_few : (qs : List mail.Message) → times s (message_slots qs) ≤ length qs
  queued_few [] = omega arith
  queued_few (q ∷ qs) =
      let a = times_append s (option_to_list q.slot) (message_slots qs) in
      let b : times s (option_to_list q.slot) ≤ 1 = by q.slot in
      let r : times s (message_slots qs) ≤ length qs = queued_few qs in
      omega (arith, a, b, r)
    where
      one : (b : Bool) → cond b 1 0 + 0 ≤ 1
      one true = omega arith
      one false = omega arith

      by : (o : Option ℕ) → times s (option_to_list o) ≤ 1
      by None = omega arith
      by (Some i) = one (i == s)

  all_few : (ds : List SlotDesk) → AllSlotDesks ds → times s (flat_map slots_at ds) ≤ 1025 * length ds
  all_few [] a = omega arith
  all_few (d ∷ ds) a =
      let b = times_append s (slots_at d) (flat_map slots_at ds) in
      let e = times_append s (name_slots d.space.names) (message_slots d.mail.messages) in
      let f = once d.space.names a.0.spaced.slots_differ in
      let g = queued_few d.mail.messages in
      let h = a.0.boxed in
      let r : times s (flat_map slots_at ds) ≤ 1025 * length ds = all_few ds a.1 in
      omega (arith, b, e, f, g, h.few, h.within, r)

  pub referred_few : (ds : List SlotDesk) → AllSlotDesks ds → referred s ds ≤ 1025 * length ds
  unfolding referred
  referred_few ds a = all_few ds a
