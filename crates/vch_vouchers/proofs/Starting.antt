-- Desks without names and messages.
use Rattle.std.proofs.Common.{Option, ◌≡◌, ◌≤◌, ◌<◌, ◌+◌, ℕ, zero, suc, List, [], ◌∷◌, ◌++◌, length, take, get_or, refl, sym, ap, ◌∙◌, subst, arith}
use Rattle.std.proofs.lemmas.List.{length-map, map-append, take_all, take_more}
use Rattle.std.specs.List.{flat_map}
use Rattle.vch_table.specs.declared.table.Cell.{Cell}
use Rattle.vch_vouchers.specs.declared.desks.SlotDesk.{SlotDesk}
use Rattle.vch_vouchers.specs.Desks.{AreLimits, Desk, empty_desk, empty_desks}
use Rattle.vch_vouchers.specs.Slots.{IsHeld, desks_at, referred, slots_at, times}
use Rattle.vch_vouchers.proofs.Pictures.{desks_length, desks_push}
use Rattle.vch_vouchers.proofs.Times.{times_append}

-- so many empty desks, of which none has a slot
pub record AreEmpty (ds : List SlotDesk) (limits : List ℕ) : Type 0 where
  pub seen : desks_at [] ds ≡ empty_desks limits
  pub none : (s : ℕ) → referred s ds ≡ 0

pub no_desks : (ds : List SlotDesk) → ds ≡ [] → AreEmpty ds []
unfolding desks_at referred
no_desks ds e = subst (λ x. AreEmpty x []) (sym e) (record { seen = refl; none = λ s. refl })

all_append : (xs ys : List SlotDesk) (s : ℕ) → times s (flat_map slots_at (xs ++ ys)) ≡ times s (flat_map slots_at xs) + times s (flat_map slots_at ys)
all_append [] ys s = omega arith
all_append (x ∷ xs) ys s =
    let a = times_append s (slots_at x) (flat_map slots_at (xs ++ ys)) in
    let b = times_append s (slots_at x) (flat_map slots_at xs) in
    let r : times s (flat_map slots_at (xs ++ ys)) ≡ times s (flat_map slots_at xs) + times s (flat_map slots_at ys) = all_append xs ys s in
    omega (arith, a, b, r)

pushed : (ds : List SlotDesk) (d : SlotDesk) (s : ℕ) → slots_at d ≡ [] → referred s ds ≡ 0 → referred s (ds ++ d ∷ []) ≡ 0
unfolding referred
pushed ds d s none e =
    let a = all_append ds (d ∷ []) s in
    let b = times_append s (slots_at d) [] in
    let z : times s (slots_at d) ≡ 0 = ap (times s) none in
    omega (arith, a, b, z, e)

pub one_desk : (ds after : List SlotDesk) (d : SlotDesk) (limits : List ℕ) (i : ℕ) → after ≡ ds ++ d ∷ [] → d.space.names ≡ [] → d.space.next ≡ 1 → d.mail ≡ record { messages = []; limit = get_or limits i 0 } → i < length limits
    → AreEmpty ds (take i limits) → AreEmpty after (take (i + 1) limits)
one_desk ds after d limits i left names next mail inside e = subst (λ x. AreEmpty x (take (i + 1) limits)) (sym left) (record {
  seen = desks_push [] ds d ∙ rw (e.seen, names, next, mail, take_more limits i 0 inside, map-append empty_desk (take i limits) (get_or limits i 0 ∷ [])) refl;
  none = λ s. pushed ds d s (rw (names, mail) refl) (e.none s);
})

pub limit_at : (limits : List ℕ) (i : ℕ) → AreLimits limits → i < length limits → (1 ≤ get_or limits i 0) × (get_or limits i 0 ≤ 1024)
limit_at [] i a l = absurd (omega (arith, l))
limit_at (n ∷ limits) zero a l = (a.0, a.1)
limit_at (n ∷ limits) (suc i) a l = limit_at limits i a.2 (omega (arith, l))

-- all of them, with a table without vouchers

module _ (table : List (Option Cell)) (ds : List SlotDesk) (limits : List ℕ) (i : ℕ) (vacant : table ≡ []) (past : length limits ≤ i) (few : length limits ≤ 4190000) (e : AreEmpty ds (take i limits)) where
  seen_all : desks_at [] ds ≡ empty_desks limits
  seen_all = e.seen ∙ ap empty_desks (take_all i limits past)

  pub start_seen : desks_at table ds ≡ empty_desks limits
  start_seen = ap (λ t. desks_at t ds) vacant ∙ seen_all

  pub start_held : IsHeld table ds
  start_held = subst (λ t. IsHeld t ds) (sym vacant) (record {
    balanced = record { counts = λ s. let a = e.none s in omega (arith, a) };
    few = let a = desks_length [] ds in let b = ap (λ (x : List Desk). length x) seen_all in let d = length-map limits empty_desk in omega (arith, a, b, d, few);
  })
