-- How often a slot is in a list, and among the slots of all desks.
use Rattle.std.proofs.Common.{◌≡◌, ◌≤◌, ◌<◌, ◌+◌, ℕ, zero, suc, List, [], ◌∷◌, ◌++◌, length, set, get_or, true, ◌==◌, arith}
use Rattle.std.proofs.lemmas.Grind.{common_steps}
use Rattle.std.specs.List.{flat_map}
use Rattle.vch_base.specs.Tasks.{set_task}
use Rattle.vch_vouchers.specs.declared.desks.SlotDesk.{SlotDesk}
use Rattle.vch_vouchers.specs.Slots.{Balanced, no_desk, referred, slot_desk, slots_at, times}

pub test_same : (a : ℕ) → (a == a) ≡ true
test_same a = grind (arith, common_steps)

pub test_is : (a b : ℕ) → a ≡ b → (a == b) ≡ true
test_is a b e = grind (arith, common_steps)

pub test_true : (a b : ℕ) → (a == b) ≡ true → a ≡ b
test_true a b e = grind (arith, common_steps)

pub first_once : (s : ℕ) (xs : List ℕ) → 1 ≤ times s (s ∷ xs)
first_once s xs = rw (test_same s) (omega arith)

pub later : (s x : ℕ) (xs : List ℕ) → 1 ≤ times s xs → 1 ≤ times s (x ∷ xs)
later s x xs l = omega (arith, l)

pub times_append : (s : ℕ) (xs ys : List ℕ) → times s (xs ++ ys) ≡ times s xs + times s ys
times_append s [] ys = omega arith
times_append s (x ∷ xs) ys = let r : times s (xs ++ ys) ≡ times s xs + times s ys = times_append s xs ys in omega (arith, r)

pub in_first : (s : ℕ) (xs ys : List ℕ) → 1 ≤ times s xs → 1 ≤ times s (xs ++ ys)
in_first s xs ys l = omega (arith, l, times_append s xs ys)

pub in_second : (s : ℕ) (xs ys : List ℕ) → 1 ≤ times s ys → 1 ≤ times s (xs ++ ys)
in_second s xs ys l = omega (arith, l, times_append s xs ys)

module _ (s : ℕ) where
  of_desks : (ds : List SlotDesk) (i : ℕ) (d : SlotDesk) → i < length ds
      → times s (flat_map slots_at (set ds i d)) + times s (slots_at (get_or ds i no_desk)) ≡ times s (flat_map slots_at ds) + times s (slots_at d)
  of_desks [] i d l = absurd (omega arith)
  of_desks (x ∷ ds) zero d l =
      let a = times_append s (slots_at x) (flat_map slots_at ds) in
      let b = times_append s (slots_at d) (flat_map slots_at ds) in
      omega (arith, a, b)
  of_desks (x ∷ ds) (suc i) d l =
      let a = times_append s (slots_at x) (flat_map slots_at ds) in
      let b = times_append s (slots_at x) (flat_map slots_at (set ds i d)) in
      let r : times s (flat_map slots_at (set ds i d)) + times s (slots_at (get_or ds i no_desk)) ≡ times s (flat_map slots_at ds) + times s (slots_at d) = of_desks ds i d (omega arith) in
      omega (arith, a, b, r)

  -- how many have a slot once the desk of one task is another
  pub referred_set : (ds : List SlotDesk) (t : ℕ) (d : SlotDesk) → 1 ≤ t → t ≤ length ds
      → referred s (set_task ds t d) + times s (slots_at (slot_desk ds t)) ≡ referred s ds + times s (slots_at d)
  unfolding referred
  referred_set ds zero d p l = absurd (omega (arith, p))
  referred_set ds (suc i) d p l = of_desks ds i d (omega (arith, l))

  within : (ds : List SlotDesk) (i : ℕ) → i < length ds → times s (slots_at (get_or ds i no_desk)) ≤ times s (flat_map slots_at ds)
  within [] i l = absurd (omega arith)
  within (x ∷ ds) zero l = let a = times_append s (slots_at x) (flat_map slots_at ds) in omega (arith, a)
  within (x ∷ ds) (suc i) l =
      let a = times_append s (slots_at x) (flat_map slots_at ds) in
      let r : times s (slots_at (get_or ds i no_desk)) ≤ times s (flat_map slots_at ds) = within ds i (omega arith) in
      omega (arith, a, r)

  -- what one desk has is had
  pub referred_by : (ds : List SlotDesk) (t : ℕ) → 1 ≤ t → t ≤ length ds → times s (slots_at (slot_desk ds t)) ≤ referred s ds
  unfolding referred
  referred_by ds zero p l = absurd (omega (arith, p))
  referred_by ds (suc i) p l = within ds i (omega (arith, l))

-- the desk of a task is another, and what it gives up or takes is taken from the hand or goes there
pub balanced_set : (table : _) (ds : List SlotDesk) (t : ℕ) (d : SlotDesk) (hand after : List ℕ) → 1 ≤ t → t ≤ length ds → Balanced table ds hand
    → ((s : ℕ) → times s (slots_at d) + times s after ≡ times s (slots_at (slot_desk ds t)) + times s hand) → Balanced table (set_task ds t d) after
balanced_set table ds t d hand after p l b same = record {
  counts = λ s. let a = b.counts s in let e = same s in let r = referred_set s ds t d p l in omega (arith, a, e, r);
}
