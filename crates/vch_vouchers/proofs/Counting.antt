-- How many different vouchers there are: as many as live slots.
use Rattle.std.proofs.Common.{◌≡◌, ◌≤◌, ◌<◌, ◌+◌, ℕ, zero, suc, List, [], ◌∷◌, length, map, nat_lt, Option, Some, None, Bool, true, false, cond, ◌==◌, inl, inr, refl, sym, ap, ◌∙◌, arith}
use Rattle.std.proofs.lemmas.Grind.{common_steps}
use Rattle.std.proofs.lemmas.Bool.{cases_eq, ne_eqb}
use Rattle.std.proofs.lemmas.List.Sums.{sum_by-cons}
use Rattle.std.specs.List.{flat_map, count_by}
use Rattle.vch_base.specs.Slots.{slot_at, is_taken}
use Rattle.vch_base.proofs.CallerLemmas.{place_of}
use Rattle.vch_table.specs.declared.table.Cell.{Cell}
use Rattle.vch_table.specs.Vouchers.{Vouchers, live_slots, references_of}
use Rattle.vch_vouchers.specs.declared.desks.SlotDesk.{SlotDesk}
use Rattle.vch_vouchers.specs.Desks.{all_vouchers, different}
use Rattle.vch_vouchers.specs.Slots.{Balanced, desks_at, referred, slots_at, times, voucher_at}
use Rattle.vch_vouchers.proofs.Known.{AllLive, among_is}
use Rattle.vch_vouchers.proofs.Pictures.{all_are}
use Rattle.vch_vouchers.proofs.Steps.{referred_live}
use Rattle.vch_vouchers.proofs.Times.{first_once, later, test_is}

-- how many of the places of a table, from a number on, are in a list of slots
abbrev hits : List ℕ → ℕ → List (Option Cell) → ℕ
hits xs k [] = 0
hits xs k (o ∷ os) = cond (nat_lt 0 (times k xs)) 1 0 + hits xs (suc k) os

no_hits : (k : ℕ) (os : List (Option Cell)) → hits [] k os ≡ 0
no_hits k [] = refl
no_hits k (o ∷ os) = let r : hits [] (suc k) os ≡ 0 = no_hits (suc k) os in omega (arith, r)

-- live places are those that are in the list
live_hits : (xs : List ℕ) (os : List (Option Cell)) (k : ℕ) → ((i j : ℕ) → j ≡ i + k → i < length os → is_taken (slot_at os i) ≡ nat_lt 0 (times j xs)) → count_by is_taken os ≡ hits xs k os
live_hits xs [] k h = refl
live_hits xs (o ∷ os) k h =
    let a : is_taken o ≡ nat_lt 0 (times k xs) = h zero k (omega arith) (omega arith) in
    let r : count_by is_taken os ≡ hits xs (suc k) os = live_hits xs os (suc k) (λ i j e l. h (suc i) j (omega (arith, e)) (omega (arith, l))) in
    let s : count_by is_taken (o ∷ os) ≡ cond (is_taken o) 1 0 + count_by is_taken os = sum_by-cons (λ (x : Option Cell). cond (is_taken x) 1 0) o os in
    s ∙ rw (a, r) refl

miss : (x k n : ℕ) → (x ≡ k → ⊥) → nat_lt 0 (cond (x == k) 1 0 + n) ≡ nat_lt 0 n
miss x k n e = rw (ne_eqb x k e) (grind (arith, common_steps))

hit : (x k n : ℕ) → x ≡ k → nat_lt 0 (cond (x == k) 1 0 + n) ≡ true
hit x k n e = rw (test_is x k e) (grind (arith, common_steps))

-- one slot more in the list, before the places and among them

before : (x : ℕ) (xs : List ℕ) (os : List (Option Cell)) (k : ℕ) → x < k → hits (x ∷ xs) k os ≡ hits xs k os
before x xs [] k l = refl
before x xs (o ∷ os) k l = rw (miss x k (times k xs) (λ e. omega (arith, e, l)), before x xs os (suc k) (omega (arith, l))) refl

new_one : (b : Bool) (n : ℕ) → 1 + n ≡ cond b 1 0 + n + cond b 0 1
new_one true n = omega arith
new_one false n = omega arith

among : (x : ℕ) (xs : List ℕ) (os : List (Option Cell)) (k : ℕ) → k ≤ x → x < k + length os → hits (x ∷ xs) k os ≡ hits xs k os + cond (nat_lt 0 (times x xs)) 0 1
among x xs [] k l m = absurd (omega (arith, l, m))
among x xs (o ∷ os) k l m = elim (cases_eq x k) [
  | inl e ↦ rw (hit x k (times k xs) e, before x xs os (suc k) (omega (arith, e)), e) (new_one (nat_lt 0 (times k xs)) (hits xs (suc k) os))
  | inr e ↦
      let r : hits (x ∷ xs) (suc k) os ≡ hits xs (suc k) os + cond (nat_lt 0 (times x xs)) 0 1 = among x xs os (suc k) (grind (arith, l, e)) (omega (arith, m)) in
      rw (miss x k (times k xs) e, r) (omega arith)
]

module _ (table : List (Option Cell)) (vouchers : Vouchers table) where
  next : (b : Bool) (n : ℕ) → cond b n (n + 1) ≡ n + cond b 0 1
  next true n = omega arith
  next false n = refl

  different_are : (xs : List ℕ) → AllLive table vouchers xs → different (map (voucher_at table) xs) ≡ hits xs 0 table
  different_are [] all = sym (no_hits 0 table)
  different_are (x ∷ xs) all =
      let y = all x (first_once x xs) in
      let rest : AllLive table vouchers xs = (λ r l. all r (later r x xs l)) in
      let a = among_is table vouchers x xs y rest in
      let b : different (map (voucher_at table) xs) ≡ hits xs 0 table = different_are xs rest in
      let inside : x < length table = place_of table x y.0 y.1 in
      let d : hits (x ∷ xs) 0 table ≡ hits xs 0 table + cond (nat_lt 0 (times x xs)) 0 1 = among x xs table 0 (omega arith) (omega (arith, inside)) in
      rw (a, b) (next (nat_lt 0 (times x xs)) (hits xs 0 table)) ∙ sym d

  -- there are as many different vouchers as live slots
  pub count_is : (ds : List SlotDesk) → Balanced table ds [] → different (all_vouchers (desks_at table ds)) ≡ live_slots table
  unfolding referred
  count_is ds balanced = ap different (all_are table ds) ∙ different_are (flat_map slots_at ds) (λ s l. referred_live table ds [] balanced s l) ∙ sym (live_hits (flat_map slots_at ds) table 0 taken)
    where
      by : (o : Option Cell) (n : ℕ) (live : (c : Cell) → o ≡ Some c → 1 ≤ c.references) → references_of o ≡ n + 0 → is_taken o ≡ nat_lt 0 n
      by None n live e = grind (arith, common_steps)
      by (Some c) n live e = let l = live c refl in grind (arith, common_steps)

      taken : (i j : ℕ) → j ≡ i + 0 → i < length table → is_taken (slot_at table i) ≡ nat_lt 0 (times j (flat_map slots_at ds))
      taken i j e l =
          let same : i ≡ j = omega (arith, e) in
          by (slot_at table i) (times i (flat_map slots_at ds)) (λ c q. vouchers.referred i c q) (balanced.counts i) ∙ ap (λ k. nat_lt 0 (times k (flat_map slots_at ds))) same
