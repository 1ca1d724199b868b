-- A reference of the table is taken or given back: the counts, and the vouchers of the slots that are referred to.
use Rattle.std.proofs.Common.{◌≡◌, ◌≢◌, ◌≤◌, ◌+◌, ◌-◌, ℕ, List, [], ◌∷◌, nat_lt, IsSome, Option, Some, None, Bool, true, false, cond, ◌==◌, inl, inr, refl, sym, ap, ◌∙◌, arith}
use Rattle.std.proofs.lemmas.Grind.{common_steps}
use Rattle.std.proofs.lemmas.Bool.{cases_eq, ne_eqb}
use Rattle.vch_base.specs.Slots.{slot_at, Writes}
use Rattle.vch_table.specs.declared.table.Cell.{Cell}
use Rattle.vch_table.specs.declared.table.Met.{Met}
use Rattle.vch_table.specs.Vouchers.{Vouchers, given_back, less, meets, more, new_cell, references_at, references_of}
use Rattle.vch_vouchers.specs.declared.desks.SlotDesk.{SlotDesk}
use Rattle.vch_vouchers.specs.Desks.{Voucher}
use Rattle.vch_vouchers.specs.Slots.{Balanced, referred, voucher_at}
use Rattle.vch_vouchers.proofs.Pictures.{voucher_is, voucher_same}
use Rattle.vch_vouchers.proofs.Times.{test_is, test_same, test_true}

-- the references of all slots after one write
written : (old new : List (Option Cell)) (i n m : ℕ) (o : Option Cell) → references_at old i ≡ n → references_of o ≡ m → Writes old new i o → (r : ℕ) → references_at new r + cond (i == r) n 0 ≡ references_at old r + cond (i == r) m 0
written old new i n m o was now w r = elim (cases_eq r i) [
  | inl q ↦ here q
  | inr q ↦ rw (ne_eqb i r (λ e. q (sym e))) (ap (λ k. references_of k + 0) (w.others r q))
]
  where
    here : r ≡ i → references_at new r + cond (i == r) n 0 ≡ references_at old r + cond (i == r) m 0
    here q =
        let a : references_at new r ≡ m = ap (references_at new) q ∙ ap references_of w.here ∙ now in
        let b : references_at old r ≡ n = ap (references_at old) q ∙ was in
        rw (test_is i r (sym q)) (omega (arith, a, b))

up : (b : Bool) (x y n : ℕ) → x + cond b n 0 ≡ y + cond b (n + 1) 0 → x ≡ y + (cond b 1 0 + 0)
up true x y n e = omega (arith, e)
up false x y n e = omega (arith, e)

down : (b : Bool) (x y z n m : ℕ) → n ≡ m + 1 → x + cond b n 0 ≡ y + cond b m 0 → y ≡ z + (cond b 1 0 + 0) → x ≡ z + 0
down true x y z n m k e f = omega (arith, k, e, f)
down false x y z n m k e f = omega (arith, k, e, f)

-- a slot with references is live
pub live_of : (table : List (Option Cell)) (s : ℕ) → 1 ≤ references_at table s → (c : Cell) × (slot_at table s ≡ Some c)
live_of table s l = by (slot_at table s) refl l
  where
    by : (o : Option Cell) → slot_at table s ≡ o → 1 ≤ references_of o → (c : Cell) × (slot_at table s ≡ Some c)
    by None e k = absurd (omega (arith, k))
    by (Some c) e k = (c, e)

pub referred_live : (table : List (Option Cell)) (ds : List SlotDesk) (hand : List ℕ) → Balanced table ds hand → (s : ℕ) → 1 ≤ referred s ds → (c : Cell) × (slot_at table s ≡ Some c)
referred_live table ds hand b s l = live_of table s (let e = b.counts s in omega (arith, e, l))

pub some_is : (o : Option Cell) (c : Cell) → o ≡ Some c → IsSome o
some_is o c e = rw e refl

some_more : (n : ℕ) → 1 ≤ n → true ≡ nat_lt 0 n
some_more n l = grind (arith, common_steps)

none_more : (n : ℕ) → n ≡ 0 → false ≡ nat_lt 0 n
none_more n e = grind (arith, common_steps)

-- A voucher was met, which leaves one reference in the hand.

pub record IsMet (old new : List (Option Cell)) (ds : List SlotDesk) (v : Voucher) (met : Met) : Type 0 where
  pub balanced : Balanced new ds (met.slot ∷ [])
  pub same : (s : ℕ) → 1 ≤ referred s ds → voucher_at new s ≡ voucher_at old s
  pub its : voucher_at new met.slot ≡ v
  pub there : IsSome (slot_at new met.slot)
  pub was : met.was_there ≡ nat_lt 0 (referred met.slot ds)

module _ (old new : List (Option Cell)) (ds : List SlotDesk) (v : Voucher) (met : Met) (vouchers : Vouchers old) (balanced : Balanced old ds []) where
  counted : (n : ℕ) (c : Cell) → references_at old met.slot ≡ n → c.references ≡ n + 1 → Writes old new met.slot (Some c) → Balanced new ds (met.slot ∷ [])
  counted n c was now w = record {
    counts = λ r.
        let a = balanced.counts r in
        let b = written old new met.slot n (n + 1) (Some c) was now w r in
        let d = up (met.slot == r) (references_at new r) (references_at old r) n b in
        omega (arith, a, d);
  }

  pub is_met : meets (slot_at old met.slot) old v met new → IsMet old new ds v met
  is_met e = by (slot_at old met.slot) refl e
    where
      by : (o : Option Cell) → slot_at old met.slot ≡ o → meets o old v met new → IsMet old new ds v met
      by (Some c) q m = record {
        balanced = counted c.references (more c) (ap references_of q) refl m.2;
        same = λ s l. elim (cases_eq s met.slot) [
          | inl k ↦ ap (voucher_at new) k ∙ voucher_is new met.slot (more c) m.2.here ∙ sym (ap (voucher_at old) k ∙ voucher_is old met.slot c q)
          | inr k ↦ voucher_same old new s (m.2.others s k)
        ];
        its = voucher_is new met.slot (more c) m.2.here ∙ m.1;
        there = some_is (slot_at new met.slot) (more c) m.2.here;
        was = m.0 ∙ some_more (referred met.slot ds) (let a = balanced.counts met.slot in let b = vouchers.referred met.slot c q in let d : references_at old met.slot ≡ c.references = ap references_of q in omega (arith, a, b, d));
      }
      by None q m = record {
        balanced = counted 0 (new_cell v) (ap references_of q) refl m.2;
        same = λ s l. elim (cases_eq s met.slot) [
          | inl k ↦ absurd (let a = balanced.counts s in let d : references_at old s ≡ 0 = ap (references_at old) k ∙ ap references_of q in omega (arith, a, d, l))
          | inr k ↦ voucher_same old new s (m.2.others s k)
        ];
        its = voucher_is new met.slot (new_cell v) m.2.here;
        there = some_is (slot_at new met.slot) (new_cell v) m.2.here;
        was = m.0 ∙ none_more (referred met.slot ds) (let a = balanced.counts met.slot in let d : references_at old met.slot ≡ 0 = ap references_of q in omega (arith, a, d));
      }

-- A reference in the hand was given back.

pub record IsReleased (old new : List (Option Cell)) (ds : List SlotDesk) (slot : ℕ) (answer : Option Voucher) : Type 0 where
  pub balanced : Balanced new ds []
  pub same : (s : ℕ) → 1 ≤ referred s ds → voucher_at new s ≡ voucher_at old s
  pub told : answer ≡ cond (nat_lt 0 (referred slot ds)) None (Some (voucher_at old slot))

module _ (old new : List (Option Cell)) (ds : List SlotDesk) (slot : ℕ) (answer : Option Voucher) (vouchers : Vouchers old) (balanced : Balanced old ds (slot ∷ [])) where
  own : references_at old slot ≡ referred slot ds + 1
  own = let a = balanced.counts slot in let b : (slot == slot) ≡ true = test_same slot in rw b at a ∙ one_only (referred slot ds)
    where
      one_only : (n : ℕ) → n + (1 + 0) ≡ n + 1
      one_only n = omega arith

  uncounted : (n m : ℕ) (o : Option Cell) → n ≡ m + 1 → references_at old slot ≡ n → references_of o ≡ m → Writes old new slot o → Balanced new ds []
  uncounted n m o k was now w = record {
    counts = λ r. down (slot == r) (references_at new r) (references_at old r) (referred r ds) n m k (written old new slot n m o was now w r) (balanced.counts r);
  }

  pub is_released : (c : Cell) → slot_at old slot ≡ Some c → answer ≡ given_back c → Writes old new slot (less c) → IsReleased old new ds slot answer
  is_released c is told w = by (c.references == 1) refl told w
    where
      was : references_at old slot ≡ c.references
      was = ap references_of is

      some : 1 ≤ c.references
      some = vouchers.referred slot c is

      one_less : (n : ℕ) → 1 ≤ n → n ≡ n - 1 + 1
      one_less n l = omega (arith, l)

      by : (b : Bool) → (c.references == 1) ≡ b → answer ≡ cond b (Some c.indices) None → Writes old new slot (cond b None (Some (record c { references = c.references - 1 }))) → IsReleased old new ds slot answer
      by true e t v =
          let last : c.references ≡ 1 = test_true c.references 1 e in
          let none : referred slot ds ≡ 0 = omega (arith, last, was, own) in
          record {
            balanced = uncounted 1 0 None (omega arith) (was ∙ last) refl v;
            same = λ s l. elim (cases_eq s slot) [
              | inl k ↦ absurd (let z : referred s ds ≡ 0 = ap (λ i. referred i ds) k ∙ none in omega (arith, z, l))
              | inr k ↦ voucher_same old new s (v.others s k)
            ];
            told = t ∙ ap Some (sym (voucher_is old slot c is)) ∙ ap (λ b. cond b None (Some (voucher_at old slot))) (none_more (referred slot ds) none);
          }
      by false e t v =
          let left : 1 ≤ referred slot ds = let z : c.references ≢ 1 = (λ k. let y : (c.references == 1) ≡ true = test_is c.references 1 k in cc) in grind (arith, z, was, own, some) in
          record {
            balanced = uncounted c.references (c.references - 1) (Some (record c { references = c.references - 1 })) (one_less c.references some) was refl v;
            same = λ s l. elim (cases_eq s slot) [
              | inl k ↦ ap (voucher_at new) k ∙ voucher_is new slot (record c { references = c.references - 1 }) v.here ∙ sym (ap (voucher_at old) k ∙ voucher_is old slot c is)
              | inr k ↦ voucher_same old new s (v.others s k)
            ];
            told = t ∙ ap (λ b. cond b None (Some (voucher_at old slot))) (some_more (referred slot ds) left);
          }
