-- What an answer that is looked at does to an entry.
use Rattle.std.proofs.Common.{◌≡◌, ℕ, ◌≤◌, ◌==◌, Bool, true, false, refl, arith, sym, ap, subst, Option, Some, None, inl, inr}
use Rattle.std.specs.Prelude.{IsSome, IfSome}
use Rattle.std.proofs.lemmas.Bool.{cases_eq}
use Rattle.vch_entry.specs.declared.table.Entry.{Entry}
use Rattle.vch_entry.specs.declared.table.Check.TheVariants as check
use Rattle.vch_entry.specs.Entries.{Entries, handle_of, entry_at, made_of, check_answer, checked, Writes}
use Rattle.vch_value.specs.Flight as flight
use Rattle.vch_value.specs.Flight.{Asked}
use Rattle.vch_value.specs.Calls.{Rechecks, claim_again}

-- the entry goes, or it stays with its handle
pub checked_cases : (e : Entry) (sync : ℕ) (agreed : Bool) (A : Type 0)
    → (checked e sync agreed ≡ None → (e.made == sync) ≡ true → check_answer e sync agreed ≡ check.Freed → A) → (handle_of (checked e sync agreed) ≡ Some e.handle → A) → A
checked_cases e sync agreed A gone stays = by (e.made == sync) agreed (e.refs == 0) refl refl refl
  where
    by : (a b z : Bool) → (e.made == sync) ≡ a → agreed ≡ b → (e.refs == 0) ≡ z → A
    by true true z p q r = gone (rw (p, q) refl) p (rw (p, q) refl)
    by true false z p q r = stays (rw (p, q) refl)
    by false b true p q r = stays (rw (p, r) refl)
    by false b false p q r = stays (rw (p, r) refl)

-- no made count rises
checked_made : (e : Entry) (sync : ℕ) (agreed : Bool) → made_of (checked e sync agreed) ≤ e.made
checked_made e sync agreed = by (e.made == sync) agreed (e.refs == 0) refl refl refl
  where
    by : (a b z : Bool) → (e.made == sync) ≡ a → agreed ≡ b → (e.refs == 0) ≡ z → made_of (checked e sync agreed) ≤ e.made
    by true true z p q r = rw (p, q) (omega arith)
    by true false z p q r = rw (p, q) (omega arith)
    by false true true p q r = rw (p, q, r) (omega arith)
    by false true false p q r = rw (p, q, r) (omega arith)
    by false false true p q r = rw (p, q, r) (omega arith)
    by false false false p q r = rw (p, q, r) (omega arith)

pub made_falls : (old new : Entries) (asked : Asked) (o : Option flight.Claim) → IsSome (entry_at old.slots asked.index) → Rechecks old asked o new → (n : ℕ) → ((i : ℕ) → made_of (entry_at old.slots i) ≤ n) → (i : ℕ) → made_of (entry_at new.slots i) ≤ n
made_falls old new asked o there call n low i = by (entry_at old.slots asked.index) refl there call
  where
    within : (e : Entry) → entry_at old.slots asked.index ≡ Some e → made_of (checked e asked.sync asked.agreed) ≤ n
    within e q =
        let a : made_of (checked e asked.sync asked.agreed) ≤ e.made = checked_made e asked.sync asked.agreed in
        let b : made_of (entry_at old.slots asked.index) ≤ n = low asked.index in
        let d : made_of (entry_at old.slots asked.index) ≡ e.made = ap made_of q in
        omega (arith, a, b, d)

    by : (x : Option Entry) → entry_at old.slots asked.index ≡ x → IsSome x
        → IfSome x (λ e. (o ≡ claim_again asked.index (check_answer e asked.sync asked.agreed)) × Writes old.slots new.slots asked.index (checked e asked.sync asked.agreed) × (old.spare ≤ new.spare)) → made_of (entry_at new.slots i) ≤ n
    by None q t e = let z : false ≡ true = t in absurd (cc)
    by (Some x) q t e = elim (cases_eq i asked.index) [
      | inl same ↦ subst (λ j. made_of (entry_at new.slots j) ≤ n) (sym same) (subst (λ u. made_of u ≤ n) (sym e.1.here) (within x q))
      | inr m ↦ subst (λ u. made_of u ≤ n) (sym (e.1.others i m)) (low i)
    ]
