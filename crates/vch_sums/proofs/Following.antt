-- Each entry takes the sums of a history to those of the history with it.
use Rattle.std.proofs.Common.{◌≡◌, ℕ, ◌+◌, ◌-◌, Bool, List, [], ◌∷◌, ◌++◌, refl, true, false, arith, sym, ap, ◌∙◌, subst, length, Option, Some, None, is_some, length-append}
use Rattle.std.specs.Prelude.{if◌then◌else◌, ◌==◌, nat_lt, slice_index}
use Rattle.std.specs.List.{AllByRecursion}
use Rattle.vch_base.specs.declared.value.Value.{Value}
use Rattle.vch_base.specs.declared.value.Value.TheVariants as values
use Rattle.vch_model.specs.declared.entry.Entry.{Entry}
use Rattle.vch_model.specs.declared.entry.Entry.TheVariants as entries
use Rattle.vch_model.specs.declared.lists.Scenario.{Scenario}
use Rattle.vch_model.specs.Store.{Alive}
use Rattle.vch_model.specs.After.{store_of}
use Rattle.vch_model.specs.Transfer.{flags_of}
use Rattle.vch_model.specs.Totals.{with_made, held, out, ledger, due, due_of, is_holder}
use Rattle.vch_model.specs.Legal.{LegalPast, IsUnheld, find_made}
use Rattle.vch_legal.specs.ValueAmounts.{amount_of}
use Rattle.vch_legal.proofs.CallerLemmas.{made_amount, made_amounts, released_amount}
use Rattle.vch_sums.specs.declared.row.Share.TheVariants as shares
use Rattle.vch_sums.specs.declared.row.Row.{Row}
use Rattle.vch_sums.specs.Summed.{Summed, IsSummed, AreOf, row_at, row_of, share_of, option_row}
use Rattle.vch_sums.specs.Steps.{Gains, Settles, share_weight, credited}
use Rattle.vch_sums.proofs.Live.{numbered, made_at, new_none, gone_at, found_value, fewer_by_one, total_same, total_more, total_less, value_all, each_value}
use Rattle.vch_sums.proofs.Tasks.{last_part, first_part, raised_of, same_of, held_more_of, held_less_of, out_more_of, out_less_of}
use Rattle.vch_sums.proofs.Assertions.{held_value, out_value, held_total, out_total}

-- The same amount is the same row.

pub same_row : (sc : Scenario) (past other : List Entry) (o : Option Value) → ((x : Value) → o ≡ Some x → amount_of sc other x ≡ amount_of sc past x)
    → option_row sc other o ≡ option_row sc past o
same_row sc past other None h = refl
same_row sc past other (Some x) h = ap (λ n. Some (row x n)) (h x refl)
  where
    row : Value → ℕ → Row
    row y n = record { share = share_of sc y; amount = n }

pub same_held : (sc : Scenario) (past other : List Entry) (t : ℕ) (x : Value) → amount_of sc other x ≡ amount_of sc past x
    → held_value sc other t x ≡ held_value sc past t x
same_held sc past other t x e = ap (λ n. last_part t (share_of sc x) (share_weight (share_of sc x) n)) e

pub same_out : (sc : Scenario) (past other : List Entry) (t : ℕ) (x : Value) → amount_of sc other x ≡ amount_of sc past x
    → out_value sc other t x ≡ out_value sc past t x
same_out sc past other t x e = ap (λ n. first_part t (share_of sc x) (share_weight (share_of sc x) n)) e

all_mapped : (P Q : Value → Type 0) (live : List Alive) → ((x : Value) → P x → Q x) → AllByRecursion (λ (l : Alive). P l.value) live
    → AllByRecursion (λ (l : Alive). Q l.value) live
all_mapped P Q [] f h = tt
all_mapped P Q (l ∷ live) f h = (f l.value h.0, all_mapped P Q live f h.1)

-- Made.

abbrev pub less : Option Row → ℕ
less o = if is_some o then 1 else 0

abbrev pub extra : Option Row → ℕ
extra o = if is_some o then 0 else 1

module _ (sc : Scenario) (past : List Entry) (k : ℕ) (x : Value) (h : LegalPast sc (entries.Made k x ∷ past)) where
  abbrev made_share : Row
  made_share = record { share = share_of sc x; amount = 0 }

  made_row : row_of sc (entries.Made k x ∷ past) x ≡ made_share
  made_row = ap row (made_amount sc past k x)
    where
      row : ℕ → Row
      row n = record { share = share_of sc x; amount = n }

  made_rows : (old new : List (ℕ × Row)) (number : ℕ) → number ≡ length past + 1
      → ((q : ℕ) → row_at new q ≡ (if number == q then Some made_share else row_at old q))
      → ((q : ℕ) → row_at old q ≡ option_row sc past (with_made (store_of sc past).live q))
      → (q : ℕ) → row_at new q ≡ option_row sc (entries.Made k x ∷ past) (with_made (store_of sc (entries.Made k x ∷ past)).live q)
  made_rows old new number n put is q =
      put q ∙ (ap (λ m. if m == q then Some made_share else row_at old q) n
      ∙ (by_test ((length past + 1) == q)
      ∙ sym (ap (option_row sc (entries.Made k x ∷ past)) (made_at (length past) (store_of sc past).live k x q (numbered sc past)))))
    where
      by_test : (b : Bool) → (if b then Some made_share else row_at old q)
          ≡ option_row sc (entries.Made k x ∷ past) (if b then Some x else with_made (store_of sc past).live q)
      by_test true = ap (λ r. Some r) (sym made_row)
      by_test false = is q ∙ sym (same_row sc past (entries.Made k x ∷ past) (with_made (store_of sc past).live q)
          (λ y e. value_all (λ z. amount_of sc (entries.Made k x ∷ past) z ≡ amount_of sc past z) (store_of sc past).live q y
          (made_amounts sc past k x h) e))

  made_held : (t : ℕ) → held sc (entries.Made k x ∷ past) t ≡ held sc past t + last_part t (share_of sc x) (share_weight (share_of sc x) 0)
  made_held t =
      held_total sc (entries.Made k x ∷ past) t
      ∙ (total_more (held_value sc (entries.Made k x ∷ past) t) (store_of sc past).live k (length past + 1) x
      ∙ plus _ _ _ _
      (total_same (held_value sc past t) (held_value sc (entries.Made k x ∷ past) t) (store_of sc past).live
      (all_mapped (λ z. amount_of sc (entries.Made k x ∷ past) z ≡ amount_of sc past z)
      (λ z. held_value sc (entries.Made k x ∷ past) t z ≡ held_value sc past t z) (store_of sc past).live
      (λ z e. same_held sc past (entries.Made k x ∷ past) t z e) (made_amounts sc past k x h))
      ∙ sym (held_total sc past t))
      (ap (λ n. last_part t (share_of sc x) (share_weight (share_of sc x) n)) (made_amount sc past k x)))
    where
      plus : (a b c d : ℕ) → a ≡ b → c ≡ d → a + c ≡ b + d
      plus a b c d e f = cc

  made_out : (t : ℕ) → out sc (entries.Made k x ∷ past) t ≡ out sc past t + first_part t (share_of sc x) (share_weight (share_of sc x) 0)
  made_out t =
      out_total sc (entries.Made k x ∷ past) t
      ∙ (total_more (out_value sc (entries.Made k x ∷ past) t) (store_of sc past).live k (length past + 1) x
      ∙ plus _ _ _ _
      (total_same (out_value sc past t) (out_value sc (entries.Made k x ∷ past) t) (store_of sc past).live
      (all_mapped (λ z. amount_of sc (entries.Made k x ∷ past) z ≡ amount_of sc past z)
      (λ z. out_value sc (entries.Made k x ∷ past) t z ≡ out_value sc past t z) (store_of sc past).live
      (λ z e. same_out sc past (entries.Made k x ∷ past) t z e) (made_amounts sc past k x h))
      ∙ sym (out_total sc past t))
      (ap (λ n. first_part t (share_of sc x) (share_weight (share_of sc x) n)) (made_amount sc past k x)))
    where
      plus : (a b c d : ℕ) → a ≡ b → c ≡ d → a + c ≡ b + d
      plus a b c d e f = cc

  made_many : (old new : List (ℕ × Row)) (number : ℕ) → number ≡ length past + 1
      → length new ≡ length old + (if is_some (row_at old number) then 0 else 1)
      → ((q : ℕ) → row_at old q ≡ option_row sc past (with_made (store_of sc past).live q))
      → length old ≡ length (store_of sc past).live
      → length new ≡ length (store_of sc (entries.Made k x ∷ past)).live
  made_many old new number n long is many =
      let none : row_at old number ≡ None = is number ∙ ap (option_row sc past)
      (ap (with_made (store_of sc past).live) n ∙ new_none (length past) (store_of sc past).live (numbered sc past)) in
      let one : extra (row_at old number) ≡ extra None = ap extra none in
      let more : length ((store_of sc past).live ++ record { key = k; value = x; made = length past + 1 } ∷ []) ≡ length (store_of sc past).live + 1 =
      length-append (store_of sc past).live (record { key = k; value = x; made = length past + 1 } ∷ []) in
      omega (arith, long, one, many, more)

  pub made_follows : (number n : ℕ) (old new : Summed) → number ≡ length past + 1 → n ≡ share_weight (share_of sc x) 0
      → Gains number (record { share = share_of sc x; amount = 0 }) n old new
      → IsSummed sc past old → IsSummed sc (entries.Made k x ∷ past) new
  made_follows number n old new number_is n_is (mid, put, e) is = subst (IsSummed sc (entries.Made k x ∷ past)) (sym e) (record {
    rows = made_rows old.rows mid.rows number number_is put.rows is.rows;
    many = made_many old.rows mid.rows number number_is put.many is.rows is.many;
    ledgers = subst (λ (c : List ℕ). AreOf (length sc.flags) c (ledger sc past)) (sym (ap (λ (s : Summed). s.ledgers) put.rest)) is.ledgers;
    held = held_more_of (length sc.flags) mid.held (held sc past) (held sc (entries.Made k x ∷ past)) (share_of sc x) n
        (subst (λ (c : List ℕ). AreOf (length sc.flags) c (held sc past)) (sym (ap (λ (s : Summed). s.held) put.rest)) is.held)
        (λ t. made_held t ∙ ap (λ m. held sc past t + last_part t (share_of sc x) m) (sym n_is));
    out = out_more_of (length sc.flags) mid.out (out sc past) (out sc (entries.Made k x ∷ past)) (share_of sc x) n
        (subst (λ (c : List ℕ). AreOf (length sc.flags) c (out sc past)) (sym (ap (λ (s : Summed). s.out) put.rest)) is.out)
        (λ t. made_out t ∙ ap (λ m. out sc past t + first_part t (share_of sc x) m) (sym n_is));
  })

-- Released.

module _ (sc : Scenario) (past : List Entry) (number : ℕ) (h : LegalPast sc (entries.Released number ∷ past)) where
  -- the value of a number that is released
  pub released_value : (x : Value) × (with_made (store_of sc past).live number ≡ Some x)
  released_value = of_found (find_made (store_of sc past).live number) refl h.1
    where
      of_found : (o : Option Alive) → find_made (store_of sc past).live number ≡ o → IsUnheld (store_of sc past) o
          → (x : Value) × (with_made (store_of sc past).live number ≡ Some x)
      of_found None e u = absurd u
      of_found (Some l) e u = (l.value, found_value (store_of sc past).live number l e)

  module _ (x : Value) (there : with_made (store_of sc past).live number ≡ Some x) where
    gone_same : (q : ℕ) → option_row sc (entries.Released number ∷ past) (with_made (store_of sc past).live q)
        ≡ option_row sc past (with_made (store_of sc past).live q)
    gone_same q = same_row sc past (entries.Released number ∷ past) (with_made (store_of sc past).live q)
        (λ y e. released_amount sc past number y)

    gone_rows : (old new : List (ℕ × Row)) → ((q : ℕ) → row_at new q ≡ (if number == q then None else row_at old q))
        → ((q : ℕ) → row_at old q ≡ option_row sc past (with_made (store_of sc past).live q))
        → (q : ℕ) → row_at new q
        ≡ option_row sc (entries.Released number ∷ past) (with_made (store_of sc (entries.Released number ∷ past)).live q)
    gone_rows old new take is q = take q ∙ (by_test (number == q)
        ∙ sym (ap (option_row sc (entries.Released number ∷ past)) (gone_at (store_of sc past).live number q (numbered sc past).rising)))
      where
        by_test : (b : Bool) → (if b then None else row_at old q)
            ≡ option_row sc (entries.Released number ∷ past) (if b then None else with_made (store_of sc past).live q)
        by_test true = refl
        by_test false = is q ∙ sym (gone_same q)

    gone_many : (old new : List (ℕ × Row)) → length new + (if is_some (row_at old number) then 1 else 0) ≡ length old
        → ((q : ℕ) → row_at old q ≡ option_row sc past (with_made (store_of sc past).live q))
        → length old ≡ length (store_of sc past).live
        → length new ≡ length (store_of sc (entries.Released number ∷ past)).live
    gone_many old new long is many =
        let some : row_at old number ≡ Some (row_of sc past x) = is number ∙ ap (option_row sc past) there in
        let one : less (row_at old number) ≡ less (Some (row_of sc past x)) = ap less some in
        let fewer = fewer_by_one (store_of sc past).live number x there in
        omega (arith, long, one, many, fewer)

    gone_held : (t : ℕ) → held sc past t ≡ held sc (entries.Released number ∷ past) t + held_value sc past t x
    gone_held t =
        held_total sc past t
        ∙ (total_less (held_value sc past t) (store_of sc past).live number x there
        ∙ ap (λ n. n + held_value sc past t x)
        (total_same (held_value sc (entries.Released number ∷ past) t) (held_value sc past t) (store_of sc (entries.Released number ∷ past)).live
        (each_value (λ z. held_value sc past t z ≡ held_value sc (entries.Released number ∷ past) t z) (store_of sc (entries.Released number ∷ past)).live
        (λ z. sym (same_held sc past (entries.Released number ∷ past) t z (released_amount sc past number z))))
        ∙ sym (held_total sc (entries.Released number ∷ past) t)))

    gone_out : (t : ℕ) → out sc past t ≡ out sc (entries.Released number ∷ past) t + out_value sc past t x
    gone_out t =
        out_total sc past t
        ∙ (total_less (out_value sc past t) (store_of sc past).live number x there
        ∙ ap (λ n. n + out_value sc past t x)
        (total_same (out_value sc (entries.Released number ∷ past) t) (out_value sc past t) (store_of sc (entries.Released number ∷ past)).live
        (each_value (λ z. out_value sc past t z ≡ out_value sc (entries.Released number ∷ past) t z) (store_of sc (entries.Released number ∷ past)).live
        (λ z. sym (same_out sc past (entries.Released number ∷ past) t z (released_amount sc past number z))))
        ∙ sym (out_total sc (entries.Released number ∷ past) t)))

    gone_ledgers : (counts : List ℕ) → AreOf (length sc.flags) counts (ledger sc past)
        → AreOf (length sc.flags) (credited (row_of sc past x) counts) (ledger sc (entries.Released number ∷ past))
    gone_ledgers counts is = of_value x there
      where
        spent : (t : ℕ) → Option Value → ℕ
        spent t o = if is_holder t o then ledger sc past t + due_of sc past o else ledger sc past t

        of_value : (y : Value) → with_made (store_of sc past).live number ≡ Some y
            → AreOf (length sc.flags) (credited (row_of sc past y) counts) (ledger sc (entries.Released number ∷ past))
        of_value (values.Account a b) e = raised_of (length sc.flags) counts (ledger sc past) (ledger sc (entries.Released number ∷ past)) a
            (due sc past (values.Account a b)) is (λ t. ap (spent t) e ∙ by_test t (a == t))
          where
            by_test : (t : ℕ) (c : Bool) → (if c then ledger sc past t + due sc past (values.Account a b) else ledger sc past t)
                ≡ ledger sc past t + (if c then due sc past (values.Account a b) else 0)
            by_test t true = refl
            by_test t false = omega arith
        of_value (values.Chain list) e = by_test (nat_lt 1 (length list))
          where
            by_test : (c : Bool) → AreOf (length sc.flags) (credited (record {
              share = if c
                  then shares.List (slice_index list 0) (slice_index list (length list - 1)) (flags_of sc (slice_index list 0)).donor
                  else shares.Other;
              amount = amount_of sc past (values.Chain list);
            }) counts) (ledger sc (entries.Released number ∷ past))
            by_test true = same_of (length sc.flags) counts (ledger sc past) (ledger sc (entries.Released number ∷ past)) is (λ t. ap (spent t) e)
            by_test false = same_of (length sc.flags) counts (ledger sc past) (ledger sc (entries.Released number ∷ past)) is (λ t. ap (spent t) e)
        of_value (values.User bytes) e = same_of (length sc.flags) counts (ledger sc past) (ledger sc (entries.Released number ∷ past)) is (λ t. ap (spent t) e)
        of_value values.Default e = same_of (length sc.flags) counts (ledger sc past) (ledger sc (entries.Released number ∷ past)) is (λ t. ap (spent t) e)
        of_value (values.Task u) e = same_of (length sc.flags) counts (ledger sc past) (ledger sc (entries.Released number ∷ past)) is (λ t. ap (spent t) e)

    gone_summed : (old new : Summed) → Settles number (row_of sc past x) old new
        → IsSummed sc past old → IsSummed sc (entries.Released number ∷ past) new
    gone_summed old new (mid, take, e) is = subst (IsSummed sc (entries.Released number ∷ past)) (sym e) (record {
      rows = gone_rows old.rows mid.rows take.rows is.rows;
      many = gone_many old.rows mid.rows take.many is.rows is.many;
      ledgers = gone_ledgers mid.ledgers
          (subst (λ (c : List ℕ). AreOf (length sc.flags) c (ledger sc past)) (sym (ap (λ (s : Summed). s.ledgers) take.rest)) is.ledgers);
      held = held_less_of (length sc.flags) mid.held (held sc past) (held sc (entries.Released number ∷ past)) (share_of sc x)
          (share_weight (share_of sc x) (amount_of sc past x))
          (subst (λ (c : List ℕ). AreOf (length sc.flags) c (held sc past)) (sym (ap (λ (s : Summed). s.held) take.rest)) is.held) gone_held;
      out = out_less_of (length sc.flags) mid.out (out sc past) (out sc (entries.Released number ∷ past)) (share_of sc x)
          (share_weight (share_of sc x) (amount_of sc past x))
          (subst (λ (c : List ℕ). AreOf (length sc.flags) c (out sc past)) (sym (ap (λ (s : Summed). s.out) take.rest)) is.out) gone_out;
    })

  -- the row of the number is that of its value
  pub released_follows : (row : Row) (old new : Summed) → row_at old.rows number ≡ Some row → Settles number row old new
      → IsSummed sc past old → IsSummed sc (entries.Released number ∷ past) new
  released_follows row old new e s is = of_value released_value
    where
      some_row : {a b : Row} → Some a ≡ Some b → a ≡ b
      some_row g = cc

      of_value : (x : Value) × (with_made (store_of sc past).live number ≡ Some x) → IsSummed sc (entries.Released number ∷ past) new
      of_value (x, there) = gone_summed x there old new
          (subst (λ r. Settles number r old new) (some_row (sym e ∙ (is.rows number ∙ ap (option_row sc past) there))) s) is

  pub released_there : (old : Summed) → row_at old.rows number ≡ None → IsSummed sc past old → ⊥
  released_there old e is = of_value released_value
    where
      of_value : (x : Value) × (with_made (store_of sc past).live number ≡ Some x) → ⊥
      of_value (x, there) = let i : None ≡ Some (row_of sc past x) = sym e ∙ (is.rows number ∙ ap (option_row sc past) there) in cc
