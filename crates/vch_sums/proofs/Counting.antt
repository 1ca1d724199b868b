-- Accepted calls that change one amount, or a ledger.
use Rattle.std.proofs.Common.{◌≡◌, ℕ, ◌+◌, ◌-◌, ◌≤◌, Bool, List, ◌∷◌, refl, true, false, arith, sym, ap, ◌∙◌, subst, length, Some, None, is_some, inl, inr}
use Rattle.std.specs.Prelude.{if◌then◌else◌, ◌==◌}
use Rattle.vch_base.specs.Values.{equal_values}
use Rattle.vch_base.specs.declared.key.Key.TheVariants as keys
use Rattle.vch_base.specs.declared.value.Value.{Value}
use Rattle.vch_base.specs.declared.value.Value.TheVariants as values
use Rattle.vch_model.specs.declared.call.Call.TheVariants as calls
use Rattle.vch_model.specs.declared.call.Word.{Word}
use Rattle.vch_model.specs.declared.entry.Entry.{Entry}
use Rattle.vch_model.specs.declared.lists.Scenario.{Scenario}
use Rattle.vch_model.specs.Voucher.{value_in}
use Rattle.vch_model.specs.Store.{Alive}
use Rattle.vch_model.specs.Lines.{line_at}
use Rattle.vch_model.specs.After.{store_of}
use Rattle.vch_model.specs.Totals.{named_voucher, with_made, held, out, ledger, external, due}
use Rattle.vch_model.specs.Legal.{LegalPast}
use Rattle.vch_machine.specs.Next.{nth_call}
use Rattle.vch_legal.specs.Facts.{times}
use Rattle.vch_legal.specs.ValueAmounts.{amount_of, counted_on}
use Rattle.vch_legal.proofs.CallerLemmas.{legal_store, call_live, equals, number_eq, values_refl, values_eq, cases_bool, IsExtern, extern_done, charge_done, extern_amount, extern_ledger, account_amount, account_ledger, own_amount, own_ledger}
use Rattle.vch_sums.specs.declared.row.Share.{Share}
use Rattle.vch_sums.specs.declared.row.Share.TheVariants as shares
use Rattle.vch_sums.specs.declared.row.Row.{Row}
use Rattle.vch_sums.specs.Summed.{Summed, IsSummed, AreOf, IsAt, row_at, row_of, share_of, option_row, accepted}
use Rattle.vch_sums.specs.Steps.{Puts, Gains, Loses, share_weight, raised}
use Rattle.vch_sums.proofs.Live.{total, total_same, total_changed, each_value, one_number}
use Rattle.vch_sums.proofs.Tasks.{last_part, first_part, raised_of, same_of, held_more_of, held_less_of, out_more_of, out_less_of}
use Rattle.vch_sums.proofs.Assertions.{held_value, out_value, held_total, out_total}
use Rattle.vch_sums.proofs.Following.{same_row, same_held, same_out, extra}

-- after an accepted call, what is live stays
accepted_live : (sc : Scenario) (past : List Entry) (t n : ℕ) (word : Word) → (store_of sc (accepted t n word ∷ past)).live ≡ (store_of sc past).live
accepted_live sc past t n word = call_live sc (store_of sc past) t (line_at sc t n) false

-- one amount changes

pub record OneChange (sc : Scenario) (past other : List Entry) (number : ℕ) (x : Value) : Type 0 where
  pub live : (store_of sc other).live ≡ (store_of sc past).live
  pub there : with_made (store_of sc past).live number ≡ Some x
  pub once : times (equals x) (store_of sc past).live ≤ 1
  pub same : (y : Value) → equal_values x y ≡ false → amount_of sc other y ≡ amount_of sc past y

module _ (sc : Scenario) (past other : List Entry) (number : ℕ) (x : Value) (c : OneChange sc past other number x) where
  changed_rows : (old new : List (ℕ × Row)) → ((q : ℕ) → row_at new q ≡ (if number == q then Some (row_of sc other x) else row_at old q))
      → ((q : ℕ) → row_at old q ≡ option_row sc past (with_made (store_of sc past).live q))
      → (q : ℕ) → row_at new q ≡ option_row sc other (with_made (store_of sc other).live q)
  changed_rows old new put is q = put q ∙ (by_test (number == q) refl
      ∙ sym (ap (λ (live : List Alive). option_row sc other (with_made live q)) c.live))
    where
      apart : (y : Value) → (number == q) ≡ false → with_made (store_of sc past).live q ≡ Some y → equal_values x y ≡ false
      apart y e f = cases_bool (equal_values x y) (equal_values x y ≡ false)
          (λ same. let i : number ≡ q = one_number (store_of sc past).live x number q c.there
          (subst (λ (z : Value). with_made (store_of sc past).live q ≡ Some z) (sym (values_eq x y same)) f) c.once in
          let j : (number == q) ≡ true = is_same number q i in
          let k : true ≡ false = sym j ∙ e in cc)
          (λ no_. no_)
        where
          is_same : (a b : ℕ) → a ≡ b → (a == b) ≡ true
          is_same a b e = grind (arith, e)

      by_test : (b : Bool) → (number == q) ≡ b → (if b then Some (row_of sc other x) else row_at old q)
          ≡ option_row sc other (with_made (store_of sc past).live q)
      by_test true e = sym (ap (λ n. option_row sc other (with_made (store_of sc past).live n)) (sym (number_eq number q e))
          ∙ ap (option_row sc other) c.there)
      by_test false e = is q ∙ sym (same_row sc past other (with_made (store_of sc past).live q) (λ y f. c.same y (apart y e f)))

  changed_many : (old new : List (ℕ × Row)) → length new ≡ length old + (if is_some (row_at old number) then 0 else 1)
      → ((q : ℕ) → row_at old q ≡ option_row sc past (with_made (store_of sc past).live q))
      → length old ≡ length (store_of sc past).live → length new ≡ length (store_of sc other).live
  changed_many old new long is many =
      let some : row_at old number ≡ Some (row_of sc past x) = is number ∙ ap (option_row sc past) c.there in
      let one : extra (row_at old number) ≡ extra (Some (row_of sc past x)) = ap extra some in
      let as_many : length (store_of sc other).live ≡ length (store_of sc past).live = ap (λ (live : List Alive). length live) c.live in
      omega (arith, long, one, many, as_many)

  -- more by some, as the past goes on, or fewer, as it goes back
  held_after : (t k : ℕ) → held_value sc other t x ≡ held_value sc past t x + k → held sc other t ≡ held sc past t + k
  held_after t k e =
      held_total sc other t
      ∙ (ap (total (held_value sc other t)) c.live
      ∙ (total_changed (held_value sc past t) (held_value sc other t) x k (λ y n. same_held sc past other t y (c.same y n)) e
      (store_of sc past).live number c.there c.once
      ∙ ap (λ n. n + k) (sym (held_total sc past t))))

  out_after : (t k : ℕ) → out_value sc other t x ≡ out_value sc past t x + k → out sc other t ≡ out sc past t + k
  out_after t k e =
      out_total sc other t
      ∙ (ap (total (out_value sc other t)) c.live
      ∙ (total_changed (out_value sc past t) (out_value sc other t) x k (λ y n. same_out sc past other t y (c.same y n)) e
      (store_of sc past).live number c.there c.once
      ∙ ap (λ n. n + k) (sym (out_total sc past t))))

  held_before : (t k : ℕ) → held_value sc past t x ≡ held_value sc other t x + k → held sc past t ≡ held sc other t + k
  held_before t k e =
      held_total sc past t
      ∙ (total_changed (held_value sc other t) (held_value sc past t) x k (λ y n. sym (same_held sc past other t y (c.same y n))) e
      (store_of sc past).live number c.there c.once
      ∙ ap (λ n. n + k) (ap (total (held_value sc other t)) (sym c.live) ∙ sym (held_total sc other t)))

  out_before : (t k : ℕ) → out_value sc past t x ≡ out_value sc other t x + k → out sc past t ≡ out sc other t + k
  out_before t k e =
      out_total sc past t
      ∙ (total_changed (out_value sc other t) (out_value sc past t) x k (λ y n. sym (same_out sc past other t y (c.same y n))) e
      (store_of sc past).live number c.there c.once
      ∙ ap (λ n. n + k) (ap (total (out_value sc other t)) (sym c.live) ∙ sym (out_total sc other t)))

-- an amount of a share that rises

last_more : (t : ℕ) (s : Share) (a b k : ℕ) → b ≡ a + k → last_part t s (share_weight s b) ≡ last_part t s (share_weight s a) + last_part t s k
last_more t (shares.List first last donor) a b k e = by_test (last == t)
  where
    by_test : (c : Bool) → (if c then b + (if donor then 1 else 0) else 0) ≡ (if c then a + (if donor then 1 else 0) else 0) + (if c then k else 0)
    by_test true = omega (arith, e)
    by_test false = omega arith
last_more t (shares.Account holder) a b k e = omega arith
last_more t shares.Other a b k e = omega arith

first_more : (t : ℕ) (s : Share) (a b k : ℕ) → b ≡ a + k → first_part t s (share_weight s b) ≡ first_part t s (share_weight s a) + first_part t s k
first_more t (shares.List first last donor) a b k e = by_test (first == t)
  where
    by_test : (c : Bool) → (if c then b + (if donor then 1 else 0) else 0) ≡ (if c then a + (if donor then 1 else 0) else 0) + (if c then k else 0)
    by_test true = omega (arith, e)
    by_test false = omega arith
first_more t (shares.Account holder) a b k e = omega arith
first_more t shares.Other a b k e = omega arith

abbrev row : Share → ℕ → Row
row s a = record { share = s; amount = a }

row_with : (s : Share) (a b : ℕ) → a ≡ b → row s a ≡ row s b
row_with s a b e = ap (row s) e

module _ (sc : Scenario) (past other : List Entry) (number : ℕ) (x : Value) (c : OneChange sc past other number x)
    (ledgers : (t : ℕ) → ledger sc other t ≡ ledger sc past t) where
  -- the amount rose
  pub rises : (k : ℕ) (old new : Summed) → amount_of sc other x ≡ amount_of sc past x + k → Gains number (row_of sc other x) k old new
      → IsSummed sc past old → IsSummed sc other new
  rises k old new more (mid, put, e) is = subst (IsSummed sc other) (sym e) (record {
    rows = changed_rows sc past other number x c old.rows mid.rows put.rows is.rows;
    many = changed_many sc past other number x c old.rows mid.rows put.many is.rows is.many;
    ledgers = same_of (length sc.flags) mid.ledgers (ledger sc past) (ledger sc other)
        (subst (λ (s : List ℕ). AreOf (length sc.flags) s (ledger sc past)) (sym (ap (λ (s : Summed). s.ledgers) put.rest)) is.ledgers) ledgers;
    held = held_more_of (length sc.flags) mid.held (held sc past) (held sc other) (share_of sc x) k
        (subst (λ (s : List ℕ). AreOf (length sc.flags) s (held sc past)) (sym (ap (λ (s : Summed). s.held) put.rest)) is.held)
        (λ t. held_after sc past other number x c t (last_part t (share_of sc x) k)
        (last_more t (share_of sc x) (amount_of sc past x) (amount_of sc other x) k more));
    out = out_more_of (length sc.flags) mid.out (out sc past) (out sc other) (share_of sc x) k
        (subst (λ (s : List ℕ). AreOf (length sc.flags) s (out sc past)) (sym (ap (λ (s : Summed). s.out) put.rest)) is.out)
        (λ t. out_after sc past other number x c t (first_part t (share_of sc x) k)
        (first_more t (share_of sc x) (amount_of sc past x) (amount_of sc other x) k more));
  })

  -- the amount fell
  pub falls : (k : ℕ) (old new : Summed) → amount_of sc past x ≡ amount_of sc other x + k → Loses number (row_of sc other x) k old new
      → IsSummed sc past old → IsSummed sc other new
  falls k old new less (mid, put, e) is = subst (IsSummed sc other) (sym e) (record {
    rows = changed_rows sc past other number x c old.rows mid.rows put.rows is.rows;
    many = changed_many sc past other number x c old.rows mid.rows put.many is.rows is.many;
    ledgers = same_of (length sc.flags) mid.ledgers (ledger sc past) (ledger sc other)
        (subst (λ (s : List ℕ). AreOf (length sc.flags) s (ledger sc past)) (sym (ap (λ (s : Summed). s.ledgers) put.rest)) is.ledgers) ledgers;
    held = held_less_of (length sc.flags) mid.held (held sc past) (held sc other) (share_of sc x) k
        (subst (λ (s : List ℕ). AreOf (length sc.flags) s (held sc past)) (sym (ap (λ (s : Summed). s.held) put.rest)) is.held)
        (λ t. held_before sc past other number x c t (last_part t (share_of sc x) k)
        (last_more t (share_of sc x) (amount_of sc other x) (amount_of sc past x) k less));
    out = out_less_of (length sc.flags) mid.out (out sc past) (out sc other) (share_of sc x) k
        (subst (λ (s : List ℕ). AreOf (length sc.flags) s (out sc past)) (sym (ap (λ (s : Summed). s.out) put.rest)) is.out)
        (λ t. out_before sc past other number x c t (first_part t (share_of sc x) k)
        (first_more t (share_of sc x) (amount_of sc other x) (amount_of sc past x) k less));
  })

-- nothing of a live value changes, and a ledger may
pub credits : (sc : Scenario) (past other : List Entry) (old : Summed) (counts : List ℕ) → (store_of sc other).live ≡ (store_of sc past).live
    → ((y : Value) → amount_of sc other y ≡ amount_of sc past y) → AreOf (length sc.flags) counts (ledger sc other)
    → IsSummed sc past old → IsSummed sc other (record old { ledgers = counts })
credits sc past other old counts live same ledgers is = record {
  rows = λ q. is.rows q ∙ sym (ap (λ (xs : List Alive). option_row sc other (with_made xs q)) live
      ∙ same_row sc past other (with_made (store_of sc past).live q) (λ y e. same y));
  many = is.many ∙ sym (ap (λ (xs : List Alive). length xs) live);
  ledgers = ledgers;
  held = same_of (length sc.flags) old.held (held sc past) (held sc other) is.held
      (λ t. held_total sc other t ∙ (ap (total (held_value sc other t)) live
      ∙ (total_same (held_value sc past t) (held_value sc other t) (store_of sc past).live
      (each_value (λ z. held_value sc other t z ≡ held_value sc past t z) (store_of sc past).live (λ z. same_held sc past other t z (same z)))
      ∙ sym (held_total sc past t))));
  out = same_of (length sc.flags) old.out (out sc past) (out sc other) is.out
      (λ t. out_total sc other t ∙ (ap (total (out_value sc other t)) live
      ∙ (total_same (out_value sc past t) (out_value sc other t) (store_of sc past).live
      (each_value (λ z. out_value sc other t z ≡ out_value sc past t z) (store_of sc past).live (λ z. same_out sc past other t z (same z)))
      ∙ sym (out_total sc past t))));
}

-- Accepted calls.

some_value : {a b : Value} → Some a ≡ Some b → a ≡ b
some_value g = cc

module _ (sc : Scenario) (past : List Entry) (t n : ℕ) (word : Word) (h : LegalPast sc (accepted t n word ∷ past)) where
  module _ (name k number : ℕ) (adding : Bool) (call : nth_call sc t n ≡ Some (calls.Extern name adding k))
      (at : IsAt sc past keys.Importance t name number) where
    abbrev done : IsExtern sc past t name k adding
    done = extern_done sc past t n word name k adding call h

    listed : with_made (store_of sc past).live number ≡ Some (values.Chain done.list)
    listed = subst (λ (z : Value). with_made (store_of sc past).live number ≡ Some z) (some_value (sym at.named ∙ done.there)) at.there

    changed : (y : Value) → amount_of sc (accepted t n word ∷ past) y
        ≡ (if equal_values (values.Chain done.list) y then counted_on adding k (amount_of sc past y) else amount_of sc past y)
    changed y = extern_amount sc past t n word name k adding done.list call done.there y

    extern_change : OneChange sc past (accepted t n word ∷ past) number (values.Chain done.list)
    extern_change = record {
      live = accepted_live sc past t n word;
      there = listed;
      once = (legal_store sc past h.0).once (values.Chain done.list) refl;
      same = λ y e. changed y ∙ rw e refl;
    }

    own_change : amount_of sc (accepted t n word ∷ past) (values.Chain done.list) ≡ counted_on adding k (external sc past (values.Chain done.list))
    own_change = changed (values.Chain done.list) ∙ rw (values_refl (values.Chain done.list)) refl

    own_row : (old : Summed) (row : Row) → IsSummed sc past old → row_at old.rows number ≡ Some row → row ≡ row_of sc past (values.Chain done.list)
    own_row old row is e = some_row (sym e ∙ (is.rows number ∙ ap (option_row sc past) listed))
      where
        some_row : {a b : Row} → Some a ≡ Some b → a ≡ b
        some_row g = cc

  pub counts_more : (name k number : ℕ) → nth_call sc t n ≡ Some (calls.Extern name true k) → IsAt sc past keys.Importance t name number
      → (row : Row) (old new : Summed) → row_at old.rows number ≡ Some row → Gains number (record row { amount = row.amount + k }) k old new
      → IsSummed sc past old → IsSummed sc (accepted t n word ∷ past) new
  counts_more name k number call at row old new e g is =
      rises sc past (accepted t n word ∷ past) number _ (extern_change name k number true call at)
      (λ u. extern_ledger sc past t n word name k true call u) k old new (own_change name k number true call at)
      (subst (λ (r : Row). Gains number r k old new)
      (ap (λ (r : Row). record r { amount = r.amount + k }) (own_row name k number true call at old row is e)
      ∙ row_with _ _ _ (sym (own_change name k number true call at))) g) is

  pub counts_less : (name k number : ℕ) → nth_call sc t n ≡ Some (calls.Extern name false k) → IsAt sc past keys.Importance t name number
      → (row : Row) (old new : Summed) → row_at old.rows number ≡ Some row → Loses number (record row { amount = row.amount - k }) k old new
      → IsSummed sc past old → IsSummed sc (accepted t n word ∷ past) new
  counts_less name k number call at row old new e g is =
      let least = (done name k number false call at).least refl in
      let own = own_change name k number false call at in
      falls sc past (accepted t n word ∷ past) number _ (extern_change name k number false call at)
      (λ u. extern_ledger sc past t n word name k false call u) k old new (fewer _ _ _ own least)
      (subst (λ (r : Row). Loses number r k old new)
      (ap (λ (r : Row). record r { amount = r.amount - k }) (own_row name k number false call at old row is e)
      ∙ row_with _ _ _ (sym own)) g) is
    where
      fewer : (a b k : ℕ) → b ≡ a - k → k ≤ a → a ≡ b + k
      fewer a b k e l = omega (arith, e, l)

  pub counts_there : (name k number : ℕ) (adding : Bool) → nth_call sc t n ≡ Some (calls.Extern name adding k)
      → IsAt sc past keys.Importance t name number → (old : Summed) → row_at old.rows number ≡ None → IsSummed sc past old → ⊥
  counts_there name k number adding call at old e is =
      let i : None ≡ Some (row_of sc past at.value) = sym e ∙ (is.rows number ∙ ap (option_row sc past) at.there) in cc

  -- a charge on an account, and on the task's own value

  pub charges_account : (name k number : ℕ) → nth_call sc t n ≡ Some (calls.Charge name k) → IsAt sc past keys.Bank t name number
      → (row : Row) (holder : ℕ) (old new : Summed) → row.share ≡ shares.Account holder → row_at old.rows number ≡ Some row
      → Puts number (record row { amount = row.amount + k }) old new → IsSummed sc past old → IsSummed sc (accepted t n word ∷ past) new
  charges_account name k number call at row holder old new s e put is =
      elim (charge_done sc past t n word name k call h) as (λ _. IsSummed sc (accepted t n word ∷ past) new) [
        | inl own ↦ absurd (no_account (some_value (sym own ∙ at.named)))
        | inr account ↦ of_account account.0 (some_value (sym at.named ∙ account.1)) account.1
      ]
    where
      some_row : {a b : Row} → Some a ≡ Some b → a ≡ b
      some_row g = cc

      row_is : row ≡ row_of sc past at.value
      row_is = some_row (sym e ∙ (is.rows number ∙ ap (option_row sc past) at.there))

      no_account : values.Task t ≡ at.value → ⊥
      no_account g = let i : shares.Account holder ≡ shares.Other = sym s ∙ (ap (λ (r : Row). r.share) row_is ∙ ap (share_of sc) (sym g)) in cc

      of_account : (a : ℕ) → at.value ≡ values.Account a t → value_in keys.Bank (named_voucher (store_of sc past) t name) ≡ Some (values.Account a t)
          → IsSummed sc (accepted t n word ∷ past) new
      of_account a g named_it =
          let changed = λ (y : Value). account_amount sc past t n word name k a t call named_it y in
          let own : amount_of sc (accepted t n word ∷ past) (values.Account a t) ≡ due sc past (values.Account a t) + k =
          changed (values.Account a t) ∙ rw (values_refl (values.Account a t)) refl in
          rises sc past (accepted t n word ∷ past) number (values.Account a t)
          (record {
            live = accepted_live sc past t n word;
            there = subst (λ (z : Value). with_made (store_of sc past).live number ≡ Some z) g at.there;
            once = (legal_store sc past h.0).once (values.Account a t) refl;
            same = λ y i. changed y ∙ rw i refl;
          })
          (λ u. account_ledger sc past t n word name k a t call named_it u) k old new own (
            new,
            subst (λ (r : Row). Puts number r old new)
                (ap (λ (r : Row). record r { amount = r.amount + k }) (row_is ∙ ap (row_of sc past) g) ∙ row_with _ _ _ (sym own)) put,
            refl,
          ) is

  pub charges_own : (name k number : ℕ) → nth_call sc t n ≡ Some (calls.Charge name k) → IsAt sc past keys.Bank t name number
      → (row : Row) (old : Summed) → ((holder : ℕ) → row.share ≡ shares.Account holder → ⊥) → row_at old.rows number ≡ Some row
      → IsSummed sc past old → IsSummed sc (accepted t n word ∷ past) (record old { ledgers = raised old.ledgers t k })
  charges_own name k number call at row old s e is =
      elim (charge_done sc past t n word name k call h) as (λ _. IsSummed sc (accepted t n word ∷ past) (record old { ledgers = raised old.ledgers t k })) [
        | inl own ↦ credits sc past (accepted t n word ∷ past) old (raised old.ledgers t k) (accepted_live sc past t n word)
            (λ y. own_amount sc past t n word name k call own y)
            (raised_of (length sc.flags) old.ledgers (ledger sc past) (ledger sc (accepted t n word ∷ past)) t k is.ledgers
            (λ u. own_ledger sc past t n word name k call own u ∙ by_test (ledger sc past u) (t == u))) is
        | inr account ↦ absurd (s account.0 (ap (λ (r : Row). r.share)
            (some_row (sym e ∙ (is.rows number ∙ ap (option_row sc past) at.there)))
            ∙ ap (share_of sc) (some_value (sym at.named ∙ account.1))))
      ]
    where
      some_row : {a b : Row} → Some a ≡ Some b → a ≡ b
      some_row g = cc

      by_test : (l : ℕ) (b : Bool) → (if b then l + k else l) ≡ l + (if b then k else 0)
      by_test l true = refl
      by_test l false = omega arith

  pub charges_there : (name k number : ℕ) → IsAt sc past keys.Bank t name number → (old : Summed) → row_at old.rows number ≡ None
      → IsSummed sc past old → ⊥
  charges_there name k number at old e is =
      let i : None ≡ Some (row_of sc past at.value) = sym e ∙ (is.rows number ∙ ap (option_row sc past) at.there) in cc
