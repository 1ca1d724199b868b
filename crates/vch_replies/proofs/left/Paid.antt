-- An accepted charge leaves what the history adds up with its entry.
use Rattle.std.proofs.Common.{◌≡◌, ◌≢◌, ℕ, ◌+◌, ◌<◌, ◌≤◌, Bool, true, false, cond, List, ◌∷◌, length, refl, arith, sym, ap, ◌∙◌, subst, Option, Some, None, inl, inr}
use Rattle.std.proofs.lemmas.Bool.{cases_eq}
use Rattle.std.proofs.lemmas.Grind.{common_steps}
use Rattle.std.specs.Prelude.{◌==◌, if◌then◌else◌}
use Rattle.vch_base.specs.declared.key.Key.{Key}
use Rattle.vch_base.specs.declared.key.Key.TheVariants as keys
use Rattle.vch_base.specs.declared.places.Live.{Live}
use Rattle.vch_base.specs.declared.value.Value.{Value}
use Rattle.vch_base.specs.declared.value.Value.TheVariants as values
use Rattle.vch_base.specs.Keyed.{Keyed, of_key}
use Rattle.vch_base.specs.Keys.{same_key}
use Rattle.vch_base.specs.Managers.{Kept, live_at, value_of, due_at, due_of}
use Rattle.vch_base.specs.Tasks.{at_task, set_task}
use Rattle.vch_base.specs.Values.{Belongs, equal_values}
use Rattle.vch_base.proofs.CallerLemmas.{with_of, own_item, other_items, as_long}
use Rattle.vch_bank.specs.Bank.{ledger_of, payer_in, payer_at}
use Rattle.vch_bank.specs.declared.payer.Payer.{Payer}
use Rattle.vch_bank.specs.declared.payer.Payer.TheVariants as payers
use Rattle.vch_model.specs.declared.call.Call.TheVariants as calls
use Rattle.vch_model.specs.declared.call.Word.{Word}
use Rattle.vch_model.specs.declared.entry.Entry.TheVariants as entries
use Rattle.vch_model.specs.declared.entry.Reply.TheVariants as replies
use Rattle.vch_model.specs.declared.lists.Scenario.{Scenario}
use Rattle.vch_model.specs.After.{store_of}
use Rattle.vch_model.specs.Lines.{is_task}
use Rattle.vch_model.specs.Totals.{named_voucher, ledger}
use Rattle.vch_model.specs.Voucher.{value_in}
use Rattle.vch_machine.specs.Next.{nth_call}
use Rattle.vch_machine.specs.State.{Machine}
use Rattle.vch_legal.specs.ValueAmounts.{amount_of}
use Rattle.vch_legal.proofs.CallerLemmas.{account_amount, account_ledger, own_amount, own_ledger, number_eq, not_true}
use Rattle.vch_frame.specs.Indices.{index_of}
use Rattle.vch_frame.proofs.CallerLemmas.{task_number}
use Rattle.vch_values.specs.Parts.{KeyParts}
use Rattle.vch_values.proofs.CallerLemmas.{key_cases, of_with}
use Rattle.vch_vouchers.specs.Desks.{Voucher}
use Rattle.vch_parts.specs.Moves.{with_kept}
use Rattle.vch_parts.specs.Plain.{Plain}
use Rattle.vch_replies.specs.Begins.{Begins}
use Rattle.vch_replies.specs.Left.{AddsUp, paid}
use Rattle.vch_replies.specs.Told.{named_by, handle_in}
use Rattle.vch_replies.proofs.left.DueSet.{dues_with}
use Rattle.vch_replies.proofs.left.Recounted.{value_named}

-- the account that a charge falls on
record IsAccount (o : Option Live) : Type 0 where
  live : Live
  there : o ≡ Some live
  holder : ℕ
  merchant : ℕ
  value : live.value ≡ values.Account holder merchant

account_is : (t : ℕ) (o : Option Live) → payer_in (value_of o) t ≡ payers.Due → IsAccount o
account_is t None e = cc
account_is t (Some l) e = of_value l.value refl e
  where
    by_task : (d : Bool) → (if d then payers.Ledger else payers.Nobody) ≡ payers.Due → IsAccount (Some l)
    by_task true e = cc
    by_task false e = cc

    of_value : (x : Value) → l.value ≡ x → payer_in (Some x) t ≡ payers.Due → IsAccount (Some l)
    of_value (values.Account holder merchant) f e = record { live = l; there = refl; holder = holder; merchant = merchant; value = f }
    of_value (values.Task u) f e = by_task (u == t) e
    of_value (values.User bytes) f e = cc
    of_value (values.Chain list) f e = cc
    of_value values.Default f e = cc

-- a charge on the task's own value falls on its ledger
own_is : (t : ℕ) (o : Option Live) → payer_in (value_of o) t ≡ payers.Ledger → value_of o ≡ Some (values.Task t)
own_is t None e = cc
own_is t (Some l) e = of_value l.value e
  where
    by_task : (u : ℕ) (d : Bool) → (u == t) ≡ d → (if d then payers.Ledger else payers.Nobody) ≡ payers.Ledger → Some (values.Task u) ≡ Some (values.Task t)
    by_task u true f e = ap (λ n. Some (values.Task n)) (number_eq u t f)
    by_task u false f e = cc

    by_merchant : (d : Bool) (x : Value) → (if d then payers.Due else payers.Nobody) ≡ payers.Ledger → Some x ≡ Some (values.Task t)
    by_merchant true x e = cc
    by_merchant false x e = cc

    of_value : (x : Value) → payer_in (Some x) t ≡ payers.Ledger → Some x ≡ Some (values.Task t)
    of_value (values.Task u) e = by_task u (u == t) refl e
    of_value (values.Account holder merchant) e = by_merchant (merchant == t) (values.Account holder merchant) e
    of_value (values.User bytes) e = cc
    of_value (values.Chain list) e = cc
    of_value values.Default e = cc

-- no other key has accounts
no_account : (holder merchant : ℕ) (q : Key) (x : Value) → same_key q keys.Bank ≡ false → Belongs q x → equal_values (values.Account holder merchant) x ≡ false
no_account holder merchant q (values.User bytes) e f = refl
no_account holder merchant q (values.Chain list) e f = refl
no_account holder merchant q values.Default e f = refl
no_account holder merchant q (values.Task u) e f = refl
no_account holder merchant keys.Bank (values.Account a d) e f = absurd (cc)
no_account holder merchant keys.Importance (values.Account a d) e f = absurd f
no_account holder merchant keys.User (values.Account a d) e f = absurd f
no_account holder merchant keys.Test (values.Account a d) e f = absurd f

-- a manager with the same slots
slots_stay : (x : Keyed KeyParts) (k : Key) (kept : Kept) → kept.slots ≡ (of_key k x).kept.slots → (q : Key) → (of_key q (with_kept x k kept)).kept.slots ≡ (of_key q x).kept.slots
slots_stay x k kept same q = elim (key_cases q k) [
  | inl e ↦ ap (λ (z : Key). (of_key z (with_kept x k kept)).kept.slots) e
      ∙ ap (λ (y : KeyParts). y.kept.slots) (of_with k (record (of_key k x) { kept = kept }) x) ∙ same ∙ ap (λ (z : Key). (of_key z x).kept.slots) (sym e)
  | inr other ↦ ap (λ (y : KeyParts). y.kept.slots) (with_of q k (record (of_key k x) { kept = kept }) x ∙ ap (λ d. cond d (record (of_key k x) { kept = kept }) (of_key q x)) other)
]

module _ (sc : Scenario) (c : Plain) (m : Machine) (t i name n h : ℕ) (word : Word) (v : Voucher) (b : Begins sc c m t)
    (call : nth_call sc t i ≡ Some (calls.Charge name n)) (named : named_by c t name ≡ Some v) (handle : handle_in c.keyed.bank (index_of keys.Bank v) ≡ Some h) where
  due_left : payer_at c.keyed.bank.kept h t ≡ payers.Due → AddsUp sc (entries.Call t i word replies.Done ∷ m.past) (paid c.keyed h t n payers.Due)
  due_left pays = record {
    dues = dues_with sc c m t b keys.Bank h is.live (due_at c.keyed.bank.kept.slots h + n) (entries.Call t i word replies.Done ∷ m.past) is.there
        (λ q x other belongs. ap (λ z. equal_values z x) is.value ∙ no_account is.holder is.merchant q x other belongs)
        (λ a. a + n) (ap (λ o. due_of o + n) is.there) changes;
    ledgers = record { long = b.stands.ledgers.long; each = λ u task. b.stands.ledgers.each u task ∙ sym (account_ledger sc m.past t i word name n is.holder is.merchant call value u) };
  }
    where
      is : IsAccount (live_at c.keyed.bank.kept.slots h)
      is = account_is t (live_at c.keyed.bank.kept.slots h) pays

      value : value_in keys.Bank (named_voucher (store_of sc m.past) t name) ≡ Some (values.Account is.holder is.merchant)
      value = value_named sc c m t name keys.Bank v h (Some is.live) b named handle is.there ∙ ap Some is.value

      changes : (x : Value) → amount_of sc (entries.Call t i word replies.Done ∷ m.past) x
          ≡ (if equal_values is.live.value x then amount_of sc m.past x + n else amount_of sc m.past x)
      changes x = account_amount sc m.past t i word name n is.holder is.merchant call value x
          ∙ ap (λ z. if equal_values z x then amount_of sc m.past x + n else amount_of sc m.past x) (sym is.value)

  ledger_left : payer_at c.keyed.bank.kept h t ≡ payers.Ledger → AddsUp sc (entries.Call t i word replies.Done ∷ m.past) (paid c.keyed h t n payers.Ledger)
  ledger_left pays = record {
    dues = λ q j l e. (b.stands.keyed q).dues j l (subst (λ slots. live_at slots j ≡ Some l) (slots_stay c.keyed keys.Bank (record c.keyed.bank.kept { ledgers = after }) refl q) e)
        ∙ sym (own_amount sc m.past t i word name n call value l.value);
    ledgers = record {
      long = as_long c.keyed.bank.kept.ledgers t (ledger_of c.keyed.bank.kept.ledgers t + n) ∙ b.stands.ledgers.long;
      each = λ u task. elim (cases_eq u t) [
        | inl e ↦ own u e task
        | inr other ↦ others u other task
      ];
    };
  }
    where
      after : List ℕ
      after = set_task c.keyed.bank.kept.ledgers t (ledger_of c.keyed.bank.kept.ledgers t + n)

      value : value_in keys.Bank (named_voucher (store_of sc m.past) t name) ≡ Some (values.Task t)
      value = value_named sc c m t name keys.Bank v h (live_at c.keyed.bank.kept.slots h) b named handle refl ∙ own_is t (live_at c.keyed.bank.kept.slots h) pays

      one : (x y : ℕ) → x ≡ y → (y == x) ≡ true
      one x y e = grind (arith, common_steps)

      apart : (x y : ℕ) → x ≢ y → (y == x) ≡ false
      apart x y n = not_true (y == x) (λ e. n (sym (number_eq y x e)))

      own : (u : ℕ) → u ≡ t → is_task sc u ≡ true → at_task (set_task c.keyed.bank.kept.ledgers t (ledger_of c.keyed.bank.kept.ledgers t + n)) u 0 ≡ ledger sc (entries.Call t i word replies.Done ∷ m.past) u
      own u e task =
          let z = task_number sc t b.task in
          let low : 0 < t = omega (arith, z.0) in
          let high : t ≤ length c.keyed.bank.kept.ledgers = omega (arith, z.0, z.1, b.stands.ledgers.long) in
          ap (λ w. at_task (set_task c.keyed.bank.kept.ledgers t (ledger_of c.keyed.bank.kept.ledgers t + n)) w 0) e
          ∙ own_item c.keyed.bank.kept.ledgers t (ledger_of c.keyed.bank.kept.ledgers t + n) 0 low high
          ∙ ap (λ w. at_task c.keyed.bank.kept.ledgers w 0 + n) (sym e)
          ∙ ap (λ a. a + n) (b.stands.ledgers.each u task)
          ∙ sym (own_ledger sc m.past t i word name n call value u ∙ ap (λ d. if d then ledger sc m.past u + n else ledger sc m.past u) (one u t e))

      others : (u : ℕ) → u ≢ t → is_task sc u ≡ true → at_task (set_task c.keyed.bank.kept.ledgers t (ledger_of c.keyed.bank.kept.ledgers t + n)) u 0 ≡ ledger sc (entries.Call t i word replies.Done ∷ m.past) u
      others u other task = other_items c.keyed.bank.kept.ledgers t u (ledger_of c.keyed.bank.kept.ledgers t + n) 0 other ∙ b.stands.ledgers.each u task
          ∙ sym (own_ledger sc m.past t i word name n call value u ∙ ap (λ d. if d then ledger sc m.past u + n else ledger sc m.past u) (apart u t other))

  pub charge_left : (p : Payer) → payer_at c.keyed.bank.kept h t ≡ p → p ≢ payers.Nobody → AddsUp sc (entries.Call t i word replies.Done ∷ m.past) (paid c.keyed h t n p)
  charge_left payers.Ledger e some = ledger_left e
  charge_left payers.Due e some = due_left e
  charge_left payers.Nobody e some = absurd (some refl)
