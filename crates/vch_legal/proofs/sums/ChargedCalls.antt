-- An accepted call adds to ledgers and dues what it charges.
use Rattle.std.proofs.Common.{◌≡◌, ℕ, Bool, List, refl, true, false, sym, ap, ◌∙◌, subst, Some, None, Option, inl, inr}
use Rattle.std.specs.Prelude.{◌⊎◌, if◌then◌else◌}
use Rattle.vch_base.specs.declared.codes.TheConstants.{KERN_INVALID_ARGUMENT}
use Rattle.vch_base.specs.declared.key.Key.TheVariants as keys
use Rattle.vch_base.specs.declared.value.Value.{Value}
use Rattle.vch_base.specs.declared.value.Value.TheVariants as values
use Rattle.vch_model.specs.declared.call.Call.{Call}
use Rattle.vch_model.specs.declared.call.Call.TheVariants as calls
use Rattle.vch_model.specs.declared.call.Line.{Line}
use Rattle.vch_model.specs.declared.entry.Entry.{Entry}
use Rattle.vch_model.specs.declared.entry.Reply.{Reply}
use Rattle.vch_model.specs.declared.entry.Reply.TheVariants as replies
use Rattle.vch_model.specs.declared.lists.Scenario.{Scenario}
use Rattle.vch_model.specs.Voucher.{Voucher, equal_options, value_in}
use Rattle.vch_model.specs.Store.{Store}
use Rattle.vch_model.specs.Lines.{is_task, line_at}
use Rattle.vch_model.specs.After.{store_of}
use Rattle.vch_model.specs.Totals.{is_done, named_voucher}
use Rattle.vch_model.specs.Replies.{refused, charge_of, may_charge}
use Rattle.vch_model.specs.Legal.{IsAnswer}
use Rattle.vch_legal.proofs.facts.Choices.{number_eq, and_left}
use Rattle.vch_legal.proofs.seen.SeenHeld.{values_refl}
use Rattle.vch_legal.proofs.store.StoreLegal.{named_live}
use Rattle.vch_legal.proofs.store.StoreSteps.{StoreFits}
use Rattle.vch_legal.proofs.sums.Charges.{Balanced, charge_line, nothing_balanced, task_balanced, account_balanced, live_once, live_tasks}

-- an accepted charge is on the task's own value, or on an account of which it is the merchant
abbrev Chargeable : ℕ → Option Value → Type 0
Chargeable t x = (x ≡ Some (values.Task t)) ⊎ ((h : ℕ) × (x ≡ Some (values.Account h t)))

chargeable : (t : ℕ) (x : Option Value) → may_charge t x ≡ true → Chargeable t x
chargeable t (Some (values.Task u)) e = inl (ap (λ k. Some (values.Task k)) (number_eq u t e))
chargeable t (Some (values.Account h m)) e = inr (h, ap (λ k. Some (values.Account h k)) (number_eq m t e))
chargeable t (Some (values.User bytes)) e = cc
chargeable t (Some (values.Chain list)) e = cc
chargeable t (Some values.Default) e = cc
chargeable t None e = cc

charge_done : (t : ℕ) (o : Option Voucher) → is_done (charge_of t o) ≡ true
    → (v : Voucher) × (o ≡ Some v) × Chargeable t v.bank
charge_done t None e = cc
charge_done t (Some v) e = (v, refl, chargeable t v.bank (by_test (may_charge t v.bank) e))
  where
    by_test : (b : Bool) → is_done (if b then replies.Done else refused KERN_INVALID_ARGUMENT) ≡ true → b ≡ true
    by_test true g = refl
    by_test false g = cc

charge_balanced : (sc : Scenario) (past : List Entry) (s : Store) (t phase u name n : ℕ) → StoreFits sc s
    → is_done (charge_of t (named_voucher s t name)) ≡ true → Balanced sc past s t (charge_line phase u name n)
charge_balanced sc past s t phase u name n fits e =
    let found : (v : Voucher) × (named_voucher s t name ≡ Some v) × Chargeable t v.bank =
    charge_done t (named_voucher s t name) e in
    elim found.2 as (λ _. Balanced sc past s t (charge_line phase u name n)) [
      | inl own ↦ task_balanced sc past s t phase u name n fits.good
          (and_left (is_task sc t) true (live_tasks sc s.live 3 (values.Task t) fits.good
          (named_live sc s t name found.0 keys.Bank (values.Task t) fits found.1
          (has_it (values.Task t) found.0.bank own))))
          (ap (value_in keys.Bank) found.1 ∙ own)
      | inr account ↦ account_balanced sc past s t phase u name n account.0 t fits.good
          (live_once sc s.live 3 (values.Account account.0 t) (fits.once (values.Account account.0 t) refl)
          (named_live sc s t name found.0 keys.Bank (values.Account account.0 t) fits found.1
          (has_it (values.Account account.0 t) found.0.bank account.1)))
          (ap (value_in keys.Bank) found.1 ∙ account.1)
    ]
  where
    has_it : (x : Value) (o : Option Value) → o ≡ Some x → equal_options o (Some x) ≡ true
    has_it x o g = ap (λ y. equal_options y (Some x)) g ∙ values_refl x

-- the line of an answered call
abbrev pub Answered : Scenario → List Entry → ℕ → ℕ → Reply → Type 0
Answered sc past t n reply = (l : ℕ × Line) × (line_at sc t n ≡ Some l)
    × IsAnswer sc past (store_of sc past) t l.1.call reply

abbrev line_of : ℕ → ℕ → Call → Option (ℕ × Line)
line_of phase u call = Some (phase, record { task = u; call = call })

-- an accepted call of any kind
call_balanced : (sc : Scenario) (past : List Entry) (t phase u : ℕ) (call : Call) (reply : Reply)
    → StoreFits sc (store_of sc past) → is_done reply ≡ true → IsAnswer sc past (store_of sc past) t call reply
    → Balanced sc past (store_of sc past) t (Some (phase, record { task = u; call = call }))
call_balanced sc past t phase u (calls.Charge name n) reply fits done_ a =
    elim a as (λ _. Balanced sc past (store_of sc past) t (charge_line phase u name n)) [
      | inl own ↦ charge_balanced sc past (store_of sc past) t phase u name n fits (sym (ap is_done own.1) ∙ done_)
      | inr other ↦ elim other as (λ _. Balanced sc past (store_of sc past) t (charge_line phase u name n)) [
        | inl want ↦ let k : false ≡ true = sym (ap is_done want.0) ∙ done_ in cc
        | inr leaving ↦ let k : false ≡ true = leaving.0 in cc
      ]
    ]
call_balanced sc past t phase u (calls.Create bytes) reply fits done_ a =
    nothing_balanced sc past (store_of sc past) t (line_of phase u (calls.Create bytes)) fits.good
    (λ s v x amount. refl) refl
call_balanced sc past t phase u (calls.GiveUp name) reply fits done_ a =
    nothing_balanced sc past (store_of sc past) t (line_of phase u (calls.GiveUp name)) fits.good
    (λ s v x amount. refl) refl
call_balanced sc past t phase u (calls.Extract name key) reply fits done_ a =
    nothing_balanced sc past (store_of sc past) t (line_of phase u (calls.Extract name key)) fits.good
    (λ s v x amount. refl) refl
call_balanced sc past t phase u (calls.Recipes name) reply fits done_ a =
    nothing_balanced sc past (store_of sc past) t (line_of phase u (calls.Recipes name)) fits.good
    (λ s v x amount. refl) refl
call_balanced sc past t phase u (calls.Send to moving name id) reply fits done_ a =
    nothing_balanced sc past (store_of sc past) t (line_of phase u (calls.Send to moving name id)) fits.good
    (λ s v x amount. refl) refl
call_balanced sc past t phase u calls.Recv reply fits done_ a =
    nothing_balanced sc past (store_of sc past) t (line_of phase u calls.Recv) fits.good (λ s v x amount. refl) refl
call_balanced sc past t phase u (calls.Extern name adding n) reply fits done_ a =
    nothing_balanced sc past (store_of sc past) t (line_of phase u (calls.Extern name adding n)) fits.good
    (λ s v x amount. refl) refl
call_balanced sc past t phase u calls.Ledger reply fits done_ a =
    nothing_balanced sc past (store_of sc past) t (line_of phase u calls.Ledger) fits.good (λ s v x amount. refl) refl
call_balanced sc past t phase u calls.Assertions reply fits done_ a =
    nothing_balanced sc past (store_of sc past) t (line_of phase u calls.Assertions) fits.good
    (λ s v x amount. refl) refl
call_balanced sc past t phase u calls.Live reply fits done_ a =
    nothing_balanced sc past (store_of sc past) t (line_of phase u calls.Live) fits.good (λ s v x amount. refl) refl
call_balanced sc past t phase u calls.Exit reply fits done_ a =
    nothing_balanced sc past (store_of sc past) t (line_of phase u calls.Exit) fits.good (λ s v x amount. refl) refl

pub line_balanced : (sc : Scenario) (past : List Entry) (t n : ℕ) (reply : Reply)
    → StoreFits sc (store_of sc past) → is_done reply ≡ true → Answered sc past t n reply
    → Balanced sc past (store_of sc past) t (line_at sc t n)
line_balanced sc past t n reply fits done_ (l, g, a) = subst (Balanced sc past (store_of sc past) t) (sym g)
    (call_balanced sc past t l.0 l.1.task l.1.call reply fits done_ a)
