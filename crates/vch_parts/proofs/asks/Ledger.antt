-- What is due on a value that is given back is credited to its holder, in the history and in the bank.
use Rattle.std.proofs.Common.{◌≡◌, ◌≢◌, ℕ, ◌+◌, ◌<◌, ◌≤◌, ◌==◌, nat_lt, Bool, true, false, cond, List, [], ◌∷◌, length, refl, arith, sym, ap, ◌∙◌, Option, Some, None, inl, inr}
use Rattle.std.specs.Prelude.{if◌then◌else◌}
use Rattle.std.proofs.lemmas.Bool.{cases_eq}
use Rattle.std.proofs.lemmas.Grind.{common_steps}
use Rattle.vch_base.specs.declared.key.Key.{Key}
use Rattle.vch_base.specs.declared.key.Key.TheVariants as keys
use Rattle.vch_base.specs.declared.places.Live.{Live}
use Rattle.vch_base.specs.declared.value.Value.{Value}
use Rattle.vch_base.specs.declared.value.Value.TheVariants as values
use Rattle.vch_base.specs.Managers.{credited}
use Rattle.vch_base.specs.Tasks.{at_task, set_task}
use Rattle.vch_base.specs.Values.{Belongs}
use Rattle.vch_base.specs.Keys.{same_key}
use Rattle.vch_base.proofs.CallerLemmas.{own_item, other_items, as_long}
use Rattle.vch_model.specs.declared.entry.Entry.{Entry}
use Rattle.vch_model.specs.declared.entry.Entry.TheVariants as entries
use Rattle.vch_model.specs.declared.lists.Scenario.{Scenario}
use Rattle.vch_model.specs.After.{store_of}
use Rattle.vch_model.specs.Legal.{find_made}
use Rattle.vch_model.specs.Store.{Alive}
use Rattle.vch_model.specs.Totals.{with_made, is_holder, ledger, due_of}
use Rattle.vch_machine.specs.State.{Place, Living, Machine, living_at, seen}
use Rattle.vch_legal.specs.Tie.{Ties}
use Rattle.vch_legal.specs.ValueAmounts.{amount_of}
use Rattle.vch_legal.proofs.CallerLemmas.{numbered, not_true}
use Rattle.vch_frame.proofs.CallerLemmas.{task_number}
use Rattle.vch_model.specs.Lines.{is_task}
use Rattle.vch_parts.specs.Stands.{Ledgers}

abbrev value_in : Option Alive → Option Value
value_in None = None
value_in (Some a) = Some a.value

made_found : (live : List Alive) (n : ℕ) → with_made live n ≡ value_in (find_made live n)
made_found [] n = refl
made_found (a ∷ live) n = by (a.made == n) (made_found live n)
  where
    by : (b : Bool) → with_made live n ≡ value_in (find_made live n) → cond b (Some a.value) (with_made live n) ≡ value_in (cond b (Some a) (find_made live n))
    by true e = refl
    by false e = e

-- the store of the history has a live value at its number
pub value_made : (sc : Scenario) (m : Machine) (p : Place) (a : Living) → Ties sc m → living_at m.live p ≡ Some a → nat_lt 0 a.made ≡ true → with_made (store_of sc m.past).live a.made ≡ Some a.value
value_made sc m p a ties e pos =
    ap (λ (st : List Alive). with_made st a.made) (sym (ap (λ st. st.live) ties.same_store))
    ∙ made_found (seen m).live a.made ∙ ap value_in (numbered sc m ties.fits p a e pos).0

released_ledger : (sc : Scenario) (past : List Entry) (e : ℕ) (x : Value) (t : ℕ) → with_made (store_of sc past).live e ≡ Some x
    → ledger sc (entries.Released e ∷ past) t ≡ (if is_holder t (Some x) then ledger sc past t + due_of sc past (Some x) else ledger sc past t)
released_ledger sc past e x t found = rw found refl

module _ (sc : Scenario) (past : List Entry) (e : ℕ) (x : Value) (found : with_made (store_of sc past).live e ≡ Some x) (ledgers : List ℕ) (s : Ledgers sc past ledgers) where
  -- a value that is no account
  pub ledgers_stay : ((t : ℕ) → is_holder t (Some x) ≡ false) → Ledgers sc (entries.Released e ∷ past) ledgers
  ledgers_stay none = record { long = s.long; each = λ t task. s.each t task ∙ sym (released_ledger sc past e x t found ∙ rw (none t) refl) }

module _ (sc : Scenario) (past : List Entry) (e holder merchant due : ℕ) (found : with_made (store_of sc past).live e ≡ Some (values.Account holder merchant)) (ledgers : List ℕ) (s : Ledgers sc past ledgers)
    (same : due ≡ due_of sc past (Some (values.Account holder merchant))) where
  -- an account
  pub ledgers_credited : Ledgers sc (entries.Released e ∷ past) (set_task ledgers holder (at_task ledgers holder 0 + due))
  ledgers_credited = record {
    long = as_long ledgers holder (at_task ledgers holder 0 + due) ∙ s.long;
    each = λ t task. elim (cases_eq t holder) [
      | inl e ↦ here t e task
      | inr n ↦ there t n task
    ];
  }
    where
      one : (a b : ℕ) → a ≡ b → (b == a) ≡ true
      one a b e = grind (arith, common_steps)

      apart : (a b : ℕ) → a ≢ b → (b == a) ≡ false
      apart a b n = not_true (b == a) (λ e. let z : a ≡ b = grind (arith, common_steps) in n z)

      here : (t : ℕ) → t ≡ holder → is_task sc t ≡ true → at_task (set_task ledgers holder (at_task ledgers holder 0 + due)) t 0 ≡ ledger sc (entries.Released e ∷ past) t
      here t q task =
          let n = task_number sc t task in
          let a : 0 < holder = omega (arith, q, n.0) in
          let b : holder ≤ length ledgers = omega (arith, q, n.0, n.1, s.long) in
          ap (λ u. at_task (set_task ledgers holder (at_task ledgers holder 0 + due)) u 0) q
          ∙ own_item ledgers holder (at_task ledgers holder 0 + due) 0 a b
          ∙ ap (λ u. at_task ledgers u 0 + due) (sym q)
          ∙ ap (λ u. u + due) (s.each t task) ∙ ap (λ u. ledger sc past t + u) same
          ∙ sym (released_ledger sc past e (values.Account holder merchant) t found ∙ rw (one t holder q) refl)

      there : (t : ℕ) → t ≢ holder → is_task sc t ≡ true → at_task (set_task ledgers holder (at_task ledgers holder 0 + due)) t 0 ≡ ledger sc (entries.Released e ∷ past) t
      there t n task = other_items ledgers holder t (at_task ledgers holder 0 + due) 0 n ∙ s.each t task
          ∙ sym (released_ledger sc past e (values.Account holder merchant) t found ∙ rw (apart t holder n) refl)

-- only the bank has accounts
pub not_holder : (k : Key) (x : Value) (t : ℕ) → same_key k keys.Bank ≡ false → Belongs k x → is_holder t (Some x) ≡ false
not_holder keys.Bank x t e b = absurd (cc)
not_holder keys.Importance (values.Account a c) t e b = absurd b
not_holder keys.User (values.Account a c) t e b = absurd b
not_holder keys.Test (values.Account a c) t e b = absurd b
not_holder k (values.User bytes) t e b = refl
not_holder k (values.Chain list) t e b = refl
not_holder k values.Default t e b = refl
not_holder k (values.Task u) t e b = refl

-- what a bank does to its ledgers is what the history says
pub bank_credits : (sc : Scenario) (past : List Entry) (e : ℕ) (l : Live) (ledgers : List ℕ) → with_made (store_of sc past).live e ≡ Some l.value → l.due ≡ amount_of sc past l.value
    → Ledgers sc past ledgers → Ledgers sc (entries.Released e ∷ past) (credited (Some l) ledgers)
bank_credits sc past e l ledgers found due s = by l.value refl
  where
    by : (x : Value) → l.value ≡ x → Ledgers sc (entries.Released e ∷ past) (credited (Some (record l { value = x })) ledgers)
    by (values.Account holder merchant) q = ledgers_credited sc past e holder merchant l.due (found ∙ ap Some q) ledgers s (due ∙ ap (amount_of sc past) q)
    by (values.User bytes) q = ledgers_stay sc past e (values.User bytes) (found ∙ ap Some q) ledgers s (λ t. refl)
    by (values.Chain list) q = ledgers_stay sc past e (values.Chain list) (found ∙ ap Some q) ledgers s (λ t. refl)
    by values.Default q = ledgers_stay sc past e values.Default (found ∙ ap Some q) ledgers s (λ t. refl)
    by (values.Task u) q = ledgers_stay sc past e (values.Task u) (found ∙ ap Some q) ledgers s (λ t. refl)
