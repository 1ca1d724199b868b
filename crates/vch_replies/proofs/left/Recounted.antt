-- An accepted change of an external count leaves what the history adds up with its entry.
use Rattle.std.proofs.Common.{◌≡◌, ℕ, ◌+◌, ◌-◌, Bool, true, false, List, ◌∷◌, refl, sym, ap, ◌∙◌, Option, Some, None, Ok, Err, Result}
use Rattle.std.specs.Prelude.{if◌then◌else◌, nat_le, ℤ}
use Rattle.std.specs.Option.{option_map}
use Rattle.vch_base.specs.declared.codes.TheConstants.{KERN_INVALID_ARGUMENT, KERN_FAILURE}
use Rattle.vch_base.specs.declared.limits.TheConstants.{LAST_WORD}
use Rattle.vch_base.specs.declared.key.Key.{Key}
use Rattle.vch_base.specs.declared.key.Key.TheVariants as keys
use Rattle.vch_base.specs.declared.places.Live.{Live}
use Rattle.vch_base.specs.declared.value.Value.{Value}
use Rattle.vch_base.specs.declared.value.Value.TheVariants as values
use Rattle.vch_base.specs.Keyed.{of_key}
use Rattle.vch_base.specs.Keys.{same_key}
use Rattle.vch_base.specs.Managers.{live_at, value_of}
use Rattle.vch_base.specs.Values.{Belongs, equal_values}
use Rattle.vch_importance.specs.Assertions.{is_own, counted_by}
use Rattle.vch_model.specs.declared.call.Call.TheVariants as calls
use Rattle.vch_model.specs.declared.call.Word.{Word}
use Rattle.vch_model.specs.declared.entry.Entry.TheVariants as entries
use Rattle.vch_model.specs.declared.entry.Reply.TheVariants as replies
use Rattle.vch_model.specs.declared.lists.Scenario.{Scenario}
use Rattle.vch_model.specs.After.{store_of}
use Rattle.vch_model.specs.Store.{Store}
use Rattle.vch_model.specs.Totals.{named_voucher}
use Rattle.vch_model.specs.Voucher.{value_in}
use Rattle.vch_machine.specs.Next.{nth_call}
use Rattle.vch_machine.specs.State.{Machine}
use Rattle.vch_legal.specs.ValueAmounts.{amount_of, counted_on}
use Rattle.vch_legal.proofs.CallerLemmas.{extern_amount, extern_ledger}
use Rattle.vch_frame.specs.Indices.{index_of}
use Rattle.vch_vouchers.specs.Desks.{Voucher}
use Rattle.vch_parts.specs.Plain.{Plain}
use Rattle.vch_replies.specs.Begins.{Begins}
use Rattle.vch_replies.specs.Left.{AddsUp, recounted}
use Rattle.vch_replies.specs.Replied.{changed}
use Rattle.vch_replies.specs.Told.{named_by, handle_in, live_in, values_of}
use Rattle.vch_replies.proofs.named.Named.{named_here, at_table}
use Rattle.vch_replies.proofs.left.DueSet.{dues_with}

-- the value that the store sees at a key of a named voucher is the live one at its handle
pub value_named : (sc : Scenario) (c : Plain) (m : Machine) (t name : ℕ) (k : Key) (v : Voucher) (h : ℕ) (o : Option Live) → Begins sc c m t → named_by c t name ≡ Some v
    → handle_in (of_key k c.keyed) (index_of k v) ≡ Some h → live_at (of_key k c.keyed).kept.slots h ≡ o
    → value_in k (named_voucher (store_of sc m.past) t name) ≡ value_of o
value_named sc c m t name k v h o b e f g =
    ap (λ (s : Store). value_in k (named_voucher s t name)) (sym b.ties.same_store)
    ∙ ap (value_in k) (named_here sc c m t name b ∙ ap (option_map (values_of c.keyed)) e)
    ∙ at_table (λ q. value_of (live_in (of_key q c.keyed) (handle_in (of_key q c.keyed) (index_of q v)))) k
    ∙ ap (λ i. value_of (live_in (of_key k c.keyed) i)) f ∙ ap value_of g

-- a list whose count the task may change, and the new count
record IsCounted (adding : Bool) (n due : ℕ) (o : Option Live) : Type 0 where
  live : Live
  there : o ≡ Some live
  list : List ℕ
  value : live.value ≡ values.Chain list
  count : due ≡ counted_on adding n live.due

ok_eq : (x y : ℕ) → ◌≡◌ {A = Result ℕ ℤ} (Ok x) (Ok y) → x ≡ y
ok_eq x y e = cc

count_is : (adding : Bool) (n due old : ℕ) → changed adding old n ≡ Ok due → due ≡ counted_on adding n old
count_is true n due old = by_test (nat_le (old + n) LAST_WORD)
  where
    by_test : (d : Bool) → ◌≡◌ {A = Result ℕ ℤ} (if d then Ok (old + n) else Err KERN_FAILURE) (Ok due) → due ≡ old + n
    by_test true e = sym (ok_eq (old + n) due e)
    by_test false e = cc
count_is false n due old = by_test (nat_le n old)
  where
    by_test : (d : Bool) → ◌≡◌ {A = Result ℕ ℤ} (if d then Ok (old - n) else Err KERN_FAILURE) (Ok due) → due ≡ old - n
    by_test true e = sym (ok_eq (old - n) due e)
    by_test false e = cc

counted_is : (adding : Bool) (n due t : ℕ) (o : Option Live) → counted_by (changed adding) o t n ≡ Ok due → IsCounted adding n due o
counted_is adding n due t None e = cc
counted_is adding n due t (Some l) e = of_value l.value refl e
  where
    own : (x : Value) (d : Bool) → (if d then changed adding l.due n else Err KERN_INVALID_ARGUMENT) ≡ Ok due → due ≡ counted_on adding n l.due
    own x true e = count_is adding n due l.due e
    own x false e = cc

    of_value : (x : Value) → l.value ≡ x → (if is_own x t then changed adding l.due n else Err KERN_INVALID_ARGUMENT) ≡ Ok due → IsCounted adding n due (Some l)
    of_value (values.Chain list) f e = record { live = l; there = refl; list = list; value = f; count = own (values.Chain list) (is_own (values.Chain list) t) e }
    of_value (values.User bytes) f e = cc
    of_value values.Default f e = cc
    of_value (values.Task u) f e = cc
    of_value (values.Account holder merchant) f e = cc

-- no other key has lists
no_list : (list : List ℕ) (q : Key) (x : Value) → same_key q keys.Importance ≡ false → Belongs q x → equal_values (values.Chain list) x ≡ false
no_list list q (values.User bytes) e f = refl
no_list list q values.Default e f = refl
no_list list q (values.Task u) e f = refl
no_list list q (values.Account holder merchant) e f = refl
no_list list keys.Importance (values.Chain other) e f = absurd (cc)
no_list list keys.Bank (values.Chain other) e f = absurd f
no_list list keys.User (values.Chain other) e f = absurd f
no_list list keys.Test (values.Chain other) e f = absurd f

pub extern_left : (sc : Scenario) (c : Plain) (m : Machine) (t i name n due h : ℕ) (adding : Bool) (word : Word) (v : Voucher) → Begins sc c m t
    → nth_call sc t i ≡ Some (calls.Extern name adding n) → named_by c t name ≡ Some v → handle_in c.keyed.importance (index_of keys.Importance v) ≡ Some h
    → counted_by (changed adding) (live_at c.keyed.importance.kept.slots h) t n ≡ Ok due
    → AddsUp sc (entries.Call t i word replies.Done ∷ m.past) (recounted c.keyed h due)
extern_left sc c m t i name n due h adding word v b call named handle ok = record {
  dues = dues_with sc c m t b keys.Importance h is.live due (entries.Call t i word replies.Done ∷ m.past) is.there
      (λ q x other belongs. ap (λ z. equal_values z x) is.value ∙ no_list is.list q x other belongs)
      (counted_on adding n) is.count changes;
  ledgers = record { long = b.stands.ledgers.long; each = λ u task. b.stands.ledgers.each u task ∙ sym (extern_ledger sc m.past t i word name n adding call u) };
}
  where
    is : IsCounted adding n due (live_at c.keyed.importance.kept.slots h)
    is = counted_is adding n due t (live_at c.keyed.importance.kept.slots h) ok

    changes : (x : Value) → amount_of sc (entries.Call t i word replies.Done ∷ m.past) x
        ≡ (if equal_values is.live.value x then counted_on adding n (amount_of sc m.past x) else amount_of sc m.past x)
    changes x = extern_amount sc m.past t i word name n adding is.list call
        (value_named sc c m t name keys.Importance v h (Some is.live) b named handle is.there ∙ ap Some is.value) x
        ∙ ap (λ z. if equal_values z x then counted_on adding n (amount_of sc m.past x) else amount_of sc m.past x) (sym is.value)
