-- The reply to a change of an external count, by the live value that it is about.
use Rattle.std.proofs.Common.{◌≡◌, ℕ, suc, ◌+◌, ◌-◌, Bool, true, false, List, [], ◌∷◌, length, refl, arith, sym, ap, ◌∙◌, Option, Some, None, Ok, Err}
use Rattle.std.specs.Prelude.{◌==◌, ◌&&◌, nat_lt, nat_le, if◌then◌else◌, slice_index}
use Rattle.std.specs.Option.{option_map}
use Rattle.vch_base.specs.declared.codes.TheConstants.{KERN_INVALID_ARGUMENT, KERN_FAILURE}
use Rattle.vch_base.specs.declared.limits.TheConstants.{LAST_WORD}
use Rattle.vch_base.specs.declared.key.Key.{Key}
use Rattle.vch_base.specs.declared.key.Key.TheVariants as keys
use Rattle.vch_base.specs.declared.places.Live.{Live}
use Rattle.vch_base.specs.declared.value.Value.{Value}
use Rattle.vch_base.specs.declared.value.Value.TheVariants as values
use Rattle.vch_base.specs.Keyed.{of_key}
use Rattle.vch_base.specs.Managers.{value_of}
use Rattle.vch_importance.specs.Assertions.{last_of, is_own, counted_by}
use Rattle.vch_model.specs.declared.call.Call.TheVariants as calls
use Rattle.vch_model.specs.declared.entry.Entry.{Entry}
use Rattle.vch_model.specs.declared.entry.Reply.TheVariants as replies
use Rattle.vch_model.specs.declared.lists.Scenario.{Scenario}
use Rattle.vch_model.specs.Replies.{refused, counting, extern_of}
use Rattle.vch_model.specs.Totals.{external, last_is, tasks_of}
use Rattle.vch_machine.specs.Beginning.{store_reply}
use Rattle.vch_machine.specs.State.{Machine}
use Rattle.vch_legal.specs.ValueAmounts.{amount_of}
use Rattle.vch_frame.specs.Indices.{index_of}
use Rattle.vch_vouchers.specs.Desks.{Voucher}
use Rattle.vch_parts.specs.Plain.{Plain}
use Rattle.vch_replies.specs.Begins.{Begins}
use Rattle.vch_replies.specs.Told.{named_by, handle_in, live_in, live_of, values_of}
use Rattle.vch_replies.specs.Replied.{done_or, changed, extern_told}
use Rattle.vch_replies.proofs.named.Named.{named_here}

last_same : (t : ℕ) (list : List ℕ) → last_is t (tasks_of (values.Chain list)) ≡ is_own (values.Chain list) t
last_same t [] = refl
last_same t (x ∷ list) = by_test (nat_lt 1 (length (x ∷ list)))
  where
    one_less : (n : ℕ) → n ≡ suc n - 1
    one_less n = omega arith

    by_test : (b : Bool) → last_is t (if b then x ∷ list else []) ≡ (b && (last_of (x ∷ list) == t))
    by_test true = ap (λ n. slice_index (x ∷ list) n == t) (one_less (length list))
    by_test false = refl

within : (adding : Bool) (due n : ℕ)
    → (if adding then (if nat_le (due + n) LAST_WORD then replies.Done else refused KERN_FAILURE) else (if nat_le n due then replies.Done else refused KERN_FAILURE))
    ≡ done_or (changed adding due n)
within true due n = by_test (nat_le (due + n) LAST_WORD)
  where
    by_test : (b : Bool) → (if b then replies.Done else refused KERN_FAILURE) ≡ done_or (if b then Ok (due + n) else Err KERN_FAILURE)
    by_test true = refl
    by_test false = refl
within false due n = by_test (nat_le n due)
  where
    by_test : (b : Bool) → (if b then replies.Done else refused KERN_FAILURE) ≡ done_or (if b then Ok (due - n) else Err KERN_FAILURE)
    by_test true = refl
    by_test false = refl

-- what the history says of the value is what is due on the live one
counted_alike : (sc : Scenario) (past : List Entry) (t n : ℕ) (adding : Bool) (l : Option Live) → ((a : Live) → l ≡ Some a → a.due ≡ amount_of sc past a.value)
    → counting sc past t adding n (value_of l) ≡ done_or (counted_by (changed adding) l t n)
counted_alike sc past t n adding None due = refl
counted_alike sc past t n adding (Some a) due = of_value a.value refl
  where
    of_value : (x : Value) → a.value ≡ x → counting sc past t adding n (Some x) ≡ done_or (if is_own x t then changed adding a.due n else Err KERN_INVALID_ARGUMENT)
    of_value (values.User bytes) e = refl
    of_value values.Default e = refl
    of_value (values.Task u) e = refl
    of_value (values.Account holder merchant) e = refl
    of_value (values.Chain list) e = rw (last_same t list) (by_test (is_own (values.Chain list) t))
      where
        count : external sc past (values.Chain list) ≡ a.due
        count = sym (due a refl ∙ ap (amount_of sc past) e)

        by_test : (b : Bool) → (if b then (if adding then (if nat_le (external sc past (values.Chain list) + n) LAST_WORD then replies.Done else refused KERN_FAILURE) else (if nat_le n (external sc past (values.Chain list)) then replies.Done else refused KERN_FAILURE)) else refused KERN_INVALID_ARGUMENT)
            ≡ done_or (if b then changed adding a.due n else Err KERN_INVALID_ARGUMENT)
        by_test true = rw count (within adding a.due n)
        by_test false = refl

-- what is due on the live value of a voucher
pub due_of_voucher : (sc : Scenario) (c : Plain) (m : Machine) (t : ℕ) (k : Key) (v : Voucher) → Begins sc c m t
    → (a : Live) → live_of c.keyed k v ≡ Some a → a.due ≡ amount_of sc m.past a.value
due_of_voucher sc c m t k v b = of_handle (handle_in (of_key k c.keyed) (index_of k v))
  where
    of_handle : (o : Option ℕ) (a : Live) → live_in (of_key k c.keyed) o ≡ Some a → a.due ≡ amount_of sc m.past a.value
    of_handle None a e = cc
    of_handle (Some h) a e = (b.stands.keyed k).dues h a e

pub extern_reply : (sc : Scenario) (c : Plain) (m : Machine) (t name n : ℕ) (adding : Bool) → Begins sc c m t
    → store_reply sc m t (calls.Extern name adding n) ≡ extern_told c.keyed t adding n (named_by c t name)
extern_reply sc c m t name n adding b =
    ap (extern_of sc m.past t adding n) (named_here sc c m t name b) ∙ of_voucher (named_by c t name)
  where
    of_voucher : (o : Option Voucher) → extern_of sc m.past t adding n (option_map (values_of c.keyed) o) ≡ extern_told c.keyed t adding n o
    of_voucher None = refl
    of_voucher (Some v) = counted_alike sc m.past t n adding (live_of c.keyed keys.Importance v) (due_of_voucher sc c m t keys.Importance v b)
