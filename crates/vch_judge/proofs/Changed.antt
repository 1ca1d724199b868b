-- Changes of a voucher that is formed, at one key.
use Rattle.std.proofs.Common.{◌≡◌, ℕ, Bool, refl, sym, ap, ◌∙◌, subst, true, false, if◌then◌else◌, Option, Some, None, Result, Ok, Err}
use Rattle.vch_base.specs.Keyed.{of_key, with_key}
use Rattle.std.specs.Prelude.{ℤ}
use Rattle.vch_base.specs.declared.fault.Code.{Code}
use Rattle.vch_base.specs.declared.value.Value.{Value}
use Rattle.vch_base.specs.declared.key.Key.{Key}
use Rattle.vch_base.specs.declared.key.Key.TheVariants as keys
use Rattle.vch_legal.proofs.CallerLemmas.{not_true}
use Rattle.vch_model.specs.Eval.{takes, loses, redeemed, previous_value, put_answer}
use Rattle.vch_model.specs.Voucher.{Voucher, equal_options}
use Rattle.vch_books.specs.Audits.{Audit, IsSound, IsGood, IsGoodOption, meant}
use Rattle.vch_books.specs.Numbered.{numbered_option, option_voucher, at_key}
use Rattle.vch_books.specs.declared.numbers.Numbers.{Numbers}
use Rattle.vch_judge.specs.declared.formed.Formed.{Formed}
use Rattle.vch_judge.specs.declared.formed.Slot.{Slot}
use Rattle.vch_judge.specs.declared.formed.Slot.TheVariants as slots
use Rattle.vch_judge.specs.Formed.{IsFormed, IsSlot, IsAnswered, IsResult, slot_at, with_slot, slot_of_number}
use Rattle.vch_judge.proofs.FormedVouchers.{formed_at, formed_with, good_at, good_slot, meant_at, same_slot, slot_same}

-- the map with the value of another voucher
with_given : (a : Audit) (k : Key) (v : Numbers) (f r : Formed) (map : Voucher) → IsGood a v
    → r ≡ with_slot k (slot_of_number (at_key k v)) f → IsFormed a f map
    → IsFormed a r (with_key k (of_key k (meant a v)) map)
with_given a k v f r map g q h =
    subst (λ r. IsFormed a r (with_key k (of_key k (meant a v)) map)) (sym q) (formed_with a k _ _ f map (good_slot a k v g) h)

pub takes_none : (a : Audit) (k : Key) (p : Option Numbers) (f : Formed) (map : Voucher) → p ≡ None → IsFormed a f map
    → IsFormed a f (takes k (option_voucher a.history p) map)
takes_none a k p f map e h = subst (λ p. IsFormed a f (takes k (option_voucher a.history p) map)) (sym e) h

pub takes_some : (a : Audit) (k : Key) (p : Option Numbers) (v : Numbers) (f r : Formed) (map : Voucher) → p ≡ Some v
    → IsGoodOption a p → r ≡ with_slot k (slot_of_number (at_key k v)) f → IsFormed a f map
    → IsFormed a r (takes k (option_voucher a.history p) map)
takes_some a k p v f r map e g q h =
    subst (λ p. IsGoodOption a p → IsFormed a r (takes k (option_voucher a.history p) map)) (sym e)
    (λ g. with_given a k v f r map g q h) g

pub redeems_some : (a : Audit) (k : Key) (p : Option Numbers) (v : Numbers) (f r : Formed) (map : Voucher) → p ≡ Some v
    → IsGoodOption a p → r ≡ with_slot k (slot_of_number (at_key k v)) f → IsFormed a f map
    → IsFormed a r (redeemed k (option_voucher a.history p) map)
redeems_some a k p v f r map e g q h =
    subst (λ p. IsGoodOption a p → IsFormed a r (redeemed k (option_voucher a.history p) map)) (sym e)
    (λ g. with_given a k v f r map g q h) g

with_own : (k : Key) (map : Voucher) → with_key k (of_key k map) map ≡ map
with_own keys.Importance map = refl
with_own keys.Bank map = refl
with_own keys.User map = refl
with_own keys.Test map = refl

pub redeems_none : (a : Audit) (k : Key) (p : Option Numbers) (f : Formed) (map : Voucher) → p ≡ None → IsFormed a f map
    → IsFormed a f (redeemed k (option_voucher a.history p) map)
redeems_none a k p f map e h =
    subst (λ p. IsFormed a f (redeemed k (option_voucher a.history p) map)) (sym e)
    (subst (IsFormed a f) (sym (with_own k map)) h)

pub loses_none : (a : Audit) (k : Key) (p : Option Numbers) (f r : Formed) (map : Voucher) → p ≡ None
    → r ≡ with_slot k slots.Empty f → IsFormed a f map → IsFormed a r (loses k (option_voucher a.history p) map)
loses_none a k p f r map e q h =
    subst (λ p. IsFormed a r (loses k (option_voucher a.history p) map)) (sym e)
    (subst (λ r. IsFormed a r (with_key k None map)) (sym q) (formed_with a k slots.Empty None f map refl h))

-- the two values are equal where the slots are
equal_at : (a : Audit) (k : Key) (v : Numbers) (f : Formed) (map : Voucher) → IsFormed a f map
    → slot_at k f ≡ slot_of_number (at_key k v) → equal_options (of_key k (meant a v)) (of_key k map) ≡ true
equal_at a k v f map h q = ap (λ x. equal_options x (of_key k map)) (meant_at a k v)
    ∙ slot_same a k (at_key k v) (slot_at k f) (of_key k map) (formed_at a k f map h) q

unequal_at : (a : Audit) (k : Key) (v : Numbers) (f : Formed) (map : Voucher) → IsSound a → IsGood a v → IsFormed a f map
    → (slot_at k f ≡ slot_of_number (at_key k v) → ⊥) → equal_options (of_key k (meant a v)) (of_key k map) ≡ false
unequal_at a k v f map s g h differ = not_true (equal_options (of_key k (meant a v)) (of_key k map))
    (λ e. differ (same_slot a k (at_key k v) (slot_at k f) (of_key k map) s (good_at a k v g) (formed_at a k f map h)
    (sym (ap (λ x. equal_options x (of_key k map)) (meant_at a k v)) ∙ e)))

pub loses_same : (a : Audit) (k : Key) (p : Option Numbers) (v : Numbers) (f r : Formed) (map : Voucher) → p ≡ Some v
    → slot_at k f ≡ slot_of_number (at_key k v) → r ≡ with_slot k slots.Empty f → IsFormed a f map
    → IsFormed a r (loses k (option_voucher a.history p) map)
loses_same a k p v f r map e same q h =
    subst (λ p. IsFormed a r (loses k (option_voucher a.history p) map)) (sym e)
    (subst (λ b. IsFormed a r (if b then with_key k None map else map)) (sym (equal_at a k v f map h same))
    (subst (λ r. IsFormed a r (with_key k None map)) (sym q) (formed_with a k slots.Empty None f map refl h)))

pub loses_other : (a : Audit) (k : Key) (p : Option Numbers) (v : Numbers) (f : Formed) (map : Voucher) → p ≡ Some v
    → IsSound a → IsGoodOption a p → (slot_at k f ≡ slot_of_number (at_key k v) → ⊥) → IsFormed a f map
    → IsFormed a f (loses k (option_voucher a.history p) map)
loses_other a k p v f map e s g differ h =
    subst (λ p. IsGoodOption a p → IsFormed a f (loses k (option_voucher a.history p) map)) (sym e)
    (λ g. subst (λ b. IsFormed a f (if b then with_key k None map else map)) (sym (unequal_at a k v f map s g h differ)) h) g

-- what a command begins with
pub begun_none : (a : Audit) (k : Key) (p : Option Numbers) (s : Slot) (f : Formed) (map : Voucher) → p ≡ None
    → s ≡ slot_at k f → IsFormed a f map → IsSlot a k s (previous_value k (option_voucher a.history p) map)
begun_none a k p s f map e q h =
    subst (λ p. IsSlot a k s (previous_value k (option_voucher a.history p) map)) (sym e)
    (subst (λ s. IsSlot a k s (of_key k map)) (sym q) (formed_at a k f map h))

pub begun_some : (a : Audit) (k : Key) (p : Option Numbers) (v : Numbers) (s : Slot) (map : Voucher) → p ≡ Some v
    → IsGoodOption a p → s ≡ slot_of_number (at_key k v) → IsSlot a k s (previous_value k (option_voucher a.history p) map)
begun_some a k p v s map e g q =
    subst (λ p. IsGoodOption a p → IsSlot a k s (previous_value k (option_voucher a.history p) map)) (sym e)
    (λ g. subst (λ s. IsSlot a k s (of_key k (meant a v))) (sym q) (good_slot a k v g)) g

-- with what a manager answers
pub put_ok : (a : Audit) (k : Key) (s : Slot) (f r : Formed) (map : Voucher) (o : Result (Option Value) ℤ)
    → IsAnswered a k (Ok s) o → r ≡ with_slot k s f → IsFormed a f map → IsResult a (Ok r) (put_answer k map o)
put_ok a k s f r map (Ok x) h q g = subst (λ r. IsFormed a r (with_key k x map)) (sym q) (formed_with a k s x f map h g)
put_ok a k s f r map (Err code) h q g = absurd h

pub put_err : (a : Audit) (k : Key) (c : Code) (map : Voucher) (o : Result (Option Value) ℤ)
    → IsAnswered a k (Err c) o → IsResult a (Err c) (put_answer k map o)
put_err a k c map (Ok x) h = absurd h
put_err a k c map (Err code) h = h
