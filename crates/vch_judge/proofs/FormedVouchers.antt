-- Vouchers that are formed, and what their slots stand for.
use Rattle.std.proofs.Common.{◌≡◌, ℕ, Bool, refl, sym, ap, ◌∙◌, subst, true, false, Option, Some, None}
use Rattle.std.specs.Prelude.{◌&&◌, MatchOption}
use Rattle.vch_base.specs.Keyed.{of_key, with_key}
use Rattle.vch_base.specs.Keys.{number_of}
use Rattle.vch_base.specs.declared.key.Key.{Key}
use Rattle.vch_base.specs.declared.key.Key.TheVariants as keys
use Rattle.vch_base.specs.declared.value.Value.{Value}
use Rattle.vch_base.specs.Values.{equal_values}
use Rattle.vch_base.proofs.CallerLemmas.{equal_where_equal}
use Rattle.vch_legal.proofs.CallerLemmas.{values_refl, values_eq}
use Rattle.vch_model.specs.Store.{is_live, option_live, all_live}
use Rattle.vch_model.specs.Voucher.{Voucher, nothing, equal_options}
use Rattle.vch_books.specs.Audits.{Audit, IsSound, IsGood, store_at, meant}
use Rattle.vch_books.specs.Numbered.{numbered_value, numbered_option, StandsAt, Stands, at_key, no_numbers}
use Rattle.vch_books.specs.declared.numbers.Numbers.{Numbers}
use Rattle.vch_books.proofs.CallerLemmas.{standing_live, standing_same}
use Rattle.vch_judge.specs.declared.formed.Formed.{Formed}
use Rattle.vch_judge.specs.declared.formed.Slot.{Slot}
use Rattle.vch_judge.specs.declared.formed.Slot.TheVariants as slots
use Rattle.vch_judge.specs.Formed.{IsSlot, IsFormed, IsVoucher, HasNumbers, HasDead, slot_at, with_slot, slot_of_number}
use Rattle.vch_judge.proofs.Keys.{by_key}

-- what stands at a key
pub formed_at : (a : Audit) (k : Key) (f : Formed) (map : Voucher) → IsFormed a f map → IsSlot a k (slot_at k f) (of_key k map)
unfolding IsFormed
formed_at a k f map h = h k

-- with something else at a key
pub formed_with : (a : Audit) (k : Key) (s : Slot) (x : Option Value) (f : Formed) (map : Voucher) → IsSlot a k s x
    → IsFormed a f map → IsFormed a (with_slot k s f) (with_key k x map)
unfolding IsFormed
formed_with a keys.Importance s x f map h g =
    by_key (λ j. IsSlot a j (slot_at j (with_slot keys.Importance s f)) (of_key j (with_key keys.Importance x map))) h (g keys.Bank) (g keys.User) (g keys.Test)
formed_with a keys.Bank s x f map h g =
    by_key (λ j. IsSlot a j (slot_at j (with_slot keys.Bank s f)) (of_key j (with_key keys.Bank x map))) (g keys.Importance) h (g keys.User) (g keys.Test)
formed_with a keys.User s x f map h g =
    by_key (λ j. IsSlot a j (slot_at j (with_slot keys.User s f)) (of_key j (with_key keys.User x map))) (g keys.Importance) (g keys.Bank) h (g keys.Test)
formed_with a keys.Test s x f map h g =
    by_key (λ j. IsSlot a j (slot_at j (with_slot keys.Test s f)) (of_key j (with_key keys.Test x map))) (g keys.Importance) (g keys.Bank) (g keys.User) h

-- the slot of a number that stands
pub number_slot : (a : Audit) (k : Key) (n : Option ℕ) → StandsAt a.history (store_at a).live k n
    → IsSlot a k (slot_of_number n) (numbered_option a.history n)
number_slot a k None h = refl
number_slot a k (Some e) h = (refl, h)

-- what a voucher of numbers has at a key
pub meant_at : (a : Audit) (k : Key) (v : Numbers) → of_key k (meant a v) ≡ numbered_option a.history (at_key k v)
meant_at a k v = by_key (λ j. of_key j (meant a v) ≡ numbered_option a.history (at_key j v)) refl refl refl refl k

pub good_at : (a : Audit) (k : Key) (v : Numbers) → IsGood a v → StandsAt a.history (store_at a).live k (at_key k v)
unfolding Stands
good_at a k v g = g k

pub good_slot : (a : Audit) (k : Key) (v : Numbers) → IsGood a v → IsSlot a k (slot_of_number (at_key k v)) (of_key k (meant a v))
good_slot a k v g = subst (IsSlot a k (slot_of_number (at_key k v))) (sym (meant_at a k v)) (number_slot a k (at_key k v) (good_at a k v g))

-- the voucher of numbers
pub formed_of : (a : Audit) (f : Formed) (v : Numbers) → HasNumbers f v → IsGood a v → IsFormed a f (meant a v)
unfolding IsFormed
formed_of a f v h g = λ k. subst (λ s. IsSlot a k s (of_key k (meant a v))) (sym (h k)) (good_slot a k v g)

none_good : (a : Audit) → IsGood a no_numbers
unfolding Stands
none_good a = λ k. by_key (λ j. StandsAt a.history (store_at a).live j (at_key j no_numbers)) tt tt tt tt k

pub formed_none : (a : Audit) (f : Formed) → HasNumbers f no_numbers → IsFormed a f nothing
formed_none a f h = formed_of a f no_numbers h (none_good a)

-- and back
slot_number : (a : Audit) (k : Key) (n : Option ℕ) (x : Option Value) → IsSlot a k (slot_of_number n) x
    → StandsAt a.history (store_at a).live k n × (numbered_option a.history n ≡ x)
slot_number a k None x h = (tt, sym h)
slot_number a k (Some e) x h = (h.1, sym h.0)

pub numbers_good : (a : Audit) (f : Formed) (v : Numbers) (map : Voucher) → IsFormed a f map → HasNumbers f v → IsGood a v
unfolding Stands
numbers_good a f v map g h = λ k. (slot_number a k (at_key k v) (of_key k map) (subst (λ s. IsSlot a k s (of_key k map)) (h k) (formed_at a k f map g))).0

pub numbers_meant : (a : Audit) (f : Formed) (v : Numbers) (map : Voucher) → IsFormed a f map → HasNumbers f v → meant a v ≡ map
numbers_meant a f v map g h = equal_where_equal (meant a v) map (λ k. meant_at a k v
    ∙ (slot_number a k (at_key k v) (of_key k map) (subst (λ s. IsSlot a k s (of_key k map)) (h k) (formed_at a k f map g))).1)

-- a good voucher is all live
option_standing : (a : Audit) (k : Key) (n : Option ℕ) → IsSound a → StandsAt a.history (store_at a).live k n
    → option_live (store_at a) (number_of k) (numbered_option a.history n) ≡ true
option_standing a k None s h = refl
option_standing a k (Some e) s h = standing_live a k e s h

all_of_four : (p q r s : Bool) → p ≡ true → q ≡ true → r ≡ true → s ≡ true → (p && (q && (r && (s && true)))) ≡ true
all_of_four p q r s a b c d = rw (a, b, c, d) refl

pub good_live : (a : Audit) (v : Numbers) → IsSound a → IsGood a v → all_live (store_at a) (meant a v) ≡ true
good_live a v s g = all_of_four _ _ _ _
    (option_standing a keys.Importance v.importance s (good_at a keys.Importance v g))
    (option_standing a keys.Bank v.bank s (good_at a keys.Bank v g))
    (option_standing a keys.User v.user s (good_at a keys.User v g))
    (option_standing a keys.Test v.test s (good_at a keys.Test v g))

-- one with a value that is not live is not
dead_at : (a : Audit) (k : Key) (f : Formed) (map : Voucher) → IsFormed a f map → slot_at k f ≡ slots.Dead
    → option_live (store_at a) (number_of k) (of_key k map) ≡ false
dead_at a k f map g h = by_slot (subst (λ s. IsSlot a k s (of_key k map)) h (formed_at a k f map g))
  where
    by_slot : IsSlot a k slots.Dead (of_key k map) → option_live (store_at a) (number_of k) (of_key k map) ≡ false
    by_slot d = ap (option_live (store_at a) (number_of k)) d.1 ∙ d.2

and_false : (b : Bool) → (b && false) ≡ false
and_false true = refl
and_false false = refl

one_of_four : (k : Key) (p : Key → Bool) → p k ≡ false → (p keys.Importance && (p keys.Bank && (p keys.User && (p keys.Test && true)))) ≡ false
one_of_four keys.Importance p e = ap (λ b. b && (p keys.Bank && (p keys.User && (p keys.Test && true)))) e
one_of_four keys.Bank p e =
    ap (λ b. p keys.Importance && (b && (p keys.User && (p keys.Test && true)))) e ∙ and_false (p keys.Importance)
one_of_four keys.User p e =
    ap (λ b. p keys.Importance && (p keys.Bank && (b && (p keys.Test && true)))) e
    ∙ (ap (λ b. p keys.Importance && b) (and_false (p keys.Bank)) ∙ and_false (p keys.Importance))
one_of_four keys.Test p e =
    ap (λ b. p keys.Importance && (p keys.Bank && (p keys.User && (b && true)))) e
    ∙ (ap (λ b. p keys.Importance && (p keys.Bank && b)) (and_false (p keys.User))
    ∙ (ap (λ b. p keys.Importance && b) (and_false (p keys.Bank)) ∙ and_false (p keys.Importance)))

pub dead_voucher : (a : Audit) (f : Formed) (map : Voucher) → IsFormed a f map → HasDead f → all_live (store_at a) map ≡ false
dead_voucher a f map g h = one_of_four h.0 (λ j. option_live (store_at a) (number_of j) (of_key j map)) (dead_at a h.0 f map g h.1)

-- Equality of values, by slots.

pub options_refl : (x : Option Value) → equal_options x x ≡ true
options_refl None = refl
options_refl (Some x) = values_refl x

unlike : false ≡ true → ⊥
unlike e = cc

options_eq : (x y : Option Value) → equal_options x y ≡ true → x ≡ y
options_eq None None e = refl
options_eq (Some x) (Some y) e = ap Some (values_eq x y e)
options_eq None (Some y) e = absurd (unlike e)
options_eq (Some x) None e = absurd (unlike e)

some_eq : (x y : Value) → Some x ≡ Some y → x ≡ y
some_eq x y e = cc

-- equal values stand in equal slots
pub same_slot : (a : Audit) (k : Key) (n : Option ℕ) (s : Slot) (y : Option Value) → IsSound a
    → StandsAt a.history (store_at a).live k n → IsSlot a k s y → equal_options (numbered_option a.history n) y ≡ true
    → s ≡ slot_of_number n
same_slot a k n s y sound h i e = by_slot n s h i (options_eq (numbered_option a.history n) y e)
  where
    by_slot : (n : Option ℕ) (s : Slot) → StandsAt a.history (store_at a).live k n → IsSlot a k s y
        → numbered_option a.history n ≡ y → s ≡ slot_of_number n
    by_slot None slots.Empty h i e = refl
    by_slot None (slots.Live d) h i e = let q : None ≡ Some (numbered_value a.history d) = e ∙ i.0 in cc
    by_slot None slots.Dead h i e = let q : None ≡ Some i.0 = e ∙ i.1 in cc
    by_slot (Some d) slots.Empty h i e = let q : Some (numbered_value a.history d) ≡ None = e ∙ i in cc
    by_slot (Some d) (slots.Live c) h i e =
        ap slots.Live (sym (standing_same a k d c sound h i.1 (some_eq _ _ (e ∙ i.0))))
    by_slot (Some d) slots.Dead h i e =
        let q : numbered_value a.history d ≡ i.0 = some_eq _ _ (e ∙ i.1) in
        absurd (unlike (sym i.2 ∙ (ap (is_live (store_at a) (number_of k)) (sym q) ∙ standing_live a k d sound h)))

-- and the other way round
pub slot_same : (a : Audit) (k : Key) (n : Option ℕ) (s : Slot) (y : Option Value) → IsSlot a k s y → s ≡ slot_of_number n
    → equal_options (numbered_option a.history n) y ≡ true
slot_same a k n s y i e =
    subst (λ z. equal_options (numbered_option a.history n) z ≡ true)
    (slot_number a k n y (subst (λ s. IsSlot a k s y) e i)).1 (options_refl (numbered_option a.history n))

-- the numbers of a voucher that is formed
pub numbers_mean : (a : Audit) (f : Formed) (map : Voucher) (o : Option Numbers) → MatchOption o (HasDead f) (λ v. HasNumbers f v)
    → IsFormed a f map → IsVoucher a map o
numbers_mean a f map None h g = dead_voucher a f map g h
numbers_mean a f map (Some v) h g = (numbers_good a f v map g h, numbers_meant a f v map g h)
