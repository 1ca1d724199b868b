-- A value that comes or goes at a handle that no name and no message has changes no voucher of the store.
use Rattle.std.proofs.Common.{◌≡◌, ℕ, Bool, List, [], ◌∷◌, refl, false, ◌&&◌, arith, sym, ap, ◌∙◌, map, Some, None, Option}
use Rattle.std.specs.Prelude.{◌==◌}
use Rattle.std.specs.List.{list_any}
use Rattle.vch_base.specs.declared.key.Key.{Key}
use Rattle.vch_base.specs.declared.key.Key.TheVariants as keys
use Rattle.vch_base.specs.Keys.{number_of}
use Rattle.vch_base.specs.Keyed.{of_key}
use Rattle.vch_base.proofs.CallerLemmas.{equal_where_equal}
use Rattle.vch_machine.specs.State.{Handles, Place, same_place, Living, Named, Message, Tasked, living_at, value_of, value_at, valued, valued_option, named_of, message_of, member_of, is_handle, has_place, option_has}
use Rattle.vch_legal.proofs.facts.Choices.{neither_left, neither_right}
use Rattle.vch_legal.proofs.seen.SeenHeld.{value_at_key, vouchers_hold}

-- two lists of live values agree but at one place
abbrev pub AgreeBut : Place → List Living → List Living → Type 0
AgreeBut q a b = (p : Place) → same_place q p ≡ false → living_at a p ≡ living_at b p

-- a handle at a key, where it is not the one
value_same : (a b : List Living) (q : Place) (k : Key) (x : Option ℕ) → AgreeBut q a b
    → ((number_of q.key == number_of k) && is_handle x q.handle) ≡ false → value_at a k x ≡ value_at b k x
value_same a b q k None agree e = refl
value_same a b q k (Some h) agree e = ap value_of
    (agree (record { key = k; handle = h }) (flipped (number_of q.key == number_of k) q.handle h e))
  where
    flipped : (c : Bool) (g h : ℕ) → (c && (h == g)) ≡ false → (c && (g == h)) ≡ false
    flipped c g h e = grind arith

at_each : (q : Place) (k : Key) (v : Handles) → has_place v q ≡ false
    → ((number_of q.key == number_of k) && is_handle (of_key k v) q.handle) ≡ false
at_each q k v e = by_keys q.key k e
  where
    by_keys : (g k : Key) → is_handle (of_key g v) q.handle ≡ false
        → ((number_of g == number_of k) && is_handle (of_key k v) q.handle) ≡ false
    by_keys keys.Importance keys.Importance e = e
    by_keys keys.Importance keys.Bank e = refl
    by_keys keys.Importance keys.User e = refl
    by_keys keys.Importance keys.Test e = refl
    by_keys keys.Bank keys.Importance e = refl
    by_keys keys.Bank keys.Bank e = e
    by_keys keys.Bank keys.User e = refl
    by_keys keys.Bank keys.Test e = refl
    by_keys keys.User keys.Importance e = refl
    by_keys keys.User keys.Bank e = refl
    by_keys keys.User keys.User e = e
    by_keys keys.User keys.Test e = refl
    by_keys keys.Test keys.Importance e = refl
    by_keys keys.Test keys.Bank e = refl
    by_keys keys.Test keys.User e = refl
    by_keys keys.Test keys.Test e = e

pub voucher_same : (a b : List Living) (q : Place) (v : Handles) → AgreeBut q a b → has_place v q ≡ false → valued a v
    ≡ valued b v
voucher_same a b q v agree e = equal_where_equal (valued a v) (valued b v) (λ k.
    value_at_key a k v ∙ (value_same a b q k (of_key k v) agree (at_each q k v e) ∙ sym (value_at_key b k v)))

names_same : (a b : List Living) (q : Place) (names : List Named) → AgreeBut q a b
    → list_any (λ (n : Named). has_place n.voucher q) names ≡ false → map (named_of a) names ≡ map (named_of b) names
names_same a b q [] agree e = refl
names_same a b q (n ∷ names) agree e =
    let x : valued a n.voucher ≡ valued b n.voucher = voucher_same a b q n.voucher agree
    (neither_left _ (list_any (λ (n : Named). has_place n.voucher q) names) e) in
    let y : map (named_of a) names ≡ map (named_of b) names = names_same a b q names agree
    (neither_right (has_place n.voucher q) _ e) in
    cc

option_same_value : (a b : List Living) (q : Place) (v : Option Handles) → AgreeBut q a b → option_has v q ≡ false
    → valued_option a v ≡ valued_option b v
option_same_value a b q None agree e = refl
option_same_value a b q (Some v) agree e = ap Some (voucher_same a b q v agree e)

queue_same : (a b : List Living) (q : Place) (queue : List Message) → AgreeBut q a b
    → list_any (λ (r : Message). option_has r.voucher q) queue ≡ false → map (message_of a) queue
    ≡ map (message_of b) queue
queue_same a b q [] agree e = refl
queue_same a b q (r ∷ queue) agree e =
    let x : valued_option a r.voucher ≡ valued_option b r.voucher = option_same_value a b q r.voucher agree
    (neither_left _ (list_any (λ (r : Message). option_has r.voucher q) queue) e) in
    let y : map (message_of a) queue ≡ map (message_of b) queue = queue_same a b q queue agree
    (neither_right (option_has r.voucher q) _ e) in
    cc

pub member_same : (a b : List Living) (q : Place) (x : Tasked) → AgreeBut q a b → vouchers_hold q x ≡ false
    → member_of a x
    ≡ member_of b x
member_same a b q x agree e =
    let n : map (named_of a) x.names ≡ map (named_of b) x.names = names_same a b q x.names agree
    (neither_left _ (list_any (λ (r : Message). option_has r.voucher q) x.queue) e) in
    let r : map (message_of a) x.queue ≡ map (message_of b) x.queue = queue_same a b q x.queue agree
    (neither_right (list_any (λ (n : Named). has_place n.voucher q) x.names) _ e) in
    cc

-- the members of the store are the same where a value goes that nobody holds
pub members_same : (a b : List Living) (q : Place) (xs : List Tasked) → AgreeBut q a b
    → list_any (λ x. vouchers_hold q x) xs ≡ false → map (member_of a) xs ≡ map (member_of b) xs
members_same a b q [] agree e = refl
members_same a b q (x ∷ xs) agree e =
    let y : member_of a x ≡ member_of b x = member_same a b q x agree
    (neither_left (vouchers_hold q x) (list_any (λ x. vouchers_hold q x) xs) e) in
    let z : map (member_of a) xs ≡ map (member_of b) xs = members_same a b q xs agree
    (neither_right (vouchers_hold q x) (list_any (λ x. vouchers_hold q x) xs) e) in
    cc
