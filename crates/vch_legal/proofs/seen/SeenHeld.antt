-- A value is held in the sequential store exactly where its handle is held by a name or a message.
use Rattle.std.proofs.Common.{◌≡◌, ℕ, Bool, List, [], ◌∷◌, refl, true, false, ◌||◌, arith, sym, ap, ◌∙◌, subst, map, Some, None, Option}
use Rattle.std.specs.Prelude.{◌==◌}
use Rattle.std.specs.List.{list_any}
use Rattle.std.proofs.lemmas.Grind.{common_steps}
use Rattle.vch_base.specs.declared.key.Key.{Key}
use Rattle.vch_base.specs.declared.key.Key.TheVariants as keys
use Rattle.vch_base.specs.declared.value.Value.{Value}
use Rattle.vch_base.specs.declared.value.Value.TheVariants as values
use Rattle.vch_model.specs.Voucher.{equal_options}
use Rattle.vch_base.specs.Values.{equal_lists, equal_values}
use Rattle.vch_model.specs.Store.{has_value, message_has, is_held_at}
use Rattle.vch_base.specs.Keyed.{of_key}
use Rattle.vch_machine.specs.State.{Handles, Place, Living, Named, Message, Tasked, Machine, living_at, handle_of, value_of, value_at, valued, valued_option, named_of, message_of, member_of, seen, is_handle, has_place, option_has, frame_holds, task_holds, is_held}
use Rattle.vch_legal.specs.Facts.{Different}
use Rattle.vch_legal.proofs.facts.Choices.{cases_bool, not_true, number_eq, eq_refl, and_left, and_right}

lists_refl : (xs : List ℕ) → equal_lists xs xs ≡ true
lists_refl [] = refl
lists_refl (x ∷ xs) = let same : (x == x) ≡ true = grind (arith, common_steps) in rw (same, lists_refl xs) refl

lists_eq : (xs ys : List ℕ) → equal_lists xs ys ≡ true → xs ≡ ys
lists_eq [] [] e = refl
lists_eq [] (y ∷ ys) e = cc
lists_eq (x ∷ xs) [] e = cc
lists_eq (x ∷ xs) (y ∷ ys) e =
    let a : x ≡ y = number_eq x y (and_left (x == y) (equal_lists xs ys) e) in
    let b : xs ≡ ys = lists_eq xs ys (and_right (x == y) (equal_lists xs ys) e) in cc

pub values_refl : (x : Value) → equal_values x x ≡ true
values_refl (values.User a) = lists_refl a
values_refl (values.Chain a) = lists_refl a
values_refl values.Default = refl
values_refl (values.Task a) = grind (arith, common_steps)
values_refl (values.Account a b) = grind (arith, common_steps)

pub values_eq : (x y : Value) → equal_values x y ≡ true → x ≡ y
values_eq (values.User a) (values.User b) e = ap values.User (lists_eq a b e)
values_eq (values.Chain a) (values.Chain b) e = ap values.Chain (lists_eq a b e)
values_eq values.Default values.Default e = refl
values_eq (values.Task a) (values.Task b) e = ap values.Task (number_eq a b e)
values_eq (values.Account a b) (values.Account c d) e =
    let x : a ≡ c = number_eq a c (and_left (a == c) (b == d) e) in let y : b
    ≡ d = number_eq b d (and_right (a == c) (b == d) e) in cc
values_eq (values.User a) (values.Chain b) e = cc
values_eq (values.User a) values.Default e = cc
values_eq (values.User a) (values.Task b) e = cc
values_eq (values.User a) (values.Account b c) e = cc
values_eq (values.Chain a) (values.User b) e = cc
values_eq (values.Chain a) values.Default e = cc
values_eq (values.Chain a) (values.Task b) e = cc
values_eq (values.Chain a) (values.Account b c) e = cc
values_eq values.Default (values.User b) e = cc
values_eq values.Default (values.Chain b) e = cc
values_eq values.Default (values.Task b) e = cc
values_eq values.Default (values.Account b c) e = cc
values_eq (values.Task a) (values.User b) e = cc
values_eq (values.Task a) (values.Chain b) e = cc
values_eq (values.Task a) values.Default e = cc
values_eq (values.Task a) (values.Account b c) e = cc
values_eq (values.Account a d) (values.User b) e = cc
values_eq (values.Account a d) (values.Chain b) e = cc
values_eq (values.Account a d) values.Default e = cc
values_eq (values.Account a d) (values.Task b) e = cc

one_handle : (x : Option ℕ) (g h : ℕ) → x ≡ Some g → x ≡ Some h → g ≡ h
one_handle x g h p q = cc

apart : (g h : ℕ) → (g == h) ≡ false → g ≡ h → ⊥
apart g h e i = let k : (h == h) ≡ false = subst (λ n. (n == h) ≡ false) i e in let j : (h == h)
    ≡ true = eq_refl h in cc

-- the value at a handle is equal to a live one exactly where the handle is its own
other_value : (live : List Living) (k : Key) (g h : ℕ) (a : Living) → Different live
    → living_at live (record { key = k; handle = h }) ≡ Some a
    → (g == h) ≡ false → (o : Option Living) → living_at live (record { key = k; handle = g }) ≡ o
    → equal_options (value_of o) (Some a.value) ≡ false
other_value live k g h a d e other None p = refl
other_value live k g h a d e other (Some b) p =
    not_true (equal_values b.value a.value) (λ same.
    apart g h other (one_handle (handle_of live k a.value) g h
    (subst (λ (x : Value). handle_of live k x ≡ Some g) (values_eq b.value a.value same)
    (d (record { key = k; handle = g }) b p))
    (d (record { key = k; handle = h }) a e)))

own_value : (live : List Living) (k : Key) (h : ℕ) (a : Living) → living_at live (record { key = k; handle = h })
    ≡ Some a
    → equal_options (value_of (living_at live (record { key = k; handle = h }))) (Some a.value) ≡ true
own_value live k h a e = ap (λ o. equal_options (value_of o) (Some a.value)) e ∙ values_refl a.value

handle_value : (live : List Living) (k : Key) (g h : ℕ) (a : Living) → Different live
    → living_at live (record { key = k; handle = h }) ≡ Some a
    → equal_options (value_of (living_at live (record { key = k; handle = g }))) (Some a.value) ≡ (g == h)
handle_value live k g h a d e =
    cases_bool (g == h) (equal_options (value_of (living_at live (record { key = k; handle = g }))) (Some a.value)
    ≡ (g == h))
    (λ here. subst (λ (n : ℕ). equal_options (value_of (living_at live (record { key = k; handle = n })))
    (Some a.value) ≡ (n == h)) (sym (number_eq g h here))
    (own_value live k h a e ∙ sym (eq_refl h)))
    (λ other. other_value live k g h a d e other (living_at live (record { key = k; handle = g })) refl ∙ sym other)

pub option_value : (live : List Living) (k : Key) (x : Option ℕ) (h : ℕ) (a : Living) → Different live
    → living_at live (record { key = k; handle = h }) ≡ Some a
    → equal_options (value_at live k x) (Some a.value) ≡ is_handle x h
option_value live k None h a d e = refl
option_value live k (Some g) h a d e = handle_value live k g h a d e

pub value_at_key : (live : List Living) (k : Key) (v : Handles) → of_key k (valued live v)
    ≡ value_at live k (of_key k v)
value_at_key live keys.Importance v = refl
value_at_key live keys.Bank v = refl
value_at_key live keys.User v = refl
value_at_key live keys.Test v = refl

pub voucher_value : (live : List Living) (k : Key) (h : ℕ) (a : Living) (v : Handles) → Different live
    → living_at live (record { key = k; handle = h }) ≡ Some a
    → has_value k a.value (valued live v) ≡ has_place v (record { key = k; handle = h })
voucher_value live k h a v d e = ap (λ o. equal_options o (Some a.value)) (value_at_key live k v)
    ∙ option_value live k (of_key k v) h a d e

message_value : (live : List Living) (k : Key) (h : ℕ) (a : Living) (v : Option Handles) → Different live
    → living_at live (record { key = k; handle = h }) ≡ Some a
    → message_has k a.value (valued_option live v) ≡ option_has v (record { key = k; handle = h })
message_value live k h a None d e = refl
message_value live k h a (Some v) d e = voucher_value live k h a v d e

any_of_map : {X Y : Type 0} (f : X → Y) (p : Y → Bool) (q : X → Bool) → ((x : X) → p (f x) ≡ q x) → (xs : List X)
    → list_any p (map f xs) ≡ list_any q xs
any_of_map f p q same [] = refl
any_of_map f p q same (x ∷ xs) = let e : list_any p (map f xs)
    ≡ list_any q xs = any_of_map f p q same xs in rw (e, same x)

-- a name or a message of a task holds a place
abbrev pub vouchers_hold : Place → Tasked → Bool
vouchers_hold p x = list_any (λ (n : Named). has_place n.voucher p) x.names
    || list_any (λ (q : Message). option_has q.voucher p) x.queue

-- held in the store, and held by names and messages, are one
pub seen_held : (m : Machine) (k : Key) (h : ℕ) (a : Living) → Different m.live
    → living_at m.live (record { key = k; handle = h }) ≡ Some a
    → is_held_at (seen m) k a.value ≡ list_any (vouchers_hold (record { key = k; handle = h })) m.tasks
seen_held m k h a d e =
    any_of_map (member_of m.live) (λ x. list_any (λ n. has_value k a.value n.voucher) x.names
    || list_any (λ q. message_has k a.value q.voucher) x.queue)
    (vouchers_hold (record { key = k; handle = h }))
    (λ x. both_parts (any_of_map (named_of m.live) (λ n. has_value k a.value n.voucher)
    (λ n. has_place n.voucher (record { key = k; handle = h })) (λ n. voucher_value m.live k h a n.voucher d e)
    x.names)
    (any_of_map (message_of m.live) (λ q. message_has k a.value q.voucher)
    (λ q. option_has q.voucher (record { key = k; handle = h })) (λ q. message_value m.live k h a q.voucher d e)
    x.queue))
    m.tasks
  where
    both_parts : {a b c d : Bool} → a ≡ b → c ≡ d → (a || c) ≡ (b || d)
    both_parts p q = cc

join_free : (n q f r v : Bool) → ((n || (q || f)) || r) ≡ false → v ≡ false → ((n || q) || v) ≡ false
join_free n q f r v e g = grind arith

rest_free : (n q f r : Bool) → ((n || (q || f)) || r) ≡ false → r ≡ false
rest_free n q f r e = grind arith

pub none_hold : (p : Place) (xs : List Tasked) → list_any (task_holds p) xs ≡ false → list_any (vouchers_hold p) xs
    ≡ false
none_hold p [] g = refl
none_hold p (x ∷ xs) g =
    join_free (list_any (λ (n : Named). has_place n.voucher p) x.names)
    (list_any (λ (q : Message). option_has q.voucher p) x.queue) (frame_holds x.frame p)
    (list_any (task_holds p) xs) (list_any (vouchers_hold p) xs) g
    (none_hold p xs (rest_free (list_any (λ (n : Named). has_place n.voucher p) x.names)
    (list_any (λ (q : Message). option_has q.voucher p) x.queue) (frame_holds x.frame p) (list_any (task_holds p) xs)
    g))

-- so what nobody holds is not held in the store
pub unheld_seen : (m : Machine) (k : Key) (h : ℕ) (a : Living) → Different m.live
    → living_at m.live (record { key = k; handle = h }) ≡ Some a
    → is_held m (record { key = k; handle = h }) ≡ false → is_held_at (seen m) k a.value ≡ false
unheld_seen m k h a d e free = seen_held m k h a d e ∙ none_hold (record { key = k; handle = h }) m.tasks free
