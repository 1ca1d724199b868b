-- Vouchers that stand are equal exactly where their numbers are.
use Rattle.std.proofs.Common.{◌≡◌, ℕ, ◌≤◌, Bool, List, [], ◌∷◌, refl, true, false, arith, ap, sym, ◌∙◌, subst, Some, None, Option, inl, inr, cond, ◌&&◌}
use Rattle.std.specs.Prelude.{◌==◌}
use Rattle.std.proofs.lemmas.Grind.{common_steps}
use Rattle.std.specs.List.{AllByRecursion}
use Rattle.vch_base.specs.declared.key.Key.{Key}
use Rattle.vch_base.specs.declared.key.Key.TheVariants as keys
use Rattle.vch_base.specs.Values.{equal_values, is_default}
use Rattle.vch_base.specs.declared.value.Value.{Value}
use Rattle.vch_base.specs.declared.value.Value.TheVariants as values
use Rattle.vch_model.specs.declared.entry.Entry.{Entry}
use Rattle.vch_model.specs.Voucher.{equal_options, equal_vouchers}
use Rattle.vch_model.specs.Store as store
use Rattle.vch_model.specs.Store.{Alive}
use Rattle.vch_books.specs.declared.numbers.Numbers.{Numbers}
use Rattle.vch_books.specs.declared.rows.Named.{Named}
use Rattle.vch_books.specs.Desks as desks
use Rattle.vch_books.specs.Desks.{Desk, same_option, same_numbers, name_with}
use Rattle.vch_books.specs.Numbered.{IsAmong, StandsAt, Stands, entry_at, key_made, numbered_value, numbered_option, numbered_voucher, live_of, names_of, member_of}
use Rattle.vch_books.specs.Kept.{IsMade, IsOneOf, AreApart}
use Rattle.vch_books.proofs.Values.{eq_refl, number_eq, values_refl, values_eq}

pub not_true : (b : Bool) → (b ≡ true → ⊥) → b ≡ false
not_true true f = absurd (f refl)
not_true false f = refl

pub one_of : (h : List Entry) (live : List ℕ) (e : ℕ) → IsAmong (live_of h live) e → IsOneOf live e
one_of h [] e a = a
one_of h (d ∷ live) e (inl a) = inl a
one_of h (d ∷ live) e (inr a) = inr (one_of h live e a)

pub among : (h : List Entry) (live : List ℕ) (e : ℕ) → IsOneOf live e → IsAmong (live_of h live) e
among h [] e a = a
among h (d ∷ live) e (inl a) = inl a
among h (d ∷ live) e (inr a) = inr (among h live e a)

pub made_of : (h : List Entry) (n : ℕ) (live : List ℕ) (e : ℕ) → AllByRecursion (IsMade h n) live → IsOneOf live e → IsMade h n e
made_of h n [] e m a = absurd a
made_of h n (d ∷ live) e m (inl a) = subst (λ x. IsMade h n x) a m.0
made_of h n (d ∷ live) e m (inr a) = made_of h n live e m.1 a

not_zero : (e : ℕ) → 1 ≤ e → (e == 0) ≡ false
not_zero e l = grind (arith, common_steps)

pub value_is : (h : List Entry) (n e : ℕ) → (m : IsMade h n e) → numbered_value h e ≡ m.value
unfolding numbered_value
value_is h n e m = rw (not_zero e m.some, m.entry) refl

pub key_is : (h : List Entry) (n e : ℕ) → (m : IsMade h n e) → key_made (entry_at h e) ≡ m.key
key_is h n e m = rw m.entry refl

pub default_is : (h : List Entry) (e : ℕ) → e ≡ 0 → numbered_value h e ≡ values.Default
unfolding numbered_value
default_is h e q = rw q refl

pub plain_is : (h : List Entry) (n e : ℕ) → IsMade h n e → is_default (numbered_value h e) ≡ false
plain_is h n e m = ap is_default (value_is h n e m) ∙ m.plain

default_left : (x : Value) → equal_values values.Default x ≡ is_default x
default_left (values.User bytes) = refl
default_left (values.Chain list) = refl
default_left values.Default = refl
default_left (values.Task t) = refl
default_left (values.Account a b) = refl

default_right : (x : Value) → equal_values x values.Default ≡ is_default x
default_right (values.User bytes) = refl
default_right (values.Chain list) = refl
default_right values.Default = refl
default_right (values.Task t) = refl
default_right (values.Account a b) = refl

zero_left : (d e : ℕ) → d ≡ 0 → 1 ≤ e → (d == e) ≡ false
zero_left d e q l = grind (arith, common_steps)

zero_right : (d e : ℕ) → e ≡ 0 → 1 ≤ d → (d == e) ≡ false
zero_right d e q l = grind (arith, common_steps)

both_zero : (d e : ℕ) → d ≡ 0 → e ≡ 0 → (d == e) ≡ true
both_zero d e p q = grind (arith, common_steps)

pub number_alike : (h : List Entry) (n : ℕ) (live : List ℕ) → AreApart h live → AllByRecursion (IsMade h n) live → (k : Key) (d e : ℕ)
    → StandsAt h (live_of h live) k (Some d) → StandsAt h (live_of h live) k (Some e)
    → equal_values (numbered_value h d) (numbered_value h e) ≡ (d == e)
number_alike h n live apart made k d e (inl p) (inl q) =
    rw (default_is h d p, default_is h e q, both_zero d e p q) refl
number_alike h n live apart made k d e (inl p) (inr q) =
    let m = made_of h n live e made (one_of h live e q.0) in
    ap (λ x. equal_values x (numbered_value h e)) (default_is h d p) ∙ (default_left (numbered_value h e) ∙ (plain_is h n e m ∙ sym (zero_left d e p m.some)))
number_alike h n live apart made k d e (inr p) (inl q) =
    let m = made_of h n live d made (one_of h live d p.0) in
    ap (λ x. equal_values (numbered_value h d) x) (default_is h e q) ∙ (default_right (numbered_value h d) ∙ (plain_is h n d m ∙ sym (zero_right d e q m.some)))
number_alike h n live apart made k d e (inr p) (inr q) = by (d == e) refl
  where
    by : (b : Bool) → (d == e) ≡ b → equal_values (numbered_value h d) (numbered_value h e) ≡ b
    by true f = ap (λ x. equal_values (numbered_value h d) (numbered_value h x)) (sym (number_eq d e f)) ∙ values_refl (numbered_value h d)
    by false f = not_true (equal_values (numbered_value h d) (numbered_value h e)) (λ g. no (apart d e (one_of h live d p.0) (one_of h live e q.0) (p.1 ∙ sym q.1) (values_eq (numbered_value h d) (numbered_value h e) g)))
      where
        no : d ≡ e → ⊥
        no g = let x : true ≡ false = sym (subst (λ y. (d == y) ≡ true) g (eq_refl d)) ∙ f in cc

pub option_alike : (h : List Entry) (n : ℕ) (live : List ℕ) → AreApart h live → AllByRecursion (IsMade h n) live → (k : Key) (a b : Option ℕ)
    → StandsAt h (live_of h live) k a → StandsAt h (live_of h live) k b → equal_options (numbered_option h a) (numbered_option h b) ≡ same_option a b
option_alike h n live apart made k None None p q = refl
option_alike h n live apart made k None (Some e) p q = refl
option_alike h n live apart made k (Some d) None p q = refl
option_alike h n live apart made k (Some d) (Some e) p q = number_alike h n live apart made k d e p q

and_true : (a b c d : Bool) → (a && (b && (c && (d && true)))) ≡ (a && (b && (c && d)))
and_true true true true true = refl
and_true true true true false = refl
and_true true true false d = refl
and_true true false c d = refl
and_true false b c d = refl

pub voucher_alike : (h : List Entry) (n : ℕ) (live : List ℕ) → AreApart h live → AllByRecursion (IsMade h n) live → (v w : Numbers)
    → Stands h (live_of h live) v → Stands h (live_of h live) w → equal_vouchers (numbered_voucher h v) (numbered_voucher h w) ≡ same_numbers v w
unfolding Stands
voucher_alike h n live apart made v w p q =
    rw (
      option_alike h n live apart made keys.Importance v.importance w.importance (p keys.Importance) (q keys.Importance),
      option_alike h n live apart made keys.Bank v.bank w.bank (p keys.Bank) (q keys.Bank),
      option_alike h n live apart made keys.User v.user w.user (p keys.User) (q keys.User),
      option_alike h n live apart made keys.Test v.test w.test (p keys.Test) (q keys.Test),
    )
    (and_true (same_option v.importance w.importance) (same_option v.bank w.bank) (same_option v.user w.user) (same_option v.test w.test))

pub name_is : (h : List Entry) (n : ℕ) (live : List ℕ) → AreApart h live → AllByRecursion (IsMade h n) live → (names : List Named) (v : Numbers)
    → AllByRecursion (λ x. Stands h (live_of h live) x.voucher) names → Stands h (live_of h live) v
    → name_with names v ≡ store.name_of (names_of h names) (numbered_voucher h v)
name_is h n live apart made [] v p q = refl
name_is h n live apart made (x ∷ names) v p q =
    ap (λ b. cond b (Some x.name) (name_with names v)) (sym (voucher_alike h n live apart made x.voucher v p.0 q))
    ∙ ap (λ o. cond (equal_vouchers (numbered_voucher h x.voucher) (numbered_voucher h v)) (Some x.name) o) (name_is h n live apart made names v p.1 q)

pub name_for_is : (h : List Entry) (d : Desk) (o : Option ℕ) → desks.name_for d o ≡ store.name_for (member_of h d) o
name_for_is h d None = refl
name_for_is h d (Some name) = refl
