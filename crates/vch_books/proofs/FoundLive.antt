-- A live value by its content, and by its number.
use Rattle.std.proofs.Common.{◌≡◌, ℕ, Bool, List, [], ◌∷◌, refl, true, false, arith, ap, sym, ◌∙◌, subst, Some, None, Option, inl, inr, cond, ◌&&◌, ◌||◌}
use Rattle.std.specs.Prelude.{◌⊎◌, ◌==◌, is_some, IfSome}
use Rattle.std.specs.List.{list_any}
use Rattle.vch_base.specs.declared.key.Key.{Key}
use Rattle.vch_base.specs.Keys.{number_of}
use Rattle.vch_base.specs.declared.value.Value.{Value}
use Rattle.vch_base.specs.declared.value.Value.TheVariants as values
use Rattle.vch_base.specs.Values.{equal_values, is_default}
use Rattle.vch_model.specs.declared.entry.Entry.{Entry}
use Rattle.vch_model.specs.Store.{Store, is_alive, is_live}
use Rattle.vch_books.specs.Holding.{number_with, is_one}
use Rattle.vch_books.specs.Numbered.{IsAmong, StandsAt, entry_at, key_made, numbered_value, alive_of, live_of}
use Rattle.vch_books.specs.Audits.{Audit, store_at}
use Rattle.vch_books.specs.Kept.{Lists, Keeps, IsOneOf}
use Rattle.vch_books.proofs.Values.{eq_refl, number_eq, values_eq}
use Rattle.vch_books.proofs.Alike.{among}
use Rattle.vch_books.proofs.Keeping.{live_kept}

-- A live value by its content.

pub found_some : (h : List Entry) (live : List ℕ) (k : ℕ) (x : Value) → is_some (number_with h live k x) ≡ list_any (is_alive k x) (live_of h live)
found_some h [] k x = refl
found_some h (e ∷ live) k x = by (is_alive k x (alive_of h e)) (found_some h live k x)
  where
    by : (b : Bool) → is_some (number_with h live k x) ≡ list_any (is_alive k x) (live_of h live)
        → is_some (cond b (Some e) (number_with h live k x)) ≡ (b || list_any (is_alive k x) (live_of h live))
    by true p = refl
    by false p = p

pub record Is (h : List Entry) (live : List ℕ) (k : ℕ) (x : Value) (e : ℕ) : Type 0 where
  pub one : IsOneOf live e
  pub key : key_made (entry_at h e) ≡ k
  pub value : numbered_value h e ≡ x

both_left : (a b : Bool) → (a && b) ≡ true → a ≡ true
both_left a b e = grind arith

both_right : (a b : Bool) → (a && b) ≡ true → b ≡ true
both_right a b e = grind arith

pub found_is : (h : List Entry) (live : List ℕ) (k : ℕ) (x : Value) (e : ℕ) → number_with h live k x ≡ Some e → Is h live k x e
found_is h [] k x e q = absurd (cc)
found_is h (d ∷ live) k x e q = by (is_alive k x (alive_of h d)) refl q (λ r. found_is h live k x e r)
  where
    some_eq : (a b : ℕ) → Some a ≡ Some b → a ≡ b
    some_eq a b r = cc

    by : (b : Bool) → is_alive k x (alive_of h d) ≡ b → cond b (Some d) (number_with h live k x) ≡ Some e → (number_with h live k x ≡ Some e → Is h live k x e) → Is h (d ∷ live) k x e
    by true p r f = let z : d ≡ e = some_eq d e r in subst (λ i. Is h (d ∷ live) k x i) z (record {
      one = inl refl;
      key = number_eq (key_made (entry_at h d)) k (both_left _ (equal_values (numbered_value h d) x) p);
      value = values_eq (numbered_value h d) x (both_right (key_made (entry_at h d) == k) _ p);
    })
    by false p r f = let g = f r in record { one = inr g.one; key = g.key; value = g.value }

pub live_found : (a : Audit) (l : Lists) → Keeps a l → (k : ℕ) (x : Value) → is_default x ≡ false → is_some (number_with a.history l.live k x) ≡ is_live (store_at a) k x
live_found a l keeps k x plain =
    found_some a.history l.live k x ∙ (ap (λ ls. list_any (is_alive k x) ls) (sym (live_kept a l keeps)) ∙ sym (rw plain refl))

pub default_live : (s : Store) (k : ℕ) (x : Value) → is_default x ≡ true → true ≡ is_live s k x
default_live s k x e = rw e refl

pub found_stands : (a : Audit) (l : Lists) → Keeps a l → (k : Key) (x : Value) (o : Option ℕ) → number_with a.history l.live (number_of k) x ≡ o → StandsAt a.history (store_at a).live k o
found_stands a l keeps k x None e = tt
found_stands a l keeps k x (Some n) e =
    let i = found_is a.history l.live (number_of k) x n e in
    inr (subst (λ ls. IsAmong ls n) (sym (live_kept a l keeps)) (among a.history l.live n i.one), i.key)

pub found_value : (h : List Entry) (live : List ℕ) (k : ℕ) (x : Value) (o : Option ℕ) → number_with h live k x ≡ o → IfSome o (λ e. numbered_value h e ≡ x)
found_value h live k x None e = tt
found_value h live k x (Some n) e = (found_is h live k x n e).value

pub one_is : (live : List ℕ) (e : ℕ) → is_one live e ≡ true → IsOneOf live e
one_is [] e q = absurd (cc)
one_is (d ∷ live) e q = by (d == e) refl q (λ r. one_is live e r)
  where
    by : (b : Bool) → (d == e) ≡ b → (b || is_one live e) ≡ true → (is_one live e ≡ true → IsOneOf live e) → (d ≡ e) ⊎ IsOneOf live e
    by true p r f = inl (number_eq d e p)
    by false p r f = inr (f r)

pub is_one_of : (live : List ℕ) (e : ℕ) → IsOneOf live e → is_one live e ≡ true
is_one_of [] e o = absurd o
is_one_of (d ∷ live) e (inl o) = let q : (d == e) ≡ true = subst (λ x. (d == x) ≡ true) o (eq_refl d) in rw q refl
is_one_of (d ∷ live) e (inr o) = right (d == e) (is_one live e) (is_one_of live e o)
  where
    right : (a b : Bool) → b ≡ true → (a || b) ≡ true
    right a b e = grind arith

pub default_eq : (x : Value) → is_default x ≡ true → values.Default ≡ x
default_eq (values.User bytes) e = absurd (cc)
default_eq (values.Chain list) e = absurd (cc)
default_eq values.Default e = refl
default_eq (values.Task t) e = absurd (cc)
default_eq (values.Account x y) e = absurd (cc)
