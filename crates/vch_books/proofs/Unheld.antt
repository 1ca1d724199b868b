-- Live values that are not held, and whether there are any.
use Rattle.std.proofs.Common.{◌≡◌, ℕ, ◌+◌, ◌<◌, ◌≤◌, Bool, List, [], ◌∷◌, ◌++◌, refl, true, false, arith, ap, sym, ◌∙◌, subst, length, not, Some, None, Option, inl, inr, cond, ◌&&◌, ◌||◌}
use Rattle.std.specs.Prelude.{◌⊎◌, ◌==◌, ◌↔◌, MatchOption}
use Rattle.std.specs.List.{AllByRecursion, list_any, list_all}
use Rattle.vch_model.specs.declared.entry.Entry.{Entry}
use Rattle.vch_model.specs.Store.{Store, Alive, is_held}
use Rattle.vch_model.specs.Legal.{find_made, IsUnheld, all_held}
use Rattle.vch_books.specs.Desks.{Desk}
use Rattle.vch_books.specs.Holding.{is_one, held_numbers, first_unheld}
use Rattle.vch_books.specs.Numbered.{alive_of, live_of}
use Rattle.vch_books.specs.Audits.{Audit, store_at, IsLeft}
use Rattle.vch_books.specs.Kept.{Lists, Keeps, IsOneOf, IsRising}
use Rattle.vch_books.proofs.Values.{eq_refl, number_eq}
use Rattle.vch_books.proofs.Keeping.{live_kept}
use Rattle.vch_books.proofs.LiveChanges.{not_both, found}
use Rattle.vch_books.proofs.FoundLive.{one_is, is_one_of}
use Rattle.vch_books.proofs.Held.{held_kept}

-- The first that is not held.

abbrev test : Store → Alive → Bool
test s y = is_held s y.key y.value

abbrev Same : Audit → Lists → ℕ → Type 0
Same a l e = test (store_at a) (alive_of a.history e) ≡ is_one (held_numbers l.tasks) e

pub record First (tasks : List Desk) (live : List ℕ) (e : ℕ) : Type 0 where
  pub one : IsOneOf live e
  pub unheld : is_one (held_numbers tasks) e ≡ false
  pub lower : (d : ℕ) → IsOneOf live d → d < e → is_one (held_numbers tasks) d ≡ true

less_not : (a b : ℕ) → a < b → b < a → ⊥
less_not a b p q = omega (arith, p, q)

all_above : (live : List ℕ) (x d : ℕ) → AllByRecursion (λ y. x < y) live → IsOneOf live d → x < d
all_above [] x d h p = absurd p
all_above (y ∷ live) x d h (inl p) = subst (λ z. x < z) p h.0
all_above (y ∷ live) x d h (inr p) = all_above live x d h.1 p

pub first_of : (tasks : List Desk) (live : List ℕ) (e : ℕ) → IsRising live → first_unheld tasks live ≡ Some e → First tasks live e
first_of tasks [] e r q = absurd (cc)
first_of tasks (x ∷ live) e r q = by (is_one (held_numbers tasks) x) refl q (λ p. first_of tasks live e r.1 p)
  where
    some_eq : (a b : ℕ) → Some a ≡ Some b → a ≡ b
    some_eq a b r = cc

    by : (b : Bool) → is_one (held_numbers tasks) x ≡ b → cond b (first_unheld tasks live) (Some x) ≡ Some e → (first_unheld tasks live ≡ Some e → First tasks live e) → First tasks (x ∷ live) e
    by true p s f = let g = f s in record { one = inr g.one; unheld = g.unheld; lower = λ d o m. lower d o m g }
      where
        lower : (d : ℕ) → (x ≡ d) ⊎ IsOneOf live d → d < e → First tasks live e → is_one (held_numbers tasks) d ≡ true
        lower d (inl o) m g = subst (λ y. is_one (held_numbers tasks) y ≡ true) o p
        lower d (inr o) m g = g.lower d o m
    by false p s f = let z : x ≡ e = some_eq x e s in subst (λ y. First tasks (x ∷ live) y) z (record { one = inl refl; unheld = p; lower = λ d o m. absurd (lower d o m) })
      where
        none : (n : ℕ) → n < n → ⊥
        none n m = omega (arith, m)

        lower : (d : ℕ) → (x ≡ d) ⊎ IsOneOf live d → d < x → ⊥
        lower d (inl o) m = none x (subst (λ y. y < x) (sym o) m)
        lower d (inr o) m = less_not x d (all_above live x d r.0 o) m

all_test : (a : Audit) (l : Lists) → Keeps a l → (live : List ℕ) → ((e : ℕ) → IsOneOf live e → IsOneOf l.live e) → first_unheld l.tasks live ≡ None → list_all (test (store_at a)) (live_of a.history live) ≡ true
all_test a l k [] sub q = refl
all_test a l k (x ∷ live) sub q = by (is_one (held_numbers l.tasks) x) refl q (λ p. all_test a l k live (λ e o. sub e (inr o)) p)
  where
    by : (b : Bool) → is_one (held_numbers l.tasks) x ≡ b → cond b (first_unheld l.tasks live) (Some x) ≡ None → (first_unheld l.tasks live ≡ None → list_all (test (store_at a)) (live_of a.history live) ≡ true)
        → (test (store_at a) (alive_of a.history x) && list_all (test (store_at a)) (live_of a.history live)) ≡ true
    by true p s f = let t : test (store_at a) (alive_of a.history x) ≡ true = held_kept a l k x (sub x (inl refl)) ∙ p in rw (t, f s) refl
    by false p s f = absurd (cc)

pub all_kept : (a : Audit) (l : Lists) → Keeps a l → first_unheld l.tasks l.live ≡ None → all_held (store_at a) ≡ true
all_kept a l k q = ap (λ ls. list_all (test (store_at a)) ls) (live_kept a l k) ∙ all_test a l k l.live (λ e o. o) q

made_found : (h : List Entry) (live : List ℕ) (e : ℕ) → IsOneOf live e → find_made (live_of h live) e ≡ Some (alive_of h e)
made_found h [] e o = absurd o
made_found h (d ∷ live) e o = by (d == e) refl o (λ p. made_found h live e p)
  where
    by : (b : Bool) → (d == e) ≡ b → (d ≡ e) ⊎ IsOneOf live e → (IsOneOf live e → find_made (live_of h live) e ≡ Some (alive_of h e)) → cond b (Some (alive_of h d)) (find_made (live_of h live) e) ≡ Some (alive_of h e)
    by true q o f = ap (λ x. Some (alive_of h x)) (number_eq d e q)
    by false q (inl p) f = let z : true ≡ false = sym (subst (λ x. (d == x) ≡ true) p (eq_refl d)) ∙ q in absurd (cc)
    by false q (inr p) f = f p

-- a live value that is not held
pub unheld_here : (a : Audit) (l : Lists) (e : ℕ) → Keeps a l → IsOneOf l.live e → is_one (held_numbers l.tasks) e ≡ false → IsUnheld (store_at a) (find_made (store_at a).live e)
unheld_here a l e k one q =
    subst (λ ls. IsUnheld (store_at a) (find_made ls e)) (sym (live_kept a l k))
    (subst (λ o. IsUnheld (store_at a) o) (sym (made_found a.history l.live e one)) (held_kept a l k e one ∙ q))

pub record Unheld (a : Audit) (l : Lists) (e : ℕ) : Type 0 where
  pub one : IsOneOf l.live e
  pub unheld : is_one (held_numbers l.tasks) e ≡ false

pub unheld_is : (a : Audit) (l : Lists) (e : ℕ) → Keeps a l → IsUnheld (store_at a) (find_made (store_at a).live e) → Unheld a l e
unheld_is a l e k u = by (find_made (live_of a.history l.live) e) refl (subst (λ ls. IsUnheld (store_at a) (find_made ls e)) (live_kept a l k) u)
  where
    some_eq : {A : Type 0} (a b : A) → Some a ≡ Some b → a ≡ b
    some_eq a b r = cc

    by : (o : Option Alive) → find_made (live_of a.history l.live) e ≡ o → IsUnheld (store_at a) o → Unheld a l e
    by None q u = absurd u
    by (Some y) q u =
        let f = found a.history l.live e y q in
        let is : y ≡ alive_of a.history e = some_eq y (alive_of a.history e) (sym q ∙ f.is) in
        record { one = f.one; unheld = sym (held_kept a l k e f.one) ∙ subst (λ (z : Alive). test (store_at a) z ≡ false) is u }

pub left_kept : (a : Audit) (l : Lists) (e : ℕ) → Keeps a l → first_unheld l.tasks l.live ≡ Some e → IsLeft (store_at a) e
left_kept a l e k q =
    let f = first_of l.tasks l.live e k.rising q in
    record { here = unheld_here a l e k f.one f.unheld; lower = λ d m u. let g = unheld_is a l d k u in not_both (f.lower d g.one m) g.unheld }

pub unheld_yes : (a : Audit) (l : Lists) (e : ℕ) (b : Bool) → Keeps a l → is_one l.live e ≡ true → is_one (held_numbers l.tasks) e ≡ b → (not b ≡ true) ↔ IsUnheld (store_at a) (find_made (store_at a).live e)
unheld_yes a l e true k o h = (λ q. let z : false ≡ true = q in absurd (cc), λ u. absurd (not_both h (unheld_is a l e k u).unheld))
unheld_yes a l e false k o h = (λ q. unheld_here a l e k (one_is l.live e o) h, λ u. refl)

pub unheld_no : (a : Audit) (l : Lists) (e : ℕ) → Keeps a l → is_one l.live e ≡ false → (false ≡ true) ↔ IsUnheld (store_at a) (find_made (store_at a).live e)
unheld_no a l e k o = (λ q. absurd (cc), λ u. absurd (not_both (is_one_of l.live e (unheld_is a l e k u).one) o))

pub match_left : (a : Audit) (l : Lists) (o : Option ℕ) → Keeps a l → first_unheld l.tasks l.live ≡ o → MatchOption o (all_held (store_at a) ≡ true) (λ e. IsLeft (store_at a) e)
match_left a l None k q = all_kept a l k q
match_left a l (Some x) k q = left_kept a l x k q
