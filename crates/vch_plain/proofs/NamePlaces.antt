-- A name at its place among the names of a task.
use Rattle.std.proofs.Common.{take, drop, set, get_or, ◌≡◌, ◌+◌, ◌-◌, ◌<◌, ℕ, zero, suc, List, [], ◌∷◌, ◌++◌, length, Option, Some, None, refl, sym, ap, ◌∙◌, subst, arith, true, false, ◌==◌, nat_lt}
use Rattle.std.proofs.lemmas.Grind.{common_steps}
use Rattle.std.proofs.Math.Seq.{drop-cons}
use Rattle.vch_machine.specs.Naming as naming
use Rattle.vch_machine.specs.State.{Named}
use Rattle.vch_plain.specs.Names.{StandsAt, HasNone, IsPosition}

from_place : (names : List Named) (i : ℕ) (n : Named) → i < length names → n ≡ get_or names i n → drop i names ≡ n ∷ drop (suc i) names
from_place names i n inside is = drop-cons names i n inside ∙ ap (λ x. x ∷ drop (suc i) names) (sym is)

-- where the name was not found before a place, it stands where it stands behind it
pub record Searched (names : List Named) (name i : ℕ) : Type 0 where
  pub stands : (k : ℕ) → StandsAt (drop i names) name k → StandsAt names name (i + k)
  pub none : HasNone (drop i names) name → HasNone names name

pub searched_first : (names : List Named) (name : ℕ) → Searched names name 0
searched_first names name = record { stands = λ k s. let z : k ≡ 0 + k = omega arith in subst (StandsAt names name) z s; none = λ h. h }

same : (a b : ℕ) → a ≡ b → (a == b) ≡ true
same a b e = grind (arith, common_steps)

unlike : (a b : ℕ) → (a ≡ b → ⊥) → (a == b) ≡ false
unlike a b e = grind (arith, common_steps)

pub found_here : (names : List Named) (name i : ℕ) (n : Named) → i < length names → n ≡ get_or names i n → n.name ≡ name → Searched names name i → StandsAt names name i
found_here names name i n inside is e s =
    let z : i + 0 ≡ i = omega arith in
    subst (StandsAt names name) z (s.stands 0 (subst (λ l. StandsAt l name 0) (sym (from_place names i n inside is)) (same n.name name e)))

pub searched_next : (names : List Named) (name i : ℕ) (n : Named) → i < length names → n ≡ get_or names i n → (n.name ≡ name → ⊥) → Searched names name i → Searched names name (i + 1)
searched_next names name i n inside is e s =
    let one : i + 1 ≡ suc i = omega arith in
    rw one (record {
      stands = λ k h.
          let z : i + suc k ≡ suc i + k = omega arith in
          subst (StandsAt names name) z (s.stands (suc k) (subst (λ l. StandsAt l name (suc k)) (sym (from_place names i n inside is)) (unlike n.name name e, h)));
      none = λ h. s.none (subst (λ l. HasNone l name) (sym (from_place names i n inside is)) (unlike n.name name e, h));
    })

pub more_at : (names : List Named) (name i : ℕ) (n : Named) → StandsAt names name i → n ≡ get_or names i n
    → set names i (record n { refs = n.refs + 1 }) ≡ naming.one_more names name
more_at [] name i n s is = absurd s
more_at (x ∷ names) name zero n s is = rw (s, is) refl
more_at (x ∷ names) name (suc i) n s is = rw s.0 (ap (λ l. x ∷ l) (more_at names name i n s.1 is))

pub less_at : (names : List Named) (name i : ℕ) (n : Named) → StandsAt names name i → n ≡ get_or names i n → nat_lt 1 n.refs ≡ true
    → set names i (record n { refs = n.refs - 1 }) ≡ naming.one_less names name
less_at [] name i n s is many = absurd s
less_at (x ∷ names) name zero n s is many = let m : nat_lt 1 x.refs ≡ true = subst (λ (y : Named). nat_lt 1 y.refs ≡ true) is many in rw (s, m, is) refl
less_at (x ∷ names) name (suc i) n s is many = rw s.0 (ap (λ l. x ∷ l) (less_at names name i n s.1 is many))

pub gone_at : (names : List Named) (name i : ℕ) (n : Named) → StandsAt names name i → n ≡ get_or names i n → nat_lt 1 n.refs ≡ false
    → take i names ++ drop (suc i) names ≡ naming.one_less names name
gone_at [] name i n s is few = absurd s
gone_at (x ∷ names) name zero n s is few = let m : nat_lt 1 x.refs ≡ false = subst (λ (y : Named). nat_lt 1 y.refs ≡ false) is few in rw (s, m) refl
gone_at (x ∷ names) name (suc i) n s is few = rw s.0 (ap (λ l. x ∷ l) (gone_at names name i n s.1 is few))

pub without_at : (names : List Named) (name i : ℕ) → StandsAt names name i → take i names ++ drop (suc i) names ≡ naming.without_name names name
without_at [] name i s = absurd s
without_at (x ∷ names) name zero s = rw s refl
without_at (x ∷ names) name (suc i) s = rw s.0 (ap (λ l. x ∷ l) (without_at names name i s.1))

pub none_more : (names : List Named) (name : ℕ) → HasNone names name → names ≡ naming.one_more names name
none_more [] name h = refl
none_more (x ∷ names) name h = rw h.0 (ap (λ l. x ∷ l) (none_more names name h.1))

pub none_less : (names : List Named) (name : ℕ) → HasNone names name → names ≡ naming.one_less names name
none_less [] name h = refl
none_less (x ∷ names) name h = rw h.0 (ap (λ l. x ∷ l) (none_less names name h.1))

pub none_without : (names : List Named) (name : ℕ) → HasNone names name → names ≡ naming.without_name names name
none_without [] name h = refl
none_without (x ∷ names) name h = rw h.0 (ap (λ l. x ∷ l) (none_without names name h.1))

pub none_found : (names : List Named) (name : ℕ) (r : Option ℕ) → IsPosition names name r → ((i : ℕ) → r ≡ Some i → ⊥) → HasNone names name
none_found names name None h other = h
none_found names name (Some i) h other = absurd (other i refl)

pub at_one : (names : List Named) (i : ℕ) (x y : Named) → i < length names → x ≡ get_or names i x → y ≡ get_or names i y → x ≡ y
at_one [] i x y l e f = absurd (omega (arith, l))
at_one (n ∷ names) zero x y l e f = e ∙ sym f
at_one (n ∷ names) (suc i) x y l e f = at_one names i x y (omega (arith, l)) e f
