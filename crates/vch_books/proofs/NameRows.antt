-- A name at a place of a list.
use Rattle.std.proofs.Common.{take, drop, set, get_or, ◌≡◌, ◌+◌, ◌-◌, ◌≤◌, ◌<◌, ℕ, suc, List, ◌∷◌, ◌++◌, length, refl, sym, ap, ◌∙◌, arith, true, false, ◌==◌, nat_lt, Some, None}
use Rattle.std.proofs.lemmas.Grind.{common_steps}
use Rattle.std.proofs.Math.Seq.{drop-cons, set_split}
use Rattle.vch_books.specs.Desks as desks
use Rattle.vch_books.specs.declared.rows.Named.{Named}

from_place : (names : List Named) (i : ℕ) (n : Named) → i < length names → n ≡ get_or names i n → drop i names ≡ n ∷ drop (suc i) names
from_place names i n inside is = drop-cons names i n inside ∙ ap (λ x. x ∷ drop (suc i) names) (sym is)

own : (a b : ℕ) → a ≡ b → (a == b) ≡ true
own a b e = grind (arith, common_steps)

pub more_at_place : (names : List Named) (i name : ℕ) (n : Named) → i < length names → n ≡ get_or names i n → n.name ≡ name
    → take i names ++ desks.one_more (drop i names) name ≡ desks.one_more names name
    → set names i (record n { refs = n.refs + 1 }) ≡ desks.one_more names name
more_at_place names i name n inside is named rest =
    let more : desks.one_more (drop i names) name ≡ record n { refs = n.refs + 1 } ∷ drop (suc i) names =
    ap (λ l. desks.one_more l name) (from_place names i n inside is) ∙ rw (own n.name name named) refl in
    set_split names i (record n { refs = n.refs + 1 }) inside ∙ sym (ap (λ l. take i names ++ l) more) ∙ rest

pub less_at_place : (names : List Named) (i name : ℕ) (n : Named) → i < length names → n ≡ get_or names i n → n.name ≡ name → 1 < n.refs
    → take i names ++ desks.one_less (drop i names) name ≡ desks.one_less names name
    → set names i (record n { refs = n.refs - 1 }) ≡ desks.one_less names name
less_at_place names i name n inside is named many rest =
    let several : nat_lt 1 n.refs ≡ true = grind (arith, common_steps) in
    let less : desks.one_less (drop i names) name ≡ record n { refs = n.refs - 1 } ∷ drop (suc i) names =
    ap (λ l. desks.one_less l name) (from_place names i n inside is) ∙ rw (own n.name name named, several) refl in
    set_split names i (record n { refs = n.refs - 1 }) inside ∙ sym (ap (λ l. take i names ++ l) less) ∙ rest

pub less_at_gone : (names : List Named) (i name : ℕ) (n : Named) → i < length names → n ≡ get_or names i n → n.name ≡ name → n.refs ≤ 1
    → take i names ++ desks.one_less (drop i names) name ≡ desks.one_less names name
    → take i names ++ drop (suc i) names ≡ desks.one_less names name
less_at_gone names i name n inside is named few rest =
    let last : nat_lt 1 n.refs ≡ false = grind (arith, common_steps) in
    let less : desks.one_less (drop i names) name ≡ drop (suc i) names =
    ap (λ l. desks.one_less l name) (from_place names i n inside is) ∙ rw (own n.name name named, last) refl in
    sym (ap (λ l. take i names ++ l) less) ∙ rest

pub without_at_place : (names : List Named) (i name : ℕ) (n : Named) → i < length names → n ≡ get_or names i n → n.name ≡ name
    → take i names ++ desks.without_name (drop i names) name ≡ desks.without_name names name
    → take i names ++ drop (suc i) names ≡ desks.without_name names name
without_at_place names i name n inside is named rest =
    let less : desks.without_name (drop i names) name ≡ drop (suc i) names =
    ap (λ l. desks.without_name l name) (from_place names i n inside is) ∙ rw (own n.name name named) refl in
    sym (ap (λ l. take i names ++ l) less) ∙ rest

-- what goes of it
pub gone_at_place : (names : List Named) (i name : ℕ) (n : Named) → i < length names → n ≡ get_or names i n → n.name ≡ name → n.refs ≤ 1 → desks.gone_with (drop i names) name ≡ Some n.voucher
gone_at_place names i name n inside is named few =
    let last : nat_lt 1 n.refs ≡ false = grind (arith, common_steps) in
    ap (λ l. desks.gone_with l name) (from_place names i n inside is) ∙ rw (own n.name name named, last) refl

pub stays_at_place : (names : List Named) (i name : ℕ) (n : Named) → i < length names → n ≡ get_or names i n → n.name ≡ name → 1 < n.refs → desks.gone_with (drop i names) name ≡ None
stays_at_place names i name n inside is named many =
    let several : nat_lt 1 n.refs ≡ true = grind (arith, common_steps) in
    ap (λ l. desks.gone_with l name) (from_place names i n inside is) ∙ rw (own n.name name named, several) refl
