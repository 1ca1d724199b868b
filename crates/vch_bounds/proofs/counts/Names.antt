-- What names count for: each as much as its user references, and for one at least.
use Rattle.std.proofs.Common.{◌≡◌, ℕ, ◌+◌, ◌-◌, ◌≤◌, Bool, List, [], ◌∷◌, ◌++◌, refl, true, false, arith, ap, ◌∙◌, length, Some, None, Option}
use Rattle.std.specs.Prelude.{if◌then◌else◌, ◌==◌, min, max, nat_lt}
use Rattle.std.specs.List.{sum_by}
use Rattle.std.proofs.lemmas.List.Sums.{sum_by-cons}
use Rattle.vch_model.specs.Store.{Named, Member, with_name, one_more, one_less, lower, lowest, without_name}
use Rattle.vch_model.specs.Voucher.{Voucher}

abbrev pub at_least_one : ℕ → ℕ
at_least_one n = max n 1

abbrev pub weight : List Named → ℕ
weight [] = 0
weight (n ∷ names) = at_least_one n.refs + weight names

pub few_names : (names : List Named) → length names ≤ weight names
few_names [] = omega arith
few_names (n ∷ names) = let b = few_names names in omega (arith, b)

pub few_references : (names : List Named) → sum_by (λ (n : Named). n.refs) names ≤ weight names
few_references [] = omega arith
few_references (n ∷ names) =
    let a = sum_by-cons (λ (k : Named). k.refs) n names in let b = few_references names in omega (arith, a, b)

weight_more : (names : List Named) (name : ℕ) → weight (one_more names name) ≤ weight names + 1
weight_more [] name = omega arith
weight_more (n ∷ names) name = by_test (n.name == name) (weight_more names name)
  where
    by_test : (b : Bool) → weight (one_more names name) ≤ weight names + 1
        → weight (if b then record n { refs = n.refs + 1 } ∷ names else n ∷ one_more names name) ≤ weight (n ∷ names) + 1
    by_test true r = omega arith
    by_test false r = omega (arith, r)

pub weight_less : (names : List Named) (name : ℕ) → weight (one_less names name) ≤ weight names
weight_less [] name = omega arith
weight_less (n ∷ names) name = by_test (n.name == name) (nat_lt 1 n.refs) (weight_less names name)
  where
    by_test : (b c : Bool) → weight (one_less names name) ≤ weight names
        → weight (if b then (if c then record n { refs = n.refs - 1 } ∷ names else names) else n ∷ one_less names name)
        ≤ weight (n ∷ names)
    by_test true true r = omega arith
    by_test true false r = omega arith
    by_test false c r = omega (arith, r)

weight_joined : (names : List Named) (n : Named) → weight (names ++ n ∷ []) ≡ weight names + at_least_one n.refs
weight_joined [] n = omega arith
weight_joined (m ∷ names) n = let a = weight_joined names n in omega (arith, a)

-- a name more, or a user reference more
pub weight_named : (x : Member) (v : Voucher) (name : Option ℕ) → weight (with_name x v name).names ≤ weight x.names + 1
weight_named x v None = let a = weight_joined x.names (record { name = x.next; voucher = v; refs = 1 }) in omega (arith, a)
weight_named x v (Some name) = weight_more x.names name

-- the lowest name is one of the names
pub weight_gone : (names : List Named) (name : ℕ) → lowest names ≡ Some name
    → weight (without_name names name) + 1 ≤ weight names
weight_gone [] name e = cc
weight_gone (n ∷ names) name e = by_test (n.name == name) refl (λ b h. weight_gone names b h)
  where
    some_eq : {a b : ℕ} → Some a ≡ Some b → a ≡ b
    some_eq h = cc

    apart : (a b : ℕ) → (a == b) ≡ false → a ≡ b → ⊥
    apart a b h g = grind arith

    lower_one : (a b c : ℕ) → min a b ≡ c → (a == c) ≡ false → b ≡ c
    lower_one a b c h g = grind arith

    behind : ((b : ℕ) → lowest names ≡ Some b → weight (without_name names b) + 1 ≤ weight names) → (o : Option ℕ)
        → lowest names ≡ o → lower n.name o ≡ name → (n.name == name) ≡ false
        → weight (without_name names name) + 1 ≤ weight names
    behind rec None g h other = absurd (apart n.name name other h)
    behind rec (Some b) g h other = rec name (g ∙ ap Some (lower_one n.name b name h other))

    by_test : (b : Bool) → (n.name == name) ≡ b
        → ((b : ℕ) → lowest names ≡ Some b → weight (without_name names b) + 1 ≤ weight names)
        → weight (if b then names else n ∷ without_name names name) + 1 ≤ weight (n ∷ names)
    by_test true here rec = omega arith
    by_test false other rec =
        let r : weight (without_name names name) + 1 ≤ weight names =
        behind rec (lowest names) refl (some_eq e) other in
        omega (arith, r)

-- the next name is one further
pub next_named : (x : Member) (v : Voucher) (name : Option ℕ) → (with_name x v name).next - 1 ≤ x.next - 1 + 1
next_named x v None = omega arith
next_named x v (Some name) = omega arith
