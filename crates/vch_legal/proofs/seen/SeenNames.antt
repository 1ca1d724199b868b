-- Names of handles and names of vouchers are found alike.
use Rattle.std.proofs.Common.{◌≡◌, ℕ, ◌+◌, Bool, List, [], ◌∷◌, refl, true, false, ap, ◌∙◌, map, Some, None, Option}
use Rattle.std.specs.Prelude.{if◌then◌else◌, ◌==◌}
use Rattle.std.specs.List.{list_all}
use Rattle.vch_base.specs.declared.key.Key.{Key}
use Rattle.vch_base.specs.Keyed.{of_key}
use Rattle.vch_base.specs.Keys.{every_key}
use Rattle.vch_model.specs.Voucher.{equal_options, equal_vouchers}
use Rattle.vch_model.specs.Store as store
use Rattle.std.proofs.lemmas.List.{map-append}
use Rattle.vch_machine.specs.State.{Handles, Living, Named, Tasked, value_at, valued, named_of, member_of}
use Rattle.vch_machine.specs.Naming.{same_handles, name_of, one_more, with_name}
use Rattle.vch_legal.specs.Facts.{Different}
use Rattle.vch_legal.proofs.forming.Forming.{LiveAt, same_values}
use Rattle.vch_legal.proofs.seen.SeenHeld.{value_at_key}

-- each handle of a voucher is live
abbrev pub LiveAll : List Living → Handles → Type 0
LiveAll live v = (k : Key) → LiveAt live k (of_key k v)

-- lists of which each element passes alike
pub all_alike : {X : Type 0} (p q : X → Bool) (xs : List X) → ((x : X) → p x ≡ q x) → list_all p xs ≡ list_all q xs
all_alike p q [] h = refl
all_alike p q (x ∷ xs) h = let i : list_all p xs ≡ list_all q xs = all_alike p q xs h in rw (h x, i) refl

pub same_vouchers : (live : List Living) (a b : Handles) → Different live → LiveAll live a → LiveAll live b
    → equal_vouchers (valued live a) (valued live b) ≡ same_handles a b
same_vouchers live a b d x y = all_alike _ _ every_key (λ k.
    ap (λ o. equal_options o (of_key k (valued live b))) (value_at_key live k a)
    ∙ (ap (λ o. equal_options (value_at live k (of_key k a)) o) (value_at_key live k b)
    ∙ same_values live k (of_key k a) (of_key k b) d (x k) (y k)))

abbrev pub AllLive : List Living → List Named → Type 0
AllLive live [] = Unit {0}
AllLive live (n ∷ names) = LiveAll live n.voucher × AllLive live names

pub name_same : (live : List Living) (names : List Named) (v : Handles) → Different live → AllLive live names
    → LiveAll live v → store.name_of (map (named_of live) names) (valued live v) ≡ name_of names v
name_same live [] v d h l = refl
name_same live (n ∷ names) v d h l =
    let e : equal_vouchers (valued live n.voucher) (valued live v)
    ≡ same_handles n.voucher v = same_vouchers live n.voucher v d h.0 l in
    let i : store.name_of (map (named_of live) names) (valued live v)
    ≡ name_of names v = name_same live names v d h.1 l in
    rw (e, i)

more_test : (live : List Living) (n : Named) (names : List Named) (name : ℕ)
    → map (named_of live) (one_more names name) ≡ store.one_more (map (named_of live) names) name → (b : Bool)
    → map (named_of live) (if b then record n { refs = n.refs + 1 } ∷ names else n ∷ one_more names name)
    ≡ (if b then record (named_of live n) { refs = n.refs + 1 } ∷ map (named_of live) names else named_of live n ∷
    store.one_more (map (named_of live) names) name)
more_test live n names name i true = refl
more_test live n names name i false = ap (λ xs. named_of live n ∷ xs) i

more_same : (live : List Living) (names : List Named) (name : ℕ) → map (named_of live) (one_more names name)
    ≡ store.one_more (map (named_of live) names) name
more_same live [] name = refl
more_same live (n ∷ names) name = more_test live n names name (more_same live names name) (n.name == name)

-- a voucher that is given to a task, in the machine and in the store
pub given_same : (live : List Living) (x : Tasked) (v : Handles) (name : Option ℕ)
    → member_of live (with_name x v name) ≡ store.with_name (member_of live x) (valued live v) name
given_same live x v None = ap (λ names. record (member_of live (with_name x v None)) { names = names })
    (map-append (named_of live) x.names (record { name = x.next; voucher = v; refs = 1 } ∷ []))
given_same live x v (Some name) = ap (λ names. record (member_of live x) { names = names })
    (more_same live x.names name)
