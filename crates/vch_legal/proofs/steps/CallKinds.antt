-- The events that are next where a call is not answered are its own.
use Rattle.std.proofs.Common.{◌≡◌, ℕ, Bool, List, refl, true, false, sym, ◌∙◌, subst, drop, Some}
use Rattle.std.specs.Prelude.{if◌then◌else◌}
use Rattle.vch_base.specs.declared.key.Key.{Key}
use Rattle.vch_base.specs.declared.kind.Kind.{Kind}
use Rattle.vch_base.specs.declared.kind.Kind.TheVariants as kinds
use Rattle.vch_recipe.specs.Recipes.{First, One, End, HeaderCut, ContentCut, first_of}
use Rattle.vch_model.specs.declared.call.Call.{Call}
use Rattle.vch_model.specs.declared.call.Call.TheVariants as calls
use Rattle.vch_model.specs.Legal.{asks}
use Rattle.vch_machine.specs.State.{Named, is_empty}
use Rattle.vch_machine.specs.Next.{known_name, first_next, call_next}
use Rattle.vch_legal.proofs.steps.Nexts.{is_call_kind, some_kind}

keys_kind : (b : Bool) (kind : Kind) → (if b then Some kinds.Place else Some kinds.Make) ≡ Some kind
    → is_call_kind kind ≡ true
keys_kind true kind e = subst (λ (k : Kind). is_call_kind k ≡ true) (some_kind kinds.Place kind e) refl
keys_kind false kind e = subst (λ (k : Kind). is_call_kind k ≡ true) (some_kind kinds.Make kind e) refl

first_kind : (version : ℕ) (names : List Named) (first : First) → is_call_kind (first_next version names first) ≡ true
first_kind version names (One r rest) = by_test (asks version (known_name names) r)
  where
    by_test : (b : Bool) → is_call_kind (if b then kinds.Make else kinds.Work) ≡ true
    by_test true = refl
    by_test false = refl
first_kind version names End = refl
first_kind version names (HeaderCut left) = refl
first_kind version names (ContentCut wanted left) = refl

own_kind : (version : ℕ) (names : List Named) (place : ℕ) (ks : List Key) (call : Call) (kind : Kind)
    → call_next version names place ks (Some call) ≡ Some kind → is_call_kind kind ≡ true
own_kind version names place ks (calls.Create bytes) kind e =
    subst (λ (k : Kind). is_call_kind k ≡ true) (some_kind _ kind e)
    (first_kind version names (first_of (drop place bytes)))
own_kind version names place ks calls.Exit kind e =
    subst (λ (k : Kind). is_call_kind k ≡ true) (some_kind kinds.Work kind e) refl
own_kind version names place ks (calls.GiveUp name) kind e = keys_kind (is_empty ks) kind e
own_kind version names place ks (calls.Extract name key) kind e = keys_kind (is_empty ks) kind e
own_kind version names place ks (calls.Recipes name) kind e = keys_kind (is_empty ks) kind e
own_kind version names place ks (calls.Send to moving name id) kind e = keys_kind (is_empty ks) kind e
own_kind version names place ks calls.Recv kind e = keys_kind (is_empty ks) kind e
own_kind version names place ks (calls.Extern name adding n) kind e = keys_kind (is_empty ks) kind e
own_kind version names place ks (calls.Charge name n) kind e = keys_kind (is_empty ks) kind e
own_kind version names place ks calls.Ledger kind e = keys_kind (is_empty ks) kind e
own_kind version names place ks calls.Assertions kind e = keys_kind (is_empty ks) kind e
own_kind version names place ks calls.Live kind e = keys_kind (is_empty ks) kind e

pub not_other : (version : ℕ) (names : List Named) (place : ℕ) (ks : List Key) (call : Call) (kind : Kind)
    → call_next version names place ks (Some call) ≡ Some kind → is_call_kind kind ≡ false → ⊥
not_other version names place ks call kind e h = let k : is_call_kind kind
    ≡ true = own_kind version names place ks call kind e in let n : true ≡ false = sym k ∙ h in cc
