-- COPY and REMOVE in the machine, on handles, and in the sequential store, on values.
use Rattle.std.proofs.Common.{◌≡◌, ℕ, Bool, List, [], ◌∷◌, refl, true, false, sym, ap, ◌∙◌, subst, map, Some, None, Option, Ok, Err, Result}
use Rattle.std.specs.Prelude.{if◌then◌else◌, ◌==◌, ℤ}
use Rattle.vch_base.specs.declared.key.Key.{Key}
use Rattle.vch_base.specs.declared.key.Key.TheVariants as keys
use Rattle.vch_base.specs.declared.key.TheConstants.{ALL_KEYS}
use Rattle.vch_base.specs.Keyed.{of_key, with_key}
use Rattle.vch_base.specs.Keys.{managed, key_of, same_key}
use Rattle.vch_base.proofs.CallerLemmas.{with_of}
use Rattle.vch_model.specs.Voucher.{Voucher, equal_options}
use Rattle.vch_model.specs.Eval.{answer_to, put_answer, previous_value, ask_at, loses, takes, each_key, at_key, changes, redeemed, is_core_command, is_plain_command, carried, with_previous, eval}
use Rattle.vch_model.specs.Eval as evals
use Rattle.vch_machine.specs.State.{Handles, Living, value_at, valued, valued_option}
use Rattle.vch_machine.specs.Naming.{same_handle}
use Rattle.vch_machine.specs.Working.{WorkDone, copies, removes, changed, changed_at, changed_each, changed_keys, copied}
use Rattle.vch_legal.specs.Facts.{Different}
use Rattle.vch_legal.proofs.forming.Forming.{valued_with, same_values}
use Rattle.vch_legal.proofs.seen.SeenHeld.{value_at_key}
use Rattle.vch_legal.proofs.seen.SeenNames.{LiveAll}

-- what a record that asks no manager is seen to give
abbrev pub valued_result : List Living → Result WorkDone ℤ → Result Voucher ℤ
valued_result live (Ok w) = Ok (valued live w.forming)
valued_result live (Err code) = Err code

abbrev apply : Key → Option (Option ℕ) → Handles → Handles
apply k None v = v
apply k (Some x) v = with_key k x v

changed_forming : (k : Key) (o : Option (Option ℕ)) (w : WorkDone) → (changed k o w).forming ≡ apply k o w.forming
changed_forming k None w = refl
changed_forming k (Some x) w = refl

-- a change of a key by the machine is one by the store, where the key is as it was
abbrev Alike : List Living → Handles → (Key → Option (Option ℕ)) → (Key → Voucher → Voucher) → Type 0
Alike live map f g = (k : Key) (v : Handles) → of_key k v ≡ of_key k map → valued live (apply k (f k) v)
    ≡ g k (valued live v)

copies_alike : (live : List Living) (p map : Handles) → Alike live map (copies (Some p) map)
    (λ k. takes k (Some (valued live p)))
copies_alike live p map k v e = valued_with live k (of_key k p) v
    ∙ ap (λ x. with_key k x (valued live v)) (sym (value_at_key live k p))

removes_none : (live : List Living) (map : Handles) → Alike live map (removes None map) (λ k. loses k None)
removes_none live map k v e = valued_with live k None v

removes_alike : (live : List Living) (p map : Handles) → Different live → LiveAll live p → LiveAll live map
    → Alike live map (removes (Some p) map) (λ k. loses k (Some (valued live p)))
removes_alike live p map d lp lm k v e =
    by_test (same_handle (of_key k p) (of_key k map))
    ∙ ap (λ b. if b then with_key k None (valued live v) else valued live v) (sym test)
  where
    test : equal_options (of_key k (valued live p)) (of_key k (valued live v))
        ≡ same_handle (of_key k p) (of_key k map)
    test = ap (λ x. equal_options x (of_key k (valued live v))) (value_at_key live k p)
        ∙ (ap (λ x. equal_options (value_at live k (of_key k p)) x) (value_at_key live k v ∙ ap (value_at live k) e)
        ∙ same_values live k (of_key k p) (of_key k map) d (lp k) (lm k))

    by_test : (b : Bool) → valued live (apply k (if b then Some None else None) v)
        ≡ (if b then with_key k None (valued live v) else valued live v)
    by_test true = valued_with live k None v
    by_test false = refl

abbrev pub fresh_work : Handles → WorkDone
fresh_work map = record { forming = map; left = [] }

-- keys of which none is another one
abbrev Others : Key → List Key → Type 0
Others k [] = Unit {0}
Others k (j ∷ ks) = (same_key j k ≡ false) × Others k ks

abbrev Distinct : List Key → Type 0
Distinct [] = Unit {0}
Distinct (k ∷ ks) = Others k ks × Distinct ks

-- the maps agree at some keys
abbrev Agree : List Key → Handles → Handles → Type 0
Agree [] v map = Unit {0}
Agree (k ∷ ks) v map = (of_key k v ≡ of_key k map) × Agree ks v map

agree_self : (ks : List Key) (v : Handles) → Agree ks v v
agree_self [] v = tt
agree_self (k ∷ ks) v = (refl, agree_self ks v)

applied_agree : (ks : List Key) (k : Key) (o : Option (Option ℕ)) (v map : Handles) → Others k ks → Agree ks v map
    → Agree ks (apply k o v) map
applied_agree [] k o v map d a = tt
applied_agree (j ∷ ks) k o v map d a = (by_change o, applied_agree ks k o v map d.1 a.1)
  where
    by_change : (o : Option (Option ℕ)) → of_key j (apply k o v) ≡ of_key j map
    by_change None = a.0
    by_change (Some x) = with_of j k x v ∙ (ap (λ b. if b then x else of_key j v) d.0 ∙ a.0)

pub managed_distinct : (version : ℕ) → Distinct (managed version)
managed_distinct version = by_test (version == 2)
  where
    by_test : (b : Bool) → Distinct (keys.Importance ∷ keys.Bank ∷ keys.User ∷ (if b then keys.Test ∷ [] else []))
    by_test true = ((refl, (refl, (refl, tt))), ((refl, (refl, tt)), ((refl, tt), (tt, tt))))
    by_test false = ((refl, (refl, tt)), ((refl, tt), (tt, tt)))

each_alike : (live : List Living) (map : Handles) (f : Key → Option (Option ℕ)) (g : Key → Voucher → Voucher)
    → Alike live map f g → (ks : List Key) (w : WorkDone) → Distinct ks → Agree ks w.forming map
    → valued live (changed_each f ks w).forming ≡ each_key g ks (valued live w.forming)
each_alike live map f g alike [] w d a = refl
each_alike live map f g alike (k ∷ ks) w d a =
    each_alike live map f g alike ks (changed k (f k) w) d.1
    (subst (λ v. Agree ks v map) (sym (changed_forming k (f k) w)) (applied_agree ks k (f k) w.forming map d.0 a.1))
    ∙ ap (each_key g ks) (ap (valued live) (changed_forming k (f k) w) ∙ alike k w.forming a.0)

at_alike : (live : List Living) (map : Handles) (f : Key → Option (Option ℕ)) (g : Key → Voucher → Voucher)
    (k : Option Key) → Alike live map f g
    → valued_result live (changed_at f k (fresh_work map)) ≡ at_key g k (valued live map)
at_alike live map f g None alike = refl
at_alike live map f g (Some k) alike = ap Ok (ap (valued live) (changed_forming k (f k) (fresh_work map))
    ∙ alike k map refl)

pub if_alike : (live : List Living) (b : Bool) (x y : Result WorkDone ℤ) (u v : Result Voucher ℤ)
    → (b ≡ true → valued_result live x ≡ u) → (b ≡ false → valued_result live y ≡ v)
    → valued_result live (if b then x else y) ≡ (if b then u else v)
if_alike live true x y u v h k = h refl
if_alike live false x y u v h k = k refl

keys_alike : (live : List Living) (map : Handles) (f : Key → Option (Option ℕ)) (g : Key → Voucher → Voucher)
    (version key : ℕ) → Alike live map f g
    → valued_result live (changed_keys version f key (fresh_work map)) ≡ changes version g key (valued live map)
keys_alike live map f g version key alike =
    if_alike live (key == ALL_KEYS) _ _ _ _ (λ _. ap Ok (each_alike live map f g alike (managed version)
    (fresh_work map) (managed_distinct version) (agree_self (managed version) map)))
    (λ _. at_alike live map f g (key_of version key) alike)

pub copied_alike : (live : List Living) (p : Option Handles) (map : Handles) (version key : ℕ)
    → valued_result live (copied version p key (fresh_work map))
    ≡ evals.copied version (valued_option live p) key (valued live map)
copied_alike live None map version key = refl
copied_alike live (Some p) map version key = keys_alike live map (copies (Some p) map)
    (λ k. takes k (Some (valued live p))) version key (copies_alike live p map)

abbrev pub LiveOption : List Living → Option Handles → Type 0
LiveOption live None = Unit {0}
LiveOption live (Some v) = LiveAll live v

pub removed_alike : (live : List Living) (p : Option Handles) (map : Handles) (version key : ℕ) → Different live
    → LiveOption live p → LiveAll live map
    → valued_result live (changed_keys version (removes p map) key (fresh_work map))
    ≡ changes version (λ k. loses k (valued_option live p)) key (valued live map)
removed_alike live None map version key d lp lm = keys_alike live map (removes None map) (λ k. loses k None) version key
    (removes_none live map)
removed_alike live (Some p) map version key d lp lm = keys_alike live map (removes (Some p) map)
    (λ k. loses k (Some (valued live p))) version key (removes_alike live p map d lp lm)
