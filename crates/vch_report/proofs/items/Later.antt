-- The entries of each version: what is of version 2 alone is told apart by the entry.
use Rattle.std.proofs.Common.{◌≡◌, inl, inr, ℕ, Bool, true, false, not, cond, eqb, Option, Some, None, refl, sym, subst, arith}
use Rattle.std.proofs.lemmas.Grind.{common_steps}
use Rattle.vch_base.specs.declared.key.Key.{Key}
use Rattle.vch_base.specs.declared.key.Key.TheVariants as keys
use Rattle.vch_base.specs.declared.value.Value.{Value}
use Rattle.vch_base.specs.Keys.{key_of}
use Rattle.vch_base.specs.Values.{BelongsAt}
use Rattle.vch_model.specs.declared.call.Word.{Word}
use Rattle.vch_model.specs.declared.call.Word.TheVariants as words
use Rattle.vch_model.specs.declared.entry.Entry.{Entry}
use Rattle.vch_model.specs.declared.entry.Entry.TheVariants as entries
use Rattle.vch_model.specs.WellFormed.{IsWordOf, IsEntry}
use Rattle.vch_report.specs.WellFormed.{IsVersion}
use Rattle.vch_report.specs.Reading.{is_exit, is_later, is_of}

word_first : (v : Word) → not (is_exit v) ≡ true → IsWordOf 1 v
word_first words.Exit e = absurd cc
word_first v e = tt

first_word : (v : Word) → IsWordOf 1 v → not (is_exit v) ≡ true
first_word words.Exit e = absurd (omega arith)
first_word v e = refl

any_word : (v : Word) → IsWordOf 2 v
any_word words.Exit = refl
any_word v = tt

abbrev keys_by : Bool → Bool → Bool → Bool → Option Key
keys_by a b c d = cond a (Some keys.Importance) (cond b (Some keys.Bank) (cond c (Some keys.User) (cond d (Some keys.Test) None)))

key_first : (a b c d : Bool) (x : Value) → not d ≡ true → BelongsAt (keys_by a b c d) x → BelongsAt (keys_by a b c false) x
key_first a b c true x e h = absurd cc
key_first a b c false x e h = h

key_later : (a b c d : Bool) (x : Value) → BelongsAt (keys_by a b c false) x → BelongsAt (keys_by a b c d) x
key_later true b c d x h = h
key_later false true c d x h = h
key_later false false true d x h = h
key_later false false false d x h = absurd h

-- no two of the numbers are one
no_test : (k : ℕ) (x : Value) → BelongsAt (key_of 1 k) x → eqb k 8 ≡ false
no_test k x h = by (eqb k 8) refl
  where
    by : (b : Bool) → eqb k 8 ≡ b → b ≡ false
    by false e = refl
    by true e =
        let k_is : k ≡ 8 = grind (arith, common_steps) in
        absurd (subst (λ (n : ℕ). BelongsAt (key_of 1 n) x) k_is h)

first_of : (e : Entry) → not (is_later e) ≡ true → IsEntry 2 e → IsEntry 1 e
first_of (entries.Call t n word reply) e h = (h.0, h.1, word_first word e, h.3)
first_of (entries.Made k x) e h = (key_first (eqb k 2) (eqb k 3) (eqb k 7) (eqb k 8) x e h.0, h.1)
first_of (entries.Released r) e h = h
first_of (entries.Gone t name) e h = absurd cc
first_of (entries.Lost t) e h = absurd cc
first_of entries.Phase e h = tt

later_of : (e : Entry) → IsEntry 1 e → IsEntry 2 e × (not (is_later e) ≡ true)
later_of (entries.Call t n word reply) h = ((h.0, h.1, any_word word, h.3), first_word word h.2)
later_of (entries.Made k x) h = ((key_later (eqb k 2) (eqb k 3) (eqb k 7) (eqb k 8) x h.0, h.1), rw (no_test k x h.0) refl)
later_of (entries.Released r) h = (h, refl)
later_of (entries.Gone t name) h = absurd (omega (arith, h.0))
later_of (entries.Lost t) h = absurd (omega (arith, h.0))
later_of entries.Phase h = (tt, refl)

-- an entry of version 2 that a report of the version may have is one of the version
pub is_of_entry : (version : ℕ) (e : Entry) → IsVersion version → IsEntry 2 e → is_of version e ≡ true → IsEntry version e
is_of_entry version e (inl one) h of =
    let first : not (is_later e) ≡ true = subst (λ (n : ℕ). is_of n e ≡ true) one of in
    subst (λ (n : ℕ). IsEntry n e) (sym one) (first_of e first h)
is_of_entry version e (inr two) h of = subst (λ (n : ℕ). IsEntry n e) (sym two) h

-- an entry of a version is one of version 2
pub entry_later : (version : ℕ) (e : Entry) → IsVersion version → IsEntry version e → IsEntry 2 e
entry_later version e (inl one) h = (later_of e (subst (λ (n : ℕ). IsEntry n e) one h)).0
entry_later version e (inr two) h = subst (λ (n : ℕ). IsEntry n e) two h

-- and a report of the version may have it
pub entry_is_of : (version : ℕ) (e : Entry) → IsVersion version → IsEntry version e → is_of version e ≡ true
entry_is_of version e (inl one) h =
    let first : is_of 1 e ≡ true = (later_of e (subst (λ (n : ℕ). IsEntry n e) one h)).1 in
    subst (λ (n : ℕ). is_of n e ≡ true) (sym one) first
entry_is_of version e (inr two) h = subst (λ (n : ℕ). is_of n e ≡ true) (sym two) refl
