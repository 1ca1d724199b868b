-- The one key that a value but user data belongs to, by its number.
use Rattle.std.proofs.Common.{◌≡◌, ℕ, Bool, List, [], ◌∷◌, refl, true, false, ap, ◌∙◌, Some, None, Option}
use Rattle.std.specs.Prelude.{if◌then◌else◌, ◌==◌}
use Rattle.vch_base.specs.declared.key.Key.{Key}
use Rattle.vch_base.specs.declared.key.Key.TheVariants as keys
use Rattle.vch_base.specs.Keys.{number_of, managed, key_among, key_of}
use Rattle.vch_base.specs.declared.value.Value.{Value}
use Rattle.vch_base.specs.declared.value.Value.TheVariants as values
use Rattle.vch_base.specs.Managers.{is_user}
use Rattle.vch_base.specs.Values.{BelongsAt, Belongs}
use Rattle.vch_legal.proofs.facts.Choices.{number_eq, some_eq}

-- Made

-- the one key that a value belongs to; user data belongs to two
pub key_for : Value → Key
key_for (values.User bytes) = keys.User
key_for (values.Chain list) = keys.Importance
key_for values.Default = keys.Bank
key_for (values.Task t) = keys.Bank
key_for (values.Account holder merchant) = keys.Bank

belongs_key : (k : Key) (x : Value) → is_user x ≡ false → Belongs k x → k ≡ key_for x
unfolding key_for
belongs_key k (values.User bytes) e h = cc
belongs_key keys.Importance (values.Chain list) e h = refl
belongs_key keys.Bank values.Default e h = refl
belongs_key keys.Bank (values.Task t) e h = refl
belongs_key keys.Bank (values.Account a b) e h = refl
belongs_key keys.Importance values.Default e h = absurd h
belongs_key keys.Importance (values.Task t) e h = absurd h
belongs_key keys.Importance (values.Account a b) e h = absurd h
belongs_key keys.Bank (values.Chain list) e h = absurd h
belongs_key keys.User (values.Chain list) e h = absurd h
belongs_key keys.User values.Default e h = absurd h
belongs_key keys.User (values.Task t) e h = absurd h
belongs_key keys.User (values.Account a b) e h = absurd h
belongs_key keys.Test (values.Chain list) e h = absurd h
belongs_key keys.Test values.Default e h = absurd h
belongs_key keys.Test (values.Task t) e h = absurd h
belongs_key keys.Test (values.Account a b) e h = absurd h

-- a key that is found by its number has it
pub among_number : (ks : List Key) (n : ℕ) (k : Key) → key_among ks n ≡ Some k → n ≡ number_of k
among_number [] n k e = cc
among_number (j ∷ ks) n k e = by_test (n == number_of j) refl (among_number ks n k) e
  where
    by_test : (b : Bool) → (n == number_of j) ≡ b → (key_among ks n ≡ Some k → n ≡ number_of k)
        → (if b then Some j else key_among ks n) ≡ Some k → n ≡ number_of k
    by_test true p later g = number_eq n (number_of j) p ∙ ap number_of (some_eq j k g)
    by_test false p later g = later g

pub key_number : (version n : ℕ) (x : Value) → is_user x ≡ false → BelongsAt (key_of version n) x
    → n ≡ number_of (key_for x)
key_number version n x plain h = by_key (key_of version n) refl h
  where
    by_key : (o : Option Key) → key_of version n ≡ o → BelongsAt o x → n ≡ number_of (key_for x)
    by_key None e b = absurd b
    by_key (Some k) e b = among_number (managed version) n k e ∙ ap number_of (belongs_key k x plain b)
