-- A key's own item, and two places of one key.
use Rattle.std.proofs.Common.{◌≡◌, ◌≢◌, ℕ, true, false, cond, refl, sym, ap, ◌∙◌}
use Rattle.vch_base.specs.declared.key.Key.{Key}
use Rattle.vch_base.specs.declared.key.Key.TheVariants as keys
use Rattle.vch_base.specs.Keyed.{Keyed, of_key, with_key}
use Rattle.vch_base.specs.Keys.{same_key}
use Rattle.vch_base.proofs.CallerLemmas.{with_of}
use Rattle.vch_value.proofs.CallerLemmas.{test_other}
use Rattle.vch_machine.specs.State.{Place, same_place}

pub same_key_refl : (k : Key) → same_key k k ≡ true
same_key_refl keys.Importance = refl
same_key_refl keys.Bank = refl
same_key_refl keys.User = refl
same_key_refl keys.Test = refl

pub of_with : {A : Type 0} (k : Key) (a : A) (x : Keyed A) → of_key k (with_key k a x) ≡ a
of_with k a x = with_of k k a x ∙ ap (λ b. cond b a (of_key k x)) (same_key_refl k)

abbrev at_place : Key → ℕ → Place
at_place k h = record { key = k; handle = h }

pub same_at : (k : Key) (h i : ℕ) → i ≢ h → same_place (at_place k h) (at_place k i) ≡ false
same_at k h i n = let e : same_key k k ≡ true = same_key_refl k in rw (e, test_other h i (λ q. n (sym q))) refl
