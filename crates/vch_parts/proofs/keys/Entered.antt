-- The entries of a key, or its manager, are others: what stays.
use Rattle.std.proofs.Common.{◌≡◌, ℕ, ◌+◌, refl, arith, sym, ap, ◌∙◌, Some}
use Rattle.vch_base.specs.declared.key.Key.{Key}
use Rattle.vch_base.specs.declared.key.Key.TheVariants as keys
use Rattle.vch_base.specs.Keyed.{Keyed, of_key}
use Rattle.vch_base.specs.Managers.{Kept}
use Rattle.vch_entry.specs.Entries.{Entries, handle_at}
use Rattle.vch_values.proofs.CallerLemmas.{of_with, over_keys}
use Rattle.vch_values.specs.Parts.{KeyParts, asked_in}
use Rattle.vch_parts.specs.Shape.{IsIndexOf, slots_of}
use Rattle.vch_parts.specs.Moves.{with_entries, with_kept}
use Rattle.vch_parts.proofs.keys.KeyCases.{each_key, other_with}
use Rattle.vch_parts.proofs.holders.Stable.{Keeps}

pub entries_here : (x : Keyed KeyParts) (k : Key) (e : Entries) → of_key k (with_entries x k e) ≡ record (of_key k x) { entries = e }
entries_here x k e = of_with k (record (of_key k x) { entries = e }) x

pub kept_here : (x : Keyed KeyParts) (k : Key) (kept : Kept) → of_key k (with_kept x k kept) ≡ record (of_key k x) { kept = kept }
kept_here x k kept = of_with k (record (of_key k x) { kept = kept }) x

-- each index keeps its handle
pub keeps_entries : (x : Keyed KeyParts) (k : Key) (e : Entries) → ((i h : ℕ) → handle_at (slots_of x k) i ≡ Some h → handle_at e.slots i ≡ Some h) → Keeps x (with_entries x k e)
keeps_entries x k e f = each_key (λ q. (i h : ℕ) → IsIndexOf x q i h → IsIndexOf (with_entries x k e) q i h) k
    (λ i h a. ap (λ (y : KeyParts). handle_at y.entries.slots i) (entries_here x k e) ∙ f i h a)
    (λ q other i h a. ap (λ (y : KeyParts). handle_at y.entries.slots i) (other_with q k (record (of_key k x) { entries = e }) x other) ∙ a)

pub keeps_kept : (x : Keyed KeyParts) (k : Key) (kept : Kept) → Keeps x (with_kept x k kept)
keeps_kept x k kept = each_key (λ q. (i h : ℕ) → IsIndexOf x q i h → IsIndexOf (with_kept x k kept) q i h) k
    (λ i h a. ap (λ (y : KeyParts). handle_at y.entries.slots i) (kept_here x k kept) ∙ a)
    (λ q other i h a. ap (λ (y : KeyParts). handle_at y.entries.slots i) (other_with q k (record (of_key k x) { kept = kept }) x other) ∙ a)

-- each manager stays
pub kept_stays : (x : Keyed KeyParts) (k : Key) (e : Entries) (q : Key) → (of_key q (with_entries x k e)).kept ≡ (of_key q x).kept
kept_stays x k e = each_key (λ q. (of_key q (with_entries x k e)).kept ≡ (of_key q x).kept) k
    (ap (λ (y : KeyParts). y.kept) (entries_here x k e))
    (λ q other. ap (λ (y : KeyParts). y.kept) (other_with q k (record (of_key k x) { entries = e }) x other))

-- The questions.

pub asked_same : (x : Keyed KeyParts) (k : Key) (e : Entries) → asked_in (with_entries x k e) ≡ asked_in x
asked_same x k e = over_keys (λ q. (of_key q (with_entries x k e)).kept.asked) ∙ by k ∙ sym (over_keys (λ q. (of_key q x).kept.asked))
  where
    by : (k : Key) → (of_key keys.Importance (with_entries x k e)).kept.asked + (of_key keys.Bank (with_entries x k e)).kept.asked + (of_key keys.User (with_entries x k e)).kept.asked + (of_key keys.Test (with_entries x k e)).kept.asked
        ≡ (of_key keys.Importance x).kept.asked + (of_key keys.Bank x).kept.asked + (of_key keys.User x).kept.asked + (of_key keys.Test x).kept.asked
    by keys.Importance = refl
    by keys.Bank = refl
    by keys.User = refl
    by keys.Test = refl

pub asked_more : (x : Keyed KeyParts) (k : Key) (kept : Kept) → kept.asked ≡ (of_key k x).kept.asked + 1 → asked_in (with_kept x k kept) ≡ asked_in x + 1
asked_more x k kept more = over_keys (λ q. (of_key q (with_kept x k kept)).kept.asked) ∙ by k more ∙ ap (λ n. n + 1) (sym (over_keys (λ q. (of_key q x).kept.asked)))
  where
    by : (k : Key) → kept.asked ≡ (of_key k x).kept.asked + 1
        → (of_key keys.Importance (with_kept x k kept)).kept.asked + (of_key keys.Bank (with_kept x k kept)).kept.asked + (of_key keys.User (with_kept x k kept)).kept.asked + (of_key keys.Test (with_kept x k kept)).kept.asked
        ≡ (of_key keys.Importance x).kept.asked + (of_key keys.Bank x).kept.asked + (of_key keys.User x).kept.asked + (of_key keys.Test x).kept.asked + 1
    by keys.Importance more = omega (arith, more)
    by keys.Bank more = omega (arith, more)
    by keys.User more = omega (arith, more)
    by keys.Test more = omega (arith, more)
