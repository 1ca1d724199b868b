-- Vouchers by indices and by handles: what stands at a key, and one key is set on both sides.
use Rattle.std.proofs.Common.{◌≡◌, ◌≢◌, ℕ, sym, ap, ◌∙◌, subst, Option, None}
use Rattle.vch_base.specs.declared.key.Key.{Key}
use Rattle.vch_base.specs.declared.key.Key.TheVariants as keys
use Rattle.vch_base.specs.Keys.{number_of, key_numbered, every_key}
use Rattle.vch_base.specs.Keyed.{Keyed, of_key, with_key}
use Rattle.vch_table.specs.Indices.{Bounded, SetsIndex}
use Rattle.vch_machine.specs.State.{Handles}
use Rattle.vch_frame.specs.Pairs.{Optional}
use Rattle.vch_frame.specs.Indices.{index_of}
use Rattle.vch_values.proofs.CallerLemmas.{of_with}
use Rattle.vch_values.specs.Parts.{KeyParts}
use Rattle.vch_parts.specs.Plain.{Indices}
use Rattle.vch_parts.specs.Shape.{IsIndexOf, AreIndices, IsMap}
use Rattle.vch_parts.proofs.keys.KeyCases.{each_key, other_with, other_number}

-- what a voucher has at one key
pub at_key : (x : Keyed KeyParts) (k : Key) (v : Indices) (w : Handles) → IsMap x v w → Optional (IsIndexOf x k) (index_of k v) (of_key k w)
at_key x keys.Importance v w p = p.0.0
at_key x keys.Bank v w p = p.0.1.0
at_key x keys.User v w p = p.0.1.1.0
at_key x keys.Test v w p = p.0.1.1.1.0

-- an index at a key is set, or gone, where its handle is
pub map_with : (x : Keyed KeyParts) (k : Key) (v u : Indices) (w : Handles) (i h : Option ℕ) → Bounded u → SetsIndex v u (number_of k) i → Optional (IsIndexOf x k) i h → IsMap x v w → IsMap x u (with_key k h w)
map_with x k v u w i h bounded sets index p = (indices, record { bounded = bounded; managed = λ n e. sets.others n (number_there k n e) ∙ p.1.managed n e })
  where
    one : (q : Key) → Optional (IsIndexOf x q) (index_of q u) (of_key q (with_key k h w))
    one = each_key (λ q. Optional (IsIndexOf x q) (index_of q u) (of_key q (with_key k h w))) k
        (subst (Optional (IsIndexOf x k) (index_of k u)) (sym (of_with k h w)) (subst (λ o. Optional (IsIndexOf x k) o h) (sym sets.here) index))
        (λ q other. subst (Optional (IsIndexOf x q) (index_of q u)) (sym (other_with q k h w other))
        (subst (λ o. Optional (IsIndexOf x q) o (of_key q w)) (sym (sets.others (number_of q) (other_number k q other))) (at_key x q v w p)))

    indices : AreIndices x every_key u (with_key k h w)
    indices = (one keys.Importance, (one keys.Bank, (one keys.User, (one keys.Test, tt))))

    number_there : (k : Key) (n : ℕ) → key_numbered n ≡ None → n ≢ number_of k
    number_there keys.Importance n e q = let z : key_numbered 2 ≡ None = sym (ap key_numbered q) ∙ e in cc
    number_there keys.Bank n e q = let z : key_numbered 3 ≡ None = sym (ap key_numbered q) ∙ e in cc
    number_there keys.User n e q = let z : key_numbered 7 ≡ None = sym (ap key_numbered q) ∙ e in cc
    number_there keys.Test n e q = let z : key_numbered 8 ≡ None = sym (ap key_numbered q) ∙ e in cc
