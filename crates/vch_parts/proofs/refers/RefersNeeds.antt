-- The counts of an entry that is referred to stay below their types.
use Rattle.std.proofs.Common.{◌≡◌, ℕ, ◌<◌, ◌≤◌, arith, sym, ap, ◌∙◌, subst, Some}
use Rattle.std.specs.Prelude.{◌^◌}
use Rattle.vch_base.specs.declared.key.Key.{Key}
use Rattle.vch_base.specs.Keyed.{of_key}
use Rattle.vch_base.specs.Managers.{count}
use Rattle.vch_entry.specs.Entries.{IsApart, AreBelow, handle_at, entry_at, refs_of, made_of}
use Rattle.vch_value.specs.Picture.{entry_of}
use Rattle.vch_value.proofs.CallerLemmas.{entry_is}
use Rattle.vch_frame.proofs.CallerLemmas.{entry_of_handle}
use Rattle.vch_parts.specs.declared.parts.Parts.{Parts}
use Rattle.vch_parts.specs.Pictures.{picture_of}
use Rattle.vch_parts.specs.Reached.{plain_of, Reached}
use Rattle.vch_parts.proofs.counts.Few.{holders_few}
use Rattle.vch_parts.proofs.framing.OfParts.{numbers_of}

pub refer_counts : (p : Parts) (k : Key) (h : ℕ) → Reached p → IsApart (of_key k p.values).entries.slots → (i : ℕ) → handle_at (of_key k p.values).entries.slots i ≡ Some h → AreBelow (2 ^ 63) (entry_at (of_key k p.values).entries.slots i)
refer_counts p k h reached apart i at = numbers_of p _ reached (λ m s ties n. entry_of_handle (of_key k p.values).entries.slots i h _ at (λ en q same.
    let found : entry_of (of_key k p.values).entries.slots h ≡ Some en = entry_is (of_key k p.values).entries.slots i h en apart q same in
    let refs : en.refs ≡ count h (picture_of k (plain_of p) m).holders = sym (ap refs_of found) ∙ ((s.keyed k).counts.at h).refs in
    let few : count h (picture_of k (plain_of p) m).holders ≤ 1049152 = holders_few p.scenario (plain_of p) m k h reached.limited ties in
    let made : en.made ≤ m.tally.refers = subst (λ o. made_of o ≤ m.tally.refers) q ((s.keyed k).made i) in
    subst (AreBelow (2 ^ 63)) (sym q) (small en.refs en.made (count h (picture_of k (plain_of p) m).holders) m.tally.refers refs few made n.refers)))
  where
    small : (a b n o : ℕ) → a ≡ n → n ≤ 1049152 → b ≤ o → o ≤ 1342177280 → (a < 2 ^ 63) × (b < 2 ^ 63)
    small a b n o i j k l = (omega (arith, i, j), omega (arith, k, l))
