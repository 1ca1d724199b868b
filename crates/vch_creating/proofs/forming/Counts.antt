-- One reference more may be taken of each entry that a record copies.
use Rattle.std.proofs.Common.{◌≡◌, ℕ, ◌<◌, ◌≤◌, arith, sym, ap, ◌∙◌, Option, Some, None}
use Rattle.std.specs.Prelude.{◌^◌}
use Rattle.vch_base.specs.declared.key.Key.{Key}
use Rattle.vch_base.specs.Keyed.{of_key}
use Rattle.vch_base.specs.Managers.{count}
use Rattle.vch_entry.specs.Entries.{entry_at, refs_of}
use Rattle.vch_value.specs.Picture.{entry_of}
use Rattle.vch_value.proofs.CallerLemmas.{entry_is}
use Rattle.vch_bounds.specs.Bounded.{Limited}
use Rattle.vch_model.specs.declared.lists.Scenario.{Scenario}
use Rattle.vch_machine.specs.State.{Machine}
use Rattle.vch_legal.specs.Tie.{Ties}
use Rattle.vch_frame.specs.Pairs.{Optional}
use Rattle.vch_frame.specs.Indices.{index_of}
use Rattle.vch_frame.proofs.CallerLemmas.{there_of, entry_of_handle}
use Rattle.vch_parts.specs.Plain.{Plain}
use Rattle.vch_parts.specs.Pictures.{picture_of}
use Rattle.vch_parts.specs.Shape.{IsIndexOf, slots_of}
use Rattle.vch_parts.specs.Stands.{StandsFor}
use Rattle.vch_parts.proofs.CallerLemmas.{at_key, holders_few}
use Rattle.vch_moves.specs.Desks.{AllApart}
use Rattle.vch_creating.specs.declared.change.Deed.{Deed}
use Rattle.vch_creating.specs.declared.change.Deed.TheVariants as deeds
use Rattle.vch_creating.specs.Changing.{MayDoAll, MayShare}
use Rattle.vch_creating.proofs.forming.Deeds.{CopiesKnown}

module _ (sc : Scenario) (c : Plain) (m : Machine) (limited : Limited sc) (s : StandsFor sc c m) (ties : Ties sc m) (apart : AllApart c.keyed) where
  refs_few : (k : Key) (i h : ℕ) → IsIndexOf c.keyed k i h → refs_of (entry_at (slots_of c.keyed k) i) ≤ 1049152
  refs_few k i h index = entry_of_handle (slots_of c.keyed k) i h _ index (λ x at same.
      let found : entry_of (slots_of c.keyed k) h ≡ Some x = entry_is (slots_of c.keyed k) i h x (apart k) at same in
      let refs : refs_of (entry_of (slots_of c.keyed k) h) ≡ count h (picture_of k c m).holders = ((s.keyed k).counts.at h).refs in
      let same_entry : refs_of (entry_at (slots_of c.keyed k) i) ≡ refs_of (entry_of (slots_of c.keyed k) h) = ap refs_of (at ∙ sym found) in
      let few : count h (picture_of k c m).holders ≤ 1049152 = holders_few sc c m k h limited ties in
      omega (arith, refs, same_entry, few))

  small : (n : ℕ) → n ≤ 1049152 → n < 2 ^ 63
  small n l = omega (arith, l)

  may_share : (k : Key) (i h : Option ℕ) → Optional (IsIndexOf c.keyed k) i h → MayShare (of_key k c.keyed) i
  may_share k None h e = tt
  may_share k (Some i) None e = absurd e
  may_share k (Some i) (Some h) e = (there_of (slots_of c.keyed k) i h e, small (refs_of (entry_at (slots_of c.keyed k) i)) (refs_few k i h e))

  pub may_do : (deed : Deed) → CopiesKnown c.keyed m deed → MayDoAll c.keyed deed
  may_do (deeds.Copy v) known k = may_share k (index_of k v) (of_key k known.0) (at_key c.keyed k v known.0 known.1)
  may_do (deeds.Remove v) known k = tt
