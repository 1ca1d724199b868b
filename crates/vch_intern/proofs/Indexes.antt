-- The index follows the values.
use Rattle.std.proofs.Common.{◌≡◌, ℕ, List, set, Option, Some, None, false, cond, refl, sym, ap, subst, ◌∙◌}
use Rattle.std.specs.Bool.{Decides}
use Rattle.std.specs.Option.{MatchOption}
use Rattle.vch_base.specs.Slots.{Writes, IsUnknown}
use Rattle.vch_base.proofs.CallerLemmas.{place_of, writes_set, all_after}
use Rattle.vch_base.specs.declared.places.Live.{Live}
use Rattle.vch_base.specs.declared.value.Value.{Value}
use Rattle.vch_base.specs.declared.value.Value.TheVariants as values
use Rattle.vch_base.specs.Managers.{live_at, value_of, value_at, vacancy, is_user, IsAbsent}
use Rattle.vch_base.specs.Places.{Placed, AllLive}
use Rattle.vch_shelf.specs.Stock.{Stock, Sound, vacancy_of}
use Rattle.vch_shelf.specs.Finds.{mapped}
use Rattle.vch_shelf.proofs.CallerLemmas.{finds_same, finds_inserted, finds_removed, named_at, named_none, unknown_of, item_found, not_found, names_same}
use Rattle.indexmap.specs.IndexMap.{IndexMap}
use Rattle.std.proofs.lemmas.Slice.Eq.{slice_eq-Decides}
use Rattle.std.proofs.lemmas.Bool.Decides.{Decides-eqb}
use Rattle.vch_intern.specs.Tags.{tag, tag_of, tags_eq, found, Indexed, live_of}

pub decides : (a b : List ℕ) → Decides (tags_eq a b) (a ≡ b)
decides a b = slice_eq-Decides Decides-eqb a b (tags_eq a b) refl

-- values of one tag are equal, but for user data
pub same_tag : (x y : Value) → is_user x ≡ false → is_user y ≡ false → tag x ≡ tag y → x ≡ y
same_tag (values.User a) y p q e = absurd (cc)
same_tag x (values.User b) p q e = absurd (cc)
same_tag (values.Chain a) (values.Chain b) p q e = let s : a ≡ b = cc in ap values.Chain s
same_tag values.Default values.Default p q e = refl
same_tag (values.Task a) (values.Task b) p q e = let s : a ≡ b = cc in ap values.Task s
same_tag (values.Account a b) (values.Account c d) p q e = let s : a ≡ c = cc in let t : b ≡ d = cc in cc
same_tag (values.Chain a) values.Default p q e = absurd (cc)
same_tag (values.Chain a) (values.Task b) p q e = absurd (cc)
same_tag (values.Chain a) (values.Account b c) p q e = absurd (cc)
same_tag values.Default (values.Chain b) p q e = absurd (cc)
same_tag values.Default (values.Task b) p q e = absurd (cc)
same_tag values.Default (values.Account b c) p q e = absurd (cc)
same_tag (values.Task a) (values.Chain b) p q e = absurd (cc)
same_tag (values.Task a) values.Default p q e = absurd (cc)
same_tag (values.Task a) (values.Account b c) p q e = absurd (cc)
same_tag (values.Account a b) (values.Chain c) p q e = absurd (cc)
same_tag (values.Account a b) values.Default p q e = absurd (cc)
same_tag (values.Account a b) (values.Task c) p q e = absurd (cc)

live_some : (slots : List (Option Live)) (h : ℕ) (x : Value) → value_at slots h ≡ Some x → (l : Live) × (live_at slots h ≡ Some l) × (l.value ≡ x)
live_some slots h x = by (live_at slots h) refl
  where
    by : (o : Option Live) → live_at slots h ≡ o → value_of o ≡ Some x → (l : Live) × (live_at slots h ≡ Some l) × (l.value ≡ x)
    by None e v = absurd (cc)
    by (Some l) e v = (l, e, cc)

absent_unknown : (slots : List (Option Live)) (x : Value) → AllLive (λ l. is_user l.value ≡ false) slots → is_user x ≡ false → IsAbsent slots x → IsUnknown tag_of slots (tag x)
absent_unknown slots x tagged plain absent i l e same = absent i (ap value_of e ∙ ap Some (same_tag l.value x (tagged i l e) plain same))

as_vacancy : (o : Option Live) → vacancy_of o ≡ vacancy o
as_vacancy None = refl
as_vacancy (Some l) = refl

module _ {S : Type 0} where
  -- what a look-up tells
  pub find_is : (ix : IndexMap (List ℕ) ℕ S) (slots : List (Option Live)) (x : Value) (r : Option ℕ) → Indexed ix slots → is_user x ≡ false → r ≡ found ix (tag x) → MatchOption r (IsAbsent slots x) (λ h. value_at slots h ≡ Some x)
  find_is ix slots x None is plain e = λ h v.
      let l = live_some slots h x v in
      unknown_of tag_of (found ix) slots (tag x) is.finds (sym e) h l.0 l.1 (ap tag l.2)
  find_is ix slots x (Some h) is plain e =
      let l = item_found tag_of (found ix) slots (tag x) h is.finds (sym e) in
      ap value_of l.1 ∙ ap Some (same_tag l.0.value x (is.tagged h l.0 l.1) plain l.2)

  -- another made count, or another due
  pub indexed_same : (ix : IndexMap (List ℕ) ℕ S) (slots : List (Option Live)) (h : ℕ) (l m : Live) → Indexed ix slots → live_at slots h ≡ Some l → m.value ≡ l.value → Indexed ix (set slots h (Some m))
  indexed_same ix slots h l m is e same = record {
    finds = finds_same (found ix) _ _ is.finds (names_same tag_of slots _ h l m e (ap tag same) w);
    tagged = all_after (λ _ k. is_user k.value ≡ false) slots _ h _ is.tagged w (λ k q. let s : m ≡ k = cc in subst (λ (y : Live). is_user y.value ≡ false) s (ap is_user same ∙ is.tagged h l e));
  }
    where
      w : Writes slots (set slots h (Some m)) h (Some m)
      w = writes_set slots h (Some m) (place_of slots h l e)

  -- a value goes
  pub indexed_gone : (ix ix2 : IndexMap (List ℕ) ℕ S) (old new : List (Option Live)) (h : ℕ) (l : Live) → Indexed ix old → live_at old h ≡ Some l → Writes old new h None → ((q : List ℕ) → found ix2 q ≡ cond (tags_eq (tag l.value) q) None (found ix q)) → Indexed ix2 new
  indexed_gone ix ix2 old new h l is e w u = record {
    finds = finds_removed tags_eq decides (found ix) (found ix2) _ _ (tag l.value) h is.finds u (named_at tag_of old h l e) (named_none tag_of new h w.here) (λ k n. ap (mapped tag_of) (w.others k n));
    tagged = all_after (λ _ k. is_user k.value ≡ false) old new h None is.tagged w (λ k q. absurd (cc));
  }

  -- a value comes
  pub indexed_new : (ix ix2 : IndexMap (List ℕ) ℕ S) (old new : List (Option Live)) (h n : ℕ) (x : Value) → Indexed ix old → is_user x ≡ false → IsAbsent old x → live_at old h ≡ None → Writes old new h (Some (live_of x n)) → ((q : List ℕ) → found ix2 q ≡ cond (tags_eq (tag x) q) (Some h) (found ix q)) → Indexed ix2 new
  indexed_new ix ix2 old new h n x is plain absent e w u = record {
    finds = finds_inserted tags_eq decides (found ix) (found ix2) _ _ (tag x) h is.finds u (not_found tag_of (found ix) old (tag x) is.finds (absent_unknown old x is.tagged plain absent)) (named_none tag_of old h e) (named_at tag_of new h (live_of x n) w.here) (λ k m. ap (mapped tag_of) (w.others k m));
    tagged = all_after (λ _ k. is_user k.value ≡ false) old new h _ is.tagged w (λ k q. let s : live_of x n ≡ k = cc in subst (λ (y : Live). is_user y.value ≡ false) s plain);
  }

  pub placed_of : (ix : IndexMap (List ℕ) ℕ S) (s : Stock Live) → Indexed ix s.slots → Sound s → Placed (record { slots = s.slots; free = s.free })
  placed_of ix s is sound = record {
    one_handle = λ i j x p q. (
        let a = live_some s.slots i x p in
        let b = live_some s.slots j x q in
        let f : found ix (tag x) ≡ Some i = (is.finds (tag x) i).1 (named_at tag_of s.slots i a.0 a.1 ∙ ap (λ y. Some (tag y)) a.2) in
        let g : found ix (tag x) ≡ Some j = (is.finds (tag x) j).1 (named_at tag_of s.slots j b.0 b.1 ∙ ap (λ y. Some (tag y)) b.2) in
        cc);
    once = λ h b. sound.once h b ∙ as_vacancy (live_at s.slots h);
    within = sound.within;
    fits = sound.fits;
  }
