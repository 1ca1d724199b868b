-- What the entries are once a reference was taken.
use Rattle.std.proofs.Common.{◌≡◌, ℕ, ◌+◌, ◌≤◌, Bool, List, ◌∷◌, ◌++◌, refl, arith, sym, ap, ◌∙◌, subst, Option, Some, None, inl, inr}
use Rattle.std.proofs.lemmas.Bool.{cases_eq}
use Rattle.vch_base.specs.Managers.{count}
use Rattle.vch_entry.specs.declared.table.Entry.{Entry}
use Rattle.vch_entry.specs.Entries.{Entries, entry_at, handle_at, handle_of, made_of, Refers, refers, more}
use Rattle.vch_value.proofs.CallerLemmas.{count_in, count_not, count_out, count_out_other}

module _ (old new : Entries) (handle : ℕ) (persist : Bool) (index : ℕ) (call : Refers old handle persist index new) where
  -- the index has the handle
  pub refers_here : handle_at new.slots index ≡ Some handle
  refers_here = by (entry_at old.slots index) call
    where
      by : (o : Option Entry) → refers o old handle persist index new → handle_at new.slots index ≡ Some handle
      by None r = ap handle_of r.1.here
      by (Some e) r = ap handle_of r.1.here ∙ ap Some r.0

  -- each index keeps the handle that it had
  pub refers_keep : (i h : ℕ) → handle_at old.slots i ≡ Some h → handle_at new.slots i ≡ Some h
  refers_keep i h e = by (entry_at old.slots index) refl call
    where
      by : (o : Option Entry) → entry_at old.slots index ≡ o → refers o old handle persist index new → handle_at new.slots i ≡ Some h
      by None q r = ap handle_of (r.1.others i (λ same. let z : None ≡ Some h = sym (ap handle_of (ap (entry_at old.slots) same ∙ q)) ∙ e in cc)) ∙ e
      by (Some x) q r = elim (cases_eq i index) [
        | inl same ↦ subst (λ j. handle_at new.slots j ≡ Some h) (sym same) (ap handle_of r.1.here ∙ sym (ap handle_of (ap (entry_at old.slots) same ∙ q)) ∙ e)
        | inr n ↦ ap handle_of (r.1.others i n) ∙ e
      ]

  -- no made count rises by more than one
  pub refers_made : (n : ℕ) → ((i : ℕ) → made_of (entry_at old.slots i) ≤ n) → (i : ℕ) → made_of (entry_at new.slots i) ≤ n + 1
  refers_made n low i = by (entry_at old.slots index) refl call
    where
      one_more : (e : Entry) → e.made ≤ n → (more e).made ≤ n + 1
      one_more e l = omega (arith, l)

      first : 1 ≤ n + 1
      first = omega arith

      less : (a : ℕ) → a ≤ n → a ≤ n + 1
      less a l = omega arith

      by : (o : Option Entry) → entry_at old.slots index ≡ o → refers o old handle persist index new → made_of (entry_at new.slots i) ≤ n + 1
      by None q r = elim (cases_eq i index) [
        | inl same ↦ subst (λ j. made_of (entry_at new.slots j) ≤ n + 1) (sym same) (subst (λ o. made_of o ≤ n + 1) (sym r.1.here) first)
        | inr m ↦ subst (λ o. made_of o ≤ n + 1) (sym (r.1.others i m)) (less (made_of (entry_at old.slots i)) (low i))
      ]
      by (Some x) q r = elim (cases_eq i index) [
        | inl same ↦ subst (λ j. made_of (entry_at new.slots j) ≤ n + 1) (sym same) (subst (λ o. made_of o ≤ n + 1) (sym r.1.here) (one_more x (subst (λ o. made_of o ≤ n) q (low index))))
        | inr m ↦ subst (λ o. made_of o ≤ n + 1) (sym (r.1.others i m)) (less (made_of (entry_at old.slots i)) (low i))
      ]

-- a holder may stand first or in between
pub count_moved : (x h : ℕ) (before behind : List ℕ) → count x (before ++ h ∷ behind) ≡ count x (h ∷ before ++ behind)
count_moved x h before behind = elim (cases_eq x h) [
  | inl e ↦ subst (λ j. count j (before ++ h ∷ behind) ≡ count j (h ∷ before ++ behind)) (sym e) (count_out h before behind ∙ sym (count_in h (before ++ behind)))
  | inr n ↦ count_out_other h x before behind n ∙ sym (count_not h x (before ++ behind) n)
]
