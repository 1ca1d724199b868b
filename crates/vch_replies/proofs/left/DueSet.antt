-- One amount changes in the history, and what is due on the live value with it.
use Rattle.std.proofs.Common.{◌≡◌, ◌≢◌, ℕ, Bool, true, false, cond, List, refl, sym, ap, ◌∙◌, subst, Option, Some, None, inl, inr}
use Rattle.std.proofs.lemmas.Bool.{cases_eq}
use Rattle.std.proofs.lemmas.List.{get_or-set_same, get_or-set_other}
use Rattle.std.specs.Prelude.{if◌then◌else◌, slice_set}
use Rattle.vch_base.specs.declared.key.Key.{Key}
use Rattle.vch_base.specs.declared.places.Live.{Live}
use Rattle.vch_base.specs.declared.value.Value.{Value}
use Rattle.vch_base.specs.Keyed.{of_key}
use Rattle.vch_base.specs.Keys.{same_key}
use Rattle.vch_base.specs.Managers.{live_at, with_due}
use Rattle.vch_base.specs.Values.{Belongs, equal_values}
use Rattle.vch_base.proofs.CallerLemmas.{with_of, inside_of}
use Rattle.vch_model.specs.declared.entry.Entry.{Entry}
use Rattle.vch_model.specs.declared.lists.Scenario.{Scenario}
use Rattle.vch_machine.specs.State.{Living, Machine, living_at, handle_of}
use Rattle.vch_legal.specs.ValueAmounts.{amount_of}
use Rattle.vch_legal.proofs.CallerLemmas.{values_refl, values_eq, not_true}
use Rattle.vch_frame.specs.Living.{IsLiving}
use Rattle.vch_values.specs.Parts.{KeyParts, number_at}
use Rattle.vch_values.proofs.CallerLemmas.{key_cases, of_with}
use Rattle.vch_parts.specs.Moves.{with_kept}
use Rattle.vch_parts.specs.Plain.{Plain}
use Rattle.vch_replies.specs.Begins.{Begins}
use Rattle.vch_replies.specs.Left.{due_set}

-- the machine's live value at the handle of a live one
pub record IsLivingAt (m : Machine) (k : Key) (h : ℕ) (x : Value) : Type 0 where
  pub living : Living
  pub there : living_at m.live (record { key = k; handle = h }) ≡ Some living
  pub same : x ≡ living.value

module _ (sc : Scenario) (c : Plain) (m : Machine) (t : ℕ) (b : Begins sc c m t) where
  pub living_of : (k : Key) (h : ℕ) (l : Live) → live_at (of_key k c.keyed).kept.slots h ≡ Some l → IsLivingAt m k h l.value
  living_of k h l e = of_living (living_at m.live (record { key = k; handle = h })) refl
      (subst (λ o. IsLiving (number_at (of_key k c.keyed).numbers h) o (living_at m.live (record { key = k; handle = h }))) e ((b.stands.keyed k).living h))
    where
      of_living : (o : Option Living) → living_at m.live (record { key = k; handle = h }) ≡ o → IsLiving (number_at (of_key k c.keyed).numbers h) (Some l) o → IsLivingAt m k h l.value
      of_living None f i = absurd i
      of_living (Some a) f i = record { living = a; there = f; same = i.0 }

  pub belongs_to : (k : Key) (h : ℕ) (l : Live) → live_at (of_key k c.keyed).kept.slots h ≡ Some l → Belongs k l.value
  belongs_to k h l e = let a = living_of k h l e in subst (Belongs k) (sym a.same) (b.ties.fits.values (record { key = k; handle = h }) a.living a.there).belongs

  -- equal values of a key are at one handle
  pub one_handle : (k : Key) (h i : ℕ) (l j : Live) → live_at (of_key k c.keyed).kept.slots h ≡ Some l → live_at (of_key k c.keyed).kept.slots i ≡ Some j → l.value ≡ j.value → h ≡ i
  one_handle k h i l j e f same =
      let a = living_of k h l e in
      let d = living_of k i j f in
      let x : handle_of m.live k a.living.value ≡ Some h = b.ties.fits.different (record { key = k; handle = h }) a.living a.there in
      let y : handle_of m.live k d.living.value ≡ Some i = b.ties.fits.different (record { key = k; handle = i }) d.living d.there in
      let z : a.living.value ≡ d.living.value = sym a.same ∙ same ∙ d.same in
      some_eq h i (sym x ∙ ap (handle_of m.live k) z ∙ y)
    where
      some_eq : (x y : ℕ) → Some x ≡ Some y → x ≡ y
      some_eq x y g = cc

  -- the value at the handle is of a key where no other key has values that are equal, and its amount alone is another
  module _ (k : Key) (h : ℕ) (l : Live) (due : ℕ) (past : List Entry) (there : live_at (of_key k c.keyed).kept.slots h ≡ Some l)
      (own : (q : Key) (x : Value) → same_key q k ≡ false → Belongs q x → equal_values l.value x ≡ false)
      (change : ℕ → ℕ) (set_to : due ≡ change l.due) (changes : (x : Value) → amount_of sc past x ≡ (if equal_values l.value x then change (amount_of sc m.past x) else amount_of sc m.past x)) where
    after : (x : Value) → amount_of sc past x ≡ (if equal_values l.value x then due else amount_of sc m.past x)
    after x = changes x ∙ by_test (equal_values l.value x) refl
      where
        by_test : (d : Bool) → equal_values l.value x ≡ d → (if d then change (amount_of sc m.past x) else amount_of sc m.past x) ≡ (if d then due else amount_of sc m.past x)
        by_test true e = ap change (ap (amount_of sc m.past) (sym (values_eq l.value x e)) ∙ sym ((b.stands.keyed k).dues h l there)) ∙ sym set_to
        by_test false e = refl

    other_amount : (x : Value) → equal_values l.value x ≡ false → amount_of sc past x ≡ amount_of sc m.past x
    other_amount x e = after x ∙ ap (λ d. if d then due else amount_of sc m.past x) e

    here : (i : ℕ) (j : Live) → live_at (due_set (of_key k c.keyed).kept h due).slots i ≡ Some j → j.due ≡ amount_of sc past j.value
    here i j e = elim (cases_eq i h) [
      | inl same ↦ at_handle same
      | inr other ↦ elsewhere other
    ]
      where
        some_eq : (x y : Live) → Some x ≡ Some y → x ≡ y
        some_eq x y g = cc

        changed : due ≡ amount_of sc past l.value
        changed = sym (after l.value ∙ ap (λ d. if d then due else amount_of sc m.past l.value) (values_refl l.value))

        at_handle : i ≡ h → j.due ≡ amount_of sc past j.value
        at_handle same =
            let f : live_at (slice_set (of_key k c.keyed).kept.slots h (with_due due (live_at (of_key k c.keyed).kept.slots h))) h ≡ with_due due (live_at (of_key k c.keyed).kept.slots h)
            = get_or-set_same (of_key k c.keyed).kept.slots h (with_due due (live_at (of_key k c.keyed).kept.slots h)) None (inside_of (of_key k c.keyed).kept.slots h l there) in
            let g : record l { due = due } ≡ j = some_eq (record l { due = due }) j (sym (f ∙ ap (with_due due) there)
            ∙ subst (λ n. live_at (due_set (of_key k c.keyed).kept h due).slots n ≡ Some j) same e) in
            subst (λ (x : Live). x.due ≡ amount_of sc past x.value) g changed

        elsewhere : i ≢ h → j.due ≡ amount_of sc past j.value
        elsewhere other =
            let f : live_at (of_key k c.keyed).kept.slots i ≡ Some j = sym (get_or-set_other (of_key k c.keyed).kept.slots h i (with_due due (live_at (of_key k c.keyed).kept.slots h)) None other) ∙ e in
            (b.stands.keyed k).dues i j f
            ∙ sym (other_amount j.value (not_true (equal_values l.value j.value) (λ g. other (one_handle k i h j l f there (sym (values_eq l.value j.value g))))))

    pub dues_with : (q : Key) (i : ℕ) (j : Live) → live_at (of_key q (with_kept c.keyed k (due_set (of_key k c.keyed).kept h due))).kept.slots i ≡ Some j → j.due ≡ amount_of sc past j.value
    dues_with q i j e = elim (key_cases q k) [
      | inl same ↦ here i j (subst (λ (x : KeyParts). live_at x.kept.slots i ≡ Some j) (set_here same) e)
      | inr other ↦ there_too other
    ]
      where
        set_here : q ≡ k → of_key q (with_kept c.keyed k (due_set (of_key k c.keyed).kept h due)) ≡ record (of_key k c.keyed) { kept = due_set (of_key k c.keyed).kept h due }
        set_here same = ap (λ z. of_key z (with_kept c.keyed k (due_set (of_key k c.keyed).kept h due))) same ∙ of_with k (record (of_key k c.keyed) { kept = due_set (of_key k c.keyed).kept h due }) c.keyed

        there_too : same_key q k ≡ false → j.due ≡ amount_of sc past j.value
        there_too other =
            let stays : of_key q (with_kept c.keyed k (due_set (of_key k c.keyed).kept h due)) ≡ of_key q c.keyed
            = with_of q k (record (of_key k c.keyed) { kept = due_set (of_key k c.keyed).kept h due }) c.keyed ∙ ap (λ d. cond d (record (of_key k c.keyed) { kept = due_set (of_key k c.keyed).kept h due }) (of_key q c.keyed)) other in
            let f : live_at (of_key q c.keyed).kept.slots i ≡ Some j = subst (λ (x : KeyParts). live_at x.kept.slots i ≡ Some j) stays e in
            (b.stands.keyed q).dues i j f ∙ sym (other_amount j.value (own q j.value other (belongs_to q i j f)))
