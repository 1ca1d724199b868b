-- The assertions that a task holds, and those that are out from it, as the manager of importance sums them and as a history does.
use Rattle.std.proofs.Common.{◌≡◌, ℕ, suc, ◌+◌, ◌-◌, Bool, true, false, List, [], ◌∷◌, length, refl, arith, sym, ap, ◌∙◌, subst, Some}
use Rattle.std.specs.Prelude.{if◌then◌else◌, ◌==◌, nat_lt, slice_index}
use Rattle.std.specs.List.{sum_by}
use Rattle.vch_base.specs.declared.key.Key.{Key}
use Rattle.vch_base.specs.declared.key.Key.TheVariants as keys
use Rattle.vch_base.specs.declared.places.Live.{Live}
use Rattle.vch_base.specs.declared.value.Value.{Value}
use Rattle.vch_base.specs.declared.value.Value.TheVariants as values
use Rattle.vch_base.specs.Keys.{same_key}
use Rattle.vch_base.specs.Managers.{Rules, live_at}
use Rattle.vch_base.specs.Values.{Belongs}
use Rattle.vch_importance.specs.declared.assertion.Assertion.{Assertion}
use Rattle.vch_importance.specs.Assertions.{assertion_of, value_assertion, weight_of, share, all_shares, live_share, its_first, its_last, held_by, out_from}
use Rattle.vch_model.specs.declared.call.Call.TheVariants as calls
use Rattle.vch_model.specs.declared.entry.Entry.{Entry}
use Rattle.vch_model.specs.declared.entry.Reply.TheVariants as replies
use Rattle.vch_model.specs.declared.lists.Scenario.{Scenario}
use Rattle.vch_model.specs.After.{store_of}
use Rattle.vch_model.specs.Store.{Alive}
use Rattle.vch_model.specs.Totals.{external, donates, first_is, last_is, tasks_of, weight}
use Rattle.vch_machine.specs.Beginning.{store_reply}
use Rattle.vch_machine.specs.State.{Place, Living, Machine, living_at}
use Rattle.vch_legal.specs.ValueAmounts.{amount_of}
use Rattle.vch_legal.proofs.CallerLemmas.{Each, each_of, found_place}
use Rattle.vch_parts.specs.Plain.{Plain}
use Rattle.vch_replies.specs.Begins.{Begins}
use Rattle.vch_replies.proofs.sums.Sums.{sum_each}
use Rattle.vch_replies.proofs.sums.Spread.{keyed}
use Rattle.vch_replies.proofs.sums.LiveSums.{once, slots_sum, store_sum}

-- One end of the lists: `ends` tests it in a history, and `end` is the manager's.
module _ (sc : Scenario) (t : ℕ) (ends : List ℕ → Bool) (end : Assertion → ℕ) (none : ends [] ≡ false)
    (agree : (u : ℕ) (list : List ℕ) (due : ℕ) → ends (u ∷ list) ≡ (end (assertion_of (Some sc.flags) (u ∷ list) due) == t)) where
  -- what a value counts for the task
  abbrev counts : List Entry → Value → ℕ
  counts past x = if ends (tasks_of x) then weight sc past x else 0

  not_listed : (past : List Entry) (x : Value) → tasks_of x ≡ [] → counts past x ≡ 0
  not_listed past x e = ap (λ list. if ends list then external sc past x + donates sc list else 0) e ∙ ap (λ d. if d then external sc past x + donates sc [] else 0) none

  -- only importance has lists
  elsewhere : (past : List Entry) (k : Key) (x : Value) → same_key k keys.Importance ≡ false → Belongs k x → counts past x ≡ 0
  elsewhere past k (values.User bytes) e f = not_listed past (values.User bytes) refl
  elsewhere past k values.Default e f = not_listed past values.Default refl
  elsewhere past k (values.Task u) e f = not_listed past (values.Task u) refl
  elsewhere past k (values.Account holder merchant) e f = not_listed past (values.Account holder merchant) refl
  elsewhere past keys.Importance (values.Chain list) e f = absurd (cc)
  elsewhere past keys.Bank (values.Chain list) e f = absurd f
  elsewhere past keys.User (values.Chain list) e f = absurd f
  elsewhere past keys.Test (values.Chain list) e f = absurd f

  zero_if : (d : Bool) → ◌≡◌ {A = ℕ} (if d then 0 else 0) 0
  zero_if true = refl
  zero_if false = refl

  -- what the manager counts for a list
  abbrev shared : List ℕ → ℕ → ℕ
  shared list due = share end (assertion_of (Some sc.flags) list due) t

  list_counts : (past : List Entry) (list : List ℕ) (due : ℕ) → due ≡ external sc past (values.Chain list) → shared list due ≡ counts past (values.Chain list)
  list_counts past [] due e = zero_if (end (assertion_of (Some sc.flags) [] due) == t) ∙ sym (not_listed past (values.Chain []) refl)
  list_counts past (u ∷ list) due e = ap (λ d. if d then weight_of (Some sc.flags) (u ∷ list) due else 0) (sym (agree u list due)) ∙ by_test (nat_lt 1 (length (u ∷ list))) refl
    where
      by_test : (d : Bool) → nat_lt 1 (length (u ∷ list)) ≡ d
          → (if ends (u ∷ list) then weight_of (Some sc.flags) (u ∷ list) due else 0) ≡ counts past (values.Chain (u ∷ list))
      by_test true f =
          ap (λ d. if ends (u ∷ list) then (if d then due + donates sc (u ∷ list) else 0) else 0) f
          ∙ ap (λ n. if ends (u ∷ list) then n + donates sc (u ∷ list) else 0) e
          ∙ sym (ap (λ d. if ends (if d then u ∷ list else []) then external sc past (values.Chain (u ∷ list)) + donates sc (if d then u ∷ list else []) else 0) f)
      by_test false f =
          ap (λ d. if ends (u ∷ list) then (if d then due + donates sc (u ∷ list) else 0) else 0) f
          ∙ zero_if (ends (u ∷ list))
          ∙ sym (ap (λ d. if ends (if d then u ∷ list else []) then external sc past (values.Chain (u ∷ list)) + donates sc (if d then u ∷ list else []) else 0) f
          ∙ ap (λ d. if d then external sc past (values.Chain (u ∷ list)) + donates sc [] else 0) none)

  module _ (c : Plain) (m : Machine) (b : Begins sc c m t) where
    -- the manager's rules are those of importance
    tasks_are : c.keyed.importance.kept.rules.tasks ≡ Some sc.flags
    tasks_are = ap (λ (r : Rules). r.tasks) (b.stands.keyed keys.Importance).rules

    live_counts : (h : ℕ) (l : Live) (a : Living) → live_at c.keyed.importance.kept.slots h ≡ Some l → l.value ≡ a.value
        → live_share end (Some sc.flags) t (Some l) ≡ counts m.past a.value
    live_counts h l a e same = of_value l.value refl ∙ ap (counts m.past) same
      where
        due : l.due ≡ amount_of sc m.past l.value
        due = (b.stands.keyed keys.Importance).dues h l e

        plain : (x : Value) (n : ℕ) → value_assertion (Some sc.flags) x n ≡ record { first = 0; last = 0; weight = 0 } → tasks_of x ≡ []
            → share end (value_assertion (Some sc.flags) x n) t ≡ counts m.past x
        plain x n f g = ap (λ a. share end a t) f ∙ zero_if (end (record { first = 0; last = 0; weight = 0 }) == t) ∙ sym (not_listed m.past x g)

        of_value : (x : Value) → l.value ≡ x → share end (value_assertion (Some sc.flags) l.value l.due) t ≡ counts m.past l.value
        of_value (values.Chain list) f = ap (λ x. share end (value_assertion (Some sc.flags) x l.due) t) f
            ∙ list_counts m.past list l.due (due ∙ ap (amount_of sc m.past) f) ∙ sym (ap (counts m.past) f)
        of_value (values.User bytes) f = plain l.value l.due (ap (λ x. value_assertion (Some sc.flags) x l.due) f) (ap tasks_of f)
        of_value values.Default f = plain l.value l.due (ap (λ x. value_assertion (Some sc.flags) x l.due) f) (ap tasks_of f)
        of_value (values.Task u) f = plain l.value l.due (ap (λ x. value_assertion (Some sc.flags) x l.due) f) (ap tasks_of f)
        of_value (values.Account holder merchant) f = plain l.value l.due (ap (λ x. value_assertion (Some sc.flags) x l.due) f) (ap tasks_of f)

    at_importance : Each (λ a. keyed (λ x. counts m.past x.value) keys.Importance a ≡ counts m.past a.value) m.live
    at_importance = each_of (λ a. keyed (λ x. counts m.past x.value) keys.Importance a ≡ counts m.past a.value) m.live (once sc c m t b) one
      where
        one : (p : Place) (a : Living) → living_at m.live p ≡ Some a → keyed (λ x. counts m.past x.value) keys.Importance a ≡ counts m.past a.value
        one p a e = by_test (same_key a.place.key keys.Importance) refl
          where
            belongs : Belongs a.place.key a.value
            belongs = subst (λ (q : Place). Belongs q.key a.value) (sym (found_place m.live p a e)) (b.ties.fits.values p a e).belongs

            by_test : (d : Bool) → same_key a.place.key keys.Importance ≡ d → (if d then counts m.past a.value else 0) ≡ counts m.past a.value
            by_test true f = refl
            by_test false f = sym (elsewhere m.past a.place.key a.value f belongs)

    pub shares_are : all_shares end c.keyed.importance.kept.rules.tasks c.keyed.importance.kept.slots t
        ≡ sum_by (λ (l : Alive). counts m.past l.value) (store_of sc m.past).live
    shares_are =
        ap (λ tasks. all_shares end tasks c.keyed.importance.kept.slots t) tasks_are
        ∙ slots_sum sc c m t b keys.Importance (live_share end (Some sc.flags) t) (λ a. counts m.past a.value) refl live_counts
        ∙ sum_each (keyed (λ a. counts m.past a.value) keys.Importance) (λ a. counts m.past a.value) m.live at_importance
        ∙ sym (store_sum sc c m t b (counts m.past) (not_listed m.past values.Default refl))

one_less : (n : ℕ) → n ≡ suc n - 1
one_less n = omega arith

pub assertions_reply : (sc : Scenario) (c : Plain) (m : Machine) (t : ℕ) → Begins sc c m t
    → store_reply sc m t calls.Assertions ≡ replies.Assertions (held_by c.keyed.importance.kept t) (out_from c.keyed.importance.kept t)
assertions_reply sc c m t b = both _ _ _ _
    (sym (shares_are sc t (last_is t) its_last refl (λ u list due. ap (λ n. slice_index (u ∷ list) n == t) (one_less (length list))) c m b))
    (sym (shares_are sc t (first_is t) its_first refl (λ u list due. refl) c m b))
  where
    both : (p q r s : ℕ) → p ≡ r → q ≡ s → replies.Assertions p q ≡ replies.Assertions r s
    both p q r s e f = cc
