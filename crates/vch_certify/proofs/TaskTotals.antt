-- The totals of all tasks, one by one.
use Rattle.std.proofs.Common.{◌≡◌, ◌⊎◌, inl, inr, ℕ, zero, suc, ◌+◌, ◌-◌, ◌≤◌, ◌<◌, List, [], ◌∷◌, refl, sym, ap, ◌∙◌, subst, arith, length, slice_get, Option, Some, None}
use Rattle.vch_base.specs.declared.flags.Flags.{Flags}
use Rattle.vch_model.specs.Text.{totals_from, totals_of}
use Rattle.vch_model.specs.declared.entry.Entry.{Entry}
use Rattle.vch_model.specs.declared.lists.Scenario.{Scenario}
use Rattle.vch_model.specs.declared.total.Total.{Total}
use Rattle.vch_certify.specs.Endings.{total_of}
use Rattle.vch_certify.specs.Verdicts.{IsFirstOther}

-- the two lists agree below a place
abbrev pub AgreeBelow : List Total → List Total → ℕ → Type 0
AgreeBelow told wanted i = (j : ℕ) → j < i → slice_get told j ≡ slice_get wanted j

totals_at : (sc : Scenario) (past : List Entry) (t i : ℕ) (flags : List Flags) → i < length flags
    → slice_get (totals_from sc past t flags) i ≡ Some (total_of sc past (t + i))
totals_at sc past t i [] l = absurd (omega (arith, l))
totals_at sc past t zero (f ∷ flags) l = ap (λ n. Some (total_of sc past n)) (let e : t ≡ t + 0 = omega arith in e)
totals_at sc past t (suc i) (f ∷ flags) l =
    totals_at sc past (t + 1) i flags (omega (arith, l)) ∙ ap (λ n. Some (total_of sc past n)) (let e : t + 1 + i ≡ t + suc i = omega arith in e)

totals_long : (sc : Scenario) (past : List Entry) (t : ℕ) (flags : List Flags) → length (totals_from sc past t flags) ≡ length flags
totals_long sc past t [] = refl
totals_long sc past t (f ∷ flags) = ap suc (totals_long sc past (t + 1) flags)

-- the total of the task behind a place
pub task_total : (sc : Scenario) (past : List Entry) (i task : ℕ) → i < length sc.flags → task ≡ i + 1
    → slice_get (totals_of sc past) i ≡ Some (total_of sc past task)
task_total sc past i task l e = totals_at sc past 1 i sc.flags l
    ∙ ap (λ n. Some (total_of sc past n)) (let q : 1 + i ≡ task = omega (arith, e) in q)

pub none_behind : {A : Type 0} (xs : List A) (i : ℕ) → length xs ≤ i → slice_get xs i ≡ None
none_behind [] i l = refl
none_behind (x ∷ xs) zero l = absurd (omega (arith, l))
none_behind (x ∷ xs) (suc i) l = none_behind xs i (omega (arith, l))

some_within : {A : Type 0} (xs : List A) (i : ℕ) → i < length xs → slice_get xs i ≡ None → ⊥
some_within [] i l e = absurd (omega (arith, l))
some_within (x ∷ xs) zero l e = cc
some_within (x ∷ xs) (suc i) l e = some_within xs i (omega (arith, l)) e

some_total : (a b : Total) → Some a ≡ Some b → a ≡ b
some_total a b e = cc

no_total : (a : Total) → ◌≡◌ {A = Option Total} None (Some a) → ⊥
no_total a e = cc

below : (told wanted : List Total) (i task : ℕ) → task ≡ i + 1 → AgreeBelow told wanted i → (t : ℕ) → 1 ≤ t → t < task
    → slice_get told (t - 1) ≡ slice_get wanted (t - 1)
below told wanted i task e h t some l = h (t - 1) (omega (arith, e, some, l))

other : (told wanted : List Total) (i task : ℕ) → task ≡ i + 1 → AgreeBelow told wanted i
    → (slice_get told i ≡ slice_get wanted i → ⊥) → IsFirstOther told wanted task
other told wanted i task e h differ = record {
  some = omega (arith, e);
  here = λ q. differ (subst (λ n. slice_get told n ≡ slice_get wanted n) (let p : task - 1 ≡ i = omega (arith, e) in p) q);
  lower = below told wanted i task e h;
}

module _ (sc : Scenario) (past : List Entry) (told : List Total) where
  -- a total is missing, or another
  pub is_wrong : (i : ℕ) → i < length sc.flags → AgreeBelow told (totals_of sc past) i
      → (slice_get told i ≡ Some (total_of sc past (i + 1)) → ⊥) → IsFirstOther told (totals_of sc past) (i + 1)
  is_wrong i l h differ = other told (totals_of sc past) i (i + 1) refl h (λ q. differ (q ∙ task_total sc past i (i + 1) l refl))

  -- there is one too many
  pub is_extra : (task : ℕ) → task ≡ length sc.flags + 1 → AgreeBelow told (totals_of sc past) (length sc.flags) → length sc.flags < length told
      → IsFirstOther told (totals_of sc past) task
  is_extra task e h m = other told (totals_of sc past) (length sc.flags) task e h
      (λ q. some_within told (length sc.flags) m (q ∙ none_behind (totals_of sc past) (length sc.flags)
      (let n = totals_long sc past 1 sc.flags in omega (arith, n))))

  -- a total is right
  pub agree_more : (i : ℕ) → i < length sc.flags → AgreeBelow told (totals_of sc past) i
      → slice_get told i ≡ Some (total_of sc past (i + 1)) → AgreeBelow told (totals_of sc past) (i + 1)
  agree_more i l h s = λ j m. by_place j (at_most i j m)
    where
      at_most : (i j : ℕ) → j < i + 1 → (j < i) ⊎ (j ≡ i)
      at_most i j m = grind arith

      by_place : (j : ℕ) → (j < i) ⊎ (j ≡ i) → slice_get told j ≡ slice_get (totals_of sc past) j
      by_place j (inl m) = h j m
      by_place j (inr q) = subst (λ n. slice_get told n ≡ slice_get (totals_of sc past) n) (sym q) (s ∙ sym (task_total sc past i (i + 1) l refl))

  -- all are right
  pub all_agree : AgreeBelow told (totals_of sc past) (length sc.flags) → length told ≤ length sc.flags → told ≡ totals_of sc past
  all_agree h m = same_lists told (totals_of sc past) (length sc.flags) m
      (let n = totals_long sc past 1 sc.flags in omega (arith, n)) h
    where
      same_lists : (xs ys : List Total) (n : ℕ) → length xs ≤ n → length ys ≡ n → AgreeBelow xs ys n → xs ≡ ys
      same_lists [] [] n l k h = refl
      same_lists [] (y ∷ ys) n l k h = absurd (no_total y (h 0 (omega (arith, k))))
      same_lists (x ∷ xs) [] n l k h = absurd (omega (arith, l, k))
      same_lists (x ∷ xs) (y ∷ ys) zero l k h = absurd (omega (arith, k))
      same_lists (x ∷ xs) (y ∷ ys) (suc n) l k h =
          let p : x ≡ y = some_total x y (h 0 (omega arith)) in
          let q : xs ≡ ys = same_lists xs ys n (omega (arith, l)) (omega (arith, k)) (λ j m. h (suc j) (omega (arith, m))) in
          cc
