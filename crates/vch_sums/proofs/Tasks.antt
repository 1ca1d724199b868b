-- The numbers of the tasks, where one rises or falls.
use Rattle.std.proofs.Common.{◌≡◌, ◌≢◌, ℕ, ◌+◌, ◌-◌, ◌≤◌, Bool, List, refl, true, false, arith, sym, ap, ◌∙◌}
use Rattle.std.specs.Prelude.{if◌then◌else◌, ◌==◌}
use Rattle.vch_base.specs.Tasks.{at_task, set_task}
use Rattle.vch_base.proofs.CallerLemmas.{as_long, own_item, other_items}
use Rattle.vch_legal.proofs.CallerLemmas.{number_eq}
use Rattle.vch_sums.specs.declared.row.Share.{Share}
use Rattle.vch_sums.specs.declared.row.Share.TheVariants as shares
use Rattle.vch_sums.specs.Summed.{AreOf}
use Rattle.vch_sums.specs.Steps.{raised, lowered, held_more, held_less, out_more, out_less}

set_of : (tasks : ℕ) (counts : List ℕ) (f g : ℕ → ℕ) (u x : ℕ) → AreOf tasks counts f
    → ((t : ℕ) → 1 ≤ t → t ≤ tasks → (if u == t then x else f t) ≡ g t) → AreOf tasks (set_task counts u x) g
set_of tasks counts f g u x h e = record {
  long = as_long counts u x ∙ h.long;
  each = λ t a b. by_test t a b (u == t) refl (e t a b);
}
  where
    unlike : (a b : ℕ) → (a == b) ≡ false → b ≢ a
    unlike a b i j = grind (arith, i, j)

    by_test : (t : ℕ) → 1 ≤ t → t ≤ tasks → (b : Bool) → (u == t) ≡ b → (if b then x else f t) ≡ g t
        → at_task (set_task counts u x) t 0 ≡ g t
    by_test t a b true i j =
        let same : t ≡ u = sym (number_eq u t i) in
        ap (λ v. at_task (set_task counts u x) v 0) same
        ∙ (own_item counts u x 0 (omega (arith, a, same)) (let l = h.long in omega (arith, b, same, l)) ∙ j)
    by_test t a b false i j = other_items counts u t x 0 (unlike u t i) ∙ (h.each t a b ∙ j)

pub raised_of : (tasks : ℕ) (counts : List ℕ) (f g : ℕ → ℕ) (u n : ℕ) → AreOf tasks counts f
    → ((t : ℕ) → g t ≡ f t + (if u == t then n else 0)) → AreOf tasks (raised counts u n) g
raised_of tasks counts f g u n h e = set_of tasks counts f g u (at_task counts u 0 + n) h
    (λ t a b. by_test t a b (u == t) refl (e t))
  where
    by_test : (t : ℕ) → 1 ≤ t → t ≤ tasks → (b : Bool) → (u == t) ≡ b → g t ≡ f t + (if b then n else 0)
        → (if b then at_task counts u 0 + n else f t) ≡ g t
    by_test t a b true i j =
        let same : u ≡ t = number_eq u t i in
        ap (λ v. at_task counts v 0 + n) same ∙ (ap (λ k. k + n) (h.each t a b) ∙ sym j)
    by_test t a b false i j = omega (arith, j)

pub lowered_of : (tasks : ℕ) (counts : List ℕ) (f g : ℕ → ℕ) (u n : ℕ) → AreOf tasks counts f
    → ((t : ℕ) → f t ≡ g t + (if u == t then n else 0)) → AreOf tasks (lowered counts u n) g
lowered_of tasks counts f g u n h e = set_of tasks counts f g u (at_task counts u 0 - n) h
    (λ t a b. by_test t a b (u == t) refl (e t))
  where
    by_test : (t : ℕ) → 1 ≤ t → t ≤ tasks → (b : Bool) → (u == t) ≡ b → f t ≡ g t + (if b then n else 0)
        → (if b then at_task counts u 0 - n else f t) ≡ g t
    by_test t a b true i j =
        let same : u ≡ t = number_eq u t i in
        ap (λ v. at_task counts v 0 - n) same ∙ (ap (λ k. k - n) (h.each t a b) ∙ (let k = j in omega (arith, k)))
    by_test t a b false i j = omega (arith, j)

pub same_of : (tasks : ℕ) (counts : List ℕ) (f g : ℕ → ℕ) → AreOf tasks counts f → ((t : ℕ) → g t ≡ f t) → AreOf tasks counts g
same_of tasks counts f g h e = record { long = h.long; each = λ t a b. h.each t a b ∙ sym (e t) }

-- What an amount of a share is for a task: for the last task of a list, or for the first.

abbrev pub last_part : ℕ → Share → ℕ → ℕ
last_part t (shares.List first last donor) n = if last == t then n else 0
last_part t (shares.Account holder) n = 0
last_part t shares.Other n = 0

abbrev pub first_part : ℕ → Share → ℕ → ℕ
first_part t (shares.List first last donor) n = if first == t then n else 0
first_part t (shares.Account holder) n = 0
first_part t shares.Other n = 0

none_more : (a b : ℕ) → a ≡ b + 0 → a ≡ b
none_more a b e = omega (arith, e)

none_less : (a b : ℕ) → a ≡ b + 0 → b ≡ a
none_less a b e = omega (arith, e)

pub held_more_of : (tasks : ℕ) (counts : List ℕ) (f g : ℕ → ℕ) (s : Share) (n : ℕ) → AreOf tasks counts f
    → ((t : ℕ) → g t ≡ f t + last_part t s n) → AreOf tasks (held_more s n counts) g
held_more_of tasks counts f g (shares.List first last donor) n h e = raised_of tasks counts f g last n h e
held_more_of tasks counts f g (shares.Account holder) n h e = same_of tasks counts f g h (λ t. none_more _ _ (e t))
held_more_of tasks counts f g shares.Other n h e = same_of tasks counts f g h (λ t. none_more _ _ (e t))

pub held_less_of : (tasks : ℕ) (counts : List ℕ) (f g : ℕ → ℕ) (s : Share) (n : ℕ) → AreOf tasks counts f
    → ((t : ℕ) → f t ≡ g t + last_part t s n) → AreOf tasks (held_less s n counts) g
held_less_of tasks counts f g (shares.List first last donor) n h e = lowered_of tasks counts f g last n h e
held_less_of tasks counts f g (shares.Account holder) n h e = same_of tasks counts f g h (λ t. none_less _ _ (e t))
held_less_of tasks counts f g shares.Other n h e = same_of tasks counts f g h (λ t. none_less _ _ (e t))

pub out_more_of : (tasks : ℕ) (counts : List ℕ) (f g : ℕ → ℕ) (s : Share) (n : ℕ) → AreOf tasks counts f
    → ((t : ℕ) → g t ≡ f t + first_part t s n) → AreOf tasks (out_more s n counts) g
out_more_of tasks counts f g (shares.List first last donor) n h e = raised_of tasks counts f g first n h e
out_more_of tasks counts f g (shares.Account holder) n h e = same_of tasks counts f g h (λ t. none_more _ _ (e t))
out_more_of tasks counts f g shares.Other n h e = same_of tasks counts f g h (λ t. none_more _ _ (e t))

pub out_less_of : (tasks : ℕ) (counts : List ℕ) (f g : ℕ → ℕ) (s : Share) (n : ℕ) → AreOf tasks counts f
    → ((t : ℕ) → f t ≡ g t + first_part t s n) → AreOf tasks (out_less s n counts) g
out_less_of tasks counts f g (shares.List first last donor) n h e = lowered_of tasks counts f g first n h e
out_less_of tasks counts f g (shares.Account holder) n h e = same_of tasks counts f g h (λ t. none_less _ _ (e t))
out_less_of tasks counts f g shares.Other n h e = same_of tasks counts f g h (λ t. none_less _ _ (e t))
