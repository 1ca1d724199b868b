-- Sums over the tasks, where one task is replaced or changed.
use Rattle.std.proofs.Common.{◌≡◌, ◌≢◌, ℕ, zero, suc, ◌+◌, ◌≤◌, List, [], ◌∷◌, refl, arith, sym, subst, length, get_or}
use Rattle.std.proofs.Math.ListN.{set}
use Rattle.vch_base.specs.Tasks.{at_task, set_task}
use Rattle.vch_bounds.specs.Sums.{sum_tasks}

module _ {A : Type 0} (f : ℕ → A → ℕ) where
  none_behind : (u : ℕ) → u + 0 ≡ u
  none_behind u = omega arith

  one_behind : (u i : ℕ) → u + suc i ≡ u + 1 + i
  one_behind u i = omega arith

  set_from : (xs : List A) (u i : ℕ) (x d : A) (a b : ℕ) → f (u + i) d ≡ 0
      → f (u + i) x + a ≤ f (u + i) (get_or xs i d) + b → sum_tasks f u (set xs i x) + a ≤ sum_tasks f u xs + b
  set_from [] u i x d a b e h = omega (arith, e, h)
  set_from (y ∷ xs) u zero x d a b e h =
      let g : f u x + a ≤ f u y + b = subst (λ k. f k x + a ≤ f k y + b) (none_behind u) h in
      over (f u x) (f u y) (sum_tasks f (u + 1) xs) g
    where
      over : (p q r : ℕ) → p + a ≤ q + b → p + r + a ≤ q + r + b
      over p q r g = omega arith
  set_from (y ∷ xs) u (suc i) x d a b e h =
      over (f u y) _ _ (set_from xs (u + 1) i x d a b (subst (λ k. f k d ≡ 0) (one_behind u i) e)
      (subst (λ k. f k x + a ≤ f k (get_or xs i d) + b) (one_behind u i) h))
    where
      over : (p q r : ℕ) → q + a ≤ r + b → p + q + a ≤ p + r + b
      over p q r g = omega arith

  -- one task is replaced, where there is such a task
  pub set_sum : (xs : List A) (t : ℕ) (x d : A) (a b : ℕ) → f t d ≡ 0 → f t x + a ≤ f t (at_task xs t d) + b
      → sum_tasks f 1 (set_task xs t x) + a ≤ sum_tasks f 1 xs + b
  set_sum xs zero x d a b e h = less _ _ (f 0 x) e h
    where
      less : (p q r : ℕ) → p ≡ 0 → r + a ≤ p + b → q + a ≤ q + b
      less p q r e h = omega arith
  set_sum xs (suc i) x d a b e h =
      set_from xs 1 i x d a b (subst (λ k. f k d ≡ 0) (number i) e)
      (subst (λ k. f k x + a ≤ f k (get_or xs i d) + b) (number i) h)
    where
      number : (i : ℕ) → suc i ≡ 1 + i
      number i = omega arith

  changed_from : (xs ys : List A) (u i : ℕ) (d : A) → length ys ≡ length xs
      → ((j : ℕ) → j ≢ i → f (u + j) (get_or ys j d) ≡ f (u + j) (get_or xs j d))
      → sum_tasks f u ys + f (u + i) (get_or xs i d) ≡ sum_tasks f u xs + f (u + i) (get_or ys i d)
  changed_from [] [] u i d e h = refl
  changed_from [] (y ∷ ys) u i d e h = absurd (omega (arith, e))
  changed_from (x ∷ xs) [] u i d e h = absurd (omega (arith, e))
  changed_from (x ∷ xs) (y ∷ ys) u zero d e h =
      subst (λ k. f u y + sum_tasks f (u + 1) ys + f k x ≡ f u x + sum_tasks f (u + 1) xs + f k y) (sym (none_behind u))
      (over (f u x) (f u y) _ _ (all_same xs ys (u + 1) (one_less e)
      (λ j. subst (λ k. f k (get_or ys j d) ≡ f k (get_or xs j d)) (one_behind u j) (h (suc j) (λ g. absurd (omega (arith, g)))))))
    where
      over : (p q r s : ℕ) → r ≡ s → q + r + p ≡ p + s + q
      over p q r s g = omega arith

      one_less : suc (length ys) ≡ suc (length xs) → length ys ≡ length xs
      one_less g = omega arith

      all_same : (xs ys : List A) (u : ℕ) → length ys ≡ length xs
          → ((j : ℕ) → f (u + j) (get_or ys j d) ≡ f (u + j) (get_or xs j d)) → sum_tasks f u ys ≡ sum_tasks f u xs
      all_same [] [] u e h = refl
      all_same [] (y ∷ ys) u e h = absurd (omega (arith, e))
      all_same (x ∷ xs) [] u e h = absurd (omega (arith, e))
      all_same (x ∷ xs) (y ∷ ys) u e h =
          let a : f u y ≡ f u x = subst (λ k. f k y ≡ f k x) (none_behind u) (h 0) in
          let b : sum_tasks f (u + 1) ys ≡ sum_tasks f (u + 1) xs = all_same xs ys (u + 1) (omega (arith, e))
          (λ j. subst (λ k. f k (get_or ys j d) ≡ f k (get_or xs j d)) (one_behind u j) (h (suc j))) in
          omega (arith, a, b)
  changed_from (x ∷ xs) (y ∷ ys) u (suc i) d e h =
      let a : f u y ≡ f u x = subst (λ k. f k y ≡ f k x) (none_behind u) (h 0 (λ g. absurd (omega (arith, g)))) in
      let b : sum_tasks f (u + 1) ys + f (u + 1 + i) (get_or xs i d) ≡ sum_tasks f (u + 1) xs + f (u + 1 + i) (get_or ys i d) =
      changed_from xs ys (u + 1) i d (omega (arith, e))
      (λ j g. subst (λ k. f k (get_or ys j d) ≡ f k (get_or xs j d)) (one_behind u j) (h (suc j) (λ k. g (back j i k)))) in
      subst (λ k. f u y + sum_tasks f (u + 1) ys + f k (get_or xs i d) ≡ f u x + sum_tasks f (u + 1) xs + f k (get_or ys i d))
      (sym (one_behind u i)) (over (f u x) (f u y) _ _ _ _ a b)
    where
      over : (p q r s v w : ℕ) → q ≡ p → r + v ≡ s + w → q + r + v ≡ p + s + w
      over p q r s v w a b = omega arith

      back : (j i : ℕ) → suc j ≡ suc i → j ≡ i
      back j i k = omega arith

  -- one task is changed, and the others count as before
  pub sum_changed : (xs ys : List A) (t : ℕ) (d : A) → 1 ≤ t → length ys ≡ length xs
      → ((u : ℕ) → u ≢ t → f u (at_task ys u d) ≡ f u (at_task xs u d))
      → sum_tasks f 1 ys + f t (at_task xs t d) ≡ sum_tasks f 1 xs + f t (at_task ys t d)
  sum_changed xs ys zero d l e h = absurd (omega (arith, l))
  sum_changed xs ys (suc i) d l e h =
      subst (λ k. sum_tasks f 1 ys + f k (get_or xs i d) ≡ sum_tasks f 1 xs + f k (get_or ys i d)) (number i)
      (changed_from xs ys 1 i d e
      (λ j g. subst (λ k. f k (get_or ys j d) ≡ f k (get_or xs j d)) (sym (number j)) (h (suc j) (λ k. g (back j i k)))))
    where
      number : (i : ℕ) → 1 + i ≡ suc i
      number i = omega arith

      back : (j i : ℕ) → suc j ≡ suc i → j ≡ i
      back j i k = omega arith

  -- one task counts for no more than all
  pub one_of_all : (xs : List A) (t : ℕ) (d : A) → f t d ≡ 0 → f t (at_task xs t d) ≤ sum_tasks f 1 xs
  one_of_all xs zero d e = omega (arith, e)
  one_of_all xs (suc i) d e = subst (λ k. f k (get_or xs i d) ≤ sum_tasks f 1 xs) (number i)
      (from_place xs 1 i (subst (λ k. f k d ≡ 0) (sym (number i)) e))
    where
      number : (i : ℕ) → 1 + i ≡ suc i
      number i = omega arith

      from_place : (xs : List A) (u i : ℕ) → f (u + i) d ≡ 0 → f (u + i) (get_or xs i d) ≤ sum_tasks f u xs
      from_place [] u i e = omega (arith, e)
      from_place (x ∷ xs) u zero e = subst (λ k. f k x ≤ f u x + sum_tasks f (u + 1) xs) (sym (none_behind u)) (omega arith)
      from_place (x ∷ xs) u (suc i) e =
          let r = from_place xs (u + 1) i (subst (λ k. f k d ≡ 0) (one_behind u i) e) in
          subst (λ k. f k (get_or xs i d) ≤ f u x + sum_tasks f (u + 1) xs) (sym (one_behind u i)) (omega (arith, r))

-- a sum that is at most another, task by task
pub no_more : {A : Type 0} (f g : ℕ → A → ℕ) → ((t : ℕ) (x : A) → f t x ≤ g t x) → (xs : List A) (t : ℕ)
    → sum_tasks f t xs ≤ sum_tasks g t xs
no_more f g h [] t = omega arith
no_more f g h (x ∷ xs) t = let a = h t x in let b = no_more f g h xs (t + 1) in omega (arith, a, b)
