-- Counts, when an item comes or goes somewhere in the list.
use Rattle.std.proofs.Common.{◌≡◌, ℕ, ◌+◌, ◌<◌, ◌≤◌, Bool, List, [], ◌∷◌, ◌++◌, refl, true, false, arith, ap, sym, ◌∙◌, Some, None, Option, cond, ◌||◌}
use Rattle.std.specs.Prelude.{if◌then◌else◌, nat_lt, is_some, IsSome, ◌-◌}
use Rattle.std.proofs.lemmas.Grind.{common_steps}
use Rattle.std.proofs.lemmas.List.Sums.{sum_by-cons}
use Rattle.std.specs.Cmp.{IsEquivalence}
use Rattle.std.specs.List.{list_any, count_by}
use Rattle.std.specs.Map.{count_at}
use Rattle.std.specs.Option.{unwrap_or}
use Rattle.indexmap.specs.IndexMap.{IndexMap, get, index_map_len}
use Rattle.vch_books.specs.Counts.{different_by, Counts}

module _ {A : Type 0} where
  -- the count of a longer list
  pub one_longer : (p : A → Bool) (x : A) (xs : List A) → count_by p (x ∷ xs) ≡ cond (p x) 1 0 + count_by p xs
  one_longer p x xs = sum_by-cons (λ y. cond (p y) 1 0) x xs

  pub count_middle : (p : A → Bool) (front back : List A) (x : A) → count_by p (front ++ x ∷ back) ≡ cond (p x) 1 0 + count_by p (front ++ back)
  count_middle p [] back x = one_longer p x back
  count_middle p (y ∷ front) back x =
      one_longer p y (front ++ x ∷ back)
      ∙ (ap (λ n. cond (p y) 1 0 + n) (count_middle p front back x)
      ∙ (turned (cond (p y) 1 0) (cond (p x) 1 0) (count_by p (front ++ back)) ∙ ap (λ n. cond (p x) 1 0 + n) (sym (one_longer p y (front ++ back)))))
    where
      turned : (a b c : ℕ) → a + (b + c) ≡ b + (a + c)
      turned a b c = omega arith

  pub any_middle : (p : A → Bool) (front back : List A) (x : A) → list_any p (front ++ x ∷ back) ≡ (p x || list_any p (front ++ back))
  any_middle p [] back x = refl
  any_middle p (y ∷ front) back x = ap (λ b. p y || b) (any_middle p front back x) ∙ turned (p y) (p x) (list_any p (front ++ back))
    where
      turned : (a b c : Bool) → (a || (b || c)) ≡ (b || (a || c))
      turned true true c = refl
      turned true false c = refl
      turned false b c = refl

  pub any_alike : (p q : A → Bool) (xs : List A) → ((x : A) → p x ≡ q x) → list_any p xs ≡ list_any q xs
  any_alike p q [] f = refl
  any_alike p q (x ∷ xs) f = rw (f x, any_alike p q xs f) refl

  count_alike : (p q : A → Bool) (xs : List A) → ((x : A) → p x ≡ q x) → count_by p xs ≡ count_by q xs
  count_alike p q [] f = refl
  count_alike p q (x ∷ xs) f =
      one_longer p x xs ∙ (ap (λ b. cond b 1 0 + count_by p xs) (f x) ∙ (ap (λ n. cond (q x) 1 0 + n) (count_alike p q xs f) ∙ sym (one_longer q x xs)))

  -- an item is there exactly where its count is above 0
  pub any_count : (p : A → Bool) (xs : List A) → list_any p xs ≡ nat_lt 0 (count_by p xs)
  any_count p [] = refl
  any_count p (x ∷ xs) = by (p x) (any_count p xs) ∙ ap (nat_lt 0) (sym (one_longer p x xs))
    where
      more : (n : ℕ) → true ≡ nat_lt 0 (1 + n)
      more n = grind (arith, common_steps)

      plain : (n : ℕ) → n ≡ 0 + n
      plain n = omega arith

      by : (b : Bool) → list_any p xs ≡ nat_lt 0 (count_by p xs) → (b || list_any p xs) ≡ nat_lt 0 (cond b 1 0 + count_by p xs)
      by true e = more (count_by p xs)
      by false e = e ∙ ap (nat_lt 0) (plain (count_by p xs))

module _ {A : Type 0} (eq : A → A → Bool) (laws : IsEquivalence eq) where
  pub different_middle : (front back : List A) (x : A) → different_by eq (front ++ x ∷ back) ≡ (if list_any (eq x) (front ++ back) then 0 else 1) + different_by eq (front ++ back)
  different_middle [] back x = refl
  different_middle (y ∷ front) back x =
      ap (λ b. (if b then 0 else 1) + different_by eq (front ++ x ∷ back)) (any_middle (eq y) front back x)
      ∙ (ap (λ n. (if (eq y x || list_any (eq y) (front ++ back)) then 0 else 1) + n) (different_middle front back x)
      ∙ (ap (λ b. (if (b || list_any (eq y) (front ++ back)) then 0 else 1) + ((if list_any (eq x) (front ++ back) then 0 else 1) + different_by eq (front ++ back))) (laws.symm y x)
      ∙ turned (eq x y) (list_any (eq y) (front ++ back)) (list_any (eq x) (front ++ back)) (different_by eq (front ++ back))
      (λ e. sym (any_alike (eq x) (eq y) (front ++ back) (λ z. laws.congr x y z e)))))
    where
      swap : (n : ℕ) → 0 + (1 + n) ≡ 1 + (0 + n)
      swap n = omega arith

      turned : (b p q : Bool) (n : ℕ) → (b ≡ true → p ≡ q) → (if (b || p) then 0 else 1) + ((if q then 0 else 1) + n) ≡ (if (b || q) then 0 else 1) + ((if p then 0 else 1) + n)
      turned true p q n f = ap (λ c. 0 + ((if c then 0 else 1) + n)) (sym (f refl))
      turned false true true n f = refl
      turned false true false n f = swap n
      turned false false true n f = sym (swap n)
      turned false false false n f = refl

  some_above : (w : Option ℕ) → ((k : ℕ) → w ≡ Some k → 0 < k) → is_some w ≡ nat_lt 0 (unwrap_or w 0)
  some_above None f = refl
  some_above (Some n) f = above n (f n refl)
    where
      above : (n : ℕ) → 0 < n → true ≡ nat_lt 0 n
      above n l = grind (arith, common_steps)

  same_count : (xs : List A) (x q : A) → eq x q ≡ true → count_by (eq x) xs ≡ count_by (eq q) xs
  same_count xs x q e = count_alike (eq x) (eq q) xs (λ y. laws.congr x q y e)

  module _ {S : Type 0} where
    -- an item is there exactly where it has a count
    pub there_is : (m : IndexMap A ℕ S) (xs : List A) (x : A) → Counts eq m xs → is_some (get eq m x) ≡ list_any (eq x) xs
    there_is m xs x c = by (get eq m x) refl ∙ sym (any_count (eq x) xs)
      where
        above : (n : ℕ) → 0 < n → true ≡ nat_lt 0 n
        above n l = grind (arith, common_steps)

        by : (o : Option ℕ) → get eq m x ≡ o → is_some o ≡ nat_lt 0 (count_by (eq x) xs)
        by None e = let z : 0 ≡ count_by (eq x) xs = sym (ap (λ (i : Option ℕ). unwrap_or i 0) e) ∙ c.times x in ap (nat_lt 0) z
        by (Some n) e = let z : n ≡ count_by (eq x) xs = sym (ap (λ (i : Option ℕ). unwrap_or i 0) e) ∙ c.times x in above n (c.some x n e) ∙ ap (nat_lt 0) z

    -- each other count stays
    kept : (m m2 : IndexMap A ℕ S) (x : A) (w : Option ℕ) → ((k : ℕ) → w ≡ Some k → 0 < k) → ((y : A) (n : ℕ) → get eq m y ≡ Some n → 0 < n)
        → ((q : A) → get eq m2 q ≡ cond (eq x q) w (get eq m q)) → (y : A) (n : ℕ) → get eq m2 y ≡ Some n → 0 < n
    kept m m2 x w f g u y n e = by (eq x y) (sym (u y) ∙ e)
      where
        by : (b : Bool) → cond b w (get eq m y) ≡ Some n → 0 < n
        by true e = f n e
        by false e = g y n e

    -- a count that was lent and not changed
    pub unwritten : (m m2 : IndexMap A ℕ S) (xs : List A) (x : A) (n : ℕ) → Counts eq m xs → Some n ≡ get eq m x → ((q : A) → get eq m2 q ≡ cond (eq x q) (Some n) (get eq m q)) → index_map_len m2 ≡ index_map_len m → Counts eq m2 xs
    unwritten m m2 xs x n c there u long = record {
      times = λ q. ap (λ (i : Option ℕ). unwrap_or i 0) (u q) ∙ by q (eq x q) refl;
      some = kept m m2 x (Some n) (λ k e. c.some x k (sym there ∙ e)) c.some u;
      many = long ∙ c.many;
    }
      where
        by : (q : A) (b : Bool) → eq x q ≡ b → unwrap_or (cond b (Some n) (get eq m q)) 0 ≡ count_by (eq q) xs
        by q true e = ap (λ (i : Option ℕ). unwrap_or i 0) there ∙ (c.times x ∙ same_count xs x q e)
        by q false e = c.times q

    pub added : (m m2 : IndexMap A ℕ S) (front back : List A) (x : A) (n : ℕ) → Counts eq m (front ++ back) → n ≡ count_at (get eq m) x + 1
        → ((q : A) → get eq m2 q ≡ cond (eq x q) (Some n) (get eq m q)) → index_map_len m2 ≡ index_map_len m + (if is_some (get eq m x) then 0 else 1) → Counts eq m2 (front ++ x ∷ back)
    added m m2 front back x n c more u long = record {
      times = λ q. ap (λ (i : Option ℕ). unwrap_or i 0) (u q) ∙ (by q (eq x q) refl ∙ sym (count_middle (eq q) front back x));
      some = kept m m2 x (Some n) (λ k e. above k (own k e)) c.some u;
      many = long ∙ (ap (λ b. index_map_len m + (if b then 0 else 1)) (there_is m (front ++ back) x c)
          ∙ (turned (index_map_len m) _ (different_by eq (front ++ back)) c.many ∙ sym (different_middle front back x)));
    }
      where
        turned : (a b d : ℕ) → a ≡ d → a + b ≡ b + d
        turned a b d e = omega (arith, e)

        own : (k : ℕ) → Some n ≡ Some k → k ≡ count_at (get eq m) x + 1
        own k e = let z : n ≡ k = cc in sym z ∙ more

        above : (k : ℕ) → k ≡ count_at (get eq m) x + 1 → 0 < k
        above k e = omega (arith, e)

        one : (k : ℕ) → k + 1 ≡ 1 + k
        one k = omega arith

        plain : (k : ℕ) → k ≡ 0 + k
        plain k = omega arith

        by : (q : A) (b : Bool) → eq x q ≡ b → unwrap_or (cond b (Some n) (get eq m q)) 0 ≡ cond (eq q x) 1 0 + count_by (eq q) (front ++ back)
        by q true e = rw (laws.symm q x, e) (more ∙ (ap (λ k. k + 1) (c.times x ∙ same_count (front ++ back) x q e) ∙ one (count_by (eq q) (front ++ back))))
        by q false e = rw (laws.symm q x, e) (c.times q ∙ plain (count_by (eq q) (front ++ back)))

    pub removed : (m m2 : IndexMap A ℕ S) (front back : List A) (x : A) (w : Option ℕ) → Counts eq m (front ++ x ∷ back) → unwrap_or w 0 + 1 ≡ count_at (get eq m) x → ((k : ℕ) → w ≡ Some k → 0 < k)
        → ((q : A) → get eq m2 q ≡ cond (eq x q) w (get eq m q)) → index_map_len m2 + (if is_some w then 0 else 1) ≡ index_map_len m → Counts eq m2 (front ++ back)
    removed m m2 front back x w c less some u long = record {
      times = λ q. ap (λ (i : Option ℕ). unwrap_or i 0) (u q) ∙ by q (eq x q) refl;
      some = kept m m2 x w some c.some u;
      many = fewer (index_map_len m2) _ (different_by eq (front ++ back))
          (long ∙ (c.many ∙ (different_middle front back x ∙ ap (λ b. (if b then 0 else 1) + different_by eq (front ++ back)) there)));
    }
      where
        fewer : (a b d : ℕ) → a + b ≡ b + d → a ≡ d
        fewer a b d e = omega (arith, e)

        back_one : (a b : ℕ) → a + 1 ≡ 1 + b → a ≡ b
        back_one a b e = omega (arith, e)

        own : unwrap_or w 0 ≡ count_by (eq x) (front ++ back)
        own = back_one _ _ (less ∙ (c.times x ∙ (count_middle (eq x) front back x ∙ ap (λ b. cond b 1 0 + count_by (eq x) (front ++ back)) (laws.refl x))))

        there : list_any (eq x) (front ++ back) ≡ is_some w
        there = any_count (eq x) (front ++ back) ∙ (ap (nat_lt 0) (sym own) ∙ sym (some_above w some))

        plain : (a : ℕ) → 0 + a ≡ a
        plain a = omega arith

        by : (q : A) (b : Bool) → eq x q ≡ b → unwrap_or (cond b w (get eq m q)) 0 ≡ count_by (eq q) (front ++ back)
        by q true e = own ∙ same_count (front ++ back) x q e
        by q false e = c.times q ∙ (count_middle (eq q) front back x ∙ (ap (λ b. cond b 1 0 + count_by (eq q) (front ++ back)) (laws.symm q x ∙ e) ∙ plain (count_by (eq q) (front ++ back))))

    once : (m : IndexMap A ℕ S) (front back : List A) (x : A) → Counts eq m (front ++ x ∷ back) → is_some (get eq m x) ≡ true
    once m front back x c = there_is m (front ++ x ∷ back) x c ∙ (any_middle (eq x) front back x ∙ ap (λ b. b || list_any (eq x) (front ++ back)) (laws.refl x))

    -- the last one of an item goes
    pub removed_last : (m m2 : IndexMap A ℕ S) (front back : List A) (x : A) (n : ℕ) → Counts eq m (front ++ x ∷ back) → n ≡ count_at (get eq m) x → n ≤ 1
        → ((q : A) → get eq m2 q ≡ cond (eq x q) None (get eq m q)) → index_map_len m2 + (if is_some (get eq m x) then 1 else 0) ≡ index_map_len m → Counts eq m2 (front ++ back)
    removed_last m m2 front back x n c is few u long =
        removed m m2 front back x None c (by (get eq m x) refl) (λ k e. absurd (cc)) u (ap (λ b. index_map_len m2 + (if b then 1 else 0)) (sym (once m front back x c)) ∙ long)
      where
        one : (n k : ℕ) → n ≤ 1 → n ≡ k → 0 < k → 0 + 1 ≡ k
        one n k p q r = omega (arith, p, q, r)

        by : (o : Option ℕ) → get eq m x ≡ o → 0 + 1 ≡ count_at (get eq m) x
        by None e = let z : true ≡ false = sym (once m front back x c) ∙ ap is_some e in absurd (cc)
        by (Some k) e = let y : count_at (get eq m) x ≡ k = ap (λ (i : Option ℕ). unwrap_or i 0) e in one n k few (is ∙ y) (c.some x k e) ∙ sym y

    -- one of several goes
    pub removed_one : (m m2 : IndexMap A ℕ S) (front back : List A) (x : A) (n : ℕ) → Counts eq m (front ++ x ∷ back) → n ≡ count_at (get eq m) x → 1 < n
        → (IsSome (get eq m x) → (q : A) → get eq m2 q ≡ cond (eq x q) (Some (n - 1)) (get eq m q)) → index_map_len m2 ≡ index_map_len m → Counts eq m2 (front ++ back)
    removed_one m m2 front back x n c is many u long =
        removed m m2 front back x (Some (n - 1)) c (less n many ∙ is) (λ k e. above n k many (own k e)) (u (once m front back x c)) (plain (index_map_len m2) ∙ long)
      where
        less : (n : ℕ) → 1 < n → n - 1 + 1 ≡ n
        less n m = omega (arith, m)

        own : (k : ℕ) → Some (n - 1) ≡ Some k → n - 1 ≡ k
        own k e = cc

        above : (n k : ℕ) → 1 < n → n - 1 ≡ k → 0 < k
        above n k m e = omega (arith, m, e)

        plain : (k : ℕ) → k + 0 ≡ k
        plain k = omega arith
