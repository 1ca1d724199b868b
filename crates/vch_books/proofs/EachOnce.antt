-- Lists that have the same items, and a list that has each of them once.
use Rattle.std.proofs.Common.{◌≡◌, ℕ, ◌+◌, Bool, List, [], ◌∷◌, ◌++◌, refl, true, false, arith, ap, sym, ◌∙◌, cond, ◌||◌}
use Rattle.std.specs.Prelude.{if◌then◌else◌, nat_lt, ◌&&◌, not}
use Rattle.std.specs.Cmp.{IsEquivalence}
use Rattle.std.specs.List.{list_any, count_by, flat_map}
use Rattle.std.proofs.lemmas.List.Folds.{list_any-append}
use Rattle.std.proofs.lemmas.List.Concat.{flat_map-cons}
use Rattle.vch_books.specs.Counts.{different_by, HasEachOnce}
use Rattle.vch_books.proofs.CountLists.{one_longer, count_middle, any_middle, any_alike, any_count}

no_true : {P : Type 0} → false ≡ true → P
no_true e = absurd (cc)

same_truth : (a b : Bool) → (a ≡ true → b ≡ true) → (b ≡ true → a ≡ true) → a ≡ b
same_truth true b f g = sym (f refl)
same_truth false true f g = g refl
same_truth false false f g = refl

or_left : (a b : Bool) → a ≡ true → (a || b) ≡ true
or_left a b e = rw e refl

or_right : (a b : Bool) → b ≡ true → (a || b) ≡ true
or_right true b e = refl
or_right false b e = e

plain : (n : ℕ) → 0 + n ≡ n
plain n = omega arith

-- a test of what the items have
pub any_flat : {A B : Type 0} (p : B → Bool) (f : A → List B) (xs : List A) → list_any p (flat_map f xs) ≡ list_any (λ x. list_any p (f x)) xs
any_flat p f [] = refl
any_flat p f (x ∷ xs) =
    ap (list_any p) (flat_map-cons f x xs) ∙ (list_any-append p (f x) (flat_map f xs) ∙ ap (λ b. list_any p (f x) || b) (any_flat p f xs))

module _ {A : Type 0} (eq : A → A → Bool) (laws : IsEquivalence eq) where
  alike_any : (xs : List A) (x z : A) → eq x z ≡ true → list_any (eq x) xs ≡ list_any (eq z) xs
  alike_any xs x z e = any_alike (eq x) (eq z) xs (λ y. laws.congr x z y e)

  itself : (x : A) (xs : List A) → list_any (eq x) (x ∷ xs) ≡ true
  itself x xs = or_left (eq x x) (list_any (eq x) xs) (laws.refl x)

  -- a test that an item equal to one of them passes
  passes : (p : A → Bool) → ((x y : A) → eq x y ≡ true → p x ≡ p y) → (x : A) (ys : List A) → p x ≡ true → list_any (eq x) ys ≡ true → list_any p ys ≡ true
  passes p f x [] e h = no_true h
  passes p f x (y ∷ ys) e h = by (eq x y) refl h (λ k. passes p f x ys e k)
    where
      by : (b : Bool) → eq x y ≡ b → (b || list_any (eq x) ys) ≡ true → (list_any (eq x) ys ≡ true → list_any p ys ≡ true) → (p y || list_any p ys) ≡ true
      by true g k next = or_left (p y) (list_any p ys) (sym (f x y g) ∙ e)
      by false g k next = or_right (p y) (list_any p ys) (next k)

  -- a test passes in a list that has all items of another
  within : (p : A → Bool) → ((x y : A) → eq x y ≡ true → p x ≡ p y) → (xs ys : List A) → ((z : A) → list_any (eq z) xs ≡ true → list_any (eq z) ys ≡ true) → list_any p xs ≡ true → list_any p ys ≡ true
  within p f [] ys all h = no_true h
  within p f (x ∷ xs) ys all h = by (p x) refl h (λ k. within p f xs ys (λ z g. all z (or_right (eq z x) (list_any (eq z) xs) g)) k)
    where
      by : (b : Bool) → p x ≡ b → (b || list_any p xs) ≡ true → (list_any p xs ≡ true → list_any p ys ≡ true) → list_any p ys ≡ true
      by true e k next = passes p f x ys e (all x (itself x xs))
      by false e k next = next k

  -- lists with the same items pass the same tests
  pub any_same : (p : A → Bool) → ((x y : A) → eq x y ≡ true → p x ≡ p y) → (xs ys : List A) → ((z : A) → list_any (eq z) xs ≡ list_any (eq z) ys) → list_any p xs ≡ list_any p ys
  any_same p f xs ys same = same_truth (list_any p xs) (list_any p ys) (within p f xs ys (λ z g. sym (same z) ∙ g)) (within p f ys xs (λ z g. same z ∙ g))

  without : A → List A → List A
  without x [] = []
  without x (y ∷ ys) = if eq x y then without x ys else y ∷ without x ys

  any_without : (x z : A) (ys : List A) → list_any (eq z) (without x ys) ≡ (not (eq x z) && list_any (eq z) ys)
  unfolding without
  any_without x z [] = by (eq x z)
    where
      by : (b : Bool) → false ≡ (not b && false)
      by true = refl
      by false = refl
  any_without x z (y ∷ ys) = by (eq x y) refl (eq x z) refl (any_without x z ys)
    where
      here : (c : Bool) → eq x y ≡ true → eq x z ≡ c → (not c && list_any (eq z) ys) ≡ (not c && (eq z y || list_any (eq z) ys))
      here true g h = refl
      here false g h = ap (λ b. b || list_any (eq z) ys) (sym (laws.symm z y ∙ (sym (laws.congr x y z g) ∙ h)))

      by : (b : Bool) → eq x y ≡ b → (c : Bool) → eq x z ≡ c → list_any (eq z) (without x ys) ≡ (not c && list_any (eq z) ys)
          → list_any (eq z) (if b then without x ys else y ∷ without x ys) ≡ (not c && (eq z y || list_any (eq z) ys))
      by true g c h k = k ∙ here c g h
      by false g true h k = ap (λ d. d || list_any (eq z) (without x ys)) (sym (laws.congr x z y h) ∙ g) ∙ k
      by false g false h k = ap (λ d. eq z y || d) k

  different_without : (x : A) (ys : List A) → different_by eq ys ≡ (if list_any (eq x) ys then 1 else 0) + different_by eq (without x ys)
  unfolding without
  different_without x [] = sym (plain 0)
  different_without x (y ∷ ys) = by (eq x y) refl (list_any (eq x) ys) refl (different_without x ys)
    where
      one : (c : Bool) (n : ℕ) → (if c then 0 else 1) + ((if c then 1 else 0) + n) ≡ 1 + n
      one true n = omega arith
      one false n = omega arith

      turned : (a b n : ℕ) → a + (b + n) ≡ b + (a + n)
      turned a b n = omega arith

      by : (b : Bool) → eq x y ≡ b → (c : Bool) → list_any (eq x) ys ≡ c → different_by eq ys ≡ (if c then 1 else 0) + different_by eq (without x ys)
          → (if list_any (eq y) ys then 0 else 1) + different_by eq ys ≡ (if (b || c) then 1 else 0) + different_by eq (if b then without x ys else y ∷ without x ys)
      by true g c h k =
          ap (λ d. (if d then 0 else 1) + different_by eq ys) (sym (alike_any ys x y g) ∙ h)
          ∙ (ap (λ n. (if c then 0 else 1) + n) k ∙ one c (different_by eq (without x ys)))
      by false g c h k =
          ap (λ n. (if list_any (eq y) ys then 0 else 1) + n) k
          ∙ (turned (if list_any (eq y) ys then 0 else 1) (if c then 1 else 0) (different_by eq (without x ys))
          ∙ ap (λ d. (if c then 1 else 0) + ((if d then 0 else 1) + different_by eq (without x ys))) (sym (any_without x y ys ∙ ap (λ d. not d && list_any (eq y) ys) g)))

  -- lists with the same items have as many different ones
  pub different_same : (xs ys : List A) → ((z : A) → list_any (eq z) xs ≡ list_any (eq z) ys) → different_by eq xs ≡ different_by eq ys
  different_same [] [] same = refl
  different_same [] (y ∷ ys) same = no_true (same y ∙ itself y ys)
  different_same (x ∷ xs) ys same = by (list_any (eq x) xs) refl (λ ls f. different_same xs ls f)
    where
      old : list_any (eq x) xs ≡ true → (z : A) (c : Bool) → eq z x ≡ c → list_any (eq z) xs ≡ (c || list_any (eq z) xs)
      old e z true g = sym (alike_any xs x z (laws.symm x z ∙ g)) ∙ e
      old e z false g = refl

      new : list_any (eq x) xs ≡ false → (z : A) (c : Bool) → eq z x ≡ c → list_any (eq z) xs ≡ (not c && list_any (eq z) ys)
      new e z true g = sym (alike_any xs x z (laws.symm x z ∙ g)) ∙ e
      new e z false g = ap (λ d. d || list_any (eq z) xs) (sym g) ∙ same z

      by : (b : Bool) → list_any (eq x) xs ≡ b → ((ls : List A) → ((z : A) → list_any (eq z) xs ≡ list_any (eq z) ls) → different_by eq xs ≡ different_by eq ls)
          → (if b then 0 else 1) + different_by eq xs ≡ different_by eq ys
      by true e next = plain (different_by eq xs) ∙ next ys (λ z. old e z (eq z x) refl ∙ same z)
      by false e next =
          ap (λ n. 1 + n) (next (without x ys) (λ z. new e z (eq z x) refl ∙ (ap (λ d. not d && list_any (eq z) ys) (laws.symm z x) ∙ sym (any_without x z ys))))
          ∙ sym (different_without x ys ∙ ap (λ d. (if d then 1 else 0) + different_by eq (without x ys)) (sym (same x) ∙ itself x xs))

  -- a list that has each item once has the same items
  pub each_any : (each xs : List A) → HasEachOnce eq each xs → (z : A) → list_any (eq z) each ≡ list_any (eq z) xs
  each_any each xs once z = any_count (eq z) each ∙ (ap (nat_lt 0) (once z) ∙ by (list_any (eq z) xs))
    where
      by : (b : Bool) → nat_lt 0 (if b then 1 else 0) ≡ b
      by true = refl
      by false = refl

  -- an item that is there comes or goes once more
  again : (front back : List A) (x : A) → list_any (eq x) (front ++ back) ≡ true → (z : A) → list_any (eq z) (front ++ x ∷ back) ≡ list_any (eq z) (front ++ back)
  again front back x e z = any_middle (eq z) front back x ∙ by (eq z x) refl
    where
      by : (c : Bool) → eq z x ≡ c → (c || list_any (eq z) (front ++ back)) ≡ list_any (eq z) (front ++ back)
      by true g = sym (sym (alike_any (front ++ back) x z (laws.symm x z ∙ g)) ∙ e)
      by false g = refl

  pub came_again : (each front back : List A) (x : A) → HasEachOnce eq each (front ++ back) → list_any (eq x) (front ++ back) ≡ true → HasEachOnce eq each (front ++ x ∷ back)
  came_again each front back x once e = λ z. once z ∙ ap (λ b. if b then 1 else 0) (sym (again front back x e z))

  pub went_again : (each front back : List A) (x : A) → HasEachOnce eq each (front ++ x ∷ back) → list_any (eq x) (front ++ back) ≡ true → HasEachOnce eq each (front ++ back)
  went_again each front back x once e = λ z. once z ∙ ap (λ b. if b then 1 else 0) (again front back x e z)

  pub came_first : (each front back : List A) (x : A) → HasEachOnce eq each (front ++ back) → list_any (eq x) (front ++ back) ≡ false → HasEachOnce eq (x ∷ each) (front ++ x ∷ back)
  came_first each front back x once e = λ z. one_longer (eq z) x each ∙ (by z (eq z x) refl ∙ ap (λ b. if b then 1 else 0) (sym (any_middle (eq z) front back x)))
    where
      by : (z : A) (c : Bool) → eq z x ≡ c → cond c 1 0 + count_by (eq z) each ≡ (if (c || list_any (eq z) (front ++ back)) then 1 else 0)
      by z true g = ap (λ n. 1 + n) (once z ∙ ap (λ b. if b then 1 else 0) (sym (alike_any (front ++ back) x z (laws.symm x z ∙ g)) ∙ e))
      by z false g = plain (count_by (eq z) each) ∙ once z

  -- where one item of a list stands
  pub record IsParted (x : A) (xs : List A) : Type 0 where
    pub before : List A
    pub after : List A
    pub is : xs ≡ before ++ x ∷ after

  module _ (own : (x y : A) → eq x y ≡ true → x ≡ y) where
    parted : (x : A) (xs : List A) → list_any (eq x) xs ≡ true → IsParted x xs
    parted x [] h = no_true h
    parted x (y ∷ ys) h = by (eq x y) refl h (λ k. parted x ys k)
      where
        by : (b : Bool) → eq x y ≡ b → (b || list_any (eq x) ys) ≡ true → (list_any (eq x) ys ≡ true → IsParted x ys) → IsParted x (y ∷ ys)
        by true g k next = record { before = []; after = ys; is = ap (λ z. z ∷ ys) (sym (own x y g)) }
        by false g k next = let p = next k in record { before = y ∷ p.before; after = p.after; is = ap (λ l. y ∷ l) p.is }

    pub there_parted : (each front back : List A) (x : A) → HasEachOnce eq each (front ++ x ∷ back) → IsParted x each
    there_parted each front back x once =
        parted x each (each_any each (front ++ x ∷ back) once x ∙ (any_middle (eq x) front back x ∙ or_left (eq x x) (list_any (eq x) (front ++ back)) (laws.refl x)))

  pub went_last : (before after front back : List A) (x : A) → HasEachOnce eq (before ++ x ∷ after) (front ++ x ∷ back) → list_any (eq x) (front ++ back) ≡ false
      → HasEachOnce eq (before ++ after) (front ++ back)
  went_last before after front back x once e = λ z. by z (eq z x) refl
      (sym (count_middle (eq z) before after x) ∙ (once z ∙ ap (λ b. if b then 1 else 0) (any_middle (eq z) front back x)))
    where
      less : (n : ℕ) → 1 + n ≡ 1 → n ≡ 0
      less n k = omega (arith, k)

      by : (z : A) (c : Bool) → eq z x ≡ c → cond (eq z x) 1 0 + count_by (eq z) (before ++ after) ≡ (if (eq z x || list_any (eq z) (front ++ back)) then 1 else 0)
          → count_by (eq z) (before ++ after) ≡ (if list_any (eq z) (front ++ back) then 1 else 0)
      by z true g k =
          less (count_by (eq z) (before ++ after))
          (ap (λ d. cond d 1 0 + count_by (eq z) (before ++ after)) (sym g) ∙ (k ∙ ap (λ d. if (d || list_any (eq z) (front ++ back)) then 1 else 0) g))
          ∙ ap (λ b. if b then 1 else 0) (sym (sym (alike_any (front ++ back) x z (laws.symm x z ∙ g)) ∙ e))
      by z false g k =
          sym (plain (count_by (eq z) (before ++ after)))
          ∙ (ap (λ d. cond d 1 0 + count_by (eq z) (before ++ after)) (sym g) ∙ (k ∙ ap (λ d. if (d || list_any (eq z) (front ++ back)) then 1 else 0) g))
