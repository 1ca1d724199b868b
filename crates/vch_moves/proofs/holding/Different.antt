-- A voucher more or less among others: how often the different ones hold a handle.
use Rattle.std.proofs.Common.{◌≡◌, ℕ, ◌+◌, ◌||◌, Bool, true, false, cond, List, [], ◌∷◌, ◌++◌, refl, arith, sym, ap, ◌∙◌, append_assoc, subst, Option, Some, None}
use Rattle.std.specs.List.{flat_map}
use Rattle.std.proofs.lemmas.Grind.{common_steps}
use Rattle.std.proofs.lemmas.List.Folds.{list_any-append}
use Rattle.vch_base.specs.declared.key.Key.{Key}
use Rattle.vch_base.specs.Managers.{count}
use Rattle.vch_machine.specs.Naming.{same_handle, same_handles}
use Rattle.vch_machine.specs.State.{Handles}
use Rattle.vch_legal.proofs.CallerLemmas.{handles_eq}
use Rattle.vch_frame.proofs.CallerLemmas.{cases_of}
use Rattle.vch_parts.specs.Pictures.{different, voucher_holds}
use Rattle.vch_moves.specs.Known.{holds_in, known_in, is_among}

same_one : (o : Option ℕ) → same_handle o o ≡ true
same_one None = refl
same_one (Some a) = grind (arith, common_steps)

pub same_self : (w : Handles) → same_handles w w ≡ true
same_self w = let a = same_one w.importance in let b = same_one w.bank in let d = same_one w.user in let e = same_one w.test in rw (a, b, d, e) refl

pub same_turned : (v w : Handles) → same_handles v w ≡ same_handles w v
same_turned v w = cases_of (same_handles v w) (same_handles v w ≡ same_handles w v)
    (λ yes_. let z : v ≡ w = handles_eq v w yes_ in rw z refl)
    (λ other. cases_of (same_handles w v) (same_handles v w ≡ same_handles w v)
    (λ yes_. let z : w ≡ v = handles_eq w v yes_ in rw z refl)
    (λ no_. other ∙ sym no_))

-- counts of pieces
pub count_append : (h : ℕ) (xs ys : List ℕ) → count h (xs ++ ys) ≡ count h xs + count h ys
count_append h xs ys = grind (arith, common_steps)

module _ (k : Key) (h : ℕ) where
  -- a voucher before others
  pub known_cons : (v : Handles) (vs : List Handles) → known_in k h (v ∷ vs) ≡ cond (is_among v vs) 0 (holds_in k h v) + known_in k h vs
  known_cons v vs = by (is_among v vs)
    where
      by : (b : Bool) → count h (flat_map (voucher_holds k) (cond b (different vs) (v ∷ different vs))) ≡ cond b 0 (holds_in k h v) + known_in k h vs
      by true = omega arith
      by false = count_append h (voucher_holds k v) (flat_map (voucher_holds k) (different vs))

  among_out : (w v : Handles) (xs ys : List Handles) → is_among w (xs ++ v ∷ ys) ≡ (same_handles w v || is_among w (xs ++ ys))
  among_out w v [] ys = refl
  among_out w v (x ∷ xs) ys = let e : is_among w (xs ++ v ∷ ys) ≡ (same_handles w v || is_among w (xs ++ ys)) = among_out w v xs ys in rw e (turned (same_handles w x) (same_handles w v) (is_among w (xs ++ ys)))
    where
      turned : (a b d : Bool) → (a || (b || d)) ≡ (b || (a || d))
      turned a b d = grind arith

  -- two vouchers before others, in either order
  abbrev First : Bool → Handles → Handles → List Handles → ℕ → ℕ
  First b v x zs n = cond (b || is_among x zs) 0 (holds_in k h x) + (cond (is_among v zs) 0 (holds_in k h v) + n)

  others : (a b d : ℕ) → a + (b + d) ≡ b + (a + d)
  others a b d = omega arith

  swapped : (v x : Handles) (zs : List Handles) (n : ℕ) → First (same_handles x v) v x zs n ≡ First (same_handles v x) x v zs n
  swapped v x zs n = subst (λ b. First b v x zs n ≡ First (same_handles v x) x v zs n) (same_turned v x)
      (cases_of (same_handles v x) (First (same_handles v x) v x zs n ≡ First (same_handles v x) x v zs n)
      (λ yes_. let z : v ≡ x = handles_eq v x yes_ in rw (yes_, z) refl)
      (λ no_. rw no_ (others (cond (is_among x zs) 0 (holds_in k h x)) (cond (is_among v zs) 0 (holds_in k h v)) n)))

  -- and wherever it stands
  known_out : (v : Handles) (xs ys : List Handles) → known_in k h (xs ++ v ∷ ys) ≡ cond (is_among v (xs ++ ys)) 0 (holds_in k h v) + known_in k h (xs ++ ys)
  known_out v [] ys = known_cons v ys
  known_out v (x ∷ xs) ys =
      known_cons x (xs ++ v ∷ ys)
      ∙ ap (λ b. cond b 0 (holds_in k h x) + known_in k h (xs ++ v ∷ ys)) (among_out x v xs ys)
      ∙ ap (λ n. cond (same_handles x v || is_among x (xs ++ ys)) 0 (holds_in k h x) + n) (known_out v xs ys)
      ∙ swapped v x (xs ++ ys) (known_in k h (xs ++ ys))
      ∙ ap (λ n. cond (same_handles v x || is_among v (xs ++ ys)) 0 (holds_in k h v) + n) (sym (known_cons x (xs ++ ys)))

-- One voucher more.

-- the second list has a voucher more than the first, or it is the first and has the voucher
pub data OneMore (v : Handles) (old new : List Handles) : Type 0 where
  Inserted : (ahead after : List Handles) → old ≡ ahead ++ after → new ≡ ahead ++ v ∷ after → OneMore v old new
  Known : new ≡ old → is_among v old ≡ true → OneMore v old new

-- where it is one of the first, its handles are held once more than before
pub known_more : (k : Key) (h : ℕ) (v : Handles) (old new : List Handles) → OneMore v old new
    → known_in k h new + cond (is_among v old) (holds_in k h v) 0 ≡ known_in k h old + holds_in k h v
known_more k h v old new (OneMore.Inserted ahead after a b) = rw (a, b, known_out k h v ahead after) (by (is_among v (ahead ++ after)) (holds_in k h v) (known_in k h (ahead ++ after)))
  where
    by : (b : Bool) (n m : ℕ) → (cond b 0 n + m) + cond b n 0 ≡ m + n
    by true n m = omega arith
    by false n m = omega arith
known_more k h v old new (OneMore.Known a b) = rw (a, b) refl

-- the other way round: where it is none of the first, its handles are held no more
pub known_less : (k : Key) (h : ℕ) (v : Handles) (old new : List Handles) → OneMore v new old
    → known_in k h new + cond (is_among v new) 0 (holds_in k h v) ≡ known_in k h old
known_less k h v old new (OneMore.Inserted ahead after a b) = rw (a, b, known_out k h v ahead after) (by (is_among v (ahead ++ after)) (holds_in k h v) (known_in k h (ahead ++ after)))
  where
    by : (b : Bool) (n m : ℕ) → m + cond b 0 n ≡ cond b 0 n + m
    by true n m = omega arith
    by false n m = omega arith
known_less k h v old new (OneMore.Known a b) = rw (a, b) (omega arith)

-- within longer lists
pub one_more_within : (v : Handles) (old new ahead after : List Handles) → OneMore v old new → OneMore v (ahead ++ (old ++ after)) (ahead ++ (new ++ after))
one_more_within v old new ahead after (OneMore.Inserted a b p q) = OneMore.Inserted (ahead ++ a) (b ++ after) (rw p (simp append_assoc)) (rw q (simp append_assoc))
one_more_within v old new ahead after (OneMore.Known p q) = OneMore.Known (rw p refl) (rw (among_append v ahead (old ++ after), among_append v old after, q) (grind arith))
  where
    among_append : (w : Handles) (xs ys : List Handles) → is_among w (xs ++ ys) ≡ (is_among w xs || is_among w ys)
    among_append w xs ys = list_any-append (same_handles w) xs ys
