-- Each live value is held exactly where as many numbers are held as values are live.
use Rattle.std.proofs.Common.{◌≡◌, ℕ, ◌+◌, ◌<◌, ◌≤◌, Bool, List, [], ◌∷◌, ◌++◌, refl, true, false, arith, ap, sym, ◌∙◌, subst, length, Some, None, Option, inl, inr, cond, ◌&&◌, ◌||◌}
use Rattle.std.specs.Prelude.{◌⊎◌, ◌==◌, nat_eq, nat_lt, if◌then◌else◌}
use Rattle.std.proofs.lemmas.Grind.{common_steps}
use Rattle.std.proofs.lemmas.List.Sums.{count_by-le-length}
use Rattle.std.specs.List.{AllByRecursion, list_any, list_all, count_by, flat_map}
use Rattle.vch_base.specs.declared.key.Key.{Key}
use Rattle.vch_base.specs.declared.key.Key.TheVariants as keys
use Rattle.vch_model.specs.declared.entry.Entry.{Entry}
use Rattle.vch_model.specs.Store.{Store, Alive, is_held}
use Rattle.vch_model.specs.Legal.{all_held}
use Rattle.vch_books.specs.declared.numbers.Numbers.{Numbers}
use Rattle.vch_books.specs.Counts.{different_by}
use Rattle.vch_books.specs.Holding.{is_one, all_numbers, number_list, numbers_in, held_numbers}
use Rattle.vch_books.specs.Numbered.{StandsAt, Stands, at_key, live_of, alive_of}
use Rattle.vch_books.specs.Audits.{Audit, store_at}
use Rattle.vch_books.specs.Kept.{Lists, Keeps, IsOneOf, IsRising}
use Rattle.vch_books.proofs.Values.{eq_refl, number_eq}
use Rattle.vch_books.proofs.Alike.{one_of}
use Rattle.vch_books.proofs.Keeping.{live_kept}
use Rattle.vch_books.proofs.CountLists.{one_longer, any_alike}
use Rattle.vch_books.proofs.FoundLive.{is_one_of}
use Rattle.vch_books.proofs.Held.{held_kept}
use Rattle.vch_books.proofs.Ends.{all_stand, joined}

-- How many pass a test.

none_more : (n : ℕ) → n ≡ 0 + n
none_more n = omega arith

count_all : (p : ℕ → Bool) (xs : List ℕ) → (count_by p xs == length xs) ≡ list_all p xs
count_all p [] = refl
count_all p (x ∷ xs) = ap (λ n. n == length (x ∷ xs)) (one_longer p x xs) ∙ (ap (λ n. (cond (p x) 1 0 + count_by p xs) == n) (longer x xs) ∙ by (p x) (count_all p xs))
  where
    longer : (x : ℕ) (xs : List ℕ) → length (x ∷ xs) ≡ length xs + 1
    longer x xs = grind (arith, common_steps)

    down : (c n : ℕ) → (1 + c == n + 1) ≡ (c == n)
    down c n = grind (arith, common_steps)

    below : (c n : ℕ) → c ≤ n → (0 + c == n + 1) ≡ false
    below c n l = grind (arith, common_steps)

    by : (b : Bool) → (count_by p xs == length xs) ≡ list_all p xs → (cond b 1 0 + count_by p xs == length xs + 1) ≡ (b && list_all p xs)
    by true e = down (count_by p xs) (length xs) ∙ e
    by false e = below (count_by p xs) (length xs) (count_by-le-length p xs)

count_where : (p q : ℕ → Bool) (xs : List ℕ) → AllByRecursion (λ x. p x ≡ q x) xs → count_by p xs ≡ count_by q xs
count_where p q [] h = refl
count_where p q (x ∷ xs) h = one_longer p x xs ∙ (ap (λ b. cond b 1 0 + count_by p xs) h.0 ∙ (ap (λ n. cond (q x) 1 0 + n) (count_where p q xs h.1) ∙ sym (one_longer q x xs)))

all_of : (P : ℕ → Type 0) (xs : List ℕ) → ((x : ℕ) → P x) → AllByRecursion P xs
all_of P [] f = tt
all_of P (x ∷ xs) f = (f x, all_of P xs f)

count_none : (xs : List ℕ) → 0 ≡ count_by (λ x. false) xs
count_none [] = refl
count_none (x ∷ xs) = count_none xs ∙ (none_more (count_by (λ x. false) xs) ∙ sym (one_longer (λ x. false) x xs))

-- a number of a rising list passes that did not
count_new : (p : ℕ → Bool) (live : List ℕ) (x : ℕ) → IsRising live → is_one live x ≡ true → p x ≡ false → count_by (λ e. (x == e) || p e) live ≡ 1 + count_by p live
count_new p [] x r o q = absurd (cc)
count_new p (d ∷ live) x r o q =
    one_longer (λ e. (x == e) || p e) d live ∙ (by (x == d) refl (λ f. count_new p live x r.1 f q) ∙ ap (λ n. 1 + n) (sym (one_longer p d live)))
  where
    turned : (a b : ℕ) → a + (1 + b) ≡ 1 + (a + b)
    turned a b = omega arith

    apart : (x e : ℕ) → x < e → (x == e) ≡ false
    apart x e l = grind (arith, common_steps)

    others : (live : List ℕ) → AllByRecursion (λ e. x < e) live → AllByRecursion (λ e. ((x == e) || p e) ≡ p e) live
    others [] h = tt
    others (e ∷ live) h = (ap (λ b. b || p e) (apart x e h.0), others live h.1)

    swapped : (x d : ℕ) → (x == d) ≡ (d == x)
    swapped x d = grind (arith, common_steps)

    there : (x == d) ≡ false → is_one live x ≡ true
    there f = sym (ap (λ b. b || is_one live x) (sym (swapped x d) ∙ f)) ∙ o

    by : (b : Bool) → (x == d) ≡ b → (is_one live x ≡ true → count_by (λ e. (x == e) || p e) live ≡ 1 + count_by p live) → cond (b || p d) 1 0 + count_by (λ e. (x == e) || p e) live ≡ 1 + (cond (p d) 1 0 + count_by p live)
    by true f g =
        let e : x ≡ d = number_eq x d f in
        ap (λ n. 1 + n) (count_where (λ e. (x == e) || p e) p live (others live (subst (λ y. AllByRecursion (λ e. y < e) live) (sym e) r.0))
        ∙ (none_more (count_by p live) ∙ ap (λ b. cond b 1 0 + count_by p live) (sym (ap p (sym e) ∙ q))))
    by false f g = ap (λ n. cond (p d) 1 0 + n) (g (there f)) ∙ turned (cond (p d) 1 0) (count_by p live)

-- a list of live numbers has as many different ones as live ones are in it
different_is : (live held : List ℕ) → IsRising live → AllByRecursion (λ x. is_one live x ≡ true) held → different_by nat_eq held ≡ count_by (λ e. is_one held e) live
different_is live [] r h = count_none live
different_is live (x ∷ held) r h = ap (λ b. (if b then 0 else 1) + different_by nat_eq held) (any_alike (nat_eq x) (λ d. d == x) held (λ d. swapped x d)) ∙ by (is_one held x) refl (different_is live held r h.1)
  where
    swapped : (x d : ℕ) → (x == d) ≡ (d == x)
    swapped x d = grind (arith, common_steps)

    same : is_one held x ≡ true → (e : ℕ) → is_one held e ≡ ((x == e) || is_one held e)
    same q e = at (x == e) refl
      where
        at : (b : Bool) → (x == e) ≡ b → is_one held e ≡ (b || is_one held e)
        at true f = subst (λ y. is_one held y ≡ true) (number_eq x e f) q
        at false f = refl

    by : (b : Bool) → is_one held x ≡ b → different_by nat_eq held ≡ count_by (λ e. is_one held e) live → (if b then 0 else 1) + different_by nat_eq held ≡ count_by (λ e. (x == e) || is_one held e) live
    by true q d = sym (none_more (different_by nat_eq held)) ∙ (d ∙ count_where (λ e. is_one held e) (λ e. (x == e) || is_one held e) live (all_of _ live (same q)))
    by false q d = ap (λ n. 1 + n) d ∙ sym (count_new (λ e. is_one held e) live x r h.0 q)

-- Each number that is held is that of a live value.

number_live : (h : List Entry) (live : List ℕ) (k : Key) (o : Option ℕ) → StandsAt h (live_of h live) k o → AllByRecursion (λ x. is_one live x ≡ true) (number_list o)
number_live h live k None s = tt
number_live h live k (Some n) s = by (nat_lt 0 n) refl s
  where
    not_zero : (n : ℕ) → nat_lt 0 n ≡ true → n ≡ 0 → ⊥
    not_zero n q e = let z : nat_lt 0 0 ≡ true = subst (λ y. nat_lt 0 y ≡ true) e q in cc

    by : (b : Bool) → nat_lt 0 n ≡ b → StandsAt h (live_of h live) k (Some n) → AllByRecursion (λ x. is_one live x ≡ true) (cond b (n ∷ []) [])
    by true q (inl e) = absurd (not_zero n q e)
    by true q (inr p) = (is_one_of live n (one_of h live n p.0), tt)
    by false q s = tt

voucher_live : (h : List Entry) (live : List ℕ) (v : Numbers) → Stands h (live_of h live) v → AllByRecursion (λ x. is_one live x ≡ true) (numbers_in v)
unfolding Stands
voucher_live h live v s =
    joined _ (number_list v.importance) _ (number_live h live keys.Importance v.importance (s keys.Importance))
    (joined _ (number_list v.bank) _ (number_live h live keys.Bank v.bank (s keys.Bank))
    (joined _ (number_list v.user) _ (number_live h live keys.User v.user (s keys.User)) (number_live h live keys.Test v.test (s keys.Test))))

vouchers_live : (h : List Entry) (live : List ℕ) (vs : List Numbers) → AllByRecursion (Stands h (live_of h live)) vs → AllByRecursion (λ x. is_one live x ≡ true) (flat_map numbers_in vs)
vouchers_live h live [] s = tt
vouchers_live h live (v ∷ vs) s = joined _ (numbers_in v) _ (voucher_live h live v s.0) (vouchers_live h live vs s.1)

each_is : (a : Audit) (l : Lists) → Keeps a l → (live : List ℕ) → ((e : ℕ) → IsOneOf live e → IsOneOf l.live e)
    → list_all (λ (y : Alive). is_held (store_at a) y.key y.value) (live_of a.history live) ≡ list_all (λ e. is_one (held_numbers l.tasks) e) live
each_is a l k [] sub = refl
each_is a l k (x ∷ live) sub =
    ap (λ b. b && list_all (λ (y : Alive). is_held (store_at a) y.key y.value) (live_of a.history live)) (held_kept a l k x (sub x (inl refl)))
    ∙ ap (λ b. is_one (held_numbers l.tasks) x && b) (each_is a l k live (λ e o. sub e (inr o)))

-- as many numbers are held as values are live exactly where each live value is held
pub as_many : (a : Audit) (l : Lists) → Keeps a l → (different_by nat_eq (held_numbers l.tasks) == length l.live) ≡ all_held (store_at a)
as_many a l k =
    ap (λ n. n == length l.live) (different_is l.live (held_numbers l.tasks) k.rising (vouchers_live a.history l.live (all_numbers l.tasks) (all_stand a.history (live_of a.history l.live) l.tasks k.stands)))
    ∙ (count_all (λ e. is_one (held_numbers l.tasks) e) l.live
    ∙ (sym (each_is a l k l.live (λ e o. o)) ∙ ap (λ ls. list_all (λ (y : Alive). is_held (store_at a) y.key y.value) ls) (sym (live_kept a l k))))
