-- Which vouchers are known, and how many, as the desk of one task changes.
use Rattle.std.proofs.Common.{◌≡◌, ◌≤◌, ◌<◌, ◌+◌, ℕ, zero, suc, List, [], ◌∷◌, ◌++◌, length, set, ◌||◌, Bool, true, false, cond, refl, sym, ap, ◌∙◌, arith}
use Rattle.std.proofs.lemmas.List.{set-get_or}
use Rattle.vch_base.specs.Tasks.{set_task}
use Rattle.vch_table.specs.Index.{indices_eq}
use Rattle.vch_vouchers.specs.Desks.{Desk, Voucher, all_vouchers, desk, different, empty_desk, is_among, is_known, vouchers_at}
use Rattle.vch_vouchers.proofs.Different.{count_with, same_count}

-- the desks have the vouchers of the others and this one
pub record Gains (v : Voucher) (old new : List Desk) : Type 0 where
  pub known : (w : Voucher) → is_known new w ≡ (indices_eq v w || is_known old w)

-- the desks have the same vouchers
pub record Same (old new : List Desk) : Type 0 where
  pub known : (w : Voucher) → is_known new w ≡ is_known old w

-- one more voucher where it was not known, and as many where it was; read the other way round, an orphan is one less
pub count_gains : (v : Voucher) (old new : List Desk) → Gains v old new → different (all_vouchers new) ≡ different (all_vouchers old) + cond (is_known old v) 0 1
count_gains v old new g = count_with (all_vouchers old) (all_vouchers new) v g.known

pub count_same : (old new : List Desk) → Same old new → different (all_vouchers new) ≡ different (all_vouchers old)
count_same old new s = same_count (all_vouchers new) (all_vouchers old) s.known

pub or_assoc : (a b d : Bool) → (a || b) || d ≡ a || (b || d)
or_assoc true b d = refl
or_assoc false b d = refl

pub or_swap : (a b d : Bool) → a || (b || d) ≡ b || (a || d)
or_swap true true d = refl
or_swap true false d = refl
or_swap false true d = refl
or_swap false false d = refl

pub or_end : (a : Bool) → a || false ≡ a
or_end true = refl
or_end false = refl

module _ (w : Voucher) where
  pub among_append : (xs ys : List Voucher) → is_among w (xs ++ ys) ≡ is_among w xs || is_among w ys
  among_append [] ys = refl
  among_append (x ∷ xs) ys = ap (λ b. indices_eq x w || b) (among_append xs ys) ∙ sym (or_assoc (indices_eq x w) (is_among w xs) (is_among w ys))

  -- the vouchers of one task, and those of the others
  of_set : (ds : List Desk) (i : ℕ) (d : Desk) → i < length ds → is_known (set ds i d) w ≡ is_among w (vouchers_at d) || is_known (set ds i (empty_desk 0)) w
  of_set [] i d l = absurd (omega (arith, l))
  of_set (x ∷ ds) zero d l = among_append (vouchers_at d) (all_vouchers ds)
  of_set (x ∷ ds) (suc i) d l =
      among_append (vouchers_at x) (all_vouchers (set ds i d))
      ∙ ap (λ b. is_among w (vouchers_at x) || b) (of_set ds i d (omega (arith, l)))
      ∙ or_swap (is_among w (vouchers_at x)) (is_among w (vouchers_at d)) (is_known (set ds i (empty_desk 0)) w)
      ∙ ap (λ b. is_among w (vouchers_at d) || b) (sym (among_append (vouchers_at x) (all_vouchers (set ds i (empty_desk 0)))))

  of_task : (ds : List Desk) (t : ℕ) (d : Desk) → (1 ≤ t) × (t ≤ length ds) → is_known (set_task ds t d) w ≡ is_among w (vouchers_at d) || is_known (set_task ds t (empty_desk 0)) w
  of_task ds zero d n = absurd (omega (arith, n.0))
  of_task ds (suc i) d n = of_set ds i d (omega (arith, n.1))

again : (ds : List Desk) (t : ℕ) → set_task ds t (desk ds t) ≡ ds
again ds zero = refl
again ds (suc i) = set-get_or ds i (empty_desk 0)

-- The desk of one task has one voucher more, or loses one, or none.

module _ (ds : List Desk) (t : ℕ) (n : (1 ≤ t) × (t ≤ length ds)) (e : Desk) where
  others : Voucher → Bool
  others w = is_known (set_task ds t (empty_desk 0)) w

  own : (w : Voucher) → is_known ds w ≡ is_among w (vouchers_at (desk ds t)) || others w
  unfolding others
  own w = ap (λ d. is_known d w) (sym (again ds t)) ∙ of_task w ds t (desk ds t) n

  new : (w : Voucher) → is_known (set_task ds t e) w ≡ is_among w (vouchers_at e) || others w
  unfolding others
  new w = of_task w ds t e n

  pub gains : (v : Voucher) → ((w : Voucher) → is_among w (vouchers_at e) ≡ indices_eq v w || is_among w (vouchers_at (desk ds t))) → Gains v ds (set_task ds t e)
  gains v f = record { known = λ w. new w ∙ ap (λ b. b || others w) (f w) ∙ or_assoc (indices_eq v w) (is_among w (vouchers_at (desk ds t))) (others w) ∙ ap (λ b. indices_eq v w || b) (sym (own w)) }

  pub loses : (v : Voucher) → ((w : Voucher) → is_among w (vouchers_at (desk ds t)) ≡ indices_eq v w || is_among w (vouchers_at e)) → Gains v (set_task ds t e) ds
  loses v f = record { known = λ w. own w ∙ ap (λ b. b || others w) (f w) ∙ or_assoc (indices_eq v w) (is_among w (vouchers_at e)) (others w) ∙ ap (λ b. indices_eq v w || b) (sym (new w)) }

  pub same : ((w : Voucher) → is_among w (vouchers_at e) ≡ is_among w (vouchers_at (desk ds t))) → Same ds (set_task ds t e)
  same f = record { known = λ w. new w ∙ ap (λ b. b || others w) (f w) ∙ sym (own w) }
