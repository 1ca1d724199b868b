-- There is always room for a key that the voucher has not: no more than four have a manager.
use Rattle.std.proofs.Common.{◌≡◌, ◌≢◌, ◌⊎◌, inl, inr, subst, nat_le, ℕ, ◌<◌, ◌≤◌, ◌==◌, Bool, true, false, cond, List, [], ◌∷◌, length, refl, arith, Some, None}
use Rattle.std.proofs.lemmas.Grind.{common_steps}
use Rattle.vch_base.specs.declared.key.Key.{Key}
use Rattle.vch_base.specs.declared.key.Key.TheVariants as keys
use Rattle.vch_base.specs.Keys.{number_of, key_numbered}
use Rattle.vch_table.specs.declared.indices.KeyedIndex.{KeyedIndex}
use Rattle.vch_table.specs.Indices.{index_at, IsRising}
use Rattle.vch_table.proofs.CallerLemmas.{by_cases}
use Rattle.vch_frame.specs.Indices.{Indices, IsKeyed}

-- a number is that of a key, or of none
by_key : (n : ℕ) (P : Type 0) → (key_numbered n ≡ None → P) → ((k : Key) → n ≡ number_of k → P) → P
by_key n P none some = by (n == 2) (n == 3) (n == 7) (n == 8) refl refl refl refl
  where
    by : (a b d e : Bool) → (n == 2) ≡ a → (n == 3) ≡ b → (n == 7) ≡ d → (n == 8) ≡ e → P
    by true b d e p q r s = some keys.Importance (grind (arith, common_steps))
    by false true d e p q r s = some keys.Bank (grind (arith, common_steps))
    by false false true e p q r s = some keys.User (grind (arith, common_steps))
    by false false false true p q r s = some keys.Test (grind (arith, common_steps))
    by false false false false p q r s = none (rw (p, q, r, s) refl)

-- a number of a key
record IsNumber (n : ℕ) : Type 0 where
  low : 2 ≤ n
  high : n ≤ 8
  none_between : 4 ≤ n → 7 ≤ n

number_is : (n : ℕ) (k : Key) → n ≡ number_of k → IsNumber n
number_is n keys.Importance e = record { low = omega (arith, e); high = omega (arith, e); none_between = λ l. absurd (omega (arith, e, l)) }
number_is n keys.Bank e = record { low = omega (arith, e); high = omega (arith, e); none_between = λ l. absurd (omega (arith, e, l)) }
number_is n keys.User e = record { low = omega (arith, e); high = omega (arith, e); none_between = λ l. omega (arith, e) }
number_is n keys.Test e = record { low = omega (arith, e); high = omega (arith, e); none_between = λ l. omega (arith, e) }

-- four of them that rise are all
all_four : (a b d e : ℕ) → a < b → b < d → d < e → IsNumber a → IsNumber b → IsNumber d → IsNumber e → (a ≡ 2) × (b ≡ 3) × (d ≡ 7) × (e ≡ 8)
all_four a b d e p q r x y z w =
    let low : 2 ≤ a = x.low in
    let high : e ≤ 8 = w.high in
    let far : 7 ≤ d = z.none_between (omega (arith, low, p, q)) in
    let near : b ≤ 3 = elim (small b) [ inl l ↦ l | inr l ↦ absurd (below (y.none_between l) far) ] in
    (omega (arith, low, p, near), omega (arith, low, p, near), omega (arith, far, high, r), omega (arith, far, high, r))
  where
    small : (n : ℕ) → (n ≤ 3) ⊎ (4 ≤ n)
    small n = omega_cases (nat_le n 3) refl
      where
        omega_cases : (c : Bool) → nat_le n 3 ≡ c → (n ≤ 3) ⊎ (4 ≤ n)
        omega_cases true e = inl (grind (arith, common_steps))
        omega_cases false e = inr (grind (arith, common_steps))

    below : 7 ≤ b → 7 ≤ d → ⊥
    below l m = omega (arith, l, m, q, r, w.high)

behind_some : (a : KeyedIndex) (xs : List KeyedIndex) (n : ℕ) → index_at xs n ≢ None → index_at (a ∷ xs) n ≢ None
behind_some a xs n s = by_cases (a.key == n) (λ b. cond b (Some a.index) (index_at xs n) ≡ None → ⊥) (λ q e. absurd (cc)) (λ q e. s e)

first_some : (a : KeyedIndex) (xs : List KeyedIndex) → index_at (a ∷ xs) a.key ≢ None
first_some a xs = by_cases (a.key == a.key) (λ b. cond b (Some a.index) (index_at xs a.key) ≡ None → ⊥) (λ q e. absurd (cc)) (λ q e. absurd (differs q))
  where
    differs : (a.key == a.key) ≡ false → ⊥
    differs q = let e : (a.key == a.key) ≡ true = grind (arith, common_steps) in cc

-- a voucher of four keys has each of them
four_keys : (a b d e : KeyedIndex) → (a.key ≡ 2) × (b.key ≡ 3) × (d.key ≡ 7) × (e.key ≡ 8) → (k : Key) → index_at (a ∷ b ∷ d ∷ e ∷ []) (number_of k) ≢ None
four_keys a b d e s keys.Importance = subst (λ n. index_at (a ∷ b ∷ d ∷ e ∷ []) n ≢ None) s.0 (first_some a (b ∷ d ∷ e ∷ []))
four_keys a b d e s keys.Bank = subst (λ n. index_at (a ∷ b ∷ d ∷ e ∷ []) n ≢ None) s.1
    (behind_some a (b ∷ d ∷ e ∷ []) b.key (first_some b (d ∷ e ∷ [])))
four_keys a b d e s keys.User = subst (λ n. index_at (a ∷ b ∷ d ∷ e ∷ []) n ≢ None) s.2
    (behind_some a (b ∷ d ∷ e ∷ []) d.key (behind_some b (d ∷ e ∷ []) d.key (first_some d (e ∷ []))))
four_keys a b d e s keys.Test = subst (λ n. index_at (a ∷ b ∷ d ∷ e ∷ []) n ≢ None) s.3
    (behind_some a (b ∷ d ∷ e ∷ []) e.key (behind_some b (d ∷ e ∷ []) e.key (behind_some d (e ∷ []) e.key (first_some e []))))

pub room_for : (v : Indices) (k : Key) → IsKeyed v → index_at v (number_of k) ≡ None → length v < 4
room_for v k p = by v p.managed p.bounded.rising p.bounded.few
  where
    by : (v : Indices) → ((n : ℕ) → key_numbered n ≡ None → index_at v n ≡ None) → IsRising v → length v ≤ 4 → index_at v (number_of k) ≡ None → length v < 4
    by [] m r l z = omega arith
    by (a ∷ []) m r l z = omega arith
    by (a ∷ b ∷ []) m r l z = omega arith
    by (a ∷ b ∷ d ∷ []) m r l z = omega arith
    by (a ∷ b ∷ d ∷ e ∷ []) m r l z = absurd (by_key a.key ⊥ (λ q. first_some a (b ∷ d ∷ e ∷ []) (m a.key q))
        (λ i x. by_key b.key ⊥ (λ q. behind_some a (b ∷ d ∷ e ∷ []) b.key (first_some b (d ∷ e ∷ [])) (m b.key q))
        (λ j y. by_key d.key ⊥ (λ q. behind_some a (b ∷ d ∷ e ∷ []) d.key (behind_some b (d ∷ e ∷ []) d.key (first_some d (e ∷ []))) (m d.key q))
        (λ n w. by_key e.key ⊥ (λ q. behind_some a (b ∷ d ∷ e ∷ []) e.key (behind_some b (d ∷ e ∷ []) e.key (behind_some d (e ∷ []) e.key (first_some e []))) (m e.key q))
        (λ o u. four_keys a b d e (all_four a.key b.key d.key e.key r.0.0 r.1.0.0 r.1.1.0.0 (number_is a.key i x) (number_is b.key j y) (number_is d.key n w) (number_is e.key o u)) k z)))))
    by (a ∷ b ∷ d ∷ e ∷ f ∷ rest) m r l z = absurd (omega (arith, l))
