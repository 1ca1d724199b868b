-- A sum over the slots of a key is one over the live values at that key.
use Rattle.std.proofs.Common.{◌≡◌, ℕ, suc, ◌+◌, ◌<◌, Bool, true, false, List, [], ◌∷◌, length, refl, arith, sym, ap, ◌∙◌, Option}
use Rattle.std.proofs.lemmas.Grind.{common_steps}
use Rattle.std.proofs.lemmas.List.Sums.{sum_by-cons}
use Rattle.std.specs.Prelude.{if◌then◌else◌, ◌==◌, ◌&&◌, nat_le, nat_lt}
use Rattle.std.specs.List.{sum_by}
use Rattle.vch_base.specs.declared.key.Key.{Key}
use Rattle.vch_base.specs.declared.places.Live.{Live}
use Rattle.vch_base.specs.Keys.{same_key}
use Rattle.vch_base.specs.Managers.{live_at}
use Rattle.vch_machine.specs.State.{Living, living_at}
use Rattle.vch_legal.proofs.CallerLemmas.{AtMostOnce, Each}
use Rattle.vch_replies.proofs.sums.Sums.{sum_add, sum_same, sum_none, sum_each, weighs, found, at_place}

-- what a value weighs where its key is this one and its handle is one of n from i on
abbrev ranged : (Living → ℕ) → Key → ℕ → ℕ → Living → ℕ
ranged w k i n l = if same_key l.place.key k && (nat_le i l.place.handle && nat_lt l.place.handle (i + n)) then w l else 0

-- what a value weighs at a key
abbrev pub keyed : (Living → ℕ) → Key → Living → ℕ
keyed w k l = if same_key l.place.key k then w l else 0

-- the first handle of a range, and the others
one_more : (key : Bool) (h i n w : ℕ) → (if key && (h == i) then w else 0) + (if key && (nat_le (i + 1) h && nat_lt h (i + 1 + n)) then w else 0)
    ≡ (if key && (nat_le i h && nat_lt h (i + suc n)) then w else 0)
one_more false h i n w = refl
one_more true h i n w = by_test (h == i) (nat_le (i + 1) h && nat_lt h (i + 1 + n)) (nat_le i h && nat_lt h (i + suc n)) apart joined
  where
    apart : (h == i) ≡ true → (nat_le (i + 1) h && nat_lt h (i + 1 + n)) ≡ false
    apart e = grind (arith, common_steps)

    joined : (nat_le i h && nat_lt h (i + suc n)) ≡ (if h == i then true else nat_le (i + 1) h && nat_lt h (i + 1 + n))
    joined = grind (arith, common_steps)

    by_test : (a b d : Bool) → (a ≡ true → b ≡ false) → d ≡ (if a then true else b) → (if a then w else 0) + (if b then w else 0) ≡ (if d then w else 0)
    by_test true b d p q = rw (p refl, q) (omega arith)
    by_test false true d p q = rw q (omega arith)
    by_test false false d p q = rw q (omega arith)

in_range : (w : Living → ℕ) (k : Key) (g : Option Live → ℕ) (live : List Living) → AtMostOnce live → (i : ℕ) (slots : List (Option Live))
    → ((h : ℕ) → h < length slots → g (live_at slots h) ≡ found w (living_at live (record { key = k; handle = i + h })))
    → sum_by g slots ≡ sum_by (ranged w k i (length slots)) live
in_range w k g live once i [] agree = sym (sum_same (ranged w k i 0) (λ l. 0) live none ∙ sum_none live)
  where
    no_number : (key : Bool) (h v : ℕ) → (if key && (nat_le i h && nat_lt h (i + 0)) then v else 0) ≡ 0
    no_number key h v = let e : (key && (nat_le i h && nat_lt h (i + 0))) ≡ false = empty key in rw e refl
      where
        empty : (key : Bool) → (key && (nat_le i h && nat_lt h (i + 0))) ≡ false
        empty key = grind (arith, common_steps)

    none : (l : Living) → ranged w k i 0 l ≡ 0
    none l = no_number (same_key l.place.key k) l.place.handle (w l)
in_range w k g live once i (x ∷ slots) agree =
    let a = sum_by-cons g x slots in
    let rest : sum_by g slots ≡ sum_by (ranged w k (i + 1) (length slots)) live = in_range w k g live once (i + 1) slots later in
    let joined : sum_by (weighs w (record { key = k; handle = i })) live + sum_by (ranged w k (i + 1) (length slots)) live ≡ sum_by (ranged w k i (suc (length slots))) live =
    sum_add (weighs w (record { key = k; handle = i })) (ranged w k (i + 1) (length slots)) live
    ∙ sum_same (λ l. weighs w (record { key = k; handle = i }) l + ranged w k (i + 1) (length slots) l) (ranged w k i (suc (length slots))) live
    (λ l. one_more (same_key l.place.key k) l.place.handle i (length slots) (w l)) in
    omega (arith, a, rest, joined, here)
  where
    none : (n : ℕ) → n + 0 ≡ n
    none n = omega arith

    next : (a b : ℕ) → a + suc b ≡ a + 1 + b
    next a b = omega arith

    here : g x ≡ sum_by (weighs w (record { key = k; handle = i })) live
    here = agree 0 (omega arith) ∙ ap (λ h. found w (living_at live (record { key = k; handle = h }))) (none i) ∙ sym (at_place w (record { key = k; handle = i }) live once)

    later : (h : ℕ) → h < length slots → g (live_at slots h) ≡ found w (living_at live (record { key = k; handle = i + 1 + h }))
    later h l = agree (suc h) (omega (arith, l)) ∙ ap (λ j. found w (living_at live (record { key = k; handle = j }))) (next i h)

-- the live values at the key have handles below the slots
abbrev pub AreBelow : Key → ℕ → List Living → Type 0
AreBelow k n live = Each (λ l. same_key l.place.key k ≡ true → l.place.handle < n) live

pub over_slots : (w : Living → ℕ) (k : Key) (g : Option Live → ℕ) (live : List Living) (slots : List (Option Live)) → AtMostOnce live → AreBelow k (length slots) live
    → ((h : ℕ) → g (live_at slots h) ≡ found w (living_at live (record { key = k; handle = h })))
    → sum_by g slots ≡ sum_by (keyed w k) live
over_slots w k g live slots once below agree =
    in_range w k g live once 0 slots (λ h l. agree h ∙ ap (λ j. found w (living_at live (record { key = k; handle = j }))) (none h))
    ∙ sum_each (ranged w k 0 (length slots)) (keyed w k) live (all_in live below)
  where
    none : (n : ℕ) → n ≡ 0 + n
    none n = omega arith

    one_in : (key : Bool) (h n v : ℕ) → (key ≡ true → h < n) → (if key && (nat_le 0 h && nat_lt h (0 + n)) then v else 0) ≡ (if key then v else 0)
    one_in false h n v l = refl
    one_in true h n v l = let r : h < n = l refl in let e : (nat_le 0 h && nat_lt h (0 + n)) ≡ true = grind (arith, common_steps) in rw e refl

    all_in : (live : List Living) → AreBelow k (length slots) live → Each (λ l. ranged w k 0 (length slots) l ≡ keyed w k l) live
    all_in [] h = tt
    all_in (l ∷ live) h = (one_in (same_key l.place.key k) l.place.handle (length slots) (w l) h.0, all_in live h.1)
