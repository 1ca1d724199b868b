-- The numbers that are counted with each voucher once are those of all vouchers.
use Rattle.std.proofs.Common.{◌≡◌, ℕ, Bool, List, [], ◌∷◌, ◌++◌, refl, true, false, ap, sym, ◌∙◌, subst}
use Rattle.std.specs.Prelude.{nat_eq, is_some, not}
use Rattle.std.specs.Cmp.{IsEquivalence, nat_eq_equiv}
use Rattle.std.specs.List.{list_any, flat_map}
use Rattle.std.proofs.lemmas.Grind.{flat_map-append}
use Rattle.indexmap.specs.IndexMap.{get, index_map_len}
use Rattle.vch_books.specs.declared.numbers.Numbers.{Numbers}
use Rattle.vch_books.specs.declared.holders.Holders.{Holders}
use Rattle.vch_books.specs.Counts.{Counts, HasEachOnce, different_by}
use Rattle.vch_books.specs.Desks.{same_numbers}
use Rattle.vch_books.specs.Holding.{AreHeld, numbers_in}
use Rattle.vch_books.proofs.CountLists.{there_is}
use Rattle.vch_books.proofs.EachOnce.{any_flat, any_same, different_same, each_any, came_again, came_first, went_again, went_last, there_parted}
use Rattle.vch_books.proofs.Holdings.{with_voucher}
use Rattle.vch_books.proofs.Naming.{same_eq, same_refl}

same_turned : (v w : Numbers) → same_numbers v w ≡ true → same_numbers w v ≡ true
same_turned v w e = subst (λ x. same_numbers x v ≡ true) (same_eq v w e) (same_refl v)

both : (a b : Bool) → (a ≡ true → b ≡ true) → (b ≡ true → a ≡ true) → a ≡ b
both true b f g = sym (f refl)
both false true f g = g refl
both false false f g = refl

same_laws : IsEquivalence same_numbers
same_laws = record {
  refl = same_refl;
  symm = λ v w. both (same_numbers v w) (same_numbers w v) (same_turned v w) (same_turned w v);
  congr = λ v w z e. ap (λ x. same_numbers x z) (same_eq v w e);
}

-- a number is in one of the vouchers exactly where it is in one of them, each taken once
one_alike : (each vs : List Numbers) → HasEachOnce same_numbers each vs → (n : ℕ) → list_any (nat_eq n) (flat_map numbers_in each) ≡ list_any (nat_eq n) (flat_map numbers_in vs)
one_alike each vs once n =
    let has : Numbers → Bool = λ v. list_any (nat_eq n) (numbers_in v) in
    any_flat (nat_eq n) numbers_in each
    ∙ (any_same same_numbers same_laws has (λ v w e. ap has (same_eq v w e)) each vs (each_any same_numbers same_laws each vs once)
    ∙ sym (any_flat (nat_eq n) numbers_in vs))

pub held_number : (h : Holders) (vs : List Numbers) (n : ℕ) → AreHeld h vs → is_some (get nat_eq h.numbers.counts n) ≡ list_any (nat_eq n) (flat_map numbers_in vs)
held_number h vs n a = there_is nat_eq nat_eq_equiv h.numbers.counts (flat_map numbers_in a.each) n a.numbers ∙ one_alike a.each vs a.once n

pub held_many : (h : Holders) (vs : List Numbers) → AreHeld h vs → index_map_len h.numbers.counts ≡ different_by nat_eq (flat_map numbers_in vs)
held_many h vs a = a.numbers.many ∙ different_same nat_eq nat_eq_equiv (flat_map numbers_in a.each) (flat_map numbers_in vs) (one_alike a.each vs a.once)

not_true : (b c : Bool) → b ≡ not c → b ≡ true → c ≡ false
not_true b true e f = let z : true ≡ false = sym f ∙ e in absurd (cc)
not_true b false e f = refl

not_false : (b c : Bool) → b ≡ not c → b ≡ false → c ≡ true
not_false b true e f = refl
not_false b false e f = let z : true ≡ false = sym e ∙ f in absurd (cc)

-- a voucher comes that is not there
pub first_comes : (h h2 : Holders) (front back : List Numbers) (v : Numbers) (first : Bool) → AreHeld h (front ++ back) → first ≡ not (is_some (get same_numbers h.vouchers.counts v)) → first ≡ true
    → Counts same_numbers h2.vouchers.counts (front ++ v ∷ back)
    → ((xs ys : List ℕ) → Counts nat_eq h.numbers.counts (xs ++ ys) → Counts nat_eq h2.numbers.counts (xs ++ (numbers_in v ++ ys))) → AreHeld h2 (front ++ v ∷ back)
first_comes h h2 front back v first a is so vouchers f = record {
  vouchers = vouchers;
  each = v ∷ a.each;
  once = came_first same_numbers same_laws a.each front back v a.once
      (sym (there_is same_numbers same_laws h.vouchers.counts (front ++ back) v a.vouchers) ∙ not_true first (is_some (get same_numbers h.vouchers.counts v)) is so);
  numbers = f [] (flat_map numbers_in a.each) a.numbers;
}

-- or one that is
pub again_comes : (h h2 : Holders) (front back : List Numbers) (v : Numbers) (first : Bool) → AreHeld h (front ++ back) → first ≡ not (is_some (get same_numbers h.vouchers.counts v)) → first ≡ false
    → Counts same_numbers h2.vouchers.counts (front ++ v ∷ back) → h2.numbers.counts ≡ h.numbers.counts → AreHeld h2 (front ++ v ∷ back)
again_comes h h2 front back v first a is so vouchers kept = record {
  vouchers = vouchers;
  each = a.each;
  once = came_again same_numbers same_laws a.each front back v a.once
      (sym (there_is same_numbers same_laws h.vouchers.counts (front ++ back) v a.vouchers) ∙ not_false first (is_some (get same_numbers h.vouchers.counts v)) is so);
  numbers = rw kept a.numbers;
}

-- the last one of a voucher goes
pub last_goes : (h h2 : Holders) (front back : List Numbers) (v : Numbers) (last : Bool) → AreHeld h (front ++ v ∷ back) → last ≡ not (is_some (get same_numbers h2.vouchers.counts v)) → last ≡ true
    → Counts same_numbers h2.vouchers.counts (front ++ back)
    → ((xs ys : List ℕ) → Counts nat_eq h.numbers.counts (xs ++ (numbers_in v ++ ys)) → Counts nat_eq h2.numbers.counts (xs ++ ys)) → AreHeld h2 (front ++ back)
last_goes h h2 front back v last a is so vouchers f =
    let p = there_parted same_numbers same_laws same_eq a.each front back v a.once in
    record {
      vouchers = vouchers;
      each = p.before ++ p.after;
      once = went_last same_numbers same_laws p.before p.after front back v (subst (λ l. HasEachOnce same_numbers l (front ++ v ∷ back)) p.is a.once)
          (sym (there_is same_numbers same_laws h2.vouchers.counts (front ++ back) v vouchers) ∙ not_true last (is_some (get same_numbers h2.vouchers.counts v)) is so);
      numbers = subst (λ l. Counts nat_eq h2.numbers.counts l) (sym (flat_map-append numbers_in p.before p.after))
          (f (flat_map numbers_in p.before) (flat_map numbers_in p.after)
          (subst (λ l. Counts nat_eq h.numbers.counts l) (ap (flat_map numbers_in) p.is ∙ with_voucher p.before p.after v) a.numbers));
    }

-- or one of several
pub one_goes : (h h2 : Holders) (front back : List Numbers) (v : Numbers) (last : Bool) → AreHeld h (front ++ v ∷ back) → last ≡ not (is_some (get same_numbers h2.vouchers.counts v)) → last ≡ false
    → Counts same_numbers h2.vouchers.counts (front ++ back) → h2.numbers.counts ≡ h.numbers.counts → AreHeld h2 (front ++ back)
one_goes h h2 front back v last a is so vouchers kept = record {
  vouchers = vouchers;
  each = a.each;
  once = went_again same_numbers same_laws a.each front back v a.once
      (sym (there_is same_numbers same_laws h2.vouchers.counts (front ++ back) v vouchers) ∙ not_false last (is_some (get same_numbers h2.vouchers.counts v)) is so);
  numbers = rw kept a.numbers;
}
