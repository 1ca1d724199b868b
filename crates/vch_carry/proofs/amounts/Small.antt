-- What was charged in a run of a limited scenario has room for one charge more.
use Rattle.std.proofs.Common.{◌≡◌, ℕ, suc, ◌+◌, ◌*◌, ◌<◌, ◌≤◌, ◌^◌, List, [], ◌∷◌, refl, arith, sym, subst, length, get_or, Option, Some, None}
use Rattle.std.specs.List.{sum, sum_by}
use Rattle.std.proofs.lemmas.List.Sums.{sum_by-cons}
use Rattle.vch_base.specs.declared.key.Key.TheVariants as keys
use Rattle.vch_base.specs.declared.places.Live.{Live}
use Rattle.vch_base.specs.declared.value.Value.{Value}
use Rattle.vch_base.specs.declared.value.Value.TheVariants as values
use Rattle.vch_base.specs.Managers.{live_at, due_of}
use Rattle.vch_bank.specs.Bank.{total_of}
use Rattle.vch_bounds.specs.Bounded.{Limited}
use Rattle.vch_model.specs.Grammar.{IsSmall}
use Rattle.vch_model.specs.Lines.{line_at}
use Rattle.vch_model.specs.declared.call.Line.{Line}
use Rattle.vch_model.specs.declared.entry.Entry.{Entry}
use Rattle.vch_model.specs.declared.lists.Scenario.{Scenario}
use Rattle.vch_legal.specs.ValueAmounts.{amount_of}
use Rattle.vch_legal.proofs.CallerLemmas.{added, credited, external_few, due_few, ledger_few, line_has, task_of}
use Rattle.vch_parts.specs.declared.parts.Parts.{Parts}
use Rattle.vch_parts.specs.Reached.{Reached}
use Rattle.vch_parts.proofs.CallerLemmas.{numbers_of}

-- lists of small numbers

sum_few : (xs : List ℕ) (most : ℕ) → ((i : ℕ) → i < length xs → get_or xs i 0 ≤ most) → sum xs ≤ most * length xs
sum_few [] most h = omega arith
sum_few (x ∷ xs) most h =
    let a : x ≤ most = h 0 (omega arith) in
    let b : sum xs ≤ most * length xs = sum_few xs most (λ i l. h (suc i) (omega (arith, l))) in
    let e : sum (x ∷ xs) ≡ x + sum xs = sum_by-cons (λ y. y) x xs in
    more x (sum xs) (sum (x ∷ xs)) (length xs) a b e
  where
    more : (x s t n : ℕ) → x ≤ most → s ≤ most * n → t ≡ x + s → t ≤ most * suc n
    more x s t n a b e = grind (arith, a, b, e)

dues_few : (slots : List (Option Live)) (most : ℕ) → ((i : ℕ) → due_of (get_or slots i None) ≤ most) → sum_by due_of slots ≤ most * length slots
dues_few [] most h = omega arith
dues_few (o ∷ slots) most h =
    let a : due_of o ≤ most = h 0 in
    let b : sum_by due_of slots ≤ most * length slots = dues_few slots most (λ i. h (suc i)) in
    let e : sum_by due_of (o ∷ slots) ≡ due_of o + sum_by due_of slots = sum_by-cons due_of o slots in
    more (due_of o) (sum_by due_of slots) (sum_by due_of (o ∷ slots)) (length slots) a b e
  where
    more : (x s t n : ℕ) → x ≤ most → s ≤ most * n → t ≡ x + s → t ≤ most * suc n
    more x s t n a b e = grind (arith, a, b, e)

module _ (sc : Scenario) (limited : Limited sc) where
  small : (t n : ℕ) (l : ℕ × Line) → line_at sc t n ≡ Some l → IsSmall l.1.call
  small t n l e = line_has (λ (l : Line). IsSmall l.call) sc t n l limited.numbers e

  amount_few : (past : List Entry) (x : Value) → amount_of sc past x ≤ added (length past)
  amount_few past (values.Chain list) = external_few sc small past (values.Chain list)
  amount_few past (values.Account holder merchant) = due_few sc small past (values.Account holder merchant)
  amount_few past (values.User bytes) = omega arith
  amount_few past values.Default = omega arith
  amount_few past (values.Task t) = omega arith

-- one charge more has room in the bank's total
pub charge_fits : (p : Parts) (n : ℕ) → Reached p → n ≤ 4294967295 → total_of p.values.bank.kept + n < 2 ^ 128
charge_fits p n reached few = numbers_of p _ reached (λ m s ties numbers.
    let past = numbers.past in
    let tasks : length p.values.bank.kept.ledgers ≤ 64 = subst (λ k. k ≤ 64) (sym s.ledgers.long) reached.limited.tasks in
    let slots : length p.values.bank.kept.slots ≤ 1342177281 = subst (λ k. k ≤ 1342177281) (sym (s.keyed keys.Bank).used) (numbers.used keys.Bank) in
    let a : sum p.values.bank.kept.ledgers ≤ 79228162514264337593543950336 * length p.values.bank.kept.ledgers = sum_few p.values.bank.kept.ledgers 79228162514264337593543950336 (λ i l.
    let b = s.ledgers.each (suc i) (task_of p.scenario (suc i) (omega arith) (let z = s.ledgers.long in omega (arith, l, z))) in
    ledger_below _ _ (length m.past) b (ledger_few p.scenario (small p.scenario reached.limited) m.past (suc i) (omega (arith, past))) past) in
    let d : sum_by due_of p.values.bank.kept.slots ≤ 18446744073709551616 * length p.values.bank.kept.slots = dues_few p.values.bank.kept.slots 18446744073709551616 (λ i.
    of_live (length m.past) past (live_at p.values.bank.kept.slots i) (λ l e. subst (λ x. x ≤ added (length m.past)) (sym ((s.keyed keys.Bank).dues i l e)) (amount_few p.scenario reached.limited m.past l.value))) in
    fits _ _ _ _ a d tasks slots)
  where
    ledger_below : (x y k : ℕ) → x ≡ y → y ≤ credited k → k < 2 ^ 32 → x ≤ 79228162514264337593543950336
    ledger_below x y k e l f = omega (arith, e, l, f)

    of_live : (k : ℕ) → k < 2 ^ 32 → (o : Option Live) → ((l : Live) → o ≡ Some l → l.due ≤ added k) → due_of o ≤ 18446744073709551616
    of_live k f None h = omega arith
    of_live k f (Some l) h = let a = h l refl in omega (arith, a, f)

    fits : (a b i j : ℕ) → a ≤ 79228162514264337593543950336 * i → b ≤ 18446744073709551616 * j → i ≤ 64 → j ≤ 1342177281 → a + b + n < 2 ^ 128
    fits a b i j x y z w = omega (arith, x, y, z, w, few)
