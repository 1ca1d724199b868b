-- The counts follow the vouchers.
use Rattle.std.proofs.Common.{◌≡◌, ℕ, ◌<◌, List, [], ◌∷◌, ◌++◌, refl, ap, sym, ◌∙◌, subst, length, get_or, set, zero, suc, replicate, true, false, Option, Some, None, Result, Ok, Err}
use Rattle.std.specs.Prelude.{OnOk, is_some}
use Rattle.std.proofs.lemmas.Grind.{flat_map-append}
use Rattle.std.proofs.lemmas.List.{append_assoc}
use Rattle.std.specs.List.{flat_map}
use Rattle.vch_books.specs.declared.numbers.Numbers.{Numbers}
use Rattle.vch_books.specs.declared.holders.Holders.{Holders}
use Rattle.vch_books.specs.Desks.{Desk, empty_desk}
use Rattle.vch_books.specs.Holding.{AreHeld, numbers_in, all_numbers}
use Rattle.vch_books.proofs.Tallies.{Comes, Stays, IsOneMore, all_come, all_go, all_stay}

pub ok_then : {X E : Type 0} (r : Result X E) (P Q : Type 0) → (P → Q) → OnOk r P → OnOk r Q
ok_then (Ok x) P Q f p = f p
ok_then (Err e) P Q f p = tt

pub four_apart : (a b c d back : List ℕ) → (a ++ (b ++ (c ++ d))) ++ back ≡ a ++ (b ++ (c ++ (d ++ back)))
four_apart a b c d back =
    append_assoc a (b ++ (c ++ d)) back ∙ (ap (λ l. a ++ l) (append_assoc b (c ++ d) back) ∙ ap (λ l. a ++ (b ++ l)) (append_assoc c d back))

pub with_voucher : (front back : List Numbers) (v : Numbers) → flat_map numbers_in (front ++ v ∷ back) ≡ flat_map numbers_in front ++ (numbers_in v ++ flat_map numbers_in back)
with_voucher front back v = flat_map-append numbers_in front (v ∷ back)

-- a voucher of one task comes
pub held_more : (h h2 : Holders) (tasks : List Desk) (i : ℕ) (v : Numbers) (old new : Desk) → i < length tasks → old ≡ get_or tasks i old → Comes v old new → AreHeld h (all_numbers tasks)
    → ((front back : List Numbers) → AreHeld h (front ++ back) → AreHeld h2 (front ++ v ∷ back)) → AreHeld h2 (all_numbers (set tasks i new))
held_more h h2 tasks i v old new inside is m a f =
    let o = all_come tasks i v old new inside is m in
    subst (AreHeld h2) (sym o.with) (f o.front o.back (subst (AreHeld h) o.without a))

-- or goes
pub held_less : (h h2 : Holders) (tasks : List Desk) (i : ℕ) (v : Numbers) (old new : Desk) → i < length tasks → old ≡ get_or tasks i old → Comes v new old → AreHeld h (all_numbers tasks)
    → ((front back : List Numbers) → AreHeld h (front ++ v ∷ back) → AreHeld h2 (front ++ back)) → AreHeld h2 (all_numbers (set tasks i new))
held_less h h2 tasks i v old new inside is m a f =
    let o = all_go tasks i v old new inside is m in
    subst (AreHeld h2) (sym o.without) (f o.front o.back (subst (AreHeld h) o.with a))

pub held_same : (h : Holders) (tasks : List Desk) (i : ℕ) (old new : Desk) → old ≡ get_or tasks i old → Stays old new → AreHeld h (all_numbers tasks) → AreHeld h (all_numbers (set tasks i new))
held_same h tasks i old new is m a = subst (AreHeld h) (sym (all_stay tasks i old new is m)) a

pub nobody_holds : (n : ℕ) → all_numbers (replicate n empty_desk) ≡ []
nobody_holds zero = refl
nobody_holds (suc n) = nobody_holds n

pub none_of : {A : Type 0} (o : Option A) → is_some o ≡ false → o ≡ None
none_of None e = refl
none_of (Some x) e = absurd (cc)

pub some_of : {A : Type 0} (o : Option A) → is_some o ≡ true → (x : A) × (o ≡ Some x)
some_of None e = absurd (cc)
some_of (Some x) e = (x, refl)
