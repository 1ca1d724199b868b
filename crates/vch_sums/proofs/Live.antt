-- Lists of live values: their numbers, and sums over them.
use Rattle.std.proofs.Common.{◌≡◌, ℕ, suc, ◌+◌, ◌<◌, ◌≤◌, Bool, List, [], ◌∷◌, ◌++◌, refl, true, false, arith, sym, ap, ◌∙◌, subst, length, Some, None, Option}
use Rattle.std.specs.Prelude.{if◌then◌else◌, ◌==◌}
use Rattle.std.specs.List.{AllByRecursion, sum_by}
use Rattle.std.proofs.lemmas.List.Sums.{sum_by-cons, sum_by_push}
use Rattle.vch_base.specs.declared.value.Value.{Value}
use Rattle.vch_base.specs.Values.{equal_values}
use Rattle.vch_model.specs.declared.entry.Entry.{Entry}
use Rattle.vch_model.specs.declared.entry.Entry.TheVariants as entries
use Rattle.vch_model.specs.declared.lists.Scenario.{Scenario}
use Rattle.vch_model.specs.Store.{Store, Message, Alive, member}
use Rattle.vch_model.specs.Lines.{line_at}
use Rattle.vch_model.specs.After.{store_of, without_made, is_want, lost}
use Rattle.vch_model.specs.Totals.{with_made}
use Rattle.vch_model.specs.Legal.{find_made}
use Rattle.vch_legal.specs.Facts.{bit, times}
use Rattle.vch_legal.proofs.CallerLemmas.{call_live, equals, values_refl, values_eq, number_eq, cases_bool}

-- The numbers rise, and none is behind the history.

abbrev pub Rising : List Alive → Type 0
Rising [] = Unit {0}
Rising (l ∷ live) = AllByRecursion (λ (m : Alive). l.made < m.made) live × Rising live

abbrev pub AreWithin : ℕ → List Alive → Type 0
AreWithin n live = AllByRecursion (λ (l : Alive). l.made ≤ n) live

all_with : (P : Alive → Type 0) (live : List Alive) (l : Alive) → AllByRecursion P live → P l → AllByRecursion P (live ++ l ∷ [])
all_with P [] l h p = (p, tt)
all_with P (x ∷ live) l h p = (h.0, all_with P live l h.1 p)

all_without : (P : Alive → Type 0) (live : List Alive) (e : ℕ) → AllByRecursion P live → AllByRecursion P (without_made live e)
all_without P [] e h = tt
all_without P (l ∷ live) e h = by_test (l.made == e) (all_without P live e h.1)
  where
    by_test : (b : Bool) → AllByRecursion P (without_made live e) → AllByRecursion P (if b then live else l ∷ without_made live e)
    by_test true later = h.1
    by_test false later = (h.0, later)

later : (n k : ℕ) (live : List Alive) → n ≤ k → AreWithin n live → AreWithin k live
later n k [] l h = tt
later n k (x ∷ live) l h = (omega (arith, l, h.0), later n k live l h.1)

rising_with : (n : ℕ) (live : List Alive) (l : Alive) → AreWithin n live → n < l.made → Rising live → Rising (live ++ l ∷ [])
rising_with n [] l w g h = (tt, tt)
rising_with n (x ∷ live) l w g h = (
  all_with (λ (m : Alive). x.made < m.made) live l h.0 (omega (arith, w.0, g)),
  rising_with n live l w.1 g h.1,
)

rising_without : (live : List Alive) (e : ℕ) → Rising live → Rising (without_made live e)
rising_without [] e h = tt
rising_without (l ∷ live) e h = by_test (l.made == e) (rising_without live e h.1)
  where
    by_test : (b : Bool) → Rising (without_made live e) → Rising (if b then live else l ∷ without_made live e)
    by_test true rest = h.1
    by_test false rest = (all_without (λ (m : Alive). l.made < m.made) live e h.0, rest)

pub record Numbered (n : ℕ) (live : List Alive) : Type 0 where
  pub within : AreWithin n live
  pub rising : Rising live

pub lost_live : (s : Store) (t : ℕ) (queue : List Message) → (lost s t queue).live ≡ s.live
lost_live s t [] = refl
lost_live s t (q ∷ queue) = refl

still : (n : ℕ) (live other : List Alive) → other ≡ live → Numbered n live → Numbered (suc n) other
still n live other e h = subst (Numbered (suc n)) (sym e) (record { within = later n (suc n) live (omega arith) h.within; rising = h.rising })

pub numbered : (sc : Scenario) (past : List Entry) → Numbered (length past) (store_of sc past).live
numbered sc [] = record { within = tt; rising = tt }
numbered sc (entries.Call t n word reply ∷ past) =
    still (length past) (store_of sc past).live _ (call_live sc (store_of sc past) t (line_at sc t n) (is_want reply)) (numbered sc past)
numbered sc (entries.Made k x ∷ past) =
    let h = numbered sc past in
    record {
      within = all_with (λ (l : Alive). l.made ≤ suc (length past)) (store_of sc past).live (record { key = k; value = x; made = length past + 1 })
          (later (length past) (suc (length past)) (store_of sc past).live (omega arith) h.within) (omega arith);
      rising = rising_with (length past) (store_of sc past).live (record { key = k; value = x; made = length past + 1 }) h.within (omega arith) h.rising;
    }
numbered sc (entries.Released e ∷ past) =
    let h = numbered sc past in
    record {
      within = all_without (λ (l : Alive). l.made ≤ suc (length past)) (store_of sc past).live e
          (later (length past) (suc (length past)) (store_of sc past).live (omega arith) h.within);
      rising = rising_without (store_of sc past).live e h.rising;
    }
numbered sc (entries.Gone t name ∷ past) = still (length past) (store_of sc past).live _ refl (numbered sc past)
numbered sc (entries.Lost t ∷ past) =
    still (length past) (store_of sc past).live _ (lost_live (store_of sc past) t (member (store_of sc past) t).queue) (numbered sc past)
numbered sc (entries.Phase ∷ past) = still (length past) (store_of sc past).live _ refl (numbered sc past)

-- What a number leads to.

none_above : (n : ℕ) (live : List Alive) (e : ℕ) → AreWithin n live → n < e → with_made live e ≡ None
none_above n [] e w g = refl
none_above n (l ∷ live) e w g = let i : (l.made == e) ≡ false = unlike l.made n e w.0 g in rw i (none_above n live e w.1 g)
  where
    unlike : (a n e : ℕ) → a ≤ n → n < e → (a == e) ≡ false
    unlike a n e l g = grind arith

none_below : (live : List Alive) (e : ℕ) → AllByRecursion (λ (m : Alive). e < m.made) live → with_made live e ≡ None
none_below [] e h = refl
none_below (l ∷ live) e h = let i : (l.made == e) ≡ false = unlike l.made e h.0 in rw i (none_below live e h.1)
  where
    unlike : (a e : ℕ) → e < a → (a == e) ≡ false
    unlike a e l = grind arith

with_more : (live : List Alive) (l : Alive) (e : ℕ) → with_made live l.made ≡ None
    → with_made (live ++ l ∷ []) e ≡ (if l.made == e then Some l.value else with_made live e)
with_more [] l e none = refl
with_more (x ∷ live) l e none = by_tests (x.made == l.made) (x.made == e) (l.made == e) refl refl refl none (with_more live l e)
  where
    clash : (a b c : ℕ) → (a == b) ≡ false → (a == c) ≡ true → (b == c) ≡ true → ⊥
    clash a b c p q r = let i : a ≡ b = number_eq a c q ∙ sym (number_eq b c r) in grind (arith, i, p)

    by_tests : (a b c : Bool) → (x.made == l.made) ≡ a → (x.made == e) ≡ b → (l.made == e) ≡ c
        → (if a then Some x.value else with_made live l.made) ≡ None
        → (with_made live l.made ≡ None → with_made (live ++ l ∷ []) e ≡ (if c then Some l.value else with_made live e))
        → (if b then Some x.value else with_made (live ++ l ∷ []) e)
        ≡ (if c then Some l.value else (if b then Some x.value else with_made live e))
    by_tests true b c p q r none rest = cc
    by_tests false true true p q r none rest = absurd (clash x.made l.made e p q r)
    by_tests false true false p q r none rest = refl
    by_tests false false c p q r none rest = rest none

-- with a new value
pub made_at : (n : ℕ) (live : List Alive) (k : ℕ) (x : Value) (e : ℕ) → Numbered n live
    → with_made (live ++ record { key = k; value = x; made = n + 1 } ∷ []) e ≡ (if (n + 1) == e then Some x else with_made live e)
made_at n live k x e h = with_more live (record { key = k; value = x; made = n + 1 }) e (none_above n live (n + 1) h.within (omega arith))

pub new_none : (n : ℕ) (live : List Alive) → Numbered n live → with_made live (n + 1) ≡ None
new_none n live h = none_above n live (n + 1) h.within (omega arith)

abbrev if_either : Bool → Option Value
if_either b = if b then None else None

-- without one
pub gone_at : (live : List Alive) (n e : ℕ) → Rising live → with_made (without_made live n) e ≡ (if n == e then None else with_made live e)
gone_at [] n e h = sym (if_none (n == e))
  where
    if_none : (b : Bool) → if_either b ≡ None
    if_none true = refl
    if_none false = refl
gone_at (l ∷ live) n e h = by_tests (l.made == n) (l.made == e) (n == e) refl refl refl (gone_at live n e h.1)
  where
    one : (a b c : ℕ) → (a == b) ≡ true → (a == c) ≡ false → (b == c) ≡ true → ⊥
    one a b c p q r = let i : a ≡ c = number_eq a b p ∙ number_eq b c r in grind (arith, i, q)

    two : (a b c : ℕ) → (a == b) ≡ true → (a == c) ≡ true → (b == c) ≡ false → ⊥
    two a b c p q r = let i : b ≡ c = sym (number_eq a b p) ∙ number_eq a c q in grind (arith, i, r)

    three : (a b c : ℕ) → (a == b) ≡ false → (a == c) ≡ true → (b == c) ≡ true → ⊥
    three a b c p q r = let i : a ≡ b = number_eq a c q ∙ sym (number_eq b c r) in grind (arith, i, p)

    by_tests : (a b c : Bool) → (l.made == n) ≡ a → (l.made == e) ≡ b → (n == e) ≡ c
        → with_made (without_made live n) e ≡ (if c then None else with_made live e)
        → with_made (if a then live else l ∷ without_made live n) e
        ≡ (if c then None else (if b then Some l.value else with_made live e))
    by_tests true true true p q r rest = none_below live e (subst (λ i. AllByRecursion (λ (m : Alive). i < m.made) live) (number_eq l.made e q) h.0)
    by_tests true true false p q r rest = absurd (two l.made n e p q r)
    by_tests true false true p q r rest = absurd (one l.made n e p q r)
    by_tests true false false p q r rest = refl
    by_tests false true true p q r rest = absurd (three l.made n e p q r)
    by_tests false true false p q r rest = rw q refl
    by_tests false false c p q r rest = rw q rest

pub found_value : (live : List Alive) (e : ℕ) (l : Alive) → find_made live e ≡ Some l → with_made live e ≡ Some l.value
found_value [] e l f = cc
found_value (x ∷ live) e l f = by_test (x.made == e) (found_value live e l) f
  where
    by_test : (b : Bool) → (find_made live e ≡ Some l → with_made live e ≡ Some l.value)
        → (if b then Some x else find_made live e) ≡ Some l
        → (if b then Some x.value else with_made live e) ≡ Some l.value
    by_test true rest g = ap (λ (o : Option Alive). elim o as (λ _. Option Value) [ None ↦ None | Some y ↦ Some y.value ]) g
    by_test false rest g = rest g

pub fewer_by_one : (live : List Alive) (n : ℕ) (x : Value) → with_made live n ≡ Some x → length (without_made live n) + 1 ≡ length live
fewer_by_one [] n x f = cc
fewer_by_one (l ∷ live) n x f = by_test (l.made == n) (fewer_by_one live n x) f
  where
    by_test : (b : Bool) → (with_made live n ≡ Some x → length (without_made live n) + 1 ≡ length live)
        → (if b then Some l.value else with_made live n) ≡ Some x
        → length (if b then live else l ∷ without_made live n) + 1 ≡ suc (length live)
    by_test true rest g = omega arith
    by_test false rest g = let i = rest g in omega (arith, i)

-- Sums of what each value counts.

abbrev pub total : (Value → ℕ) → List Alive → ℕ
total F live = sum_by (λ (l : Alive). F l.value) live

total_cons : (F : Value → ℕ) (l : Alive) (live : List Alive) → total F (l ∷ live) ≡ F l.value + total F live
total_cons F l live = sum_by-cons (λ (y : Alive). F y.value) l live

pub total_same : (F G : Value → ℕ) (live : List Alive) → AllByRecursion (λ (l : Alive). G l.value ≡ F l.value) live → total G live ≡ total F live
total_same F G [] h = refl
total_same F G (l ∷ live) h =
    let a = total_cons G l live in let b = total_cons F l live in let c = h.0 in let d = total_same F G live h.1 in omega (arith, a, b, c, d)

pub each_value : (P : Value → Type 0) (live : List Alive) → ((x : Value) → P x) → AllByRecursion (λ (l : Alive). P l.value) live
each_value P [] h = tt
each_value P (l ∷ live) h = (h l.value, each_value P live h)

pub value_all : (P : Value → Type 0) (live : List Alive) (e : ℕ) (x : Value) → AllByRecursion (λ (l : Alive). P l.value) live
    → with_made live e ≡ Some x → P x
value_all P [] e x h f = cc
value_all P (l ∷ live) e x h f = by_test (l.made == e) (value_all P live e x h.1) f
  where
    some_value : {a b : Value} → Some a ≡ Some b → a ≡ b
    some_value g = cc

    by_test : (b : Bool) → (with_made live e ≡ Some x → P x) → (if b then Some l.value else with_made live e) ≡ Some x → P x
    by_test true rest g = subst P (some_value g) h.0
    by_test false rest g = rest g

pub total_more : (F : Value → ℕ) (live : List Alive) (k n : ℕ) (x : Value)
    → total F (live ++ record { key = k; value = x; made = n } ∷ []) ≡ total F live + F x
total_more F live k n x = sum_by_push (λ (l : Alive). F l.value) live (record { key = k; value = x; made = n })

pub total_less : (F : Value → ℕ) (live : List Alive) (n : ℕ) (x : Value) → with_made live n ≡ Some x
    → total F live ≡ total F (without_made live n) + F x
total_less F [] n x f = cc
total_less F (l ∷ live) n x f = by_test (l.made == n) (total_less F live n x) f
  where
    by_test : (b : Bool) → (with_made live n ≡ Some x → total F live ≡ total F (without_made live n) + F x)
        → (if b then Some l.value else with_made live n) ≡ Some x
        → total F (l ∷ live) ≡ total F (if b then live else l ∷ without_made live n) + F x
    by_test true rest g = let a = total_cons F l live in
        let i : F l.value ≡ F x = ap (λ (o : Option Value). elim o as (λ _. ℕ) [ None ↦ 0 | Some y ↦ F y ]) g in omega (arith, a, i)
    by_test false rest g = let a = total_cons F l live in let b = total_cons F l (without_made live n) in let c = rest g in omega (arith, a, b, c)

-- One value alone changes.

unlike_all : (F G : Value → ℕ) (x : Value) → ((y : Value) → equal_values x y ≡ false → G y ≡ F y) → (live : List Alive)
    → times (equals x) live ≡ 0 → total G live ≡ total F live
unlike_all F G x other [] e = refl
unlike_all F G x other (l ∷ live) e =
    let a = total_cons G l live in
    let b = total_cons F l live in
    let c = other l.value (turned l.value (not_one (equal_values l.value x) (times (equals x) live) e)) in
    let d = unlike_all F G x other live (rest (equal_values l.value x) (times (equals x) live) e) in
    omega (arith, a, b, c, d)
  where
    not_one : (b : Bool) (n : ℕ) → bit b + n ≡ 0 → b ≡ false
    not_one b n g = grind arith

    rest : (b : Bool) (n : ℕ) → bit b + n ≡ 0 → n ≡ 0
    rest b n g = grind arith

    turned : (y : Value) → equal_values y x ≡ false → equal_values x y ≡ false
    turned y e = cases_bool (equal_values x y) (equal_values x y ≡ false)
        (λ same. let i : equal_values y x ≡ true = subst (λ (z : Value). equal_values y z ≡ true) (sym (values_eq x y same)) (values_refl y) in
        let j : true ≡ false = sym i ∙ e in cc)
        (λ no_. no_)

pub total_changed : (F G : Value → ℕ) (x : Value) (k : ℕ) → ((y : Value) → equal_values x y ≡ false → G y ≡ F y) → G x ≡ F x + k
    → (live : List Alive) (n : ℕ) → with_made live n ≡ Some x → times (equals x) live ≤ 1 → total G live ≡ total F live + k
total_changed F G x k other own [] n f most = cc
total_changed F G x k other own (l ∷ live) n f most =
    by_same (equal_values l.value x) refl most (λ rest m. total_changed F G x k other own live n rest m)
  where
    some_value : {a b : Value} → Some a ≡ Some b → a ≡ b
    some_value g = cc

    none_left : (n : ℕ) → 1 + n ≤ 1 → n ≡ 0
    none_left n g = omega arith

    in_rest : (b : Bool) → equal_values l.value x ≡ false → (if b then Some l.value else with_made live n) ≡ Some x → with_made live n ≡ Some x
    in_rest true e g = let i : equal_values l.value x ≡ true = subst (λ (z : Value). equal_values z x ≡ true) (sym (some_value g)) (values_refl x) in
        let j : true ≡ false = sym i ∙ e in cc
    in_rest false e g = g

    turned : (y : Value) → equal_values y x ≡ false → equal_values x y ≡ false
    turned y e = cases_bool (equal_values x y) (equal_values x y ≡ false)
        (λ same. let i : equal_values y x ≡ true = subst (λ (z : Value). equal_values y z ≡ true) (sym (values_eq x y same)) (values_refl y) in
        let j : true ≡ false = sym i ∙ e in cc)
        (λ no_. no_)

    by_same : (b : Bool) → equal_values l.value x ≡ b → bit b + times (equals x) live ≤ 1
        → (with_made live n ≡ Some x → times (equals x) live ≤ 1 → total G live ≡ total F live + k)
        → total G (l ∷ live) ≡ total F (l ∷ live) + k
    by_same true e m rest =
        let v : l.value ≡ x = values_eq l.value x e in
        let a = total_cons G l live in
        let b = total_cons F l live in
        let c : G l.value ≡ F l.value + k = subst (λ (z : Value). G z ≡ F z + k) (sym v) own in
        let d = unlike_all F G x other live (none_left (times (equals x) live) m) in
        omega (arith, a, b, c, d)
    by_same false e m rest =
        let a = total_cons G l live in
        let b = total_cons F l live in
        let c = other l.value (turned l.value e) in
        let d = rest (in_rest (l.made == n) e f) (omega (arith, m)) in
        omega (arith, a, b, c, d)

-- two numbers of one value are one
pub one_number : (live : List Alive) (x : Value) (a b : ℕ) → with_made live a ≡ Some x → with_made live b ≡ Some x
    → times (equals x) live ≤ 1 → a ≡ b
one_number [] x a b f g most = cc
one_number (l ∷ live) x a b f g most = by_tests (l.made == a) (l.made == b) refl refl f g (λ p q. one_number live x a b p q)
  where
    some_value : {u v : Value} → Some u ≡ Some v → u ≡ v
    some_value g = cc

    among : (live : List Alive) (n : ℕ) → with_made live n ≡ Some x → 1 ≤ times (equals x) live
    among [] n f = cc
    among (m ∷ live) n f = by_test (m.made == n) f (among live n)
      where
        by_test : (b : Bool) → (if b then Some m.value else with_made live n) ≡ Some x → (with_made live n ≡ Some x → 1 ≤ times (equals x) live)
            → 1 ≤ bit (equal_values m.value x) + times (equals x) live
        by_test true g rest = let i : equal_values m.value x ≡ true = subst (λ (z : Value). equal_values z x ≡ true) (sym (some_value g)) (values_refl x) in
            rw i (omega arith)
        by_test false g rest = let i = rest g in omega (arith, i)

    here : Some l.value ≡ Some x → equal_values l.value x ≡ true
    here g = subst (λ (z : Value). equal_values z x ≡ true) (sym (some_value g)) (values_refl x)

    two : (n : ℕ) → Some l.value ≡ Some x → with_made live n ≡ Some x → ⊥
    two n p q =
        let i : bit (equal_values l.value x) ≡ 1 = ap bit (here p) in
        let j = among live n q in omega (arith, i, j, most)

    by_tests : (p q : Bool) → (l.made == a) ≡ p → (l.made == b) ≡ q
        → (if p then Some l.value else with_made live a) ≡ Some x → (if q then Some l.value else with_made live b) ≡ Some x
        → (with_made live a ≡ Some x → with_made live b ≡ Some x → times (equals x) live ≤ 1 → a ≡ b) → a ≡ b
    by_tests true true p q f g rest = sym (number_eq l.made a p) ∙ number_eq l.made b q
    by_tests true false p q f g rest = absurd (two b f g)
    by_tests false true p q f g rest = absurd (two a g f)
    by_tests false false p q f g rest = rest f g (fewer most)
      where
        fewer : bit (equal_values l.value x) + times (equals x) live ≤ 1 → times (equals x) live ≤ 1
        fewer m = omega (arith, m)
