-- The accepted charges of a legal history are in the ledgers of tasks, or due on live accounts.
use Rattle.std.proofs.Common.{◌≡◌, ℕ, ◌+◌, ◌*◌, ◌≤◌, Bool, List, [], ◌∷◌, refl, true, false, ◌&&◌, ◌||◌, arith, sym, ap, ◌∙◌, subst, length, Some, Option}
use Rattle.std.proofs.lemmas.List.Sums.{sum_by-cons}
use Rattle.std.specs.Prelude.{if◌then◌else◌, ◌==◌}
use Rattle.std.specs.List.{list_any, sum_by}
use Rattle.vch_base.specs.declared.key.Key.TheVariants as keys
use Rattle.vch_base.specs.declared.value.Value.{Value}
use Rattle.vch_base.specs.declared.value.Value.TheVariants as values
use Rattle.vch_base.specs.Values.{equal_values, task_numbers}
use Rattle.vch_model.specs.declared.call.Call.TheVariants as calls
use Rattle.vch_model.specs.declared.call.Line.{Line}
use Rattle.vch_model.specs.declared.entry.Entry.{Entry}
use Rattle.vch_model.specs.declared.lists.Scenario.{Scenario}
use Rattle.vch_model.specs.Voucher.{equal_options, value_in}
use Rattle.vch_model.specs.Store.{Store, Alive, is_alive}
use Rattle.vch_model.specs.Lines.{is_task}
use Rattle.vch_model.specs.Totals.{named_voucher, charged, due, ledger}
use Rattle.vch_model.specs.Legal.{all_tasks}
use Rattle.vch_legal.specs.Facts.{bit, times}
use Rattle.vch_legal.specs.Conserved.{each_task, charge_in, account_due}
use Rattle.vch_legal.proofs.facts.Choices.{cases_bool}
use Rattle.vch_legal.proofs.seen.SeenHeld.{values_refl, values_eq}
use Rattle.vch_legal.proofs.store.StoreSteps.{AllGood, equals}
use Rattle.vch_legal.proofs.sums.Conservation.{each_same, each_more, task_range, live_same}

-- the sums after an accepted call
abbrev pub ledgers_after : Scenario → List Entry → Store → ℕ → Option (ℕ × Line) → ℕ
ledgers_after sc past s t line = each_task (λ u. if t == u then charged s u (values.Task u)
    (ledger sc past u) line else ledger sc past u) (length sc.flags)

abbrev pub due_after : Scenario → List Entry → Store → ℕ → Option (ℕ × Line) → Value → ℕ
due_after sc past s t line (values.Account a b) = charged s t (values.Account a b)
    (due sc past (values.Account a b)) line
due_after sc past s t line x = 0

abbrev pub dues_after : Scenario → List Entry → Store → ℕ → Option (ℕ × Line) → ℕ
dues_after sc past s t line = sum_by (λ (l : Alive). due_after sc past s t line l.value) s.live

abbrev pub Balanced : Scenario → List Entry → Store → ℕ → Option (ℕ × Line) → Type 0
Balanced sc past s t line =
    (each_task (ledger sc past) (length sc.flags) + sum_by (λ (l : Alive). account_due sc past l.value) s.live) +
    charge_in line
    ≡ ledgers_after sc past s t line + dues_after sc past s t line

-- a call that charges nothing
abbrev pub ChargesNothing : Option (ℕ × Line) → Type 0
ChargesNothing line = (s : Store) (t : ℕ) (x : Value) (amount : ℕ) → charged s t x amount line ≡ amount

if_same : (b : Bool) (x y : ℕ) → x ≡ y → (if b then x else y) ≡ y
if_same true x y e = e
if_same false x y e = refl

due_same : (sc : Scenario) (past : List Entry) (s : Store) (t : ℕ) (line : Option (ℕ × Line)) → ChargesNothing line
    → (x : Value) → account_due sc past x ≡ due_after sc past s t line x
due_same sc past s t line none (values.Account a b) = sym (none s t (values.Account a b)
    (due sc past (values.Account a b)))
due_same sc past s t line none (values.User bytes) = refl
due_same sc past s t line none (values.Chain list) = refl
due_same sc past s t line none values.Default = refl
due_same sc past s t line none (values.Task u) = refl

pub nothing_balanced : (sc : Scenario) (past : List Entry) (s : Store) (t : ℕ) (line : Option (ℕ × Line))
    → AllGood sc s.live → ChargesNothing line → charge_in line ≡ 0 → Balanced sc past s t line
nothing_balanced sc past s t line good none zero_ =
    joined _ _ _ _ _ (each_same (ledger sc past) _ (length sc.flags)
    (λ u. sym (if_same (t == u) (charged s u (values.Task u) (ledger sc past u) line) (ledger sc past u)
    (none s u (values.Task u) (ledger sc past u)))))
    (live_same sc _ _ s.live good (λ l g. due_same sc past s t line none l.value)) zero_
  where
    joined : (a b c d e : ℕ) → a ≡ c → b ≡ d → e ≡ 0 → (a + b) + e ≡ c + d
    joined a b c d e x y z = omega arith

-- An accepted charge, of a value that the voucher of the name has at the bank.

-- no element equals x
no_times : (live : List Alive) (x : Value) (f : Alive → ℕ) (k : ℕ)
    → sum_by (λ l. if equal_values l.value x then f l + k else f l) live ≡ sum_by f live + k * times (equals x) live
no_times [] x f k = none k
  where
    none : (k : ℕ) → 0 ≡ 0 + k * 0
    none k = grind arith
no_times (l ∷ live) x f k =
    rw (sum_by-cons (λ (y : Alive). if equal_values y.value x then f y + k else f y) l live, sum_by-cons f l live)
    (by_test (equal_values l.value x) (f l) (sum_by (λ y. if equal_values y.value x then f y + k else f y) live)
    (sum_by f live) (times (equals x) live) (no_times live x f k))
  where
    by_test : (b : Bool) (a y z n : ℕ) → y ≡ z + k * n → (if b then a + k else a) + y ≡ (a + z) + k * (bit b + n)
    by_test true a y z n e = grind arith
    by_test false a y z n e = grind arith

-- exactly one live value equals a live one
pub live_once : (sc : Scenario) (live : List Alive) (k : ℕ) (x : Value) → times (equals x) live ≤ 1
    → list_any (is_alive k x) live ≡ true → times (equals x) live ≡ 1
live_once sc live k x most any = one_of _ most (at_least live any)
  where
    one_of : (n : ℕ) → n ≤ 1 → 1 ≤ n → n ≡ 1
    one_of n a b = omega arith

    at_least : (live : List Alive) → list_any (is_alive k x) live ≡ true → 1 ≤ times (equals x) live
    at_least [] h = cc
    at_least (l ∷ live) h = by_test (equal_values l.value x) (l.key == k) (at_least live) h
      where
        by_test : (b c : Bool) → (list_any (is_alive k x) live ≡ true → 1 ≤ times (equals x) live)
            → ((c && b) || list_any (is_alive k x) live) ≡ true → 1 ≤ bit b + times (equals x) live
        by_test true c later g = omega arith
        by_test false true later g = let i : 1 ≤ times (equals x) live = later g in omega arith
        by_test false false later g = let i : 1 ≤ times (equals x) live = later g in omega arith

-- a live value names tasks of the scenario
pub live_tasks : (sc : Scenario) (live : List Alive) (k : ℕ) (x : Value) → AllGood sc live
    → list_any (is_alive k x) live ≡ true → all_tasks sc (task_numbers x) ≡ true
live_tasks sc [] k x good h = cc
live_tasks sc (l ∷ live) k x good h =
    cases_bool (equal_values l.value x) (all_tasks sc (task_numbers x) ≡ true)
    (λ same. subst (λ (y : Value). all_tasks sc (task_numbers y) ≡ true) (values_eq l.value x same) good.0.tasks)
    (λ other. live_tasks sc live k x good.1 (later (l.key == k) (equal_values l.value x)
    (list_any (is_alive k x) live) other h))
  where
    later : (a b c : Bool) → b ≡ false → ((a && b) || c) ≡ true → c ≡ true
    later a b c e g = grind arith

abbrev pub charge_line : ℕ → ℕ → ℕ → ℕ → Option (ℕ × Line)
charge_line phase u name n = Some (phase, record { task = u; call = calls.Charge name n })

task_due : (sc : Scenario) (past : List Entry) (s : Store) (t phase u name n : ℕ) (x : Value)
    → value_in keys.Bank (named_voucher s t name) ≡ Some (values.Task t)
    → account_due sc past x ≡ due_after sc past s t (charge_line phase u name n) x
task_due sc past s t phase u name n (values.Account a b) e =
    sym (ap (λ o. if equal_options o (Some (values.Account a b)) then due sc past
    (values.Account a b) + n else due sc past (values.Account a b)) e)
task_due sc past s t phase u name n (values.User bytes) e = refl
task_due sc past s t phase u name n (values.Chain list) e = refl
task_due sc past s t phase u name n values.Default e = refl
task_due sc past s t phase u name n (values.Task v) e = refl

-- a charge on the task's own value
pub task_balanced : (sc : Scenario) (past : List Entry) (s : Store) (t phase u name n : ℕ) → AllGood sc s.live
    → is_task sc t ≡ true → value_in keys.Bank (named_voucher s t name) ≡ Some (values.Task t)
    → Balanced sc past s t (charge_line phase u name n)
task_balanced sc past s t phase u name n good task e =
    joined _ _ _ _ (each_same _ _ (length sc.flags) (λ v. at_task v (t == v) refl)
    ∙ each_more (ledger sc past) t n (length sc.flags) (task_range sc t task).0 (task_range sc t task).1)
    (live_same sc _ _ s.live good (λ l g. task_due sc past s t phase u name n l.value e))
  where
    joined : (a b c d : ℕ) → c ≡ a + n → b ≡ d → (a + b) + n ≡ c + d
    joined a b c d x y = omega arith

    same_number : (a b : ℕ) → (a == b) ≡ true → a ≡ b
    same_number a b g = grind arith

    task_equal : (v : ℕ) → (values_equal : equal_values (values.Task v) (values.Task v) ≡ true)
        → value_in keys.Bank (named_voucher s v name) ≡ Some (values.Task v)
        → (if equal_options (value_in keys.Bank (named_voucher s v name))
        (Some (values.Task v)) then ledger sc past v + n else ledger sc past v) ≡ ledger sc past v + n
    task_equal v g k = rw (k, g) refl

    at_task : (v : ℕ) (b : Bool) → (t == v) ≡ b
        → (if t == v then (if equal_options (value_in keys.Bank (named_voucher s v name))
        (Some (values.Task v)) then ledger sc past v + n else ledger sc past v) else ledger sc past v)
        ≡ (if t == v then ledger sc past v + n else ledger sc past v)
    at_task v true g = ap (λ (a : ℕ). if t == v then a else ledger sc past v)
        (task_equal v (values_refl (values.Task v)) (subst (λ w. value_in keys.Bank (named_voucher s w name) ≡ Some
        (values.Task w)) (same_number t v g) e))
    at_task v false g = rw g refl

account_if : (sc : Scenario) (past : List Entry) (s : Store) (t phase u name n h m : ℕ) (x : Value)
    → value_in keys.Bank (named_voucher s t name) ≡ Some (values.Account h m)
    → (if equal_values x (values.Account h m) then account_due sc past x + n else account_due sc past x)
    ≡ due_after sc past s t (charge_line phase u name n) x
account_if sc past s t phase u name n h m (values.Account a b) e =
    turned (equal_values (values.Account a b) (values.Account h m))
    (equal_values (values.Account h m) (values.Account a b)) (due sc past (values.Account a b))
    (flipped (values.Account a b) (values.Account h m))
    ∙ sym (ap (λ o. if equal_options o (Some (values.Account a b)) then due sc past
    (values.Account a b) + n else due sc past (values.Account a b)) e)
  where
    turned : (b c : Bool) (d : ℕ) → b ≡ c → (if b then d + n else d) ≡ (if c then d + n else d)
    turned b c d g = rw g refl

    one_way : (x y : Value) → equal_values x y ≡ true → equal_values y x ≡ true
    one_way x y g = subst (λ z. equal_values z x ≡ true) (values_eq x y g) (values_refl x)

    flipped : (x y : Value) → equal_values x y ≡ equal_values y x
    flipped x y = by_tests (equal_values x y) (equal_values y x) refl refl
      where
        by_tests : (b c : Bool) → equal_values x y ≡ b → equal_values y x ≡ c → b ≡ c
        by_tests true c p q = sym (one_way x y p) ∙ q
        by_tests false true p q = let i : equal_values x y ≡ true = one_way y x q in let j : true ≡ false =
            sym i ∙ p in cc
        by_tests false false p q = refl
account_if sc past s t phase u name n h m (values.User bytes) e = refl
account_if sc past s t phase u name n h m (values.Chain list) e = refl
account_if sc past s t phase u name n h m values.Default e = refl
account_if sc past s t phase u name n h m (values.Task v) e = refl

-- a charge on an account
pub account_balanced : (sc : Scenario) (past : List Entry) (s : Store) (t phase u name n h m : ℕ) → AllGood sc s.live
    → times (equals (values.Account h m)) s.live ≡ 1
    → value_in keys.Bank (named_voucher s t name) ≡ Some (values.Account h m)
    → Balanced sc past s t (charge_line phase u name n)
account_balanced sc past s t phase u name n h m good once e =
    joined _ _ _ _ (times (equals (values.Account h m)) s.live) once
    (each_same (ledger sc past) _ (length sc.flags) (λ v. at_task v (t == v) refl))
    (sym (no_times s.live (values.Account h m) (λ l. account_due sc past l.value) n)
    ∙ live_same sc _ _ s.live good (λ l g. account_if sc past s t phase u name n h m l.value e))
  where
    joined : (a b c d k : ℕ) → k ≡ 1 → a ≡ c → b + n * k ≡ d → (a + b) + n ≡ c + d
    joined a b c d k one_ x y = grind arith

    same_number : (a b : ℕ) → (a == b) ≡ true → a ≡ b
    same_number a b g = grind arith

    at_task : (v : ℕ) (b : Bool) → (t == v) ≡ b
        → ledger sc past v ≡ (if t == v then (if equal_options (value_in keys.Bank (named_voucher s v name))
        (Some (values.Task v)) then ledger sc past v + n else ledger sc past v) else ledger sc past v)
    at_task v true g = let k : value_in keys.Bank (named_voucher s v name) ≡ Some (values.Account h m) =
        subst (λ w. value_in keys.Bank (named_voucher s w name) ≡ Some (values.Account h m)) (same_number t v g) e
        in rw (g, k) refl
    at_task v false g = rw g refl
