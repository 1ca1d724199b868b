-- Sums over tasks: what is held equals what is out, and the accepted charges are in ledgers or due.
use Rattle.std.proofs.Common.{◌≡◌, ℕ, zero, suc, ◌+◌, ◌≤◌, ◌<◌, Bool, List, [], ◌∷◌, refl, true, false, ◌&&◌, arith, sym, ap, ◌∙◌, length}
use Rattle.std.proofs.lemmas.List.Sums.{sum_by-cons}
use Rattle.std.specs.Prelude.{if◌then◌else◌, ◌==◌, nat_lt, slice_index}
use Rattle.std.specs.List.{list_all, sum_by}
use Rattle.vch_base.specs.declared.value.Value.{Value}
use Rattle.vch_base.specs.declared.value.Value.TheVariants as values
use Rattle.vch_base.specs.Values.{task_numbers}
use Rattle.vch_model.specs.declared.entry.Entry.{Entry}
use Rattle.vch_model.specs.declared.lists.Scenario.{Scenario}
use Rattle.vch_model.specs.Store.{Alive}
use Rattle.vch_model.specs.Lines.{is_task}
use Rattle.vch_model.specs.After.{store_of}
use Rattle.vch_model.specs.Totals.{held, out, weight, tasks_of, first_is, last_is}
use Rattle.vch_model.specs.Legal.{LegalPast, all_tasks}
use Rattle.vch_legal.specs.Conserved.{each_task}
use Rattle.vch_legal.proofs.facts.Choices.{cases_bool}
use Rattle.vch_legal.proofs.store.StoreSteps.{AliveGood, AllGood}
use Rattle.vch_legal.proofs.store.StoreLegal.{legal_store}

-- Sums over tasks.

pub each_same : (f g : ℕ → ℕ) (n : ℕ) → ((t : ℕ) → f t ≡ g t) → each_task f n ≡ each_task g n
each_same f g zero h = refl
each_same f g (suc n) h = let i : each_task f n ≡ each_task g n = each_same f g n h in let k : f (suc n) ≡ g (suc n) =
    h (suc n) in cc

-- one task has more
above : (f : ℕ → ℕ) (y k n : ℕ) → n < y → each_task (λ t. if y == t then f t + k else f t) n ≡ each_task f n
above f y k zero l = refl
above f y k (suc n) l =
    let i : each_task (λ t. if y == t then f t + k else f t) n ≡ each_task f n = above f y k n (omega arith) in
    let e : (y == suc n) ≡ false = apart y (suc n) l in rw e (ap (λ a. a + f (suc n)) i)
  where
    apart : (a b : ℕ) → b < a → (a == b) ≡ false
    apart a b h = grind arith

pub each_more : (f : ℕ → ℕ) (y k n : ℕ) → 1 ≤ y → y ≤ n → each_task (λ t. if y == t then f t + k else f t) n
    ≡ each_task f n + k
each_more f y k zero l h = absurd (omega arith)
each_more f y k (suc n) l h =
    cases_bool (y == suc n) (each_task (λ t. if y == t then f t + k else f t) (suc n) ≡ each_task f (suc n) + k)
    (λ here. let i : each_task (λ t. if y == t then f t + k else f t) n ≡ each_task f n = above f y k n
    (below y n here) in rw here (moved _ _ (f (suc n)) i))
    (λ other. let i : each_task (λ t. if y == t then f t + k else f t) n ≡ each_task f n + k = each_more f y k n l
    (within y n h other) in rw other (added _ _ (f (suc n)) i))
  where
    below : (y n : ℕ) → (y == suc n) ≡ true → n < y
    below y n e = grind arith

    within : (y n : ℕ) → y ≤ suc n → (y == suc n) ≡ false → y ≤ n
    within y n a e = grind arith

    moved : (a b c : ℕ) → a ≡ b → a + (c + k) ≡ (b + c) + k
    moved a b c e = omega arith

    added : (a b c : ℕ) → a ≡ b + k → a + c ≡ (b + c) + k
    added a b c e = omega arith

pub each_zero : (n : ℕ) → each_task (λ _. 0) n ≡ 0
each_zero zero = refl
each_zero (suc n) = let i : each_task (λ _. 0) n ≡ 0 = each_zero n in omega arith

-- a task of the scenario
pub task_range : (sc : Scenario) (t : ℕ) → is_task sc t ≡ true → (1 ≤ t) × (t ≤ length sc.flags)
task_range sc t h = (from t (length sc.flags) h, upto t (length sc.flags) h)
  where
    from : (t n : ℕ) → (nat_lt 0 t && nat_lt t (n + 1)) ≡ true → 1 ≤ t
    from t n e = grind arith

    upto : (t n : ℕ) → (nat_lt 0 t && nat_lt t (n + 1)) ≡ true → t ≤ n
    upto t n e = grind arith

each_pick : (sc : Scenario) (y w : ℕ) → is_task sc y ≡ true → each_task (λ t. if y == t then w else 0)
    (length sc.flags) ≡ w
each_pick sc y w h = each_same _ _ (length sc.flags) (λ t. plain (y == t))
    ∙ picked (each_more (λ _. 0) y w (length sc.flags) (task_range sc y h).0 (task_range sc y h).1)
    (each_zero (length sc.flags))
  where
    plain : (b : Bool) → (if b then w else 0) ≡ (if b then 0 + w else 0)
    plain true = omega arith
    plain false = refl

    picked : {a b : ℕ} → a ≡ b + w → b ≡ 0 → a ≡ w
    picked e f = omega arith

-- Sums over live values.

pub live_same : (sc : Scenario) (f g : Alive → ℕ) (live : List Alive) → AllGood sc live
    → ((l : Alive) → AliveGood sc l → f l ≡ g l) → sum_by f live ≡ sum_by g live
live_same sc f g [] good h = refl
live_same sc f g (l ∷ live) good h =
    let i : sum_by f live ≡ sum_by g live = live_same sc f g live good.1 h in let k : f l ≡ g l = h l good.0 in
    sum_by-cons f l live ∙ (ap (λ a. a + sum_by f live) k ∙ (ap (λ a. g l + a) i ∙ sym (sum_by-cons g l live)))

plus_sums : (f g : Alive → ℕ) (live : List Alive) → sum_by f live + sum_by g live ≡ sum_by (λ l. f l + g l) live
plus_sums f g [] = refl
plus_sums f g (l ∷ live) =
    rw (sum_by-cons f l live, sum_by-cons g l live, sum_by-cons (λ x. f x + g x) l live)
    (regrouped (f l) (g l) (sum_by f live) (sum_by g live) (sum_by (λ x. f x + g x) live) (plus_sums f g live))
  where
    regrouped : (a b x y z : ℕ) → x + y ≡ z → (a + x) + (b + y) ≡ (a + b) + z
    regrouped a b x y z e = omega arith

zero_sum : (live : List Alive) → 0 ≡ sum_by (λ (l : Alive). 0) live
zero_sum [] = refl
zero_sum (l ∷ live) = let i : 0 ≡ sum_by (λ (x : Alive). 0) live =
    zero_sum live in rw (sum_by-cons (λ (x : Alive). 0) l live) (omega arith)

swapped : (f : ℕ → Alive → ℕ) (live : List Alive) (n : ℕ) → each_task (λ t. sum_by (f t) live) n ≡ sum_by
    (λ l. each_task (λ t. f t l) n) live
swapped f live zero = zero_sum live
swapped f live (suc n) =
    ap (λ a. a + sum_by (f (suc n)) live) (swapped f live n)
    ∙ plus_sums (λ l. each_task (λ t. f t l) n) (f (suc n)) live

-- What is held, and what is out.

last_task : (sc : Scenario) (list : List ℕ) (x : ℕ) → list_all (is_task sc) (x ∷ list) ≡ true
    → is_task sc (slice_index (x ∷ list) (length list)) ≡ true
last_task sc [] x h = first_part (is_task sc x) true h
  where
    first_part : (a b : Bool) → (a && b) ≡ true → a ≡ true
    first_part a b e = grind arith
last_task sc (y ∷ list) x h = last_task sc list y (second_part (is_task sc x) (list_all (is_task sc) (y ∷ list)) h)
  where
    second_part : (a b : Bool) → (a && b) ≡ true → b ≡ true
    second_part a b e = grind arith

list_once : (sc : Scenario) (list : List ℕ) (w : ℕ) → list_all (is_task sc) list ≡ true
    → each_task (λ t. if last_is t list then w else 0) (length sc.flags) ≡ each_task
    (λ t. if first_is t list then w else 0) (length sc.flags)
list_once sc [] w h = refl
list_once sc (x ∷ list) w h = each_pick sc (slice_index (x ∷ list) (length list)) w (last_task sc list x h)
    ∙ sym (each_pick sc x w (first_part (is_task sc x) (list_all (is_task sc) list) h))
  where
    first_part : (a b : Bool) → (a && b) ≡ true → a ≡ true
    first_part a b e = grind arith

tasks_good : (sc : Scenario) (x : Value) → all_tasks sc (task_numbers x) ≡ true
    → list_all (is_task sc) (tasks_of x) ≡ true
tasks_good sc (values.User bytes) h = refl
tasks_good sc (values.Chain list) h = by_length (nat_lt 1 (length list))
  where
    by_length : (b : Bool) → list_all (is_task sc) (if b then list else []) ≡ true
    by_length true = h
    by_length false = refl
tasks_good sc values.Default h = refl
tasks_good sc (values.Task t) h = refl
tasks_good sc (values.Account a b) h = refl

-- the assertions that tasks hold are those that tasks gave
pub held_is_out : (sc : Scenario) (past : List Entry) → LegalPast sc past
    → each_task (held sc past) (length sc.flags) ≡ each_task (out sc past) (length sc.flags)
held_is_out sc past h =
    swapped (λ t l. if last_is t (tasks_of l.value) then weight sc past l.value else 0) (store_of sc past).live
    (length sc.flags)
    ∙ (live_same sc _ _ (store_of sc past).live (legal_store sc past h).good
    (λ l good. list_once sc (tasks_of l.value) (weight sc past l.value) (tasks_good sc l.value good.tasks))
    ∙ sym (swapped (λ t l. if first_is t (tasks_of l.value) then weight sc past l.value else 0)
    (store_of sc past).live (length sc.flags)))
