-- The sum of ledgers and dues after a Released entry: what was due on an account goes to its holder.
use Rattle.std.proofs.Common.{◌≡◌, ℕ, ◌+◌, Bool, List, [], ◌∷◌, refl, true, false, ◌&&◌, arith, sym, ap, ◌∙◌, subst, length, Some, None, Option}
use Rattle.std.proofs.lemmas.List.Sums.{sum_by-cons}
use Rattle.std.specs.Prelude.{if◌then◌else◌, ◌==◌}
use Rattle.std.specs.List.{sum_by}
use Rattle.vch_base.specs.declared.value.Value.{Value}
use Rattle.vch_base.specs.declared.value.Value.TheVariants as values
use Rattle.vch_base.specs.Values.{task_numbers}
use Rattle.vch_model.specs.declared.entry.Entry.{Entry}
use Rattle.vch_model.specs.declared.entry.Entry.TheVariants as entries
use Rattle.vch_model.specs.declared.lists.Scenario.{Scenario}
use Rattle.vch_model.specs.Store.{Alive}
use Rattle.vch_model.specs.Lines.{is_task}
use Rattle.vch_model.specs.After.{store_of, without_made}
use Rattle.vch_model.specs.Totals.{due, ledger, with_made, is_holder, due_of}
use Rattle.vch_model.specs.Legal.{IsUnheld, find_made, all_tasks}
use Rattle.vch_legal.specs.Conserved.{each_task, account_due}
use Rattle.vch_legal.proofs.facts.Choices.{and_left}
use Rattle.vch_legal.proofs.store.StoreSteps.{AliveGood, AllGood, StoreFits, good_without}
use Rattle.vch_legal.proofs.sums.Conservation.{each_same, each_more, task_range, live_same}
use Rattle.vch_legal.proofs.sums.EntrySums.{Sum}

-- Released

found_good : (sc : Scenario) (live : List Alive) (e : ℕ) (l : Alive) → AllGood sc live → find_made live e ≡ Some l
    → AliveGood sc l
found_good sc [] e l good f = cc
found_good sc (y ∷ live) e l good f = by_test (y.made == e) (λ g. found_good sc live e l good.1 g) f
  where
    some_alive : {a b : Alive} → Some a ≡ Some b → a ≡ b
    some_alive g = cc

    by_test : (b : Bool) → (find_made live e ≡ Some l → AliveGood sc l)
        → (if b then Some y else find_made live e) ≡ Some l → AliveGood sc l
    by_test true later g = subst (AliveGood sc) (some_alive g) good.0
    by_test false later g = later g

found_value : (live : List Alive) (e : ℕ) (l : Alive) → find_made live e ≡ Some l → with_made live e ≡ Some l.value
found_value [] e l f = cc
found_value (y ∷ live) e l f = by_test (y.made == e) (found_value live e l) f
  where
    some_alive : {a b : Alive} → Some a ≡ Some b → a ≡ b
    some_alive g = cc

    by_test : (b : Bool) → (find_made live e ≡ Some l → with_made live e ≡ Some l.value)
        → (if b then Some y else find_made live e) ≡ Some l → (if b then Some y.value else with_made live e)
        ≡ Some l.value
    by_test true later g = ap (λ (z : Alive). Some z.value) (some_alive g)
    by_test false later g = later g

-- the sum without one element
sum_without : (f : Alive → ℕ) (live : List Alive) (e : ℕ) (l : Alive) → find_made live e ≡ Some l
    → sum_by f live ≡ sum_by f (without_made live e) + f l
sum_without f [] e l g = cc
sum_without f (y ∷ live) e l g = by_test (y.made == e) (sum_without f live e l) g
  where
    some_alive : {a b : Alive} → Some a ≡ Some b → a ≡ b
    some_alive k = cc

    by_test : (b : Bool) → (find_made live e ≡ Some l → sum_by f live ≡ sum_by f (without_made live e) + f l)
        → (if b then Some y else find_made live e) ≡ Some l
        → sum_by f (y ∷ live) ≡ sum_by f (if b then live else y ∷ without_made live e) + f l
    by_test true later k = sum_by-cons f y live ∙ (turned (f y) (sum_by f live)
        ∙ ap (λ (z : Alive). sum_by f live + f z) (some_alive k))
      where
        turned : (a b : ℕ) → a + b ≡ b + a
        turned a b = omega arith
    by_test false later k = sum_by-cons f y live ∙ (added (f y) (sum_by f live) (sum_by f (without_made live e)) (f l)
        (later k) ∙ ap (λ n. n + f l) (sym (sum_by-cons f y (without_made live e))))
      where
        added : (a b c d : ℕ) → b ≡ c + d → a + b ≡ (a + c) + d
        added a b c d i = omega arith

-- what was due on an account goes to its holder
ledgers_more : (sc : Scenario) (past : List Entry) (x : Value) → all_tasks sc (task_numbers x) ≡ true
    → each_task (λ u. if is_holder u (Some x) then ledger sc past u + due sc past x else ledger sc past u)
    (length sc.flags) ≡ each_task (ledger sc past) (length sc.flags) + account_due sc past x
ledgers_more sc past (values.Account a b) h =
    each_more (ledger sc past) a (due sc past (values.Account a b)) (length sc.flags)
    (task_range sc a (and_left (is_task sc a) (is_task sc b && true) h)).0
    (task_range sc a (and_left (is_task sc a) (is_task sc b && true) h)).1
ledgers_more sc past (values.User bytes) h = omega arith
ledgers_more sc past (values.Chain list) h = omega arith
ledgers_more sc past values.Default h = omega arith
ledgers_more sc past (values.Task t) h = omega arith

pub released_sum : (sc : Scenario) (past : List Entry) (e : ℕ) (o : Option Alive)
    → find_made (store_of sc past).live e ≡ o → IsUnheld (store_of sc past) o → StoreFits sc (store_of sc past)
    → Sum sc past → Sum sc (entries.Released e ∷ past)
released_sum sc past e None f u fits h = absurd u
released_sum sc past e (Some l) f u fits h =
    h ∙ (joined _ _ (account_due sc past l.value) (sum_by (λ (y : Alive). account_due sc past y.value)
    (without_made (store_of sc past).live e)) (sum_without (λ (y : Alive). account_due sc past y.value)
    (store_of sc past).live e l f)
    ∙ ap (λ n. n + sum_by (λ (y : Alive). account_due sc past y.value) (without_made (store_of sc past).live e))
    (sym (ledgers_more sc past l.value (found_good sc (store_of sc past).live e l fits.good f).tasks) ∙ renamed)
    ∙ ap (λ n. each_task (ledger sc (entries.Released e ∷ past)) (length sc.flags) + n)
    (live_same sc (λ (y : Alive). account_due sc past y.value)
    (λ (y : Alive). account_due sc (entries.Released e ∷ past) y.value) (without_made (store_of sc past).live e)
    (good_without sc (store_of sc past).live e fits.good) (λ y g. same_due y.value)))
  where
    joined : (a b c d : ℕ) → b ≡ d + c → a + b ≡ (a + c) + d
    joined a b c d i = omega arith

    renamed : each_task (λ u. if is_holder u (Some l.value) then ledger sc past u + due sc past l.value else ledger sc
        past u) (length sc.flags) ≡ each_task (ledger sc (entries.Released e ∷ past)) (length sc.flags)
    renamed = each_same _ (ledger sc (entries.Released e ∷ past)) (length sc.flags)
        (λ u. ap (λ o. if is_holder u o then ledger sc past u + due_of sc past o else ledger sc past u)
        (sym (found_value (store_of sc past).live e l f)))

    same_due : (x : Value) → account_due sc past x ≡ account_due sc (entries.Released e ∷ past) x
    same_due (values.Account a b) = refl
    same_due (values.User bytes) = refl
    same_due (values.Chain list) = refl
    same_due values.Default = refl
    same_due (values.Task t) = refl
