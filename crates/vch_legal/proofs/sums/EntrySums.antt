-- The sum of ledgers and dues after a call and after a Made entry.
use Rattle.std.proofs.Common.{◌≡◌, ℕ, ◌+◌, Bool, List, [], ◌∷◌, refl, true, false, ◌&&◌, arith, sym, ap, ◌∙◌, subst, length}
use Rattle.std.proofs.lemmas.List.Sums.{sum_by-cons, sum_by_push}
use Rattle.std.specs.Prelude.{if◌then◌else◌, ◌==◌}
use Rattle.std.specs.List.{list_any, sum_by}
use Rattle.vch_base.specs.Keys.{key_of}
use Rattle.vch_base.specs.Managers.{is_user}
use Rattle.vch_base.specs.declared.value.Value.{Value}
use Rattle.vch_base.specs.declared.value.Value.TheVariants as values
use Rattle.vch_base.specs.Values.{equal_values, is_default, BelongsAt}
use Rattle.vch_model.specs.declared.call.Word.{Word}
use Rattle.vch_model.specs.declared.entry.Entry.{Entry}
use Rattle.vch_model.specs.declared.entry.Entry.TheVariants as entries
use Rattle.vch_model.specs.declared.entry.Reply.{Reply}
use Rattle.vch_model.specs.declared.lists.Scenario.{Scenario}
use Rattle.vch_model.specs.Store.{Alive, is_alive, is_live}
use Rattle.vch_model.specs.Lines.{line_at}
use Rattle.vch_model.specs.After.{store_of, is_want}
use Rattle.vch_model.specs.Totals.{is_done, charged, due, ledger}
use Rattle.vch_legal.specs.Facts.{bit, times}
use Rattle.vch_legal.specs.Conserved.{each_task, charge_in, accepted, account_due, dues}
use Rattle.vch_legal.proofs.facts.Choices.{number_eq, cases_bool, neither_right}
use Rattle.vch_legal.proofs.seen.SeenHeld.{values_refl, values_eq}
use Rattle.vch_legal.proofs.store.StoreLegal.{call_live}
use Rattle.vch_legal.proofs.store.StoreSteps.{equals, StoreFits, none_equal}
use Rattle.vch_legal.proofs.sums.Conservation.{each_same, live_same}
use Rattle.vch_legal.proofs.sums.Charges.{due_after}
use Rattle.vch_legal.proofs.sums.ChargedCalls.{Answered, line_balanced}

-- the sums that stand for an entry more
abbrev pub Sum : Scenario → List Entry → Type 0
Sum sc past = accepted sc past ≡ each_task (ledger sc past) (length sc.flags) + dues sc past

-- a call
call_due : (sc : Scenario) (past : List Entry) (t n : ℕ) (word : Word) (reply : Reply) (x : Value)
    → is_done reply ≡ true → account_due sc (entries.Call t n word reply ∷ past) x ≡ due_after sc past
    (store_of sc past) t (line_at sc t n) x
call_due sc past t n word reply (values.Account a b) e = rw e refl
call_due sc past t n word reply (values.User bytes) e = refl
call_due sc past t n word reply (values.Chain list) e = refl
call_due sc past t n word reply values.Default e = refl
call_due sc past t n word reply (values.Task u) e = refl

refused_due : (sc : Scenario) (past : List Entry) (t n : ℕ) (word : Word) (reply : Reply) (x : Value)
    → is_done reply ≡ false → account_due sc (entries.Call t n word reply ∷ past) x ≡ account_due sc past x
refused_due sc past t n word reply (values.Account a b) e = rw e refl
refused_due sc past t n word reply (values.User bytes) e = refl
refused_due sc past t n word reply (values.Chain list) e = refl
refused_due sc past t n word reply values.Default e = refl
refused_due sc past t n word reply (values.Task u) e = refl

pub call_sum : (sc : Scenario) (past : List Entry) (t n : ℕ) (word : Word) (reply : Reply) (b : Bool)
    → is_done reply ≡ b
    → StoreFits sc (store_of sc past) → Answered sc past t n reply
    → Sum sc past → Sum sc (entries.Call t n word reply ∷ past)
call_sum sc past t n word reply true e fits a h =
    if_true e (accepted sc past + charge_in (line_at sc t n)) (accepted sc past)
    ∙ (ap (λ k. k + charge_in (line_at sc t n)) h
    ∙ (line_balanced sc past t n reply fits e a
    ∙ sums _ _ _ _ (each_same _ (ledger sc (entries.Call t n word reply ∷ past)) (length sc.flags) (λ u. if_and u))
    (sym (live_same sc _ _ (store_of sc past).live fits.good (λ l g. call_due sc past t n word reply l.value e))
    ∙ ap (λ (live : List Alive). sum_by (λ (l : Alive). account_due sc (entries.Call t n word reply ∷ past) l.value)
    live) (sym (call_live sc (store_of sc past) t (line_at sc t n) (is_want reply))))))
  where
    if_true : is_done reply ≡ true → (x y : ℕ) → (if is_done reply then x else y) ≡ x
    if_true g x y = rw g refl

    sums : (a b c d : ℕ) → a ≡ b → c ≡ d → a + c ≡ b + d
    sums a b c d p q = cc

    if_and : (u : ℕ) → (if t == u then charged (store_of sc past) u (values.Task u) (ledger sc past u)
        (line_at sc t n) else ledger sc past u)
        ≡ (if is_done reply && (t == u) then charged (store_of sc past) u (values.Task u) (ledger sc past u)
        (line_at sc u n) else ledger sc past u)
    if_and u = by_tests (is_done reply) e (t == u) refl
      where
        by_tests : (b : Bool) → b ≡ true → (c : Bool) → (t == u) ≡ c
            → (if c then charged (store_of sc past) u (values.Task u) (ledger sc past u)
            (line_at sc t n) else ledger sc past u)
            ≡ (if b && c then charged (store_of sc past) u (values.Task u) (ledger sc past u)
            (line_at sc u n) else ledger sc past u)
        by_tests true g true k = ap (λ v. charged (store_of sc past) u (values.Task u) (ledger sc past u)
            (line_at sc v n)) (number_eq t u k)
        by_tests true g false k = refl
        by_tests false g c k = cc
call_sum sc past t n word reply false e fits a h =
    if_false e (accepted sc past + charge_in (line_at sc t n)) (accepted sc past)
    ∙ (h
    ∙ sums _ _ _ _ (each_same (ledger sc past) (ledger sc (entries.Call t n word reply ∷ past)) (length sc.flags)
    (λ u. by_test (is_done reply) e u (charged (store_of sc past) u (values.Task u) (ledger sc past u)
    (line_at sc u n)) (ledger sc past u)))
    (sym (live_same sc _ _ (store_of sc past).live fits.good (λ l g. refused_due sc past t n word reply l.value e))
    ∙ ap (λ (live : List Alive). sum_by (λ (l : Alive). account_due sc (entries.Call t n word reply ∷ past) l.value)
    live) (sym (call_live sc (store_of sc past) t (line_at sc t n) (is_want reply)))))
  where
    if_false : is_done reply ≡ false → (x y : ℕ) → (if is_done reply then x else y) ≡ y
    if_false g x y = rw g refl

    sums : (a b c d : ℕ) → a ≡ b → c ≡ d → a + c ≡ b + d
    sums a b c d p q = cc

    by_test : (b : Bool) → b ≡ false → (u x y : ℕ) → y ≡ (if b && (t == u) then x else y)
    by_test b g u x y = rw g refl

-- Made

-- a made value is equal to no other, so what is due on others stays
made_due : (sc : Scenario) (past : List Entry) (k : ℕ) (x y : Value) → equal_values y x ≡ false
    → account_due sc past y ≡ account_due sc (entries.Made k x ∷ past) y
made_due sc past k x (values.User bytes) e = refl
made_due sc past k x (values.Chain list) e = refl
made_due sc past k x values.Default e = refl
made_due sc past k x (values.Task t) e = refl
made_due sc past k x (values.Account a b) e =
    cases_bool (equal_values x (values.Account a b)) (due sc past (values.Account a b) ≡
    (if equal_values x (values.Account a b) then 0 else due sc past (values.Account a b)))
    (λ same. let i : equal_values (values.Account a b) x ≡ true = subst
    (λ (z : Value). equal_values (values.Account a b) z ≡ true) (sym (values_eq x (values.Account a b) same))
    (values_refl (values.Account a b)) in
    let j : true ≡ false = sym i ∙ e in cc)
    (λ other. rw other refl)

new_due : (sc : Scenario) (past : List Entry) (k : ℕ) (x : Value) → account_due sc (entries.Made k x ∷ past) x ≡ 0
new_due sc past k (values.User bytes) = refl
new_due sc past k (values.Chain list) = refl
new_due sc past k values.Default = refl
new_due sc past k (values.Task t) = refl
new_due sc past k (values.Account a b) = rw (values_refl (values.Account a b)) refl

none_due : (sc : Scenario) (past : List Entry) (k : ℕ) (x : Value) (live : List Alive) → times (equals x) live ≡ 0
    → sum_by (λ (l : Alive). account_due sc past l.value) live ≡ sum_by
    (λ (l : Alive). account_due sc (entries.Made k x ∷ past) l.value) live
none_due sc past k x [] e = refl
none_due sc past k x (l ∷ live) e =
    sum_by-cons (λ (y : Alive). account_due sc past y.value) l live
    ∙ (sums _ _ _ _ (made_due sc past k x l.value (not_one (equal_values l.value x) (times (equals x) live) e))
    (none_due sc past k x live (later (equal_values l.value x) (times (equals x) live) e))
    ∙ sym (sum_by-cons (λ (y : Alive). account_due sc (entries.Made k x ∷ past) y.value) l live))
  where
    sums : (a b c d : ℕ) → a ≡ b → c ≡ d → a + c ≡ b + d
    sums a b c d p q = cc

    not_one : (b : Bool) (n : ℕ) → bit b + n ≡ 0 → b ≡ false
    not_one b n g = grind arith

    later : (b : Bool) (n : ℕ) → bit b + n ≡ 0 → n ≡ 0
    later b n g = grind arith

-- user data is no account
user_due : (sc : Scenario) (past : List Entry) (k : ℕ) (x y : Value) → is_user x ≡ true
    → account_due sc past y ≡ account_due sc (entries.Made k x ∷ past) y
user_due sc past k (values.User bytes) (values.Account a b) e = refl
user_due sc past k (values.User bytes) (values.User other) e = refl
user_due sc past k (values.User bytes) (values.Chain list) e = refl
user_due sc past k (values.User bytes) values.Default e = refl
user_due sc past k (values.User bytes) (values.Task t) e = refl
user_due sc past k (values.Chain list) y e = cc
user_due sc past k values.Default y e = cc
user_due sc past k (values.Task t) y e = cc
user_due sc past k (values.Account a b) y e = cc

made_dues : (sc : Scenario) (past : List Entry) (k : ℕ) (x : Value) → StoreFits sc (store_of sc past)
    → BelongsAt (key_of sc.version k) x → is_live (store_of sc past) k x ≡ false
    → sum_by (λ (l : Alive). account_due sc past l.value) (store_of sc past).live ≡ sum_by
    (λ (l : Alive). account_due sc (entries.Made k x ∷ past) l.value) (store_of sc past).live
made_dues sc past k x fits b absent = cases_bool (is_user x) _
    (λ user. live_same sc (λ (l : Alive). account_due sc past l.value)
    (λ (l : Alive). account_due sc (entries.Made k x ∷ past) l.value) (store_of sc past).live fits.good
    (λ l g. user_due sc past k x l.value user))
    (λ plain. none_due sc past k x (store_of sc past).live (none_equal sc (store_of sc past).live k x plain fits.good b
    (neither_right (is_default x) (list_any (is_alive k x) (store_of sc past).live) absent)))

pub made_sum : (sc : Scenario) (past : List Entry) (k : ℕ) (x : Value) → StoreFits sc (store_of sc past)
    → BelongsAt (key_of sc.version k) x → is_live (store_of sc past) k x ≡ false → Sum sc past
    → Sum sc (entries.Made k x ∷ past)
made_sum sc past k x fits b absent h =
    h ∙ ap (λ n. each_task (ledger sc past) (length sc.flags) + n)
    (made_dues sc past k x fits b absent
    ∙ (no_more _ _ (new_due sc past k x) ∙ sym (sum_by_push (λ (l : Alive). account_due sc
    (entries.Made k x ∷ past) l.value) (store_of sc past).live
    (record { key = k; value = x; made = length past + 1 }))))
  where
    no_more : (a b : ℕ) → b ≡ 0 → a ≡ a + b
    no_more a b e = omega arith
