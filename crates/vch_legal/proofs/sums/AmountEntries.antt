-- What one entry more does to the external count of a list, the due of an account and the ledger of a task.
use Rattle.std.proofs.Common.{◌≡◌, ℕ, ◌+◌, Bool, List, [], ◌∷◌, refl, true, false, arith, sym, ap, ◌∙◌, subst, Some, None, Option}
use Rattle.std.specs.Prelude.{if◌then◌else◌, ◌==◌}
use Rattle.std.specs.List.{list_any, AllByRecursion}
use Rattle.vch_base.specs.declared.key.Key.TheVariants as keys
use Rattle.vch_base.specs.Managers.{is_user}
use Rattle.vch_base.specs.declared.value.Value.{Value}
use Rattle.vch_base.specs.declared.value.Value.TheVariants as values
use Rattle.vch_base.specs.Values.{equal_values, is_default}
use Rattle.vch_model.specs.declared.call.Call.{Call}
use Rattle.vch_model.specs.declared.call.Call.TheVariants as calls
use Rattle.vch_model.specs.declared.call.Line.{Line}
use Rattle.vch_model.specs.declared.call.Word.{Word}
use Rattle.vch_model.specs.declared.entry.Entry.{Entry}
use Rattle.vch_model.specs.declared.entry.Entry.TheVariants as entries
use Rattle.vch_model.specs.declared.entry.Reply.{Reply}
use Rattle.vch_model.specs.declared.entry.Reply.TheVariants as replies
use Rattle.vch_model.specs.declared.lists.Scenario.{Scenario}
use Rattle.vch_model.specs.Voucher.{equal_options, value_in}
use Rattle.vch_model.specs.Store.{Store, Alive, is_alive}
use Rattle.vch_model.specs.Lines.{line_at}
use Rattle.vch_model.specs.After.{store_of}
use Rattle.vch_model.specs.Totals.{is_done, named_voucher, counted, charged, external, due, ledger}
use Rattle.vch_model.specs.Legal.{LegalPast}
use Rattle.vch_machine.specs.Next.{call_in, nth_call}
use Rattle.vch_legal.specs.Facts.{bit, times}
use Rattle.vch_legal.specs.ValueAmounts.{amount_of, counted_on, is_counting, IsUncounted}
use Rattle.vch_legal.proofs.facts.Choices.{number_eq, cases_bool, neither_right}
use Rattle.vch_legal.proofs.seen.SeenHeld.{values_refl, values_eq}
use Rattle.vch_legal.proofs.store.StoreLegal.{legal_store}
use Rattle.vch_legal.proofs.store.StoreSteps.{equals, none_equal}

-- Entries that are no calls.

pub phase_uncounted : (sc : Scenario) (past : List Entry) → IsUncounted sc past entries.Phase
phase_uncounted sc past = record { amounts = same; ledgers = λ t. refl }
  where
    same : (x : Value) → amount_of sc (entries.Phase ∷ past) x ≡ amount_of sc past x
    same (values.Chain list) = refl
    same (values.Account a b) = refl
    same (values.User bytes) = refl
    same values.Default = refl
    same (values.Task t) = refl

pub gone_uncounted : (sc : Scenario) (past : List Entry) (t name : ℕ) → IsUncounted sc past (entries.Gone t name)
gone_uncounted sc past t name = record { amounts = same; ledgers = λ u. refl }
  where
    same : (x : Value) → amount_of sc (entries.Gone t name ∷ past) x ≡ amount_of sc past x
    same (values.Chain list) = refl
    same (values.Account a b) = refl
    same (values.User bytes) = refl
    same values.Default = refl
    same (values.Task u) = refl

pub lost_uncounted : (sc : Scenario) (past : List Entry) (t : ℕ) → IsUncounted sc past (entries.Lost t)
lost_uncounted sc past t = record { amounts = same; ledgers = λ u. refl }
  where
    same : (x : Value) → amount_of sc (entries.Lost t ∷ past) x ≡ amount_of sc past x
    same (values.Chain list) = refl
    same (values.Account a b) = refl
    same (values.User bytes) = refl
    same values.Default = refl
    same (values.Task u) = refl

-- a Released entry leaves the amounts; the due that goes to a ledger is told by the definition of the ledger
pub released_amount : (sc : Scenario) (past : List Entry) (e : ℕ) (x : Value)
    → amount_of sc (entries.Released e ∷ past) x ≡ amount_of sc past x
released_amount sc past e (values.Chain list) = refl
released_amount sc past e (values.Account a b) = refl
released_amount sc past e (values.User bytes) = refl
released_amount sc past e values.Default = refl
released_amount sc past e (values.Task t) = refl

-- Made: the new value has nothing yet, and what lives keeps what it has, since it is equal to no new value.

pub made_amount : (sc : Scenario) (past : List Entry) (k : ℕ) (x : Value) → amount_of sc (entries.Made k x ∷ past) x ≡ 0
made_amount sc past k (values.Chain list) = rw (values_refl (values.Chain list)) refl
made_amount sc past k (values.Account a b) = rw (values_refl (values.Account a b)) refl
made_amount sc past k (values.User bytes) = refl
made_amount sc past k values.Default = refl
made_amount sc past k (values.Task t) = refl

turned : (x y : Value) → equal_values y x ≡ false → equal_values x y ≡ false
turned x y e = cases_bool (equal_values x y) (equal_values x y ≡ false)
    (λ same. let i : equal_values y x ≡ true =
    subst (λ (z : Value). equal_values y z ≡ true) (sym (values_eq x y same)) (values_refl y) in
    let j : true ≡ false = sym i ∙ e in cc)
    (λ other. other)

pub other_made : (sc : Scenario) (past : List Entry) (k : ℕ) (x y : Value) → equal_values y x ≡ false
    → amount_of sc (entries.Made k x ∷ past) y ≡ amount_of sc past y
other_made sc past k x (values.Chain list) e = rw (turned x (values.Chain list) e) refl
other_made sc past k x (values.Account a b) e = rw (turned x (values.Account a b) e) refl
other_made sc past k x (values.User bytes) e = refl
other_made sc past k x values.Default e = refl
other_made sc past k x (values.Task t) e = refl

user_made : (sc : Scenario) (past : List Entry) (k : ℕ) (x y : Value) → is_user x ≡ true
    → amount_of sc (entries.Made k x ∷ past) y ≡ amount_of sc past y
user_made sc past k (values.User bytes) (values.Chain list) e = refl
user_made sc past k (values.User bytes) (values.Account a b) e = refl
user_made sc past k (values.User bytes) (values.User other) e = refl
user_made sc past k (values.User bytes) values.Default e = refl
user_made sc past k (values.User bytes) (values.Task t) e = refl
user_made sc past k (values.Chain list) y e = cc
user_made sc past k values.Default y e = cc
user_made sc past k (values.Task t) y e = cc
user_made sc past k (values.Account a b) y e = cc

abbrev pub KeepAmounts : Scenario → List Entry → Entry → List Alive → Type 0
KeepAmounts sc past entry live = AllByRecursion (λ (l : Alive). amount_of sc (entry ∷ past) l.value ≡ amount_of sc past l.value) live

pub made_amounts : (sc : Scenario) (past : List Entry) (k : ℕ) (x : Value) → LegalPast sc (entries.Made k x ∷ past)
    → KeepAmounts sc past (entries.Made k x) (store_of sc past).live
made_amounts sc past k x h = cases_bool (is_user x) (KeepAmounts sc past (entries.Made k x) (store_of sc past).live)
    (λ user. of_user user (store_of sc past).live)
    (λ plain. of_none (store_of sc past).live (none_equal sc (store_of sc past).live k x plain (legal_store sc past h.0).good h.1.0
    (neither_right (is_default x) (list_any (is_alive k x) (store_of sc past).live) h.1.2)))
  where
    of_user : is_user x ≡ true → (live : List Alive) → KeepAmounts sc past (entries.Made k x) live
    of_user user [] = tt
    of_user user (l ∷ live) = (user_made sc past k x l.value user, of_user user live)

    of_none : (live : List Alive) → times (equals x) live ≡ 0 → KeepAmounts sc past (entries.Made k x) live
    of_none [] e = tt
    of_none (l ∷ live) e = (
      other_made sc past k x l.value (not_one (equal_values l.value x) (times (equals x) live) e),
      of_none live (later (equal_values l.value x) (times (equals x) live) e),
    )
      where
        not_one : (b : Bool) (n : ℕ) → bit b + n ≡ 0 → b ≡ false
        not_one b n g = grind arith

        later : (b : Bool) (n : ℕ) → bit b + n ≡ 0 → n ≡ 0
        later b n g = grind arith

-- Calls.

-- a refused call leaves all
pub refused_uncounted : (sc : Scenario) (past : List Entry) (t n : ℕ) (word : Word) (reply : Reply) → is_done reply ≡ false
    → IsUncounted sc past (entries.Call t n word reply)
refused_uncounted sc past t n word reply e = record { amounts = same; ledgers = λ u. rw e refl }
  where
    same : (x : Value) → amount_of sc (entries.Call t n word reply ∷ past) x ≡ amount_of sc past x
    same (values.Chain list) = rw e refl
    same (values.Account a b) = rw e refl
    same (values.User bytes) = refl
    same values.Default = refl
    same (values.Task u) = refl

abbrev line_of : Call → Option (ℕ × Line)
line_of call = Some (0, record { task = 0; call = call })

-- only the call of a line counts
counted_call : (s : Store) (t : ℕ) (x : Value) (a : ℕ) (o : Option (ℕ × Line)) (call : Call) → call_in o ≡ Some call
    → counted s t x a o ≡ counted s t x a (line_of call)
counted_call s t x a None call e = cc
counted_call s t x a (Some l) call e = ap (λ (c : Call). counted s t x a (line_of c)) (some_call e)
  where
    some_call : {c d : Call} → Some c ≡ Some d → c ≡ d
    some_call g = cc

charged_call : (s : Store) (t : ℕ) (x : Value) (a : ℕ) (o : Option (ℕ × Line)) (call : Call) → call_in o ≡ Some call
    → charged s t x a o ≡ charged s t x a (line_of call)
charged_call s t x a None call e = cc
charged_call s t x a (Some l) call e = ap (λ (c : Call). charged s t x a (line_of c)) (some_call e)
  where
    some_call : {c d : Call} → Some c ≡ Some d → c ≡ d
    some_call g = cc

-- what an accepted call makes of an amount and of a ledger
abbrev amount_after : Scenario → List Entry → ℕ → Call → Value → ℕ
amount_after sc past t call (values.Chain list) =
    counted (store_of sc past) t (values.Chain list) (external sc past (values.Chain list)) (line_of call)
amount_after sc past t call (values.Account a b) =
    charged (store_of sc past) t (values.Account a b) (due sc past (values.Account a b)) (line_of call)
amount_after sc past t call (values.User bytes) = 0
amount_after sc past t call values.Default = 0
amount_after sc past t call (values.Task u) = 0

abbrev ledger_after : Scenario → List Entry → ℕ → Call → ℕ → ℕ
ledger_after sc past t call u = charged (store_of sc past) u (values.Task u) (ledger sc past u) (line_of call)

done_amount : (sc : Scenario) (past : List Entry) (t n : ℕ) (word : Word) (call : Call) → nth_call sc t n ≡ Some call
    → (x : Value) → amount_of sc (entries.Call t n word replies.Done ∷ past) x ≡ amount_after sc past t call x
done_amount sc past t n word call e (values.Chain list) =
    counted_call (store_of sc past) t (values.Chain list) (external sc past (values.Chain list)) (line_at sc t n) call e
done_amount sc past t n word call e (values.Account a b) =
    charged_call (store_of sc past) t (values.Account a b) (due sc past (values.Account a b)) (line_at sc t n) call e
done_amount sc past t n word call e (values.User bytes) = refl
done_amount sc past t n word call e values.Default = refl
done_amount sc past t n word call e (values.Task u) = refl

done_ledger : (sc : Scenario) (past : List Entry) (t n : ℕ) (word : Word) (call : Call) → nth_call sc t n ≡ Some call
    → (u : ℕ) → ledger sc (entries.Call t n word replies.Done ∷ past) u
    ≡ (if t == u then ledger_after sc past t call u else ledger sc past u)
done_ledger sc past t n word call e u = by_test (t == u) refl
  where
    by_test : (b : Bool) → (t == u) ≡ b
        → (if b then charged (store_of sc past) u (values.Task u) (ledger sc past u) (line_at sc u n) else ledger sc past u)
        ≡ (if b then ledger_after sc past t call u else ledger sc past u)
    by_test true g = charged_call (store_of sc past) u (values.Task u) (ledger sc past u) (line_at sc u n) call
        (subst (λ (v : ℕ). nth_call sc v n ≡ Some call) (number_eq t u g) e)
    by_test false g = refl

not_counted : (call : Call) → is_counting call ≡ false → (s : Store) (t : ℕ) (x : Value) (a : ℕ)
    → counted s t x a (line_of call) ≡ a
not_counted (calls.Extern name adding n) e s t x a = cc
not_counted (calls.Charge name n) e s t x a = refl
not_counted (calls.Create bytes) e s t x a = refl
not_counted (calls.GiveUp name) e s t x a = refl
not_counted (calls.Extract name key) e s t x a = refl
not_counted (calls.Recipes name) e s t x a = refl
not_counted (calls.Send to moving name id) e s t x a = refl
not_counted calls.Recv e s t x a = refl
not_counted calls.Ledger e s t x a = refl
not_counted calls.Assertions e s t x a = refl
not_counted calls.Live e s t x a = refl
not_counted calls.Exit e s t x a = refl

not_charged : (call : Call) → is_counting call ≡ false → (s : Store) (t : ℕ) (x : Value) (a : ℕ)
    → charged s t x a (line_of call) ≡ a
not_charged (calls.Extern name adding n) e s t x a = refl
not_charged (calls.Charge name n) e s t x a = cc
not_charged (calls.Create bytes) e s t x a = refl
not_charged (calls.GiveUp name) e s t x a = refl
not_charged (calls.Extract name key) e s t x a = refl
not_charged (calls.Recipes name) e s t x a = refl
not_charged (calls.Send to moving name id) e s t x a = refl
not_charged calls.Recv e s t x a = refl
not_charged calls.Ledger e s t x a = refl
not_charged calls.Assertions e s t x a = refl
not_charged calls.Live e s t x a = refl
not_charged calls.Exit e s t x a = refl

if_same : (b : Bool) (x y : ℕ) → x ≡ y → (if b then x else y) ≡ y
if_same true x y e = e
if_same false x y e = refl

done_uncounted : (sc : Scenario) (past : List Entry) (t n : ℕ) (word : Word) (call : Call) → nth_call sc t n ≡ Some call
    → is_counting call ≡ false → IsUncounted sc past (entries.Call t n word replies.Done)
done_uncounted sc past t n word call e none = record {
  amounts = λ x. done_amount sc past t n word call e x ∙ same x;
  ledgers = λ u. done_ledger sc past t n word call e u
      ∙ if_same (t == u) (ledger_after sc past t call u) (ledger sc past u)
      (not_charged call none (store_of sc past) u (values.Task u) (ledger sc past u));
}
  where
    same : (x : Value) → amount_after sc past t call x ≡ amount_of sc past x
    same (values.Chain list) = not_counted call none (store_of sc past) t (values.Chain list) (external sc past (values.Chain list))
    same (values.Account a b) = not_charged call none (store_of sc past) t (values.Account a b) (due sc past (values.Account a b))
    same (values.User bytes) = refl
    same values.Default = refl
    same (values.Task u) = refl

not_done : (reply : Reply) → is_done reply ≡ true → reply ≡ replies.Done
not_done replies.Done e = refl
not_done (replies.Created name) e = cc
not_done (replies.Content bytes) e = cc
not_done (replies.Recipe whole bytes) e = cc
not_done (replies.Received sender id name) e = cc
not_done (replies.Ledger amount) e = cc
not_done (replies.Assertions held out) e = cc
not_done (replies.Live vouchers values) e = cc
not_done (replies.Refused code) e = cc

-- a call that counts nothing, however it is answered
pub call_uncounted : (sc : Scenario) (past : List Entry) (t n : ℕ) (word : Word) (reply : Reply) (call : Call)
    → nth_call sc t n ≡ Some call → is_counting call ≡ false → IsUncounted sc past (entries.Call t n word reply)
call_uncounted sc past t n word reply call e none =
    cases_bool (is_done reply) (IsUncounted sc past (entries.Call t n word reply))
    (λ done_. subst (λ (r : Reply). IsUncounted sc past (entries.Call t n word r)) (sym (not_done reply done_))
    (done_uncounted sc past t n word call e none))
    (λ refused_. refused_uncounted sc past t n word reply refused_)

-- an accepted change of an external count: that of the list that the voucher has at the key of importance, and nothing else
pub extern_amount : (sc : Scenario) (past : List Entry) (t n : ℕ) (word : Word) (name k : ℕ) (adding : Bool) (list : List ℕ)
    → nth_call sc t n ≡ Some (calls.Extern name adding k)
    → value_in keys.Importance (named_voucher (store_of sc past) t name) ≡ Some (values.Chain list)
    → (x : Value) → amount_of sc (entries.Call t n word replies.Done ∷ past) x
    ≡ (if equal_values (values.Chain list) x then counted_on adding k (amount_of sc past x) else amount_of sc past x)
extern_amount sc past t n word name k adding list there e x =
    done_amount sc past t n word (calls.Extern name adding k) there x ∙ of_value x
  where
    of_value : (x : Value) → amount_after sc past t (calls.Extern name adding k) x
        ≡ (if equal_values (values.Chain list) x then counted_on adding k (amount_of sc past x) else amount_of sc past x)
    of_value (values.Chain other) = ap (λ o. if equal_options o (Some (values.Chain other))
        then counted_on adding k (external sc past (values.Chain other)) else external sc past (values.Chain other)) e
    of_value (values.Account a b) = refl
    of_value (values.User bytes) = refl
    of_value values.Default = refl
    of_value (values.Task u) = refl

pub extern_ledger : (sc : Scenario) (past : List Entry) (t n : ℕ) (word : Word) (name k : ℕ) (adding : Bool)
    → nth_call sc t n ≡ Some (calls.Extern name adding k)
    → (u : ℕ) → ledger sc (entries.Call t n word replies.Done ∷ past) u ≡ ledger sc past u
extern_ledger sc past t n word name k adding there u =
    done_ledger sc past t n word (calls.Extern name adding k) there u
    ∙ if_same (t == u) (ledger sc past u) (ledger sc past u) refl

-- an accepted charge on an account: what is due on it rises, and nothing else changes
pub account_amount : (sc : Scenario) (past : List Entry) (t n : ℕ) (word : Word) (name k holder merchant : ℕ)
    → nth_call sc t n ≡ Some (calls.Charge name k)
    → value_in keys.Bank (named_voucher (store_of sc past) t name) ≡ Some (values.Account holder merchant)
    → (x : Value) → amount_of sc (entries.Call t n word replies.Done ∷ past) x
    ≡ (if equal_values (values.Account holder merchant) x then amount_of sc past x + k else amount_of sc past x)
account_amount sc past t n word name k holder merchant there e x =
    done_amount sc past t n word (calls.Charge name k) there x ∙ of_value x
  where
    of_value : (x : Value) → amount_after sc past t (calls.Charge name k) x
        ≡ (if equal_values (values.Account holder merchant) x then amount_of sc past x + k else amount_of sc past x)
    of_value (values.Account a b) = ap (λ o. if equal_options o (Some (values.Account a b))
        then due sc past (values.Account a b) + k else due sc past (values.Account a b)) e
    of_value (values.Chain list) = refl
    of_value (values.User bytes) = refl
    of_value values.Default = refl
    of_value (values.Task u) = refl

pub account_ledger : (sc : Scenario) (past : List Entry) (t n : ℕ) (word : Word) (name k holder merchant : ℕ)
    → nth_call sc t n ≡ Some (calls.Charge name k)
    → value_in keys.Bank (named_voucher (store_of sc past) t name) ≡ Some (values.Account holder merchant)
    → (u : ℕ) → ledger sc (entries.Call t n word replies.Done ∷ past) u ≡ ledger sc past u
account_ledger sc past t n word name k holder merchant there e u =
    done_ledger sc past t n word (calls.Charge name k) there u ∙ by_test (t == u) refl
  where
    by_test : (b : Bool) → (t == u) ≡ b
        → (if b then ledger_after sc past t (calls.Charge name k) u else ledger sc past u) ≡ ledger sc past u
    by_test true g = ap (λ o. if equal_options o (Some (values.Task u)) then ledger sc past u + k else ledger sc past u)
        (subst (λ (v : ℕ). value_in keys.Bank (named_voucher (store_of sc past) v name)
        ≡ Some (values.Account holder merchant)) (number_eq t u g) e)
    by_test false g = refl

-- an accepted charge on the task's own value: the ledger of the task rises, and nothing else changes
pub own_amount : (sc : Scenario) (past : List Entry) (t n : ℕ) (word : Word) (name k : ℕ)
    → nth_call sc t n ≡ Some (calls.Charge name k)
    → value_in keys.Bank (named_voucher (store_of sc past) t name) ≡ Some (values.Task t)
    → (x : Value) → amount_of sc (entries.Call t n word replies.Done ∷ past) x ≡ amount_of sc past x
own_amount sc past t n word name k there e x = done_amount sc past t n word (calls.Charge name k) there x ∙ of_value x
  where
    of_value : (x : Value) → amount_after sc past t (calls.Charge name k) x ≡ amount_of sc past x
    of_value (values.Account a b) = ap (λ o. if equal_options o (Some (values.Account a b))
        then due sc past (values.Account a b) + k else due sc past (values.Account a b)) e
    of_value (values.Chain list) = refl
    of_value (values.User bytes) = refl
    of_value values.Default = refl
    of_value (values.Task u) = refl

pub own_ledger : (sc : Scenario) (past : List Entry) (t n : ℕ) (word : Word) (name k : ℕ)
    → nth_call sc t n ≡ Some (calls.Charge name k)
    → value_in keys.Bank (named_voucher (store_of sc past) t name) ≡ Some (values.Task t)
    → (u : ℕ) → ledger sc (entries.Call t n word replies.Done ∷ past) u
    ≡ (if t == u then ledger sc past u + k else ledger sc past u)
own_ledger sc past t n word name k there e u =
    done_ledger sc past t n word (calls.Charge name k) there u ∙ by_test (t == u) refl
  where
    is_own : (v : ℕ) → equal_values (values.Task v) (values.Task v) ≡ true
        → value_in keys.Bank (named_voucher (store_of sc past) v name) ≡ Some (values.Task v)
        → ledger_after sc past t (calls.Charge name k) v ≡ ledger sc past v + k
    is_own v g i = rw (i, g) refl

    by_test : (b : Bool) → (t == u) ≡ b → (if b then ledger_after sc past t (calls.Charge name k) u else ledger sc past u)
        ≡ (if b then ledger sc past u + k else ledger sc past u)
    by_test true g = is_own u (values_refl (values.Task u))
        (subst (λ (v : ℕ). value_in keys.Bank (named_voucher (store_of sc past) v name) ≡ Some (values.Task v)) (number_eq t u g) e)
    by_test false g = refl
