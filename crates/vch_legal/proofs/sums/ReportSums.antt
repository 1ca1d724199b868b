-- The sums over a history of a scenario within the limits: each is below 2 ^ 128, and each count below 2 ^ 64.
use Rattle.std.proofs.Common.{◌≡◌, ℕ, suc, ◌+◌, ◌-◌, ◌*◌, ◌<◌, ◌≤◌, ◌==◌, ◌&&◌, Bool, true, false, List, [], ◌∷◌, ◌++◌, refl, arith, length, length-append, Some, None, Option}
use Rattle.std.proofs.lemmas.List.Sums.{sum_by-cons}
use Rattle.std.specs.Prelude.{◌^◌, if◌then◌else◌}
use Rattle.std.specs.List.{AllByRecursion, sum_by, flat_map, list_any}
use Rattle.vch_base.specs.declared.flags.Flags.{Flags}
use Rattle.vch_base.specs.declared.key.Key.TheVariants as keys
use Rattle.vch_base.specs.declared.value.Value.{Value}
use Rattle.vch_base.specs.declared.value.Value.TheVariants as values
use Rattle.vch_base.specs.Values.{equal_values}
use Rattle.vch_model.specs.declared.call.Call.{Call}
use Rattle.vch_model.specs.declared.call.Call.TheVariants as calls
use Rattle.vch_model.specs.declared.call.Line.{Line}
use Rattle.vch_model.specs.declared.entry.Entry.{Entry}
use Rattle.vch_model.specs.declared.entry.Entry.TheVariants as entries
use Rattle.vch_model.specs.declared.lists.Scenario.{Scenario}
use Rattle.vch_model.specs.Voucher.{Voucher, equal_options, equal_vouchers, value_in}
use Rattle.vch_model.specs.Store.{Store, Member, Named, Message, Alive}
use Rattle.vch_model.specs.Transfer.{flags_of}
use Rattle.vch_model.specs.Lines.{line_at}
use Rattle.vch_model.specs.Grammar.{IsSmall}
use Rattle.vch_model.specs.After.{store_of}
use Rattle.vch_model.specs.Totals.{is_done, named_voucher, counted, external, tasks_of, first_is, last_is, donates, weight, held, out, charged, due, with_made, is_holder, due_of, ledger}
use Rattle.vch_model.specs.Replies.{vouchers_of, all_vouchers, different}
use Rattle.vch_model.specs.Text.{totals_from, totals_of, vouchers_in, values_in}
use Rattle.vch_model.specs.Scenarios.{IsLimited}
use Rattle.vch_model.specs.WellFormed.{IsTotal}
use Rattle.vch_legal.proofs.lines.EachLine.{line_fits}
use Rattle.vch_legal.proofs.store.StoreSmall.{MemberSmall}
use Rattle.vch_legal.proofs.store.StoreCounts.{past_small}

-- what so many calls can add, each less than 2 ^ 32
abbrev pub added : ℕ → ℕ
added n = 4294967296 * n

-- what so many entries can credit, where there are 2 ^ 32 entries at most
abbrev pub credited : ℕ → ℕ
credited n = 18446744073709551616 * n

either : (P : ℕ → Type 0) (b : Bool) (x y : ℕ) → P x → P y → P (if b then x else y)
either P true x y p q = p
either P false x y p q = q

Few : ℕ → ℕ → Type 0
Few n x = x ≤ added n

more : (n x : ℕ) → x ≤ added n → x ≤ added (suc n)
more n x h = omega (arith, h)

plus : (n x k : ℕ) → x ≤ added n → k < 4294967296 → x + k ≤ added (suc n)
plus n x k h l = omega (arith, h, l)

less : (n x k : ℕ) → x ≤ added n → x - k ≤ added (suc n)
less n x k h = omega (arith, h)

-- External counts.

count_few : (s : Store) (t phase u : ℕ) (call : Call) (chain : Value) (count n : ℕ) → IsSmall call → count ≤ added n
    → counted s t chain count (Some (phase, record { task = u; call = call })) ≤ added (suc n)
count_few s t phase u (calls.Extern name adding k) chain count n small h =
    either (λ x. x ≤ added (suc n))
    (equal_options (value_in keys.Importance (named_voucher s t name)) (Some chain)) _ _
    (either (λ x. x ≤ added (suc n)) adding _ _ (plus n count k h small.1) (less n count k h)) (more n count h)
count_few s t phase u (calls.Create bytes) chain count n small h = more n count h
count_few s t phase u (calls.GiveUp name) chain count n small h = more n count h
count_few s t phase u (calls.Extract name key) chain count n small h = more n count h
count_few s t phase u (calls.Recipes name) chain count n small h = more n count h
count_few s t phase u (calls.Send to moving name id) chain count n small h = more n count h
count_few s t phase u calls.Recv chain count n small h = more n count h
count_few s t phase u (calls.Charge name k) chain count n small h = more n count h
count_few s t phase u calls.Ledger chain count n small h = more n count h
count_few s t phase u calls.Assertions chain count n small h = more n count h
count_few s t phase u calls.Live chain count n small h = more n count h
count_few s t phase u calls.Exit chain count n small h = more n count h

-- Charges.

charge_few : (s : Store) (t phase u : ℕ) (call : Call) (account : Value) (amount : ℕ) → IsSmall call
    → charged s t account amount (Some (phase, record { task = u; call = call })) ≤ amount + 4294967295
charge_few s t phase u (calls.Charge name k) account amount small =
    either (λ x. x ≤ amount + 4294967295)
    (equal_options (value_in keys.Bank (named_voucher s t name)) (Some account)) _ _ (own amount k small.1) (same amount)
  where
    own : (a k : ℕ) → k < 4294967296 → a + k ≤ a + 4294967295
    own a k l = omega (arith, l)

    same : (a : ℕ) → a ≤ a + 4294967295
    same a = omega arith
charge_few s t phase u (calls.Extern name adding k) account amount small = omega arith
charge_few s t phase u (calls.Create bytes) account amount small = omega arith
charge_few s t phase u (calls.GiveUp name) account amount small = omega arith
charge_few s t phase u (calls.Extract name key) account amount small = omega arith
charge_few s t phase u (calls.Recipes name) account amount small = omega arith
charge_few s t phase u (calls.Send to moving name id) account amount small = omega arith
charge_few s t phase u calls.Recv account amount small = omega arith
charge_few s t phase u calls.Ledger account amount small = omega arith
charge_few s t phase u calls.Assertions account amount small = omega arith
charge_few s t phase u calls.Live account amount small = omega arith
charge_few s t phase u calls.Exit account amount small = omega arith

-- of a scenario whose calls all have small numbers
module _ (sc : Scenario) (small : (t n : ℕ) (l : ℕ × Line) → line_at sc t n ≡ Some l → IsSmall l.1.call) where
  line_count_few : (s : Store) (t k : ℕ) (chain : Value) (count n : ℕ) (o : Option (ℕ × Line)) → line_at sc t k ≡ o
      → count ≤ added n → counted s t chain count o ≤ added (suc n)
  line_count_few s t k chain count n None e h = more n count h
  line_count_few s t k chain count n (Some l) e h =
      count_few s t l.0 l.1.task l.1.call chain count n (small t k l e) h

  line_charge_few : (s : Store) (t k : ℕ) (account : Value) (amount : ℕ) (o : Option (ℕ × Line)) → line_at sc t k ≡ o
      → charged s t account amount o ≤ amount + 4294967295
  line_charge_few s t k account amount None e = omega arith
  line_charge_few s t k account amount (Some l) e =
      charge_few s t l.0 l.1.task l.1.call account amount (small t k l e)

  pub external_few : (past : List Entry) (chain : Value) → external sc past chain ≤ added (length past)
  external_few [] chain = omega arith
  external_few (entries.Call t n word reply ∷ past) chain =
      either (λ x. x ≤ added (suc (length past))) (is_done reply) _ _
      (line_count_few (store_of sc past) t n chain (external sc past chain) (length past) (line_at sc t n) refl (external_few past chain))
      (more (length past) (external sc past chain) (external_few past chain))
  external_few (entries.Made k x ∷ past) chain =
      either (λ x. x ≤ added (suc (length past))) (equal_values x chain) _ _ (omega arith)
      (more (length past) (external sc past chain) (external_few past chain))
  external_few (entries.Released e ∷ past) chain = more (length past) (external sc past chain) (external_few past chain)
  external_few (entries.Gone t name ∷ past) chain = more (length past) (external sc past chain) (external_few past chain)
  external_few (entries.Lost t ∷ past) chain = more (length past) (external sc past chain) (external_few past chain)
  external_few (entries.Phase ∷ past) chain = more (length past) (external sc past chain) (external_few past chain)

  charged_then : (n x y : ℕ) → y ≤ x + 4294967295 → x ≤ added n → y ≤ added (suc n)
  charged_then n x y a h = omega (arith, a, h)

  pub due_few : (past : List Entry) (account : Value) → due sc past account ≤ added (length past)
  due_few [] account = omega arith
  due_few (entries.Call t n word reply ∷ past) account =
      either (λ x. x ≤ added (suc (length past))) (is_done reply) _ _
      (charged_then (length past) (due sc past account) _
      (line_charge_few (store_of sc past) t n account (due sc past account) (line_at sc t n) refl) (due_few past account))
      (more (length past) (due sc past account) (due_few past account))
  due_few (entries.Made k x ∷ past) account =
      either (λ x. x ≤ added (suc (length past))) (equal_values x account) _ _ (omega arith)
      (more (length past) (due sc past account) (due_few past account))
  due_few (entries.Released e ∷ past) account = more (length past) (due sc past account) (due_few past account)
  due_few (entries.Gone t name ∷ past) account = more (length past) (due sc past account) (due_few past account)
  due_few (entries.Lost t ∷ past) account = more (length past) (due sc past account) (due_few past account)
  due_few (entries.Phase ∷ past) account = more (length past) (due sc past account) (due_few past account)

  option_due_few : (past : List Entry) (x : Option Value) → due_of sc past x ≤ added (length past)
  option_due_few past None = omega arith
  option_due_few past (Some x) = due_few past x

  credit_more : (n x : ℕ) → x ≤ credited n → x ≤ credited (suc n)
  credit_more n x h = omega (arith, h)

  pub ledger_few : (past : List Entry) (t : ℕ) → length past ≤ 4294967296 → ledger sc past t ≤ credited (length past)
  ledger_few [] t few = omega arith
  ledger_few (entries.Call u n word reply ∷ past) t few =
      either (λ x. x ≤ credited (suc (length past))) (is_done reply && (u == t)) _ _
      (charge_then _ _ (line_charge_few (store_of sc past) t n (values.Task t) (ledger sc past t) (line_at sc t n) refl)
      (ledger_few past t (omega (arith, few))))
      (credit_more (length past) (ledger sc past t) (ledger_few past t (omega (arith, few))))
    where
      charge_then : (x y : ℕ) → y ≤ x + 4294967295 → x ≤ credited (length past) → y ≤ credited (suc (length past))
      charge_then x y a h = omega (arith, a, h)
  ledger_few (entries.Released e ∷ past) t few =
      let x = with_made (store_of sc past).live e in
      either (λ x. x ≤ credited (suc (length past))) (is_holder t x) _ _
      (credit_then (due_of sc past x) (ledger sc past t) (length past) (option_due_few past x) (omega (arith, few))
      (ledger_few past t (omega (arith, few))))
      (credit_more (length past) (ledger sc past t) (ledger_few past t (omega (arith, few))))
    where
      credit_then : (a x n : ℕ) → a ≤ added n → n ≤ 4294967296 → x ≤ credited n → x + a ≤ credited (suc n)
      credit_then a x n h l g = omega (arith, h, l, g)
  ledger_few (entries.Made k x ∷ past) t few =
      credit_more (length past) (ledger sc past t) (ledger_few past t (omega (arith, few)))
  ledger_few (entries.Gone u name ∷ past) t few =
      credit_more (length past) (ledger sc past t) (ledger_few past t (omega (arith, few)))
  ledger_few (entries.Lost u ∷ past) t few =
      credit_more (length past) (ledger sc past t) (ledger_few past t (omega (arith, few)))
  ledger_few (entries.Phase ∷ past) t few =
      credit_more (length past) (ledger sc past t) (ledger_few past t (omega (arith, few)))

module _ (sc : Scenario) (limited : IsLimited sc) where
  small_line : (t n : ℕ) (l : ℕ × Line) → line_at sc t n ≡ Some l → IsSmall l.1.call
  small_line t n l e = (line_fits sc t n l limited e).small

  -- Assertions.

  donates_few : (list : List ℕ) → donates sc list ≤ 1
  donates_few [] = omega arith
  donates_few (t ∷ list) = either (λ x. x ≤ 1) (flags_of sc t).donor 1 0 (omega arith) (omega arith)

  most_weight : ℕ
  most_weight = 18446744073709551617

  weight_few : (past : List Entry) (chain : Value) → length past ≤ 4294967296 → weight sc past chain ≤ 18446744073709551617
  weight_few past chain few =
      let a : external sc past chain ≤ added (length past) = external_few sc small_line past chain in
      let b : donates sc (tasks_of chain) ≤ 1 = donates_few (tasks_of chain) in
      omega (arith, a, b, few)

  sum_few : (f : Alive → ℕ) (live : List Alive) → ((l : Alive) → f l ≤ 18446744073709551617)
      → sum_by f live ≤ 18446744073709551617 * length live
  sum_few f [] h = omega arith
  sum_few f (l ∷ live) h =
      let a : f l ≤ 18446744073709551617 = h l in
      let b : sum_by f live ≤ 18446744073709551617 * length live = sum_few f live h in
      let e : sum_by f (l ∷ live) ≡ f l + sum_by f live = sum_by-cons f l live in
      omega (arith, a, b, e)

  weighed : (past : List Entry) (chosen : Alive → Bool) → length past ≤ 4294967296
      → sum_by (λ (l : Alive). if chosen l then weight sc past l.value else 0) (store_of sc past).live < 2 ^ 128
  weighed past chosen few =
      let a = sum_few (λ (l : Alive). if chosen l then weight sc past l.value else 0) (store_of sc past).live
      (λ l. either (λ x. x ≤ 18446744073709551617) (chosen l) _ _ (weight_few past l.value few) (omega arith)) in
      let b : length (store_of sc past).live ≤ length past = (past_small sc past limited).few_live in
      omega (arith, a, b, few)

  pub held_fits : (past : List Entry) (t : ℕ) → length past ≤ 4294967296 → held sc past t < 2 ^ 128
  held_fits past t few = weighed past (λ l. last_is t (tasks_of l.value)) few

  pub out_fits : (past : List Entry) (t : ℕ) → length past ≤ 4294967296 → out sc past t < 2 ^ 128
  out_fits past t few = weighed past (λ l. first_is t (tasks_of l.value)) few

  pub ledger_fits : (past : List Entry) (t : ℕ) → length past ≤ 4294967296 → ledger sc past t < 2 ^ 128
  ledger_fits past t few = let a : ledger sc past t ≤ credited (length past) = ledger_few sc small_line past t few in omega (arith, a, few)

  pub totals_fit : (past : List Entry) → length past ≤ 4294967296 → AllByRecursion IsTotal (totals_of sc past)
  totals_fit past few = from 1 sc.flags
    where
      from : (t : ℕ) (flags : List Flags) → AllByRecursion IsTotal (totals_from sc past t flags)
      from t [] = tt
      from t (f ∷ flags) = ((ledger_fits past t few, held_fits past t few, out_fits past t few), from (t + 1) flags)

  -- Counts.

  pub values_fit : (past : List Entry) → length past ≤ 4294967296 → values_in (store_of sc past) < 2 ^ 64
  values_fit past few = let a : length (store_of sc past).live ≤ length past = (past_small sc past limited).few_live in omega (arith, a, few)

  pub vouchers_fit : (past : List Entry) → length past ≤ 4294967296 → vouchers_in (store_of sc past) < 2 ^ 64
  vouchers_fit past few =
      let s = past_small sc past limited in
      let a : different (all_vouchers (store_of sc past).tasks) ≤ length (all_vouchers (store_of sc past).tasks) =
      fewer (all_vouchers (store_of sc past).tasks) in
      let b : length (all_vouchers (store_of sc past).tasks) ≤ 8589934592 * length (store_of sc past).tasks =
      all_few (store_of sc past).tasks s.tasks in
      omega (arith, a, b, s.as_many, limited.tasks)
    where
      fewer : (vs : List Voucher) → different vs ≤ length vs
      fewer [] = omega arith
      fewer (v ∷ vs) = by_test (list_any (equal_vouchers v) vs) (fewer vs)
        where
          by_test : (b : Bool) → different vs ≤ length vs → (if b then 0 else 1) + different vs ≤ suc (length vs)
          by_test true h = omega (arith, h)
          by_test false h = omega (arith, h)

      names_long : (names : List Named) → length (flat_map (λ (n : Named). n.voucher ∷ []) names) ≡ length names
      names_long [] = refl
      names_long (n ∷ names) = let e = names_long names in omega (arith, e)

      one_at_most : (o : Option Voucher) → length (elim o as (λ _. List Voucher) [ None ↦ [] | Some v ↦ v ∷ [] ]) ≤ 1
      one_at_most None = omega arith
      one_at_most (Some v) = omega arith

      queue_long : (queue : List Message) → length (flat_map vouchers_of queue) ≤ length queue
      queue_long [] = omega arith
      queue_long (q ∷ queue) =
          let e = length-append (vouchers_of q) (flat_map vouchers_of queue) in
          let a : length (vouchers_of q) ≤ 1 = one_at_most q.voucher in
          let b = queue_long queue in omega (arith, e, a, b)

      all_few : (tasks : List Member) → AllByRecursion (MemberSmall (length past)) tasks
          → length (all_vouchers tasks) ≤ 8589934592 * length tasks
      all_few [] h = omega arith
      all_few (m ∷ tasks) h =
          let a = names_long m.names in
          let b = queue_long m.queue in
          let c = all_few tasks h.1 in
          let d : length (all_vouchers (m ∷ tasks)) ≡ length (flat_map (λ (n : Named). n.voucher ∷ []) m.names ++ flat_map vouchers_of m.queue)
          + length (all_vouchers tasks) =
          length-append (flat_map (λ (n : Named). n.voucher ∷ []) m.names ++ flat_map vouchers_of m.queue) (all_vouchers tasks) in
          let e = length-append (flat_map (λ (n : Named). n.voucher ∷ []) m.names) (flat_map vouchers_of m.queue) in
          omega (arith, a, b, c, d, e, h.0.few_names, h.0.few_messages, few)
