-- Each entry of a legal history has a text, where what is made of bytes is.
use Rattle.std.proofs.Common.{◌≡◌, ℕ, ◌+◌, ◌<◌, ◌≤◌, ◌==◌, ◌||◌, Bool, true, false, not, List, [], ◌∷◌, refl, arith, sym, subst, length, Some, None, Option, Ok, Err, Result, inl, inr}
use Rattle.std.specs.Prelude.{◌^◌, if◌then◌else◌, nat_le, ℤ}
use Rattle.std.specs.List.{AllByRecursion}
use Rattle.vch_base.specs.declared.codes.TheConstants.{MACH_SEND_TIMED_OUT, MACH_SEND_INVALID_VOUCHER}
use Rattle.vch_base.specs.declared.limits.TheConstants.{LAST_WORD}
use Rattle.vch_base.specs.declared.key.Key.{Key}
use Rattle.vch_base.specs.Keys.{key_of}
use Rattle.vch_base.specs.Keyed.{of_key}
use Rattle.vch_base.specs.Values.{task_numbers}
use Rattle.vch_base.specs.declared.value.Value.{Value}
use Rattle.vch_base.specs.declared.value.Value.TheVariants as values
use Rattle.vch_model.specs.declared.call.Call.{Call}
use Rattle.vch_model.specs.declared.call.Call.TheVariants as calls
use Rattle.vch_model.specs.declared.call.Word.{Word}
use Rattle.vch_model.specs.declared.entry.Entry.{Entry}
use Rattle.vch_model.specs.declared.entry.Entry.TheVariants as entries
use Rattle.vch_model.specs.declared.entry.Reply.{Reply}
use Rattle.vch_model.specs.declared.entry.Reply.TheVariants as replies
use Rattle.vch_model.specs.declared.lists.Scenario.{Scenario}
use Rattle.vch_model.specs.Voucher.{Voucher}
use Rattle.vch_model.specs.Store.{Store, Message, Alive, member, voucher_of, name_of, name_for, is_full, is_live}
use Rattle.vch_model.specs.Eval.{create}
use Rattle.vch_model.specs.Transfer.{after}
use Rattle.vch_model.specs.Words.{word_of}
use Rattle.vch_model.specs.Lines.{is_task, calls_in, current_call}
use Rattle.vch_model.specs.After.{taken_first, store_of}
use Rattle.vch_model.specs.Totals.{named_voucher, external, last_is, tasks_of}
use Rattle.vch_model.specs.Replies.{refused, created, given_up, content_at, extracted, recipes_of, sending, receiving, counting, extern_of, may_charge, charge_of, reply_to}
use Rattle.vch_model.specs.Legal.{LegalPast, CanFollow, Answers, IsAnswer, IsUnheld, is_exit, all_tasks, find_made}
use Rattle.vch_model.specs.Scenarios.{IsCallOf, IsLimited}
use Rattle.vch_model.specs.WellFormed.{IsNumber, IsWordOf, IsReply, IsRanged, IsEntry}
use Rattle.vch_legal.specs.Reports.{IsByteValue, IsByteEntry}
use Rattle.vch_legal.proofs.facts.Choices.{and_left, and_right, number_eq}
use Rattle.vch_legal.proofs.sums.Conservation.{task_range}
use Rattle.vch_legal.proofs.lines.EachLine.{LineFits, current_fits}
use Rattle.vch_legal.proofs.reports.ReplyCodes.{Coded, create_coded, invalid_argument, failure, out_of_memory, invalid_name, invalid_capability, invalid_dest, queue_full, invalid_voucher, queue_empty}
use Rattle.vch_legal.proofs.reports.ReportBytes.{VoucherBytes, content_bytes, recipe_is_bytes, live_bytes, named_bytes}
use Rattle.vch_legal.proofs.sums.ReportSums.{held_fits, out_fits, ledger_fits, vouchers_fit, values_fit}
use Rattle.vch_legal.proofs.store.StoreLegal.{legal_store}
use Rattle.vch_legal.proofs.store.StoreSmall.{MemberSmall, MadeWithin, MessageFits, given_small, lowest_fits}
use Rattle.vch_legal.proofs.store.StoreCounts.{member_small, taken_store, past_small}

reply_if : (w : Word) (b : Bool) (x y : Reply) → IsReply w x → IsReply w y → IsReply w (if b then x else y)
reply_if w true x y p q = p
reply_if w false x y p q = q

word_version : (version : ℕ) (call : Call) → IsCallOf version call → IsWordOf version (word_of call)
word_version version (calls.Create bytes) h = tt
word_version version (calls.GiveUp name) h = tt
word_version version (calls.Extract name key) h = tt
word_version version (calls.Recipes name) h = tt
word_version version (calls.Send to moving name id) h = tt
word_version version calls.Recv h = tt
word_version version (calls.Extern name adding n) h = tt
word_version version (calls.Charge name n) h = tt
word_version version calls.Ledger h = tt
word_version version calls.Assertions h = tt
word_version version calls.Live h = tt
word_version version calls.Exit h = h

module _ (sc : Scenario) (limited : IsLimited sc) where
  -- The replies of the store after so many entries.
  module _ (past : List Entry) (few : length past < 4294967295) (legal : LegalPast sc past) (bytes : AllByRecursion IsByteEntry past) where
    s : Store
    s = store_of sc past

    short : length past ≤ 4294967296
    short = omega (arith, few)

    gives : (n : ℕ) → n ≤ length past + 1 → n < 2 ^ 32
    gives n l = omega (arith, l, few)

    created_reply : (t : ℕ) (o : Result (Option Voucher) ℤ) (array : List ℕ) → Coded o
        → IsReply (word_of (calls.Create array)) (created (store_of sc past) t o)
    created_reply t (Err code) array p = p
    created_reply t (Ok None) array p = (refl, omega arith)
    created_reply t (Ok (Some v)) array p = (
      refl,
      gives _ (given_small (length past) (member (store_of sc past) t) v
          (member_small sc (length past) (store_of sc past) t (past_small sc past limited))),
    )

    given_up_reply : (name : ℕ) (o : Option Voucher) → IsReply (word_of (calls.GiveUp name)) (given_up o)
    given_up_reply name None = invalid_name
    given_up_reply name (Some v) = tt

    named : (t name : ℕ) (v : Voucher) → named_voucher (store_of sc past) t name ≡ Some v → VoucherBytes v
    named t name v e = named_bytes sc (store_of sc past) t name v (legal_store sc past legal) (live_bytes sc past bytes) e

    content_reply : (name n : ℕ) (k : Option Key) (v : Voucher) → VoucherBytes v
        → IsReply (word_of (calls.Extract name n)) (content_at k v)
    content_reply name n None v h = invalid_argument
    content_reply name n (Some k) v h = (refl, content_bytes (of_key k v) (h k))

    extracted_reply : (t name n : ℕ) (o : Option Voucher) → named_voucher (store_of sc past) t name ≡ o
        → IsReply (word_of (calls.Extract name n)) (extracted sc.version n o)
    extracted_reply t name n None e = invalid_capability
    extracted_reply t name n (Some v) e = content_reply name n (key_of sc.version n) v (named t name v e)

    recipes_reply : (t name : ℕ) (o : Option Voucher) → named_voucher (store_of sc past) t name ≡ o
        → IsReply (word_of (calls.Recipes name)) (recipes_of t o)
    recipes_reply t name None e = invalid_capability
    recipes_reply t name (Some v) e = (refl, recipe_is_bytes t v (named t name v e))

    sending_reply : (t to : ℕ) (moving : Bool) (name id : ℕ)
        → IsReply (word_of (calls.Send to moving name id)) (sending sc (store_of sc past) t to name)
    sending_reply t to moving name id =
        reply_if words_ (not (is_task sc to)) _ _ invalid_dest
        (by_name ((name == 0) || elim (named_voucher (store_of sc past) t name) as (λ x. Bool) [ None ↦ false | Some v ↦ true ]))
      where
        words_ : Word
        words_ = word_of (calls.Send to moving name id)

        by_name : (b : Bool) → IsReply (word_of (calls.Send to moving name id))
            (if b then (if is_full sc (store_of sc past) to then refused MACH_SEND_TIMED_OUT else replies.Done)
            else refused MACH_SEND_INVALID_VOUCHER)
        by_name true = reply_if (word_of (calls.Send to moving name id)) (is_full sc (store_of sc past) to)
            (refused MACH_SEND_TIMED_OUT) replies.Done queue_full tt
        by_name false = invalid_voucher

    receiving_reply : (t : ℕ) (queue : List Message) → (member (store_of sc past) t).queue ≡ queue
        → IsReply (word_of calls.Recv) (receiving sc (store_of sc past) t queue)
    receiving_reply t [] e = queue_empty
    receiving_reply t (q ∷ queue) e = (refl, message.0.0, message.0.1, by_voucher q.voucher)
      where
        message : AllByRecursion MessageFits (q ∷ queue)
        message = subst (AllByRecursion MessageFits) e (member_small sc (length past) (store_of sc past) t (past_small sc past limited)).messages

        by_voucher : (o : Option Voucher) → elim o as (λ _. ℕ)
            [ None ↦ 0 | Some v ↦ name_for (member (taken_first (store_of sc past) t queue) t) (name_of (member (taken_first (store_of sc past) t queue) t).names (after sc t v)) ] < 2 ^ 32
        by_voucher None = omega arith
        by_voucher (Some v) =
            gives _ (given_small (length past) (member (taken_first (store_of sc past) t queue) t) (after sc t v)
            (member_small sc (length past) (taken_first (store_of sc past) t queue) t
            (taken_store sc (length past) (store_of sc past) t q queue e (past_small sc past limited))))

    counting_reply : (t name : ℕ) (adding : Bool) (n : ℕ) (o : Option Value)
        → IsReply (word_of (calls.Extern name adding n)) (counting sc past t adding n o)
    counting_reply t name adding n None = invalid_argument
    counting_reply t name adding n (Some chain) =
        reply_if words_ (last_is t (tasks_of chain)) _ _
        (reply_if words_ adding _ _ (reply_if words_ (nat_le (external sc past chain + n) LAST_WORD) _ _ tt failure)
        (reply_if words_ (nat_le n (external sc past chain)) _ _ tt failure)) invalid_argument
      where
        words_ : Word
        words_ = word_of (calls.Extern name adding n)

    extern_reply : (t name : ℕ) (adding : Bool) (n : ℕ) (o : Option Voucher)
        → IsReply (word_of (calls.Extern name adding n)) (extern_of sc past t adding n o)
    extern_reply t name adding n None = invalid_capability
    extern_reply t name adding n (Some v) = counting_reply t name adding n v.importance

    charge_reply : (t name n : ℕ) (o : Option Voucher) → IsReply (word_of (calls.Charge name n)) (charge_of t o)
    charge_reply t name n None = invalid_capability
    charge_reply t name n (Some v) = reply_if (word_of (calls.Charge name n)) (may_charge t v.bank) _ _ tt invalid_argument

    store_reply : (t : ℕ) (call : Call) → IsReply (word_of call) (reply_to sc past (store_of sc past) t call)
    store_reply t (calls.Create array) =
        created_reply t (create sc.version (voucher_of (member (store_of sc past) t).names) t array) array
        (create_coded sc.version (voucher_of (member (store_of sc past) t).names) t array)
    store_reply t (calls.GiveUp name) = given_up_reply name (named_voucher (store_of sc past) t name)
    store_reply t (calls.Extract name key) = extracted_reply t name key (named_voucher (store_of sc past) t name) refl
    store_reply t (calls.Recipes name) = recipes_reply t name (named_voucher (store_of sc past) t name) refl
    store_reply t (calls.Send to moving name id) = sending_reply t to moving name id
    store_reply t calls.Recv = receiving_reply t (member (store_of sc past) t).queue refl
    store_reply t (calls.Extern name adding n) = extern_reply t name adding n (named_voucher (store_of sc past) t name)
    store_reply t (calls.Charge name n) = charge_reply t name n (named_voucher (store_of sc past) t name)
    store_reply t calls.Ledger = (refl, ledger_fits sc limited past t short)
    store_reply t calls.Assertions = (refl, held_fits sc limited past t short, out_fits sc limited past t short)
    store_reply t calls.Live = (refl, vouchers_fit sc limited past short, values_fit sc limited past short)
    store_reply t calls.Exit = tt

    exit_reply : (call : Call) → is_exit call ≡ true → IsReply (word_of call) replies.Done
    exit_reply calls.Exit e = tt
    exit_reply (calls.Create array) e = absurd (cc)
    exit_reply (calls.GiveUp name) e = absurd (cc)
    exit_reply (calls.Extract name key) e = absurd (cc)
    exit_reply (calls.Recipes name) e = absurd (cc)
    exit_reply (calls.Send to moving name id) e = absurd (cc)
    exit_reply calls.Recv e = absurd (cc)
    exit_reply (calls.Extern name adding n) e = absurd (cc)
    exit_reply (calls.Charge name n) e = absurd (cc)
    exit_reply calls.Ledger e = absurd (cc)
    exit_reply calls.Assertions e = absurd (cc)
    exit_reply calls.Live e = absurd (cc)

    answer_reply : (t : ℕ) (call : Call) (reply : Reply) → IsAnswer sc past (store_of sc past) t call reply → IsReply (word_of call) reply
    answer_reply t call reply (inl own) = subst (IsReply (word_of call)) (sym own.1) (store_reply t call)
    answer_reply t call reply (inr (inl want)) = subst (IsReply (word_of call)) (sym want.0) out_of_memory
    answer_reply t call reply (inr (inr leaving)) = subst (IsReply (word_of call)) (sym leaving.2) (exit_reply call leaving.0)

    call_entry : (t n : ℕ) (word : Word) (reply : Reply) (o : Option Call) → current_call sc past t ≡ o
        → n ≡ calls_in past t + 1 → Answers sc past (store_of sc past) t o word reply
        → IsEntry sc.version (entries.Call t n word reply)
    call_entry t n word reply None e number a = absurd a
    call_entry t n word reply (Some call) e number a =
        let f : LineFits sc t (calls_in past t + 1) call = current_fits sc past t call limited e in (
          f.task,
          (omega (arith, number), omega (arith, number, f.number)),
          subst (IsWordOf sc.version) (sym a.0) (word_version sc.version call f.version),
          subst (λ x. IsReply x reply) (sym a.0) (answer_reply t call reply a.1),
        )

    -- an exit is of version 2, by a task of the scenario
    exit_here : (t : ℕ) → current_call sc past t ≡ Some calls.Exit → LineFits sc t (calls_in past t + 1) calls.Exit
    exit_here t e = current_fits sc past t calls.Exit limited e

    gone_entry : (t name : ℕ) → CanFollow sc past (store_of sc past) (entries.Gone t name) → IsEntry sc.version (entries.Gone t name)
    gone_entry t name f =
        let e = exit_here t f.0 in
        let m : MemberSmall (length past) (member (store_of sc past) t) = member_small sc (length past) (store_of sc past) t (past_small sc past limited) in
        let l = lowest_fits (member (store_of sc past) t).next (member (store_of sc past) t).names name m.names f.1 in
        (e.version, e.task, (l.0, gives name (omega (arith, l.1, m.next))))

    -- Made and Released.

    task_number : (t : ℕ) → is_task sc t ≡ true → IsNumber t
    task_number t e = let r = task_range sc t e in (r.0, omega (arith, r.1, limited.tasks))

    list_numbers : (ts : List ℕ) → all_tasks sc ts ≡ true → AllByRecursion IsNumber ts
    list_numbers [] e = tt
    list_numbers (t ∷ ts) e = (task_number t (and_left (is_task sc t) _ e), list_numbers ts (and_right (is_task sc t) _ e))

    made_ranged : (k : ℕ) (x : Value) → all_tasks sc (task_numbers x) ≡ true → is_live (store_of sc past) k x ≡ false
        → IsByteValue x → IsRanged x
    made_ranged k (values.User array) e n h = h
    made_ranged k (values.Chain list) e n h = list_numbers list e
    made_ranged k values.Default e n h = absurd (cc)
    made_ranged k (values.Task t) e n h = (list_numbers (t ∷ []) e).0
    made_ranged k (values.Account holder merchant) e n h = let p = list_numbers (holder ∷ merchant ∷ []) e in (p.0, p.1.0)

    released_number : (e : ℕ) (live : List Alive) → AllByRecursion (MadeWithin (length past)) live
        → IsUnheld (store_of sc past) (find_made live e) → (1 ≤ e) × (e ≤ length past)
    released_number e [] h u = absurd u
    released_number e (l ∷ live) h u = by_test (l.made == e) refl u (released_number e live h.1)
      where
        by_test : (b : Bool) → (l.made == e) ≡ b → IsUnheld (store_of sc past) (if b then Some l else find_made live e)
            → (IsUnheld (store_of sc past) (find_made live e) → (1 ≤ e) × (e ≤ length past)) → (1 ≤ e) × (e ≤ length past)
        by_test true q u r = subst (λ i. (1 ≤ i) × (i ≤ length past)) (number_eq l.made e q) h.0
        by_test false q u r = r u

    entry_formed : (e : Entry) → CanFollow sc past (store_of sc past) e → IsByteEntry e → IsEntry sc.version e
    entry_formed (entries.Call t n word reply) f b = call_entry t n word reply (current_call sc past t) refl f.0 f.1
    entry_formed (entries.Made k x) f b = (f.0, made_ranged k x f.1 f.2 b)
    entry_formed (entries.Released e) f b =
        let r = released_number e (store_of sc past).live (past_small sc past limited).made f in (r.0, omega (arith, r.1, few))
    entry_formed (entries.Gone t name) f b = gone_entry t name f
    entry_formed (entries.Lost t) f b = let e = exit_here t f.0 in (e.version, e.task)
    entry_formed entries.Phase f b = tt

  pub past_formed : (past : List Entry) → length past < 4294967296 → LegalPast sc past → AllByRecursion IsByteEntry past
      → AllByRecursion (IsEntry sc.version) past
  past_formed [] few legal bytes = tt
  past_formed (e ∷ past) few legal bytes =
      (entry_formed past (omega (arith, few)) legal.0 bytes.1 e legal.1 bytes.0, past_formed past (omega (arith, few)) legal.0 bytes.1)
