-- A legal history of a scenario is one of the scenario with one line more, with the same store, sums and replies.
use Rattle.std.proofs.Common.{◌≡◌, ℕ, zero, suc, ◌+◌, ◌<◌, ◌≤◌, ◌==◌, ◌&&◌, Bool, true, false, List, [], ◌∷◌, refl, arith, sym, ap, ◌∙◌, subst, length, Some, None, Option, inl, inr}
use Rattle.std.proofs.lemmas.List.Sums.{sum_by-cons}
use Rattle.std.specs.Prelude.{if◌then◌else◌, is_some, nat_le}
use Rattle.std.specs.List.{sum_by}
use Rattle.vch_base.specs.declared.codes.TheConstants.{KERN_FAILURE, KERN_INVALID_ARGUMENT}
use Rattle.vch_base.specs.declared.limits.TheConstants.{LAST_WORD}
use Rattle.vch_base.specs.declared.value.Value.{Value}
use Rattle.vch_base.specs.declared.value.Value.TheVariants as values
use Rattle.vch_base.specs.Values.{equal_values}
use Rattle.vch_model.specs.declared.call.Call.{Call}
use Rattle.vch_model.specs.declared.call.Call.TheVariants as calls
use Rattle.vch_model.specs.declared.call.Line.{Line}
use Rattle.vch_model.specs.declared.call.Word.{Word}
use Rattle.vch_model.specs.declared.entry.Entry.{Entry}
use Rattle.vch_model.specs.declared.entry.Entry.TheVariants as entries
use Rattle.vch_model.specs.declared.entry.Reply.{Reply}
use Rattle.vch_model.specs.declared.entry.Reply.TheVariants as replies
use Rattle.vch_model.specs.declared.lists.Scenario.{Scenario}
use Rattle.vch_model.specs.Voucher.{Voucher}
use Rattle.vch_model.specs.Store.{Store, Alive}
use Rattle.vch_model.specs.Lines.{calls_in, phases_in, line_at, next_line, call_of_phase, current_call}
use Rattle.vch_model.specs.After.{is_want, store_after_line, store_after, store_of}
use Rattle.vch_model.specs.Totals.{is_done, named_voucher, counted, external, tasks_of, first_is, last_is, weight, held, out, charged, due, with_made, is_holder, due_of, ledger}
use Rattle.vch_model.specs.Replies.{refused, counting, extern_of, reply_to}
use Rattle.vch_model.specs.Legal.{IsAnswer, Answers, EachTask, CanFollow, LegalPast, may_want, voucher_given, option_all_live}
use Rattle.vch_legal.proofs.facts.Choices.{and_right, number_eq}
use Rattle.vch_legal.specs.Added.{with_added}
use Rattle.vch_legal.proofs.added.AddedLines.{line_kept, phases_added, until_same}

-- each call of a history is of a line
abbrev pub Lined : Scenario → List Entry → Type 0
Lined sc [] = Unit {0}
Lined sc (entries.Call t n word reply ∷ past) = (is_some (line_at sc t n) ≡ true) × Lined sc past
Lined sc (entries.Made k x ∷ past) = Lined sc past
Lined sc (entries.Released e ∷ past) = Lined sc past
Lined sc (entries.Gone t name ∷ past) = Lined sc past
Lined sc (entries.Lost t ∷ past) = Lined sc past
Lined sc (entries.Phase ∷ past) = Lined sc past

current_line : (sc : Scenario) (past : List Entry) (t n : ℕ) (word : Word) (reply : Reply) (o : Option Call) → current_call sc past t ≡ o
    → n ≡ calls_in past t + 1 → Answers sc past (store_of sc past) t o word reply → is_some (line_at sc t n) ≡ true
current_line sc past t n word reply None e number a = absurd a
current_line sc past t n word reply (Some call) e number a =
    ap (λ i. is_some (line_at sc t i)) number ∙ by_line (next_line sc past t) e
  where
    by_line : (l : Option (ℕ × Line)) → call_of_phase (phases_in past + 1) l ≡ Some call → is_some l ≡ true
    by_line None g = absurd (cc)
    by_line (Some l) g = refl

pub legal_lined : (sc : Scenario) (past : List Entry) → LegalPast sc past → Lined sc past
legal_lined sc [] h = tt
legal_lined sc (entries.Call t n word reply ∷ past) h =
    (current_line sc past t n word reply (current_call sc past t) refl h.1.0 h.1.1, legal_lined sc past h.0)
legal_lined sc (entries.Made k x ∷ past) h = legal_lined sc past h.0
legal_lined sc (entries.Released e ∷ past) h = legal_lined sc past h.0
legal_lined sc (entries.Gone t name ∷ past) h = legal_lined sc past h.0
legal_lined sc (entries.Lost t ∷ past) h = legal_lined sc past h.0
legal_lined sc (entries.Phase ∷ past) h = legal_lined sc past h.0

sum_same : (f g : Alive → ℕ) (live : List Alive) → ((l : Alive) → f l ≡ g l) → sum_by f live ≡ sum_by g live
sum_same f g [] h = refl
sum_same f g (l ∷ live) h =
    let a : sum_by f (l ∷ live) ≡ f l + sum_by f live = sum_by-cons f l live in
    let b : sum_by g (l ∷ live) ≡ g l + sum_by g live = sum_by-cons g l live in
    let c : sum_by f live ≡ sum_by g live = sum_same f g live h in
    let d : f l ≡ g l = h l in
    omega (arith, a, b, c, d)

module _ (sc : Scenario) (line : Line) (some : 1 ≤ length sc.phases) where
  same_line : (t n : ℕ) → is_some (line_at sc t n) ≡ true → line_at (with_added sc line) t n ≡ line_at sc t n
  same_line t n e = by_line (line_at sc t n) refl e
    where
      by_line : (o : Option (ℕ × Line)) → line_at sc t n ≡ o → is_some o ≡ true → line_at (with_added sc line) t n ≡ o
      by_line None h g = absurd (cc)
      by_line (Some l) h g = line_kept sc line t n l some h

  same_after : (s : Store) (t : ℕ) (o : Option (ℕ × Line)) → store_after_line (with_added sc line) s t o ≡ store_after_line sc s t o
  same_after s t None = refl
  same_after s t (Some l) = refl

  pub same_store : (past : List Entry) → Lined sc past → store_of (with_added sc line) past ≡ store_of sc past
  same_store [] h = refl
  same_store (entries.Call t n word reply ∷ past) h =
      ap (λ s. if is_want reply then s else store_after_line (with_added sc line) s t (line_at (with_added sc line) t n)) (same_store past h.1)
      ∙ (ap (λ o. if is_want reply then store_of sc past else store_after_line (with_added sc line) (store_of sc past) t o) (same_line t n h.0)
      ∙ ap (λ s. if is_want reply then store_of sc past else s) (same_after (store_of sc past) t (line_at sc t n)))
  same_store (entries.Made k x ∷ past) h = ap (λ s. store_after sc (length past) s (entries.Made k x)) (same_store past h)
  same_store (entries.Released e ∷ past) h = ap (λ s. store_after sc (length past) s (entries.Released e)) (same_store past h)
  same_store (entries.Gone t name ∷ past) h = ap (λ s. store_after sc (length past) s (entries.Gone t name)) (same_store past h)
  same_store (entries.Lost t ∷ past) h = ap (λ s. store_after sc (length past) s (entries.Lost t)) (same_store past h)
  same_store (entries.Phase ∷ past) h = same_store past h

  -- a sum that a call changes by its line
  same_change : (g : Store → ℕ → Option (ℕ × Line) → ℕ) (past : List Entry) (t n : ℕ) (b : Bool) (a c : ℕ) → Lined sc past
      → (b ≡ true → is_some (line_at sc t n) ≡ true) → a ≡ c
      → (if b then g (store_of (with_added sc line) past) a (line_at (with_added sc line) t n) else a)
      ≡ (if b then g (store_of sc past) c (line_at sc t n) else c)
  same_change g past t n false a c h l e = e
  same_change g past t n true a c h l e =
      ap (λ s. g s a (line_at (with_added sc line) t n)) (same_store past h)
      ∙ (ap (λ i. g (store_of sc past) i (line_at (with_added sc line) t n)) e
      ∙ ap (λ o. g (store_of sc past) c o) (same_line t n (l refl)))

  pub same_external : (past : List Entry) (chain : Value) → Lined sc past
      → external (with_added sc line) past chain ≡ external sc past chain
  same_external [] chain h = refl
  same_external (entries.Call t n word reply ∷ past) chain h =
      same_change (λ s i o. counted s t chain i o) past t n (is_done reply) _ _ h.1 (λ _. h.0) (same_external past chain h.1)
  same_external (entries.Made k x ∷ past) chain h = ap (λ i. if equal_values x chain then 0 else i) (same_external past chain h)
  same_external (entries.Released e ∷ past) chain h = same_external past chain h
  same_external (entries.Gone t name ∷ past) chain h = same_external past chain h
  same_external (entries.Lost t ∷ past) chain h = same_external past chain h
  same_external (entries.Phase ∷ past) chain h = same_external past chain h

  same_due : (past : List Entry) (account : Value) → Lined sc past → due (with_added sc line) past account ≡ due sc past account
  same_due [] account h = refl
  same_due (entries.Call t n word reply ∷ past) account h =
      same_change (λ s i o. charged s t account i o) past t n (is_done reply) _ _ h.1 (λ _. h.0) (same_due past account h.1)
  same_due (entries.Made k x ∷ past) account h = ap (λ i. if equal_values x account then 0 else i) (same_due past account h)
  same_due (entries.Released e ∷ past) account h = same_due past account h
  same_due (entries.Gone t name ∷ past) account h = same_due past account h
  same_due (entries.Lost t ∷ past) account h = same_due past account h
  same_due (entries.Phase ∷ past) account h = same_due past account h

  same_due_of : (past : List Entry) (x : Option Value) → Lined sc past → due_of (with_added sc line) past x ≡ due_of sc past x
  same_due_of past None h = refl
  same_due_of past (Some x) h = same_due past x h

  credited : (b : Bool) (i j d e : ℕ) → i ≡ j → d ≡ e → (if b then i + d else i) ≡ (if b then j + e else j)
  credited true i j d e f g = omega (arith, f, g)
  credited false i j d e f g = f

  pub same_ledger : (past : List Entry) (t : ℕ) → Lined sc past → ledger (with_added sc line) past t ≡ ledger sc past t
  same_ledger [] t h = refl
  same_ledger (entries.Call u n word reply ∷ past) t h =
      same_change (λ s i o. charged s t (values.Task t) i o) past t n (is_done reply && (u == t)) _ _ h.1
      (λ e. subst (λ i. is_some (line_at sc i n) ≡ true) (number_eq u t (and_right (is_done reply) (u == t) e)) h.0)
      (same_ledger past t h.1)
  same_ledger (entries.Made k x ∷ past) t h = same_ledger past t h
  same_ledger (entries.Released e ∷ past) t h =
      ap (λ (s : Store). credit t (with_made s.live e)) (same_store past h)
      ∙ credited (is_holder t (with_made (store_of sc past).live e)) _ _ _ _ (same_ledger past t h)
      (same_due_of past (with_made (store_of sc past).live e) h)
    where
      credit : ℕ → Option Value → ℕ
      credit t x = if is_holder t x then ledger (with_added sc line) past t + due_of (with_added sc line) past x
          else ledger (with_added sc line) past t
  same_ledger (entries.Gone u name ∷ past) t h = same_ledger past t h
  same_ledger (entries.Lost u ∷ past) t h = same_ledger past t h
  same_ledger (entries.Phase ∷ past) t h = same_ledger past t h

  -- Assertions.

  same_weighed : (past : List Entry) (chosen : Alive → Bool) → Lined sc past
      → sum_by (λ (l : Alive). if chosen l then weight (with_added sc line) past l.value else 0) (store_of (with_added sc line) past).live
      ≡ sum_by (λ (l : Alive). if chosen l then weight sc past l.value else 0) (store_of sc past).live
  same_weighed past chosen h =
      ap (λ (s : Store). sum_by (λ (l : Alive). if chosen l then weight (with_added sc line) past l.value else 0) s.live) (same_store past h)
      ∙ sum_same _ _ (store_of sc past).live (λ l. by_test (chosen l) l)
    where
      by_test : (b : Bool) (l : Alive) → (if b then weight (with_added sc line) past l.value else 0) ≡ (if b then weight sc past l.value else 0)
      by_test true l = let e = same_external past l.value h in omega (arith, e)
      by_test false l = refl

  same_held : (past : List Entry) (t : ℕ) → Lined sc past → held (with_added sc line) past t ≡ held sc past t
  same_held past t h = same_weighed past (λ l. last_is t (tasks_of l.value)) h

  same_out : (past : List Entry) (t : ℕ) → Lined sc past → out (with_added sc line) past t ≡ out sc past t
  same_out past t h = same_weighed past (λ l. first_is t (tasks_of l.value)) h

  -- Replies.

  same_counting : (past : List Entry) (t : ℕ) (adding : Bool) (n : ℕ) (o : Option Value) → Lined sc past
      → counting (with_added sc line) past t adding n o ≡ counting sc past t adding n o
  same_counting past t adding n None h = refl
  same_counting past t adding n (Some chain) h =
      ap (λ i. if last_is t (tasks_of chain) then (
      if adding then (if nat_le (i + n) LAST_WORD then replies.Done else refused KERN_FAILURE)
      else (if nat_le n i then replies.Done else refused KERN_FAILURE))
      else refused KERN_INVALID_ARGUMENT) (same_external past chain h)

  same_extern : (past : List Entry) (t : ℕ) (adding : Bool) (n : ℕ) (o : Option Voucher) → Lined sc past
      → extern_of (with_added sc line) past t adding n o ≡ extern_of sc past t adding n o
  same_extern past t adding n None h = refl
  same_extern past t adding n (Some v) h = same_counting past t adding n v.importance h

  pub same_reply : (past : List Entry) (s : Store) (t : ℕ) (call : Call) → Lined sc past
      → reply_to (with_added sc line) past s t call ≡ reply_to sc past s t call
  same_reply past s t (calls.Create bytes) h = refl
  same_reply past s t (calls.GiveUp name) h = refl
  same_reply past s t (calls.Extract name key) h = refl
  same_reply past s t (calls.Recipes name) h = refl
  same_reply past s t (calls.Send to moving name id) h = refl
  same_reply past s t calls.Recv h = refl
  same_reply past s t (calls.Extern name adding n) h = same_extern past t adding n (named_voucher s t name) h
  same_reply past s t (calls.Charge name n) h = refl
  same_reply past s t calls.Ledger h = ap replies.Ledger (same_ledger past t h)
  same_reply past s t calls.Assertions h =
      ap (λ i. replies.Assertions i (out (with_added sc line) past t)) (same_held past t h)
      ∙ ap (λ i. replies.Assertions (held sc past t) i) (same_out past t h)
  same_reply past s t calls.Live h = refl
  same_reply past s t calls.Exit h = refl

  same_want : (past : List Entry) (s : Store) (t : ℕ) (call : Call) → may_want (with_added sc line) past s t call ≡ may_want sc past s t call
  same_want past s t (calls.Create bytes) = refl
  same_want past s t (calls.GiveUp name) = refl
  same_want past s t (calls.Extract name key) = refl
  same_want past s t (calls.Recipes name) = refl
  same_want past s t (calls.Send to moving name id) = refl
  same_want past s t calls.Recv = refl
  same_want past s t (calls.Extern name adding n) = refl
  same_want past s t (calls.Charge name n) = refl
  same_want past s t calls.Ledger = refl
  same_want past s t calls.Assertions = refl
  same_want past s t calls.Live = refl
  same_want past s t calls.Exit = refl

  same_given : (s : Store) (t : ℕ) (call : Call) → voucher_given (with_added sc line) s t call ≡ voucher_given sc s t call
  same_given s t (calls.Create bytes) = refl
  same_given s t (calls.GiveUp name) = refl
  same_given s t (calls.Extract name key) = refl
  same_given s t (calls.Recipes name) = refl
  same_given s t (calls.Send to moving name id) = refl
  same_given s t calls.Recv = refl
  same_given s t (calls.Extern name adding n) = refl
  same_given s t (calls.Charge name n) = refl
  same_given s t calls.Ledger = refl
  same_given s t calls.Assertions = refl
  same_given s t calls.Live = refl
  same_given s t calls.Exit = refl

  -- Legal histories.

  same_answer : (past : List Entry) (s : Store) (t : ℕ) (call : Call) (reply : Reply) → Lined sc past
      → IsAnswer sc past s t call reply → IsAnswer (with_added sc line) past s t call reply
  same_answer past s t call reply h (inl own) =
      inl (own.0, own.1 ∙ sym (same_reply past s t call h), ap (option_all_live s) (same_given s t call) ∙ own.2)
  same_answer past s t call reply h (inr (inl want)) = inr (inl (want.0, same_want past s t call ∙ want.1))
  same_answer past s t call reply h (inr (inr leaving)) = inr (inr leaving)

  pub same_current : (past : List Entry) (t : ℕ) (call : Call) → current_call sc past t ≡ Some call
      → current_call (with_added sc line) past t ≡ Some call
  same_current past t call e = by_line (next_line sc past t) refl e
    where
      by_line : (o : Option (ℕ × Line)) → next_line sc past t ≡ o → call_of_phase (phases_in past + 1) o ≡ Some call
          → current_call (with_added sc line) past t ≡ Some call
      by_line None h g = absurd (cc)
      by_line (Some l) h g = ap (call_of_phase (phases_in past + 1)) (line_kept sc line t (calls_in past t + 1) l some h) ∙ g

  answers : (past : List Entry) (t : ℕ) (word : Word) (reply : Reply) (o : Option Call) → current_call sc past t ≡ o → Lined sc past
      → Answers sc past (store_of sc past) t o word reply
      → Answers (with_added sc line) past (store_of sc past) t (current_call (with_added sc line) past t) word reply
  answers past t word reply None e h a = absurd a
  answers past t word reply (Some call) e h a =
      subst (λ o. Answers (with_added sc line) past (store_of sc past) t o word reply) (sym (same_current past t call e))
      (a.0, same_answer past (store_of sc past) t call reply h a.1)

  each_same : (n : ℕ) (P Q : ℕ → Type 0) → ((t : ℕ) → P t → Q t) → EachTask n P → EachTask n Q
  each_same zero P Q f h = tt
  each_same (suc n) P Q f h = (each_same n P Q f h.0, f (suc n) h.1)

  follows : (past : List Entry) (e : Entry) → phases_in (e ∷ past) < length sc.phases → Lined sc past
      → CanFollow sc past (store_of sc past) e → CanFollow (with_added sc line) past (store_of sc past) e
  follows past (entries.Call t n word reply) open_ h c = (c.0, answers past t word reply (current_call sc past t) refl h c.1)
  follows past (entries.Made k x) open_ h c = c
  follows past (entries.Released e) open_ h c = c
  follows past (entries.Gone t name) open_ h c = (same_current past t calls.Exit c.0, c.1)
  follows past (entries.Lost t) open_ h c = (same_current past t calls.Exit c.0, c.1, c.2)
  follows past entries.Phase open_ h c = (
    subst (λ n. phases_in past < n) (sym (phases_added sc line)) c.0,
    c.1,
    each_same (length sc.flags) _ _ (λ t e. e ∙ sym (until_same sc line (phases_in past + 1) t some (open_))) c.2,
  )

  fewer_phases : (past : List Entry) (e : Entry) (n : ℕ) → phases_in (e ∷ past) < n → phases_in past < n
  fewer_phases past (entries.Call t i word reply) n l = l
  fewer_phases past (entries.Made k x) n l = l
  fewer_phases past (entries.Released e) n l = l
  fewer_phases past (entries.Gone t name) n l = l
  fewer_phases past (entries.Lost t) n l = l
  fewer_phases past entries.Phase n l = omega (arith, l)

  pub past_added : (past : List Entry) → phases_in past < length sc.phases → LegalPast sc past → LegalPast (with_added sc line) past
  past_added [] open_ h = tt
  past_added (e ∷ past) open_ h = (
    past_added past (fewer_phases past e (length sc.phases) open_) h.0,
    subst (λ s. CanFollow (with_added sc line) past s e) (sym (same_store past (legal_lined sc past h.0)))
        (follows past e open_ (legal_lined sc past h.0) h.1),
  )
