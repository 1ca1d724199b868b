-- Begin, to its own task, where the call is answered at once.
use Rattle.std.proofs.Common.{◌≡◌, inl, inr, ℕ, ◌+◌, ◌≤◌, Bool, List, ◌∷◌, refl, true, false, not, ◌&&◌, ◌||◌, arith, sym, ap, ◌∙◌, subst, length, Some, None, Option}
use Rattle.std.specs.Prelude.{if◌then◌else◌, ◌==◌, nat_lt}
use Rattle.vch_base.specs.declared.codes.TheConstants.{KERN_RESOURCE_SHORTAGE}
use Rattle.vch_base.specs.declared.limits.TheConstants.{ARRAY_BYTES}
use Rattle.vch_model.specs.declared.call.Call.{Call}
use Rattle.vch_model.specs.declared.call.Call.TheVariants as calls
use Rattle.vch_model.specs.declared.entry.Entry.TheVariants as entries
use Rattle.vch_model.specs.declared.entry.Reply.{Reply}
use Rattle.vch_model.specs.declared.lists.Scenario.{Scenario}
use Rattle.vch_model.specs.Voucher.{Voucher}
use Rattle.vch_model.specs.Store.{Store}
use Rattle.vch_model.specs.Eval.{create}
use Rattle.vch_model.specs.Words.{word_of}
use Rattle.vch_model.specs.After.{is_want, placed, store_after_call}
use Rattle.vch_model.specs.Lines.{calls_in, phases_in, lines_until}
use Rattle.vch_model.specs.Totals.{named_voucher}
use Rattle.vch_model.specs.Replies.{refused, given_up}
use Rattle.vch_model.specs.Legal.{is_exit, IsAnswer, option_all_live, voucher_made, voucher_given, may_want, has_code}
use Rattle.vch_machine.specs.State.{Frame, Tasked, Machine, tasked, with_tasked, seen, member_of}
use Rattle.vch_machine.specs.Beginning.{begun_one, leaving_frame, store_reply, or_want, dropped}
use Rattle.vch_machine.specs.Frames.{closed, with_frame, replied}
use Rattle.vch_machine.specs.Naming.{one_less, handles_of, orphaned}
use Rattle.vch_machine.specs.Next.{nth_call}
use Rattle.vch_legal.specs.Facts.{bit}
use Rattle.vch_legal.specs.Tie.{is_answering}
use Rattle.vch_legal.proofs.tasks.TaskItems.{still_in}
use Rattle.vch_legal.proofs.tasks.TaskLists.{IsAmong}
use Rattle.vch_legal.proofs.seen.SeenTasks.{seen_same, seen_frame, own_task}
use Rattle.vch_legal.proofs.seen.SeenCalls.{seen_less}
use Rattle.vch_legal.proofs.steps.Lifts.{Lives}
use Rattle.vch_legal.proofs.steps.Standing.{Step}
use Rattle.vch_legal.proofs.tasks.OwnSteps.{Before, settled_quiet, Answered, unformed, call_follows, closed_answered}
use Rattle.vch_legal.proofs.steps.Refusals.{if_same}

-- a task that begins its next call
pub record Starting (sc : Scenario) (t : ℕ) (m : Machine) (call : Call) : Type 0 where
  pub before : Before sc t m
  pub frame : (tasked m t).frame ≡ None
  pub there : nth_call sc t ((tasked m t).begun + 1) ≡ Some call
  pub more : (tasked m t).begun + 1 ≤ lines_until sc (phases_in m.past + 1) t
  pub range : IsAmong t m.tasks

-- the state in which the call is counted as begun
abbrev pub counted : Machine → ℕ → Machine
counted m t = with_tasked m t (begun_one (tasked m t))

pub counted_seen : (m : Machine) (t : ℕ) → seen (counted m t) ≡ seen m
counted_seen m t = seen_same m t (begun_one (tasked m t)) refl

pub counted_task : (m : Machine) (t : ℕ) → IsAmong t m.tasks → tasked (counted m t) t ≡ begun_one (tasked m t)
counted_task m t l = own_task m t (begun_one (tasked m t)) l

pub start_number : (sc : Scenario) (t : ℕ) (m : Machine) (call : Call) → Starting sc t m call → (tasked m t).begun
    ≡ calls_in m.past t
start_number sc t m call c = c.before.counted ∙
    (ap (λ f. calls_in m.past t + bit (is_answering f)) c.frame ∙ none (calls_in m.past t))
  where
    none : (a : ℕ) → a + 0 ≡ a
    none a = omega arith

-- the call is answered, in a state that has it counted
pub begun_answer : (sc : Scenario) (t : ℕ) (m mid : Machine) (call : Call) (reply : Reply) → Starting sc t m call
    → mid.past ≡ m.past → mid.live ≡ m.live → (tasked mid t).begun ≡ (tasked m t).begun + 1
    → Answered (tasked mid t).frame → seen mid ≡ (if is_want reply then seen m else store_after_call sc (seen m) t
    call) → IsAnswer sc m.past (seen m) t call reply
    → Step sc t m (replied mid t call reply)
begun_answer sc t m mid call reply c past live begun answered store answer = record {
  follows = call_follows sc t m (replied mid t call reply) ((tasked m t).begun + 1) call reply c.before
      (ap (λ a. a + 1) number) c.more c.there added store answer;
  lives = Lives.Same live;
  counted = begun ∙ (ap (λ a. a + 1) number ∙ sym
      (counts ∙ (ap (λ b. calls_in mid.past t + 1 + bit b) (settled_quiet (tasked mid t).frame answered.settled)
      ∙ (plus_none (calls_in mid.past t + 1) ∙ ap (λ p. calls_in p t + 1) past))));
  begun = subst (λ b. b ≤ lines_until sc (phases_in m.past + 1) t) (sym begun) c.more;
  forming = unformed sc mid.live (member_of mid.live (tasked mid t)) t (tasked mid t).begun (tasked mid t).frame
      answered.settled;
  open_frame = answered.open_frame;
}
  where
    number : (tasked m t).begun ≡ calls_in m.past t
    number = start_number sc t m call c

    added : entries.Call t (tasked mid t).begun (word_of call) reply ∷ mid.past
        ≡ entries.Call t ((tasked m t).begun + 1) (word_of call) reply ∷ m.past
    added = ap (λ b. entries.Call t b (word_of call) reply ∷ mid.past) begun
        ∙ ap (λ p. entries.Call t ((tasked m t).begun + 1) (word_of call) reply ∷ p) past

    plus_none : (a : ℕ) → a + bit false ≡ a
    plus_none a = omega arith

    own : (a : ℕ) → (a == a) ≡ true
    own a = grind arith

    counts : calls_in (replied mid t call reply).past t + bit (is_answering (tasked mid t).frame)
        ≡ calls_in mid.past t + 1 + bit (is_answering (tasked mid t).frame)
    counts = ap (λ b. calls_in mid.past t + (if b then 1 else 0) + bit (is_answering (tasked mid t).frame)) (own t)

-- no frame is there
pub unanswered : (sc : Scenario) (t : ℕ) (m : Machine) (call : Call) → Starting sc t m call
    → Answered (tasked (counted m t) t).frame
unanswered sc t m call c =
    subst (λ (x : Tasked). Answered x.frame) (sym (counted_task m t c.range))
    (subst Answered (sym c.frame) (record { settled = tt; open_frame = tt }))

-- it is answered and nothing else is seen
pub plain_answer : (sc : Scenario) (t : ℕ) (m : Machine) (call : Call) (reply : Reply) → Starting sc t m call
    → (if is_want reply then seen m else store_after_call sc (seen m) t call) ≡ seen m
    → IsAnswer sc m.past (seen m) t call reply → Step sc t m (replied (counted m t) t call reply)
plain_answer sc t m call reply c store answer =
    begun_answer sc t m (counted m t) call reply c refl refl (ap (λ (x : Tasked). x.begun) (counted_task m t c.range))
    (unanswered sc t m call c) (counted_seen m t ∙ sym store) answer

-- the store's reply, where the call leaves the store and gives no voucher
pub quiet_answer : (sc : Scenario) (t : ℕ) (m : Machine) (call : Call) → Starting sc t m call → is_exit call ≡ false
    → store_after_call sc (seen m) t call ≡ seen m → voucher_given sc (seen m) t call ≡ None
    → Step sc t m (replied (counted m t) t call (store_reply sc m t call))
quiet_answer sc t m call c other store given =
    plain_answer sc t m call (store_reply sc m t call) c
    (if_same (is_want (store_reply sc m t call)) (seen m) _ store)
    (inl (other, refl, ap (option_all_live (seen m)) given))

-- extract and recipes may want memory where they have no code
pub wanting_answer : (sc : Scenario) (want : Bool) (t : ℕ) (m : Machine) (call : Call) → Starting sc t m call
    → is_exit call ≡ false → store_after_call sc (seen m) t call ≡ seen m → voucher_given sc (seen m) t call ≡ None
    → may_want sc m.past (seen m) t call ≡ not (has_code (store_reply sc m t call))
    → Step sc t m (replied (counted m t) t call (or_want want (store_reply sc m t call)))
wanting_answer sc want t m call c other store given may = by_test (want && not (has_code (store_reply sc m t call)))
    (second want _)
  where
    second : (a b : Bool) → (a && b) ≡ true → b ≡ true
    second a b e = grind arith

    by_test : (b : Bool) → (b ≡ true → not (has_code (store_reply sc m t call)) ≡ true)
        → Step sc t m (replied (counted m t) t call (if b then refused (KERN_RESOURCE_SHORTAGE) else store_reply sc
        m t call))
    by_test true e = plain_answer sc t m call (refused (KERN_RESOURCE_SHORTAGE)) c refl (inr (inl (refl, may ∙ e refl)))
    by_test false e = quiet_answer sc t m call c other store given

-- a create of no bytes, or of too many
pub no_create : (version : ℕ) (names : ℕ → Option Voucher) (t : ℕ) (bytes : List ℕ)
    → ((length bytes == 0) || nat_lt ARRAY_BYTES (length bytes)) ≡ true
    → (voucher_made (create version names t bytes) ≡ None) × ((s : Store) (u : ℕ)
    → placed s u (create version names t bytes) ≡ s)
unfolding create
no_create version names t bytes e = by_tests (nat_lt ARRAY_BYTES (length bytes)) (length bytes == 0) refl refl e
  where
    by_tests : (a b : Bool) → nat_lt ARRAY_BYTES (length bytes) ≡ a → (length bytes == 0) ≡ b → (b || a) ≡ true
        → (voucher_made (create version names t bytes) ≡ None) × ((s : Store) (u : ℕ)
        → placed s u (create version names t bytes) ≡ s)
    by_tests true b x y e = rw x (refl, λ s u. refl)
    by_tests false true x y e = rw (x, y) (refl, λ s u. refl)
    by_tests false false x y e = cc

-- a reference that is given up
pub drop_answer : (sc : Scenario) (t : ℕ) (m : Machine) (name : ℕ) → Starting sc t m (calls.GiveUp name)
    → Step sc t m (dropped (counted m t) t (calls.GiveUp name) (store_reply sc m t (calls.GiveUp name))
    (handles_of (tasked (counted m t) t).names name) name)
drop_answer sc t m name c =
    begun_answer sc t m (with_frame mid t (closed g)) (calls.GiveUp name) (store_reply sc m t (calls.GiveUp name)) c
    refl refl
    (ap (λ (x : Tasked). x.begun) own ∙ (ap (λ (x : Tasked). x.begun) mid_own
    ∙ ap (λ (x : Tasked). x.begun) (counted_task m t c.range)))
    (subst (λ (x : Tasked). Answered x.frame) (sym own) (closed_answered g refl refl))
    (seen_frame mid t (closed g) ∙ (seen_less (counted m t) t name
    ∙ (ap (λ s. store_after_call sc s t (calls.GiveUp name)) (counted_seen m t)
    ∙ sym (ap (λ b. if b then seen m else store_after_call sc (seen m) t (calls.GiveUp name))
    (never (named_voucher (seen m) t name))))))
    (inl (refl, refl, refl))
  where
    mid : Machine
    mid = with_tasked (counted m t) t (record (tasked (counted m t) t)
        { names = one_less (tasked (counted m t) t).names name })

    g : Frame
    g = leaving_frame (orphaned mid (handles_of (tasked (counted m t) t).names name))

    range_one : IsAmong t (counted m t).tasks
    range_one = still_in m.tasks t t (begun_one (tasked m t)) c.range

    range_two : IsAmong t mid.tasks
    range_two = still_in (counted m t).tasks t t _ range_one

    own : tasked (with_frame mid t (closed g)) t ≡ record (tasked mid t) { frame = closed g }
    own = own_task mid t (record (tasked mid t) { frame = closed g }) range_two

    mid_own : tasked mid t ≡ record (tasked (counted m t) t) { names = one_less (tasked (counted m t) t).names name }
    mid_own = own_task (counted m t) t (record (tasked (counted m t) t)
        { names = one_less (tasked (counted m t) t).names name }) range_one

    never : (o : Option Voucher) → is_want (given_up o) ≡ false
    never None = refl
    never (Some v) = refl
