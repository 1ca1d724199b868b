-- Begin, to its own task: a send, a recv, and every call.
use Rattle.std.proofs.Common.{◌≡◌, inl, ℕ, ◌+◌, ◌≤◌, Bool, List, [], ◌∷◌, ◌++◌, refl, true, false, not, ◌&&◌, arith, sym, ap, ◌∙◌, subst, map, Some, None, Option}
use Rattle.std.specs.Prelude.{if◌then◌else◌, ◌==◌, nat_lt}
use Rattle.vch_legal.proofs.forming.KeysThere.{receives_keys, first_live}
use Rattle.vch_base.specs.declared.key.Key.TheVariants as keys
use Rattle.vch_base.specs.Keys.{managed}
use Rattle.vch_base.specs.declared.codes.TheConstants.{MACH_SEND_TIMED_OUT}
use Rattle.vch_model.specs.declared.call.Call.{Call}
use Rattle.vch_model.specs.declared.call.Call.TheVariants as calls
use Rattle.vch_model.specs.declared.entry.Reply.TheVariants as replies
use Rattle.vch_model.specs.declared.lists.Scenario.{Scenario}
use Rattle.vch_model.specs.Voucher.{Voucher}
use Rattle.vch_model.specs.Store as store
use Rattle.vch_model.specs.Store.{Member, member}
use Rattle.vch_model.specs.After.{is_want, appended, queued, taken_first, received, store_after_call}
use Rattle.vch_model.specs.Lines.{is_task, phases_in, lines_until}
use Rattle.vch_model.specs.Replies.{refused, reply_to}
use Rattle.vch_model.specs.Legal.{option_all_live, voucher_given, voucher_received}
use Rattle.vch_machine.specs.State.{Handles, Tasked, Machine, Message, idle, tasked, with_tasked, seen, valued, valued_option, message_of}
use Rattle.vch_machine.specs.Beginning.{begun_one, fresh_frame, exiting_frame, key_if, store_reply, dequeued, enqueued, is_full, first_voucher, begin_recv, begin_send, begin_call, begin_line, do_begin}
use Rattle.vch_machine.specs.Frames.{with_frame, replied}
use Rattle.vch_machine.specs.Naming.{handles_of}
use Rattle.vch_machine.specs.Next.{nth_call}
use Rattle.vch_legal.specs.Facts.{Fits}
use Rattle.vch_legal.specs.Tie.{first_in, AllAmong}
use Rattle.vch_legal.proofs.tasks.TaskItems.{set_keeps, still_in}
use Rattle.vch_legal.proofs.tasks.TaskLists.{IsAmong}
use Rattle.vch_legal.proofs.seen.SeenTasks.{member_seen, own_task}
use Rattle.vch_legal.proofs.seen.SeenCalls.{full_seen, seen_queued, seen_taken}
use Rattle.vch_legal.proofs.steps.Standing.{Step}
use Rattle.vch_legal.proofs.tasks.OwnSteps.{Before, Answered}
use Rattle.vch_legal.proofs.steps.PlaceSteps.{IsStep}
use Rattle.vch_legal.proofs.steps.BeginSteps.{Starting, counted, counted_seen, counted_task, begun_answer, unanswered, quiet_answer, wanting_answer, drop_answer}
use Rattle.vch_legal.proofs.steps.BeginFrames.{frame_begins, framed_begin, key_among_if, create_begins, receives_after, named_begins}
use Rattle.vch_legal.proofs.steps.LeaveSteps.{step_if}

-- a message without a voucher
abbrev bare : ℕ → ℕ → Message
bare t id = record { sender = t; id = id; voucher = None }

-- it is queued where the queue has room
bare_reply : (sc : Scenario) (t : ℕ) (m : Machine) (to : ℕ) (moving : Bool) (name id : ℕ) (full : Bool)
    → is_task sc to ≡ true → (name == 0) ≡ true → store.is_full sc (seen m) to ≡ full
    → reply_to sc m.past (seen m) t (calls.Send to moving name id)
    ≡ (if full then refused MACH_SEND_TIMED_OUT else replies.Done)
bare_reply sc t m to moving name id full task zero e = rw (task, zero, e) refl

bare_given : (sc : Scenario) (t : ℕ) (m : Machine) (to : ℕ) (moving : Bool) (name id : ℕ) → is_task sc to ≡ true
    → (name == 0) ≡ true → voucher_given sc (seen m) t (calls.Send to moving name id) ≡ None
bare_given sc t m to moving name id task zero = rw (task, zero) refl

abbrev BareStep : Scenario → ℕ → Machine → ℕ → Bool → ℕ → ℕ → Machine → Type 0
BareStep sc t m to moving name id mid = Step sc t m
    (replied mid t (calls.Send to moving name id) (store_reply sc m t (calls.Send to moving name id)))

-- a task that gets a message goes on as it was
pub queued_begun : (m : Machine) (t to : ℕ) (q : Message) → (tasked (enqueued m to q) t).begun ≡ (tasked m t).begun
queued_begun m t to q = set_keeps (λ (x : Tasked). x.begun ≡ (tasked m t).begun) m.tasks to t
    (record (tasked m to) { queue = (tasked m to).queue ++ q ∷ [] }) idle (λ e. e) refl

pub queued_frame : (m : Machine) (t to : ℕ) (q : Message) → (tasked (enqueued m to q) t).frame ≡ (tasked m t).frame
queued_frame m t to q = set_keeps (λ (x : Tasked). x.frame ≡ (tasked m t).frame) m.tasks to t
    (record (tasked m to) { queue = (tasked m to).queue ++ q ∷ [] }) idle (λ e. e) refl

bare_begins : (sc : Scenario) (t : ℕ) (m : Machine) (to : ℕ) (moving : Bool) (name id : ℕ)
    → Starting sc t m (calls.Send to moving name id) → is_task sc to ≡ true → (name == 0) ≡ true
    → BareStep sc t m to moving name id (if is_full sc (counted m t) to then counted m t else enqueued (counted m t) to
    (bare t id))
bare_begins sc t m to moving name id c task zero = by_full (is_full sc (counted m t) to) refl
  where
    full_before : (b : Bool) → is_full sc (counted m t) to ≡ b → store.is_full sc (seen m) to ≡ b
    full_before b e = sym (ap (λ s. store.is_full sc s to) (counted_seen m t)) ∙ (full_seen sc (counted m t) to ∙ e)

    by_full : (b : Bool) → is_full sc (counted m t) to ≡ b
        → BareStep sc t m to moving name id (if b then counted m t else enqueued (counted m t) to (bare t id))
    by_full false e =
        begun_answer sc t m (enqueued (counted m t) to (bare t id)) (calls.Send to moving name id)
        (store_reply sc m t (calls.Send to moving name id)) c refl refl
        (queued_begun (counted m t) t to (bare t id) ∙ ap (λ (x : Tasked). x.begun) (counted_task m t c.range))
        (subst Answered (sym (queued_frame (counted m t) t to (bare t id)))
        (unanswered sc t m (calls.Send to moving name id) c))
        (seen_queued (counted m t) to (bare t id) ∙
        (ap (λ s. appended s to (record { sender = t; id = id; voucher = None })) (counted_seen m t)
        ∙ sym (ap (λ r. if is_want r then seen m else store_after_call sc (seen m) t (calls.Send to moving name id))
        (bare_reply sc t m to moving name id false task zero (full_before false e))
        ∙ rw (task, zero, full_before false e) refl)))
        (inl (refl, refl, ap (option_all_live (seen m)) (bare_given sc t m to moving name id task zero)))
    by_full true e =
        quiet_answer sc t m (calls.Send to moving name id) c refl (rw (task, zero) (no_room (full_before true e)))
        (bare_given sc t m to moving name id task zero)
      where
        no_room : store.is_full sc (seen m) to ≡ true
            → queued sc (seen m) to (record { sender = t; id = id; voucher = None }) ≡ seen m
        no_room h = rw h refl

-- a send
send_begins : (sc : Scenario) (t : ℕ) (m : Machine) (to : ℕ) (moving : Bool) (name id : ℕ) → Fits sc m
    → Starting sc t m (calls.Send to moving name id)
    → Step sc t m (begin_send sc (counted m t) t (calls.Send to moving name id) to name id
    (store_reply sc m t (calls.Send to moving name id)) (handles_of (tasked (counted m t) t).names name))
send_begins sc t m to moving name id fits c =
    step_if sc t m _ _ (not (is_task sc to))
    (λ e. quiet_answer sc t m (calls.Send to moving name id) c refl (rw e refl) (nowhere (is_task sc to) _ _ e))
    (λ e. step_if sc t m _ _ (name == 0) (λ z. bare_begins sc t m to moving name id c (there (is_task sc to) e) z)
    (λ z. subst (λ (v : Option Handles). Step sc t m
    (elim v [
      | None ↦ replied (counted m t) t (calls.Send to moving name id)
          (store_reply sc m t (calls.Send to moving name id))
      | Some w
          ↦ with_frame (counted m t) t (Some (fresh_frame w (key_if keys.Bank w.bank)))
    ]))
    (sym (ap (λ (x : Tasked). handles_of x.names name) (counted_task m t c.range)))
    (named_begins sc t m to moving name id (handles_of (tasked m t).names name) fits c (there (is_task sc to) e) z
    refl)))
  where
    there : (b : Bool) → not b ≡ false → b ≡ true
    there true e = refl
    there false e = cc

    nowhere : (b r : Bool) (v : Option Voucher) → not b ≡ true → (if b && r then v else None) ≡ None
    nowhere true r v e = cc
    nowhere false r v e = refl

-- a recv without a voucher, by the queue
bare_recv : (sc : Scenario) (t : ℕ) (m : Machine) (queue : List Message) → Starting sc t m calls.Recv
    → (tasked m t).queue ≡ queue → first_voucher queue ≡ None
    → Step sc t m (replied (dequeued (counted m t) t queue) t calls.Recv (store_reply sc m t calls.Recv))
bare_recv sc t m [] c e none =
    quiet_answer sc t m calls.Recv c refl (ap (received sc (seen m) t) empty) (ap (voucher_received sc t) empty)
  where
    empty : (member (seen m) t).queue ≡ []
    empty = ap (λ (x : Member). x.queue) (member_seen m t) ∙ ap (map (message_of m.live)) e
bare_recv sc t m (q ∷ queue) c e none =
    begun_answer sc t m mid calls.Recv (store_reply sc m t calls.Recv) c refl refl
    (ap (λ (x : Tasked). x.begun) own ∙ ap (λ (x : Tasked). x.begun) (counted_task m t c.range))
    (subst (λ (x : Tasked). Answered x.frame) (sym own) (unanswered sc t m calls.Recv c))
    (seen_taken (counted m t) t queue ∙ (ap (λ s. taken_first s t (map (message_of m.live) queue)) (counted_seen m t)
    ∙ sym (rw there rw none refl)))
    (inl (refl, refl, ap (λ xs. option_all_live (seen m) (voucher_received sc t xs)) there ∙ rw none refl))
  where
    mid : Machine
    mid = with_tasked (counted m t) t (record (tasked (counted m t) t) { queue = queue })

    own : tasked mid t ≡ record (tasked (counted m t) t) { queue = queue }
    own = own_task (counted m t) t (record (tasked (counted m t) t) { queue = queue })
        (still_in m.tasks t t (begun_one (tasked m t)) c.range)

    there : (member (seen m) t).queue ≡ message_of m.live q ∷ map (message_of m.live) queue
    there = ap (λ (x : Member). x.queue) (member_seen m t) ∙ ap (map (message_of m.live)) e

recv_begins : (sc : Scenario) (t : ℕ) (m : Machine) → Fits sc m → Starting sc t m calls.Recv
    → Step sc t m (begin_recv (counted m t) t calls.Recv (store_reply sc m t calls.Recv)
    (first_voucher (tasked (counted m t) t).queue))
recv_begins sc t m fits c = by_voucher (first_voucher (tasked (counted m t) t).queue) refl
  where
    same : (tasked m t).queue ≡ (tasked (counted m t) t).queue
    same = sym (ap (λ (x : Tasked). x.queue) (counted_task m t c.range))

    by_queue : (w : Handles) (queue : List Message) → first_voucher queue ≡ Some w
        → first_in (map (message_of m.live) queue) ≡ Some (valued m.live w)
    by_queue w [] g = cc
    by_queue w (q ∷ queue) g = ap (valued_option m.live) g

    both_among : (x y : Option ℕ) → AllAmong (managed sc.version) (key_if keys.Importance x ++ key_if keys.Bank y)
    both_among None y = key_among_if (managed sc.version) keys.Bank y refl
    both_among (Some i) y = (refl, key_among_if (managed sc.version) keys.Bank y refl)

    by_voucher : (v : Option Handles) → first_voucher (tasked (counted m t) t).queue ≡ v
        → Step sc t m (begin_recv (counted m t) t calls.Recv (store_reply sc m t calls.Recv) v)
    by_voucher None g = bare_recv sc t m (tasked (counted m t) t).queue c same g
    by_voucher (Some w) g =
        framed_begin sc t m calls.Recv w (key_if keys.Importance w.importance ++ key_if keys.Bank w.bank) c
        (record {
          voucher = valued m.live w;
          first = by_queue w (tasked m t).queue (ap first_voucher same ∙ g);
          made =
              receives_after sc m.live t w w.importance w.bank refl refl;
          evaluated = ([], receives_keys m.live w (first_live sc m t w fits (ap first_voucher same ∙ g)), refl);
          keys_managed = both_among w.importance w.bank;
        })

-- every call
begin_step : (sc : Scenario) (want : Bool) (t : ℕ) (m : Machine) (call : Call) → Fits sc m → Starting sc t m call
    → Step sc t m (begin_call sc want (counted m t) t call (store_reply sc m t call))
begin_step sc want t m (calls.Create bytes) fits c = create_begins sc want t m bytes c
begin_step sc want t m (calls.GiveUp name) fits c = drop_answer sc t m name c
begin_step sc want t m (calls.Extract name key) fits c = wanting_answer sc want t m (calls.Extract name key) c refl
    refl refl refl
begin_step sc want t m (calls.Recipes name) fits c =
    wanting_answer sc want t m (calls.Recipes name) c refl refl refl refl
begin_step sc want t m (calls.Send to moving name id) fits c = send_begins sc t m to moving name id fits c
begin_step sc want t m calls.Recv fits c = recv_begins sc t m fits c
begin_step sc want t m (calls.Extern name adding n) fits c = quiet_answer sc t m (calls.Extern name adding n) c refl
    refl refl
begin_step sc want t m (calls.Charge name n) fits c = quiet_answer sc t m (calls.Charge name n) c refl refl refl
begin_step sc want t m calls.Ledger fits c = quiet_answer sc t m calls.Ledger c refl refl refl
begin_step sc want t m calls.Assertions fits c = quiet_answer sc t m calls.Assertions c refl refl refl
begin_step sc want t m calls.Live fits c = quiet_answer sc t m calls.Live c refl refl refl
begin_step sc want t m calls.Exit fits c = frame_begins sc t m calls.Exit exiting_frame c refl c.there

-- Begin
pub do_begin_step : (sc : Scenario) (want : Bool) (t : ℕ) (m : Machine) → Fits sc m → Before sc t m
    → (tasked m t).frame ≡ None → nat_lt (tasked m t).begun (lines_until sc (phases_in m.past + 1) t) ≡ true
    → IsAmong t m.tasks
    → IsStep sc t m (do_begin sc want m t)
do_begin_step sc want t m fits before frame more range = by_call (nth_call sc t ((tasked m t).begun + 1)) refl
  where
    at_most : (a b : ℕ) → nat_lt a b ≡ true → a + 1 ≤ b
    at_most a b h = grind arith

    by_call : (o : Option Call) → nth_call sc t ((tasked m t).begun + 1) ≡ o → IsStep sc t m (begin_line sc want m t o)
    by_call None e = tt
    by_call (Some call) e = begin_step sc want t m call fits
        (record { before = before; frame = frame; there = e; more = at_most _ _ more; range = range })
