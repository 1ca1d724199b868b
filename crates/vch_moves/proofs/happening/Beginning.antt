-- The event with which a call begins.
use Rattle.std.proofs.Common.{◌≡◌, ℕ, ◌+◌, ◌==◌, nat_lt, Bool, true, false, List, [], ◌∷◌, ◌++◌, refl, ap, ◌∙◌, length, Option, Some, None}
use Rattle.std.specs.Prelude.{if◌then◌else◌}
use Rattle.vch_base.specs.declared.kind.Kind.{Kind}
use Rattle.vch_base.specs.declared.kind.Kind.TheVariants as kinds
use Rattle.vch_base.specs.declared.key.Key.TheVariants as keys
use Rattle.vch_base.specs.declared.limits.TheConstants.{ARRAY_BYTES}
use Rattle.vch_model.specs.Lines.{is_task, lines_until}
use Rattle.vch_model.specs.declared.call.Call.{Call}
use Rattle.vch_model.specs.declared.call.Call.TheVariants as calls
use Rattle.vch_model.specs.declared.entry.Reply.{Reply}
use Rattle.vch_model.specs.declared.lists.Scenario.{Scenario}
use Rattle.vch_machine.specs.Beginning.{begin_call, store_reply, do_begin, begin_line, begin_recv, enqueued, dequeued, is_full, first_voucher, key_if, fresh_frame}
use Rattle.vch_machine.specs.Events.{event, event_of}
use Rattle.vch_machine.specs.Frames.{replied, with_frame}
use Rattle.vch_machine.specs.Naming.{handles_of}
use Rattle.vch_machine.specs.Next.{next_kind, nth_call}
use Rattle.vch_machine.specs.State.{Handles, Frame, Machine, Message, no_handles, tasked}
use Rattle.vch_legal.specs.Tie.{Ties}
use Rattle.vch_parts.specs.Plain.{Plain, part_of}
use Rattle.vch_parts.specs.Stands.{StandsFor}
use Rattle.vch_parts.proofs.CallerLemmas.{Happens}
use Rattle.vch_moves.specs.Moments.{IsFree}
use Rattle.vch_moves.specs.Steps.{machine_begun}
use Rattle.vch_moves.proofs.happening.Tasks.{same_begun}

module _ (sc : Scenario) (c : Plain) (m : Machine) (t : ℕ) (ties : Ties sc m) (task : is_task sc t ≡ true) (a : IsFree sc c m t) where
  -- a task with a call left in the phase begins it
  pub begin_next : nat_lt (part_of c t).begun (lines_until sc (c.phase + 1) t) ≡ true → next_kind sc m t ≡ Some kinds.Begin
  begin_next e =
      rw (a.task, same_begun sc c m t a.stands ties task, ← a.stands.phase, e) refl

  module _ (want : Bool) (call : Call) (next : next_kind sc m t ≡ Some kinds.Begin) (there : nth_call sc t ((part_of c t).begun + 1) ≡ Some call) where
    pub begin_event : event sc want m t ≡ Some (begin_call sc want (machine_begun m t) t call (store_reply sc m t call))
    unfolding event
    begin_event = by (is_task sc t) (tasked m t).frame (next_kind sc m t) task a.task next ∙ ap (begin_line sc want m t) (ap (λ n. nth_call sc t (n + 1)) (same_begun sc c m t a.stands ties task) ∙ there)
      where
        by : (b : Bool) (o : Option Frame) (k : Option Kind) → b ≡ true → o ≡ None → k ≡ Some kinds.Begin → (if b then event_of sc want m t o k else None) ≡ do_begin sc want m t
        by b o k e f g = rw (e, f, g) refl

    -- the event, once the machine's state after it is known
    pub begin_happens : (n : Machine) (d : Plain) → begin_call sc want (machine_begun m t) t call (store_reply sc m t call) ≡ n → StandsFor sc d n → Happens sc want kinds.Begin t d m
    begin_happens n d same stands = (n, begin_event ∙ ap Some same, next, stands)

-- What the machine does at the beginning of each call that has cases.

module _ (sc : Scenario) (want : Bool) (m : Machine) (t : ℕ) (reply : Reply) where
  -- a create of no bytes, of too many, and of some
  pub create_empty : (bytes : List ℕ) → (length bytes == 0) ≡ true → begin_call sc want m t (calls.Create bytes) reply ≡ replied m t (calls.Create bytes) reply
  create_empty bytes e = rw e refl

  pub create_long : (bytes : List ℕ) → nat_lt ARRAY_BYTES (length bytes) ≡ true → begin_call sc want m t (calls.Create bytes) reply ≡ replied m t (calls.Create bytes) reply
  create_long bytes e = by (length bytes == 0) refl
    where
      by : (b : Bool) → (length bytes == 0) ≡ b → begin_call sc want m t (calls.Create bytes) reply ≡ replied m t (calls.Create bytes) reply
      by true q = rw q refl
      by false q = rw (q, e) refl

  pub create_framed : (bytes : List ℕ) → (length bytes == 0) ≡ false → nat_lt ARRAY_BYTES (length bytes) ≡ false
      → begin_call sc want m t (calls.Create bytes) reply ≡ with_frame m t (Some (fresh_frame no_handles []))
  create_framed bytes a b = rw (a, b) refl

  -- a send to no task; of no voucher to a queue that is full, or has room; of a name that is not there, or is
  module _ (to name id : ℕ) (moving : Bool) where
    pub send_nowhere : is_task sc to ≡ false → begin_call sc want m t (calls.Send to moving name id) reply ≡ replied m t (calls.Send to moving name id) reply
    send_nowhere e = rw e refl

    pub send_full : is_task sc to ≡ true → (name == 0) ≡ true → is_full sc m to ≡ true
        → begin_call sc want m t (calls.Send to moving name id) reply ≡ replied m t (calls.Send to moving name id) reply
    send_full a b e = rw (a, b, e) refl

    pub send_bare : is_task sc to ≡ true → (name == 0) ≡ true → is_full sc m to ≡ false
        → begin_call sc want m t (calls.Send to moving name id) reply ≡ replied (enqueued m to (record { sender = t; id = id; voucher = None })) t (calls.Send to moving name id) reply
    send_bare a b e = rw (a, b, e) refl

    pub send_unknown : is_task sc to ≡ true → (name == 0) ≡ false → handles_of (tasked m t).names name ≡ None
        → begin_call sc want m t (calls.Send to moving name id) reply ≡ replied m t (calls.Send to moving name id) reply
    send_unknown a b e = rw (a, b, e) refl

    pub send_framed : (w : Handles) → is_task sc to ≡ true → (name == 0) ≡ false → handles_of (tasked m t).names name ≡ Some w
        → begin_call sc want m t (calls.Send to moving name id) reply ≡ with_frame m t (Some (fresh_frame w (key_if keys.Bank w.bank)))
    send_framed w a b e = rw (a, b, e) refl

  -- a recv of nothing, of a message without a voucher, and of one with a voucher
  pub recv_nothing : (tasked m t).queue ≡ [] → begin_call sc want m t calls.Recv reply ≡ replied m t calls.Recv reply
  recv_nothing e = ap (begin_recv m t calls.Recv reply) (ap first_voucher e) ∙ ap (λ n. replied n t calls.Recv reply) (ap (dequeued m t) e)

  pub recv_bare : (q : Message) (queue : List Message) → (tasked m t).queue ≡ q ∷ queue → q.voucher ≡ None
      → begin_call sc want m t calls.Recv reply ≡ replied (dequeued m t (tasked m t).queue) t calls.Recv reply
  recv_bare q queue e none = ap (begin_recv m t calls.Recv reply) (ap first_voucher e ∙ none)

  pub recv_framed : (q : Message) (queue : List Message) (w : Handles) → (tasked m t).queue ≡ q ∷ queue → q.voucher ≡ Some w
      → begin_call sc want m t calls.Recv reply ≡ with_frame m t (Some (fresh_frame w (key_if keys.Importance w.importance ++ key_if keys.Bank w.bank)))
  recv_framed q queue w e some = ap (begin_recv m t calls.Recv reply) (ap first_voucher e ∙ some)
