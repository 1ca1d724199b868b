-- The events of an exit, to its own task: a name or a message is given up in an entry of its own, and then it is
-- answered.
use Rattle.std.proofs.Common.{◌≡◌, inr, ℕ, ◌+◌, ◌≤◌, Bool, List, [], ◌∷◌, ◌++◌, refl, true, false, not, ◌&&◌, sym, ap, ◌∙◌, subst, map, Some, None, Option}
use Rattle.vch_model.specs.declared.call.Call.{Call}
use Rattle.vch_model.specs.declared.call.Call.TheVariants as calls
use Rattle.vch_model.specs.declared.entry.Entry.TheVariants as entries
use Rattle.vch_model.specs.declared.entry.Reply.TheVariants as replies
use Rattle.vch_model.specs.declared.lists.Scenario.{Scenario}
use Rattle.vch_model.specs.Store as store
use Rattle.vch_model.specs.Store.{Member, member}
use Rattle.vch_model.specs.Words.{word_of}
use Rattle.vch_model.specs.Lines.{calls_in, phases_in, lines_until, current_call}
use Rattle.vch_machine.specs.State.{Handles, Place, Named, Message, Frame, Tasked, Machine, tasked, with_tasked, seen, named_of, message_of, member_of}
use Rattle.vch_machine.specs.Frames.{closed, with_frame}
use Rattle.vch_machine.specs.Naming.{lowest, without_name, handles_of, orphaned}
use Rattle.vch_machine.specs.Next.{nth_call}
use Rattle.vch_machine.specs.Working.{do_gone, do_lost, do_left, exit_queue, exit_names, do_exit}
use Rattle.vch_legal.specs.Facts.{bit}
use Rattle.vch_legal.specs.Tie.{FormsNothing, FrameForms, IsForming, is_answering, IsOpen}
use Rattle.vch_legal.proofs.tasks.TaskItems.{still_in}
use Rattle.vch_legal.proofs.tasks.TaskLists.{IsAmong}
use Rattle.vch_legal.proofs.seen.SeenTasks.{member_seen, seen_frame, own_task, frame_in}
use Rattle.vch_legal.proofs.seen.SeenCalls.{lowest_seen, seen_gone, seen_lost}
use Rattle.vch_legal.proofs.steps.Follows.{Follows}
use Rattle.vch_legal.proofs.steps.Lifts.{Lives}
use Rattle.vch_legal.proofs.steps.Standing.{Step}
use Rattle.vch_legal.proofs.tasks.OwnSteps.{Before, Answered, closed_answered, current_is, answered_step}
use Rattle.vch_legal.proofs.steps.LeaveSteps.{forming_of}
use Rattle.vch_legal.proofs.steps.WorkSteps.{unanswered_open}

-- a task whose exit is under way
pub record Exiting (sc : Scenario) (t : ℕ) (m : Machine) (f : Frame) : Type 0 where
  pub before : Before sc t m
  pub frame : (tasked m t).frame ≡ Some f
  pub unanswered : f.answered ≡ false
  pub there : nth_call sc t (tasked m t).begun ≡ Some calls.Exit

-- it forms no voucher
exit_forms : (sc : Scenario) (t : ℕ) (m : Machine) (f : Frame) → Exiting sc t m f → f.forming ≡ None
exit_forms sc t m f c = by_forming f.forming
    (subst (λ (o : Option Call). FrameForms sc m.live (member_of m.live (tasked m t)) t f.at_byte f.keys f.receipt
    f.answered f.forming o) c.there (forming_of sc t m f c.before c.frame))
  where
    by_forming : (v : Option Handles)
        → FrameForms sc m.live (member_of m.live (tasked m t)) t f.at_byte f.keys f.receipt
        f.answered v (Some calls.Exit) → v ≡ None
    by_forming None h = refl
    by_forming (Some v) h = absurd h.0

exit_number : (sc : Scenario) (t : ℕ) (m : Machine) (f : Frame) → Exiting sc t m f
    → (tasked m t).begun ≡ calls_in m.past t + 1
exit_number sc t m f c = c.before.counted
    ∙ (ap (λ g. calls_in m.past t + bit (is_answering g)) c.frame
    ∙ ap (λ b. calls_in m.past t + bit (not b)) c.unanswered)

-- it is the current call
exit_current : (sc : Scenario) (t : ℕ) (m : Machine) (f : Frame) → Exiting sc t m f
    → current_call sc m.past t ≡ Some calls.Exit
exit_current sc t m f c =
    current_is sc t m (tasked m t).begun calls.Exit c.before (exit_number sc t m f c) c.before.begun c.there

-- one thing is given up: the frame stays, with more to let go
given_up_step : (sc : Scenario) (t : ℕ) (m n : Machine) (f : Frame) (lets : List Place) → Exiting sc t m f
    → Follows sc t m n → n.live ≡ m.live → calls_in n.past t ≡ calls_in m.past t
    → (tasked n t).begun ≡ (tasked m t).begun → (tasked n t).frame ≡ Some (record f { lets = lets }) → Step sc t m n
given_up_step sc t m n f lets c follows live same_calls begun frame = record {
  follows = follows;
  lives = Lives.Same live;
  counted = begun ∙ (c.before.counted ∙ (ap (λ k. k + bit (is_answering (tasked m t).frame)) (sym same_calls)
      ∙ ap (λ b. calls_in n.past t + bit b) (ap is_answering c.frame ∙ sym (ap is_answering frame))));
  begun = subst (λ b. b ≤ lines_until sc (phases_in m.past + 1) t) (sym begun) c.before.begun;
  forming = subst (λ (g : Option Frame). IsForming sc n.live (member_of n.live (tasked n t)) t (tasked n t).begun g)
      (sym frame)
      (subst (λ b. IsForming sc n.live (member_of n.live (tasked n t)) t b (Some (record f { lets = lets })))
      (sym begun)
      (subst (λ (v : Option Handles). FrameForms sc n.live (member_of n.live (tasked n t)) t f.at_byte f.keys f.receipt
      f.answered v (nth_call sc t (tasked m t).begun)) (sym (exit_forms sc t m f c))
      (subst (λ a. FormsNothing a (nth_call sc t (tasked m t).begun)) (sym c.unanswered) c.there)));
  open_frame = subst IsOpen (sym frame) (unanswered_open c.unanswered _);
}

-- a name is given up
gone_step : (sc : Scenario) (t : ℕ) (m : Machine) (f : Frame) (name : ℕ) → Exiting sc t m f
    → lowest (tasked m t).names ≡ Some name → Step sc t m (do_gone m t f name)
gone_step sc t m f name c low =
    given_up_step sc t m (do_gone m t f name) f (f.lets ++ orphaned mid (handles_of (tasked m t).names name)) c
    (Follows.Adds (entries.Gone t name) refl (seen_frame mid t (Some g) ∙ seen_gone m t name) (
      exit_current sc t m f c,
      ap (λ (x : Member). store.lowest x.names) (member_seen m t) ∙ (lowest_seen m.live (tasked m t).names ∙ low),
    ) refl)
    refl refl (ap (λ (x : Tasked). x.begun) own
    ∙ ap (λ (x : Tasked). x.begun) mid_own) (ap (λ (x : Tasked). x.frame) own)
  where
    mid : Machine
    mid = with_tasked m t (record (tasked m t) { names = without_name (tasked m t).names name })

    g : Frame
    g = record f { lets = f.lets ++ orphaned mid (handles_of (tasked m t).names name) }

    range : IsAmong t m.tasks
    range = frame_in m t f c.frame

    mid_own : tasked mid t ≡ record (tasked m t) { names = without_name (tasked m t).names name }
    mid_own = own_task m t (record (tasked m t) { names = without_name (tasked m t).names name }) range

    own : tasked (with_frame mid t (Some g)) t ≡ record (tasked mid t) { frame = Some g }
    own = own_task mid t (record (tasked mid t) { frame = Some g })
        (still_in m.tasks t t (record (tasked m t) { names = without_name (tasked m t).names name }) range)

-- without a lowest name there is none
no_names : (names : List Named) → lowest names ≡ None → names ≡ []
no_names [] e = refl
no_names (n ∷ names) e = cc

unnamed : (m : Machine) (t : ℕ) → lowest (tasked m t).names ≡ None → (member (seen m) t).names ≡ []
unnamed m t low =
    ap (λ (x : Member). x.names) (member_seen m t) ∙ ap (map (named_of m.live)) (no_names (tasked m t).names low)

queue_seen : (m : Machine) (t : ℕ) (queue : List Message) → (tasked m t).queue ≡ queue
    → (member (seen m) t).queue ≡ map (message_of m.live) queue
queue_seen m t queue e = ap (λ (x : Member). x.queue) (member_seen m t) ∙ ap (map (message_of m.live)) e

-- a message is thrown away
lost_step : (sc : Scenario) (t : ℕ) (m : Machine) (f : Frame) (q : Message) (queue : List Message) → Exiting sc t m f
    → lowest (tasked m t).names ≡ None → (tasked m t).queue ≡ q ∷ queue → Step sc t m (do_lost m t f q queue)
lost_step sc t m f q queue c low e =
    given_up_step sc t m (do_lost m t f q queue) f (f.lets ++ orphaned mid q.voucher) c
    (Follows.Adds (entries.Lost t) refl (seen_frame mid t (Some g) ∙ seen_lost m t q queue e)
    (exit_current sc t m f c, ap store.is_empty (unnamed m t low), ap store.is_empty (queue_seen m t (q ∷ queue) e))
    refl)
    refl refl (ap (λ (x : Tasked). x.begun) own
    ∙ ap (λ (x : Tasked). x.begun) mid_own) (ap (λ (x : Tasked). x.frame) own)
  where
    mid : Machine
    mid = with_tasked m t (record (tasked m t) { queue = queue })

    g : Frame
    g = record f { lets = f.lets ++ orphaned mid q.voucher }

    range : IsAmong t m.tasks
    range = frame_in m t f c.frame

    mid_own : tasked mid t ≡ record (tasked m t) { queue = queue }
    mid_own = own_task m t (record (tasked m t) { queue = queue }) range

    own : tasked (with_frame mid t (Some g)) t ≡ record (tasked mid t) { frame = Some g }
    own = own_task mid t (record (tasked mid t) { frame = Some g })
        (still_in m.tasks t t (record (tasked m t) { queue = queue }) range)

-- nothing is left, and the exit is answered
left_step : (sc : Scenario) (t : ℕ) (m : Machine) (f : Frame) → Exiting sc t m f → lowest (tasked m t).names ≡ None
    → (tasked m t).queue ≡ [] → Step sc t m (do_left m t f)
left_step sc t m f c low e =
    answered_step sc t m (do_left m t f) calls.Exit replies.Done c.before
    (ap is_answering c.frame ∙ ap not c.unanswered) c.there
    (ap (λ (x : Tasked). entries.Call t x.begun (word_of calls.Exit) replies.Done ∷ m.past) own) refl
    (ap (λ (x : Tasked). x.begun) own)
    (subst (λ (x : Tasked). Answered x.frame) (sym own) (closed_answered g refl (exit_forms sc t m f c)))
    (seen_frame m t (closed g))
    (inr (inr (refl, both (ap store.is_empty (unnamed m t low)) (ap store.is_empty (queue_seen m t [] e)), refl)))
  where
    g : Frame
    g = record f { answered = true }

    own : tasked (with_frame m t (closed g)) t ≡ record (tasked m t) { frame = closed g }
    own = own_task m t (record (tasked m t) { frame = closed g }) (frame_in m t f c.frame)

    both : {a b : Bool} → a ≡ true → b ≡ true → (a && b) ≡ true
    both x y = rw (x, y) refl

-- Work of an exit
pub exit_step : (sc : Scenario) (t : ℕ) (m : Machine) (f : Frame) → Exiting sc t m f → Step sc t m (do_exit m t f)
exit_step sc t m f c = by_name (lowest (tasked m t).names) refl
  where
    by_queue : lowest (tasked m t).names ≡ None → (queue : List Message) → (tasked m t).queue ≡ queue
        → Step sc t m (exit_queue m t f queue)
    by_queue low [] e = left_step sc t m f c low e
    by_queue low (q ∷ queue) e = lost_step sc t m f q queue c low e

    by_name : (o : Option ℕ) → lowest (tasked m t).names ≡ o → Step sc t m (exit_names m t f o)
    by_name None low = by_queue low (tasked m t).queue refl
    by_name (Some name) low = gone_step sc t m f name c low
