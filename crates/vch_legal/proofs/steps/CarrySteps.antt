-- The end of a send and of a recv, to its own task.
use Rattle.std.proofs.Common.{◌≡◌, inl, ℕ, ◌≤◌, Bool, List, [], ◌∷◌, ◌++◌, refl, true, false, not, sym, ap, ◌∙◌, subst, map, Some, None}
use Rattle.std.specs.Prelude.{if◌then◌else◌, is_some}
use Rattle.vch_base.specs.declared.key.Key.{Key}
use Rattle.vch_base.specs.declared.codes.TheConstants.{MACH_SEND_TIMED_OUT}
use Rattle.vch_base.specs.declared.kind.Kind.TheVariants as kinds
use Rattle.vch_model.specs.declared.call.Call.TheVariants as calls
use Rattle.vch_model.specs.declared.entry.Reply.TheVariants as replies
use Rattle.vch_model.specs.declared.lists.Scenario.{Scenario}
use Rattle.vch_model.specs.Voucher.{Voucher}
use Rattle.vch_model.specs.Store.{Store, Member, member, voucher_of, given, gives_name}
use Rattle.vch_model.specs.Transfer.{after}
use Rattle.vch_model.specs.After.{appended, let_go, sent, received, store_after_call}
use Rattle.vch_model.specs.Replies.{refused, receiving, reply_to}
use Rattle.vch_model.specs.Legal.{option_all_live, voucher_given, voucher_received}
use Rattle.vch_machine.specs.State.{Handles, Frame, Tasked, Machine, Message, tasked, with_tasked, seen, valued, valued_option, message_of, member_of, is_empty}
use Rattle.vch_machine.specs.Beginning.{enqueued, is_full}
use Rattle.vch_machine.specs.Frames.{refuse}
use Rattle.vch_machine.specs.Naming.{name_of, name_for, one_less, with_name, handles_of, orphaned, doubled}
use Rattle.vch_machine.specs.Placing.{moved_name, place_send, place_recv, do_place}
use Rattle.vch_machine.specs.Next.{call_next}
use Rattle.vch_legal.specs.Facts.{Fits}
use Rattle.vch_legal.specs.Tie.{FormsSend, FormsRecv, first_in}
use Rattle.vch_legal.proofs.tasks.TaskItems.{still_in}
use Rattle.vch_legal.proofs.tasks.TaskLists.{IsAmong}
use Rattle.vch_legal.proofs.facts.Choices.{or_right}
use Rattle.vch_legal.proofs.tasks.OwnTask.{Near, near_self, near_queued, near_own, near_then, named_begun}
use Rattle.vch_legal.proofs.seen.SeenNames.{LiveAll, AllLive}
use Rattle.vch_legal.proofs.seen.SeenTasks.{member_seen, own_task, frame_in}
use Rattle.vch_legal.proofs.seen.SeenCalls.{seen_given, gives_seen, seen_less, full_seen, seen_queued, seen_taken, replaced}
use Rattle.vch_legal.proofs.seen.SeenValues.{voucher_lives}
use Rattle.vch_legal.proofs.values.HeldLive.{forming_live, names_live}
use Rattle.vch_legal.proofs.forming.Records.{seen_names}
use Rattle.vch_legal.proofs.steps.Standing.{Step}
use Rattle.vch_legal.proofs.steps.Refusals.{Calling, names_seen, refuse_step, send_wants, recv_wants}
use Rattle.vch_legal.proofs.steps.PlaceSteps.{IsStep, is_step_if, placed_step}

place_keys : (b : Bool) → (if b then Some kinds.Place else Some kinds.Make) ≡ Some kinds.Place → b ≡ true
place_keys true e = refl
place_keys false e = cc

no_keys : (ks : List Key) → is_empty ks ≡ true → ks ≡ []
no_keys [] e = refl
no_keys (k ∷ ks) e = cc

-- what a send has come to
abbrev Sends : Scenario → ℕ → Machine → ℕ → ℕ → Handles → Type 0
Sends sc t m to name v = FormsSend sc (seen_names m.live (tasked m t).names) t to name [] (valued m.live v)

known_name : (sc : Scenario) (t : ℕ) (m : Machine) (to name : ℕ) (v : Handles) (s : Sends sc t m to name v)
    → voucher_of (member (seen m) t).names name ≡ Some s.voucher
known_name sc t m to name v s = ap (λ names. names name) (names_seen m t) ∙ s.known

abbrev sent_message : ℕ → ℕ → Handles → Message
sent_message t id v = record { sender = t; id = id; voucher = Some v }

moved_near : (t : ℕ) (m : Machine) (moving : Bool) (name : ℕ) → Near t m (moved_name m t moving name)
moved_near t m true name = near_own t m (record (tasked m t) { names = one_less (tasked m t).names name }) refl
moved_near t m false name = near_self t m

moved_past : (t : ℕ) (m : Machine) (moving : Bool) (name : ℕ) → (moved_name m t moving name).past ≡ m.past
moved_past t m true name = refl
moved_past t m false name = refl

moved_seen : (t : ℕ) (m : Machine) (moving : Bool) (name : ℕ) → seen (moved_name m t moving name)
    ≡ (if moving then let_go (seen m) t name else seen m)
moved_seen t m true name = seen_less m t name
moved_seen t m false name = refl

send_store : (sc : Scenario) (t : ℕ) (m : Machine) (to : ℕ) (moving : Bool) (name id : ℕ) (v : Handles)
    → Sends sc t m to name v → is_full sc m to ≡ false
    → seen (moved_name (enqueued m to (sent_message t id v)) t moving name)
    ≡ store_after_call sc (seen m) t (calls.Send to moving name id)
send_store sc t m to moving name id v s room =
    moved_seen t (enqueued m to (sent_message t id v)) moving name
    ∙ (ap (λ x. if moving then let_go x t name else x)
    (seen_queued m to (sent_message t id v) ∙ ap
    (λ w. appended (seen m) to (record { sender = t; id = id; voucher = Some w })) s.made)
    ∙ sym (rw (s.to_task, s.is_named) (ap (sent sc (seen m) t to moving name id) (known_name sc t m to name v s)
    ∙ if_false (seen m) _ (full_seen sc m to ∙ room))))
  where
    if_false : {b : Bool} (x y : Store) → b ≡ false → (if b then x else y) ≡ y
    if_false x y e = rw e refl

send_reply : (sc : Scenario) (t : ℕ) (m : Machine) (to : ℕ) (moving : Bool) (name id : ℕ) (v : Handles) (full : Bool)
    → Sends sc t m to name v → is_full sc m to ≡ full
    → reply_to sc m.past (seen m) t (calls.Send to moving name id)
    ≡ (if full then refused MACH_SEND_TIMED_OUT else replies.Done)
send_reply sc t m to moving name id v full s e = rw
    (s.to_task, s.is_named, known_name sc t m to name v s, full_seen sc m to, e) refl

send_given : (sc : Scenario) (t : ℕ) (m : Machine) (to : ℕ) (moving : Bool) (name id : ℕ) (v : Handles)
    → Sends sc t m to name v → is_full sc m to ≡ false
    → voucher_given sc (seen m) t (calls.Send to moving name id) ≡ Some (valued m.live v)
send_given sc t m to moving name id v s e = rw
    (s.to_task, s.is_named, full_seen sc m to, e, known_name sc t m to name v s) (ap Some (sym s.made))

send_none : (sc : Scenario) (t : ℕ) (m : Machine) (to : ℕ) (moving : Bool) (name id : ℕ) (v : Handles)
    → Sends sc t m to name v → is_full sc m to ≡ true
    → voucher_given sc (seen m) t (calls.Send to moving name id) ≡ None
send_none sc t m to moving name id v s e = rw (s.to_task, s.is_named, full_seen sc m to, e) refl

send_place : (sc : Scenario) (t : ℕ) (m : Machine) (f : Frame) (v : Handles) (to : ℕ) (moving : Bool) (name id : ℕ)
    → Fits sc m → Calling sc t m f (calls.Send to moving name id) → f.forming ≡ Some v
    → Sends sc t m to name v → is_full sc m to ≡ false
    → Step sc t m (place_send m t f v (calls.Send to moving name id) to moving name id)
send_place sc t m f v to moving name id fits c forming s room =
    placed_step sc t m mid f (doubled m v ++ orphaned mid (handles_of (tasked m t).names name))
    (calls.Send to moving name id) replies.Done c
    (moved_past t (enqueued m to (sent_message t id v)) moving name) near.live
    ((frame_in m t f c.frame).0, subst (λ i. t ≤ i) (sym near.tasks) (frame_in m t f c.frame).1) near.begun
    (send_store sc t m to moving name id v s room)
    (inl (
      refl,
      sym (send_reply sc t m to moving name id v false s room),
      ap (option_all_live (seen m)) (send_given sc t m to moving name id v s room)
          ∙ voucher_lives sc m v fits (forming_live sc m t f v fits c.frame forming),
    ))
  where
    mid : Machine
    mid = moved_name (enqueued m to (record { sender = t; id = id; voucher = Some v })) t moving name

    near : Near t m mid
    near = near_then t m (enqueued m to (sent_message t id v)) mid (near_queued t to m (sent_message t id v))
        (moved_near t (enqueued m to (sent_message t id v)) moving name)

-- a full queue is the store's refusal
send_full : (sc : Scenario) (t : ℕ) (m : Machine) (f : Frame) (v : Handles) (to : ℕ) (moving : Bool) (name id : ℕ)
    → Calling sc t m f (calls.Send to moving name id)
    → Sends sc t m to name v → is_full sc m to ≡ true
    → Step sc t m (refuse m t f (calls.Send to moving name id) MACH_SEND_TIMED_OUT)
send_full sc t m f v to moving name id c s none =
    refuse_step sc t m f (calls.Send to moving name id) MACH_SEND_TIMED_OUT c
    (rw (s.to_task, s.is_named) (ap (sent sc (seen m) t to moving name id) (known_name sc t m to name v s)
    ∙ if_true (seen m) _ (full_seen sc m to ∙ none)))
    (inl (
      refl,
      sym (send_reply sc t m to moving name id v true s none),
      ap (option_all_live (seen m))
          (send_none sc t m to moving name id v s none),
    ))
  where
    if_true : {b : Bool} (x y : Store) → b ≡ true → (if b then x else y) ≡ x
    if_true x y e = rw e refl

pub send_ends : (sc : Scenario) (want : Bool) (t : ℕ) (m : Machine) (f : Frame) (v : Handles) (to : ℕ) (moving : Bool)
    (name id : ℕ) → Fits sc m → Calling sc t m f (calls.Send to moving name id) → f.forming ≡ Some v
    → FormsSend sc (seen_names m.live (tasked m t).names) t to name f.keys (valued m.live v)
    → call_next sc.version (tasked m t).names f.at_byte f.keys (Some (calls.Send to moving name id)) ≡ Some kinds.Place
    → IsStep sc t m (do_place sc want m t f v (calls.Send to moving name id))
send_ends sc want t m f v to moving name id fits c forming forms next =
    is_step_if sc t m _ _ (is_full sc m to)
    (λ e. send_full sc t m f v to moving name id c s e)
    (λ e. is_step_if sc t m _ _ want
    (λ _. send_wants sc t m f to moving name id s.voucher c s.to_task s.is_named s.known
    (or_right (is_some s.voucher.bank) _ (ap not (full_seen sc m to ∙ e))))
    (λ _. send_place sc t m f v to moving name id fits c forming s e))
  where
    s : Sends sc t m to name v
    s = subst (λ (ks : List Key). FormsSend sc (seen_names m.live (tasked m t).names) t to name ks (valued m.live v))
        (no_keys f.keys (place_keys _ next)) forms

-- what a recv has come to
abbrev Receives : Scenario → ℕ → Machine → Handles → Type 0
Receives sc t m v = FormsRecv sc (member_of m.live (tasked m t)).queue t [] (valued m.live v)

-- the store where the first message is taken and its voucher is given to the task
recv_store : (sc : Scenario) (t : ℕ) (m : Machine) (v : Handles) (q : Message) (queue : List Message) (w : Voucher)
    → Fits sc m → LiveAll m.live v → IsAmong t m.tasks
    → (tasked m t).queue ≡ q ∷ queue → valued_option m.live q.voucher ≡ Some w → valued m.live v ≡ after sc t w
    → (seen (with_tasked m t (with_name (record (tasked m t) { queue = queue }) v (name_of (tasked m t).names v)))
    ≡ received sc (seen m) t (member (seen m) t).queue)
    × (receiving sc (seen m) t (member (seen m) t).queue ≡ replies.Received q.sender q.id
    (name_for (record (tasked m t) { queue = queue }) (name_of (tasked m t).names v)))
    × (voucher_received sc t (member (seen m) t).queue ≡ Some (valued m.live v))
recv_store sc t m v q queue w fits live l e first made =
    rw (queue_seen, first) (
      ap seen (sym (replaced m t x (with_name x v (name_of x.names v))))
          ∙ (given_there ∙ ap (λ s. given s t (after sc t w)) (seen_taken m t queue)),
      ap (replies.Received q.sender q.id) (sym (ap (λ s. gives_name s t (after sc t w)) (seen_taken m t queue))
          ∙ gives_there),
      ap Some (sym made),
    )
  where
    x : Tasked
    x = record (tasked m t) { queue = queue }

    base : Machine
    base = with_tasked m t (record (tasked m t) { queue = queue })

    own : tasked base t ≡ record (tasked m t) { queue = queue }
    own = own_task m t (record (tasked m t) { queue = queue }) l

    names : AllLive m.live (tasked base t).names
    names = subst (λ (y : Tasked). AllLive m.live y.names) (sym own) (names_live sc m t fits)

    queue_seen : (member (seen m) t).queue ≡ message_of m.live q ∷ map (message_of m.live) queue
    queue_seen = ap (λ (y : Member). y.queue) (member_seen m t) ∙ ap (map (message_of m.live)) e

    given_there : seen (with_tasked base t (with_name (record (tasked m t) { queue = queue }) v
        (name_of (tasked m t).names v))) ≡ given (seen base) t (after sc t w)
    given_there = ap (λ (y : Tasked). seen (with_tasked base t (with_name y v (name_of y.names v)))) (sym own)
        ∙ (seen_given base t v fits.different names live ∙ ap (given (seen base) t) made)

    gives_there : gives_name (seen base) t (after sc t w) ≡ name_for (record (tasked m t) { queue = queue })
        (name_of (tasked m t).names v)
    gives_there = ap (gives_name (seen base) t) (sym made) ∙
        (gives_seen base t v fits.different names live ∙ ap (λ (y : Tasked). name_for y (name_of y.names v)) own)

recv_place : (sc : Scenario) (t : ℕ) (m : Machine) (f : Frame) (v : Handles) (q : Message) (queue : List Message)
    → Fits sc m → Calling sc t m f calls.Recv → f.forming ≡ Some v
    → Receives sc t m v → (tasked m t).queue ≡ q ∷ queue → Step sc t m (place_recv m t f v calls.Recv (q ∷ queue))
recv_place sc t m f v q queue fits c forming s e =
    placed_step sc t m mid f (doubled m v ++ orphaned mid q.voucher) calls.Recv
    (replies.Received q.sender q.id (name_for x (name_of x.names v))) c refl refl
    (still_in m.tasks t t (with_name x v (name_of x.names v)) l)
    (ap (λ (y : Tasked). y.begun) (own_task m t (with_name x v (name_of x.names v)) l)
    ∙ named_begun x v (name_of x.names v))
    facts.0 (inl (refl, sym facts.1, ap (option_all_live (seen m)) facts.2 ∙ voucher_lives sc m v fits live))
  where
    x : Tasked
    x = record (tasked m t) { queue = queue }

    mid : Machine
    mid = with_tasked m t (with_name (record (tasked m t) { queue = queue }) v (name_of (tasked m t).names v))

    l : IsAmong t m.tasks
    l = frame_in m t f c.frame

    live : LiveAll m.live v
    live = forming_live sc m t f v fits c.frame forming

    first : valued_option m.live q.voucher ≡ Some s.voucher
    first = sym (ap (λ xs. first_in (map (message_of m.live) xs)) e) ∙ s.first

    facts : (seen (with_tasked m t (with_name (record (tasked m t) { queue = queue }) v
        (name_of (tasked m t).names v))) ≡ received sc (seen m) t (member (seen m) t).queue)
        × (receiving sc (seen m) t (member (seen m) t).queue ≡ replies.Received q.sender q.id
        (name_for (record (tasked m t) { queue = queue }) (name_of (tasked m t).names v)))
        × (voucher_received sc t (member (seen m) t).queue ≡ Some (valued m.live v))
    facts = recv_store sc t m v q queue s.voucher fits live l e first s.made

pub recv_ends : (sc : Scenario) (want : Bool) (t : ℕ) (m : Machine) (f : Frame) (v : Handles) → Fits sc m
    → Calling sc t m f calls.Recv → f.forming ≡ Some v
    → FormsRecv sc (member_of m.live (tasked m t)).queue t f.keys (valued m.live v)
    → call_next sc.version (tasked m t).names f.at_byte f.keys (Some calls.Recv) ≡ Some kinds.Place
    → IsStep sc t m (do_place sc want m t f v calls.Recv)
recv_ends sc want t m f v fits c forming forms next =
    is_step_if sc t m _ _ want (λ _. recv_wants sc t m f s.voucher c s.first) (λ _. by_queue (tasked m t).queue refl)
  where
    s : Receives sc t m v
    s = subst (λ (ks : List Key). FormsRecv sc (member_of m.live (tasked m t)).queue t ks (valued m.live v))
        (no_keys f.keys (place_keys _ next)) forms

    by_queue : (queue : List Message) → (tasked m t).queue ≡ queue → Step sc t m (place_recv m t f v calls.Recv queue)
    by_queue [] e = let k : None ≡ Some s.voucher = sym (ap (λ xs. first_in (map (message_of m.live) xs)) e)
        ∙ s.first in cc
    by_queue (q ∷ queue) e = recv_place sc t m f v q queue fits c forming s e
