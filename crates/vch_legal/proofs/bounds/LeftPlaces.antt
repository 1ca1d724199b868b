-- Place lowers what is left: the call is answered, and gives a name or a message at most.
use Rattle.std.proofs.Common.{◌≡◌, ℕ, suc, ◌+◌, ◌*◌, ◌≤◌, Bool, List, [], ◌∷◌, ◌++◌, refl, true, false, arith, sym, ap, ◌∙◌, subst, length, length-append, Some, None, Option}
use Rattle.std.specs.Prelude.{◌==◌, nat_lt}
use Rattle.vch_base.specs.declared.codes.TheConstants.{KERN_RESOURCE_SHORTAGE, MACH_SEND_TIMED_OUT}
use Rattle.vch_base.specs.Keys.{every_key}
use Rattle.vch_base.proofs.CallerLemmas.{as_long}
use Rattle.vch_model.specs.declared.call.Call.{Call}
use Rattle.vch_model.specs.declared.call.Call.TheVariants as calls
use Rattle.vch_model.specs.declared.entry.Reply.{Reply}
use Rattle.vch_model.specs.declared.entry.Reply.TheVariants as replies
use Rattle.vch_model.specs.declared.lists.Scenario.{Scenario}
use Rattle.vch_machine.specs.State.{Handles, Place, Named, Message, Frame, Tasked, Machine, idle, tasked, with_tasked}
use Rattle.vch_machine.specs.Beginning.{enqueued, is_full}
use Rattle.vch_machine.specs.Frames.{with_frame, replied}
use Rattle.vch_machine.specs.Naming.{name_of, name_for, one_more, one_less, with_name, handles_of, orphaned, doubled}
use Rattle.vch_machine.specs.Next.{nth_call}
use Rattle.vch_machine.specs.Placing.{ended, moved_name, place_create, place_send, place_recv, do_place}
use Rattle.vch_legal.specs.Facts.{most_lets}
use Rattle.vch_legal.specs.Left.{event_left, owned_left}
use Rattle.vch_legal.proofs.facts.Choices.{cases_bool}
use Rattle.vch_legal.proofs.tasks.TaskLists.{same_part}
use Rattle.vch_legal.proofs.tasks.OwnTask.{orphaned_few, doubled_few}
use Rattle.vch_legal.proofs.bounds.LeftTasks.{Left, same_task}
use Rattle.vch_legal.proofs.bounds.LeftFrames.{Lower, Calls, over_lower, refuse_lower}
use Rattle.vch_legal.proofs.bounds.LeftMakes.{MayLower, may_lower_if}

-- a state that an event of a task passes through, with so much more left
pub record Passed (sc : Scenario) (t k : ℕ) (m n : Machine) : Type 0 where
  pub left : Left sc n ≤ Left sc m + k
  pub tasks : length n.tasks ≡ length m.tasks
  pub begun : (tasked n t).begun ≡ (tasked m t).begun
  pub frame : (tasked n t).frame ≡ (tasked m t).frame

-- a task is replaced by one that has as much more as it owns
pub task_passed : (sc : Scenario) (t u k : ℕ) (m : Machine) (x : Tasked) → x.begun ≡ (tasked m u).begun
    → x.frame ≡ (tasked m u).frame → owned_left x ≤ owned_left (tasked m u) + k → Passed sc t k m (with_tasked m u x)
task_passed sc t u k m x b f o = record {
  left = same_task sc u k m x b f o;
  tasks = as_long m.tasks u x;
  begun = same_part (λ (y : Tasked). y.begun) m.tasks u t x idle b;
  frame = same_part (λ (y : Tasked). y.frame) m.tasks u t x idle f;
}

pub one_less_few : (names : List Named) (name : ℕ) → length (one_less names name) ≤ length names
one_less_few [] name = omega arith
one_less_few (n ∷ names) name =
    cases_bool (n.name == name) (length (one_less (n ∷ names) name) ≤ length (n ∷ names))
    (λ here. cases_bool (nat_lt 1 n.refs) (length (one_less (n ∷ names) name) ≤ length (n ∷ names))
    (λ more. rw (here, more) (omega arith))
    (λ last. rw (here, last) (omega arith)))
    (λ other. rw other (next _ _ (one_less_few names name)))
  where
    next : (a b : ℕ) → a ≤ b → suc a ≤ suc b
    next a b h = omega arith

one_more_few : (names : List Named) (name : ℕ) → length (one_more names name) ≡ length names
one_more_few [] name = refl
one_more_few (n ∷ names) name =
    cases_bool (n.name == name) (length (one_more (n ∷ names) name) ≡ length (n ∷ names))
    (λ here. rw here refl)
    (λ other. rw other (ap suc (one_more_few names name)))

-- a queue has a message more
pub queue_owned : (x : Tasked) (q : Message) → owned_left (record x { queue = x.queue ++ q ∷ [] })
    ≤ owned_left x + event_left
queue_owned x q = let a : length (x.queue ++ q ∷ []) ≡ length x.queue + 1 = length-append x.queue (q ∷ []) in
    more (length x.names) _ _ a
  where
    more : (n a b : ℕ) → a ≡ b + 1 → event_left * (n + a) ≤ event_left * (n + b) + event_left
    more n a b e = omega arith

-- names that are no more
pub fewer_owned : (x : Tasked) (names : List Named) → length names ≤ length x.names
    → owned_left (record x { names = names }) ≤ owned_left x + 0
fewer_owned x names h = fewer _ _ (length x.queue) h
  where
    fewer : (a b q : ℕ) → a ≤ b → event_left * (a + q) ≤ event_left * (b + q) + 0
    fewer a b q h = omega arith

named_owned : (x : Tasked) (v : Handles) (name : Option ℕ) → owned_left (with_name x v name) ≤ owned_left x + event_left
named_owned x v None =
    let a : length (x.names ++ record { name = x.next; voucher = v; refs = 1 } ∷ []) ≡ length x.names + 1 =
    length-append x.names (record { name = x.next; voucher = v; refs = 1 } ∷ []) in more _ _ (length x.queue) a
  where
    more : (a b q : ℕ) → a ≡ b + 1 → event_left * (a + q) ≤ event_left * (b + q) + event_left
    more a b q e = omega arith
named_owned x v (Some name) = same _ _ (length x.queue) (one_more_few x.names name)
  where
    same : (a b q : ℕ) → a ≡ b → event_left * (a + q) ≤ event_left * (b + q) + event_left
    same a b q e = omega arith

named_begun : (x : Tasked) (v : Handles) (name : Option ℕ) → (with_name x v name).begun ≡ x.begun
named_begun x v None = refl
named_begun x v (Some name) = refl

named_frame : (x : Tasked) (v : Handles) (name : Option ℕ) → (with_name x v name).frame ≡ x.frame
named_frame x v None = refl
named_frame x v (Some name) = refl

-- the call is over, in a state with an event more left at most
placed_lower : (sc : Scenario) (t : ℕ) (m mid : Machine) (f : Frame) (call : Call) (reply : Reply) (lets : List Place)
    → Calls sc t m f call → Passed sc t event_left m mid → length lets ≤ most_lets
    → Lower sc m (replied (with_frame mid t (ended f lets)) t call reply)
placed_lower sc t m mid f call reply lets c p few =
    less _ _ _ (over_lower sc t mid f (record f { forming = None; answered = true; keys = []; lets = f.lets ++ lets })
    call
    lets (record {
      framed = record {
        among = (c.framed.among.0, subst (λ i. t ≤ i) (sym p.tasks) c.framed.among.1);
        frame = p.frame ∙ c.framed.frame;
      };
      unanswered = c.unanswered;
      there = ap (nth_call sc t) p.begun ∙ c.there;
    }) refl refl refl refl few) p.left
  where
    less : (a b c : ℕ) → a + (event_left + 2) ≤ b → b ≤ c + event_left → a + 1 ≤ c
    less a b c h k = omega arith

one_group : (n : ℕ) → n ≤ length every_key → n ≤ most_lets
one_group n h = omega arith

two_groups : (m n : Machine) (v : Handles) (w : Option Handles) → length (doubled m v ++ orphaned n w) ≤ most_lets
two_groups m n v w = both _ _ _ (length-append (doubled m v) (orphaned n w)) (doubled_few m v) (orphaned_few n w)
  where
    both : (a b c : ℕ) → a ≡ b + c → b ≤ length every_key → c ≤ length every_key → a ≤ most_lets
    both a b c e h k = omega arith

create_lower : (sc : Scenario) (t : ℕ) (m : Machine) (f : Frame) (v : Handles) (call : Call) → Calls sc t m f call
    → Lower sc m (place_create m t f v call)
create_lower sc t m f v call c =
    placed_lower sc t m (with_tasked m t (with_name (tasked m t) v (name_of (tasked m t).names v))) f call
    (replies.Created (name_for (tasked m t) (name_of (tasked m t).names v))) (doubled m v) c
    (task_passed sc t t event_left m (with_name (tasked m t) v (name_of (tasked m t).names v))
    (named_begun (tasked m t) v (name_of (tasked m t).names v))
    (named_frame (tasked m t) v (name_of (tasked m t).names v))
    (named_owned (tasked m t) v (name_of (tasked m t).names v)))
    (one_group _ (doubled_few m v))

recv_lower : (sc : Scenario) (t : ℕ) (m : Machine) (f : Frame) (v : Handles) (call : Call) (q : Message)
    (queue : List Message) → Calls sc t m f call → (tasked m t).queue ≡ q ∷ queue
    → Lower sc m (place_recv m t f v call (q ∷ queue))
recv_lower sc t m f v call q queue c first =
    placed_lower sc t m (with_tasked m t (with_name x v (name_of x.names v))) f call
    (replies.Received q.sender q.id (name_for x (name_of x.names v)))
    (doubled m v ++ orphaned (with_tasked m t (with_name x v (name_of x.names v))) q.voucher) c
    (task_passed sc t t event_left m (with_name x v (name_of x.names v))
    (named_begun x v (name_of x.names v)) (named_frame x v (name_of x.names v))
    (fewer _ _ _ _ (named_owned x v (name_of x.names v)) (ap length first)))
    (two_groups m (with_tasked m t (with_name x v (name_of x.names v))) v q.voucher)
  where
    x : Tasked
    x = record (tasked m t) { queue = queue }

    fewer : (a n k l : ℕ) → a ≤ event_left * (n + k) + event_left → l ≡ suc k → a ≤ event_left * (n + l) + event_left
    fewer a n k l h e = omega arith

moved_passed : (sc : Scenario) (t : ℕ) (m : Machine) (moving : Bool) (name : ℕ)
    → Passed sc t 0 m (moved_name m t moving name)
moved_passed sc t m false name = record { left = same (Left sc m); tasks = refl; begun = refl; frame = refl }
  where
    same : (a : ℕ) → a ≤ a + 0
    same a = omega arith
moved_passed sc t m true name =
    task_passed sc t t 0 m (record (tasked m t) { names = one_less (tasked m t).names name })
    refl refl (fewer_owned (tasked m t) (one_less (tasked m t).names name) (one_less_few (tasked m t).names name))

then_passed : (sc : Scenario) (t k : ℕ) (m n o : Machine) → Passed sc t k m n → Passed sc t 0 n o → Passed sc t k m o
then_passed sc t k m n o a b = record {
  left = both _ _ _ k a.left b.left;
  tasks = b.tasks ∙ a.tasks;
  begun = b.begun ∙ a.begun;
  frame = b.frame ∙ a.frame;
}
  where
    both : (a b c k : ℕ) → b ≤ a + k → c ≤ b + 0 → c ≤ a + k
    both a b c k h i = omega arith

send_lower : (sc : Scenario) (t : ℕ) (m : Machine) (f : Frame) (v : Handles) (call : Call) (to : ℕ) (moving : Bool)
    (name id : ℕ) → Calls sc t m f call → Lower sc m (place_send m t f v call to moving name id)
send_lower sc t m f v call to moving name id c =
    placed_lower sc t m (moved_name mid t moving name) f call replies.Done
    (doubled m v ++ orphaned (moved_name mid t moving name) (handles_of (tasked m t).names name)) c
    (then_passed sc t event_left m mid (moved_name mid t moving name)
    (task_passed sc t to event_left m (record (tasked m to) { queue = (tasked m to).queue ++ q ∷ [] }) refl refl
    (queue_owned (tasked m to) q))
    (moved_passed sc t mid moving name))
    (two_groups m (moved_name mid t moving name) v (handles_of (tasked m t).names name))
  where
    q : Message
    q = record { sender = t; id = id; voucher = Some v }

    mid : Machine
    mid = enqueued m to (record { sender = t; id = id; voucher = Some v })

-- Place
pub place_lower : (sc : Scenario) (want : Bool) (t : ℕ) (m : Machine) (f : Frame) (v : Handles) (call : Call)
    → Calls sc t m f call → (call ≡ calls.Recv → 1 ≤ length (tasked m t).queue)
    → MayLower sc m (do_place sc want m t f v call)
place_lower sc want t m f v (calls.Create bytes) c some = may_lower_if sc m want _ _
    (refuse_lower sc t m f (calls.Create bytes) KERN_RESOURCE_SHORTAGE c)
    (create_lower sc t m f v (calls.Create bytes) c)
place_lower sc want t m f v (calls.Send to moving name id) c some =
    may_lower_if sc m (is_full sc m to) _ _ (refuse_lower sc t m f (calls.Send to moving name id) MACH_SEND_TIMED_OUT c)
    (may_lower_if sc m want _ _ (refuse_lower sc t m f (calls.Send to moving name id) KERN_RESOURCE_SHORTAGE c)
    (send_lower sc t m f v (calls.Send to moving name id) to moving name id c))
place_lower sc want t m f v calls.Recv c some = may_lower_if sc m want _ _
    (refuse_lower sc t m f calls.Recv KERN_RESOURCE_SHORTAGE c) (by_queue (tasked m t).queue refl (some refl))
  where
    by_queue : (queue : List Message) → (tasked m t).queue ≡ queue → 1 ≤ length queue
        → Lower sc m (place_recv m t f v calls.Recv queue)
    by_queue [] e l = absurd (omega arith)
    by_queue (q ∷ queue) e l = recv_lower sc t m f v calls.Recv q queue c e
place_lower sc want t m f v (calls.GiveUp name) c some = tt
place_lower sc want t m f v (calls.Extract name key) c some = tt
place_lower sc want t m f v (calls.Recipes name) c some = tt
place_lower sc want t m f v (calls.Extern name adding n) c some = tt
place_lower sc want t m f v (calls.Charge name n) c some = tt
place_lower sc want t m f v calls.Ledger c some = tt
place_lower sc want t m f v calls.Assertions c some = tt
place_lower sc want t m f v calls.Live c some = tt
place_lower sc want t m f v calls.Exit c some = tt
