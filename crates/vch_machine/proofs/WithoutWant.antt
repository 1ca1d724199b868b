-- Where no reply of a run in turn is out of memory, it is the run in which memory never runs out.
use Rattle.std.proofs.Common.{◌≡◌, ℕ, zero, suc, Bool, List, [], ◌∷◌, ◌++◌, refl, true, false, not, ◌&&◌, subst, length, Some, None, Option}
use Rattle.std.specs.Prelude.{if◌then◌else◌, nat_lt, reverse}
use Rattle.vch_base.specs.declared.codes.TheConstants.{KERN_RESOURCE_SHORTAGE}
use Rattle.vch_base.specs.declared.kind.Kind.{Kind}
use Rattle.vch_base.specs.declared.kind.Kind.TheVariants as kinds
use Rattle.vch_model.specs.Legal.{has_code}
use Rattle.vch_model.specs.Lines.{phases_in, is_task}
use Rattle.vch_model.specs.Replies.{refused}
use Rattle.vch_model.specs.declared.call.Call.{Call}
use Rattle.vch_model.specs.declared.call.Call.TheVariants as calls
use Rattle.vch_model.specs.declared.entry.Entry.{Entry}
use Rattle.vch_model.specs.declared.entry.Entry.TheVariants as entries
use Rattle.vch_model.specs.declared.entry.Reply.{Reply}
use Rattle.vch_model.specs.declared.lists.Scenario.{Scenario}
use Rattle.vch_machine.specs.State.{Handles, Frame, Machine, tasked, with_tasked, start}
use Rattle.vch_machine.specs.Beginning.{begun_one, is_full, begin_call, begin_line, store_reply}
use Rattle.vch_machine.specs.Events.{on_formed, frame_event, event_of, event, all_at_rest, phase_event, numbers}
use Rattle.vch_machine.specs.Frames.{noted, replied, refuse}
use Rattle.vch_machine.specs.Next.{current, next_kind}
use Rattle.vch_machine.specs.Placing.{do_place}
use Rattle.vch_machine.specs.Schedules.{Move, happens, run, run_from_start, lowest_open, turn_task, move_of, has_ended, in_turn}
use Rattle.vch_machine.specs.PlainRuns.{never, IsPlainRun, TellNoWant}
use Rattle.vch_machine.proofs.Walks.{PastWalk, past_walked}

-- what is told stays told
abbrev pub TellsLess : Machine → Machine → Type 0
TellsLess m n = TellNoWant n.past → TellNoWant m.past

older : (newer past : List Entry) → TellNoWant (newer ++ past) → TellNoWant past
older [] past h = h
older (e ∷ newer) past h = older newer past h.1

telling : (t : ℕ) → PastWalk t TellsLess
telling t = record {
  self_ = λ m h. h;
  joined = λ m n o a b h. a (b h);
  own = λ m x l h. h;
  queued = λ m u queue h. h;
  claims = λ m g same h. h;
  others = λ m live pools newer tally e h. older newer m.past h;
}

-- what follows where memory is out follows too where it is not, or tells that it was out
abbrev pub Follows : Option Machine → Option Machine → Type 0
Follows with_ without = (n : Machine) → with_ ≡ Some n → TellNoWant n.past → without ≡ Some n

same : (o : Option Machine) → Follows o o
same o n e h = e

some_eq : {x y : Machine} → Some x ≡ Some y → x ≡ y
some_eq h = cc

-- a state whose newest entry tells that memory was out
told : (m : Machine) (o : Option Machine) → (TellNoWant m.past → ⊥) → Follows (Some m) o
told m o tells n e h = absurd (tells (subst (λ (x : Machine). TellNoWant x.past) (some_back e) h))
  where
    some_back : {x y : Machine} → Some x ≡ Some y → y ≡ x
    some_back k = cc

refused_tells : (m : Machine) (f : Frame) (t : ℕ) (call : Call) → TellNoWant (refuse m t f call KERN_RESOURCE_SHORTAGE).past → ⊥
refused_tells m f t call h = h.0 refl

refusing : (m : Machine) (f : Frame) (t : ℕ) (call : Call) (o : Option Machine) → Follows (Some (refuse m t f call KERN_RESOURCE_SHORTAGE)) o
refusing m f t call o = told (refuse m t f call KERN_RESOURCE_SHORTAGE) o (refused_tells m f t call)

either : (b : Bool) (x y v w : Option Machine) → Follows x v → Follows y w → Follows (if b then x else y) (if b then v else w)
either true x y v w a b = a
either false x y v w a b = b

answers : (m : Machine) (t : ℕ) (call : Call) (reply : Reply) (b : Bool)
    → Follows (Some (replied m t call (if b then refused KERN_RESOURCE_SHORTAGE else reply))) (Some (replied m t call reply))
answers m t call reply true = told (replied m t call (refused KERN_RESOURCE_SHORTAGE)) _ (λ h. h.0 refl)
answers m t call reply false = same _

begins : (sc : Scenario) (m : Machine) (t : ℕ) (call : Call) (reply : Reply)
    → Follows (Some (begin_call sc true m t call reply)) (Some (begin_call sc false m t call reply))
begins sc m t (calls.Create bytes) reply = same _
begins sc m t (calls.GiveUp name) reply = same _
begins sc m t (calls.Extract name key) reply = answers m t (calls.Extract name key) reply (not (has_code reply))
begins sc m t (calls.Recipes name) reply = answers m t (calls.Recipes name) reply (not (has_code reply))
begins sc m t (calls.Send to moving name id) reply = same _
begins sc m t calls.Recv reply = same _
begins sc m t (calls.Extern name adding n) reply = same _
begins sc m t (calls.Charge name n) reply = same _
begins sc m t calls.Ledger reply = same _
begins sc m t calls.Assertions reply = same _
begins sc m t calls.Live reply = same _
begins sc m t calls.Exit reply = same _

lines : (sc : Scenario) (m : Machine) (t : ℕ) (call : Option Call) → Follows (begin_line sc true m t call) (begin_line sc false m t call)
lines sc m t None = same None
lines sc m t (Some call) = begins sc (with_tasked m t (begun_one (tasked m t))) t call (store_reply sc m t call)

puts : (sc : Scenario) (m : Machine) (t : ℕ) (f : Frame) (v : Handles) (call : Call) → Follows (do_place sc true m t f v call) (do_place sc false m t f v call)
puts sc m t f v (calls.Create bytes) = refusing m f t (calls.Create bytes) _
puts sc m t f v (calls.GiveUp name) = same None
puts sc m t f v (calls.Extract name key) = same None
puts sc m t f v (calls.Recipes name) = same None
puts sc m t f v (calls.Send to moving name id) =
    either (is_full sc m to) _ _ _ _ (same _) (refusing m f t (calls.Send to moving name id) _)
puts sc m t f v calls.Recv = refusing m f t calls.Recv _
puts sc m t f v (calls.Extern name adding n) = same None
puts sc m t f v (calls.Charge name n) = same None
puts sc m t f v calls.Ledger = same None
puts sc m t f v calls.Assertions = same None
puts sc m t f v calls.Live = same None
puts sc m t f v calls.Exit = same None

forms : (g h : Handles → Call → Option Machine) (v : Option Handles) (call : Option Call)
    → ((x : Handles) (c : Call) → Follows (g x c) (h x c)) → Follows (on_formed g v call) (on_formed h v call)
forms g h None call k = same None
forms g h (Some v) None k = same None
forms g h (Some v) (Some call) k = k v call

frames : (sc : Scenario) (m : Machine) (t : ℕ) (f : Frame) (kind : Kind) → Follows (frame_event sc true m t f kind) (frame_event sc false m t f kind)
frames sc m t f kinds.Begin = same _
frames sc m t f kinds.Work = same _
frames sc m t f kinds.Make =
    forms _ _ f.forming (current sc m t) (λ v call. refusing m f t call _)
frames sc m t f kinds.Refer = same _
frames sc m t f kinds.Place = forms _ _ f.forming (current sc m t) (λ v call. puts sc m t f v call)
frames sc m t f kinds.LetGo = same _
frames sc m t f kinds.Ask = same _
frames sc m t f kinds.Recheck = same _
frames sc m t f kinds.Phase = same _

kinds_of : (sc : Scenario) (m : Machine) (t : ℕ) (f : Option Frame) (kind : Option Kind) → Follows (event_of sc true m t f kind) (event_of sc false m t f kind)
kinds_of sc m t f None = same _
kinds_of sc m t None (Some kind) = lines sc m t _
kinds_of sc m t (Some f) (Some kind) = frames sc m t f kind

events_of : (sc : Scenario) (m : Machine) (t : ℕ) → Follows (event sc true m t) (event sc false m t)
unfolding event
events_of sc m t = either (is_task sc t) _ _ _ _ (kinds_of sc m t (tasked m t).frame (next_kind sc m t)) (same None)

-- an event that does not tell that it is out of memory is the event without it
pub event_without : (sc : Scenario) (want : Bool) (m : Machine) (t : ℕ) → Follows (event sc want m t) (event sc false m t)
event_without sc true m t = events_of sc m t
event_without sc false m t = same _

-- the end of a phase tells what was told
phase_tells : (sc : Scenario) (m n : Machine) → phase_event sc m ≡ Some n → TellsLess m n
unfolding phase_event
phase_tells sc m n e = by_test (all_at_rest sc m && nat_lt (phases_in m.past) (length sc.phases)) e
  where
    by_test : (b : Bool) → (if b then Some (noted m entries.Phase) else None) ≡ Some n → TellsLess m n
    by_test true g = subst (λ (x : Machine). TellsLess m x) (some_eq g) (λ h. h.1)
    by_test false g = cc

pub move_tells : (sc : Scenario) (m n : Machine) (move : Move) → happens sc m move ≡ Some n → TellsLess m n
move_tells sc m n (Move.Of t want) e = past_walked t TellsLess (telling t) sc want m n e
move_tells sc m n Move.EndPhase e = phase_tells sc m n e

-- so does a run
pub run_tells : (sc : Scenario) (moves : List Move) (m n : Machine) → run sc moves (Some m) ≡ Some n → TellsLess m n
run_tells sc [] m n e = subst (λ (x : Machine). TellsLess m x) (some_eq e) (λ h. h)
run_tells sc (move ∷ moves) m n e = by_move (happens sc m move) refl e (λ x k. run_tells sc moves x n k)
  where
    by_move : (o : Option Machine) → happens sc m move ≡ o → run sc moves o ≡ Some n
        → ((x : Machine) → run sc moves (Some x) ≡ Some n → TellsLess x n) → TellsLess m n
    by_move None g k rec = cc
    by_move (Some x) g k rec = λ h. move_tells sc m x move g (rec x k h)

-- the move in turn where memory is not out
same_move : (sc : Scenario) (wants : ℕ → Bool) (m n : Machine) (i : ℕ) (t : Option ℕ) → happens sc m (move_of wants i t) ≡ Some n
    → TellNoWant n.past → happens sc m (move_of never i t) ≡ Some n
same_move sc wants m n i None e h = e
same_move sc wants m n i (Some t) e h = event_without sc (wants i) m t n e h

turn_without : (sc : Scenario) (wants : ℕ → Bool) (i : ℕ) (m n : Machine) → TellNoWant n.past
    → run sc (in_turn i wants sc (Some m)) (Some m) ≡ Some n → run sc (in_turn i never sc (Some m)) (Some m) ≡ Some n
unfolding in_turn
turn_without sc wants zero m n h e = e
turn_without sc wants (suc i) m n h e = by_end (has_ended sc m) e (λ x k. turn_without sc wants i x n h k)
  where
    Rest : Type 0
    Rest = (x : Machine) → run sc (in_turn i wants sc (Some x)) (Some x) ≡ Some n → run sc (in_turn i never sc (Some x)) (Some x) ≡ Some n

    t : Option ℕ
    t = turn_task sc m (lowest_open m (numbers (length sc.flags)))

    moves : (ℕ → Bool) → List Move
    moves w = move_of w i t ∷ in_turn i w sc (happens sc m (move_of w i t))

    moved : (o : Option Machine) → happens sc m (move_of wants i t) ≡ o → run sc (in_turn i wants sc o) o ≡ Some n
        → Rest → run sc (in_turn i never sc (happens sc m (move_of never i t))) (happens sc m (move_of never i t)) ≡ Some n
    moved None g k rec = cc
    moved (Some x) g k rec =
        let told_less : TellNoWant x.past = run_tells sc (in_turn i wants sc (Some x)) x n k h in
        rw (same_move sc wants m x i t g told_less) (rec x k)

    by_end : (b : Bool) → run sc (if b then [] else moves wants) (Some m) ≡ Some n
        → Rest → run sc (if b then [] else moves never) (Some m) ≡ Some n
    by_end true g rec = g
    by_end false g rec = moved (happens sc m (move_of wants i t)) refl g rec

-- where no call of a run in turn to its end was answered that memory is out, it is the run in which memory is never out
pub without_want : (sc : Scenario) (wants : ℕ → Bool) (bound : ℕ) (m : Machine)
    → run_from_start sc (in_turn bound wants sc (Some (start sc))) ≡ Some m → has_ended sc m ≡ true → TellNoWant m.past
    → IsPlainRun sc (reverse m.past)
without_want sc wants bound m e over h = record {
  bound = bound;
  m = m;
  run = turn_without sc wants bound (start sc) m h e;
  ended = over;
  history_is = refl;
}
