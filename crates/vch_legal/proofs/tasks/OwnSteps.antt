-- What an event does to its own task: it changes the frame, or it answers the call.
use Rattle.std.proofs.Common.{◌≡◌, ℕ, ◌+◌, ◌<◌, ◌≤◌, Bool, List, ◌∷◌, refl, true, false, ◌||◌, arith, sym, ap, ◌∙◌, subst, Some, None, Option}
use Rattle.std.specs.Prelude.{if◌then◌else◌, ◌==◌, not}
use Rattle.vch_model.specs.declared.call.Call.{Call}
use Rattle.vch_model.specs.declared.call.Line.{Line}
use Rattle.vch_model.specs.declared.entry.Entry.TheVariants as entries
use Rattle.vch_model.specs.declared.entry.Reply.{Reply}
use Rattle.vch_model.specs.declared.lists.Scenario.{Scenario}
use Rattle.vch_model.specs.Store.{Member}
use Rattle.vch_model.specs.Words.{word_of}
use Rattle.vch_model.specs.After.{is_want, store_after_call, store_after_line}
use Rattle.vch_model.specs.Lines.{calls_in, phases_in, lines_until, line_at, call_of_phase, current_call}
use Rattle.vch_model.specs.Legal.{IsAnswer, Answers}
use Rattle.vch_machine.specs.State.{Living, Handles, Frame, Tasked, Machine, tasked, seen, member_of}
use Rattle.vch_machine.specs.Frames.{closed}
use Rattle.vch_machine.specs.Next.{nth_call, call_in}
use Rattle.vch_legal.specs.Facts.{bit}
use Rattle.vch_legal.specs.Tie.{FormsNothing, FrameForms, IsForming, is_answering, is_open, IsOpen, TaskStands}
use Rattle.vch_legal.proofs.lines.PhaseLines.{phase_of_line}
use Rattle.vch_legal.proofs.steps.Follows.{Follows}
use Rattle.vch_legal.proofs.steps.Lifts.{Lives}
use Rattle.vch_legal.proofs.steps.Standing.{Step}

-- what is known of the task before its event
abbrev pub Before : Scenario → ℕ → Machine → Type 0
Before sc t m = TaskStands sc m.past m.live t (tasked m t)

-- the frame is changed
pub framed_step : (sc : Scenario) (t : ℕ) (m n : Machine) (g : Option Frame) → Before sc t m → Follows sc t m n
    → Lives m n → calls_in n.past t ≡ calls_in m.past t
    → tasked n t ≡ record (tasked m t) { frame = g } → is_answering g ≡ is_answering (tasked m t).frame
    → IsForming sc n.live (member_of n.live (tasked m t)) t (tasked m t).begun g → IsOpen g → Step sc t m n
framed_step sc t m n g s follows lives same_calls own answers forming open_frame = record {
  follows = follows;
  lives = lives;
  counted = subst (λ (x : Tasked). x.begun ≡ calls_in n.past t + bit (is_answering x.frame)) (sym own)
      (s.counted ∙ (ap (λ c. c + bit (is_answering (tasked m t).frame)) (sym same_calls)
      ∙ ap (λ b. calls_in n.past t + bit b) (sym answers)));
  begun = subst (λ (x : Tasked). x.begun ≤ lines_until sc (phases_in m.past + 1) t) (sym own) s.begun;
  forming = subst (λ (x : Tasked). IsForming sc n.live (member_of n.live x) t x.begun x.frame) (sym own) forming;
  open_frame = subst (λ (x : Tasked). IsOpen x.frame) (sym own) open_frame;
}

-- a frame that is there was answered, and forms nothing
abbrev pub IsSettled : Option Frame → Type 0
IsSettled None = Unit {0}
IsSettled (Some f) = (f.answered ≡ true) × (f.forming ≡ None)

pub settled_quiet : (f : Option Frame) → IsSettled f → is_answering f ≡ false
settled_quiet None h = refl
settled_quiet (Some f) h = ap not h.0

-- so nothing is to be shown of what it forms
pub unformed : (sc : Scenario) (live : List Living) (x : Member) (t begun : ℕ) (f : Option Frame) → IsSettled f
    → IsForming sc live x t begun f
unformed sc live x t begun None h = tt
unformed sc live x t begun (Some f) h =
    subst (λ (v : Option Handles). FrameForms sc live x t f.at_byte f.keys f.receipt f.answered v (nth_call sc t begun))
    (sym h.1) (subst (λ b. FormsNothing b (nth_call sc t begun)) (sym h.0) tt)

closed_by : (b : Bool) (g : Frame) (sc : Scenario) (live : List Living) (x : Member) (t begun : ℕ)
    → IsForming sc live x t begun (Some g) → IsForming sc live x t begun (if b then Some g else None)
closed_by true g sc live x t begun h = h
closed_by false g sc live x t begun h = tt

pub closed_forming : (g : Frame) (sc : Scenario) (live : List Living) (x : Member) (t begun : ℕ)
    → IsForming sc live x t begun (Some g) → IsForming sc live x t begun (closed g)
closed_forming g sc live x t begun h = closed_by _ g sc live x t begun h

pub closed_open : (g : Frame) → IsOpen (closed g)
closed_open g = by_open (is_open g) refl
  where
    by_open : (b : Bool) → is_open g ≡ b → IsOpen (if b then Some g else None)
    by_open true e = e
    by_open false e = tt

pub closed_answers : (g : Frame) → is_answering (closed g) ≡ not g.answered
closed_answers g = by_answered (not g.answered) _ refl
  where
    by_answered : (b c : Bool) → not g.answered ≡ b → is_answering (if b || c then Some g else None) ≡ b
    by_answered true c e = e
    by_answered false true e = e
    by_answered false false e = refl

-- a frame that is there after its call was answered
pub record Answered (f : Option Frame) : Type 0 where
  pub settled : IsSettled f
  pub open_frame : IsOpen f

pub closed_answered : (g : Frame) → g.answered ≡ true → g.forming ≡ None → Answered (closed g)
closed_answered g a e = record { settled = by_test _; open_frame = closed_open g }
  where
    by_test : (b : Bool) → IsSettled (if b then Some g else None)
    by_test true = (a, e)
    by_test false = tt

-- a call that is there has a line
abbrev LineFor : Scenario → ℕ → ℕ → Call → Type 0
LineFor sc t n call = (l : ℕ × Line) × (line_at sc t n ≡ Some l) × (l.1.call ≡ call)

line_for : (sc : Scenario) (t n : ℕ) (call : Call) → nth_call sc t n ≡ Some call → LineFor sc t n call
line_for sc t n call e = of_line (line_at sc t n) refl e
  where
    of_line : (o : Option (ℕ × Line)) → line_at sc t n ≡ o → call_in o ≡ Some call → LineFor sc t n call
    of_line None g h = cc
    of_line (Some l) g h = (l, g, some_eq l.1.call call h)
      where
        some_eq : (a b : Call) → Some a ≡ Some b → a ≡ b
        some_eq a b i = cc

-- the call that is begun last is the current one, while it is not answered
pub current_is : (sc : Scenario) (t : ℕ) (m : Machine) (k : ℕ) (call : Call) → Before sc t m
    → k ≡ calls_in m.past t + 1 → k ≤ lines_until sc (phases_in m.past + 1) t → nth_call sc t k ≡ Some call
    → current_call sc m.past t ≡ Some call
current_is sc t m k call s number high there = by_line (line_for sc t k call there)
  where
    by_line : LineFor sc t k call → current_call sc m.past t ≡ Some call
    by_line (l, e, g) =
        ap (λ n. call_of_phase (phases_in m.past + 1) (line_at sc t n)) (sym number)
        ∙ (ap (call_of_phase (phases_in m.past + 1)) e
        ∙ (ap (λ b. if b then Some l.1.call else None) (same l.0 (phases_in m.past + 1)
        (phase_of_line sc t k (phases_in m.past) l e low high)) ∙ ap Some g))
      where
        low : lines_until sc (phases_in m.past) t < k
        low = let a : lines_until sc (phases_in m.past) t ≤ calls_in m.past t = s.answered in omega arith

        same : (a b : ℕ) → a ≡ b → (a == b) ≡ true
        same a b e = grind arith

-- a call that is answered by the store, by being out of memory, or at the end of an exit
pub call_follows : (sc : Scenario) (t : ℕ) (m n : Machine) (k : ℕ) (call : Call) (reply : Reply) → Before sc t m → k
    ≡ calls_in m.past t + 1 → k ≤ lines_until sc (phases_in m.past + 1) t
    → nth_call sc t k ≡ Some call → n.past ≡ entries.Call t k (word_of call) reply ∷ m.past
    → seen n ≡ (if is_want reply then seen m else store_after_call sc (seen m) t call)
    → IsAnswer sc m.past (seen m) t call reply → Follows sc t m n
call_follows sc t m n k call reply s number high there past store answer = by_line (line_for sc t k call there)
  where
    by_line : LineFor sc t k call → Follows sc t m n
    by_line (l, e, g) =
        Follows.Adds (entries.Call t k (word_of call) reply) past
        (store ∙ ap (λ x. if is_want reply then seen m else x)
        (ap (λ c. store_after_call sc (seen m) t c) (sym g) ∙ ap (λ o. store_after_line sc (seen m) t o) (sym e))) (
          number,
          subst (λ (o : Option Call). Answers sc m.past (seen m) t o (word_of call) reply)
              (sym (current_is sc t m k call s number high there)) (refl, answer),
        )
        refl

-- the event answers the call of its frame
pub answered_step : (sc : Scenario) (t : ℕ) (m n : Machine) (call : Call) (reply : Reply) → Before sc t m
    → is_answering (tasked m t).frame ≡ true → nth_call sc t (tasked m t).begun ≡ Some call
    → n.past ≡ entries.Call t (tasked m t).begun (word_of call) reply ∷ m.past → n.live ≡ m.live
    → (tasked n t).begun ≡ (tasked m t).begun → Answered (tasked n t).frame
    → seen n ≡ (if is_want reply then seen m else store_after_call sc (seen m) t call)
    → IsAnswer sc m.past (seen m) t call reply → Step sc t m n
answered_step sc t m n call reply s under there past live begun answered store answer = record {
  follows = call_follows sc t m n (tasked m t).begun call reply s number s.begun there past store answer;
  lives = Lives.Same live;
  counted = begun ∙ (number ∙ (sym (counts n.past past) ∙ sym
      (ap (λ b. calls_in n.past t + bit b) (settled_quiet (tasked n t).frame answered.settled)
      ∙ plus_none (calls_in n.past t))));
  begun = subst (λ b. b ≤ lines_until sc (phases_in m.past + 1) t) (sym begun) s.begun;
  forming = unformed sc n.live (member_of n.live (tasked n t)) t (tasked n t).begun (tasked n t).frame
      answered.settled;
  open_frame = answered.open_frame;
}
  where
    number : (tasked m t).begun ≡ calls_in m.past t + 1
    number = s.counted ∙ ap (λ b. calls_in m.past t + bit b) under

    plus_none : (a : ℕ) → a + bit false ≡ a
    plus_none a = omega arith

    own : (a : ℕ) → (a == a) ≡ true
    own a = grind arith

    counts : (past : _) → past ≡ entries.Call t (tasked m t).begun (word_of call) reply ∷ m.past → calls_in past t
        ≡ calls_in m.past t + 1
    counts past e = ap (λ p. calls_in p t) e ∙ ap (λ b. calls_in m.past t + (if b then 1 else 0)) (own t)
