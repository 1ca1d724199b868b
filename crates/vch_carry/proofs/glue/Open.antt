-- What a task is at where the next event is one of its call: nothing is in hand, and nothing is to be let go of.
use Rattle.std.proofs.Common.{◌≡◌, ℕ, ◌+◌, ◌<◌, ◌≤◌, nat_lt, arith, length, Bool, true, false, cond, List, [], ◌∷◌, refl, sym, ◌∙◌, subst, Option, Some, None}
use Rattle.std.specs.Prelude.{is_some}
use Rattle.vch_base.specs.declared.kind.Kind.{Kind}
use Rattle.vch_base.specs.declared.kind.Kind.TheVariants as kinds
use Rattle.vch_base.specs.Keyed.{Keyed}
use Rattle.vch_model.specs.Lines.{is_task, phases_in, lines_until}
use Rattle.vch_model.specs.declared.call.Call.{Call}
use Rattle.vch_machine.specs.Events.{event, frame_event}
use Rattle.vch_machine.specs.Next.{nth_call, next_kind, task_next, frame_next, unclaimed_next, lets_next, unanswered_next}
use Rattle.vch_machine.specs.State as machine
use Rattle.vch_machine.specs.State.{Place, Machine, Tasked, tasked}
use Rattle.vch_legal.specs.Tie.{Ties}
use Rattle.vch_legal.proofs.CallerLemmas.{reached_stands}
use Rattle.vch_frame.specs.declared.frame.Claiming.{Claiming}
use Rattle.vch_frame.specs.declared.frame.KeyIndex.{KeyIndex}
use Rattle.vch_frame.specs.declared.frame.KeyReceipt.{KeyReceipt}
use Rattle.vch_frame.specs.Pairs.{Optional, Pairwise}
use Rattle.vch_frame.proofs.CallerLemmas.{event_is}
use Rattle.vch_values.specs.Parts.{KeyParts}
use Rattle.vch_parts.specs.declared.frame.Frame.{Frame}
use Rattle.vch_parts.specs.declared.frames.Working as declared
use Rattle.vch_parts.specs.declared.parts.Parts.{Parts}
use Rattle.vch_parts.specs.Framed.{frame_of}
use Rattle.vch_parts.specs.Nexts.{value_kind}
use Rattle.vch_parts.specs.Plain.{part_of}
use Rattle.vch_parts.specs.Reached.{plain_of, Reached, IsEnd, IsState, IsNext}
use Rattle.vch_parts.specs.Shape.{IsReceipt, IsLet, IsClaim, IsFrame}
use Rattle.vch_parts.proofs.CallerLemmas.{in_parts, own_frame, frames_of, task_inside}
use Rattle.vch_moves.specs.Moments.{IsAtWork}

-- an event of a call that is under way
abbrev pub IsOpen : Kind → Type 0
IsOpen kinds.Work = Unit {0}
IsOpen kinds.Make = Unit {0}
IsOpen kinds.Place = Unit {0}
IsOpen kinds.Begin = ⊥
IsOpen kinds.Refer = ⊥
IsOpen kinds.LetGo = ⊥
IsOpen kinds.Ask = ⊥
IsOpen kinds.Recheck = ⊥
IsOpen kinds.Phase = ⊥

open_too : (k kind : Kind) → Some k ≡ Some kind → IsOpen kind → IsOpen k
open_too k kind e o = let same : kind ≡ k = cc in subst IsOpen same o

-- The machine's frame.

pub record Idle (g : machine.Frame) : Type 0 where
  pub receipt : g.receipt ≡ None
  pub claim : g.claim ≡ None
  pub lets : g.lets ≡ []
  pub answered : g.answered ≡ false

module _ (version : ℕ) (names : List machine.Named) (g : machine.Frame) (call : Option Call) (kind : Kind) (open_kind : IsOpen kind) where
  by_answer : (b : Bool) → unanswered_next version names g call b ≡ Some kind → b ≡ false
  by_answer true e = absurd (cc)
  by_answer false e = refl

  by_lets : (ps : List Place) → lets_next version names g call ps ≡ Some kind → (ps ≡ []) × (g.answered ≡ false)
  by_lets [] e = (refl, by_answer g.answered e)
  by_lets (p ∷ ps) e = absurd (open_too kinds.LetGo kind e open_kind)

  asks_none : (b : Bool) → Some (cond b kinds.Recheck kinds.Ask) ≡ Some kind → ⊥
  asks_none true e = open_too kinds.Recheck kind e open_kind
  asks_none false e = open_too kinds.Ask kind e open_kind

  by_claim : (y : Option machine.Claim) → unclaimed_next version names g call y ≡ Some kind → (y ≡ None) × (g.lets ≡ []) × (g.answered ≡ false)
  by_claim None e = let z = by_lets g.lets e in (refl, z.0, z.1)
  by_claim (Some y) e = absurd (asks_none (is_some y.answer) e)

  by_receipt : (r : Option Place) → frame_next version names g call r ≡ Some kind → (r ≡ None) × (g.claim ≡ None) × (g.lets ≡ []) × (g.answered ≡ false)
  by_receipt None e = let z = by_claim g.claim e in (refl, z.0, z.1, z.2)
  by_receipt (Some p) e = absurd (open_too kinds.Refer kind e open_kind)

  pub idle_of : frame_next version names g call g.receipt ≡ Some kind → Idle g
  idle_of e = let z = by_receipt g.receipt e in record { receipt = z.0; claim = z.1; lets = z.2; answered = z.3 }

-- The frame of the parts beside it.

no_receipt : (o : Option KeyReceipt) (p : Option Place) → p ≡ None → Optional IsReceipt o p → o ≡ None
no_receipt None p e h = refl
no_receipt (Some r) None e h = absurd h
no_receipt (Some r) (Some p) e h = absurd (cc)

no_lets : (x : Keyed KeyParts) (ls : List KeyIndex) (ps : List Place) → ps ≡ [] → Pairwise (IsLet x) ls ps → ls ≡ []
no_lets x [] ps e h = refl
no_lets x (l ∷ ls) [] e h = absurd h
no_lets x (l ∷ ls) (p ∷ ps) e h = absurd (cc)

no_claim : (x : Keyed KeyParts) (a : Claiming) (y : Option machine.Claim) → y ≡ None → IsClaim x a y → a ≡ Claiming.Nothing
no_claim x Claiming.Nothing y e h = refl
no_claim x (Claiming.Claimed k a) None e h = absurd h
no_claim x (Claiming.Claimed k a) (Some y) e h = absurd (cc)
no_claim x (Claiming.Answered k a) None e h = absurd h
no_claim x (Claiming.Answered k a) (Some y) e h = absurd (cc)

kind_none : (f : Frame) → f.receipt ≡ None → f.claim ≡ Claiming.Nothing → f.lets ≡ [] → value_kind (Some f) ≡ None
kind_none f a b e = rw (a, b, e) refl

-- A task with a call under way, in the parts and in a state that they stand for.

pub record Working (p : Parts) (m : Machine) (t : ℕ) (kind : Kind) (f : Frame) (g : machine.Frame) : Type 0 where
  pub at_work : IsAtWork p.scenario (plain_of p) m t f g
  pub state : IsState p.scenario (plain_of p) m
  pub ties : Ties p.scenario m
  pub idle : Idle g
  pub lets : f.lets ≡ []
  pub answered : f.answered ≡ false
  pub event : (want : Bool) → event p.scenario want m t ≡ frame_event p.scenario want m t g kind
  pub next : next_kind p.scenario m t ≡ Some kind

module _ (p : Parts) (t : ℕ) (kind : Kind) (open_kind : IsOpen kind) (r : Reached p) (task : is_task p.scenario t ≡ true) (next : IsNext p t (Some kind)) where
  -- it has a frame
  frameless : (b : Bool) → (cond b (Some kinds.Begin) None) ≡ Some kind → ⊥
  frameless true e = open_too kinds.Begin kind e open_kind
  frameless false e = cc

  machine_frame : (m : Machine) → IsState p.scenario (plain_of p) m → (g : machine.Frame) × ((tasked m t).frame ≡ Some g) × Idle g
  unfolding IsNext
  machine_frame m st = by (tasked m t).frame refl (next m st)
    where
      by : (o : Option machine.Frame) → (tasked m t).frame ≡ o → task_next p.scenario (phases_in m.past) t (tasked m t) o ≡ Some kind → (g : machine.Frame) × (o ≡ Some g) × Idle g
      by None q e = absurd (frameless (nat_lt (tasked m t).begun (lines_until p.scenario (phases_in m.past + 1) t)) e)
      by (Some g) q e = (g, refl, idle_of p.scenario.version (tasked m t).names g (nth_call p.scenario t (tasked m t).begun) kind open_kind e)

  twin : (x : Keyed KeyParts) (o : Option Frame) (q : Option machine.Frame) (g : machine.Frame) → o ≡ None → q ≡ Some g → Optional (IsFrame x) o q → ⊥
  twin x None None g e d h = cc
  twin x None (Some z) g e d h = h
  twin x (Some f) q g e d h = cc

  pub no_frame : frame_of p.frames t ≡ None → ⊥
  unfolding IsEnd IsState
  no_frame none =
      let m = r.end.0 in
      let z = machine_frame m r.end.1 in
      let s = r.end.1.2 in
      let n = in_parts p.scenario (plain_of p) m t s (reached_stands p.scenario r.end.1.0 m r.end.1.1) task in
      twin p.values (part_of (plain_of p) t).frame (tasked m t).frame z.0 (own_frame p t r task ∙ none) z.1 (s.shape.tasks t n.0 n.1).frame

  pub framed : (A : Type 0) → ((f : Frame) → frame_of p.frames t ≡ Some f → A) → A
  framed A h = by (frame_of p.frames t) refl
    where
      by : (o : Option Frame) → frame_of p.frames t ≡ o → A
      by None e = absurd (no_frame e)
      by (Some f) e = h f e

  module _ (f : Frame) (own : frame_of p.frames t ≡ Some f) where
    pub working : (m : Machine) → IsState p.scenario (plain_of p) m → (g : machine.Frame) × Working p m t kind f g
    unfolding IsState IsNext
    working m st =
        let z = machine_frame m st in
        let g = z.0 in
        let s = st.2 in
        let ties = reached_stands p.scenario st.0 m st.1 in
        let n = in_parts p.scenario (plain_of p) m t s ties task in
        let own_is : (part_of (plain_of p) t).frame ≡ Some f = own_frame p t r task ∙ own in
        let same = frames_of p.values (part_of (plain_of p) t).frame (tasked m t).frame f g own_is z.1 (s.shape.tasks t n.0 n.1).frame in (
          g,
          record {
            at_work = record {
              stands = s;
              positive = n.0;
              inside = n.1;
              own = own_is;
              task = z.1;
              frame = same;
              idle = (no_receipt f.receipt g.receipt z.2.receipt same.receipt, no_claim p.values f.claim g.claim z.2.claim same.claim);
            };
            state = st;
            ties = ties;
            idle = z.2;
            lets = no_lets p.values f.lets g.lets z.2.lets same.lets;
            answered = same.answered ∙ z.2.answered;
            event = λ want. event_is p.scenario want m t g kind (frame_event p.scenario want m t g kind) task z.1 (next m st) refl;
            next = next m st;
          },
        )

    -- in the state that there is
    pub some_working : (A : Type 0) → ((m : Machine) (g : machine.Frame) → Working p m t kind f g → A) → A
    unfolding IsEnd
    some_working A h = let z = working r.end.0 r.end.1 in h r.end.0 z.0 z.1

    pub lets_none : f.lets ≡ []
    lets_none = some_working (f.lets ≡ []) (λ m g w. w.lets)

    -- and no value to see to
    pub idle_kind : value_kind (Some f) ≡ None
    idle_kind = some_working (value_kind (Some f) ≡ None) (λ m g w. kind_none f w.at_work.idle.0 w.at_work.idle.1 w.lets)

    pub no_lets_many : length f.lets ≤ 4
    no_lets_many = subst (λ ls. length ls ≤ 4) (sym lets_none) (few tt)
      where
        few : Unit {0} → length {A = KeyIndex} [] ≤ 4
        few u = omega arith

    pub few_lets : length f.lets ≤ 8
    few_lets = subst (λ ls. length ls ≤ 8) (sym lets_none) (few tt)
      where
        few : Unit {0} → length {A = KeyIndex} [] ≤ 8
        few u = omega arith

-- a task whose frame was taken
pub put_range : (p : Parts) (t : ℕ) → Reached p → is_task p.scenario t ≡ true → (fs2 : List declared.Working) → length fs2 ≡ length p.frames → (0 < t) × (t ≤ length fs2)
put_range p t r task fs2 many = let n = task_inside p t r task in (n.0, subst (λ k. t ≤ k) (sym many) n.1)
