-- A frame whose call is answered: it forms nothing any more, and has more to let go of.
use Rattle.std.proofs.Common.{◌≡◌, ℕ, ◌+◌, List, [], ◌++◌, refl, ap, ◌∙◌, Some, None, true, arith}
use Rattle.std.specs.List.{flat_map}
use Rattle.std.proofs.lemmas.Grind.{flat_map-append}
use Rattle.vch_base.specs.declared.key.Key.{Key}
use Rattle.vch_base.specs.Keyed.{Keyed}
use Rattle.vch_base.specs.Managers.{count}
use Rattle.vch_model.specs.declared.call.Word.{Word}
use Rattle.vch_model.specs.declared.entry.Entry.{Entry}
use Rattle.vch_model.specs.declared.entry.Entry.TheVariants as entries
use Rattle.vch_model.specs.declared.entry.Reply.{Reply}
use Rattle.vch_model.specs.declared.lists.Scenario.{Scenario}
use Rattle.vch_legal.specs.ValueAmounts.{IsUncounted}
use Rattle.vch_machine.specs.State as machine
use Rattle.vch_machine.specs.State.{Place, Machine, Tasked, tasked}
use Rattle.vch_machine.specs.Frames as frames
use Rattle.vch_frame.specs.declared.frame.KeyIndex.{KeyIndex}
use Rattle.vch_frame.specs.Pairs.{Optional, Pairwise}
use Rattle.vch_values.specs.Parts.{KeyParts}
use Rattle.vch_parts.specs.declared.frame.Frame.{Frame}
use Rattle.vch_parts.specs.Plain.{closed}
use Rattle.vch_parts.specs.Shape.{IsFrame, IsLet}
use Rattle.vch_parts.specs.Pictures.{frame_holds, forming_holds, let_holds}
use Rattle.vch_parts.proofs.CallerLemmas.{closed_frames, holds_closed}
use Rattle.vch_moves.specs.Kept.{AddsNothing}
use Rattle.vch_moves.specs.Steps.{ended, IsIdle}
use Rattle.vch_moves.proofs.holding.Different.{count_append}
use Rattle.vch_moves.proofs.holding.Items.{pairwise_append}
use Rattle.vch_moves.proofs.keeping.Idle.{idle_closed}

-- the machine's frame after an answer
abbrev pub machine_ended : machine.Frame → List Place → machine.Frame
machine_ended g lets = record g { forming = None; answered = true; keys = []; lets = g.lets ++ lets }

module _ (x : Keyed KeyParts) (f : Frame) (g : machine.Frame) (r : IsFrame x f g) (ls : List KeyIndex) (ps : List Place) (lets : Pairwise (IsLet x) ls ps) where
  ended_is : IsFrame x (ended f ls) (machine_ended g ps)
  ended_is = record {
    forming = tt;
    answered = refl;
    at_byte = r.at_byte;
    keys = refl;
    receipt = r.receipt;
    lets = pairwise_append (IsLet x) f.lets g.lets ls ps r.lets lets;
    claim = r.claim;
  }

  pub ended_frames : Optional (IsFrame x) (closed (ended f ls)) (frames.closed (machine_ended g ps))
  ended_frames = closed_frames x (ended f ls) (machine_ended g ps) ended_is

pub ended_idle : (f : Frame) (ls : List KeyIndex) → IsIdle (Some f) → IsIdle (closed (ended f ls))
ended_idle f ls p = idle_closed (ended f ls) p

-- it holds what it had to let go of, and this
pub ended_holds : (k : Key) (h : ℕ) (g : machine.Frame) (ps : List Place) → count h (frame_holds k (frames.closed (machine_ended g ps))) ≡ count h (flat_map (let_holds k) g.lets) + count h (flat_map (let_holds k) ps)
ended_holds k h g ps = ap (count h) (holds_closed k (machine_ended g ps) (λ e. refl) ∙ flat_map-append (let_holds k) g.lets ps) ∙ count_append h (flat_map (let_holds k) g.lets) (flat_map (let_holds k) ps)

-- and held before what it formed in place of this
pub forming_held : (k : Key) (h : ℕ) (g : machine.Frame) → count h (frame_holds k (Some g)) ≡ count h (forming_holds k g.forming) + count h (flat_map (let_holds k) g.lets)
forming_held k h g = count_append h (forming_holds k g.forming) (flat_map (let_holds k) g.lets)

-- an answer adds up to nothing where no amount is counted
pub answer_quiet : (sc : Scenario) (past : List Entry) (t n : ℕ) (word : Word) (reply : Reply) → IsUncounted sc past (entries.Call t n word reply) → AddsNothing sc past (entries.Call t n word reply)
answer_quiet sc past t n word reply u = record { uncounted = u; phases = refl; made = omega arith }
