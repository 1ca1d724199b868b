-- An exit begins.
use Rattle.std.proofs.Common.{◌≡◌, ℕ, ◌+◌, true, List, refl, Some, None, false}
use Rattle.vch_base.specs.declared.kind.Kind.TheVariants as kinds
use Rattle.vch_model.specs.Lines.{is_task}
use Rattle.vch_model.specs.declared.call.Call.TheVariants as calls
use Rattle.vch_machine.specs.Beginning as begins
use Rattle.vch_machine.specs.Frames as frames
use Rattle.vch_machine.specs.Next.{nth_call}
use Rattle.vch_parts.specs.declared.frames.Working.{Working}
use Rattle.vch_parts.specs.declared.parts.Parts.{Parts}
use Rattle.vch_parts.specs.Framed.{frame_of, begun_of, with_frame_of, with_begun_of}
use Rattle.vch_parts.specs.Reached.{plain_of, Reached, IsNext, MayFollow}
use Rattle.vch_moves.specs.Steps.{exiting_frame, opened, machine_begun}
use Rattle.vch_moves.proofs.CallerLemmas.{exit_begun}
use Rattle.vch_carry.proofs.glue.Begun.{begun, opened_is}
use Rattle.vch_carry.proofs.glue.Runs.{follows_by}

pub exit_begins : (p : Parts) (t : ℕ) → Reached p → is_task p.scenario t ≡ true → IsNext p t (Some kinds.Begin) → frame_of p.frames t ≡ None → nth_call p.scenario t (begun_of p.frames t + 1) ≡ Some calls.Exit
    → (fs2 : List Working) → fs2 ≡ with_frame_of (with_begun_of p.frames t) t (Some exiting_frame) → MayFollow kinds.Begin t p (record p { frames = fs2 })
exit_begins p t r task next free is fs2 put = follows_by p (record p { frames = fs2 }) false kinds.Begin t (opened (plain_of p) t exiting_frame) refl (opened_is p t r task fs2 exiting_frame put) (λ m st.
    let b = begun p t r task next free calls.Exit is m st in
    let a = b.at_rest in
    (frames.with_frame (machine_begun m t) t (Some begins.exiting_frame), b.event false, b.next, exit_begun p.scenario (plain_of p) m t a.positive a.inside a.stands a.own a.task))
