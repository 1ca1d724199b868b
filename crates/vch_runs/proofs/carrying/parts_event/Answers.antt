use Rattle.std.proofs.Common.{sym, ap, ◌∙◌}
use Rattle.std.specs.Prelude.{is_some}
use Rattle.vch_parts.specs.declared.frames.Working.{Working}
use Rattle.vch_parts.proofs.CallerLemmas.{task_inside}
use Rattle.vch_runs.proofs.Framed.{is_true}
use Rattle.vch_runs.proofs.OwnCalls.{begins_next, no_frame}
use Rattle.vch_runs.proofs.carrying.parts_event.Goals as goal

pub at-requires : goal.at-requires
at-requires c = let n = task_inside c.args.parts.now c.args.task c.requires.reached (is_true _ c.requires.task) in record { task = (n.0, n.1) }

pub begin-requires-clause-next : goal.begin-requires-clause-next
begin-requires-clause-next c =
    begins_next c.args.parts.now c.args.task c.requires.reached (is_true _ c.requires.task)
    (no_frame _ (ap (λ (w : Working). is_some w.frame) (sym c.at.ensures) ∙ sym c.is_some.ensures ∙ c.if-is_some.false)) c.requires.next
