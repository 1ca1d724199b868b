use Rattle.std.proofs.Common.{sym, subst, Some}
use Rattle.vch_machine.specs.Next.{nth_call}
use Rattle.vch_parts.specs.Framed.{begun_of}
use Rattle.vch_parts.specs.Reached.{IsNext}
use Rattle.vch_runs.proofs.Framed.{is_true}
use Rattle.vch_runs.proofs.Calling.{opened_at}
use Rattle.vch_runs.proofs.OwnCalls.{carried_next, said_kind}
use Rattle.vch_runs.proofs.carrying.open_kind.Goals as goal

pub returns-clause-next : goal.returns-clause-next
returns-clause-next c =
    subst (λ kind. IsNext c.args.parts.now c.args.task (Some kind)) (sym c.carried_kind.ensures)
    (carried_next c.args.parts.now c.args.task c.requires.reached (is_true _ c.requires.task) c.requires.idle c.requires.next c.requires.under_way c.args.call c.requires.says c.requires.word c.has_asked.result c.has_asked.ensures)

pub returns-clause-carries : goal.returns-clause-carries
returns-clause-carries c =
    (opened_at c.args.parts.now c.args.task c.carried_kind.result c.requires.reached (is_true _ c.requires.task) c.requires.under_way c.requires.idle
    (subst (λ kind. IsNext c.args.parts.now c.args.task (Some kind)) (sym c.carried_kind.ensures)
    (carried_next c.args.parts.now c.args.task c.requires.reached (is_true _ c.requires.task) c.requires.idle c.requires.next c.requires.under_way c.args.call c.requires.says c.requires.word c.has_asked.result c.has_asked.ensures))).kind_is

pub returns-clause-word : goal.returns-clause-word
returns-clause-word c =
    said_kind c.args.call c.carried_kind.result (nth_call c.args.parts.now.scenario c.args.task (begun_of c.args.parts.now.frames c.args.task)) c.requires.says
    (opened_at c.args.parts.now c.args.task c.carried_kind.result c.requires.reached (is_true _ c.requires.task) c.requires.under_way c.requires.idle
    (subst (λ kind. IsNext c.args.parts.now c.args.task (Some kind)) (sym c.carried_kind.ensures)
    (carried_next c.args.parts.now c.args.task c.requires.reached (is_true _ c.requires.task) c.requires.idle c.requires.next c.requires.under_way c.args.call c.requires.says c.requires.word c.has_asked.result c.has_asked.ensures)))
