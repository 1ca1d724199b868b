use Rattle.std.proofs.Common.{◌≡◌, sym, ap, subst, Some, None}
use Rattle.vch_machine.specs.Next.{nth_call}
use Rattle.vch_parts.specs.declared.frames.Working.{Working}
use Rattle.vch_parts.proofs.CallerLemmas.{task_inside}
use Rattle.vch_runs.proofs.Framed.{is_true}
use Rattle.vch_runs.proofs.OwnCalls.{open_there, said_open}
use Rattle.vch_runs.proofs.current.open_call.Goals as goal

pub at-requires : goal.at-requires
at-requires c = let n = task_inside c.args.parts.now c.args.task c.requires.reached (is_true _ c.requires.task) in record { task = (n.0, n.1) }

pub unreachable-requires : goal.unreachable-requires
unreachable-requires c =
    open_there c.args.parts.now c.args.task c.requires.reached (is_true _ c.requires.task) c.requires.idle c.requires.next c.requires.under_way
    (subst (λ n. nth_call c.args.parts.now.scenario c.args.task n ≡ None) (ap (λ (x : Working). x.begun) c.at.ensures) (sym c.in-None.ensures))

pub returns-clause-word : goal.returns-clause-word
returns-clause-word c =
    said_open c.args.parts.now c.args.task c.in-Some.call.now c.read_call.result c.requires.under_way
    (subst (λ n. nth_call c.args.parts.now.scenario c.args.task n ≡ Some c.in-Some.call.now) (ap (λ (x : Working). x.begun) c.at.ensures) (sym c.in-Some.ensures))
    c.read_call.ensures
