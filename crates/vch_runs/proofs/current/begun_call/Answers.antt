use Rattle.std.proofs.Common.{◌≡◌, ◌+◌, sym, ap, subst, arith, Some, None}
use Rattle.vch_machine.specs.Next.{nth_call}
use Rattle.vch_parts.specs.declared.frames.Working.{Working}
use Rattle.vch_parts.proofs.CallerLemmas.{task_inside}
use Rattle.vch_runs.proofs.Framed.{is_true}
use Rattle.vch_runs.proofs.Calling.{begins_at, number_fits, call_there}
use Rattle.vch_runs.proofs.OwnCalls.{said_begun}
use Rattle.vch_runs.proofs.current.begun_call.Goals as goal

pub at-requires : goal.at-requires
at-requires c = let n = task_inside c.args.parts.now c.args.task c.requires.reached (is_true _ c.requires.task) in record { task = (n.0, n.1) }

pub overflow_add-number : goal.overflow_add-number
overflow_add-number c =
    let a = ap (λ (x : Working). x.begun) c.at.ensures in
    let b = number_fits c.args.parts.now c.args.task c.requires.reached (begins_at c.args.parts.now c.args.task c.requires.reached (is_true _ c.requires.task) c.requires.next) in
    omega (arith, a, b)

pub unreachable-requires : goal.unreachable-requires
unreachable-requires c =
    call_there c.args.parts.now c.args.task (begins_at c.args.parts.now c.args.task c.requires.reached (is_true _ c.requires.task) c.requires.next)
    (subst (λ n. nth_call c.args.parts.now.scenario c.args.task (n + 1) ≡ None) (ap (λ (x : Working). x.begun) c.at.ensures) (sym c.in-None.ensures))

pub returns-clause-free : goal.returns-clause-free
returns-clause-free c = (begins_at c.args.parts.now c.args.task c.requires.reached (is_true _ c.requires.task) c.requires.next).free

pub returns-clause-waits : goal.returns-clause-waits
returns-clause-waits c = (begins_at c.args.parts.now c.args.task c.requires.reached (is_true _ c.requires.task) c.requires.next).line

pub returns-clause-word : goal.returns-clause-word
returns-clause-word c =
    said_begun c.args.parts.now c.args.task c.in-Some.call.now c.read_call.result
    (begins_at c.args.parts.now c.args.task c.requires.reached (is_true _ c.requires.task) c.requires.next).free
    (subst (λ n. nth_call c.args.parts.now.scenario c.args.task (n + 1) ≡ Some c.in-Some.call.now) (ap (λ (x : Working). x.begun) c.at.ensures) (sym c.in-Some.ensures))
    c.read_call.ensures
