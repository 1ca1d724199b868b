use Rattle.std.proofs.Common.{◌≡◌, length, true, arith, sym, ap, ◌∙◌}
use Rattle.std.specs.Prelude.{is_some}
use Rattle.vch_machine.specs.State.{Tasked, tasked}
use Rattle.vch_plain.proofs.Lowest.{lowest_found, lowest_none}
use Rattle.vch_plain.proofs.turn.lowest_open.Goals as goal

pub returns-then-is_some : goal.returns-then-is_some
returns-then-is_some c =
    let n = c.len.ensures in
    let a = c.loop-task.auto.task in
    let b = c.loop-task-test.true in
    let f : is_some (tasked c.args.machine.now c.loop-task.task).frame ≡ true =
    ap (λ (x : Tasked). is_some x.frame) (sym (c.behind-machine.view_is ∙ c.task.ensures)) ∙ sym c.is_some.ensures ∙ c.if-is_some.true in
    lowest_found c.args.machine.now (length c.args.scenario.now.flags) c.loop-task.task (omega (arith, a)) (omega (arith, n, b)) c.loop-task.invariant f

pub returns : goal.returns
returns c =
    let n = c.len.ensures in
    let b = c.loop-task-test.false in
    lowest_none c.args.machine.now (length c.args.scenario.now.flags) c.loop-task.task (omega (arith, n, b)) c.loop-task.invariant
