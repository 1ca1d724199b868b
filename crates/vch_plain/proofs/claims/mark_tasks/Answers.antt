use Rattle.std.proofs.Common.{◌≡◌, length, ap, ◌∙◌, arith, rules}
use Rattle.vch_machine.specs.Making as making
use Rattle.vch_plain.specs.Marks as marks
use Rattle.vch_plain.proofs.MarkedTasks.{marked_next, marked_all, marked_long}
use Rattle.vch_plain.proofs.claims.mark_tasks.Goals as goal

pub loop-i-preserved : goal.loop-i-preserved
loop-i-preserved c =
    marked_next (making.on_task (marks.marked c.args.mark c.args.place.now)) c.args.tasks.now.items c.loop-i.tasks.items c.loop-i.i c.index_mut.result.now c.mark_task.new.task
    (search rules) c.loop-i.invariant c.index_mut.ensures.value c.mark_task.ensures

pub returns : goal.returns
returns c =
    c.loop-i.invariant ∙ marked_all (making.on_task (marks.marked c.args.mark c.args.place.now)) c.args.tasks.now.items c.loop-i.i
    (let a : length c.loop-i.tasks.items ≡ length c.args.tasks.now.items = ap length c.loop-i.invariant ∙ marked_long (making.on_task (marks.marked c.args.mark c.args.place.now)) c.args.tasks.now.items c.loop-i.i in omega (arith, a))
