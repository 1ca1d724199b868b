use Rattle.std.proofs.Common.{◌≡◌, take}
use Rattle.vch_plain.proofs.Starting.{idles}
use Rattle.vch_plain.proofs.play.start_tasks.Given as goal

abbrev pub invariant-loop-task : goal.invariant-loop-task
invariant-loop-task l = l.tasks.items ≡ idles (take l._task l.flags)
