use Rattle.std.proofs.Common.{◌≡◌, ◌++◌, take}
use Rattle.vch_scenario.proofs.wholes.Texts.{tasks_text}
use Rattle.vch_scenario.proofs.writer.push_tasks.Given as goal

abbrev pub invariant-loop-i : goal.invariant-loop-i
invariant-loop-i l = l.out.items ≡ l.initial.out.items ++ tasks_text 1 (take l.i l.flags) l.queues
