use Rattle.std.proofs.Common.{◌≡◌, replicate}
use Rattle.vch_generate.specs.Generated.{both}
use Rattle.vch_generate.proofs.generator.tasks.Given as goal

abbrev pub invariant-loop-task : goal.invariant-loop-task
invariant-loop-task l = (l.flags ≡ replicate l._task both) × (l.queues ≡ replicate l._task 5)
