use Rattle.std.proofs.Common.{◌≡◌, ◌++◌, drop}
use Rattle.vch_plain.specs.Counted as counted
use Rattle.vch_plain.proofs.reply.different.push_queue.Given as goal

abbrev pub invariant-loop-message : goal.invariant-loop-message
invariant-loop-message l = l.out.items ++ counted.queue_handles (drop l.message-index l.queue) ≡ l.initial.out.items ++ counted.queue_handles l.queue
