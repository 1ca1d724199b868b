use Rattle.std.proofs.Common.{◌≡◌, ◌++◌, drop}
use Rattle.vch_plain.specs.Counted as counted
use Rattle.vch_plain.proofs.reply.different.push_names.Given as goal

abbrev pub invariant-loop-named : goal.invariant-loop-named
invariant-loop-named l = l.out.items ++ counted.name_handles (drop l.named-index l.names) ≡ l.initial.out.items ++ counted.name_handles l.names
