use Rattle.std.proofs.Common.{◌≡◌, ◌++◌, take}
use Rattle.vch_intern.proofs.tag.push_tasks.Given as goal

-- the tasks before the place are appended
abbrev pub invariant-loop-i : goal.invariant-loop-i
invariant-loop-i l = l.words.items ≡ l.initial.words.items ++ take l.i l.list
