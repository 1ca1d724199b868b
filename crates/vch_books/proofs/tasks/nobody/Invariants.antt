use Rattle.std.proofs.Common.{◌≡◌, replicate}
use Rattle.vch_books.specs.Desks.{empty_desk}
use Rattle.vch_books.proofs.tasks.nobody.Given as goal

abbrev pub invariant-loop-i : goal.invariant-loop-i
invariant-loop-i l = l.members.items ≡ replicate l._i empty_desk
