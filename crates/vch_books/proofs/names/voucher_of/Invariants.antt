use Rattle.std.proofs.Common.{◌≡◌, drop}
use Rattle.vch_books.specs.Desks.{numbers_at}
use Rattle.vch_books.proofs.names.voucher_of.Given as goal

abbrev pub invariant-loop-i : goal.invariant-loop-i
invariant-loop-i l = numbers_at (drop l.i l.names.items) l.name ≡ numbers_at l.names.items l.name
