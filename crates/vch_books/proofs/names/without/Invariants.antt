use Rattle.std.proofs.Common.{◌≡◌, ◌++◌, drop, take}
use Rattle.vch_books.specs.Desks as desks
use Rattle.vch_books.proofs.names.without.Given as goal

abbrev pub invariant-loop-i : goal.invariant-loop-i
invariant-loop-i l = record {
  same : l.names.items ≡ l.initial.names.items;
  gone : desks.numbers_at (drop l.i l.names.items) l.name ≡ desks.numbers_at l.initial.names.items l.name;
  rest : take l.i l.names.items ++ desks.without_name (drop l.i l.names.items) l.name ≡ desks.without_name l.names.items l.name;
}
