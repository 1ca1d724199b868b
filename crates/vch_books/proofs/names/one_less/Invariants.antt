use Rattle.std.proofs.Common.{◌≡◌, ◌++◌, drop, take}
use Rattle.vch_books.specs.Desks as desks
use Rattle.vch_books.proofs.names.one_less.Given as goal

abbrev pub invariant-loop-i : goal.invariant-loop-i
invariant-loop-i l = record {
  same : l.names.items ≡ l.initial.names.items;
  gone : desks.gone_with (drop l.i l.names.items) l.name ≡ desks.gone_with l.initial.names.items l.name;
  rest : take l.i l.names.items ++ desks.one_less (drop l.i l.names.items) l.name ≡ desks.one_less l.names.items l.name;
}
