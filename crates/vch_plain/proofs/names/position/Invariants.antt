use Rattle.vch_plain.proofs.NamePlaces.{Searched}
use Rattle.vch_plain.proofs.names.position.Given as goal

abbrev pub invariant-loop-i : goal.invariant-loop-i
invariant-loop-i l = Searched l.names l.name l.i
