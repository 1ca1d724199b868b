use Rattle.std.proofs.Common.{◌≡◌, ◌+◌}
use Rattle.vouch_drill.specs.Counts.{HasMade}
use Rattle.vouch_drill.proofs.made.make_all.Given as goal

abbrev pub invariant-loop-round : goal.invariant-loop-round
invariant-loop-round g l = HasMade l.row l.round l.maker.seat l.maker.dead × (l.maker.seat.room + l.round ≡ l.rounds)
