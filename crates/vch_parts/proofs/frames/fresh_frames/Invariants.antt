use Rattle.std.proofs.Common.{◌≡◌}
use Rattle.vch_parts.specs.Framed.{all_resting}
use Rattle.vch_parts.proofs.frames.fresh_frames.Given as goal

abbrev pub invariant-loop-i : goal.invariant-loop-i
invariant-loop-i l = l.made ≡ all_resting l._i
