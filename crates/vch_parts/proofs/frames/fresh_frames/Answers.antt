use Rattle.std.proofs.Common.{◌∙◌, ◌++◌, ◌∷◌, [], ap}
use Rattle.vch_parts.specs.Framed.{resting}
use Rattle.vch_parts.proofs.framing.Put.{resting_next}
use Rattle.vch_parts.proofs.frames.fresh_frames.Goals as goal

pub loop-i-preserved : goal.loop-i-preserved
loop-i-preserved c = c.in_ok-push.ensures.ok ∙ ap (λ xs. xs ++ resting ∷ []) c.loop-i.invariant ∙ resting_next c.loop-i._i
