use Rattle.std.proofs.Common.{Ok, ap, arith, ◌∙◌}
use Rattle.vch_intern.proofs.CallerLemmas.{played, played_value}
use Rattle.vch_importance.proofs.tests.ask.Goals as goal

pub returns-then-handle-lt8-clause-played : goal.returns-then-handle-lt8-clause-played
returns-then-handle-lt8-clause-played g c =
    played_value _ _ c.args.tally.now.commands c.args.tally.now.counts c.know.ensures (omega (arith, c.if-tally-ge65535.false)) c.requires.played _ c.get-answer.result c.in-Value.handle 1 c.in-Value.fresh c.in-Value.persist c.get-answer.ensures (c.in-Ok.is ∙ ap (λ x. Ok x) c.in-Value.is)

pub returns-else-handle-lt8-clause-played : goal.returns-else-handle-lt8-clause-played
returns-else-handle-lt8-clause-played g c =
    played _ _ c.args.tally.now.commands c.args.tally.now.counts c.know.ensures (omega (arith, c.if-tally-ge65535.false)) c.requires.played _ c.get-answer.result c.get-answer.ensures
