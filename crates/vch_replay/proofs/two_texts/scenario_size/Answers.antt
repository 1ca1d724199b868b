use Rattle.std.proofs.Common.{sym, ◌∙◌}
use Rattle.vch_replay.proofs.TwoTexts.{sought_end, sought_next}
use Rattle.vch_replay.proofs.two_texts.scenario_size.Goals as goal

pub returns-then-is_word-clause-size : goal.returns-then-is_word-clause-size
returns-then-is_word-clause-size c =
    sym (sought_end c.args.input.now c.loop-line.rest.now c.in-Some.line.now c.in-Some.more.now c.loop-line.invariant c.in-Some.ensures.found (sym c.is_word.ensures ∙ c.if-is_word.true))

pub loop-line-preserved : goal.loop-line-preserved
loop-line-preserved c =
    sought_next c.args.input.now c.loop-line.rest.now c.in-Some.line.now c.in-Some.more.now c.loop-line.invariant c.in-Some.ensures.found (sym c.is_word.ensures ∙ c.if-is_word.false)
