use Rattle.vch_plain.proofs.Answering.{is_other}
use Rattle.vch_plain.proofs.beginning.begin_call.Goals as goal

pub answer_other-requires-clause-other : goal.answer_other-requires-clause-other
answer_other-requires-clause-other c = is_other c.args.call.now c.in_default.not-Create c.in_default.not-GiveUp c.in_default.not-Send c.in_default.not-Recv c.in_default.not-Exit
