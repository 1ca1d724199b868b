use Rattle.vch_runs.proofs.Framed.{same_kind, not_ended}
use Rattle.vch_runs.proofs.Going.{has_next}
use Rattle.std.proofs.Common.{length}
use Rattle.vch_runs.proofs.stepped.step.Goals as goal

pub event-did-requires-clause-next : goal.event-did-requires-clause-next
event-did-requires-clause-next c = has_next c.args.core.now c.args.task c.in-Some._kind c.in-Some.ensures

pub returns : goal.returns
returns c = (
  not_ended (length c.args.core.now.scenario.phases) c.args.core.now.phase c.ended.result c.ended.ensures c.if-ended.false,
  same_kind c.args.core.now c.event-did.new.core c.args.task c.in-Some._kind c.event-did.result c.know.ensures c.in-Some.ensures c.event-did.ensures,
  c.event-did.ensures,
  c.frame_next-next.ensures,
)
