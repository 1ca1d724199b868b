use Rattle.vch_replay.proofs.Played.{turn_text}
use Rattle.vch_replay.proofs.play.turn_text.Goals as goal

pub returns : goal.returns
returns c = turn_text c.args.scenario c.in_ok-report.report c.write.result c.in_ok-report.ensures.ran c.write.ensures
