use Rattle.vch_replay.proofs.Played.{turn_made}
use Rattle.vch_replay.proofs.reports.report_in_turn.Goals as goal

pub returns-clause-ran : goal.returns-clause-ran
returns-clause-ran c = turn_made c.args.scenario c.in_ok-core.core c.finish.new.core c.report_of.result c.in_ok-core.ensures.scenario c.in_ok-core.ensures.stands c.finish.ensures.ends c.report_of.ensures.tells
