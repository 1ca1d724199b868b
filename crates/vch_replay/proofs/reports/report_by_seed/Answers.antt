use Rattle.vch_replay.proofs.Played.{seed_made}
use Rattle.vch_replay.proofs.reports.report_by_seed.Goals as goal

pub returns-clause-ran : goal.returns-clause-ran
returns-clause-ran c = seed_made c.args.seed c.args.scenario c.in_ok-core.core c.drive_seed.new.core c.report_of.result c.in_ok-core.ensures.scenario c.in_ok-core.ensures.stands c.drive_seed.ensures.ends c.report_of.ensures.tells
