use Rattle.vch_replay.proofs.Played.{seed_text}
use Rattle.vch_replay.proofs.play.seed_text.Goals as goal

pub returns : goal.returns
returns c = seed_text c.args.seed c.args.scenario c.in_ok-report.report c.write.result c.in_ok-report.ensures.ran c.write.ensures
