use Rattle.vch_scenario.proofs.CallerLemmas.{scenario_writable}
use Rattle.vch_replay.proofs.play.answer.Goals as goal

pub report_text-requires : goal.report_text-requires
report_text-requires c = scenario_writable c.args.input.now c.in-Ok.scenario c.in-Ok.ensures.found
