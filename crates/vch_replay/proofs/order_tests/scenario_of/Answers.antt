use Rattle.vch_scenario.proofs.CallerLemmas.{scenario_writable}
use Rattle.vch_replay.proofs.order_tests.scenario_of.Goals as goal

pub returns-in-Ok : goal.returns-in-Ok
returns-in-Ok c = scenario_writable c.args.bytes.now c.in-Ok.scenario c.in-Ok.ensures.found
