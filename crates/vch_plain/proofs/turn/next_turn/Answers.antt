use Rattle.vch_plain.proofs.Leading.{ties_of}
use Rattle.vch_plain.proofs.turn.next_turn.Goals as goal

pub lowest_open-requires-clause-many : goal.lowest_open-requires-clause-many
lowest_open-requires-clause-many c = (ties_of c.args.scenario.now c.args.run.now c.requires.going).fits.tasks
