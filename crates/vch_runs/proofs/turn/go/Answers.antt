use Rattle.std.proofs.Common.{subst, sym}
use Rattle.vch_runs.specs.Turning.{CanGo, Goes}
use Rattle.vch_runs.proofs.Going.{goes_event, phase_goes}
use Rattle.vch_runs.proofs.turn.go.Goals as goal

pub returns-in-Some : goal.returns-in-Some
returns-in-Some c =
    subst (λ choice. Goes choice c.args.core.now c.event.new.core) (sym c.in-Some.is) (goes_event c.in-Some.task c.event.result c.args.core.now c.event.new.core c.event.ensures)

pub returns-in-None : goal.returns-in-None
returns-in-None c =
    subst (λ choice. Goes choice c.args.core.now c.next_phase.new.self) (sym c.in-None.is)
    (phase_goes c.args.core.now c.next_phase.new.self c.next_phase.result c.know.ensures (subst (CanGo c.args.core.now) c.in-None.is c.requires.can) c.next_phase.ensures.exact c.next_phase.ensures.ends)
