use Rattle.std.proofs.Common.{sym, ap, ◌∙◌, Some}
use Rattle.vch_plain.proofs.Leading.{phase_is, going_over}
use Rattle.vch_plain.proofs.run.end_phase.Goals as goal

pub returns-clause-moves : goal.returns-clause-moves
returns-clause-moves c = phase_is c.args.scenario.now c.args.run.now.machine c.requires.can ∙ ap Some (sym c.in_ok-note.ensures.state)

pub returns-clause-going : goal.returns-clause-going
returns-clause-going c =
    going_over c.args.scenario.now c.args.run.now c.note.new.self c.in_ok-run.field-0 c.requires.going
    (phase_is c.args.scenario.now c.args.run.now.machine c.requires.can ∙ ap Some (sym c.in_ok-note.ensures.state)) c.in_ok-note.ensures.state c.in_ok-run.ensures
