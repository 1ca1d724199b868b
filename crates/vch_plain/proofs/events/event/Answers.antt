use Rattle.std.proofs.Common.{◌≡◌, sym, ◌∙◌, subst, Some, None, rules}
use Rattle.std.specs.Prelude.{IsSome}
use Rattle.vch_machine.specs.State.{tasked}
use Rattle.vch_plain.proofs.Acting.{framed, begins, no_event}
use Rattle.vch_plain.proofs.Outcomes.{on_ok}
use Rattle.vch_plain.proofs.events.event.Goals as goal

pub unreachable-requires : goal.unreachable-requires
unreachable-requires c = no_event c.args.scenario.now c.args.machine.now c.args.task c.requires.own (sym c.next_kind.ensures ∙ c.in_default.is) c.requires.can

pub frame_event-requires-clause-can : goal.frame_event-requires-clause-can
frame_event-requires-clause-can c =
    let frame : (tasked c.args.machine.now c.args.task).frame ≡ Some c.in_ok-copy-in-Some-frame.copy = search rules in
    subst IsSome (framed c.args.scenario.now c.args.machine.now c.args.task c.in_ok-copy-in-Some-frame.copy c.in-Some.kind c.requires.own (sym c.in-Some.ensures) frame) c.requires.can

pub do_begin-requires-clause-can : goal.do_begin-requires-clause-can
do_begin-requires-clause-can c =
    let frame : (tasked c.args.machine.now c.args.task).frame ≡ None = search rules in
    subst IsSome (begins c.args.scenario.now c.args.machine.now c.args.task c.in-Some.kind c.requires.own (sym c.in-Some.ensures) frame) c.requires.can

pub returns-in_ok-copy-in-Some-frame : goal.returns-in_ok-copy-in-Some-frame
returns-in_ok-copy-in-Some-frame c =
    let frame : (tasked c.args.machine.now c.args.task).frame ≡ Some c.in_ok-copy-in-Some-frame.copy = search rules in
    on_ok c.frame_event.result c.frame_event.ensures (λ e. framed c.args.scenario.now c.args.machine.now c.args.task c.in_ok-copy-in-Some-frame.copy c.in-Some.kind c.requires.own (sym c.in-Some.ensures) frame ∙ e)

pub returns-in-None : goal.returns-in-None
returns-in-None c =
    let frame : (tasked c.args.machine.now c.args.task).frame ≡ None = search rules in
    on_ok c.do_begin.result c.do_begin.ensures (λ e. begins c.args.scenario.now c.args.machine.now c.args.task c.in-Some.kind c.requires.own (sym c.in-Some.ensures) frame ∙ e)
