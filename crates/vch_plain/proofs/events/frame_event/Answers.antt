use Rattle.std.proofs.Common.{◌≡◌, sym, subst, Some}
use Rattle.std.specs.Prelude.{IsSome}
use Rattle.vch_machine.specs.Next.{current}
use Rattle.vch_plain.proofs.Acting.{task_there, number_within, have_limits, all_have, sends_to, of_call}
use Rattle.vch_plain.proofs.events.frame_event.Goals as goal

pub call_event-requires : goal.call_event-requires
call_event-requires c =
    let sc = c.args.scenario.now in
    let m = c.args.machine.now in
    let now : current sc m c.args.task ≡ Some c.in-Some.call.now = sym c.in-Some.ensures in
    record {
      limited = c.requires.limited;
      task = task_there sc m c.requires.ties c.args.task c.requires.own;
      flags = number_within sc c.args.task c.requires.own;
      limits = have_limits sc m c.requires.ties c.requires.limited;
      have = all_have sc m c.requires.ties;
      sends = sends_to sc m c.requires.ties c.args.task c.args.frame c.in-Some.call.now c.requires.own c.requires.frame now;
      can = subst IsSome (of_call sc m c.args.task c.args.frame c.in-Some.call.now c.args.kind now c.in_default.not-LetGo c.in_default.not-Ask c.in_default.not-Recheck) c.requires.can;
    }
