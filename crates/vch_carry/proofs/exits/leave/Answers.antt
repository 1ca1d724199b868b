use Rattle.std.proofs.Common.{◌∙◌, sym, refl, ap}
use Rattle.vch_base.specs.declared.kind.Kind.TheVariants as kinds
use Rattle.vch_parts.specs.declared.frames.Working.{Working}
use Rattle.vch_parts.proofs.CallerLemmas.{task_inside}
use Rattle.vch_carry.proofs.glue.Open.{no_frame, put_range}
use Rattle.vch_carry.proofs.leaving.ExitWorks.{left_room, left_follows}
use Rattle.vch_carry.proofs.exits.leave.Goals as goal

pub at-requires : goal.at-requires
at-requires c = record { task = task_inside c.args.parts.now c.args.task c.requires.reached c.requires.task }

pub take-requires : goal.take-requires
take-requires c = record { task = task_inside c.args.parts.now c.args.task c.requires.reached c.requires.task }

pub returns-in_default : goal.returns-in_default
returns-in_default c = absurd (no_frame c.args.parts.now c.args.task kinds.Work tt c.requires.reached c.requires.task c.requires.next (sym c.take.ensures.frame ∙ c.in_default.is))

pub push-requires : goal.push-requires
push-requires c = left_room c.args.parts.now c.args.task c.requires.reached c.requires.task c.requires.next c.requires.call c.in-Some.frame (sym c.take.ensures.frame ∙ c.in-Some.is) c.requires.nameless c.requires.empty

pub put-requires : goal.put-requires
put-requires c = record { task = put_range c.args.parts.now c.args.task c.requires.reached c.requires.task c.take.new.self c.take.ensures.many }

pub returns : goal.returns
returns c = left_follows c.args.parts.now c.args.task c.requires.reached c.requires.task c.requires.next c.requires.call c.in-Some.frame (sym c.take.ensures.frame ∙ c.in-Some.is) c.requires.nameless c.requires.empty
    c.put.new.self (c.put.ensures ∙ rw (c.take.ensures.gone, c.closed.ensures) refl) c.push.new.self c.at.result.now.begun (ap (λ (w : Working). w.begun) c.at.ensures) c.push.ensures.entries c.push.ensures.spare
