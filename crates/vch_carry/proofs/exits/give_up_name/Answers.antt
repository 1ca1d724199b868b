use Rattle.std.proofs.Common.{◌∙◌, sym, refl}
use Rattle.vch_parts.proofs.CallerLemmas.{task_inside}
use Rattle.vch_carry.proofs.glue.Open.{no_frame, few_lets, put_range}
use Rattle.vch_carry.proofs.leaving.ExitWorks.{gone_room, gone_follows}
use Rattle.vch_base.specs.declared.kind.Kind.TheVariants as kinds
use Rattle.vch_carry.proofs.exits.give_up_name.Goals as goal

pub take-requires : goal.take-requires
take-requires c = record { task = task_inside c.args.parts.now c.args.task c.requires.reached c.requires.task }

pub returns-in_default : goal.returns-in_default
returns-in_default c = absurd (no_frame c.args.parts.now c.args.task kinds.Work tt c.requires.reached c.requires.task c.requires.next (sym c.take.ensures.frame ∙ c.in_default.is))

pub push_voucher-requires : goal.push_voucher-requires
push_voucher-requires c = few_lets c.args.parts.now c.args.task kinds.Work tt c.requires.reached c.requires.task c.requires.next c.in-Some.frame (sym c.take.ensures.frame ∙ c.in-Some.is)

pub push-requires : goal.push-requires
push-requires c = gone_room c.args.parts.now c.args.task c.requires.reached c.requires.task c.requires.next c.requires.call c.in-Some.frame (sym c.take.ensures.frame ∙ c.in-Some.is) c.args.name c.requires.name

pub put-requires : goal.put-requires
put-requires c = record { task = put_range c.args.parts.now c.args.task c.requires.reached c.requires.task c.take.new.self c.take.ensures.many }

pub returns : goal.returns
returns c = gone_follows c.args.parts.now c.args.task c.requires.reached c.requires.task c.requires.next c.requires.call c.in-Some.frame (sym c.take.ensures.frame ∙ c.in-Some.is) c.args.name c.requires.name
    c.know.ensures.apart c.remove_name-orphan.new.self c.remove_name-orphan.ensures.names c.remove_name-orphan.result c.remove_name-orphan.ensures.orphan c.push_voucher.new.lets c.push_voucher.ensures
    c.put.new.self (c.put.ensures ∙ rw c.take.ensures.gone refl) c.push.new.self c.push.ensures.entries c.push.ensures.spare
