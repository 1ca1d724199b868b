use Rattle.std.proofs.Common.{◌∙◌, sym, refl, ap}
use Rattle.vch_base.specs.declared.kind.Kind.TheVariants as kinds
use Rattle.vch_parts.specs.declared.frames.Working.{Working}
use Rattle.vch_parts.proofs.CallerLemmas.{task_inside, desk_inside}
use Rattle.vch_carry.specs.Carried.{forming_in}
use Rattle.vch_carry.proofs.glue.Open.{framed, no_lets_many, put_range}
use Rattle.vch_carry.proofs.placed.Received.{recv_room, taken_there, inside_named, received_follows}
use Rattle.vch_carry.proofs.placing.receive.Goals as goal

pub name-requires : goal.name-requires
name-requires c = record { task = desk_inside c.args.parts.now c.args.task c.requires.reached c.requires.task }

pub at-requires : goal.at-requires
at-requires c = record { task = task_inside c.args.parts.now c.args.task c.requires.reached c.requires.task }

pub take_first-requires : goal.take_first-requires
take_first-requires c = framed c.args.parts.now c.args.task kinds.Place tt c.requires.reached c.requires.task c.requires.next _ (λ f own.
    record { task = inside_named c.args.parts.now c.args.task c.requires.reached c.requires.task c.requires.next c.requires.call f own c.args.voucher.now c.name.new.self c.in_ok-given.ensures.given })

pub returns-in_default-clause-ok : goal.returns-in_default-clause-ok
returns-in_default-clause-ok c = framed c.args.parts.now c.args.task kinds.Place tt c.requires.reached c.requires.task c.requires.next _ (λ f own.
    absurd (taken_there c.args.parts.now c.args.task c.requires.reached c.requires.task c.requires.next c.requires.call f own c.args.voucher.now c.name.new.self c.in_ok-given.ensures.given c.take_first.new.self
    (sym c.in_default.is ∙ c.take_first.ensures.taken)))

pub take-requires : goal.take-requires
take-requires c = record { task = task_inside c.args.parts.now c.args.task c.requires.reached c.requires.task }

pub end_placed-requires : goal.end_placed-requires
end_placed-requires c = no_lets_many c.args.parts.now c.args.task kinds.Place tt c.requires.reached c.requires.task c.requires.next c.in-Some-take.frame (sym c.take.ensures.frame ∙ c.in-Some-take.is)

pub push-requires : goal.push-requires
push-requires c = recv_room c.args.parts.now c.args.task c.requires.reached c.requires.task c.requires.next c.requires.call c.in-Some-take.frame (sym c.take.ensures.frame ∙ c.in-Some-take.is)

pub put-requires : goal.put-requires
put-requires c = record { task = put_range c.args.parts.now c.args.task c.requires.reached c.requires.task c.take.new.self c.take.ensures.many }

pub returns-clause-ok : goal.returns-clause-ok
returns-clause-ok c = received_follows c.args.parts.now c.args.task c.requires.reached c.requires.task c.requires.next c.requires.call c.in-Some-take.frame (sym c.take.ensures.frame ∙ c.in-Some-take.is)
    c.args.voucher.now (ap forming_in (sym c.in-Some-take.is ∙ c.take.ensures.frame) ∙ c.requires.forming) c.know.ensures.apart c.name.new.self c.in_ok-given.ensures.given
    c.in_ok-given.given.name c.in_ok-given.ensures.name c.in_ok-given.given.was_known c.in_ok-given.ensures.known
    c.take_first.new.self c.take_first.ensures.queue c.in-Some.taken (sym c.in-Some.is ∙ c.take_first.ensures.taken)
    c.end_placed.new.frame c.end_placed.ensures c.put.new.self (c.put.ensures ∙ rw (c.take.ensures.gone, c.closed.ensures) refl)
    c.push.new.self c.at.result.now.begun (ap (λ (w : Working). w.begun) c.at.ensures) c.push.ensures.entries c.push.ensures.spare
