use Rattle.std.proofs.Common.{◌∙◌, sym, refl, ap}
use Rattle.vch_base.specs.declared.kind.Kind.TheVariants as kinds
use Rattle.vch_parts.specs.declared.frames.Working.{Working}
use Rattle.vch_parts.proofs.CallerLemmas.{task_inside}
use Rattle.vch_carry.specs.Carried.{forming_in}
use Rattle.vch_carry.proofs.glue.Open.{framed, no_lets_many, put_range}
use Rattle.vch_carry.proofs.placed.Sent.{to_inside, send_room, inside1, sent_follows}
use Rattle.vch_carry.proofs.delivering.deliver.Goals as goal

pub send-requires-clause-task : goal.send-requires-clause-task
send-requires-clause-task c = framed c.args.parts.now c.args.task kinds.Place tt c.requires.reached c.requires.task c.requires.next _ (λ f own.
    to_inside c.args.parts.now c.args.task c.requires.reached c.requires.task c.requires.next c.args.sending.to c.args.sending.moving c.args.sending.name c.args.sending.id c.requires.call f own)

pub move_name-orphan-requires : goal.move_name-orphan-requires
move_name-orphan-requires c = framed c.args.parts.now c.args.task kinds.Place tt c.requires.reached c.requires.task c.requires.next _ (λ f own.
    record {
      task = inside1 c.args.parts.now c.args.task c.requires.reached c.requires.task c.requires.next c.args.sending.to c.args.sending.moving c.args.sending.name c.args.sending.id c.requires.call f own
          c.know-2.ensures c.requires.room c.args.voucher.now c.send.new.self c.in_ok-known.ensures.queued;
    })

pub at-requires : goal.at-requires
at-requires c = record { task = task_inside c.args.parts.now c.args.task c.requires.reached c.requires.task }

pub take-requires : goal.take-requires
take-requires c = record { task = task_inside c.args.parts.now c.args.task c.requires.reached c.requires.task }

pub end_placed-requires : goal.end_placed-requires
end_placed-requires c = no_lets_many c.args.parts.now c.args.task kinds.Place tt c.requires.reached c.requires.task c.requires.next c.in-Some.frame (sym c.take.ensures.frame ∙ c.in-Some.is)

pub push-requires : goal.push-requires
push-requires c = send_room c.args.parts.now c.args.task c.requires.reached c.requires.task c.requires.next c.args.sending.to c.args.sending.moving c.args.sending.name c.args.sending.id c.requires.call
    c.in-Some.frame (sym c.take.ensures.frame ∙ c.in-Some.is) c.know-2.ensures c.requires.room

pub put-requires : goal.put-requires
put-requires c = record { task = put_range c.args.parts.now c.args.task c.requires.reached c.requires.task c.take.new.self c.take.ensures.many }

pub returns-clause-ok : goal.returns-clause-ok
returns-clause-ok c = sent_follows c.args.parts.now c.args.task c.requires.reached c.requires.task c.requires.next c.args.sending.to c.args.sending.moving c.args.sending.name c.args.sending.id c.requires.call
    c.in-Some.frame (sym c.take.ensures.frame ∙ c.in-Some.is) c.know-2.ensures c.requires.room c.args.voucher.now c.send.new.self c.in_ok-known.ensures.queued
    (ap forming_in (sym c.in-Some.is ∙ c.take.ensures.frame) ∙ c.requires.forming) c.know.ensures.apart c.in_ok-known.known c.in_ok-known.ensures.known
    c.move_name-orphan.new.vouchers c.move_name-orphan.ensures.names c.move_name-orphan.result c.move_name-orphan.ensures.orphan
    c.end_placed.new.frame c.end_placed.ensures c.put.new.self (c.put.ensures ∙ rw (c.take.ensures.gone, c.closed.ensures) refl)
    c.push.new.self c.at.result.now.begun (ap (λ (w : Working). w.begun) c.at.ensures) c.push.ensures.entries c.push.ensures.spare
