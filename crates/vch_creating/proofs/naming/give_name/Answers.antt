use Rattle.std.proofs.Common.{◌∙◌, sym, ap, refl}
use Rattle.vch_parts.specs.declared.frames.Working.{Working}
use Rattle.vch_parts.proofs.CallerLemmas.{desk_inside}
use Rattle.vch_creating.proofs.placed.CreatePlaces.{few_lets, place_room, placed_follows}
use Rattle.vch_creating.proofs.naming.give_name.Goals as goal

pub name-requires : goal.name-requires
name-requires c = record { task = desk_inside c.args.parts.now c.args.task c.requires.reached c.requires.task }

pub end_create-requires : goal.end_create-requires
end_create-requires c = few_lets c.args.parts.now c.args.task c.requires.reached c.requires.task c.requires.next c.requires.call c.in-Some.frame (sym c.take.ensures.frame ∙ c.in-Some.is)

pub push-requires : goal.push-requires
push-requires c = place_room c.args.parts.now c.args.task c.requires.reached c.requires.task c.requires.next c.requires.call

pub returns-clause-ok : goal.returns-clause-ok
returns-clause-ok c = placed_follows c.args.parts.now c.args.task c.requires.reached c.requires.task c.requires.next c.requires.call
    c.in-Some.frame c.args.voucher.now (sym c.take.ensures.frame ∙ c.in-Some.is) c.requires.forming c.know.ensures.apart
    c.name.new.self c.in_ok-given.ensures.given c.in_ok-given.given.name c.in_ok-given.ensures.name c.in_ok-given.given.was_known c.in_ok-given.ensures.known
    c.end_create.new.frame c.end_create.ensures c.put.new.self (c.put.ensures ∙ rw (c.take.ensures.gone, c.closed.ensures) refl)
    c.push.new.self c.at.result.now.begun (ap (λ (w : Working). w.begun) c.at.ensures) c.push.ensures.entries c.push.ensures.spare
