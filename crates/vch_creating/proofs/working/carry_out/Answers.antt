use Rattle.std.proofs.Common.{◌∙◌, sym, refl, subst}
use Rattle.vch_moves.specs.Works.{ChangesEach}
use Rattle.vch_parts.proofs.CallerLemmas.{task_inside}
use Rattle.vch_creating.specs.Carried.{becoming, keys_of}
use Rattle.vch_creating.proofs.forming.Follows.{may_change, work_follows}
use Rattle.vch_creating.proofs.forming.Next.{bytes_of, few_lets, has_frame, has_voucher, is_keyed}
use Rattle.vch_creating.proofs.working.carry_out.Goals as goal

pub take-requires : goal.take-requires
take-requires c = record { task = task_inside c.args.parts.now c.args.task c.requires.reached c.requires.task }

pub returns-in_default : goal.returns-in_default
returns-in_default c = bytes_of _ _ c.requires.call (λ bytes there. absurd (has_frame c.args.parts.now c.args.task c.requires.reached c.requires.task c.requires.next bytes there (sym c.take.ensures.frame ∙ c.in_default.is)))

pub returns-in_default-take : goal.returns-in_default-take
returns-in_default-take c = bytes_of _ _ c.requires.call (λ bytes there. absurd (has_voucher c.args.parts.now c.args.task c.requires.reached c.requires.task c.requires.next bytes there c.in-Some.frame
    (sym c.take.ensures.frame ∙ c.in-Some.is) (sym c.take-2.ensures.value ∙ c.in_default-take.is)))

pub change_map-requires-clause-shares : goal.change_map-requires-clause-shares
change_map-requires-clause-shares c = bytes_of _ _ c.requires.call (λ bytes there. may_change c.args.parts.now c.args.task c.requires.reached c.requires.task c.requires.next bytes there c.know.ensures.apart c.args.deed.change c.args.deed.next c.requires.read)

pub change_map-requires-clause-keyed : goal.change_map-requires-clause-keyed
change_map-requires-clause-keyed c = bytes_of _ _ c.requires.call (λ bytes there. is_keyed c.args.parts.now c.args.task c.requires.reached c.requires.task c.requires.next bytes there c.in-Some.frame c.in-Some-take.map
    (sym c.take.ensures.frame ∙ c.in-Some.is) (sym c.take-2.ensures.value ∙ c.in-Some-take.is))

pub change_map-requires-clause-room : goal.change_map-requires-clause-room
change_map-requires-clause-room c = bytes_of _ _ c.requires.call (λ bytes there. few_lets c.args.parts.now c.args.task c.requires.reached c.requires.task c.requires.next bytes there c.in-Some.frame (sym c.take.ensures.frame ∙ c.in-Some.is))

pub returns : goal.returns
returns c = bytes_of _ _ c.requires.call (λ bytes there. work_follows c.args.parts.now c.args.task c.requires.reached c.requires.task c.requires.next bytes there c.in-Some.frame c.in-Some-take.map
    (sym c.take.ensures.frame ∙ c.in-Some.is) (sym c.take-2.ensures.value ∙ c.in-Some-take.is) c.know.ensures.apart c.args.deed.change c.args.deed.next c.requires.read
    c.change_map.new.values c.change_map.new.map c.change_map.new.lets c.put.new.self
    (subst (λ version. ChangesEach (becoming c.args.deed.change) (keys_of version c.args.deed.change) (record { keyed = c.args.parts.now.values; map = c.in-Some-take.map; lets = c.in-Some.frame.lets }) (record { keyed = c.change_map.new.values; map = c.change_map.new.map; lets = c.change_map.new.lets })) c.version.ensures.version c.change_map.ensures)
    (c.put.ensures ∙ rw c.take.ensures.gone refl))
