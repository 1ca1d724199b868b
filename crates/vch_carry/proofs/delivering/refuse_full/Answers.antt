use Rattle.std.proofs.Common.{refl, false}
use Rattle.vch_base.specs.declared.codes.TheConstants.{MACH_SEND_TIMED_OUT}
use Rattle.vch_base.specs.declared.kind.Kind.TheVariants as kinds
use Rattle.vch_model.specs.declared.call.Call.TheVariants as calls
use Rattle.vch_carry.proofs.glue.Open.{framed}
use Rattle.vch_carry.proofs.placed.Placing.{idle_now, refused_follows}
use Rattle.vch_carry.proofs.placed.Sent.{full_room, refuses_full}
use Rattle.vch_carry.proofs.delivering.refuse_full.Goals as goal

pub refuse-requires-clause-idle : goal.refuse-requires-clause-idle
refuse-requires-clause-idle c = framed c.args.parts.now c.args.task kinds.Place tt c.requires.reached c.requires.task c.requires.next _ (λ f own.
    idle_now c.args.parts.now c.args.task c.requires.reached c.requires.task c.requires.next f own)

pub refuse-requires-clause-room : goal.refuse-requires-clause-room
refuse-requires-clause-room c = framed c.args.parts.now c.args.task kinds.Place tt c.requires.reached c.requires.task c.requires.next _ (λ f own.
    full_room c.args.parts.now c.args.task c.requires.reached c.requires.task c.requires.next c.args.sending.to c.args.sending.moving c.args.sending.name c.args.sending.id c.requires.call f own c.requires.full)

pub returns : goal.returns
returns c = framed c.args.parts.now c.args.task kinds.Place tt c.requires.reached c.requires.task c.requires.next _ (λ f own.
    refused_follows c.args.parts.now c.args.task c.requires.reached c.requires.task c.requires.next (calls.Send c.args.sending.to c.args.sending.moving c.args.sending.name c.args.sending.id) c.requires.call refl f own MACH_SEND_TIMED_OUT false
    (refuses_full c.args.parts.now c.args.task c.requires.reached c.requires.task c.requires.next c.args.sending.to c.args.sending.moving c.args.sending.name c.args.sending.id c.requires.call f own c.requires.full false)
    c.refuse.new.parts c.refuse.ensures.scenario
    (rw (← c.of.ensures) (c.refuse.ensures.plain f (calls.Send c.args.sending.to c.args.sending.moving c.args.sending.name c.args.sending.id) own c.requires.call)))
