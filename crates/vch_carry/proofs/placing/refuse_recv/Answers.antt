use Rattle.std.proofs.Common.{refl, true}
use Rattle.vch_base.specs.declared.codes.TheConstants.{KERN_RESOURCE_SHORTAGE}
use Rattle.vch_base.specs.declared.kind.Kind.TheVariants as kinds
use Rattle.vch_model.specs.declared.call.Call.TheVariants as calls
use Rattle.vch_carry.proofs.glue.Open.{framed}
use Rattle.vch_carry.proofs.placed.Placing.{idle_now, refused_follows}
use Rattle.vch_carry.proofs.placed.Received.{recv_room}
use Rattle.vch_carry.proofs.placing.refuse_recv.Goals as goal

pub out_of_memory-requires-clause-idle : goal.out_of_memory-requires-clause-idle
out_of_memory-requires-clause-idle c = framed c.args.parts.now c.args.task kinds.Place tt c.requires.reached c.requires.task c.requires.next _ (λ f own.
    idle_now c.args.parts.now c.args.task c.requires.reached c.requires.task c.requires.next f own)

pub out_of_memory-requires-clause-room : goal.out_of_memory-requires-clause-room
out_of_memory-requires-clause-room c = framed c.args.parts.now c.args.task kinds.Place tt c.requires.reached c.requires.task c.requires.next _ (λ f own.
    recv_room c.args.parts.now c.args.task c.requires.reached c.requires.task c.requires.next c.requires.call f own)

pub returns : goal.returns
returns c = framed c.args.parts.now c.args.task kinds.Place tt c.requires.reached c.requires.task c.requires.next _ (λ f own.
    refused_follows c.args.parts.now c.args.task c.requires.reached c.requires.task c.requires.next calls.Recv c.requires.call refl f own KERN_RESOURCE_SHORTAGE true (λ m st g w a. refl)
    c.out_of_memory.new.parts c.out_of_memory.ensures.scenario (c.out_of_memory.ensures.plain f calls.Recv own c.requires.call))
