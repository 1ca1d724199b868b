use Rattle.std.proofs.Common.{subst}
use Rattle.vch_creating.specs.Carried.{ReadsNext}
use Rattle.vch_creating.proofs.forming.Follows.{refusal_follows, refusal_room}
use Rattle.vch_creating.proofs.forming.Next.{bytes_of, no_values}
use Rattle.vch_creating.proofs.working.work.Goals as goal

pub refuse-requires-clause-idle : goal.refuse-requires-clause-idle
refuse-requires-clause-idle c = bytes_of _ _ c.requires.call (λ bytes there. no_values c.args.parts.now c.args.task c.requires.reached c.requires.task c.requires.next bytes there)

pub refuse-requires-clause-room : goal.refuse-requires-clause-room
refuse-requires-clause-room c = bytes_of _ _ c.requires.call (λ bytes there. refusal_room c.args.parts.now c.args.task c.requires.reached c.requires.task c.requires.next bytes there c.in-Err.code
    (subst (ReadsNext c.args.parts.now c.args.task) c.in-Err.is c.read.ensures.reads))

pub returns-in-Err : goal.returns-in-Err
returns-in-Err c = bytes_of _ _ c.requires.call (λ bytes there. refusal_follows c.args.parts.now c.args.task c.requires.reached c.requires.task c.requires.next bytes there c.in-Err.code
    (subst (ReadsNext c.args.parts.now c.args.task) c.in-Err.is c.read.ensures.reads) c.refuse.new.parts c.refuse.ensures)
