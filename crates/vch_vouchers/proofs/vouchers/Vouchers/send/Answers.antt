use Rattle.vch_vouchers.proofs.Giving.{all_below, known, sent_met}
use Rattle.vch_vouchers.proofs.Seen.{inside, room_seen}
use Rattle.vch_vouchers.proofs.vouchers.Vouchers.send.Goals as goal

pub meet-requires-clause-references : goal.meet-requires-clause-references
meet-requires-clause-references c = all_below c.self.inside.table c.self.inside.desks c.self.invariant c.know-2.ensures

pub put-requires-clause-task : goal.put-requires-clause-task
put-requires-clause-task c = inside c.self.inside.table c.self.inside.desks c.args.self.now c.self.view_is c.args.to c.requires.task

pub put-requires-clause-room : goal.put-requires-clause-room
put-requires-clause-room c = room_seen c.self.inside.table c.self.inside.desks c.args.self.now c.self.view_is c.args.to c.requires.task c.requires.room

pub invariant_of-self-2 : goal.invariant_of-self-2
invariant_of-self-2 c = (sent_met c.self.inside.table c.meet.new.self c.self.inside.desks c.args.self.now c.args.voucher.now c.in_ok-met.met c.know.ensures c.know-3.ensures c.self.invariant c.self.view_is c.in_ok-met.ensures.meets c.put.new.self c.args.to c.args.sender c.args.id c.requires.task c.put.ensures).held

pub returns-clause-known : goal.returns-clause-known
returns-clause-known c = known c.self.inside.table c.meet.new.self c.self.inside.desks c.args.self.now c.args.voucher.now c.in_ok-met.met c.know.ensures c.know-3.ensures c.self.invariant c.self.view_is c.in_ok-met.ensures.meets

pub returns-clause-queued : goal.returns-clause-queued
returns-clause-queued c = (sent_met c.self.inside.table c.meet.new.self c.self.inside.desks c.args.self.now c.args.voucher.now c.in_ok-met.met c.know.ensures c.know-3.ensures c.self.invariant c.self.view_is c.in_ok-met.ensures.meets c.put.new.self c.args.to c.args.sender c.args.id c.requires.task c.put.ensures).seen
