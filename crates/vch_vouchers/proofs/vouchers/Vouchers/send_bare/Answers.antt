use Rattle.std.proofs.Common.{[], refl, None}
use Rattle.vch_vouchers.proofs.Giving.{sent}
use Rattle.vch_vouchers.proofs.Seen.{inside, room_seen}
use Rattle.vch_vouchers.proofs.vouchers.Vouchers.send_bare.Goals as goal

pub put-requires-clause-task : goal.put-requires-clause-task
put-requires-clause-task c = inside c.self.inside.table c.self.inside.desks c.args.self.now c.self.view_is c.args.to c.requires.task

pub put-requires-clause-room : goal.put-requires-clause-room
put-requires-clause-room c = room_seen c.self.inside.table c.self.inside.desks c.args.self.now c.self.view_is c.args.to c.requires.task c.requires.room

pub invariant_of-self : goal.invariant_of-self
invariant_of-self c = (sent c.self.inside.table c.self.inside.desks c.put.new.self c.args.self.now c.args.to (record { sender = c.args.sender; id = c.args.id; slot = None }) [] c.know.ensures c.self.invariant.balanced c.self.invariant.few c.self.view_is c.requires.task (λ s. refl) c.put.ensures).held

pub returns : goal.returns
returns c = (sent c.self.inside.table c.self.inside.desks c.put.new.self c.args.self.now c.args.to (record { sender = c.args.sender; id = c.args.id; slot = None }) [] c.know.ensures c.self.invariant.balanced c.self.invariant.few c.self.view_is c.requires.task (λ s. refl) c.put.ensures).seen
