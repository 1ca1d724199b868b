use Rattle.vch_vouchers.specs.Slots.{slot_desk}
use Rattle.vch_vouchers.proofs.Seen.{inside}
use Rattle.vch_vouchers.proofs.Taking.{dropped, gone_live}
use Rattle.vch_vouchers.proofs.vouchers.Vouchers.drop_name.Goals as goal

pub give_up-slot-requires : goal.give_up-slot-requires
give_up-slot-requires c = record { task = inside c.self.inside.table c.self.inside.desks c.args.self.now c.self.view_is c.args.task c.requires.task }

pub release-requires : goal.release-requires
release-requires c = gone_live c.self.inside.table c.self.inside.desks c.args.task c.know.ensures c.self.invariant c.know-2.ensures (inside c.self.inside.table c.self.inside.desks c.args.self.now c.self.view_is c.args.task c.requires.task) c.give_up-slot.result c.args.name c.give_up-slot.ensures.slot

pub invariant_of-self : goal.invariant_of-self
invariant_of-self c = (dropped c.self.inside.table c.release.new.table c.self.inside.desks c.give_up-slot.new.self c.args.self.now c.args.task c.release.result c.know.ensures c.self.invariant c.know-2.ensures c.self.view_is c.requires.task (slot_desk c.give_up-slot.new.self c.args.task).space c.args.name c.give_up-slot.result c.give_up-slot.ensures.slot c.give_up-slot.ensures.names c.give_up-slot.ensures.next c.give_up-slot.ensures.others c.release.ensures).held

pub returns-clause-names : goal.returns-clause-names
returns-clause-names c = (dropped c.self.inside.table c.release.new.table c.self.inside.desks c.give_up-slot.new.self c.args.self.now c.args.task c.release.result c.know.ensures c.self.invariant c.know-2.ensures c.self.view_is c.requires.task (slot_desk c.give_up-slot.new.self c.args.task).space c.args.name c.give_up-slot.result c.give_up-slot.ensures.slot c.give_up-slot.ensures.names c.give_up-slot.ensures.next c.give_up-slot.ensures.others c.release.ensures).seen

pub returns-clause-orphan : goal.returns-clause-orphan
returns-clause-orphan c = (dropped c.self.inside.table c.release.new.table c.self.inside.desks c.give_up-slot.new.self c.args.self.now c.args.task c.release.result c.know.ensures c.self.invariant c.know-2.ensures c.self.view_is c.requires.task (slot_desk c.give_up-slot.new.self c.args.task).space c.args.name c.give_up-slot.result c.give_up-slot.ensures.slot c.give_up-slot.ensures.names c.give_up-slot.ensures.next c.give_up-slot.ensures.others c.release.ensures).orphan
