use Rattle.vch_vouchers.specs.Slots.{slot_desk}
use Rattle.vch_vouchers.proofs.Seen.{inside}
use Rattle.vch_vouchers.proofs.Taking.{removed, out_live}
use Rattle.vch_vouchers.proofs.vouchers.Vouchers.remove_name.Goals as goal

pub remove-slot-requires : goal.remove-slot-requires
remove-slot-requires c = record { task = inside c.self.inside.table c.self.inside.desks c.args.self.now c.self.view_is c.args.task c.requires.task }

pub release-requires : goal.release-requires
release-requires c = out_live c.self.inside.table c.self.inside.desks c.args.task c.know.ensures c.self.invariant c.know-2.ensures (inside c.self.inside.table c.self.inside.desks c.args.self.now c.self.view_is c.args.task c.requires.task) c.remove-slot.result c.args.name c.remove-slot.ensures.slot

pub invariant_of-self : goal.invariant_of-self
invariant_of-self c = (removed c.self.inside.table c.release.new.table c.self.inside.desks c.remove-slot.new.self c.args.self.now c.args.task c.release.result c.know.ensures c.self.invariant c.know-2.ensures c.self.view_is c.requires.task (slot_desk c.remove-slot.new.self c.args.task).space c.args.name c.remove-slot.result c.remove-slot.ensures.slot c.remove-slot.ensures.names c.remove-slot.ensures.next c.remove-slot.ensures.others c.release.ensures).held

pub returns-clause-names : goal.returns-clause-names
returns-clause-names c = (removed c.self.inside.table c.release.new.table c.self.inside.desks c.remove-slot.new.self c.args.self.now c.args.task c.release.result c.know.ensures c.self.invariant c.know-2.ensures c.self.view_is c.requires.task (slot_desk c.remove-slot.new.self c.args.task).space c.args.name c.remove-slot.result c.remove-slot.ensures.slot c.remove-slot.ensures.names c.remove-slot.ensures.next c.remove-slot.ensures.others c.release.ensures).seen

pub returns-clause-orphan : goal.returns-clause-orphan
returns-clause-orphan c = (removed c.self.inside.table c.release.new.table c.self.inside.desks c.remove-slot.new.self c.args.self.now c.args.task c.release.result c.know.ensures c.self.invariant c.know-2.ensures c.self.view_is c.requires.task (slot_desk c.remove-slot.new.self c.args.task).space c.args.name c.remove-slot.result c.remove-slot.ensures.slot c.remove-slot.ensures.names c.remove-slot.ensures.next c.remove-slot.ensures.others c.release.ensures).orphan
