use Rattle.std.proofs.Common.{◌≡◌, ◌<◌, ◌-◌, sym, ap, ◌∙◌, subst}
use Rattle.vch_ports.specs.Names.{by_slot, counted}
use Rattle.vch_vouchers.specs.declared.desks.SlotDesk.{SlotDesk}
use Rattle.vch_vouchers.specs.Slots.{slot_desk}
use Rattle.vch_vouchers.proofs.Sound.{all_set, is_read, names_added, references_below}
use Rattle.vch_vouchers.proofs.desks.Desks.add.Goals as goal

pub add-answer-requires-clause-references : goal.add-answer-requires-clause-references
add-answer-requires-clause-references c =
    let r = is_read c.self.inside.items.items c.args.self.now c.args.task c.index_mut-desk.result.now c.self.view_is c.self.invariant c.requires.task c.index_mut-desk.ensures.value in
    references_below c.index_mut-desk.result.now.space.names r.sound.names

pub invariant_of-self : goal.invariant_of-self
invariant_of-self c =
    let r = is_read c.self.inside.items.items c.args.self.now c.args.task c.index_mut-desk.result.now c.self.view_is c.self.invariant c.requires.task c.index_mut-desk.ensures.value in
    let own : c.index_mut-desk.result.now ≡ slot_desk c.args.self.now c.args.task = r.its ∙ ap (λ ds. slot_desk ds c.args.task) c.self.view_is in
    let room : counted (by_slot c.index_mut-desk.result.now.space.names c.args.slot) < 4294967294 = subst (λ (d : SlotDesk). counted (by_slot d.space.names c.args.slot) < 4294967294) (sym own) c.requires.references in
    let n = names_added c.index_mut-desk.result.now.space c.add-answer.new.self c.args.slot c.add-answer.result r.sound.spaced r.sound.names r.sound.next room c.add-answer.ensures in
    all_set c.self.inside.items.items (c.args.task - 1) (record { space = c.add-answer.new.self; mail = c.index_mut-desk.result.now.mail }) c.self.invariant (record { spaced = c.know.ensures; names = n.0; next = n.1; boxed = r.sound.boxed })
