use Rattle.std.proofs.Common.{◌≤◌, ◌-◌, sym, subst}
use Rattle.vch_vouchers.proofs.Sound.{AllNames, all_set, is_read, names_given_up}
use Rattle.vch_ports.specs.Names.{by_name}
use Rattle.vch_vouchers.proofs.desks.Desks.give_up.Goals as goal

pub invariant_of-self : goal.invariant_of-self
invariant_of-self c =
    let r = is_read c.self.inside.items.items c.args.self.now c.args.task c.index_mut-desk.result.now c.self.view_is c.self.invariant c.requires.task c.index_mut-desk.ensures.value in
    let n : AllNames c.give_up-answer.new.self.names = subst AllNames (sym c.give_up-answer.ensures.names.1) (names_given_up (by_name c.index_mut-desk.result.now.space.names c.args.name) c.args.name c.index_mut-desk.result.now.space.names r.sound.names) in
    all_set c.self.inside.items.items (c.args.task - 1) (record { space = c.give_up-answer.new.self; mail = c.index_mut-desk.result.now.mail }) c.self.invariant
    (record { spaced = c.know.ensures; names = n; next = subst (λ i. 1 ≤ i) (sym c.give_up-answer.ensures.next) r.sound.next; boxed = r.sound.boxed })
