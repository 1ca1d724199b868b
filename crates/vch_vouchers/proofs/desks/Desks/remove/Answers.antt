use Rattle.std.proofs.Common.{◌≤◌, ◌-◌, sym, subst}
use Rattle.vch_vouchers.proofs.Sound.{AllNames, all_set, is_read, names_removed}
use Rattle.vch_vouchers.proofs.desks.Desks.remove.Goals as goal

pub invariant_of-self : goal.invariant_of-self
invariant_of-self c =
    let r = is_read c.self.inside.items.items c.args.self.now c.args.task c.index_mut-desk.result.now c.self.view_is c.self.invariant c.requires.task c.index_mut-desk.ensures.value in
    let n : AllNames c.remove-answer.new.self.names = subst AllNames (sym c.remove-answer.ensures.names) (names_removed c.args.name c.index_mut-desk.result.now.space.names r.sound.names) in
    all_set c.self.inside.items.items (c.args.task - 1) (record { space = c.remove-answer.new.self; mail = c.index_mut-desk.result.now.mail }) c.self.invariant
    (record { spaced = c.know.ensures; names = n; next = subst (λ i. 1 ≤ i) (sym c.remove-answer.ensures.next) r.sound.next; boxed = r.sound.boxed })
