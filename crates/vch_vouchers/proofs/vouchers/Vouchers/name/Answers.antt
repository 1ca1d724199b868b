use Rattle.std.proofs.Common.{sym, ap, ◌∙◌, subst}
use Rattle.vch_vouchers.specs.Slots.{HasRoom, IsHeld, Releases, desks_at}
use Rattle.vch_vouchers.proofs.Giving.{all_below, has_room, known, named, names, on_err, roomier}
use Rattle.vch_vouchers.proofs.Seen.{inside}
use Rattle.vch_vouchers.proofs.vouchers.Vouchers.name.Goals as goal

pub check_name-requires : goal.check_name-requires
check_name-requires c = record { task = inside c.self.inside.table c.self.inside.desks c.args.self.now c.self.view_is c.args.task c.requires.task }

pub reserve-requires : goal.reserve-requires
reserve-requires c = record { task = inside c.self.inside.table c.self.inside.desks c.args.self.now c.self.view_is c.args.task c.requires.task }

pub invariant_of-self : goal.invariant_of-self
invariant_of-self c = (roomier c.self.inside.table c.self.inside.desks c.reserve.new.self c.args.self.now c.args.task c.self.invariant c.self.view_is c.requires.task c.reserve.ensures.names c.reserve.ensures.next c.reserve.ensures.others).held

pub returns-in_err-reserve-clause-refused : goal.returns-in_err-reserve-clause-refused
returns-in_err-reserve-clause-refused c = on_err c.from_residual-in_err-reserve.result (roomier c.self.inside.table c.self.inside.desks c.reserve.new.self c.args.self.now c.args.task c.self.invariant c.self.view_is c.requires.task c.reserve.ensures.names c.reserve.ensures.next c.reserve.ensures.others).is

pub meet-requires-clause-references : goal.meet-requires-clause-references
meet-requires-clause-references c = all_below c.self.inside.table c.reserve.new.self (roomier c.self.inside.table c.self.inside.desks c.reserve.new.self c.args.self.now c.args.task c.self.invariant c.self.view_is c.requires.task c.reserve.ensures.names c.reserve.ensures.next c.reserve.ensures.others).held c.know-2.ensures

pub invariant_of-self-in_err-met : goal.invariant_of-self-in_err-met
invariant_of-self-in_err-met c = subst (λ t. IsHeld t c.reserve.new.self) (sym c.in_err-met.ensures.meets) (roomier c.self.inside.table c.self.inside.desks c.reserve.new.self c.args.self.now c.args.task c.self.invariant c.self.view_is c.requires.task c.reserve.ensures.names c.reserve.ensures.next c.reserve.ensures.others).held

pub returns-in_err-met-clause-refused : goal.returns-in_err-met-clause-refused
returns-in_err-met-clause-refused c = on_err c.from_residual-in_err-met.result (ap (λ t. desks_at t c.reserve.new.self) c.in_err-met.ensures.meets ∙ (roomier c.self.inside.table c.self.inside.desks c.reserve.new.self c.args.self.now c.args.task c.self.invariant c.self.view_is c.requires.task c.reserve.ensures.names c.reserve.ensures.next c.reserve.ensures.others).is)

pub add-added-requires-clause-references : goal.add-added-requires-clause-references
add-added-requires-clause-references c = let r = (roomier c.self.inside.table c.self.inside.desks c.reserve.new.self c.args.self.now c.args.task c.self.invariant c.self.view_is c.requires.task c.reserve.ensures.names c.reserve.ensures.next c.reserve.ensures.others) in has_room c.self.inside.table c.meet.new.self c.reserve.new.self c.args.self.now c.args.voucher.now c.in_ok-met.met c.know.ensures c.know-3.ensures r.held r.is c.in_ok-met.ensures.meets c.args.task (inside c.self.inside.table c.reserve.new.self c.args.self.now r.is c.args.task c.requires.task) (subst (HasRoom c.self.inside.table c.args.voucher.now) (sym c.reserve.ensures.names) c.in_ok-check_name.ensures.references)

pub invariant_of-self-2 : goal.invariant_of-self-2
invariant_of-self-2 c = let r = (roomier c.self.inside.table c.self.inside.desks c.reserve.new.self c.args.self.now c.args.task c.self.invariant c.self.view_is c.requires.task c.reserve.ensures.names c.reserve.ensures.next c.reserve.ensures.others) in (names c.self.inside.table c.meet.new.self c.reserve.new.self c.args.self.now c.args.voucher.now c.in_ok-met.met c.know.ensures c.know-3.ensures r.held r.is c.in_ok-met.ensures.meets c.release.new.table c.add-added.new.self c.args.task c.add-added.result c.release.result c.requires.task c.know-2.ensures c.add-added.ensures.adds c.add-added.ensures.others (subst (λ o. Releases o c.meet.new.self c.release.result c.release.new.table) c.then_some.ensures c.release.ensures)).held

pub returns-clause-name : goal.returns-clause-name
returns-clause-name c = let r = (roomier c.self.inside.table c.self.inside.desks c.reserve.new.self c.args.self.now c.args.task c.self.invariant c.self.view_is c.requires.task c.reserve.ensures.names c.reserve.ensures.next c.reserve.ensures.others) in named c.self.inside.table c.meet.new.self c.reserve.new.self c.args.self.now c.args.voucher.now c.in_ok-met.met c.know.ensures c.know-3.ensures r.held r.is c.in_ok-met.ensures.meets c.release.new.table c.add-added.new.self c.args.task c.add-added.result c.release.result c.requires.task c.know-2.ensures c.add-added.ensures.adds

pub returns-clause-known : goal.returns-clause-known
returns-clause-known c = let r = (roomier c.self.inside.table c.self.inside.desks c.reserve.new.self c.args.self.now c.args.task c.self.invariant c.self.view_is c.requires.task c.reserve.ensures.names c.reserve.ensures.next c.reserve.ensures.others) in known c.self.inside.table c.meet.new.self c.reserve.new.self c.args.self.now c.args.voucher.now c.in_ok-met.met c.know.ensures c.know-3.ensures r.held r.is c.in_ok-met.ensures.meets

pub returns-clause-given : goal.returns-clause-given
returns-clause-given c = let r = (roomier c.self.inside.table c.self.inside.desks c.reserve.new.self c.args.self.now c.args.task c.self.invariant c.self.view_is c.requires.task c.reserve.ensures.names c.reserve.ensures.next c.reserve.ensures.others) in (names c.self.inside.table c.meet.new.self c.reserve.new.self c.args.self.now c.args.voucher.now c.in_ok-met.met c.know.ensures c.know-3.ensures r.held r.is c.in_ok-met.ensures.meets c.release.new.table c.add-added.new.self c.args.task c.add-added.result c.release.result c.requires.task c.know-2.ensures c.add-added.ensures.adds c.add-added.ensures.others (subst (λ o. Releases o c.meet.new.self c.release.result c.release.new.table) c.then_some.ensures c.release.ensures)).is
