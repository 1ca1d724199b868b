use Rattle.std.proofs.Common.{ℕ, sym, ap, ◌∙◌, refl, None, Some, Option}
use Rattle.std.specs.Option.{option_map}
use Rattle.vch_vouchers.specs.declared.answers.Taken.{Taken}
use Rattle.vch_vouchers.specs.Desks.{Voucher, taken_from}
use Rattle.vch_vouchers.specs.Slots.{desks_at, message_at}
use Rattle.vch_vouchers.proofs.Seen.{first_seen, inside}
use Rattle.vch_vouchers.proofs.Taking.{first_live, received, slot_in}
use Rattle.vch_vouchers.proofs.vouchers.Vouchers.take_first.Goals as goal

abbrev taken : ℕ → ℕ → Option Voucher → Option Taken
taken sender id orphan = Some (record { sender = sender; id = id; orphan = orphan })

pub take_first-requires : goal.take_first-requires
take_first-requires c = record { task = inside c.self.inside.table c.self.inside.desks c.args.self.now c.self.view_is c.args.task c.requires.task }

pub invariant_of-self : goal.invariant_of-self
invariant_of-self c = (received c.self.inside.table c.self.inside.table c.self.inside.desks c.take_first.new.self c.args.self.now c.args.task None c.know.ensures c.self.invariant c.know-2.ensures c.self.view_is c.requires.task None (ap slot_in (sym c.in_err-message.was ∙ c.take_first.ensures.message)) c.take_first.ensures.left (refl, refl)).held

pub returns-in_err-message-clause-queue : goal.returns-in_err-message-clause-queue
returns-in_err-message-clause-queue c = (received c.self.inside.table c.self.inside.table c.self.inside.desks c.take_first.new.self c.args.self.now c.args.task None c.know.ensures c.self.invariant c.know-2.ensures c.self.view_is c.requires.task None (ap slot_in (sym c.in_err-message.was ∙ c.take_first.ensures.message)) c.take_first.ensures.left (refl, refl)).seen

pub returns-in_err-message-clause-taken : goal.returns-in_err-message-clause-taken
returns-in_err-message-clause-taken c = c.from_residual.ensures ∙ ap (λ o. taken_from (desks_at c.self.inside.table c.take_first.new.self) (option_map (message_at c.self.inside.table) o)) (sym c.in_err-message.was ∙ c.take_first.ensures.message) ∙ sym (ap (taken_from (desks_at c.self.inside.table c.take_first.new.self)) (first_seen c.self.inside.table c.self.inside.desks c.args.self.now c.self.view_is c.args.task c.requires.task))

pub release-orphan-requires : goal.release-orphan-requires
release-orphan-requires c = first_live c.self.inside.table c.self.inside.desks c.args.task c.know.ensures c.self.invariant c.know-2.ensures (inside c.self.inside.table c.self.inside.desks c.args.self.now c.self.view_is c.args.task c.requires.task) c.in_ok-message.message.slot (ap slot_in (sym c.in_ok-message.was ∙ c.take_first.ensures.message))

pub invariant_of-self-2 : goal.invariant_of-self-2
invariant_of-self-2 c = (received c.self.inside.table c.release-orphan.new.table c.self.inside.desks c.take_first.new.self c.args.self.now c.args.task c.release-orphan.result c.know.ensures c.self.invariant c.know-2.ensures c.self.view_is c.requires.task c.in_ok-message.message.slot (ap slot_in (sym c.in_ok-message.was ∙ c.take_first.ensures.message)) c.take_first.ensures.left c.release-orphan.ensures).held

pub returns-clause-queue : goal.returns-clause-queue
returns-clause-queue c = (received c.self.inside.table c.release-orphan.new.table c.self.inside.desks c.take_first.new.self c.args.self.now c.args.task c.release-orphan.result c.know.ensures c.self.invariant c.know-2.ensures c.self.view_is c.requires.task c.in_ok-message.message.slot (ap slot_in (sym c.in_ok-message.was ∙ c.take_first.ensures.message)) c.take_first.ensures.left c.release-orphan.ensures).seen

pub returns-clause-taken : goal.returns-clause-taken
returns-clause-taken c = ap (λ w. taken c.in_ok-message.message.sender c.in_ok-message.message.id w) (received c.self.inside.table c.release-orphan.new.table c.self.inside.desks c.take_first.new.self c.args.self.now c.args.task c.release-orphan.result c.know.ensures c.self.invariant c.know-2.ensures c.self.view_is c.requires.task c.in_ok-message.message.slot (ap slot_in (sym c.in_ok-message.was ∙ c.take_first.ensures.message)) c.take_first.ensures.left c.release-orphan.ensures).orphan ∙ ap (λ o. taken_from (desks_at c.release-orphan.new.table c.take_first.new.self) (option_map (message_at c.self.inside.table) o)) (sym c.in_ok-message.was ∙ c.take_first.ensures.message) ∙ sym (ap (taken_from (desks_at c.release-orphan.new.table c.take_first.new.self)) (first_seen c.self.inside.table c.self.inside.desks c.args.self.now c.self.view_is c.args.task c.requires.task))
