use Rattle.std.proofs.Common.{◌∙◌, sym}
use Rattle.vch_parts.proofs.CallerLemmas.{desk_inside}
use Rattle.vch_carry.proofs.begun.SendBegins.{not_named}
use Rattle.vch_carry.proofs.send_begins.begin_send.Goals as goal

pub voucher-requires : goal.voucher-requires
voucher-requires c = record { task = desk_inside c.args.parts.now c.args.task c.requires.reached c.requires.task }

pub returns-in_default-voucher : goal.returns-in_default-voucher
returns-in_default-voucher c = absurd (not_named c.args.parts.now c.args.task c.requires.reached c.requires.task c.requires.next c.requires.free c.args.sending.to c.args.sending.moving c.args.sending.name c.args.sending.id c.requires.call
    (sym c.refusal.ensures ∙ c.in_default.is) c.if-sending-eq0.false (sym c.voucher.ensures ∙ c.in_default-voucher.is))
