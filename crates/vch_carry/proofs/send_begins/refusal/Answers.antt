use Rattle.std.proofs.Common.{◌∙◌, sym, ap, true, false}
use Rattle.std.specs.Prelude.{is_some}
use Rattle.vch_parts.proofs.CallerLemmas.{desk_inside}
use Rattle.vch_carry.proofs.begun.SendBegins.{coded, refusal_of}
use Rattle.vch_carry.proofs.send_begins.refusal.Goals as goal

pub voucher-requires : goal.voucher-requires
voucher-requires c = record { task = desk_inside c.args.parts.now c.args.task c.requires.reached c.requires.task }

pub returns-then-is_some : goal.returns-then-is_some
returns-then-is_some c = sym (refusal_of c.args.parts.now c.args.task c.requires.reached c.requires.task c.args.to c.args.name (sym c.is_there.ensures ∙ c.if-not-is_there.false) c.if-name-eq0.false true (sym (c.is_some.ensures ∙ ap is_some c.voucher.ensures) ∙ c.if-is_some.true))

pub returns : goal.returns
returns c = ap coded c.of-2.ensures ∙ sym (refusal_of c.args.parts.now c.args.task c.requires.reached c.requires.task c.args.to c.args.name (sym c.is_there.ensures ∙ c.if-not-is_there.false) c.if-name-eq0.false false (sym (c.is_some.ensures ∙ ap is_some c.voucher.ensures) ∙ c.if-is_some.false))
