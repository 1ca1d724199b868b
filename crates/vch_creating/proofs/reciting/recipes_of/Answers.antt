use Rattle.std.proofs.Common.{None, Some, ap, sym, ◌∙◌}
use Rattle.vch_model.specs.Replies.{refused}
use Rattle.vch_parts.proofs.CallerLemmas.{desk_inside}
use Rattle.vch_creating.proofs.telling.Recited.{named_live, on_err, told_of, wants_of}
use Rattle.vch_creating.proofs.reciting.recipes_of.Goals as goal

pub voucher-requires : goal.voucher-requires
voucher-requires c = record { task = desk_inside c.args.parts.now c.args.task c.requires.reached c.requires.task }

pub returns-in_default-clause-told : goal.returns-in_default-clause-told
returns-in_default-clause-told c = ap refused c.of.ensures ∙ sym (told_of c.args.parts.now c.args.task c.requires.reached c.requires.task c.args.name None (sym c.voucher.ensures ∙ c.in_default.is))

pub recipe-requires : goal.recipe-requires
recipe-requires c = record { live = named_live c.args.parts.now c.args.task c.requires.reached c.requires.task c.args.name c.in-Some.voucher (sym c.voucher.ensures ∙ c.in-Some.is) }

pub returns-in_err-reply-clause-wants : goal.returns-in_err-reply-clause-wants
returns-in_err-reply-clause-wants c = on_err c.from_residual.result (wants_of c.args.parts.now c.args.task c.requires.reached c.requires.task c.args.name c.in-Some.voucher (sym c.voucher.ensures ∙ c.in-Some.is))

pub returns-clause-told : goal.returns-clause-told
returns-clause-told c = c.in_ok-reply.ensures ∙ sym (told_of c.args.parts.now c.args.task c.requires.reached c.requires.task c.args.name (Some c.in-Some.voucher) (sym c.voucher.ensures ∙ c.in-Some.is))
