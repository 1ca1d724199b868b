use Rattle.std.proofs.Common.{sym, ◌∙◌, ap}
use Rattle.vch_table.specs.Indices.{index_at}
use Rattle.vch_parts.proofs.CallerLemmas.{desk_inside}
use Rattle.vch_answers.proofs.CallerLemmas.{entry_named}
use Rattle.vch_carry.proofs.counting.handle_named.Goals as goal

pub voucher-requires : goal.voucher-requires
voucher-requires c = record { task = desk_inside c.args.parts.now c.args.task c.requires.reached c.requires.task }

pub handle-requires : goal.handle-requires
handle-requires c = entry_named c.args.parts.now c.args.task c.requires.reached c.requires.task c.args.name c.args.key c.in-Some.voucher c.in-Some-get.index
    (sym c.voucher.ensures ∙ c.in-Some.is) (ap (index_at c.in-Some.voucher) (sym c.number.ensures) ∙ sym c.get.ensures ∙ c.in-Some-get.is)
