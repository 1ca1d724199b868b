use Rattle.std.proofs.Common.{◌∙◌, ap}
use Rattle.vch_bank.specs.Bank.{ledger_of}
use Rattle.vch_importance.specs.Assertions.{held_by, out_from}
use Rattle.vch_parts.specs.declared.parts.Parts.{Parts}
use Rattle.vch_whole.proofs.Standing.{is_true}
use Rattle.vch_whole.proofs.Reading.{total_is}
use Rattle.vch_whole.proofs.state.Core.total.Goals as goal

pub returns : goal.returns
returns c = total_is c.args.self.now c.args.task c.ledger.result c.held.result c.out.result (is_true _ c.requires.task)
    (c.ledger.ensures ∙ ap (λ (p : Parts). ledger_of p.values.bank.kept.ledgers c.args.task) c.self.view_is)
    (c.held.ensures ∙ ap (λ (p : Parts). held_by p.values.importance.kept c.args.task) c.self.view_is)
    (c.out.ensures ∙ ap (λ (p : Parts). out_from p.values.importance.kept c.args.task) c.self.view_is)
