use Rattle.std.proofs.Common.{◌∙◌, sym, length}
use Rattle.vch_base.specs.declared.key.Key.TheVariants as keys
use Rattle.vch_bank.proofs.CallerLemmas.{ledgers_long}
use Rattle.vch_values.specs.Parts.{or_no_tasks}
use Rattle.vch_values.proofs.values.Values.know_books.Goals as goal

pub returns-clause-ledgers : goal.returns-clause-ledgers
returns-clause-ledgers c =
    rw (← c.self.view_is) (ledgers_long (length c.self.inside.bank.ledgers) (length (or_no_tasks c.self.inside.importance.rules.tasks)) (sym c.know_books.ensures.rules ∙ c.self.invariant keys.Bank))
