use Rattle.std.proofs.Common.{ap, subst}
use Rattle.vch_base.specs.declared.key.Key.TheVariants as keys
use Rattle.vch_base.specs.Managers.{Rules}
use Rattle.vch_importance.specs.Assertions.{AllListed}
use Rattle.vch_values.proofs.values.Values.know_lists.Goals as goal

pub returns-clause-tasks : goal.returns-clause-tasks
returns-clause-tasks c = rw (← c.self.view_is) (ap (λ (r : Rules). r.tasks) (c.self.invariant keys.Importance))

pub returns-clause-listed : goal.returns-clause-listed
returns-clause-listed c =
    rw (← c.self.view_is) (subst (λ t. AllListed t c.self.inside.importance.slots) (ap (λ (r : Rules). r.tasks) (c.self.invariant keys.Importance)) c.know_lists.ensures.listed)
