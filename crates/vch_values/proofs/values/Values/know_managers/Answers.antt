use Rattle.vch_base.specs.declared.key.Key.TheVariants as keys
use Rattle.vch_values.proofs.values.Values.know_managers.Goals as goal

pub returns : goal.returns
returns c keys.Importance = rw (← c.self.view_is) c.know.ensures
returns c keys.Bank = rw (← c.self.view_is) c.know-2.ensures
returns c keys.User = rw (← c.self.view_is) c.know-3.ensures
returns c keys.Test = rw (← c.self.view_is) c.know-4.ensures
