use Rattle.vch_base.specs.declared.key.Key.TheVariants as keys
use Rattle.vch_values.proofs.tests.start.Goals as goal

pub returns-clause-importance : goal.returns-clause-importance
returns-clause-importance g c = ((c.in-Ok.ensures keys.Importance).kept, (c.in-Ok.ensures keys.Importance).entries)

pub returns-clause-bank : goal.returns-clause-bank
returns-clause-bank g c = ((c.in-Ok.ensures keys.Bank).kept, (c.in-Ok.ensures keys.Bank).entries)

pub returns-clause-user : goal.returns-clause-user
returns-clause-user g c = ((c.in-Ok.ensures keys.User).kept, (c.in-Ok.ensures keys.User).entries)

pub returns-clause-test : goal.returns-clause-test
returns-clause-test g c = ((c.in-Ok.ensures keys.Test).kept, (c.in-Ok.ensures keys.Test).entries)
