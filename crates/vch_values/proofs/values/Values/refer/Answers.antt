use Rattle.vch_values.proofs.values.Values.refer.Goals as goal

pub returns-in-Importance-clause-stands : goal.returns-in-Importance-clause-stands
returns-in-Importance-clause-stands c = rw (c.in-Importance.is, ← c.self.view_is) c.refer.ensures.stands

pub returns-in-Bank-clause-stands : goal.returns-in-Bank-clause-stands
returns-in-Bank-clause-stands c = rw (c.in-Bank.is, ← c.self.view_is) c.refer-in-Bank.ensures.stands

pub returns-in-User-clause-stands : goal.returns-in-User-clause-stands
returns-in-User-clause-stands c = rw (c.in-User.is, ← c.self.view_is) c.refer-in-User.ensures.stands

pub returns-in-Test-clause-stands : goal.returns-in-Test-clause-stands
returns-in-Test-clause-stands c = rw (c.in-Test.is, ← c.self.view_is) c.refer-in-Test.ensures.stands
