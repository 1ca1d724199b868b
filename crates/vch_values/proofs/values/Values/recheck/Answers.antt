use Rattle.vch_values.proofs.values.Values.recheck.Goals as goal

pub returns-in-Importance-clause-stands : goal.returns-in-Importance-clause-stands
returns-in-Importance-clause-stands c = rw (c.in-Importance.is, ← c.self.view_is) c.recheck.ensures.stands

pub returns-in-Importance-clause-row : goal.returns-in-Importance-clause-row
returns-in-Importance-clause-row c = rw (c.in-Importance.is, ← c.self.view_is) c.recheck.ensures.row

pub returns-in-Bank-clause-stands : goal.returns-in-Bank-clause-stands
returns-in-Bank-clause-stands c = rw (c.in-Bank.is, ← c.self.view_is) c.recheck-in-Bank.ensures.stands

pub returns-in-Bank-clause-row : goal.returns-in-Bank-clause-row
returns-in-Bank-clause-row c = rw (c.in-Bank.is, ← c.self.view_is) c.recheck-in-Bank.ensures.row

pub returns-in-User-clause-stands : goal.returns-in-User-clause-stands
returns-in-User-clause-stands c = rw (c.in-User.is, ← c.self.view_is) c.recheck-in-User.ensures.stands

pub returns-in-User-clause-row : goal.returns-in-User-clause-row
returns-in-User-clause-row c = rw (c.in-User.is, ← c.self.view_is) c.recheck-in-User.ensures.row

pub returns-in-Test-clause-stands : goal.returns-in-Test-clause-stands
returns-in-Test-clause-stands c = rw (c.in-Test.is, ← c.self.view_is) c.recheck-in-Test.ensures.stands

pub returns-in-Test-clause-row : goal.returns-in-Test-clause-row
returns-in-Test-clause-row c = rw (c.in-Test.is, ← c.self.view_is) c.recheck-in-Test.ensures.row
