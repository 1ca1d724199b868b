use Rattle.vch_values.proofs.Rules.{made_rules}
use Rattle.vch_values.proofs.values.Values.make.Goals as goal

pub invariant_of-self : goal.invariant_of-self
invariant_of-self c =
    rw (made_rules c.self.inside.importance_entries c.self.inside.importance c.make.new.manager c.args.by c.args.command c.args.previous c.args.content.now c.make.result c.make.ensures.call) c.self.invariant
