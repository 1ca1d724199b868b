use Rattle.std.proofs.Common.{◌∙◌, ap}
use Rattle.vch_base.specs.Managers.{answer}
use Rattle.vch_values.specs.Parts.{flags_of}
use Rattle.vch_values.proofs.Rules.{rules_of_key, answers_own}
use Rattle.vch_values.proofs.values.Values.know.Goals as goal

pub returns-clause-rules : goal.returns-clause-rules
returns-clause-rules c = rules_of_key c.args.self.now (rw (← c.self.view_is) c.self.invariant)

pub returns-clause-answers : goal.returns-clause-answers
returns-clause-answers c k t command previous content =
    ap (λ r. answer r t command previous content) (rules_of_key c.args.self.now (rw (← c.self.view_is) c.self.invariant) k) ∙ answers_own k (flags_of c.args.self.now) t command previous content
