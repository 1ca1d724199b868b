use Rattle.std.proofs.Common.{ap, subst}
use Rattle.vch_model.specs.declared.lists.Scenario.{Scenario}
use Rattle.vch_books.specs.Audits.{Audit}
use Rattle.vch_judge.specs.declared.judge.Judged.{Judged}
use Rattle.vch_judge.specs.Judged.{IsHistory}
use Rattle.vch_certify.specs.Verdicts.{IsVerdict, history_of}
use Rattle.vch_certify.proofs.check.certify.Goals as goal

pub returns-in-Legal : goal.returns-in-Legal
returns-in-Legal c = subst (λ (sc : Scenario). IsVerdict sc c.args.report.now c.on_legal.result)
    (ap (λ (a : Audit). a.scenario) (subst (λ (j : Judged). IsHistory c.args.scenario.now (history_of c.args.report.now) j) c.in-Legal.is c.in_ok-books.ensures))
    c.on_legal.ensures
