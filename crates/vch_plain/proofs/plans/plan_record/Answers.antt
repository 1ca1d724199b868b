use Rattle.std.proofs.Common.{subst}
use Rattle.vch_recipe.specs.declared.step.Step.{Step}
use Rattle.vch_plain.specs.Reading.{Reads}
use Rattle.vch_plain.proofs.Planning.{plans_ok, plans_err}
use Rattle.vch_plain.proofs.plans.plan_record.Goals as goal

pub returns-in-Ok : goal.returns-in-Ok
returns-in-Ok c = λ at first h.
    plans_ok c.args.version c.args.names.now at c.args.map.now c.in-One.key c.in-One.command c.in-One.previous c.in-One.next c.in-One.content first c.in-Ok.plan c.in-Ok.ensures
    (subst (λ (s : Step). Reads at first s) c.in-One.is h)

pub returns-in-Err : goal.returns-in-Err
returns-in-Err c = λ at first h.
    plans_err c.args.version c.args.names.now at c.args.map.now c.in-One.key c.in-One.command c.in-One.previous c.in-One.next c.in-One.content first c.in-Err.code c.in-Err.ensures
    (subst (λ (s : Step). Reads at first s) c.in-One.is h)
