use Rattle.std.proofs.Common.{length, arith, subst, sym, ap, ◌∙◌}
use Rattle.vch_model.specs.declared.lists.Scenario.{Scenario}
use Rattle.vch_vouchers.specs.Desks.{AreLimits}
use Rattle.vch_parts.proofs.starting.NewParts.{limits_are}
use Rattle.vch_parts.proofs.start.new_vouchers.Goals as goal

pub new-requires : goal.new-requires
new-requires c =
    let same = c.deref.ensures.value ∙ c.in_ok-limits.ensures ∙ ap (λ (sc : Scenario). sc.queues) c.scenario.ensures in
    record {
      limits = subst AreLimits (sym same) (limits_are c.args.scenario.now.version c.args.scenario.now.queues c.requires.limits);
      few = omega (arith, ap length same, c.requires.queues, c.requires.tasks);
    }
