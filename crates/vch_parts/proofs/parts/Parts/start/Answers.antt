use Rattle.std.proofs.Common.{◌∙◌, ap, length, refl}
use Rattle.vch_model.specs.Scenarios.{line_count}
use Rattle.vch_model.specs.declared.lists.Scenario.{Scenario}
use Rattle.vch_parts.proofs.starting.NewParts.{new_parts, new_reached, new_stands}
use Rattle.vch_parts.proofs.parts.Parts.start.Goals as goal

pub returns-clause-reached : goal.returns-clause-reached
returns-clause-reached c = new_reached _ c.requires
    (new_parts c.args.scenario c.requires c.in_ok-values.values c.in_ok-vouchers.vouchers c.in_ok-frames.frames c.in_ok-history.history c.len.result (line_count c.args.scenario.phases) (length c.args.scenario.phases)
    c.in_ok-values.ensures c.in_ok-vouchers.ensures c.in_ok-frames.ensures (c.len.ensures ∙ ap (λ (sc : Scenario). length sc.flags) c.scenario-2.ensures)
    c.in_ok-history.ensures.empty c.in_ok-history.ensures.room refl refl)

pub returns-clause-stands : goal.returns-clause-stands
returns-clause-stands c = new_stands _ c.requires
    (new_parts c.args.scenario c.requires c.in_ok-values.values c.in_ok-vouchers.vouchers c.in_ok-frames.frames c.in_ok-history.history c.len.result (line_count c.args.scenario.phases) (length c.args.scenario.phases)
    c.in_ok-values.ensures c.in_ok-vouchers.ensures c.in_ok-frames.ensures (c.len.ensures ∙ ap (λ (sc : Scenario). length sc.flags) c.scenario-2.ensures)
    c.in_ok-history.ensures.empty c.in_ok-history.ensures.room refl refl)
