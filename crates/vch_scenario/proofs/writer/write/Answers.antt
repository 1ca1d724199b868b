use Rattle.std.proofs.Common.{◌≡◌, ◌∙◌, ◌++◌, ℕ, List, ap, sym, subst}
use Rattle.std.specs.Fmt.{decimal}
use Rattle.vch_model.specs.declared.lists.Scenario.{Scenario}
use Rattle.vch_model.specs.Scenarios.{IsScenario}
use Rattle.vch_model.specs.Canonical.{Canon, IsWritable}
use Rattle.vch_scenario.proofs.wholes.Canons.{canon_scenario}
use Rattle.vch_scenario.proofs.wholes.Texts.{written}
use Rattle.vch_scenario.proofs.writer.write.Goals as goal

read_again : (text : List ℕ) (sc : Scenario) → text ≡ Canon sc → IsWritable sc → IsScenario text sc
read_again text sc e w = subst (λ (x : List ℕ). IsScenario x sc) (sym e) (canon_scenario sc w)

pub returns : goal.returns
returns c =
    let sc = c.args.scenario.now in
    let text = c.push_text-4.new.out.items in
    let canonical : text ≡ Canon sc = written sc c.new-out.result.items c.push_text.new.out.items c.push_number.new.out.items c.push_text-2.new.out.items c.push_number-2.new.out.items c.push_text-3.new.out.items c.push_tasks.new.out.items
    c.push_phases.new.out.items text c.new-out.ensures.items c.in_ok-push_text.ensures.ok c.in_ok-push_number.ensures.ok c.in_ok-push_text-2.ensures.ok
    (c.in_ok-push_number-2.ensures.ok ∙ ap (λ n. c.push_text-2.new.out.items ++ decimal n) c.len.ensures) c.in_ok-push_text-3.ensures.ok c.in_ok-push_tasks.ensures c.in_ok-push_phases.ensures c.in_ok-push_text-4.ensures.ok in
    record { canonical = canonical; again = λ w. read_again text sc canonical w }
