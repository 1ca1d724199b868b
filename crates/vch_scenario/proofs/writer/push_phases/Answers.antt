use Rattle.std.proofs.Common.{◌+◌, ◌++◌, ◌∙◌, ap, take, append_assoc}
use Rattle.vch_model.specs.Grammar.{Phase}
use Rattle.vch_model.specs.Canonical.{item_line, items_text}
use Rattle.vch_model.specs.Scenarios.{line_items, phase_items}
use Rattle.vch_scenario.proofs.wholes.Texts.{pushed, phase_next}
use Rattle.vch_scenario.proofs.writer.push_phases.Goals as goal

pub loop-i-preserved : goal.loop-i-preserved
loop-i-preserved c =
    let ps = c.args.phases.now in
    let i = c.loop-i.i in
    let p = c.at.result.now in
    let more = item_line Phase ++ items_text (line_items p) in
    pushed c.args.out.now.items (items_text (phase_items (take i ps))) more (items_text (phase_items (take (i + 1) ps))) c.loop-i.out.items c.push_lines.new.out.items c.loop-i.invariant
    (c.in_ok-push_lines.ensures ∙ ap (λ l. l ++ items_text (line_items p)) c.in_ok-push_text.ensures.ok ∙ append_assoc c.loop-i.out.items (item_line Phase) (items_text (line_items p))) (phase_next ps i p c.at.ensures)
