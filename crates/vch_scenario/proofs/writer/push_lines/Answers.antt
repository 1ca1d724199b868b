use Rattle.std.proofs.Common.{◌+◌, take}
use Rattle.vch_model.specs.Grammar.{Calls}
use Rattle.vch_model.specs.Canonical.{item_line, items_text}
use Rattle.vch_model.specs.Scenarios.{line_items}
use Rattle.vch_scenario.proofs.wholes.Texts.{pushed, line_next}
use Rattle.vch_scenario.proofs.writer.push_lines.Goals as goal

pub loop-i-preserved : goal.loop-i-preserved
loop-i-preserved c =
    let ls = c.args.lines.now in
    let i = c.loop-i.i in
    let l = c.at.result.now in
    pushed c.args.out.now.items (items_text (line_items (take i ls))) (item_line (Calls l)) (items_text (line_items (take (i + 1) ls))) c.loop-i.out.items c.push_line.new.out.items c.loop-i.invariant c.in_ok-push_line.ensures (line_next ls i l c.at.ensures)
