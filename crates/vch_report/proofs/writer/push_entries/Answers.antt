use Rattle.std.proofs.Common.{◌+◌, take}
use Rattle.std.specs.List.{flat_map}
use Rattle.vch_model.specs.Text.{entry_line}
use Rattle.vch_report.proofs.wholes.Loops.{pushed, entry_next}
use Rattle.vch_report.proofs.writer.push_entries.Goals as goal

pub loop-i-preserved : goal.loop-i-preserved
loop-i-preserved c =
    let es = c.args.history.now.entries in
    let i = c.loop-i.i in
    let e = c.at.result.now in
    pushed c.args.out.now.items (flat_map entry_line (take i es)) (entry_line e) (flat_map entry_line (take
    (i + 1) es)) c.loop-i.out.items c.push_entry.new.out.items c.loop-i.invariant c.in_ok-push_entry.ensures
    (entry_next es i e c.at.ensures)
