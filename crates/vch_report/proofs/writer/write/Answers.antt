use Rattle.vch_report.proofs.wholes.Loops.{written, all_made}
use Rattle.vch_report.proofs.writer.write.Goals as goal

pub push_entries-requires : goal.push_entries-requires
push_entries-requires c = let r = c.args.report.now in all_made r.version r.history.entries c.requires.entries

pub returns : goal.returns
returns c =
    written c.args.report.now c.new-out.result.items c.push_text.new.out.items c.push_spaced.new.out.items c.push_text-2.new.out.items c.push_entries.new.out.items c.push_totals.new.out.items c.push_last.new.out.items
    c.new-out.ensures.items c.in_ok-push_text.ensures.ok c.in_ok-push_spaced.ensures.ok c.in_ok-push_text-2.ensures.ok c.in_ok-push_entries.ensures c.in_ok-push_totals.ensures c.in_ok-push_last.ensures
