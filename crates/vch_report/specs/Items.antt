-- The lines of a report.
use Rattle.std.specs.Prelude.{ℕ, List, ◌++◌, codes}
use Rattle.vch_model.specs.Text.{spaced, entry_text, total_text, counts_text, report_text}
use Rattle.vch_report.specs.declared.report.Report.{Report}
use Rattle.vch_report.specs.declared.item.Item.{Item}
use Rattle.vch_report.specs.declared.item.Item.TheVariants as items

-- the text of a report
abbrev pub text_of : Report → List ℕ
text_of report = report_text report.version report.history.entries report.totals report.vouchers report.values

-- an item, without the end of its line
abbrev pub item_text : Item → List ℕ
item_text (items.Title version) = codes "report" ++ spaced version
item_text (items.Step entry) = entry_text entry
item_text (items.Task t total) = total_text t total
item_text (items.Counts vouchers values) = counts_text vouchers values
item_text items.End = codes "end"
