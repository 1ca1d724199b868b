use Rattle.std.proofs.Common.{◌∙◌, sym, ap, subst}
use Rattle.std.specs.List.{AllByRecursion}
use Rattle.vch_model.specs.Rows.{Entries}
use Rattle.vch_model.specs.declared.lists.Scenario.{Scenario}
use Rattle.vch_report.specs.OfCore.{HasTask}
use Rattle.vch_report.specs.WellFormed.{Making}
use Rattle.vch_report.proofs.from_core.CoreReports.{run_copied, run_tells, run_formed}
use Rattle.vch_report.proofs.of_core.report_of.Goals as goal

pub copy_history-requires : goal.copy_history-requires
copy_history-requires c = subst (λ (h : Entries). AllByRecursion (Making HasTask) h.entries) (sym c.history.ensures) (run_copied c.args.core.now c.know.ensures c.requires.writable)

pub returns-clause-tells : goal.returns-clause-tells
returns-clause-tells c = run_tells c.args.core.now c.know.ensures c.requires.writable _ (ap (λ (sc : Scenario). sc.version) c.scenario.ensures)
    (c.in_ok-history.ensures.same ∙ ap (λ (h : Entries). h.entries) c.history.ensures)
    c.in_ok-totals.ensures c.vouchers-vouchers.ensures c.values-values.ensures

pub returns-clause-well_formed : goal.returns-clause-well_formed
returns-clause-well_formed c = run_formed c.args.core.now c.know.ensures c.requires.writable _ (ap (λ (sc : Scenario). sc.version) c.scenario.ensures)
    (c.in_ok-history.ensures.same ∙ ap (λ (h : Entries). h.entries) c.history.ensures)
    c.in_ok-totals.ensures c.vouchers-vouchers.ensures c.values-values.ensures c.in_ok-history.ensures.bytes
