use Rattle.vch_legal.proofs.reports.RunReports.{run_reportable}
use Rattle.vch_legal.proofs.legal_reports_are_well_formed.Goals as goal

pub returns-clause-run : goal.returns-clause-run
returns-clause-run c = run_reportable
