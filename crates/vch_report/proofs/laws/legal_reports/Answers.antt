use Rattle.vch_report.proofs.from_core.Histories.{legal_report, run_report}
use Rattle.vch_report.proofs.laws.legal_reports.Goals as goal

pub returns-clause-legal : goal.returns-clause-legal
returns-clause-legal c = legal_report

pub returns-clause-run : goal.returns-clause-run
returns-clause-run c = run_report
