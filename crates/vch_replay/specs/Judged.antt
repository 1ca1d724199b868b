-- What `certify` says of a report, and of two texts behind one another. The lines are this project's own.
use Rattle.std.specs.Prelude.{◌≡◌, ◌⊎◌, ℕ, List, ◌++◌, codes}
use Rattle.vch_model.specs.declared.lists.Scenario.{Scenario}
use Rattle.vch_model.specs.Scenarios.{IsScenario}
use Rattle.vch_model.specs.Text.{spaced, newline}
use Rattle.vch_report.specs.declared.report.Report.{Report}
use Rattle.vch_report.specs.Faults.{IsReport}
use Rattle.vch_report.specs.Faults as reports
use Rattle.vch_certify.specs.Verdicts.{IsVerdict}
use Rattle.vch_certify.specs.declared.verdict.Flaw.{Flaw}
use Rattle.vch_certify.specs.declared.verdict.Flaw.TheVariants as flaws
use Rattle.vch_certify.specs.declared.verdict.Verdict.{Verdict}
use Rattle.vch_certify.specs.declared.verdict.Verdict.TheVariants as verdicts
use Rattle.vch_replay.specs.TwoTexts.{scenario_part, report_part}

abbrev pub flaw_text : Flaw → List ℕ
flaw_text flaws.Version = codes "version"
flaw_text (flaws.Entry number) = codes "entry" ++ spaced number
flaw_text (flaws.Call task number) = codes "call" ++ spaced task ++ spaced number
flaw_text (flaws.Phase phase) = codes "phase" ++ spaced phase
flaw_text (flaws.Left made) = codes "left" ++ spaced made
flaw_text (flaws.Total task) = codes "total" ++ spaced task
flaw_text flaws.Count = codes "count"

abbrev pub verdict_text : Verdict → List ℕ
verdict_text verdicts.Whole = codes "whole" ++ newline
verdict_text (verdicts.Not flaw) = codes "not " ++ flaw_text flaw ++ newline

-- the first line of a text that can't stand in a report, counted from the text's first
abbrev pub report_fault : ℕ → List ℕ
report_fault line = codes "fault report line" ++ spaced line ++ newline

-- the line is the verdict on the report that the text is
abbrev pub IsVerdictOn : Scenario → List ℕ → List ℕ → Type 0
IsVerdictOn sc text line = (report : Report) × IsReport text report × (verdict : Verdict) × IsVerdict sc report verdict × (line ≡ verdict_text verdict)

-- the line tells the first line of the text that can't stand in a report
abbrev pub IsReportFault : List ℕ → List ℕ → Type 0
IsReportFault text line = (at : ℕ) × reports.IsFault text at × (line ≡ report_fault at)

-- the input is a scenario's text with a report's text behind it, and this is the verdict
abbrev pub IsCertified : List ℕ → List ℕ → Type 0
IsCertified input line = (sc : Scenario) × IsScenario (scenario_part input) sc × IsVerdictOn sc (report_part input) line

-- the input is a scenario's text with something behind it that is no report's
abbrev pub IsUncertified : List ℕ → List ℕ → Type 0
IsUncertified input line = (sc : Scenario) × IsScenario (scenario_part input) sc × IsReportFault (report_part input) line

-- the input is a scenario's text with a report's text behind it
abbrev pub IsPair : List ℕ → Type 0
IsPair input = (sc : Scenario) × IsScenario (scenario_part input) sc × (report : Report) × IsReport (report_part input) report
