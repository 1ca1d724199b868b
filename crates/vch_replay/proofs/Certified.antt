-- What is judged of two texts.
use Rattle.std.proofs.Common.{◌≡◌, ◌⊎◌, ℕ, ◌+◌, ◌≤◌, List, [], ◌∷◌, ◌++◌, length, arith, ap, ◌∙◌, subst, inr, codes}
use Rattle.std.specs.List.{flat_map}
use Rattle.std.proofs.lemmas.List.{length-append}
use Rattle.vch_model.specs.declared.entry.Entry.{Entry}
use Rattle.vch_model.specs.declared.lists.Scenario.{Scenario}
use Rattle.vch_model.specs.Scenarios.{IsScenario}
use Rattle.vch_model.specs.Text.{entry_text, entry_line, newline, spaced, report_text, total_lines, last_lines}
use Rattle.vch_report.specs.declared.report.Report.{Report}
use Rattle.vch_report.specs.Faults.{IsReport}
use Rattle.vch_report.specs.Items.{text_of}
use Rattle.vch_replay.specs.TwoTexts.{scenario_part, report_part}
use Rattle.vch_replay.specs.declared.command.Command.TheVariants as commands
use Rattle.vch_replay.specs.declared.outcome.Outcome.{Outcome}
use Rattle.vch_replay.specs.declared.outcome.Outcome.TheVariants as outcomes
use Rattle.vch_replay.specs.Run.{Comes, IsJudged}

pub judged_comes : (input : List ℕ) (sc : Scenario) (outcome : Outcome) → IsScenario (scenario_part input) sc → IsJudged sc (report_part input) outcome
    → Comes commands.Certify input outcome
judged_comes input sc (outcomes.Answered text) is j = (sc, is, j)
judged_comes input sc (outcomes.Refused line) is j = inr (sc, is, j)

-- each entry has a line of at least one byte
entries_long : (history : List Entry) → length history ≤ length (flat_map entry_line history)
entries_long [] = omega arith
entries_long (e ∷ history) =
    let a : length (entry_line e ++ flat_map entry_line history) ≡ length (entry_line e) + length (flat_map entry_line history) = length-append (entry_line e) (flat_map entry_line history) in
    let b : length (entry_text e ++ newline) ≡ length (entry_text e) + 1 = length-append (entry_text e) newline in
    let c : length history ≤ length (flat_map entry_line history) = entries_long history in
    omega (arith, a, b, c)

middle_long : (a b c d : List ℕ) → length b ≤ length (((a ++ b) ++ c) ++ d)
middle_long a b c d =
    let x : length (((a ++ b) ++ c) ++ d) ≡ length ((a ++ b) ++ c) + length d = length-append ((a ++ b) ++ c) d in
    let y : length ((a ++ b) ++ c) ≡ length (a ++ b) + length c = length-append (a ++ b) c in
    let z : length (a ++ b) ≡ length a + length b = length-append a b in
    omega (arith, x, y, z)

-- a text has at least as many bytes as its report has entries
pub entries_few : (text : List ℕ) (report : Report) → IsReport text report → length report.history.entries ≤ length text
unfolding report_text
entries_few text report is =
    let a : length report.history.entries ≤ length (flat_map entry_line report.history.entries) = entries_long report.history.entries in
    let b : length (flat_map entry_line report.history.entries) ≤ length (text_of report) =
    middle_long ((codes "report" ++ spaced report.version) ++ newline) (flat_map entry_line report.history.entries) (total_lines 1 report.totals) (last_lines report.vouchers report.values) in
    let e : length text ≡ length (text_of report) = ap length is.1 in
    omega (arith, a, b, e)
