-- The text of a report, and the first line of a text that can't stand at its place.
use Rattle.std.specs.Prelude.{◌≡◌, ℕ, ◌+◌, List, [], ◌∷◌, ◌++◌, length, Result, Ok, Err}
use Rattle.std.specs.List.{flat_map}
use Rattle.vch_model.specs.Text.{newline}
use Rattle.vch_model.specs.TextLines.{split_of}
use Rattle.vch_report.specs.declared.report.Report.{Report}
use Rattle.vch_report.specs.declared.fault.ReportFault.{ReportFault}
use Rattle.vch_report.specs.declared.fault.ReportFault.TheVariants as faults
use Rattle.vch_report.specs.WellFormed.{IsWellFormed}
use Rattle.vch_report.specs.Items.{text_of}

-- the text is that of the report
abbrev pub IsReport : List ℕ → Report → Type 0
IsReport text report = IsWellFormed report × (text ≡ text_of report)

-- two reports that tell the same; the room of their histories doesn't count
pub record IsSame (a b : Report) : Type 0 where
  pub version : a.version ≡ b.version
  pub entries : a.history.entries ≡ b.history.entries
  pub totals : a.totals ≡ b.totals
  pub vouchers : a.vouchers ≡ b.vouchers
  pub values : a.values ≡ b.values

-- lines, each with the line feed that ends it
abbrev pub lines_text : List (List ℕ) → List ℕ
lines_text lines = flat_map (λ l. l ++ newline) lines

-- the lines begin the text of some report
abbrev pub IsBegun : List (List ℕ) → Type 0
IsBegun lines = (report : Report) × (more : List ℕ) × IsReport (lines_text lines ++ more) report

-- no report's text goes on with the next line; or the text ends here and is no report's
abbrev pub IsStuck : List ℕ → List (List ℕ) → List (List ℕ) → Type 0
IsStuck text before [] = (report : Report) → IsReport text report → ⊥
IsStuck text before (l ∷ after) = IsBegun (before ++ l ∷ []) → ⊥

-- the first line that can't stand at its place: the lines before it begin the text of some report, and with it they
-- begin none. An unfinished last line, a missing line at the end and bytes behind the last line are such lines
pub record IsFault (text : List ℕ) (line : ℕ) : Type 0 where
  pub before : List (List ℕ)
  pub after : List (List ℕ)
  pub lines : (split_of text).0 ≡ before ++ after
  pub number : line ≡ length before + 1
  pub begun : IsBegun before
  pub stuck : IsStuck text before after

-- what reading answers where the text is a report's, unless memory ran out
abbrev pub IsRead : Result Report ReportFault → Report → Type 0
IsRead (Ok report) wanted = IsSame report wanted
IsRead (Err (faults.NoMemory cause)) wanted = Unit {0}
IsRead (Err (faults.At line)) wanted = ⊥

-- what reading answers where the text has a fault, unless memory ran out
abbrev pub IsRefused : Result Report ReportFault → ℕ → Type 0
IsRefused (Ok report) wanted = ⊥
IsRefused (Err (faults.NoMemory cause)) wanted = Unit {0}
IsRefused (Err (faults.At line)) wanted = line ≡ wanted

-- a fault that is answered is the text's
abbrev pub IsFaultOf : Result Report ReportFault → List ℕ → Type 0
IsFaultOf (Ok report) text = Unit {0}
IsFaultOf (Err (faults.NoMemory cause)) text = Unit {0}
IsFaultOf (Err (faults.At line)) text = IsFault text line
