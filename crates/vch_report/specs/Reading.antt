-- What the lines of a text make of a report, one after the other.
use Rattle.std.specs.Prelude.{◌≡◌, ℕ, ◌+◌, ◌==◌, ◌&&◌, ◌||◌, not, Bool, true, false, if◌then◌else◌, List, [], ◌∷◌, ◌++◌, length, Option, Some, None, Result, Ok, Err}
use Rattle.vch_model.specs.declared.call.Word.{Word}
use Rattle.vch_model.specs.declared.call.Word.TheVariants as words
use Rattle.vch_model.specs.declared.entry.Entry.{Entry}
use Rattle.vch_model.specs.declared.entry.Entry.TheVariants as entries
use Rattle.vch_model.specs.declared.total.Total.{Total}
use Rattle.vch_model.specs.TextLines.{split_of}
use Rattle.vch_report.specs.declared.report.Report.{Report}
use Rattle.vch_report.specs.declared.draft.Draft.{Draft}
use Rattle.vch_report.specs.declared.draft.Place.{Place}
use Rattle.vch_report.specs.declared.draft.Place.TheVariants as places
use Rattle.vch_report.specs.declared.fault.ReportFault.{ReportFault}
use Rattle.vch_report.specs.declared.fault.ReportFault.TheVariants as faults
use Rattle.vch_report.specs.declared.fault.Stop.{Stop}
use Rattle.vch_report.specs.declared.fault.Stop.TheVariants as stops
use Rattle.vch_report.specs.declared.item.Item.{Item}
use Rattle.vch_report.specs.declared.item.Item.TheVariants as items
use Rattle.vch_text.specs.Reading.{◌>>=◌}
use Rattle.vch_report.specs.Lines.{item_of}

-- what was read so far, and which lines may stand next
pub record Read : Type 0 where
  pub place : Place
  pub version : ℕ
  pub entries : List Entry
  pub totals : List Total
  pub vouchers : ℕ
  pub values : ℕ

abbrev pub nothing : Read
nothing = record { place = places.Title; version = 0; entries = []; totals = []; vouchers = 0; values = 0 }

-- what a draft keeps, but for the room in its history
abbrev pub kept : Draft → Read
kept d = record { place = d.place; version = d.version; entries = d.history.entries; totals = d.totals; vouchers = d.vouchers; values = d.values }

-- a report that was read to its end
abbrev pub whole : Report → Read
whole r = record { place = places.Done; version = r.version; entries = r.history.entries; totals = r.totals; vouchers = r.vouchers; values = r.values }

-- the line of the next task
abbrev pub with_total : Read → ℕ → Total → Option Read
with_total d t total = if t == length d.totals + 1 then Some (record d { place = places.Totals; totals = d.totals ++ total ∷ [] }) else None

abbrev pub is_exit : Word → Bool
is_exit words.Exit = true
is_exit word = false

-- what is of version 2 alone: an exit, what it gives up, and a value at the key of tests
abbrev pub is_later : Entry → Bool
is_later (entries.Call t n word reply) = is_exit word
is_later (entries.Made key x) = key == 8
is_later (entries.Released e) = false
is_later (entries.Gone t name) = true
is_later (entries.Lost t) = true
is_later entries.Phase = false

abbrev pub is_of : ℕ → Entry → Bool
is_of version entry = version == 2 || not (is_later entry)

abbrev pub with_entry : Read → Entry → Option Read
with_entry d entry = if is_of d.version entry then Some (record d { entries = d.entries ++ entry ∷ [] }) else None

-- what was read with one item more, where that may stand at this place
abbrev pub with_item : Place → Read → Item → Option Read
with_item places.Title d (items.Title version) = Some (record d { place = places.Entries; version = version })
with_item places.Entries d (items.Step entry) = with_entry d entry
with_item places.Entries d (items.Task t total) = with_total d t total
with_item places.Totals d (items.Task t total) = with_total d t total
with_item places.Totals d (items.Counts vouchers values) = Some (record d { place = places.End; vouchers = vouchers; values = values })
with_item places.End d items.End = Some (record d { place = places.Done })
with_item place d i = None

-- what the next line makes of what was read
unfoldable pub step_of : Read → List ℕ → Option Read
step_of d line = do
  i ← item_of line
  with_item d.place d i

abbrev pub is_done : Place → Bool
is_done places.Done = true
is_done place = false

abbrev pub is_empty : List ℕ → Bool
is_empty [] = true
is_empty (c ∷ cs) = false

unfoldable pub finish : ℕ → Read → List ℕ → Result Read ℕ
finish n d rest = if is_done d.place && is_empty rest then Ok d else Err n

-- what the lines behind what was read give, the first of them with this number, or the number of the first fault
unfoldable pub read_lines : ℕ → Read → List (List ℕ) → List ℕ → Result Read ℕ
read_lines n d [] rest = finish n d rest
read_lines n d (l ∷ lines) rest = elim (step_of d l) [ Some e ↦ read_lines (n + 1) e lines rest | None ↦ Err n ]

abbrev pub read_text : ℕ → Read → List (List ℕ) × List ℕ → Result Read ℕ
read_text n d parts = read_lines n d parts.0 parts.1

unfoldable pub read_of : List ℕ → Result Read ℕ
read_of text = read_text 1 nothing (split_of text)

-- what a function returned, seen by view, is what there is to be found, unless memory ran out
abbrev pub Gives : {X Y : Type 0} → (X → Y) → Result X Stop → Option Y → Type 0
Gives view (Ok x) read = read ≡ Some (view x)
Gives view (Err stops.Fault) read = read ≡ None
Gives view (Err (stops.Memory cause)) read = Unit {0}

-- the same for a whole text
abbrev pub Reads : Result Report ReportFault → Result Read ℕ → Type 0
Reads (Ok report) read = read ≡ Ok (whole report)
Reads (Err (faults.NoMemory cause)) read = Unit {0}
Reads (Err (faults.At line)) read = read ≡ Err line

abbrev pub fault_at : ℕ → Stop → ReportFault
fault_at n (stops.Memory cause) = faults.NoMemory cause
fault_at n stops.Fault = faults.At n
