-- What the books keep.
use Rattle.std.specs.Prelude.{◌≡◌, ◌⊎◌, ℕ, ◌<◌, ◌≤◌, false, ◌==◌, if◌then◌else◌, List, [], ◌∷◌, length, Some}
use Rattle.std.specs.List.{AllByRecursion}
use Rattle.vch_base.specs.Tasks.{at_task}
use Rattle.vch_base.specs.Values.{is_default}
use Rattle.vch_base.specs.declared.value.Value.{Value}
use Rattle.vch_model.specs.declared.entry.Entry.{Entry}
use Rattle.vch_model.specs.declared.entry.Entry.TheVariants as entries
use Rattle.vch_model.specs.Store.{Alive}
use Rattle.vch_model.specs.Legal.{LegalPast}
use Rattle.vch_model.specs.Lines.{calls_in, phases_in}
use Rattle.vch_model.specs.Scenarios.{IsLimited}
use Rattle.vch_script.specs.Places.{ArePlaces}
use Rattle.vch_script.specs.declared.places.Spot.{Spot}
use Rattle.vch_sums.specs.Summed.{Summed, IsSummed}
use Rattle.vch_books.specs.Desks.{Desk, empty_desk}
use Rattle.vch_books.specs.Numbered.{Stands, OptionStands, store_of_lists, live_of, entry_at, key_made, numbered_value}
use Rattle.vch_books.specs.Audits.{Audit, past_at, store_at}

-- the entry with this number made a value, which is not Default, and lies among so many
pub record IsMade (history : List Entry) (taken e : ℕ) : Type 0 where
  pub key : ℕ
  pub value : Value
  pub some : 1 ≤ e
  pub inside : e ≤ taken
  pub entry : entry_at history e ≡ Some (entries.Made key value)
  pub plain : is_default value ≡ false

-- each number is above those before it
abbrev pub IsRising : List ℕ → Type 0
IsRising [] = Unit {0}
IsRising (e ∷ live) = AllByRecursion (λ d. e < d) live × IsRising live

-- the number is one of these
abbrev pub IsOneOf : List ℕ → ℕ → Type 0
IsOneOf [] e = ⊥
IsOneOf (d ∷ live) e = (d ≡ e) ⊎ IsOneOf live e

-- without a number
abbrev pub without_number : List ℕ → ℕ → List ℕ
without_number [] e = []
without_number (d ∷ live) e = if d == e then live else d ∷ without_number live e

-- no two of them made one value at one key
abbrev pub AreApart : List Entry → List ℕ → Type 0
AreApart history live = (d e : ℕ) → IsOneOf live d → IsOneOf live e → key_made (entry_at history d) ≡ key_made (entry_at history e)
    → numbered_value history d ≡ numbered_value history e → d ≡ e

-- each voucher that the task has stands
abbrev pub DeskStands : List Entry → List Alive → Desk → Type 0
DeskStands history live m =
    AllByRecursion (λ n. Stands history live n.voucher) m.names
    × AllByRecursion (λ q. OptionStands history live q.voucher) m.queue

-- the lists of the books: what the tasks have, the numbers of the live values, how many phases ended, where the lines of each
-- task stand, and what the history adds up
pub record Lists : Type 0 where
  pub tasks : List Desk
  pub live : List ℕ
  pub phases : ℕ
  pub places : List (List Spot)
  pub sums : Summed

-- they stand for what was taken
pub record Keeps (a : Audit) (l : Lists) : Type 0 where
  pub limited : IsLimited a.scenario
  pub short : length a.history < 4294967296
  pub inside : a.taken ≤ length a.history
  pub legal : LegalPast a.scenario (past_at a)
  pub store : store_at a ≡ store_of_lists a.history l.tasks l.live
  pub long : length l.tasks ≡ length a.scenario.flags
  pub made : AllByRecursion (IsMade a.history a.taken) l.live
  pub rising : IsRising l.live
  pub apart : AreApart a.history l.live
  pub stands : AllByRecursion (DeskStands a.history (live_of a.history l.live)) l.tasks
  pub begun : (t : ℕ) → (at_task l.tasks t empty_desk).begun ≡ calls_in (past_at a) t
  pub ended : l.phases ≡ phases_in (past_at a)
  pub placed : ArePlaces a.scenario l.places
  pub summed : IsSummed a.scenario (past_at a) l.sums
