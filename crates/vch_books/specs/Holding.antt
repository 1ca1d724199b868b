-- Which live value has what content, and whether it is held, by numbers.
use Rattle.std.specs.Prelude.{ℕ, Bool, ◌==◌, nat_eq, nat_lt, if◌then◌else◌, List, [], ◌∷◌, ◌++◌, Option, Some, None}
use Rattle.std.specs.List.{list_any, flat_map}
use Rattle.vch_base.specs.declared.value.Value.{Value}
use Rattle.vch_model.specs.declared.entry.Entry.{Entry}
use Rattle.vch_model.specs.Store.{is_alive}
use Rattle.vch_books.specs.declared.numbers.Numbers.{Numbers}
use Rattle.vch_books.specs.declared.rows.Named.{Named}
use Rattle.vch_books.specs.declared.rows.Message.{Message}
use Rattle.vch_books.specs.declared.holders.Holders.{Holders}
use Rattle.vch_books.specs.Counts.{Counts, HasEachOnce, different_by}
use Rattle.vch_books.specs.Desks.{Desk, same_numbers}
use Rattle.vch_books.specs.Numbered.{alive_of}

-- the number of a live value
abbrev pub number_with : List Entry → List ℕ → ℕ → Value → Option ℕ
number_with history [] k x = None
number_with history (e ∷ live) k x = if is_alive k x (alive_of history e) then Some e else number_with history live k x

-- the number is one of these
abbrev pub is_one : List ℕ → ℕ → Bool
is_one live e = list_any (λ d. d == e) live

-- All vouchers that tasks have.

abbrev pub numbers_of : Message → List Numbers
numbers_of q = elim q.voucher [ None ↦ [] | Some v ↦ v ∷ [] ]

abbrev pub desk_numbers : Desk → List Numbers
desk_numbers d = flat_map (λ (n : Named). n.voucher ∷ []) d.names ++ flat_map numbers_of d.queue

abbrev pub all_numbers : List Desk → List Numbers
all_numbers [] = []
all_numbers (d ∷ tasks) = desk_numbers d ++ all_numbers tasks

-- how many different ones a list has
abbrev pub different_numbers : List Numbers → ℕ
different_numbers vs = different_by same_numbers vs

-- The numbers that a voucher holds: those of its values but for Default.

abbrev pub number_list : Option ℕ → List ℕ
number_list None = []
number_list (Some n) = if nat_lt 0 n then n ∷ [] else []

abbrev pub numbers_in : Numbers → List ℕ
numbers_in v = number_list v.importance ++ (number_list v.bank ++ (number_list v.user ++ number_list v.test))

-- the counts are those of a list of vouchers, and of the numbers in them where each voucher is taken once
pub record AreHeld (holders : Holders) (vs : List Numbers) : Type 0 where
  pub vouchers : Counts same_numbers holders.vouchers.counts vs
  pub each : List Numbers
  pub once : HasEachOnce same_numbers each vs
  pub numbers : Counts nat_eq holders.numbers.counts (flat_map numbers_in each)

-- the numbers of all vouchers that tasks have
abbrev pub held_numbers : List Desk → List ℕ
held_numbers tasks = flat_map numbers_in (all_numbers tasks)

-- the first number that is not held
abbrev pub first_unheld : List Desk → List ℕ → Option ℕ
first_unheld tasks [] = None
first_unheld tasks (e ∷ live) = if is_one (held_numbers tasks) e then first_unheld tasks live else Some e
