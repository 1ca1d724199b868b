-- What the code does to the sums.
use Rattle.std.specs.Prelude.{◌≡◌, ℕ, ◌+◌, ◌-◌, ◌==◌, if◌then◌else◌, List, length, Some, None, is_some}
use Rattle.vch_base.specs.Tasks.{at_task, set_task}
use Rattle.vch_sums.specs.declared.row.Share.{Share}
use Rattle.vch_sums.specs.declared.row.Share.TheVariants as shares
use Rattle.vch_sums.specs.declared.row.Row.{Row}
use Rattle.vch_sums.specs.Summed.{Summed, row_at}

-- a task's number rises, or falls
abbrev pub raised : List ℕ → ℕ → ℕ → List ℕ
raised counts t n = set_task counts t (at_task counts t 0 + n)

abbrev pub lowered : List ℕ → ℕ → ℕ → List ℕ
lowered counts t n = set_task counts t (at_task counts t 0 - n)

-- what a value counts with an amount: a list of two or more its external count, and 1 where its first task is a donor
abbrev pub share_weight : Share → ℕ → ℕ
share_weight (shares.List first last donor) amount = amount + (if donor then 1 else 0)
share_weight (shares.Account holder) amount = 0
share_weight shares.Other amount = 0

-- so many more, or fewer, for the last task of a list
abbrev pub held_more : Share → ℕ → List ℕ → List ℕ
held_more (shares.List first last donor) n counts = raised counts last n
held_more (shares.Account holder) n counts = counts
held_more shares.Other n counts = counts

abbrev pub held_less : Share → ℕ → List ℕ → List ℕ
held_less (shares.List first last donor) n counts = lowered counts last n
held_less (shares.Account holder) n counts = counts
held_less shares.Other n counts = counts

-- for its first task
abbrev pub out_more : Share → ℕ → List ℕ → List ℕ
out_more (shares.List first last donor) n counts = raised counts first n
out_more (shares.Account holder) n counts = counts
out_more shares.Other n counts = counts

abbrev pub out_less : Share → ℕ → List ℕ → List ℕ
out_less (shares.List first last donor) n counts = lowered counts first n
out_less (shares.Account holder) n counts = counts
out_less shares.Other n counts = counts

-- the last task of a list holds more, or less, and as much is out from its first
abbrev pub gains : Share → ℕ → Summed → Summed
gains share n sums = record sums { held = held_more share n sums.held; out = out_more share n sums.out }

abbrev pub loses : Share → ℕ → Summed → Summed
loses share n sums = record sums { held = held_less share n sums.held; out = out_less share n sums.out }

-- what is due on an account is credited to its holder
abbrev pub credited : Row → List ℕ → List ℕ
credited row counts = of_share row.share
  where
    of_share : Share → List ℕ
    of_share (shares.Account holder) = raised counts holder row.amount
    of_share (shares.List first last donor) = counts
    of_share shares.Other = counts

-- the row of a number is written, or gone, and all else stays
pub record Puts (number : ℕ) (row : Row) (old new : Summed) : Type 0 where
  pub rows : (q : ℕ) → row_at new.rows q ≡ (if number == q then Some row else row_at old.rows q)
  pub many : length new.rows ≡ length old.rows + (if is_some (row_at old.rows number) then 0 else 1)
  pub rest : new ≡ record old { rows = new.rows }

pub record Takes (number : ℕ) (old new : Summed) : Type 0 where
  pub rows : (q : ℕ) → row_at new.rows q ≡ (if number == q then None else row_at old.rows q)
  pub many : length new.rows + (if is_some (row_at old.rows number) then 1 else 0) ≡ length old.rows
  pub rest : new ≡ record old { rows = new.rows }

-- A row and its assertions change together.

abbrev pub Gains : ℕ → Row → ℕ → Summed → Summed → Type 0
Gains number row n old new = (mid : Summed) × Puts number row old mid × (new ≡ gains row.share n mid)

abbrev pub Loses : ℕ → Row → ℕ → Summed → Summed → Type 0
Loses number row n old new = (mid : Summed) × Puts number row old mid × (new ≡ loses row.share n mid)

-- a row goes: what is due is credited, and its assertions go back
abbrev pub Settles : ℕ → Row → Summed → Summed → Type 0
Settles number row old new =
    (mid : Summed) × Takes number old mid
    × (new ≡ loses row.share (share_weight row.share row.amount) (record mid { ledgers = credited row mid.ledgers }))
