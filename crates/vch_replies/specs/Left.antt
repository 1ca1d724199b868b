-- What an accepted change of an external count or an accepted charge leaves of the parts, and what has to hold of it.
use Rattle.std.specs.Prelude.{◌≡◌, ℕ, List, slice_set, Some}
use Rattle.vch_base.specs.declared.key.Key.{Key}
use Rattle.vch_base.specs.declared.key.Key.TheVariants as keys
use Rattle.vch_base.specs.declared.places.Live.{Live}
use Rattle.vch_base.specs.Keyed.{Keyed, of_key}
use Rattle.vch_base.specs.Managers.{Kept, live_at, with_due}
use Rattle.vch_bank.specs.Bank.{charged}
use Rattle.vch_bank.specs.declared.payer.Payer.{Payer}
use Rattle.vch_model.specs.declared.entry.Entry.{Entry}
use Rattle.vch_model.specs.declared.lists.Scenario.{Scenario}
use Rattle.vch_legal.specs.ValueAmounts.{amount_of}
use Rattle.vch_values.specs.Parts.{KeyParts}
use Rattle.vch_parts.specs.Moves.{with_kept}
use Rattle.vch_parts.specs.Stands.{Ledgers}

-- another amount is due on the value at a handle
abbrev pub due_set : Kept → ℕ → ℕ → Kept
due_set kept h due = record kept { slots = slice_set kept.slots h (with_due due (live_at kept.slots h)) }

-- the external count of the list at a handle is another
abbrev pub recounted : Keyed KeyParts → ℕ → ℕ → Keyed KeyParts
recounted x h due = with_kept x keys.Importance (due_set x.importance.kept h due)

-- a task's charge of n on the value at a handle falls on a ledger or on an account
abbrev pub paid : Keyed KeyParts → ℕ → ℕ → ℕ → Payer → Keyed KeyParts
paid x h t n payer = with_kept x keys.Bank (charged x.bank.kept h t n payer)

-- on each live value is due, and in each ledger is, what the history adds up for it
pub record AddsUp (sc : Scenario) (past : List Entry) (x : Keyed KeyParts) : Type 0 where
  pub dues : (k : Key) (h : ℕ) (l : Live) → live_at (of_key k x).kept.slots h ≡ Some l → l.due ≡ amount_of sc past l.value
  pub ledgers : Ledgers sc past x.bank.kept.ledgers
