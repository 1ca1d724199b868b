-- What a history adds up, and how it changes with one entry more. A history is given with its newest entry first.
use Rattle.std.specs.Prelude.{◌≡◌, ℕ, ◌-◌, ◌≤◌, Bool, true, false, not, ◌&&◌, nat_lt, nat_eq, if◌then◌else◌, List, ◌∷◌, length, slice_index, Option, Some, None}
use Rattle.std.specs.Map.{lookup}
use Rattle.vch_base.specs.Tasks.{at_task}
use Rattle.vch_base.specs.declared.key.Key.{Key}
use Rattle.vch_base.specs.declared.key.Key.TheVariants as keys
use Rattle.vch_base.specs.declared.value.Value.{Value}
use Rattle.vch_base.specs.declared.value.Value.TheVariants as values
use Rattle.vch_model.specs.declared.call.Call.{Call}
use Rattle.vch_model.specs.declared.call.Call.TheVariants as calls
use Rattle.vch_model.specs.declared.call.Word.{Word}
use Rattle.vch_model.specs.declared.entry.Entry.{Entry}
use Rattle.vch_model.specs.declared.entry.Entry.TheVariants as entries
use Rattle.vch_model.specs.declared.entry.Reply.TheVariants as replies
use Rattle.vch_model.specs.declared.lists.Scenario.{Scenario}
use Rattle.vch_model.specs.Voucher.{value_in}
use Rattle.vch_model.specs.After.{store_of}
use Rattle.vch_model.specs.Transfer.{flags_of}
use Rattle.vch_model.specs.Totals.{is_done, named_voucher, with_made, held, out, ledger}
use Rattle.vch_model.specs.Legal.{LegalPast}
use Rattle.vch_machine.specs.Next.{nth_call}
use Rattle.vch_legal.specs.ValueAmounts.{amount_of, is_counting}
use Rattle.vch_sums.specs.declared.row.Share.{Share}
use Rattle.vch_sums.specs.declared.row.Share.TheVariants as shares
use Rattle.vch_sums.specs.declared.row.Row.{Row}

-- Of one value.

-- whom a value counts for: a list of two or more, or an account
abbrev pub share_of : Scenario → Value → Share
share_of sc (values.Chain list) =
    if nat_lt 1 (length list)
    then shares.List (slice_index list 0) (slice_index list (length list - 1)) (flags_of sc (slice_index list 0)).donor
    else shares.Other
share_of sc (values.Account holder merchant) = shares.Account holder
share_of sc (values.User bytes) = shares.Other
share_of sc values.Default = shares.Other
share_of sc (values.Task t) = shares.Other

-- with its external count, or what is due on it
abbrev pub row_of : Scenario → List Entry → Value → Row
row_of sc past x = record { share = share_of sc x; amount = amount_of sc past x }

abbrev pub option_row : Scenario → List Entry → Option Value → Option Row
option_row sc past None = None
option_row sc past (Some x) = Some (row_of sc past x)

-- Of all.

-- the rows by the numbers of the Made entries, in no promised order, and what the tasks 1, 2, 3 and so on have
pub record Summed : Type 0 where
  pub rows : List (ℕ × Row)
  pub ledgers : List ℕ
  pub held : List ℕ
  pub out : List ℕ

-- the row of a number, or none
abbrev pub row_at : List (ℕ × Row) → ℕ → Option Row
row_at rows number = lookup (nat_eq number) rows

-- the numbers are a function's of the tasks from 1 up to a number
pub record AreOf (tasks : ℕ) (counts : List ℕ) (f : ℕ → ℕ) : Type 0 where
  pub long : length counts ≡ tasks
  pub each : (t : ℕ) → 1 ≤ t → t ≤ tasks → at_task counts t 0 ≡ f t

-- the sums of a history: each live value, and no other number, has its row; each task has its ledger, and what it holds and
-- what is out from it
pub record IsSummed (sc : Scenario) (past : List Entry) (sums : Summed) : Type 0 where
  pub rows : (number : ℕ) → row_at sums.rows number ≡ option_row sc past (with_made (store_of sc past).live number)
  pub many : length sums.rows ≡ length (store_of sc past).live
  pub ledgers : AreOf (length sc.flags) sums.ledgers (ledger sc past)
  pub held : AreOf (length sc.flags) sums.held (held sc past)
  pub out : AreOf (length sc.flags) sums.out (out sc past)

-- an entry takes the sums of a history to those of the history with it
abbrev pub Follows : Scenario → List Entry → Entry → Summed → Summed → Type 0
Follows sc past entry old new = LegalPast sc (entry ∷ past) → IsSummed sc past old → IsSummed sc (entry ∷ past) new

-- a call of a task, with its number and word, that was accepted
abbrev pub accepted : ℕ → ℕ → Word → Entry
accepted t n word = entries.Call t n word replies.Done

-- the value that a task's name has at a key is that of the Made entry
pub record IsAt (sc : Scenario) (past : List Entry) (key : Key) (t name number : ℕ) : Type 0 where
  pub value : Value
  pub named : value_in key (named_voucher (store_of sc past) t name) ≡ Some value
  pub there : with_made (store_of sc past).live number ≡ Some value

-- an accepted change of the external count of the value with this number
abbrev pub FollowsCount : ℕ → Bool → ℕ → Summed → Summed → Type 0
FollowsCount number adding k old new =
    (sc : Scenario) (past : List Entry) (t n name : ℕ) (word : Word)
    → nth_call sc t n ≡ Some (calls.Extern name adding k) → IsAt sc past keys.Importance t name number
    → Follows sc past (accepted t n word) old new

-- an accepted charge by the task on the value with this number
abbrev pub FollowsCharge : ℕ → ℕ → ℕ → Summed → Summed → Type 0
FollowsCharge number t k old new =
    (sc : Scenario) (past : List Entry) (n name : ℕ) (word : Word)
    → nth_call sc t n ≡ Some (calls.Charge name k) → IsAt sc past keys.Bank t name number
    → Follows sc past (accepted t n word) old new

-- a call that changes a count, a due or a ledger where it is accepted
abbrev pub is_counting_line : Option Call → Bool
is_counting_line None = false
is_counting_line (Some call) = is_counting call

-- an entry that changes no sum and no live value
abbrev pub is_passed : Scenario → Entry → Bool
is_passed sc (entries.Call t n word reply) = not (is_done reply && is_counting_line (nth_call sc t n))
is_passed sc (entries.Made key x) = false
is_passed sc (entries.Released number) = false
is_passed sc (entries.Gone t name) = true
is_passed sc (entries.Lost t) = true
is_passed sc entries.Phase = true
