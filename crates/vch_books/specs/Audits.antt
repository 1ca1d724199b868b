-- How far a check has come in a history, and what may come next.
use Rattle.std.specs.Prelude.{◌≡◌, ℕ, ◌+◌, ◌<◌, ◌≤◌, true, false, List, [], ◌∷◌, length, reverse, take, slice_get, Option, Some, None}
use Rattle.vch_base.specs.Values.{is_default}
use Rattle.vch_model.specs.declared.call.Call.{Call}
use Rattle.vch_model.specs.declared.call.Word.{Word}
use Rattle.vch_model.specs.declared.entry.Entry.{Entry}
use Rattle.vch_model.specs.declared.entry.Entry.TheVariants as entries
use Rattle.vch_model.specs.declared.entry.Reply.{Reply}
use Rattle.vch_model.specs.declared.entry.Reply.TheVariants as replies
use Rattle.vch_model.specs.declared.lists.Scenario.{Scenario}
use Rattle.vch_model.specs.Voucher.{Voucher}
use Rattle.vch_model.specs.Store.{Store, is_live}
use Rattle.vch_model.specs.After.{store_of, store_after}
use Rattle.vch_model.specs.Legal.{LegalPast, CanFollow, IsUnheld, find_made}
use Rattle.vch_model.specs.Lines.{is_task, calls_in, lines_of}
use Rattle.vch_model.specs.Scenarios.{IsLimited}
use Rattle.vch_machine.specs.Next.{nth_call}
use Rattle.vch_sums.specs.Summed.{is_passed}
use Rattle.vch_books.specs.declared.numbers.Numbers.{Numbers}
use Rattle.vch_books.specs.Numbered.{IsAmong, Stands, OptionStands, entry_at, key_made, numbered_value, numbered_voucher}

-- the first entries of a history, the newest one first
abbrev pub past_of : List Entry → ℕ → List Entry
past_of history taken = reverse (take taken history)

-- a history of a scenario, the oldest entry first, of which so many entries were taken
pub record Audit : Type 0 where
  pub scenario : Scenario
  pub history : List Entry
  pub taken : ℕ

-- the entries that were taken, the newest first
abbrev pub past_at : Audit → List Entry
past_at a = past_of a.history a.taken

-- the store after them
abbrev pub store_at : Audit → Store
store_at a = store_of a.scenario (past_at a)

-- the voucher that numbers stand for
abbrev pub meant : Audit → Numbers → Voucher
meant a v = numbered_voucher a.history v

-- each of its values is live, and that of its key
abbrev pub IsGood : Audit → Numbers → Type 0
IsGood a v = Stands a.history (store_at a).live v

abbrev pub IsGoodOption : Audit → Option Numbers → Type 0
IsGoodOption a v = OptionStands a.history (store_at a).live v

-- with one entry more
abbrev pub advanced : Audit → Audit
advanced a = record a { taken = a.taken + 1 }

-- a live value is that of its Made entry, and no two Made entries of one value at one key have live values
pub record AreNumbered (a : Audit) : Type 0 where
  pub live : (e : ℕ) → IsAmong (store_at a).live e → is_live (store_at a) (key_made (entry_at a.history e)) (numbered_value a.history e) ≡ true
  pub plain : (e : ℕ) → IsAmong (store_at a).live e → is_default (numbered_value a.history e) ≡ false
  pub apart : (d e : ℕ) → IsAmong (store_at a).live d → IsAmong (store_at a).live e → key_made (entry_at a.history d) ≡ key_made (entry_at a.history e)
      → numbered_value a.history d ≡ numbered_value a.history e → d ≡ e

-- what was taken is legal, and entries can be numbered in 32 bits
pub record IsSound (a : Audit) : Type 0 where
  pub limited : IsLimited a.scenario
  pub short : length a.history < 4294967296
  pub inside : a.taken ≤ length a.history
  pub legal : LegalPast a.scenario (past_at a)
  pub numbered : AreNumbered a

-- this entry is the next one, and it may follow
pub record IsNext (a : Audit) (entry : Entry) : Type 0 where
  pub here : slice_get a.history a.taken ≡ Some entry
  pub follows : CanFollow a.scenario (past_at a) (store_at a) entry

-- the next entry is a call of the task which leaves this store, and changes no sum
pub record Leaves (a : Audit) (t : ℕ) (s : Store) : Type 0 where
  pub number : ℕ
  pub word : Word
  pub reply : Reply
  pub next : IsNext a (entries.Call t number word reply)
  pub leaves : store_after a.scenario (length (past_at a)) (store_at a) (entries.Call t number word reply) ≡ s
  pub passed : is_passed a.scenario (entries.Call t number word reply) ≡ true

-- the next entry is this call of the task, accepted
pub record Accepts (a : Audit) (t : ℕ) (call : Call) : Type 0 where
  pub number : ℕ
  pub word : Word
  pub next : IsNext a (entries.Call t number word replies.Done)
  pub line : nth_call a.scenario t number ≡ Some call

-- the task, which has calls for fewer than its lines, and its next one; each lower task has a call for each line
pub record IsUncalled (a : Audit) (task number : ℕ) : Type 0 where
  pub there : is_task a.scenario task ≡ true
  pub fewer : calls_in (past_at a) task < length (lines_of a.scenario task)
  pub first : number ≡ calls_in (past_at a) task + 1
  pub lower : (t : ℕ) → is_task a.scenario t ≡ true → t < task → calls_in (past_at a) t ≡ length (lines_of a.scenario t)

-- the value of this Made entry is live and not held, and that of no lower one is
pub record IsLeft (s : Store) (made : ℕ) : Type 0 where
  pub here : IsUnheld s (find_made s.live made)
  pub lower : (e : ℕ) → e < made → IsUnheld s (find_made s.live e) → ⊥

-- the first in a queue, or none
abbrev pub first_of : {A : Type 0} → List A → Option A
first_of [] = None
first_of (x ∷ xs) = Some x

-- those behind the first
abbrev pub rest_of : {A : Type 0} → List A → List A
rest_of [] = []
rest_of (x ∷ xs) = xs
