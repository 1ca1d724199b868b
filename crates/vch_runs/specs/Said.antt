-- What a call says.
use Rattle.std.specs.Prelude.{◌≡◌, ℕ, List, length, Option, Some}
use Rattle.vch_model.specs.declared.call.Call.{Call}
use Rattle.vch_model.specs.declared.call.Call.TheVariants as calls
use Rattle.vch_model.specs.declared.call.Word.{Word}
use Rattle.vch_model.specs.declared.call.Word.TheVariants as words
use Rattle.vch_runs.specs.declared.said.Said.{Said}
use Rattle.vch_runs.specs.declared.said.Said.TheVariants as sayings

-- there is a call, and it says this
abbrev pub Says : Said → Option Call → Type 0
Says (sayings.Create n) o = (bytes : List ℕ) × (o ≡ Some (calls.Create bytes)) × (length bytes ≡ n)
Says (sayings.GiveUp name) o = o ≡ Some (calls.GiveUp name)
Says (sayings.Extract name key) o = o ≡ Some (calls.Extract name key)
Says (sayings.Recipes name) o = o ≡ Some (calls.Recipes name)
Says (sayings.Send to moving name id) o = o ≡ Some (calls.Send to moving name id)
Says sayings.Recv o = o ≡ Some calls.Recv
Says (sayings.Extern name adding n) o = o ≡ Some (calls.Extern name adding n)
Says (sayings.Charge name n) o = o ≡ Some (calls.Charge name n)
Says sayings.Ledger o = o ≡ Some calls.Ledger
Says sayings.Assertions o = o ≡ Some calls.Assertions
Says sayings.Live o = o ≡ Some calls.Live
Says sayings.Exit o = o ≡ Some calls.Exit

-- the word of what is said
abbrev pub word_said : Said → Word
word_said (sayings.Create n) = words.Create
word_said (sayings.GiveUp name) = words.GiveUp
word_said (sayings.Extract name key) = words.Extract
word_said (sayings.Recipes name) = words.Recipes
word_said (sayings.Send to moving name id) = words.Send
word_said sayings.Recv = words.Recv
word_said (sayings.Extern name adding n) = words.Extern
word_said (sayings.Charge name n) = words.Charge
word_said sayings.Ledger = words.Ledger
word_said sayings.Assertions = words.Assertions
word_said sayings.Live = words.Live
word_said sayings.Exit = words.Exit
