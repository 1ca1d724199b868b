-- How the books go on by the next entry.
use Rattle.std.specs.Prelude.{◌≡◌, ℕ, ◌+◌, ◌<◌, List, length, slice_get, Option, Some, None}
use Rattle.vch_model.specs.declared.call.Call.{Call}
use Rattle.vch_model.specs.declared.call.Word.{Word}
use Rattle.vch_model.specs.declared.entry.Entry.{Entry}
use Rattle.vch_model.specs.declared.entry.Entry.TheVariants as entries
use Rattle.vch_model.specs.declared.entry.Reply.{Reply}
use Rattle.vch_model.specs.Legal.{CanFollow}
use Rattle.vch_model.specs.Lines.{current_call}
use Rattle.vch_books.specs.Audits.{Audit, IsNext, advanced, store_at, past_at}
use Rattle.vch_judge.specs.Effects.{Does}
use Rattle.vch_judge.specs.declared.effect.Effect.{Effect}

-- the entry may come next
abbrev pub MayFollow : Audit → Entry → Type 0
MayFollow a entry = CanFollow a.scenario (past_at a) (store_at a) entry

-- an entry of a call may come next, and does this
pub record CallFollows (a : Audit) (t n : ℕ) (word : Word) (reply : Reply) (effect : Effect) : Type 0 where
  pub call : Call
  pub current : current_call a.scenario (past_at a) t ≡ Some call
  pub follows : MayFollow a (entries.Call t n word reply)
  pub does : Does a t call reply effect

-- none where it may not
abbrev pub IsAnswered : Audit → ℕ → ℕ → Word → Reply → Option Effect → Type 0
IsAnswered a t n word reply None = MayFollow a (entries.Call t n word reply) → ⊥
IsAnswered a t n word reply (Some effect) = CallFollows a t n word reply effect

-- the next entry is a call of the task, and does this
pub record IsNextCall (a : Audit) (t : ℕ) (effect : Effect) : Type 0 where
  pub number : ℕ
  pub word : Word
  pub reply : Reply
  pub here : slice_get a.history a.taken ≡ Some (entries.Call t number word reply)
  pub follows : CallFollows a t number word reply effect

-- the books with the entry, or none where it may not come next
abbrev pub IsFollowed : Audit → Entry → Option Audit → Type 0
IsFollowed a entry None = MayFollow a entry → ⊥
IsFollowed a entry (Some made) = MayFollow a entry × (made ≡ advanced a)
