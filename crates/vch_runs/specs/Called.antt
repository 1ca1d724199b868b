-- Which tasks have a next event, and of which call it is.
use Rattle.std.specs.Prelude.{◌≡◌, ◌⊎◌, ℕ, ◌+◌, Bool, true, false, if◌then◌else◌, Option, Some, None, is_some, IsSomeAnd}
use Rattle.std.specs.Option.{option_map}
use Rattle.vch_base.specs.declared.kind.Kind.{Kind}
use Rattle.vch_base.specs.declared.kind.Kind.TheVariants as kinds
use Rattle.vch_model.specs.declared.call.Word.{Word}
use Rattle.vch_model.specs.declared.call.Word.TheVariants as words
use Rattle.vch_model.specs.Words.{word_of}
use Rattle.vch_machine.specs.State.{Machine}
use Rattle.vch_machine.specs.Next.{nth_call, next_kind}
use Rattle.vch_parts.specs.declared.frame.Frame.{Frame}
use Rattle.vch_parts.specs.declared.parts.Parts.{Parts}
use Rattle.vch_parts.specs.Framed.{frame_of, begun_of}
use Rattle.vch_parts.specs.Reached.{Stands}
use Rattle.vch_runs.specs.declared.said.Said.{Said}
use Rattle.vch_runs.specs.declared.said.Said.TheVariants as sayings

-- the task has a next event, in every state that the parts stand for
unfoldable pub HasNext : Parts → ℕ → Type 0
HasNext p t = (m : Machine) → Stands p m → is_some (next_kind p.scenario m t) ≡ true

-- an event that carries one on
abbrev pub IsOpenKind : Kind → Type 0
IsOpenKind kinds.Work = Unit {0}
IsOpenKind kinds.Make = Unit {0}
IsOpenKind kinds.Place = Unit {0}
IsOpenKind kind = ⊥

-- creates and exits have works; creates, sends and receives ask managers and give a voucher away
abbrev pub IsWordOf : Kind → Word → Type 0
IsWordOf kinds.Work word = (word ≡ words.Create) ⊎ (word ≡ words.Exit)
IsWordOf kinds.Make word = ((word ≡ words.Create) ⊎ (word ≡ words.Send)) ⊎ (word ≡ words.Recv)
IsWordOf kinds.Place word = ((word ≡ words.Create) ⊎ (word ≡ words.Send)) ⊎ (word ≡ words.Recv)
IsWordOf kind word = Unit {0}

-- The call in question.

-- the number of the call that is under way, or else of the next one
abbrev pub number_by : ℕ → Option Frame → ℕ
number_by begun None = begun + 1
number_by begun (Some f) = begun

abbrev pub own_number : Parts → ℕ → ℕ
own_number p t = number_by (begun_of p.frames t) (frame_of p.frames t)

-- the word of the call that a task has under way, or else of its next one
abbrev pub own_word : Parts → ℕ → Option Word
own_word p t = option_map word_of (nth_call p.scenario t (own_number p t))

-- a create, a drop, an extract and a recipes; the other eight are send, recv, exit, ledger, assertions, live, extern and charge
abbrev pub is_creating : Word → Bool
is_creating words.Create = true
is_creating words.GiveUp = true
is_creating words.Extract = true
is_creating words.Recipes = true
is_creating word = false

-- the task's call is one of those four
abbrev pub IsCreatingCall : Parts → ℕ → Type 0
IsCreatingCall p t = IsSomeAnd (own_word p t) (λ word. is_creating word ≡ true)

-- it is one of the other eight
abbrev pub IsCarryingCall : Parts → ℕ → Type 0
IsCarryingCall p t = IsSomeAnd (own_word p t) (λ word. is_creating word ≡ false)

-- the next event of one of the eight that is under way, where all its keys were asked or not: an exit gives up one thing more, and
-- any other asks its keys and gives its voucher away then
abbrev pub carried_kind : Said → Bool → Kind
carried_kind sayings.Exit asked = kinds.Work
carried_kind call asked = if asked then kinds.Place else kinds.Make
