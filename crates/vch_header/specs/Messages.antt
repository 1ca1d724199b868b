-- The lines of a text that spell a header, and the text with a `send` in the place of each. The form is this project's own.
use Rattle.std.specs.Prelude.{◌≡◌, ◌≢◌, ◌⊎◌, ◌+◌, ◌<◌, ℕ, Bool, true, false, List, [], ◌∷◌, ◌++◌, length, slice_index, Ok, codes}
use Rattle.std.specs.List.{AllPass}
use Rattle.hex.specs.Hex.{decode_of, is_hex_digit}
use Rattle.vch_model.specs.Grammar.{IsWord}
use Rattle.vch_model.specs.Text.{spaced}
use Rattle.vch_model.specs.TextLines.{split_of}
use Rattle.vch_text.specs.Words.{joined}
use Rattle.vch_header.specs.Dispositions.{voucher_bits, IsKnown}
use Rattle.vch_header.specs.Fields.{Fields, Fits, spelling}
use Rattle.vch_header.specs.Headers.{IsHeader}
use Rattle.vch_header.specs.Carrying.{carried_by}
use Rattle.vch_header.specs.declared.carried.Carried.{Carried}
use Rattle.vch_header.specs.declared.fault.MessageFault.{MessageFault}
use Rattle.vch_header.specs.declared.fault.MessageFault.TheVariants as faults

-- the comment sign, at the front of a line
abbrev pub comment_sign : ℕ
comment_sign = 35

-- three words with one space between two of them, of which the second is `message`; the line is no comment
pub record IsMessage (line task digits : List ℕ) : Type 0 where
  pub parts : line ≡ task ++ codes " message " ++ digits
  pub first : IsWord task
  pub third : IsWord digits
  pub some_first : 0 < length task
  pub some_third : 0 < length digits
  pub no_comment : slice_index line 0 ≢ comment_sign

abbrev pub IsOther : List ℕ → Type 0
IsOther line = (task digits : List ℕ) → IsMessage line task digits → ⊥

-- 48 hexadecimal digits of either case
abbrev pub AreDigits : List ℕ → Type 0
AreDigits word = (length word ≡ 48) × AllPass is_hex_digit word

-- the digits are those of a header's bytes
pub record SpellsHeader (digits : List ℕ) (h : Fields) : Type 0 where
  pub header : IsHeader h
  pub bytes : decode_of digits ≡ Ok (spelling h)

-- the digits are those of bytes with a disposition that is not known
pub record SpellsUnknown (digits : List ℕ) : Type 0 where
  pub fields : Fields
  pub fits : Fits fields
  pub bytes : decode_of digits ≡ Ok (spelling fields)
  pub unknown : IsKnown (voucher_bits fields.bits) → ⊥

-- why a third word spells no header
abbrev pub HasFault : List ℕ → MessageFault → Type 0
HasFault digits faults.Form = AreDigits digits → ⊥
HasFault digits faults.Disposition = SpellsUnknown digits

abbrev pub manner : Bool → List ℕ
manner true = codes " move"
manner false = codes " copy"

-- a `send` of the task whose number is spelled so
abbrev pub send_text : List ℕ → Carried → List ℕ
send_text task c = task ++ codes " send" ++ spaced c.to ++ manner c.moving ++ spaced c.name ++ spaced c.id

-- a message line, and the `send` that stands in its place
pub record IsSend (line out : List ℕ) : Type 0 where
  pub task : List ℕ
  pub digits : List ℕ
  pub fields : Fields
  pub message : IsMessage line task digits
  pub spelled : SpellsHeader digits fields
  pub text : out ≡ send_text task (carried_by fields)

-- what stands in the place of a line: a `send` for a message, and else the line itself
abbrev pub Becomes : List ℕ → List ℕ → Type 0
Becomes line out = (IsOther line × (out ≡ line)) ⊎ IsSend line out

-- a message line that can't be translated
pub record IsRefused (line : List ℕ) (why : MessageFault) : Type 0 where
  pub task : List ℕ
  pub digits : List ℕ
  pub message : IsMessage line task digits
  pub fault : HasFault digits why

-- each line with the one in its place
abbrev pub Become : List (List ℕ) → List (List ℕ) → Type 0
Become [] [] = Unit {0}
Become [] (out ∷ outs) = ⊥
Become (line ∷ lines) [] = ⊥
Become (line ∷ lines) (out ∷ outs) = Becomes line out × Become lines outs

-- each line of the text by the one in its place; what stands behind the last line feed stays
pub record IsTranslation (text out : List ℕ) : Type 0 where
  pub lines : List (List ℕ)
  pub each : Become (split_of text).0 lines
  pub whole : out ≡ joined (lines, (split_of text).1)

-- the first of these lines that can't be translated, where the first of them has the number n
abbrev pub FirstRefused : ℕ → List (List ℕ) → ℕ → MessageFault → Type 0
FirstRefused n [] at why = ⊥
FirstRefused n (line ∷ lines) at why =
    (IsRefused line why × (at ≡ n)) ⊎ ((out : List ℕ) × Becomes line out × FirstRefused (n + 1) lines at why)

abbrev pub IsRefusedAt : List ℕ → ℕ → MessageFault → Type 0
IsRefusedAt text at why = FirstRefused 1 (split_of text).0 at why
