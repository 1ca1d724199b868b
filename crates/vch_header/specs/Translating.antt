-- What `translate` returns, and the words of a line as a function.
use Rattle.std.specs.Prelude.{◌≡◌, ℕ, Bool, not, ◌&&◌, if◌then◌else◌, List, ◌++◌, Option, Some, None, Result, Ok, Err, codes}
use Rattle.std.specs.Global.{Vec}
use Rattle.vch_model.specs.Text.{newline}
use Rattle.vch_model.specs.TextLines.{is_passed}
use Rattle.vch_text.specs.Reading.{◌>>=◌}
use Rattle.vch_text.specs.Words.{front_of, word_at, end_of, is_word}
use Rattle.vch_header.specs.Messages.{Becomes, IsRefused, IsTranslation, IsRefusedAt}
use Rattle.vch_header.specs.declared.fault.MessageFault.{MessageFault}
use Rattle.vch_header.specs.declared.fault.TranslationFault.{TranslationFault}
use Rattle.vch_header.specs.declared.fault.TranslationFault.TheVariants as faults

-- the text is this, unless memory ran out
abbrev pub GivesText : List ℕ → Result (Vec ℕ) TranslationFault → Type 0
GivesText out (Ok text) = text.items ≡ out
GivesText out (Err (faults.At line why)) = ⊥
GivesText out (Err (faults.NoMemory cause)) = Unit {0}

-- the fault is this, unless memory ran out
abbrev pub GivesFault : ℕ → MessageFault → Result (Vec ℕ) TranslationFault → Type 0
GivesFault line why (Ok text) = ⊥
GivesFault line why (Err (faults.At at told)) = (at ≡ line) × (told ≡ why)
GivesFault line why (Err (faults.NoMemory cause)) = Unit {0}

-- the translation, or the first line that has none, unless memory ran out
abbrev pub Translates : List ℕ → Result (Vec ℕ) TranslationFault → Type 0
Translates text (Ok out) = IsTranslation text out.items
Translates text (Err (faults.At line why)) = IsRefusedAt text line why
Translates text (Err (faults.NoMemory cause)) = Unit {0}

-- ---- one line

-- what stands in the place of a line was appended
pub record Placed (line old new : List ℕ) : Type 0 where
  pub out : List ℕ
  pub becomes : Becomes line out
  pub appended : new ≡ old ++ out

-- and a line feed behind it
pub record Appended (line old new : List ℕ) : Type 0 where
  pub out : List ℕ
  pub becomes : Becomes line out
  pub appended : new ≡ old ++ (out ++ newline)

-- why nothing could be put in the place of the line with this number
abbrev pub StopsAt : ℕ → List ℕ → TranslationFault → Type 0
StopsAt number line (faults.At at why) = (at ≡ number) × IsRefused line why
StopsAt number line (faults.NoMemory cause) = Unit {0}

abbrev pub is_message : List ℕ → List ℕ → List ℕ → Bool
is_message task verb digits = not (is_passed task) && is_word verb (codes "message") && not (is_word digits (codes ""))

abbrev pub message_words : List ℕ → List ℕ → List ℕ → Option (List ℕ × List ℕ)
message_words task verb digits = if is_message task verb digits then Some (task, digits) else None

-- the first and the third word of a message line
unfoldable pub message_of : List ℕ → Option (List ℕ × List ℕ)
message_of line = do
  verb ← word_at (front_of 32 line).1
  digits ← word_at verb.1
  done ← end_of digits.1
  message_words (front_of 32 line).0 verb.0 digits.0
