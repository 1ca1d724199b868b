-- The bytes that a word spells.
use Rattle.std.specs.Prelude.{◌≡◌, ◌<◌, ◌≤◌, ℕ, Bool, true, false, if◌then◌else◌, List, [], Option, Some, None, Result, Ok, Err, codes}
use Rattle.hex.specs.Hex.{decode_of}
use Rattle.hex.specs.declared.error.FromHexError.{FromHexError}
use Rattle.vch_text.specs.declared.digits.HexFault.{HexFault}
use Rattle.vch_text.specs.declared.digits.HexFault.TheVariants.{Malformed, NoMemory}
use Rattle.vch_text.specs.Words.{is_word}

abbrev pub from_decoded : Result (List ℕ) FromHexError → Option (List ℕ)
from_decoded (Ok bytes) = Some bytes
from_decoded (Err e) = None

-- the bytes that a word spells in hexadecimal, in either case: at least one, or none for a dash
unfoldable pub bytes_of : List ℕ → Option (List ℕ)
bytes_of w =
    if is_word w (codes "") then None
    else if is_word w (codes "-") then Some []
    else from_decoded (decode_of w)

-- what was returned is what there is to be read, unless memory ran out
abbrev pub Decodes : Result (List ℕ) HexFault → Option (List ℕ) → Type 0
Decodes (Ok bytes) read = read ≡ Some bytes
Decodes (Err Malformed) read = read ≡ None
Decodes (Err (NoMemory cause)) read = Unit {0}

-- a number that tells a digit's value: the value, or above 15 where there is none
abbrev pub IsDigitOf : ℕ → Option ℕ → Type 0
IsDigitOf n (Some v) = (n ≡ v) × (n ≤ 15)
IsDigitOf n None = 15 < n

-- whether all was read, and the bytes that were
abbrev pub Fills : Bool → List ℕ → Option (List ℕ) → Type 0
Fills true bytes read = read ≡ Some bytes
Fills false bytes read = read ≡ None
