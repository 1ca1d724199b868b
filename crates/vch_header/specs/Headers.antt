-- Headers, and the bytes that they are read from.
use Rattle.std.specs.Prelude.{◌≡◌, ℕ, nat_lt, if◌then◌else◌, List, length, take, slice_index, Option, Some, None, Result, Ok, Err}
use Rattle.vch_recipe.specs.Recipes.{word_at}
use Rattle.vch_header.specs.Dispositions.{voucher_bits, IsKnown, disposition_of}
use Rattle.vch_header.specs.Fields.{Fields, Fits, spelling}
use Rattle.vch_header.specs.declared.disposition.Disposition.{Disposition}
use Rattle.vch_header.specs.declared.fault.HeaderFault.{HeaderFault}
use Rattle.vch_header.specs.declared.fault.HeaderFault.TheVariants as faults

-- a header: six numbers of 32 bits, with a disposition that is known
pub record IsHeader (h : Fields) : Type 0 where
  pub fits : Fits h
  pub known : IsKnown (voucher_bits h.bits)

-- the first 24 bytes spell these numbers
pub record StartsWithHeader (bytes : List ℕ) (h : Fields) : Type 0 where
  pub fits : Fits h
  pub spelled : take 24 bytes ≡ spelling h

-- the first 24 bytes spell numbers with a disposition that is not known
pub record HasUnknown (bytes : List ℕ) (number : ℕ) : Type 0 where
  pub fields : Fields
  pub begins : StartsWithHeader bytes fields
  pub number_is : number ≡ voucher_bits fields.bits
  pub unknown : IsKnown number → ⊥

-- ---- the same as a function, for the proofs

abbrev pub made_by : Fields → Option Disposition → Result Fields HeaderFault
made_by h (Some d) = Ok h
made_by h None = Err (faults.Disposition (voucher_bits h.bits))

-- the header with these numbers, or why there is none
abbrev pub made : Fields → Result Fields HeaderFault
made h = made_by h (disposition_of (voucher_bits h.bits))

-- six numbers, in their order
abbrev pub fields_of : List ℕ → Fields
fields_of numbers = record {
  bits = slice_index numbers 0;
  size = slice_index numbers 1;
  remote = slice_index numbers 2;
  local = slice_index numbers 3;
  voucher = slice_index numbers 4;
  id = slice_index numbers 5;
}

-- the six numbers in 24 bytes
abbrev pub fields_in : List ℕ → Fields
fields_in bytes = record {
  bits = word_at 0 bytes;
  size = word_at 4 bytes;
  remote = word_at 8 bytes;
  local = word_at 12 bytes;
  voucher = word_at 16 bytes;
  id = word_at 20 bytes;
}

unfoldable pub decoded : List ℕ → Result Fields HeaderFault
decoded bytes = if nat_lt (length bytes) 24 then Err (faults.Short (length bytes)) else made (fields_in (take 24 bytes))
