-- The six numbers of a header.
use Rattle.std.specs.Prelude.{◌<◌, ◌^◌, ℕ, List, [], ◌∷◌}
use Rattle.vch_base.specs.Words.{words}

pub record Fields : Type 0 where
  pub bits : ℕ
  pub size : ℕ
  pub remote : ℕ
  pub local : ℕ
  pub voucher : ℕ
  pub id : ℕ

-- each has 32 bits
pub record Fits (h : Fields) : Type 0 where
  pub bits : h.bits < 2 ^ 32
  pub size : h.size < 2 ^ 32
  pub remote : h.remote < 2 ^ 32
  pub local : h.local < 2 ^ 32
  pub voucher : h.voucher < 2 ^ 32
  pub id : h.id < 2 ^ 32

-- the 24 bytes, each number with its lowest byte first
abbrev pub spelling : Fields → List ℕ
spelling h = words (h.bits ∷ h.size ∷ h.remote ∷ h.local ∷ h.voucher ∷ h.id ∷ [])
