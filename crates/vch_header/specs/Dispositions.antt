-- The disposition of a voucher port. The bits and the numbers are the kernel release's.
use Rattle.std.specs.Prelude.{◌≡◌, ◌⊎◌, ◌^◌, ◌/◌, ◌%◌, ℕ, ◌==◌, if◌then◌else◌, Option, Some, None}
use Rattle.vch_header.specs.declared.disposition.Disposition.{Disposition}
use Rattle.vch_header.specs.declared.disposition.Disposition.TheVariants.{Absent, MoveSend, CopySend}

-- MACH_MSG_TYPE_MOVE_SEND
abbrev pub move_send : ℕ
move_send = 17

-- MACH_MSG_TYPE_COPY_SEND
abbrev pub copy_send : ℕ
copy_send = 19

-- bits 16 to 20 of the first number
abbrev pub voucher_bits : ℕ → ℕ
voucher_bits bits = bits / 2 ^ 16 % 2 ^ 5

-- no voucher, one that is moved, or one that is copied
abbrev pub IsKnown : ℕ → Type 0
IsKnown n = (n ≡ 0) ⊎ (n ≡ move_send) ⊎ (n ≡ copy_send)

abbrev pub disposition_of : ℕ → Option Disposition
disposition_of n = if n == 0 then Some Absent else if n == move_send then Some MoveSend else if n == copy_send then Some CopySend else None
