use Rattle.std.proofs.Common.{take}
use Rattle.vch_vouchers.proofs.Starting.{AreEmpty}
use Rattle.vch_vouchers.proofs.vouchers.Vouchers.new.Given as goal

-- so many desks were made
abbrev pub invariant-loop-limit : goal.invariant-loop-limit
invariant-loop-limit l = AreEmpty l.desks (take l.limit-index l.limits)
