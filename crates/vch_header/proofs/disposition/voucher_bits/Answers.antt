use Rattle.std.proofs.Common.{◌∙◌, ◌/◌, ◌^◌}
use Rattle.std.proofs.lemmas.Nat.{and_shr, and_mask}
use Rattle.vch_header.proofs.disposition.voucher_bits.Goals as goal

pub returns : goal.returns
returns c = and_shr c.args.bits 2031616 16 ∙ and_mask (c.args.bits / 2 ^ 16) 5
