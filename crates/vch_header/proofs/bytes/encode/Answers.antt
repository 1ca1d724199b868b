use Rattle.std.proofs.Common.{◌∙◌}
use Rattle.vch_header.proofs.Numbers.{words_written}
use Rattle.vch_header.proofs.bytes.encode.Goals as goal

pub returns : goal.returns
returns c = c.write_u32_into.ensures ∙ words_written c.args.header.now c.bits.result c.size.result c.remote.result c.local.result c.voucher.result c.id.result c.bits.ensures c.size.ensures c.remote.ensures c.local.ensures c.voucher.ensures c.id.ensures
