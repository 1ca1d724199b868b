use Rattle.vch_header.proofs.Numbers.{numbers_read}
use Rattle.std.proofs.Common.{arith}
use Rattle.vch_header.proofs.bytes.numbers.Goals as goal

pub returns : goal.returns
returns c = numbers_read c.args.bytes.now c.read_u32_into.new.dst c.requires (omega arith) c.read_u32_into.ensures
