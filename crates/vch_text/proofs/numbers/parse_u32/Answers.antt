use Rattle.std.proofs.Common.{lit≤}
use Rattle.vch_text.proofs.Amounts.{exact_found, exact_only}
use Rattle.vch_text.proofs.numbers.parse_u32.Goals as goal

pub returns : goal.returns
returns c =
    record {
      found = exact_found 4294967296 c.args.word.now c.short_number.result (lit≤ tt) c.short_number.ensures;
      only = exact_only 4294967296 c.args.word.now c.short_number.result (lit≤ tt) c.short_number.ensures;
    }
