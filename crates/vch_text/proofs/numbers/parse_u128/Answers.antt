use Rattle.std.proofs.Common.{◌^◌, lit≤}
use Rattle.vch_text.proofs.Amounts.{exact_found, exact_only}
use Rattle.vch_text.proofs.numbers.parse_u128.Goals as goal

pub returns : goal.returns
returns c =
    record {
      found = exact_found (2 ^ 128) c.args.word.now c.wide_number.result (lit≤ tt) c.wide_number.ensures;
      only = exact_only (2 ^ 128) c.args.word.now c.wide_number.result (lit≤ tt) c.wide_number.ensures;
    }
