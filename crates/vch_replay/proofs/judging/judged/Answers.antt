use Rattle.std.proofs.Common.{arith}
use Rattle.vch_replay.proofs.Certified.{entries_few}
use Rattle.vch_replay.proofs.judging.judged.Goals as goal

pub certify-requires-clause-short : goal.certify-requires-clause-short
certify-requires-clause-short c = let few = entries_few c.args.text.now c.in-Ok.report c.in-Ok.ensures.found in omega (arith, few, c.requires.short)
