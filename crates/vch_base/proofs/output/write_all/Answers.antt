use Rattle.std.proofs.Common.{rules}
use Rattle.vch_base.proofs.Written.{appends_slice}
use Rattle.vch_base.proofs.output.write_all.Goals as goal

pub loop-at-preserved : goal.loop-at-preserved
loop-at-preserved g c = record {
  later = search rules;
  inside = search rules;
  told = appends_slice _ _ _ _ _ _ c.loop-at.invariant.told c.in_ok-count.ensures.bytes;
}
