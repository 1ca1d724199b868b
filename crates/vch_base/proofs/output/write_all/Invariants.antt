use Rattle.std.proofs.Common.{length, ◌-◌, ◌≤◌, take}
use Rattle.vch_base.specs.Stream.{Extends}
use Rattle.vch_base.proofs.output.write_all.Given as goal

abbrev pub invariant-loop-at : goal.invariant-loop-at
invariant-loop-at g l = record {
  later : g.K.Sink.faults l.initial.sink ≤ g.K.Sink.faults l.sink;
  inside : l.at ≤ length l.text;
  told : Extends (g.K.Sink.written l.initial.sink) (g.K.Sink.written l.sink) (take l.at l.text);
}

abbrev pub decreases-loop-at : goal.decreases-loop-at
decreases-loop-at g l = length l.text - l.at
