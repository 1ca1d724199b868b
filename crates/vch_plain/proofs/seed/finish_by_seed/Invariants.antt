use Rattle.vch_plain.specs.Turning.{IsGoing, LeadsBySeed}
use Rattle.vch_plain.proofs.seed.finish_by_seed.Given as goal

abbrev pub invariant-loop-move : goal.invariant-loop-move
invariant-loop-move l = record {
  going : IsGoing l.scenario l.run;
  leads : LeadsBySeed l.seed l.now l.scenario l.run.machine l._move;
}
