-- The history of a core that has ended is whole.
use Rattle.std.proofs.Common.{◌≡◌, ◌≤◌, nat_lt, false, not, arith, sym, ap, length, subst}
use Rattle.std.proofs.lemmas.Grind.{common_steps}
use Rattle.vch_model.specs.Legal.{Whole}
use Rattle.vch_model.specs.Lines.{phases_in}
use Rattle.vch_legal.proofs.CallerLemmas.{run_whole}
use Rattle.vch_parts.specs.declared.parts.Parts.{Parts}
use Rattle.vch_parts.specs.Reached.{Reached}
use Rattle.vch_whole.proofs.CallerLemmas.{reach}

pub whole_here : (p : Parts) → Reached p → length p.scenario.phases ≤ p.phase → Whole p.history.entries p.scenario
whole_here p reached over =
    let x = reach p reached in
    let e : p.phase ≡ phases_in x.m.past = x.stands.phase in
    let t : nat_lt (phases_in x.m.past) (length p.scenario.phases) ≡ false = grind (arith, common_steps) in
    subst (λ h. Whole h p.scenario) (sym x.stands.history) (run_whole p.scenario x.moves x.m x.run (ap not t))
