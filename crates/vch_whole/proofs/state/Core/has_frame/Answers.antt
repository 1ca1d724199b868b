use Rattle.std.proofs.Common.{◌≡◌, true, sym, subst}
use Rattle.vch_model.specs.Lines.{is_task}
use Rattle.vch_parts.specs.declared.parts.Parts.{Parts}
use Rattle.vch_parts.proofs.CallerLemmas.{task_inside}
use Rattle.vch_whole.proofs.state.Core.has_frame.Goals as goal

pub at-requires : goal.at-requires
at-requires c =
    let n = task_inside c.self.inside.parts c.args.task c.self.invariant (subst (λ (p : Parts). is_task p.scenario c.args.task ≡ true) (sym c.self.view_is) c.requires.task) in
    record { task = (n.0, n.1) }
