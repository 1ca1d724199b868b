use Rattle.std.proofs.Common.{subst}
use Rattle.vch_parts.specs.declared.parts.Parts.{Parts}
use Rattle.vch_parts.specs.Reached.{MayFollow}
use Rattle.vch_whole.proofs.CallerLemmas.{may_follow, reached_may}
use Rattle.vch_runs.proofs.events.value_event.Goals as goal

pub invariant_of-core : goal.invariant_of-core
invariant_of-core c = reached_may c.value_event.result c.args.task c.core.inside.parts c.value_event.new.self c.core.invariant (may_follow c.value_event.result c.args.task c.core.inside.parts c.value_event.new.self c.value_event.ensures.event)

pub returns : goal.returns
returns c = subst (λ (p : Parts). MayFollow c.value_event.result c.args.task p c.value_event.new.self) c.core.view_is (may_follow c.value_event.result c.args.task c.core.inside.parts c.value_event.new.self c.value_event.ensures.event)
