use Rattle.std.proofs.Common.{◌∙◌, sym, refl}
use Rattle.vch_model.specs.declared.call.Call.TheVariants as calls
use Rattle.vch_parts.proofs.CallerLemmas.{task_inside}
use Rattle.vch_carry.proofs.placed.Placing.{forms_some}
use Rattle.vch_carry.proofs.placing.place_recv.Goals as goal

pub forming-requires : goal.forming-requires
forming-requires c = record { task = task_inside c.args.parts.now c.args.task c.requires.reached c.requires.task }

pub returns-in_default : goal.returns-in_default
returns-in_default c = absurd (forms_some c.args.parts.now c.args.task c.requires.reached c.requires.task c.requires.next calls.Recv c.requires.call refl (sym c.forming.ensures ∙ c.in_default.is))
