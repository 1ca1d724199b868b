use Rattle.std.proofs.Common.{◌∙◌, sym, refl}
use Rattle.vch_base.specs.declared.kind.Kind.TheVariants as kinds
use Rattle.vch_model.specs.declared.call.Call.TheVariants as calls
use Rattle.vch_parts.proofs.CallerLemmas.{task_inside}
use Rattle.vch_carry.proofs.glue.Open.{framed}
use Rattle.vch_carry.proofs.placed.Placing.{forms_some}
use Rattle.vch_carry.proofs.placed.Sent.{to_inside}
use Rattle.vch_carry.proofs.delivering.place_send.Goals as goal

pub is_full-requires : goal.is_full-requires
is_full-requires c = framed c.args.parts.now c.args.task kinds.Place tt c.requires.reached c.requires.task c.requires.next _ (λ f own.
    record { task = to_inside c.args.parts.now c.args.task c.requires.reached c.requires.task c.requires.next c.args.sending.to c.args.sending.moving c.args.sending.name c.args.sending.id c.requires.call f own })

pub forming-requires : goal.forming-requires
forming-requires c = record { task = task_inside c.args.parts.now c.args.task c.requires.reached c.requires.task }

pub returns-in_default : goal.returns-in_default
returns-in_default c = absurd (forms_some c.args.parts.now c.args.task c.requires.reached c.requires.task c.requires.next
    (calls.Send c.args.sending.to c.args.sending.moving c.args.sending.name c.args.sending.id) c.requires.call refl (sym c.forming.ensures ∙ c.in_default.is))
