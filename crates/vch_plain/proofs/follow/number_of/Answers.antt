use Rattle.std.proofs.Common.{ap, sym, ◌∙◌, List}
use Rattle.vch_machine.specs.Naming.{handles_of}
use Rattle.vch_machine.specs.State.{Named}
use Rattle.vch_plain.proofs.SeenFollowing.{number_of_value, number_of_none, number_of_no_name}
use Rattle.vch_plain.proofs.follow.number_of.Goals as goal

pub returns-in_default : goal.returns-in_default
returns-in_default c = number_of_no_name c.args.machine.now c.args.task c.args.name 0 c.args.key
    (ap (λ (names : List Named). handles_of names c.args.name) (sym c.names_at.ensures) ∙ (sym c.handles_of.ensures ∙ c.in_default.is))

pub returns-in-Some-at : goal.returns-in-Some-at
returns-in-Some-at c = number_of_value c.args.machine.now c.args.task c.args.name c.in-Some-at.handle c.number_at.result c.args.key c.in-Some.voucher
    (ap (λ (names : List Named). handles_of names c.args.name) (sym c.names_at.ensures) ∙ (sym c.handles_of.ensures ∙ c.in-Some.is))
    (sym c.at.ensures ∙ c.in-Some-at.is) c.number_at.ensures

pub returns-in-None : goal.returns-in-None
returns-in-None c = number_of_none c.args.machine.now c.args.task c.args.name 0 c.args.key c.in-Some.voucher
    (ap (λ (names : List Named). handles_of names c.args.name) (sym c.names_at.ensures) ∙ (sym c.handles_of.ensures ∙ c.in-Some.is))
    (sym c.at.ensures ∙ c.in-None.is)
