use Rattle.std.proofs.Common.{◌≡◌, true, nat_lt, sym, ap, ◌∙◌, subst, set, rules}
use Rattle.vch_machine.specs.State.{Named}
use Rattle.vch_plain.proofs.NamePlaces.{at_one, less_at, gone_at, none_less, none_found}
use Rattle.vch_plain.proofs.names.one_less.Goals as goal

pub returns-in_default : goal.returns-in_default
returns-in_default c = none_less c.args.names.now.items c.args.name (none_found c.args.names.now.items c.args.name c.position.result (search rules) c.in_default.not-Some)

pub returns-then-is_repeated : goal.returns-then-is_repeated
returns-then-is_repeated c =
    ap (set c.args.names.now.items c.in-Some.i) c.take_reference.ensures
    ∙ less_at c.args.names.now.items c.args.name c.in-Some.i c.index_mut.result.now (search rules) c.index_mut.ensures.value
    (subst (λ (n : Named). nat_lt 1 n.refs ≡ true) (at_one c.args.names.now.items c.in-Some.i c.index.result.now c.index_mut.result.now (search rules) (search rules) c.index_mut.ensures.value) (sym c.is_repeated.ensures ∙ c.if-is_repeated.true))

pub returns-else-is_repeated : goal.returns-else-is_repeated
returns-else-is_repeated c =
    c.remove.ensures.items
    ∙ gone_at c.args.names.now.items c.args.name c.in-Some.i c.index.result.now (search rules) (search rules) (search rules)
