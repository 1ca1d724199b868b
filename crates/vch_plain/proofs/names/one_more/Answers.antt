use Rattle.std.proofs.Common.{ap, ◌∙◌, set, rules}
use Rattle.vch_plain.proofs.Outcomes.{on_ok}
use Rattle.vch_plain.proofs.NamePlaces.{more_at, none_more}
use Rattle.vch_plain.proofs.names.one_more.Goals as goal

pub returns-in-Some : goal.returns-in-Some
returns-in-Some c = on_ok c.add_reference.result c.add_reference.ensures (λ e.
    ap (set c.args.names.now.items c.in-Some.i) e
    ∙ more_at c.args.names.now.items c.args.name c.in-Some.i c.index_mut.result.now (search rules) c.index_mut.ensures.value)

pub returns-in-None : goal.returns-in-None
returns-in-None c = none_more c.args.names.now.items c.args.name (search rules)
