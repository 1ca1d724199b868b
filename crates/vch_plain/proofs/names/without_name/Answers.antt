use Rattle.std.proofs.Common.{◌∙◌, rules}
use Rattle.vch_plain.proofs.NamePlaces.{without_at, none_without, none_found}
use Rattle.vch_plain.proofs.names.without_name.Goals as goal

pub returns-in-Some : goal.returns-in-Some
returns-in-Some c = c.remove.ensures.items ∙ without_at c.args.names.now.items c.args.name c.in-Some.i (search rules)

pub returns-in_default : goal.returns-in_default
returns-in_default c = none_without c.args.names.now.items c.args.name (none_found c.args.names.now.items c.args.name c.position.result (search rules) c.in_default.not-Some)
