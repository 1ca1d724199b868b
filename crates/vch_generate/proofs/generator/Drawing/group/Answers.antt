use Rattle.vch_generate.proofs.FewNames.{second_small, few_then}
use Rattle.vch_generate.proofs.generator.Drawing.group.Goals as goal

pub name-taken_name-requires-clause-few : goal.name-taken_name-requires-clause-few
name-taken_name-requires-clause-few c =
    second_small c.args.number c.draw.result c.args.self.now.names c.name-made_name.new.self.names c.requires.number c.requires.few
    c.name-made_name.ensures.names

pub returns-clause-few : goal.returns-clause-few
returns-clause-few c =
    few_then c.args.number c.draw.result c.args.self.now.names c.name-made_name.new.self.names c.name-taken_name.new.self.names
    c.requires.few c.name-made_name.ensures.names c.name-taken_name.ensures.names
