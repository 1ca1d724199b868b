use Rattle.std.proofs.Common.{sym, ◌∙◌, subst, drop, length}
use Rattle.vch_creating.specs.Reading.{named_by}
use Rattle.vch_creating.proofs.forming.Reads.{reads_step}
use Rattle.vch_recipe.specs.Step.{IsStep}
use Rattle.vch_creating.proofs.record.read_record.Goals as goal

pub returns-in_ok-change-in-One : goal.returns-in_ok-change-in-One
returns-in_ok-change-in-One c =
    reads_step c.args.parts.now.scenario.version (named_by c.args.parts.now c.args.task) c.args.bytes.now c.args.at c.requires.inside _
    (subst (IsStep (drop c.args.at c.args.bytes.now) (length c.args.bytes.now)) c.in-One.is c.next_recipe.ensures)
    c.in_ok-change-in-One.change (sym c.change_named.ensures ∙ c.in_ok-change-in-One.was)
