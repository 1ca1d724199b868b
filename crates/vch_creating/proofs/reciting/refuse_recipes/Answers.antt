use Rattle.std.proofs.Common.{refl, true}
use Rattle.vch_base.specs.declared.codes.TheConstants.{KERN_RESOURCE_SHORTAGE}
use Rattle.vch_model.specs.declared.call.Call.TheVariants as calls
use Rattle.vch_model.specs.declared.call.Word.TheVariants as words
use Rattle.vch_model.specs.Replies.{refused}
use Rattle.vch_answers.proofs.CallerLemmas.{answer_room, answer_follows}
use Rattle.vch_creating.proofs.telling.Recited.{recipes_want_told}
use Rattle.vch_creating.proofs.reciting.refuse_recipes.Goals as goal

pub out_of_memory-requires-clause-room : goal.out_of_memory-requires-clause-room
out_of_memory-requires-clause-room c = answer_room c.args.parts.now c.args.task (calls.Recipes c.args.name) c.requires.reached c.requires.task c.requires.begins true (refused KERN_RESOURCE_SHORTAGE)
    (recipes_want_told c.args.parts.now c.args.task c.requires.task c.args.name c.requires.wants)

pub returns : goal.returns
returns c = answer_follows c.args.parts.now c.args.task (calls.Recipes c.args.name) c.requires.reached c.requires.task c.requires.begins true (refused KERN_RESOURCE_SHORTAGE)
    (recipes_want_told c.args.parts.now c.args.task c.requires.task c.args.name c.requires.wants)
    c.out_of_memory.new.parts words.Recipes refl refl c.out_of_memory.ensures
