use Rattle.std.proofs.Common.{refl, true, false}
use Rattle.vch_base.specs.declared.codes.TheConstants.{KERN_RESOURCE_SHORTAGE}
use Rattle.vch_model.specs.declared.call.Call.TheVariants as calls
use Rattle.vch_model.specs.declared.call.Word.TheVariants as words
use Rattle.vch_model.specs.Replies.{refused}
use Rattle.vch_parts.specs.Reached.{plain_of}
use Rattle.vch_replies.specs.Told.{values_by}
use Rattle.vch_answers.proofs.CallerLemmas.{answer_room, answer_follows}
use Rattle.vch_creating.proofs.telling.Extracted.{told_here, wants_here}
use Rattle.vch_creating.proofs.telling.Others.{extract_other}
use Rattle.vch_creating.proofs.extracting.begin_extract.Goals as goal

pub answer-requires-clause-other : goal.answer-requires-clause-other
answer-requires-clause-other c = extract_other c.args.parts.now.scenario.version c.args.key (values_by (plain_of c.args.parts.now) c.args.task c.args.name) c.in-Ok.reply c.in-Ok.ensures.ok

pub answer-requires-clause-room : goal.answer-requires-clause-room
answer-requires-clause-room c = answer_room c.args.parts.now c.args.task (calls.Extract c.args.name c.args.key) c.requires.reached c.requires.task c.requires.begins false c.in-Ok.reply
    (told_here c.args.parts.now c.args.task c.requires.reached c.requires.task c.args.name c.args.key c.in-Ok.reply c.in-Ok.ensures.ok)

pub out_of_memory-requires-clause-room : goal.out_of_memory-requires-clause-room
out_of_memory-requires-clause-room c = answer_room c.args.parts.now c.args.task (calls.Extract c.args.name c.args.key) c.requires.reached c.requires.task c.requires.begins true (refused KERN_RESOURCE_SHORTAGE)
    (wants_here c.args.parts.now c.args.task c.requires.reached c.requires.task c.args.name c.args.key c.in-Err.ensures.err)

pub returns-in-Ok : goal.returns-in-Ok
returns-in-Ok c = answer_follows c.args.parts.now c.args.task (calls.Extract c.args.name c.args.key) c.requires.reached c.requires.task c.requires.begins false c.in-Ok.reply
    (told_here c.args.parts.now c.args.task c.requires.reached c.requires.task c.args.name c.args.key c.in-Ok.reply c.in-Ok.ensures.ok)
    c.answer.new.parts words.Extract refl refl c.answer.ensures

pub returns-in-Err : goal.returns-in-Err
returns-in-Err c = answer_follows c.args.parts.now c.args.task (calls.Extract c.args.name c.args.key) c.requires.reached c.requires.task c.requires.begins true (refused KERN_RESOURCE_SHORTAGE)
    (wants_here c.args.parts.now c.args.task c.requires.reached c.requires.task c.args.name c.args.key c.in-Err.ensures.err)
    c.out_of_memory.new.parts words.Extract refl refl c.out_of_memory.ensures
