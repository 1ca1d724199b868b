use Rattle.std.proofs.Common.{◌∙◌, sym, refl}
use Rattle.vch_parts.proofs.counts.Few.{asks_few, asked_few}
use Rattle.vch_parts.proofs.follows.Follow.{ask_follows}
use Rattle.vch_parts.proofs.follows.Needs.{ask_there, ask_live, ask_other, ask_room}
use Rattle.vch_parts.proofs.ask.ask.Goals as goal

pub handle-handle-requires : goal.handle-handle-requires
handle-handle-requires c = rw c.index.ensures (ask_there c.args.parts.now c.args.task c.in-Some.frame c.requires.reached c.requires.task (sym c.take.ensures.frame ∙ c.in-Some.is) c.in-Claimed.key c.in-Claimed.claim c.requires.next (sym c.replace.ensures.value ∙ c.in-Claimed.is))

pub ask-asked-requires-clause-live : goal.ask-asked-requires-clause-live
ask-asked-requires-clause-live c = ask_live c.args.parts.now c.args.task c.in-Some.frame c.requires.reached c.requires.task (sym c.take.ensures.frame ∙ c.in-Some.is) c.in-Claimed.key c.in-Claimed.claim c.requires.next (sym c.replace.ensures.value ∙ c.in-Claimed.is)

pub ask-asked-requires-clause-other : goal.ask-asked-requires-clause-other
ask-asked-requires-clause-other c = ask_other c.args.parts.now c.args.task c.in-Some.frame c.requires.reached c.requires.task (sym c.take.ensures.frame ∙ c.in-Some.is) c.in-Claimed.key c.in-Claimed.claim c.requires.next (sym c.replace.ensures.value ∙ c.in-Claimed.is)

pub ask-asked-requires-clause-room : goal.ask-asked-requires-clause-room
ask-asked-requires-clause-room c = asked_few c.args.parts.now c.in-Claimed.key c.requires.reached

pub count_question-requires : goal.count_question-requires
count_question-requires c = asks_few c.args.parts.now c.requires.reached

pub note_release-requires : goal.note_release-requires
note_release-requires c = ask_room c.args.parts.now c.args.task c.in-Some.frame c.requires.reached c.requires.task (sym c.take.ensures.frame ∙ c.in-Some.is) c.in-Claimed.key c.in-Claimed.claim c.requires.next (sym c.replace.ensures.value ∙ c.in-Claimed.is)

pub returns : goal.returns
returns c =
    ask_follows c.args.parts.now c.args.task c.in-Some.frame c.requires.reached c.requires.task (sym c.take.ensures.frame ∙ c.in-Some.is) c.in-Claimed.key c.in-Claimed.claim c.requires.next (sym c.replace.ensures.value ∙ c.in-Claimed.is)
    c.ask-asked.new.self c.ask-asked.ensures.others c.ask-asked.ensures.entries c.ask-asked.ensures.numbers c.ask-asked.result c.ask-asked.ensures.claim.0 c.ask-asked.ensures.claim.1
    c.handle-handle.result (rw c.index.ensures at c.handle-handle.ensures) c.ask-asked.ensures.leaves c.ask-asked.ensures.stands c.ask-asked.ensures.row
    c.put.new.self c.count_question.new.tally c.note_release.new.history c.number-made.result
    (c.put.ensures ∙ rw c.take.ensures.gone refl) c.count_question.ensures c.number-made.ensures (rw c.agreed.ensures at c.note_release.ensures.entries) (rw c.agreed.ensures at c.note_release.ensures.spare)
