use Rattle.std.proofs.Common.{◌<◌, ◌≤◌, ◌∙◌, sym, ap, subst, length}
use Rattle.std.specs.Prelude.{Ok, Err}
use Rattle.vch_value.specs.declared.flight.Made.TheVariants as made
use Rattle.vch_parts.specs.declared.parts.Parts.{Parts}
use Rattle.vch_making.specs.Answers.{Answers}
use Rattle.vch_making.proofs.giving.Answered.{none_roomier, refused_roomier, memory_roomier, refused_other, mid_reached, mid_next, mid_idle, mid_room, mid_wants, none_given, refused_given}
use Rattle.vch_making.proofs.giving.Handed.{past_few, handle_few, fresh_live, fresh_prepared}
use Rattle.vch_making.proofs.giving.Receipts.{again_given, fresh_given, fresh_listed}
use Rattle.vch_making.proofs.giving.Ends.{make_has_room}
use Rattle.vch_making.proofs.making.go_on.Goals as goal

pub lose-requires-clause-reached : goal.lose-requires-clause-reached
lose-requires-clause-reached c = mid_reached c.args.parts.now c.ask.new.parts c.args.task c.args.question c.requires.reached c.requires.task c.requires.next c.requires.asked
    (none_roomier c.args.parts.now c.ask.new.parts c.args.task c.args.question (subst (λ r. Answers c.args.task c.args.question r c.args.parts.now c.ask.new.parts) (c.in-Ok-Nothing.is ∙ ap (λ x. Ok x) c.in-Ok-Nothing.field-0-is) c.ask.ensures))

pub lose-requires-clause-next : goal.lose-requires-clause-next
lose-requires-clause-next c = mid_next c.args.parts.now c.ask.new.parts c.args.task c.args.question c.requires.reached c.requires.task c.requires.next c.requires.asked
    (none_roomier c.args.parts.now c.ask.new.parts c.args.task c.args.question (subst (λ r. Answers c.args.task c.args.question r c.args.parts.now c.ask.new.parts) (c.in-Ok-Nothing.is ∙ ap (λ x. Ok x) c.in-Ok-Nothing.field-0-is) c.ask.ensures))

pub returns-in-Ok-Nothing : goal.returns-in-Ok-Nothing
returns-in-Ok-Nothing c = none_given c.args.parts.now c.ask.new.parts c.args.task c.args.question c.requires.reached c.requires.task c.requires.next c.requires.asked
    (none_roomier c.args.parts.now c.ask.new.parts c.args.task c.args.question (subst (λ r. Answers c.args.task c.args.question r c.args.parts.now c.ask.new.parts) (c.in-Ok-Nothing.is ∙ ap (λ x. Ok x) c.in-Ok-Nothing.field-0-is) c.ask.ensures))
    c.lose.new.parts
    (subst (λ r. Answers c.args.task c.args.question r c.args.parts.now c.ask.new.parts) (c.in-Ok-Nothing.is ∙ ap (λ x. Ok x) c.in-Ok-Nothing.field-0-is) c.ask.ensures) c.lose.ensures

pub made_value-value-requires-clause-live : goal.made_value-value-requires-clause-live
made_value-value-requires-clause-live c = rw c.handle.ensures (fresh_live c.args.parts.now c.ask.new.parts c.args.task c.args.question c.in-Ok-Receipt-default-true.receipt c.requires.reached
    (subst (λ r. Answers c.args.task c.args.question r c.args.parts.now c.ask.new.parts) (c.in-Ok-Receipt-default-true.is ∙ ap (λ x. Ok x) (c.in-Ok-Receipt-default-true.field-0-is ∙ ap (made.Receipt c.in-Ok-Receipt-default-true.receipt) c.in-Ok-Receipt-default-true.field-0-1-test)) c.ask.ensures))

pub made_value-value-requires-clause-prepared : goal.made_value-value-requires-clause-prepared
made_value-value-requires-clause-prepared c = rw c.handle.ensures (fresh_prepared c.args.parts.now c.ask.new.parts c.args.task c.args.question c.in-Ok-Receipt-default-true.receipt c.requires.reached
    (subst (λ r. Answers c.args.task c.args.question r c.args.parts.now c.ask.new.parts) (c.in-Ok-Receipt-default-true.is ∙ ap (λ x. Ok x) (c.in-Ok-Receipt-default-true.field-0-is ∙ ap (made.Receipt c.in-Ok-Receipt-default-true.receipt) c.in-Ok-Receipt-default-true.field-0-1-test)) c.ask.ensures)
    c.args.prepared c.requires.prepared)

pub made_value-value-requires-clause-listed : goal.made_value-value-requires-clause-listed
made_value-value-requires-clause-listed c = rw c.handle.ensures (fresh_listed c.args.parts.now c.args.task c.args.question c.requires.reached c.requires.task c.requires.next c.requires.asked c.in-Ok-Receipt-default-true.receipt c.ask.new.parts
    (subst (λ r. Answers c.args.task c.args.question r c.args.parts.now c.ask.new.parts) (c.in-Ok-Receipt-default-true.is ∙ ap (λ x. Ok x) (c.in-Ok-Receipt-default-true.field-0-is ∙ ap (made.Receipt c.in-Ok-Receipt-default-true.receipt) c.in-Ok-Receipt-default-true.field-0-1-test)) c.ask.ensures))

pub note_made-requires-clause-room : goal.note_made-requires-clause-room
note_made-requires-clause-room c = subst (λ (x : Parts). 1 ≤ x.history.spare) (sym c.ask.ensures.others) (make_has_room c.args.parts.now c.args.task c.args.question c.requires.reached c.requires.task c.requires.next c.requires.asked)

pub note_made-requires-clause-few : goal.note_made-requires-clause-few
note_made-requires-clause-few c = subst (λ (x : Parts). length x.history.entries < 4294967295) (sym c.ask.ensures.others) (past_few c.args.parts.now c.requires.reached)

pub note_made-requires-clause-numbers : goal.note_made-requires-clause-numbers
note_made-requires-clause-numbers c = rw (c.handle-in-Ok-Receipt-default-true.ensures, c.ask.ensures.numbers) (handle_few c.args.parts.now c.ask.new.parts c.args.task c.args.question c.in-Ok-Receipt-default-true.receipt c.requires.reached
    (subst (λ r. Answers c.args.task c.args.question r c.args.parts.now c.ask.new.parts) (c.in-Ok-Receipt-default-true.is ∙ ap (λ x. Ok x) (c.in-Ok-Receipt-default-true.field-0-is ∙ ap (made.Receipt c.in-Ok-Receipt-default-true.receipt) c.in-Ok-Receipt-default-true.field-0-1-test)) c.ask.ensures) c.requires.room)

pub returns-in-Ok-Receipt-default-true : goal.returns-in-Ok-Receipt-default-true
returns-in-Ok-Receipt-default-true c = fresh_given c.args.parts.now c.args.task c.args.question c.requires.reached c.requires.task c.requires.next c.requires.asked c.in-Ok-Receipt-default-true.receipt c.ask.new.parts c.note_made.new.parts c.give_receipt.new.parts c.made_value-value.result c.requires.room
    (subst (λ r. Answers c.args.task c.args.question r c.args.parts.now c.ask.new.parts) (c.in-Ok-Receipt-default-true.is ∙ ap (λ x. Ok x) (c.in-Ok-Receipt-default-true.field-0-is ∙ ap (made.Receipt c.in-Ok-Receipt-default-true.receipt) c.in-Ok-Receipt-default-true.field-0-1-test)) c.ask.ensures)
    (rw c.handle.ensures at c.made_value-value.ensures) (rw c.handle-in-Ok-Receipt-default-true.ensures at c.note_made.ensures) c.give_receipt.ensures

pub returns-in-Ok-Receipt-default-false : goal.returns-in-Ok-Receipt-default-false
returns-in-Ok-Receipt-default-false c = again_given c.args.parts.now c.args.task c.args.question c.requires.reached c.requires.task c.requires.next c.requires.asked c.in-Ok-Receipt-default-false.receipt c.ask.new.parts c.give_receipt-in-Ok-Receipt-default-false.new.parts
    (subst (λ r. Answers c.args.task c.args.question r c.args.parts.now c.ask.new.parts) (c.in-Ok-Receipt-default-false.is ∙ ap (λ x. Ok x) (c.in-Ok-Receipt-default-false.field-0-is ∙ ap (made.Receipt c.in-Ok-Receipt-default-false.receipt) c.in-Ok-Receipt-default-false.field-0-1-test)) c.ask.ensures)
    c.give_receipt-in-Ok-Receipt-default-false.ensures

pub refuse-requires-clause-other : goal.refuse-requires-clause-other
refuse-requires-clause-other c = rw c.in-Err-Refused.field-0-is (refused_other c.args.parts.now c.ask.new.parts c.args.task c.args.question c.in-Err-Refused.code
    (subst (λ r. Answers c.args.task c.args.question r c.args.parts.now c.ask.new.parts) (c.in-Err-Refused.is ∙ ap (λ x. Err x) c.in-Err-Refused.field-0-is) c.ask.ensures))

pub refuse-requires-clause-reached : goal.refuse-requires-clause-reached
refuse-requires-clause-reached c = mid_reached c.args.parts.now c.ask.new.parts c.args.task c.args.question c.requires.reached c.requires.task c.requires.next c.requires.asked
    (refused_roomier c.args.parts.now c.ask.new.parts c.args.task c.args.question c.in-Err-Refused.code
    (subst (λ r. Answers c.args.task c.args.question r c.args.parts.now c.ask.new.parts) (c.in-Err-Refused.is ∙ ap (λ x. Err x) c.in-Err-Refused.field-0-is) c.ask.ensures))

pub refuse-requires-clause-idle : goal.refuse-requires-clause-idle
refuse-requires-clause-idle c = mid_idle c.args.parts.now c.ask.new.parts c.args.task c.args.question c.requires.reached c.requires.task c.requires.next c.requires.asked
    (refused_roomier c.args.parts.now c.ask.new.parts c.args.task c.args.question c.in-Err-Refused.code
    (subst (λ r. Answers c.args.task c.args.question r c.args.parts.now c.ask.new.parts) (c.in-Err-Refused.is ∙ ap (λ x. Err x) c.in-Err-Refused.field-0-is) c.ask.ensures))

pub refuse-requires-clause-room : goal.refuse-requires-clause-room
refuse-requires-clause-room c = mid_room c.args.parts.now c.ask.new.parts c.args.task c.args.question c.requires.reached c.requires.task c.requires.next c.requires.asked
    (refused_roomier c.args.parts.now c.ask.new.parts c.args.task c.args.question c.in-Err-Refused.code
    (subst (λ r. Answers c.args.task c.args.question r c.args.parts.now c.ask.new.parts) (c.in-Err-Refused.is ∙ ap (λ x. Err x) c.in-Err-Refused.field-0-is) c.ask.ensures))

pub returns-in-Err-Refused : goal.returns-in-Err-Refused
returns-in-Err-Refused c = refused_given c.args.parts.now c.ask.new.parts c.args.task c.args.question c.requires.reached c.requires.task c.requires.next c.requires.asked
    (refused_roomier c.args.parts.now c.ask.new.parts c.args.task c.args.question c.in-Err-Refused.code
    (subst (λ r. Answers c.args.task c.args.question r c.args.parts.now c.ask.new.parts) (c.in-Err-Refused.is ∙ ap (λ x. Err x) c.in-Err-Refused.field-0-is) c.ask.ensures))
    c.refuse.new.parts c.in-Err-Refused.code
    (subst (λ r. Answers c.args.task c.args.question r c.args.parts.now c.ask.new.parts) (c.in-Err-Refused.is ∙ ap (λ x. Err x) c.in-Err-Refused.field-0-is) c.ask.ensures) (rw c.in-Err-Refused.field-0-is at c.refuse.ensures)

pub out_of_memory-requires-clause-reached : goal.out_of_memory-requires-clause-reached
out_of_memory-requires-clause-reached c = mid_reached c.args.parts.now c.ask.new.parts c.args.task c.args.question c.requires.reached c.requires.task c.requires.next c.requires.asked
    (memory_roomier c.args.parts.now c.ask.new.parts c.args.task c.args.question c.in-Err-NoMemory.cause
    (subst (λ r. Answers c.args.task c.args.question r c.args.parts.now c.ask.new.parts) (c.in-Err-NoMemory.is ∙ ap (λ x. Err x) c.in-Err-NoMemory.field-0-is) c.ask.ensures))

pub out_of_memory-requires-clause-idle : goal.out_of_memory-requires-clause-idle
out_of_memory-requires-clause-idle c = mid_idle c.args.parts.now c.ask.new.parts c.args.task c.args.question c.requires.reached c.requires.task c.requires.next c.requires.asked
    (memory_roomier c.args.parts.now c.ask.new.parts c.args.task c.args.question c.in-Err-NoMemory.cause
    (subst (λ r. Answers c.args.task c.args.question r c.args.parts.now c.ask.new.parts) (c.in-Err-NoMemory.is ∙ ap (λ x. Err x) c.in-Err-NoMemory.field-0-is) c.ask.ensures))

pub out_of_memory-requires-clause-room : goal.out_of_memory-requires-clause-room
out_of_memory-requires-clause-room c = mid_room c.args.parts.now c.ask.new.parts c.args.task c.args.question c.requires.reached c.requires.task c.requires.next c.requires.asked
    (memory_roomier c.args.parts.now c.ask.new.parts c.args.task c.args.question c.in-Err-NoMemory.cause
    (subst (λ r. Answers c.args.task c.args.question r c.args.parts.now c.ask.new.parts) (c.in-Err-NoMemory.is ∙ ap (λ x. Err x) c.in-Err-NoMemory.field-0-is) c.ask.ensures))

pub returns : goal.returns
returns c = mid_wants c.args.parts.now c.ask.new.parts c.args.task c.args.question c.requires.reached c.requires.task c.requires.next c.requires.asked
    (memory_roomier c.args.parts.now c.ask.new.parts c.args.task c.args.question c.in-Err-NoMemory.cause
    (subst (λ r. Answers c.args.task c.args.question r c.args.parts.now c.ask.new.parts) (c.in-Err-NoMemory.is ∙ ap (λ x. Err x) c.in-Err-NoMemory.field-0-is) c.ask.ensures))
    c.out_of_memory.new.parts c.out_of_memory.ensures
