use Rattle.std.proofs.Common.{◌≡◌, Ok, Err, subst}
use Rattle.vch_judge.specs.Formed.{IsAnswered}
use Rattle.vch_model.specs.Eval.{answer_to, previous_value}
use Rattle.vch_books.specs.Numbered.{option_voucher}
use Rattle.vch_judge.proofs.Changed.{put_ok, put_err}
use Rattle.vch_judge.proofs.record.asked.Goals as goal

pub returns-in-Ok : goal.returns-in-Ok
returns-in-Ok c = λ map h.
    let s = c.begun-begun.ensures c.args.books.now map c.requires.good h in
    put_ok c.args.books.now c.args.key c.in-Ok.slot c.args.formed c.with.result map _
    (subst (λ o. IsAnswered c.args.books.now c.args.key o (answer_to c.args.key c.args.task c.args.given.command
    (previous_value c.args.key (option_voucher c.args.books.now.history c.args.previous) map) c.args.given.content.now)) c.in-Ok.is (c.in_ok-slot.ensures _ s)) c.with.ensures h
