use Rattle.std.proofs.Common.{◌≡◌, subst, sym, Ok, Some, None}
use Rattle.vch_model.specs.declared.call.Call.TheVariants as calls
use Rattle.vch_judge.specs.Creates.{IsCreated}
use Rattle.vch_judge.specs.Effects.{IsOwn}
use Rattle.vch_judge.proofs.Owning.{create_given}
use Rattle.vch_judge.proofs.given.own_bytes.Goals as goal

pub returns-in-Ok-Some : goal.returns-in-Ok-Some
returns-in-Ok-Some c = subst (IsOwn c.args.books.now c.args.task (calls.Create c.args.bytes.now) c.args.reply.now) (sym c.where_right.ensures)
    (create_given c.args.books.now c.args.task c.args.bytes.now c.args.reply.now c.in-Ok-Some.voucher c.name_for.result c.is_created-right.result c.know.ensures
    (subst (λ o. IsCreated c.args.books.now c.args.task c.args.bytes.now (Ok o)) c.in-Ok-Some.field-0-is
    (subst (IsCreated c.args.books.now c.args.task c.args.bytes.now) c.in-Ok-Some.is c.in_ok-voucher.ensures)) c.name_for.ensures.given c.is_created-right.ensures)
