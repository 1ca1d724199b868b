use Rattle.std.proofs.Common.{◌≡◌, subst, sym, true, false}
use Rattle.vch_model.specs.declared.call.Call.TheVariants as calls
use Rattle.vch_judge.specs.Effects.{IsOwn}
use Rattle.vch_judge.proofs.Sending.{send_copied, send_moved}
use Rattle.vch_judge.proofs.given.own_placed.Goals as goal

pub returns-then-moving : goal.returns-then-moving
returns-then-moving c = subst (IsOwn c.args.books.now c.args.task (calls.Send c.args.to c.args.moving c.args.name c.args.id) c.args.reply.now) (sym c.where_right.ensures)
    (send_moved c.args.books.now c.args.task c.args.to c.args.moving c.args.name c.args.id c.args.voucher c.in-Some.voucher c.args.reply.now c.is_done.result
    c.requires.to c.requires.room c.requires.some c.requires.named c.know.ensures c.in-Some.ensures.0 c.in-Some.ensures.1 c.if-moving.true c.is_done.ensures)

pub returns-else-moving : goal.returns-else-moving
returns-else-moving c = subst (IsOwn c.args.books.now c.args.task (calls.Send c.args.to c.args.moving c.args.name c.args.id) c.args.reply.now) (sym c.where_right-else-moving.ensures)
    (send_copied c.args.books.now c.args.task c.args.to c.args.moving c.args.name c.args.id c.args.voucher c.in-Some.voucher c.args.reply.now c.is_done-else-moving.result
    c.requires.to c.requires.room c.requires.some c.requires.named c.know.ensures c.in-Some.ensures.0 c.in-Some.ensures.1 c.if-moving.false c.is_done-else-moving.ensures)
