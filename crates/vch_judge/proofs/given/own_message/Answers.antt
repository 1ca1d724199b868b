use Rattle.std.proofs.Common.{◌≡◌, refl, subst, sym}
use Rattle.vch_model.specs.Store.{member}
use Rattle.vch_model.specs.declared.call.Call.TheVariants as calls
use Rattle.vch_books.specs.Audits.{store_at}
use Rattle.vch_judge.specs.Effects.{IsOwn}
use Rattle.vch_judge.proofs.Sending.{recv_given}
use Rattle.vch_judge.proofs.given.own_message.Goals as goal

pub returns : goal.returns
returns c = subst (IsOwn c.args.books.now c.args.task calls.Recv c.args.reply.now) (sym c.where_right.ensures)
    (recv_given c.args.books.now c.args.task c.args.reply.now c.args.voucher c.in-Some.voucher c.args.message.sender c.args.message.id c.name_for-name.result c.is_received-right.result
    (member (store_at c.args.books.now) c.args.task).queue refl c.requires.first c.know.ensures c.in-Some.ensures.0 c.in-Some.ensures.1 c.name_for-name.ensures.received c.is_received-right.ensures)
