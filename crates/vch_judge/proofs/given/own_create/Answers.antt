use Rattle.std.proofs.Common.{◌≡◌, subst, sym, length, true, false, nat_lt, arith}
use Rattle.std.specs.Prelude.{◌==◌}
use Rattle.vch_base.specs.declared.codes.TheConstants.{MIG_ARRAY_TOO_LARGE}
use Rattle.vch_model.specs.declared.call.Call.TheVariants as calls
use Rattle.vch_judge.specs.Creates.{names_at}
use Rattle.vch_judge.specs.Effects.{IsOwn}
use Rattle.vch_judge.proofs.Creating.{create_long, create_none}
use Rattle.vch_judge.proofs.Owning.{create_refused, create_nothing}
use Rattle.vch_judge.proofs.given.own_create.Goals as goal

pub returns-then-bytes-gt-ARRAY_BYTES : goal.returns-then-bytes-gt-ARRAY_BYTES
returns-then-bytes-gt-ARRAY_BYTES c = subst (IsOwn c.args.books.now c.args.task (calls.Create c.args.bytes.now) c.args.reply.now) (sym c.where_right.ensures)
    (create_refused c.args.books.now c.args.task c.args.bytes.now c.args.reply.now MIG_ARRAY_TOO_LARGE c.is_refused-right.result
    (create_long c.args.books.now.scenario.version (names_at c.args.books.now c.args.task) c.args.task c.args.bytes.now c.if-bytes-gt-ARRAY_BYTES.true) c.is_refused-right.ensures)

pub returns-then-is_empty : goal.returns-then-is_empty
returns-then-is_empty c = subst (IsOwn c.args.books.now c.args.task (calls.Create c.args.bytes.now) c.args.reply.now) (sym c.where_right-then-is_empty.ensures)
    (create_nothing c.args.books.now c.args.task c.args.bytes.now c.args.reply.now c.is_created.result
    (create_none c.args.books.now.scenario.version (names_at c.args.books.now c.args.task) c.args.task c.args.bytes.now c.if-bytes-gt-ARRAY_BYTES.false (sym c.if-is_empty.ensures)) c.is_created.ensures)
