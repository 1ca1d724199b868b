use Rattle.std.proofs.Common.{false}
use Rattle.vch_model.specs.declared.call.Call.TheVariants as calls
use Rattle.vch_model.specs.Replies.{refused}
use Rattle.vch_answers.proofs.CallerLemmas.{answer_room}
use Rattle.vch_carry.proofs.amounts.Counted.{refused_told, refusal_follows}
use Rattle.vch_base.specs.declared.key.Key.TheVariants as keys
use Rattle.vch_vouchers.specs.Desks.{desk, voucher_of}
use Rattle.vch_carry.proofs.amounts.Others.{handle_other}
use Rattle.vch_carry.proofs.counting.refuse_count.Goals as goal

pub answer-requires-clause-other : goal.answer-requires-clause-other
answer-requires-clause-other c = handle_other c.args.parts.now.values keys.Importance (voucher_of (desk c.args.parts.now.vouchers c.args.task).names c.args.name) c.args.code.number c.requires.none

pub answer-requires-clause-room : goal.answer-requires-clause-room
answer-requires-clause-room c = answer_room c.args.parts.now c.args.task (calls.Extern c.args.name c.args.adding c.args.n) c.requires.reached c.requires.task c.requires.begins false (refused c.args.code.number)
    (refused_told c.args.parts.now c.args.task c.args.name c.args.n c.args.adding c.requires.reached c.requires.task c.requires.begins c.args.code.number c.requires.none)

pub returns : goal.returns
returns c = refusal_follows c.args.parts.now c.args.task c.args.name c.args.n c.args.adding c.requires.reached c.requires.task c.requires.begins c.args.code.number c.answer.new.parts c.requires.none c.answer.ensures
