use Rattle.std.proofs.Common.{◌∙◌, ap, refl, Some, false}
use Rattle.std.specs.Prelude.{is_some}
use Rattle.vch_base.specs.declared.key.Key.TheVariants as keys
use Rattle.vch_frame.specs.Indices.{index_of}
use Rattle.vch_model.specs.declared.call.Call.TheVariants as calls
use Rattle.vch_parts.specs.Asking.{marked}
use Rattle.vch_parts.specs.Framed.{with_begun_of, with_frame_of}
use Rattle.vch_moves.specs.Steps.{fresh_frame}
use Rattle.vch_parts.proofs.CallerLemmas.{task_inside}
use Rattle.vch_carry.proofs.glue.Begun.{begun_few, some_begun}
use Rattle.vch_carry.proofs.begun.Copied.{may_share, copied_then}
use Rattle.vch_carry.proofs.begun.RecvBegins.{recv_copies}
use Rattle.vch_carry.proofs.recv_begins.copy_first.Goals as goal

pub begin_copy-requires-clause-task : goal.begin_copy-requires-clause-task
begin_copy-requires-clause-task c = task_inside c.args.parts.now c.args.task c.requires.reached c.requires.task

pub begin_copy-requires-clause-few : goal.begin_copy-requires-clause-few
begin_copy-requires-clause-few c = begun_few c.args.parts.now c.args.task c.requires.reached c.requires.task

pub begin_copy-requires-clause-may : goal.begin_copy-requires-clause-may
begin_copy-requires-clause-may c = some_begun c.args.parts.now c.args.task c.requires.reached c.requires.task c.requires.next c.requires.free calls.Recv c.requires.call _ (λ m b.
    let z = recv_copies c.args.parts.now c.args.task c.requires.reached c.requires.task c.requires.next c.requires.free c.requires.call c.args.sender c.args.id c.args.voucher c.requires.first m b.state in
    may_share c.args.parts.now c.requires.reached c.know.ensures.apart c.args.voucher z.handles z.map)

pub returns : goal.returns
returns c = copied_then c.args.parts.now c.args.task c.requires.reached c.requires.task c.requires.next c.requires.free calls.Recv c.requires.call c.args.voucher
    (marked (is_some (index_of keys.Importance c.args.voucher)) (is_some (index_of keys.Bank c.args.voucher)) false false)
    (recv_copies c.args.parts.now c.args.task c.requires.reached c.requires.task c.requires.next c.requires.free c.requires.call c.args.sender c.args.id c.args.voucher c.requires.first)
    c.begin_copy.new.parts c.begin_copy.ensures.parts c.begin_copy.ensures.shares
    (c.begin_copy.ensures.frames ∙ ap (λ ks. with_frame_of (with_begun_of c.args.parts.now.frames c.args.task) c.args.task (Some (fresh_frame c.args.voucher ks)))
    (c.of.ensures ∙ rw (c.is_some-importance.ensures, c.is_some-bank.ensures, c.get.ensures, c.get-2.ensures, c.number.ensures, c.number-2.ensures) refl))
