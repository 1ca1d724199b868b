use Rattle.std.proofs.Common.{arith}
use Rattle.std.proofs.lemmas.Result.{err_from_is_err_and}
use Rattle.vch_header.proofs.Lines.{none_done, one_done, stopped}
use Rattle.vch_header.proofs.translation.translate_lines.Goals as goal

pub loop-line-init : goal.loop-line-init
loop-line-init c = record { counted = omega arith; done = none_done c.args.text.now c.new-out.result.items c.new-out.ensures.items }

pub returns-in_err-push_line : goal.returns-in_err-push_line
returns-in_err-push_line c =
    let p = err_from_is_err_and c.from_residual.result c.from_residual.ensures.1 in
    rw (p.1, p.2) (stopped c.args.text.now c.loop-line.rest.now c.in-Some.more.now c.in-Some.line.now c.loop-line.out.items c.loop-line.number c.in_err-push_line.field-0.0 c.loop-line.invariant.done c.in-Some.ensures.found c.in_err-push_line.ensures.refused)

pub loop-line-preserved : goal.loop-line-preserved
loop-line-preserved c = record {
  counted = omega (arith, c.in-Some.ensures.shorter);
  done = one_done c.args.text.now c.loop-line.rest.now c.in-Some.more.now c.in-Some.line.now c.loop-line.out.items c.push_line.new.out.items c.loop-line.number c.loop-line.invariant.done c.in-Some.ensures.found c.in_ok-push_line.ensures.done;
}
