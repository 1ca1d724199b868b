use Rattle.std.proofs.Common.{◌∙◌, sym, ap, arith, length}
use Rattle.vch_model.specs.TextLines.{split_of}
use Rattle.vch_report.specs.Reading as reading
use Rattle.vch_report.proofs.wholes.Loops.{fault_read, line_read, end_read, start_read, stopped_by, reads_by, step_few}
use Rattle.vch_report.proofs.reader.read_lines.Goals as goal

pub loop-line-init : goal.loop-line-init
loop-line-init c =
    record {
      few = omega (arith, ap length c.new-2.ensures);
      counted = omega arith;
      same = start_read c.new.result.entries c.new-2.result c.args.bytes.now c.new.ensures c.new-2.ensures;
    }

pub returns-in-Err : goal.returns-in-Err
returns-in-Err c =
    let d = reading.kept c.loop-line.draft in
    let same = ap (reading.read_text c.loop-line.number d) (sym c.in-Some.ensures.found) ∙ c.loop-line.invariant.same in
    stopped_by _ c.at_line.result _
    (sym c.at_line.ensures) (fault_read c.loop-line.number d (λ done. reading.kept c.step.new.draft) c.in-Some.line.now
    (split_of c.in-Some.more.now) c.in-Err.stop _ c.in-Err.ensures same)

pub loop-line-preserved : goal.loop-line-preserved
loop-line-preserved c =
    let d = reading.kept c.loop-line.draft in
    let e = reading.kept c.step.new.draft in
    let same = ap (reading.read_text c.loop-line.number d) (sym c.in-Some.ensures.found) ∙ c.loop-line.invariant.same in
    record {
      few = omega (arith, step_few d e c.in-Some.line.now c.in-Ok.ensures);
      counted = omega (arith, c.in-Some.ensures.shorter);
      same = line_read c.loop-line.number d e c.in-Some.line.now (split_of c.in-Some.more.now) _ c.in-Ok.ensures same;
    }

pub returns : goal.returns
returns c =
    let d = reading.kept c.loop-line.draft in
    let same = sym c.loop-line.invariant.same
    ∙ ap (reading.read_text c.loop-line.number d) c.in_default.ensures.none
    ∙ end_read c.loop-line.number d c.loop-line.rest.now in
    reads_by c.finish.result _ _ (sym same) c.finish.ensures
