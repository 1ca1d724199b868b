use Rattle.std.proofs.Common.{◌∙◌, sym, ap, arith, length}
use Rattle.vch_scenario.specs.Whole as whole
use Rattle.vch_model.specs.TextLines.{split_of}
use Rattle.vch_scenario.proofs.drafts.Runs.{fault_read, line_read, lines_none, start_read, stopped_by, reads_by}
use Rattle.vch_scenario.proofs.drafts.Fitting.{step_fits}
use Rattle.vch_scenario.proofs.reader.read_lines.Goals as goal

pub loop-line-init : goal.loop-line-init
loop-line-init c = record { fitting = ap length c.new.ensures; counted = omega arith; same = start_read c.new.result c.new-2.result c.new-3.result c.args.bytes.now c.new.ensures c.new-2.ensures c.new-3.ensures }

pub returns-in-Err : goal.returns-in-Err
returns-in-Err c =
    let found = c.in-Some.ensures.found in
    let same = ap (whole.read_text c.loop-line.number c.loop-line.draft) (sym found) ∙ c.loop-line.invariant.same in
    stopped_by _ c.at_line.result _ (sym c.at_line.ensures) (fault_read c.loop-line.number c.loop-line.draft c.in-Some.line.now (split_of c.in-Some.more.now) c.in-Err.stop _ c.in-Err.ensures same)

pub loop-line-preserved : goal.loop-line-preserved
loop-line-preserved c =
    let found = c.in-Some.ensures.found in
    let same = ap (whole.read_text c.loop-line.number c.loop-line.draft) (sym found) ∙ c.loop-line.invariant.same in
    record {
      fitting = step_fits c.loop-line.draft c.in-Some.line.now c.step.new.draft c.loop-line.invariant.fitting c.in-Ok.ensures;
      counted = omega (arith, c.in-Some.ensures.shorter);
      same = line_read c.loop-line.number c.loop-line.draft c.step.new.draft c.in-Some.line.now (split_of c.in-Some.more.now) _ c.in-Ok.ensures same;
    }

pub returns : goal.returns
returns c =
    let none = c.in_default.ensures.none in
    let same = sym c.loop-line.invariant.same ∙ ap (whole.read_text c.loop-line.number c.loop-line.draft) none ∙ lines_none c.loop-line.number c.loop-line.draft c.loop-line.rest.now in
    reads_by c.finish.result _ _ (sym same) c.finish.ensures
