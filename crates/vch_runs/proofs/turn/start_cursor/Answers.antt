use Rattle.std.proofs.Common.{◌≡◌, arith, length, sym, ap, subst, Some}
use Rattle.std.specs.Prelude.{slice_get}
use Rattle.vch_runs.proofs.Starting.{Started, started_first, counts_few, phase_lines, counts_phase, phase_few, is_cursor}
use Rattle.vch_runs.proofs.turn.start_cursor.Goals as goal

pub loop-i-init : goal.loop-i-init
loop-i-init c = subst (λ x. Started c.args.core.now.scenario x 0) (sym c.first_cursor-cursor.ensures) (started_first c.args.core.now.scenario)

pub at-requires : goal.at-requires
at-requires c =
    let a : length c.scenario.result.now.phases ≡ length c.args.core.now.scenario.phases = ap (λ sc. length sc.phases) c.scenario.ensures in
    let b = phase_few c.args.core.now c.know.ensures in
    let d = c.loop-i-test.true in
    let e = c.phase-i-end.ensures in
    omega (arith, a, b, d, e)

pub pass_lines-requires-clause-tasks : goal.pass_lines-requires-clause-tasks
pass_lines-requires-clause-tasks c =
    phase_lines c.args.core.now c.loop-i.i c.at.result.now c.know.ensures (subst (λ sc. slice_get sc.phases c.loop-i.i ≡ Some c.at.result.now) c.scenario.ensures c.at.ensures)

pub pass_lines-requires-clause-few : goal.pass_lines-requires-clause-few
pass_lines-requires-clause-few c =
    counts_few c.args.core.now c.loop-i.cursor c.loop-i.i c.at.result.now c.know.ensures c.loop-i.invariant (subst (λ sc. slice_get sc.phases c.loop-i.i ≡ Some c.at.result.now) c.scenario.ensures c.at.ensures)

pub loop-i-preserved : goal.loop-i-preserved
loop-i-preserved c =
    counts_phase c.args.core.now.scenario c.loop-i.cursor c.loop-i.i c.at.result.now c.pass_lines.new.passed c.loop-i.invariant
    (subst (λ sc. slice_get sc.phases c.loop-i.i ≡ Some c.at.result.now) c.scenario.ensures c.at.ensures) c.pass_lines.ensures.long c.pass_lines.ensures.counts

pub returns : goal.returns
returns c =
    let a = c.loop-i-test.false in
    let b = c.phase-i-end.ensures in
    let d = c.loop-i.auto.i-end in
    let e : c.loop-i.i ≡ c.args.core.now.phase = omega (arith, a, b, d) in
    is_cursor c.args.core.now c.loop-i.cursor c.know.ensures (subst (Started c.args.core.now.scenario c.loop-i.cursor) e c.loop-i.invariant)
