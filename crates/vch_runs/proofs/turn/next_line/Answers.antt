use Rattle.std.proofs.Common.{◌≡◌, arith, length, ap}
use Rattle.vch_runs.specs.Turning.{current_lines}
use Rattle.vch_runs.proofs.Framed.{to_true}
use Rattle.vch_runs.proofs.Waiting.{found, lines_are, line_of_task, at_line, waits, none_waits, passes_line, within}
use Rattle.vch_runs.proofs.turn.next_line.Goals as goal

pub overflow_sub-seat : goal.overflow_sub-seat
overflow_sub-seat c =
    let o = line_of_task c.args.core.now c.loop-cursor.cursor.line c.at.result.now c.know.ensures
    (found c.args.core.now c.scenario.result.now c.phase.result c.at-lines.result.now c.loop-cursor.cursor.line c.at.result.now c.scenario.ensures c.phase.ensures c.at-lines.ensures c.at.ensures) in
    o.positive

pub bounds-cursor-seat : goal.bounds-cursor-seat
bounds-cursor-seat c =
    let o = line_of_task c.args.core.now c.loop-cursor.cursor.line c.at.result.now c.know.ensures
    (found c.args.core.now c.scenario.result.now c.phase.result c.at-lines.result.now c.loop-cursor.cursor.line c.at.result.now c.scenario.ensures c.phase.ensures c.at-lines.ensures c.at.ensures) in
    o.seat

pub begun-requires : goal.begun-requires
begun-requires c =
    let o = line_of_task c.args.core.now c.loop-cursor.cursor.line c.at.result.now c.know.ensures
    (found c.args.core.now c.scenario.result.now c.phase.result c.at-lines.result.now c.loop-cursor.cursor.line c.at.result.now c.scenario.ensures c.phase.ensures c.at-lines.ensures c.at.ensures) in
    record { task = to_true _ o.task }

pub returns-then-cursor-seat-clause-waiting : goal.returns-then-cursor-seat-clause-waiting
returns-then-cursor-seat-clause-waiting c =
    let e = found c.args.core.now c.scenario.result.now c.phase.result c.at-lines.result.now c.loop-cursor.cursor.line c.at.result.now c.scenario.ensures c.phase.ensures c.at-lines.ensures c.at.ensures in
    let o = line_of_task c.args.core.now c.loop-cursor.cursor.line c.at.result.now c.know.ensures e in
    let b = c.begun.ensures in
    let l = c.if-cursor-seat.true in
    waits c.args.core.now c.loop-cursor.cursor c.loop-cursor.invariant c.at.result.now c.know.ensures (at_line c.args.core.now c.loop-cursor.cursor c.loop-cursor.invariant c.at.result.now e) o.task (omega (arith, b, l))

pub bounds-cursor-seat-in-loop-cursor : goal.bounds-cursor-seat-in-loop-cursor
bounds-cursor-seat-in-loop-cursor c =
    let o = line_of_task c.args.core.now c.loop-cursor.cursor.line c.at.result.now c.know.ensures
    (found c.args.core.now c.scenario.result.now c.phase.result c.at-lines.result.now c.loop-cursor.cursor.line c.at.result.now c.scenario.ensures c.phase.ensures c.at-lines.ensures c.at.ensures) in
    o.seat

pub bounds-cursor-seat-in-loop-cursor-2 : goal.bounds-cursor-seat-in-loop-cursor-2
bounds-cursor-seat-in-loop-cursor-2 c =
    let o = line_of_task c.args.core.now c.loop-cursor.cursor.line c.at.result.now c.know.ensures
    (found c.args.core.now c.scenario.result.now c.phase.result c.at-lines.result.now c.loop-cursor.cursor.line c.at.result.now c.scenario.ensures c.phase.ensures c.at-lines.ensures c.at.ensures) in
    o.seat

pub loop-cursor-preserved : goal.loop-cursor-preserved
loop-cursor-preserved c =
    let e = found c.args.core.now c.scenario.result.now c.phase.result c.at-lines.result.now c.loop-cursor.cursor.line c.at.result.now c.scenario.ensures c.phase.ensures c.at-lines.ensures c.at.ensures in
    let o = line_of_task c.args.core.now c.loop-cursor.cursor.line c.at.result.now c.know.ensures e in
    let b = c.begun.ensures in
    let l = c.if-cursor-seat.false in
    passes_line c.args.core.now c.loop-cursor.cursor c.loop-cursor.invariant c.at.result.now (at_line c.args.core.now c.loop-cursor.cursor c.loop-cursor.invariant c.at.result.now e) o (omega (arith, b, l))

pub returns-clause-waiting : goal.returns-clause-waiting
returns-clause-waiting c =
    let a : length (current_lines c.args.core.now) ≡ length c.at-lines.result.now = ap length (lines_are c.args.core.now c.scenario.result.now c.phase.result c.at-lines.result.now c.scenario.ensures c.phase.ensures c.at-lines.ensures) in
    let b = c.len.ensures in
    let l = c.loop-cursor-test.false in
    none_waits c.args.core.now c.loop-cursor.cursor c.loop-cursor.invariant c.know.ensures (omega (arith, a, b, l))

pub returns-clause-passed : goal.returns-clause-passed
returns-clause-passed c =
    let a : length (current_lines c.args.core.now) ≡ length c.at-lines.result.now = ap length (lines_are c.args.core.now c.scenario.result.now c.phase.result c.at-lines.result.now c.scenario.ensures c.phase.ensures c.at-lines.ensures) in
    let b = c.len.ensures in
    let l = c.loop-cursor-test.false in
    let d = within c.args.core.now c.loop-cursor.cursor c.loop-cursor.invariant in
    omega (arith, a, b, l, d)

pub returns-then-cursor-seat-clause-task : goal.returns-then-cursor-seat-clause-task
returns-then-cursor-seat-clause-task c =
    let o = line_of_task c.args.core.now c.loop-cursor.cursor.line c.at.result.now c.know.ensures
    (found c.args.core.now c.scenario.result.now c.phase.result c.at-lines.result.now c.loop-cursor.cursor.line c.at.result.now c.scenario.ensures c.phase.ensures c.at-lines.ensures c.at.ensures) in
    o.task
