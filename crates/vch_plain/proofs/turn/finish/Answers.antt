use Rattle.std.proofs.Common.{sym, ◌∙◌, ◌≤◌, arith}
use Rattle.vch_plain.proofs.Leading.{leads_first, leads_more, turn_can, turn_plain, turn_over}
use Rattle.vch_plain.proofs.Waiting.{cursor_first}
use Rattle.vch_plain.proofs.turn.finish.Goals as goal

pub loop-move-init : goal.loop-move-init
loop-move-init c = record {
  going = c.requires.going;
  cursor_is = cursor_first c.args.scenario.now c.args.run.now.machine c.first_cursor-cursor.result c.requires.start c.first_cursor-cursor.ensures;
  leads = leads_first c.args.scenario.now c.args.run.now.machine c.requires.start;
}

pub returns-then-has_ended-clause-plain : goal.returns-then-has_ended-clause-plain
returns-then-has_ended-clause-plain c =
    turn_plain c.args.scenario.now c.loop-move.run.machine c.loop-move._move c.loop-move.invariant.leads (sym c.has_ended.ensures ∙ c.if-has_ended.true)

pub turn-requires-clause-can : goal.turn-requires-clause-can
turn-requires-clause-can c =
    turn_can c.args.scenario.now c.loop-move.run.machine c.loop-move._move c.in_turn_is_a_run.ensures c.requires.going.limited (sym c.has_ended.ensures ∙ c.if-has_ended.false) c.loop-move.invariant.leads

pub loop-move-preserved : goal.loop-move-preserved
loop-move-preserved c = record {
  going = c.in_ok-turn.ensures.going;
  cursor_is = c.in_ok-turn.ensures.cursor;
  leads = leads_more c.args.scenario.now c.loop-move.run.machine c.turn.new.run.machine c.loop-move._move (sym c.has_ended.ensures ∙ c.if-has_ended.false) c.in_ok-turn.ensures.moves c.loop-move.invariant.leads;
}

pub returns-clause-plain : goal.returns-clause-plain
returns-clause-plain c =
    let spent : 1099511627776 ≤ c.loop-move._move = let t = c.loop-move-test.false in omega (arith, t) in
    turn_plain c.args.scenario.now c.loop-move.run.machine c.loop-move._move c.loop-move.invariant.leads
    (turn_over c.args.scenario.now c.loop-move.run.machine c.loop-move._move c.in_turn_ends.ensures c.requires.going.limited spent c.loop-move.invariant.leads)
