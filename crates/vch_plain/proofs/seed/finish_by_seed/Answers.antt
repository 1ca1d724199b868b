use Rattle.std.proofs.Common.{sym, ◌∙◌, ◌≤◌, arith}
use Rattle.vch_plain.proofs.Leading.{seed_first, seed_more, seed_can, seed_ended, seed_over}
use Rattle.vch_plain.proofs.seed.finish_by_seed.Goals as goal

pub loop-move-init : goal.loop-move-init
loop-move-init c = record {
  going = c.requires.going;
  leads = seed_first c.args.scenario.now c.args.run.now.machine c.args.seed c.requires.start;
}

pub returns-then-has_ended-clause-seeded : goal.returns-then-has_ended-clause-seeded
returns-then-has_ended-clause-seeded c =
    seed_ended c.args.seed c.loop-move.now c.args.scenario.now c.loop-move.run.machine c.loop-move._move c.loop-move.invariant.leads (sym c.has_ended.ensures ∙ c.if-has_ended.true)

pub go-requires-clause-can : goal.go-requires-clause-can
go-requires-clause-can c =
    seed_can c.args.seed c.loop-move.now c.draw-choice.new.seed c.args.scenario.now c.loop-move.run.machine c.draw-choice.result c.loop-move._move c.by_seed_is_a_run.ensures
    (sym c.has_ended.ensures ∙ c.if-has_ended.false) c.draw-choice.ensures c.loop-move.invariant.leads

pub loop-move-preserved : goal.loop-move-preserved
loop-move-preserved c = record {
  going = c.in_ok-go.ensures.going;
  leads = seed_more c.args.seed c.loop-move.now c.draw-choice.new.seed c.args.scenario.now c.loop-move.run.machine c.go.new.run.machine c.draw-choice.result c.loop-move._move
      (sym c.has_ended.ensures ∙ c.if-has_ended.false) c.draw-choice.ensures c.in_ok-go.ensures.moves c.loop-move.invariant.leads;
}

pub returns-clause-seeded : goal.returns-clause-seeded
returns-clause-seeded c =
    let spent : 1099511627776 ≤ c.loop-move._move = let t = c.loop-move-test.false in omega (arith, t) in
    seed_ended c.args.seed c.loop-move.now c.args.scenario.now c.loop-move.run.machine c.loop-move._move c.loop-move.invariant.leads
    (seed_over c.args.seed c.loop-move.now c.args.scenario.now c.loop-move.run.machine c.loop-move._move c.by_seed_ends.ensures c.requires.going.limited spent c.loop-move.invariant.leads)
