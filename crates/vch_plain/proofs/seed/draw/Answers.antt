use Rattle.std.proofs.Common.{sym, ◌∙◌, subst, length, List, ℕ, Some, get_or, ◌/◌, ◌%◌}
use Rattle.vch_plain.specs.Turning.{IsDraw}
use Rattle.vch_plain.proofs.Drawing.{draws_none, draws_at}
use Rattle.vch_plain.proofs.seed.draw.Goals as goal

pub returns-then-is_empty : goal.returns-then-is_empty
returns-then-is_empty c = draws_none c.args.scenario.now c.args.run.now.machine c.args.seed.now c.ready_tasks-tasks.result.items (sym c.is_empty.ensures ∙ c.if-is_empty.true) c.ready_tasks-tasks.ensures

pub returns : goal.returns
returns c =
    subst (λ n. IsDraw c.args.scenario.now c.args.run.now.machine c.args.seed.now (Some (get_or c.deref.result.now (c.next_seed.result / 8589934592 % n) 0)) c.next_seed.result) (sym c.len.ensures.value)
    (subst (λ (ts : List ℕ). IsDraw c.args.scenario.now c.args.run.now.machine c.args.seed.now (Some (get_or ts (c.next_seed.result / 8589934592 % length c.ready_tasks-tasks.result.items) 0)) c.next_seed.result) (sym c.deref.ensures.0)
    (draws_at c.args.scenario.now c.args.run.now.machine c.args.seed.now c.next_seed.result c.ready_tasks-tasks.result.items (sym c.is_empty.ensures ∙ c.if-is_empty.false) c.ready_tasks-tasks.ensures c.next_seed.ensures))
