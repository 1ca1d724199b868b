use Rattle.std.proofs.Common.{sym, ◌∙◌, subst, length, List, ℕ, Some, get_or, ◌/◌, ◌%◌}
use Rattle.vch_runs.specs.Turning.{IsDraw, CanGo}
use Rattle.vch_runs.proofs.Drawing.{draws_none, none_can, draws_at, at_can}
use Rattle.vch_runs.proofs.seed.draw.Goals as goal

pub returns-then-is_empty-clause-draw : goal.returns-then-is_empty-clause-draw
returns-then-is_empty-clause-draw c = draws_none c.args.core.now c.args.seed.now c.args.tasks.now.items (sym c.is_empty.ensures ∙ c.if-is_empty.true) c.requires.ready

pub returns-then-is_empty-clause-can : goal.returns-then-is_empty-clause-can
returns-then-is_empty-clause-can c = none_can c.args.core.now c.args.tasks.now.items c.requires.more (sym c.is_empty.ensures ∙ c.if-is_empty.true) c.requires.ready

pub returns-clause-draw : goal.returns-clause-draw
returns-clause-draw c =
    subst (λ n. IsDraw c.args.core.now c.args.seed.now (Some (get_or c.deref.result.now (c.next_seed.result / 8589934592 % n) 0)) c.next_seed.result) (sym c.len.ensures.value)
    (subst (λ (ts : List ℕ). IsDraw c.args.core.now c.args.seed.now (Some (get_or ts (c.next_seed.result / 8589934592 % length c.args.tasks.now.items) 0)) c.next_seed.result) (sym c.deref.ensures.0)
    (draws_at c.args.core.now c.args.seed.now c.next_seed.result c.args.tasks.now.items (sym c.is_empty.ensures ∙ c.if-is_empty.false) c.requires.ready c.next_seed.ensures))

pub returns-clause-can : goal.returns-clause-can
returns-clause-can c =
    subst (λ n. CanGo c.args.core.now (Some (get_or c.deref.result.now (c.next_seed.result / 8589934592 % n) 0))) (sym c.len.ensures.value)
    (subst (λ (ts : List ℕ). CanGo c.args.core.now (Some (get_or ts (c.next_seed.result / 8589934592 % length c.args.tasks.now.items) 0))) (sym c.deref.ensures.0)
    (at_can c.args.core.now (c.next_seed.result / 8589934592) c.args.tasks.now.items c.know.ensures (sym c.is_empty.ensures ∙ c.if-is_empty.false) c.requires.ready))
