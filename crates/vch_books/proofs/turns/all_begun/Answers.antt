use Rattle.std.proofs.Common.{◌≡◌, ◌+◌, ◌<◌, ◌≤◌, arith, length, subst, true, false}
use Rattle.std.specs.Prelude.{ℕ}
use Rattle.vch_base.specs.Tasks.{at_task}
use Rattle.vch_model.specs.Lines.{lines_until}
use Rattle.vch_books.specs.Desks.{empty_desk}
use Rattle.vch_books.proofs.Ends.{each_at}
use Rattle.vch_books.proofs.turns.all_begun.Goals as goal

not_true : {A : Type 0} → false ≡ true → A
not_true e = absurd (cc)

some : (n : ℕ) → 1 ≤ n + 1
some n = omega arith

up : {m n : ℕ} → m < n → m + 1 ≤ n
up l = omega (arith, l)

pub returns-then-has_call : goal.returns-then-has_call
returns-then-has_call c = (
  λ e. not_true e,
  λ e.
      let low : lines_until c.args.scenario.now (c.args.phases + 1) (c.loop-done.done + 1) ≤ (at_task c.args.tasks.now (c.loop-done.done + 1) empty_desk).begun =
      each_at (λ t. lines_until c.args.scenario.now (c.args.phases + 1) t ≤ (at_task c.args.tasks.now t empty_desk).begun) (length c.args.tasks.now) (c.loop-done.done + 1) e (some c.loop-done.done) (subst (λ (n : ℕ). c.loop-done.done + 1 ≤ n) c.len-done-end.ensures (up c.loop-done-test.true)) in
      let high = c.has_call.ensures.0 c.if-has_call.true in
      absurd (omega (arith, low, high, c.begun_at.ensures)),
)
