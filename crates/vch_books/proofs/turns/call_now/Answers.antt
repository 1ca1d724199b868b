use Rattle.std.proofs.Common.{◌≡◌, ◌≤◌, ◌-◌, arith, sym, ◌∙◌, refl, true, false}
use Rattle.vch_model.specs.Lines.{lines_until}
use Rattle.vch_books.proofs.CallTurns.{now_is, none_late, none_before, none_under, not_before}
use Rattle.vch_books.proofs.turns.call_now.Goals.{else-phases-gt0-via-then-phases-gt0+else-has_call, else-phases-gt0-via-else-phases-gt0}
use Rattle.vch_books.proofs.turns.call_now.Goals as goal

none_of : (b : _) → b ≡ false → b ≡ true → ⊥
none_of b e f = let g : false ≡ true = sym e ∙ f in cc

pub returns-then-not-has_call : goal.returns-then-not-has_call
returns-then-not-has_call c =
    none_late c.args.scenario.now c.args.task c.args.begun c.args.phases (λ h. none_of c.has_call.result c.if-not-has_call.true (c.has_call.ensures.1 h))

pub returns-then-has_call : goal.returns-then-has_call
returns-then-has_call c =
    none_before c.args.scenario.now c.args.task c.args.begun c.args.phases (c.args.phases - 1) c.if-phases-gt0.true refl (c.has_call-then-phases-gt0.ensures.0 c.if-has_call.true)

pub returns : goal.returns
returns c =
    let high = c.has_call.ensures.0 c.if-not-has_call.false in
    let low : lines_until c.args.scenario.now c.args.phases c.args.task ≤ c.args.begun =
    elim c.else-phases-gt0.branch [
      | else-phases-gt0-via-then-phases-gt0+else-has_call w ↦ not_before c.args.scenario.now c.args.task c.args.begun c.args.phases (c.args.phases - 1) w.if-phases-gt0.true refl (λ h. none_of w.has_call-then-phases-gt0.result w.if-has_call.false (w.has_call-then-phases-gt0.ensures.1 h))
      | else-phases-gt0-via-else-phases-gt0 w ↦ none_under c.args.scenario.now c.args.task c.args.begun c.args.phases (omega (arith, w.if-phases-gt0.false))
    ] in
    c.call.ensures ∙ now_is c.args.scenario.now c.args.task c.args.begun c.args.phases low high
