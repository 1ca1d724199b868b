use Rattle.std.proofs.Common.{List, ℕ, sym, subst, drop, ◌≤◌, length, arith}
use Rattle.vch_model.specs.declared.call.Call.{Call}
use Rattle.vch_recipe.specs.Recipes.{first_of}
use Rattle.vch_recipe.specs.declared.step.Step.TheVariants as steps
use Rattle.vch_machine.specs.Working.{bytes_of}
use Rattle.vch_plain.specs.Reading.{Reads}
use Rattle.vch_plain.proofs.ReadSteps.{reads_step, reads_end}
use Rattle.vch_plain.proofs.reading.step_at.Goals as goal

pub returns-then-at-bytes : goal.returns-then-at-bytes
returns-then-at-bytes c =
    let behind : length c.as_slice-bytes.result.now ≤ c.args.at = let t = c.if-at-bytes.true in omega (arith, t) in
    subst (λ (call : Call). Reads c.args.at (first_of (drop c.args.at (bytes_of call))) steps.End) (sym c.in-Create.is)
    (subst (λ (b : List ℕ). Reads c.args.at (first_of (drop c.args.at b)) steps.End) c.as_slice-bytes.ensures (reads_end c.as_slice-bytes.result.now c.args.at behind))

pub returns : goal.returns
returns c =
    let inside : c.args.at ≤ length c.as_slice-bytes.result.now = let t = c.if-at-bytes.false in omega (arith, t) in
    subst (λ (call : Call). Reads c.args.at (first_of (drop c.args.at (bytes_of call))) c.next_recipe.result) (sym c.in-Create.is)
    (subst (λ (b : List ℕ). Reads c.args.at (first_of (drop c.args.at b)) c.next_recipe.result) c.as_slice-bytes.ensures
    (reads_step c.as_slice-bytes.result.now c.args.at c.next_recipe.result inside c.next_recipe.ensures))
