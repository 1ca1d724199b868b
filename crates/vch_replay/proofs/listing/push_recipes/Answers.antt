use Rattle.std.proofs.Common.{◌∙◌, ◌++◌, List, sym, ap, take, append_assoc, arith}
use Rattle.std.proofs.lemmas.List.{take_all}
use Rattle.std.specs.List.{flat_map}
use Rattle.vch_recipe.specs.declared.recipe.Recipe.{Recipe}
use Rattle.vch_replay.specs.Lines.{recipe_line}
use Rattle.vch_replay.proofs.Joined.{flat_map_next}
use Rattle.vch_replay.proofs.listing.push_recipes.Goals as goal

pub loop-i-preserved : goal.loop-i-preserved
loop-i-preserved c =
    let records : List Recipe = c.args.records.now in
    c.in_ok-push_recipe.ensures ∙ ap (λ l. l ++ recipe_line c.at.result.now) c.loop-i.invariant
    ∙ append_assoc c.args.out.now.items (flat_map recipe_line (take c.loop-i.i records)) (recipe_line c.at.result.now)
    ∙ ap (λ l. c.args.out.now.items ++ l) (sym (flat_map_next recipe_line records c.loop-i.i c.at.result.now c.at.ensures))

pub returns : goal.returns
returns c = c.loop-i.invariant ∙ ap (λ l. c.args.out.now.items ++ flat_map recipe_line l) (take_all c.loop-i.i c.args.records.now (omega arith))
