-- Worked scenarios of long arrays, checked entry by entry.
use Rattle.std.proofs.Common.{lit≤, refl, inl}
use Rattle.vch_base.specs.Words.{word}
use Rattle.vch_recipe.specs.Recipes.{word_at}
use Rattle.vch_model.specs.Eval.{create, eval_all}
use Rattle.vch_model.specs.WorkedLong as examples
use Rattle.vch_model.specs.Histories.{IsWhole, AreLong}

longest_array : IsWhole examples.longest_array
unfolding create eval_all word_at word
longest_array = record {
  legal = ((((tt, (tt, refl, refl)), (refl, (refl, inl (refl, refl, refl)))), (refl, (refl, inl (refl, refl, refl)))), (lit≤ tt, refl, (tt, refl)));
  ended = record { calls = (tt, refl); phases = refl; held = refl };
}

long_recipe : IsWhole examples.long_recipe
unfolding create eval_all word_at word
long_recipe = record {
  legal = ((((((tt, (tt, refl, refl)), (refl, (refl, inl (refl, refl, refl)))), (tt, refl, refl)), (refl, (refl, inl (refl, refl, refl)))), (refl, (refl, inl (refl, refl, refl)))), (lit≤ tt, refl, (tt, refl)));
  ended = record { calls = (tt, refl); phases = refl; held = refl };
}

largest_recipe : IsWhole examples.largest_recipe
unfolding create eval_all word_at word
largest_recipe = record {
  legal = ((((tt, (tt, refl, refl)), (refl, (refl, inl (refl, refl, refl)))), (refl, (refl, inl (refl, refl, refl)))), (lit≤ tt, refl, (tt, refl)));
  ended = record { calls = (tt, refl); phases = refl; held = refl };
}

pub are_whole : AreLong
are_whole = record {
  largest_recipe = largest_recipe;
  longest_array = longest_array;
  long_recipe = long_recipe;
}
