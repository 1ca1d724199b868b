-- Each is whole, checked entry by entry.
use Rattle.std.proofs.Common.{lit≤, refl, inl}
use Rattle.vch_base.specs.Words.{word}
use Rattle.vch_recipe.specs.Recipes.{word_at}
use Rattle.vch_model.specs.Eval.{create, eval_all}
use Rattle.vch_model.specs.Legal.{reaches}
use Rattle.vch_model.specs.WorkedKeys as examples
use Rattle.vch_model.specs.Histories.{IsWhole, AreKeys}

records_in_version_1 : IsWhole examples.records_in_version_1
unfolding create eval_all reaches word_at word
records_in_version_1 = record {
  legal = ((((((((((((((((((((((((((((((((((tt, (tt, refl, refl)), (refl, (refl, inl (refl, refl, refl)))), ((lit≤ tt, lit≤ tt), refl, refl)), (refl, (refl, inl (refl, refl, refl)))), (refl, (refl, inl (refl, refl, refl)))), (refl, (refl, inl (refl, refl, refl)))), (refl, (refl, inl (refl, refl, refl)))), (refl, (refl, inl (refl, refl, refl)))), (refl, (refl, inl (refl, refl, refl)))), (refl, (refl, inl (refl, refl, refl)))), (refl, (refl, inl (refl, refl, refl)))), (refl, (refl, inl (refl, refl, refl)))), (refl, (refl, inl (refl, refl, refl)))), (refl, (refl, inl (refl, refl, refl)))), (refl, (refl, inl (refl, refl, refl)))), (refl, (refl, inl (refl, refl, refl)))), (refl, (refl, inl (refl, refl, refl)))), (refl, (refl, inl (refl, refl, refl)))), (refl, (refl, inl (refl, refl, refl)))), (refl, (refl, inl (refl, refl, refl)))), (refl, (refl, inl (refl, refl, refl)))), (refl, (refl, inl (refl, refl, refl)))), (refl, (refl, inl (refl, refl, refl)))), (refl, (refl, inl (refl, refl, refl)))), (refl, (refl, inl (refl, refl, refl)))), (refl, (refl, inl (refl, refl, refl)))), (refl, (refl, inl (refl, refl, refl)))), (refl, (refl, inl (refl, refl, refl)))), (refl, (refl, inl (refl, refl, refl)))), (refl, (refl, inl (refl, refl, refl)))), (tt, refl, refl)), (refl, (refl, inl (refl, refl, refl)))), (refl, (refl, inl (refl, refl, refl)))), (lit≤ tt, refl, (tt, refl)));
  ended = record { calls = (tt, refl); phases = refl; held = refl };
}

records_in_version_2 : IsWhole examples.records_in_version_2
unfolding create eval_all reaches word_at word
records_in_version_2 = record {
  legal = ((((((((((((((((tt, (tt, refl, refl)), (tt, refl, refl)), (refl, (refl, inl (refl, refl, refl)))), (refl, (refl, inl (refl, refl, refl)))), (refl, (refl, inl (refl, refl, refl)))), (refl, (refl, inl (refl, refl, refl)))), (refl, (refl, inl (refl, refl, refl)))), (refl, (refl, inl (refl, refl, refl)))), (refl, (refl, inl (refl, refl, refl)))), (refl, (refl, inl (refl, refl, refl)))), (refl, (refl, inl (refl, refl, refl)))), (refl, (refl, inl (refl, refl, refl)))), (refl, (refl, inl (refl, refl, refl)))), (refl, (refl, inl (refl, refl, refl)))), (refl, (refl, inl (refl, refl, refl)))), (lit≤ tt, refl, ((tt, refl), refl)));
  ended = record { calls = ((tt, refl), refl); phases = refl; held = refl };
}

pub are_whole : AreKeys
are_whole = record {
  records_in_version_1 = records_in_version_1;
  records_in_version_2 = records_in_version_2;
}
