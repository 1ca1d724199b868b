-- Each is whole, checked entry by entry.
use Rattle.std.proofs.Common.{lit≤, refl, inl, inr}
use Rattle.vch_base.specs.Words.{word}
use Rattle.vch_recipe.specs.Recipes.{word_at}
use Rattle.vch_model.specs.Eval.{create, eval_all}
use Rattle.vch_model.specs.Legal.{reaches}
use Rattle.vch_model.specs.WorkedNames as examples
use Rattle.vch_model.specs.Histories.{IsWhole, AreNames}

counted_live : IsWhole examples.counted_live
unfolding create eval_all reaches word_at word
counted_live = record {
  legal = (((((((((tt, (tt, refl, refl)), (refl, (refl, inl (refl, refl, refl)))), (refl, (refl, inl (refl, refl, refl)))), (tt, refl, refl)), (refl, (refl, inl (refl, refl, refl)))), (refl, (refl, inl (refl, refl, refl)))), (refl, (refl, inl (refl, refl, refl)))), (refl, (refl, inl (refl, refl, refl)))), (lit≤ tt, refl, ((tt, refl), refl)));
  ended = record { calls = ((tt, refl), refl); phases = refl; held = refl };
}

counted_references : IsWhole examples.counted_references
unfolding create eval_all reaches word_at word
counted_references = record {
  legal = (((((((((((((((((((((((tt, (tt, refl, refl)), (refl, (refl, inl (refl, refl, refl)))), (refl, (refl, inl (refl, refl, refl)))), (tt, refl, refl)), (refl, (refl, inl (refl, refl, refl)))), (refl, (refl, inl (refl, refl, refl)))), (refl, (refl, inl (refl, refl, refl)))), (refl, (refl, inl (refl, refl, refl)))), (refl, (refl, inl (refl, refl, refl)))), (refl, (refl, inl (refl, refl, refl)))), (refl, (refl, inl (refl, refl, refl)))), (refl, (refl, inl (refl, refl, refl)))), (refl, (refl, inl (refl, refl, refl)))), (refl, (refl, inl (refl, refl, refl)))), (refl, (refl, inl (refl, refl, refl)))), (refl, (refl, inl (refl, refl, refl)))), refl), (refl, (refl, inl (refl, refl, refl)))), (refl, (refl, inl (refl, refl, refl)))), (refl, (refl, inl (refl, refl, refl)))), (refl, (refl, inl (refl, refl, refl)))), (refl, (refl, inl (refl, refl, refl)))), (lit≤ tt, refl, ((tt, refl), refl)));
  ended = record { calls = ((tt, refl), refl); phases = refl; held = refl };
}

unknown_to_full : IsWhole examples.unknown_to_full
unfolding create eval_all reaches word_at word
unknown_to_full = record {
  legal = (((((((tt, (refl, (refl, inl (refl, refl, refl)))), (refl, (refl, inl (refl, refl, refl)))), (tt, refl, refl)), (refl, (refl, inl (refl, refl, refl)))), (refl, (refl, inl (refl, refl, refl)))), (refl, (refl, inl (refl, refl, refl)))), (lit≤ tt, refl, ((tt, refl), refl)));
  ended = record { calls = ((tt, refl), refl); phases = refl; held = refl };
}

told_of_four : IsWhole examples.told_of_four
unfolding create eval_all reaches word_at word
told_of_four = record {
  legal = ((((((((((((((((((((((((tt, (refl, (refl, inl (refl, refl, refl)))), (tt, refl, refl)), (refl, (refl, inl (refl, refl, refl)))), (refl, (refl, inl (refl, refl, refl)))), (refl, (refl, inl (refl, refl, refl)))), (refl, (refl, inl (refl, refl, refl)))), (tt, refl, refl)), (refl, (refl, inl (refl, refl, refl)))), (refl, (refl, inl (refl, refl, refl)))), (refl, (refl, inl (refl, refl, refl)))), ((lit≤ tt, lit≤ tt), refl, refl)), (refl, (refl, inl (refl, refl, refl)))), (tt, refl, refl)), (refl, (refl, inl (refl, refl, refl)))), ((lit≤ tt, lit≤ tt), refl, refl)), (tt, refl, refl)), (refl, (refl, inl (refl, refl, refl)))), refl), (refl, (refl, inl (refl, refl, refl)))), (refl, (refl, inl (refl, refl, refl)))), (refl, (refl, inl (refl, refl, refl)))), (refl, (refl, inl (refl, refl, refl)))), (refl, (refl, inl (refl, refl, refl)))), (lit≤ tt, refl, ((((tt, refl), refl), refl), refl)));
  ended = record { calls = ((((tt, refl), refl), refl), refl); phases = refl; held = refl };
}

told_of_exit : IsWhole examples.told_of_exit
unfolding create eval_all reaches word_at word
told_of_exit = record {
  legal = ((((((((((tt, (tt, refl, refl)), (refl, (refl, inl (refl, refl, refl)))), (tt, refl, refl)), (refl, (refl, inl (refl, refl, refl)))), (refl, (refl, inl (refl, refl, refl)))), refl), (refl, refl)), refl), (refl, (refl, inr (inr (refl, refl, refl))))), (lit≤ tt, refl, ((tt, refl), refl)));
  ended = record { calls = ((tt, refl), refl); phases = refl; held = refl };
}

told_of_gone : IsWhole examples.told_of_gone
unfolding create eval_all reaches word_at word
told_of_gone = record {
  legal = ((((((tt, (tt, refl, refl)), (refl, (refl, inl (refl, refl, refl)))), (refl, refl)), refl), (refl, (refl, inr (inr (refl, refl, refl))))), (lit≤ tt, refl, ((tt, refl), refl)));
  ended = record { calls = ((tt, refl), refl); phases = refl; held = refl };
}

pub are_whole : AreNames
are_whole = record {
  counted_live = counted_live;
  counted_references = counted_references;
  unknown_to_full = unknown_to_full;
  told_of_four = told_of_four;
  told_of_exit = told_of_exit;
  told_of_gone = told_of_gone;
}
