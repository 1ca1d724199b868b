-- Each is whole, checked entry by entry.
use Rattle.std.proofs.Common.{lit≤, refl, inl}
use Rattle.vch_base.specs.Words.{word}
use Rattle.vch_recipe.specs.Recipes.{word_at}
use Rattle.vch_model.specs.Eval.{create, eval_all}
use Rattle.vch_model.specs.Legal.{reaches}
use Rattle.vch_model.specs.WorkedLists as examples
use Rattle.vch_model.specs.Histories.{IsWhole, AreLists}

extracted_values : IsWhole examples.extracted_values
unfolding create eval_all reaches word_at word
extracted_values = record {
  legal = (((((((((((((((((((tt, ((lit≤ tt, lit≤ tt), refl, refl)), (refl, (refl, inl (refl, refl, refl)))), (tt, refl, refl)), (refl, (refl, inl (refl, refl, refl)))), ((lit≤ tt, lit≤ tt), refl, refl)), (tt, refl, refl)), (refl, (refl, inl (refl, refl, refl)))), refl), (refl, (refl, inl (refl, refl, refl)))), (refl, (refl, inl (refl, refl, refl)))), (refl, (refl, inl (refl, refl, refl)))), (tt, refl, refl)), (refl, (refl, inl (refl, refl, refl)))), (refl, (refl, inl (refl, refl, refl)))), (refl, (refl, inl (refl, refl, refl)))), (refl, (refl, inl (refl, refl, refl)))), (refl, (refl, inl (refl, refl, refl)))), (refl, (refl, inl (refl, refl, refl)))), (lit≤ tt, refl, ((tt, refl), refl)));
  ended = record { calls = ((tt, refl), refl); phases = refl; held = refl };
}

list_of_eight : IsWhole examples.list_of_eight
unfolding create eval_all reaches word_at word
list_of_eight = record {
  legal = (((((((((((((((((((((((((((((((((((((((((((tt, ((lit≤ tt, lit≤ tt), refl, refl)), (refl, (refl, inl (refl, refl, refl)))), (refl, (refl, inl (refl, refl, refl)))), (refl, (refl, inl (refl, refl, refl)))), (refl, (refl, inl (refl, refl, refl)))), ((lit≤ tt, lit≤ tt), refl, refl)), (refl, (refl, inl (refl, refl, refl)))), refl), (refl, (refl, inl (refl, refl, refl)))), ((lit≤ tt, lit≤ tt), refl, refl)), (refl, (refl, inl (refl, refl, refl)))), refl), (refl, (refl, inl (refl, refl, refl)))), ((lit≤ tt, lit≤ tt), refl, refl)), (refl, (refl, inl (refl, refl, refl)))), refl), (refl, (refl, inl (refl, refl, refl)))), ((lit≤ tt, lit≤ tt), refl, refl)), (refl, (refl, inl (refl, refl, refl)))), refl), (refl, (refl, inl (refl, refl, refl)))), ((lit≤ tt, lit≤ tt), refl, refl)), (refl, (refl, inl (refl, refl, refl)))), refl), (refl, (refl, inl (refl, refl, refl)))), ((lit≤ tt, lit≤ tt), refl, refl)), (refl, (refl, inl (refl, refl, refl)))), refl), (refl, (refl, inl (refl, refl, refl)))), ((lit≤ tt, lit≤ tt), refl, refl)), (refl, (refl, inl (refl, refl, refl)))), refl), (refl, (refl, inl (refl, refl, refl)))), (refl, (refl, inl (refl, refl, refl)))), (refl, (refl, inl (refl, refl, refl)))), (refl, (refl, inl (refl, refl, refl)))), (refl, (refl, inl (refl, refl, refl)))), (refl, (refl, inl (refl, refl, refl)))), (refl, (refl, inl (refl, refl, refl)))), (refl, (refl, inl (refl, refl, refl)))), (refl, (refl, inl (refl, refl, refl)))), (refl, (refl, inl (refl, refl, refl)))), (lit≤ tt, refl, ((tt, refl), refl)));
  ended = record { calls = ((tt, refl), refl); phases = refl; held = refl };
}

counted_by_last : IsWhole examples.counted_by_last
unfolding create eval_all reaches word_at word
counted_by_last = record {
  legal = (((((((((((((((((((((((((((((tt, ((lit≤ tt, lit≤ tt), refl, refl)), (refl, (refl, inl (refl, refl, refl)))), (refl, (refl, inl (refl, refl, refl)))), ((lit≤ tt, lit≤ tt), refl, refl)), (refl, (refl, inl (refl, refl, refl)))), (refl, (refl, inl (refl, refl, refl)))), (refl, (refl, inl (refl, refl, refl)))), (refl, (refl, inl (refl, refl, refl)))), ((lit≤ tt, lit≤ tt), refl, refl)), (refl, (refl, inl (refl, refl, refl)))), (refl, (refl, inl (refl, refl, refl)))), ((lit≤ tt, lit≤ tt), refl, refl)), (refl, (refl, inl (refl, refl, refl)))), (refl, (refl, inl (refl, refl, refl)))), (refl, (refl, inl (refl, refl, refl)))), (refl, (refl, inl (refl, refl, refl)))), (refl, (refl, inl (refl, refl, refl)))), (refl, (refl, inl (refl, refl, refl)))), (refl, (refl, inl (refl, refl, refl)))), (refl, (refl, inl (refl, refl, refl)))), (refl, (refl, inl (refl, refl, refl)))), ((lit≤ tt, lit≤ tt), refl, refl)), (refl, (refl, inl (refl, refl, refl)))), (refl, (refl, inl (refl, refl, refl)))), (refl, (refl, inl (refl, refl, refl)))), (refl, (refl, inl (refl, refl, refl)))), (refl, (refl, inl (refl, refl, refl)))), (refl, (refl, inl (refl, refl, refl)))), (lit≤ tt, refl, ((((tt, refl), refl), refl), refl)));
  ended = record { calls = ((((tt, refl), refl), refl), refl); phases = refl; held = refl };
}

due_again : IsWhole examples.due_again
unfolding create eval_all reaches word_at word
due_again = record {
  legal = ((((((((((((((((((((((((((((tt, (refl, (refl, inl (refl, refl, refl)))), (tt, refl, refl)), (refl, (refl, inl (refl, refl, refl)))), (tt, refl, refl)), (refl, (refl, inl (refl, refl, refl)))), refl), (refl, (refl, inl (refl, refl, refl)))), (refl, (refl, inl (refl, refl, refl)))), refl), (refl, (refl, inl (refl, refl, refl)))), (tt, refl, refl)), (refl, (refl, inl (refl, refl, refl)))), (tt, refl, refl)), (refl, (refl, inl (refl, refl, refl)))), refl), (refl, (refl, inl (refl, refl, refl)))), (refl, (refl, inl (refl, refl, refl)))), (refl, (refl, inl (refl, refl, refl)))), (refl, (refl, inl (refl, refl, refl)))), (refl, (refl, inl (refl, refl, refl)))), refl), (refl, (refl, inl (refl, refl, refl)))), (tt, refl, refl)), (refl, (refl, inl (refl, refl, refl)))), (refl, (refl, inl (refl, refl, refl)))), (refl, (refl, inl (refl, refl, refl)))), (refl, (refl, inl (refl, refl, refl)))), (lit≤ tt, refl, ((tt, refl), refl)));
  ended = record { calls = ((tt, refl), refl); phases = refl; held = refl };
}

donor_that_is_last : IsWhole examples.donor_that_is_last
unfolding create eval_all reaches word_at word
donor_that_is_last = record {
  legal = ((((((((tt, ((lit≤ tt, lit≤ tt), refl, refl)), (refl, (refl, inl (refl, refl, refl)))), (refl, (refl, inl (refl, refl, refl)))), ((lit≤ tt, lit≤ tt), refl, refl)), (refl, (refl, inl (refl, refl, refl)))), (refl, (refl, inl (refl, refl, refl)))), (refl, (refl, inl (refl, refl, refl)))), (lit≤ tt, refl, ((tt, refl), refl)));
  ended = record { calls = ((tt, refl), refl); phases = refl; held = refl };
}

pub are_whole : AreLists
are_whole = record {
  donor_that_is_last = donor_that_is_last;
  extracted_values = extracted_values;
  list_of_eight = list_of_eight;
  counted_by_last = counted_by_last;
  due_again = due_again;
}
