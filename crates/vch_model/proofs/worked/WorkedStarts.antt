-- Each is legal, checked entry by entry.
use Rattle.std.proofs.Common.{lit≤, refl, inl, inr}
use Rattle.vch_base.specs.Words.{word}
use Rattle.vch_recipe.specs.Recipes.{word_at}
use Rattle.vch_model.specs.Eval.{create, eval_all}
use Rattle.vch_model.specs.Legal.{reaches}
use Rattle.vch_model.specs.WorkedStarts as examples
use Rattle.vch_model.specs.Starts.{IsStart, AreStarts}

wants_of_creates : IsStart examples.wants_of_creates
unfolding create eval_all reaches word_at word
wants_of_creates = ((((((((((tt, (refl, (refl, inr (inl (refl, refl))))), (refl, (refl, inr (inl (refl, refl))))), (refl, (refl, inr (inl (refl, refl))))), (refl, (refl, inr (inl (refl, refl))))), (refl, (refl, inr (inl (refl, refl))))), (tt, refl, refl)), (refl, (refl, inl (refl, refl, refl)))), (refl, (refl, inr (inl (refl, refl))))), (refl, (refl, inr (inl (refl, refl))))), (refl, (refl, inr (inl (refl, refl)))))

want_of_test_key : IsStart examples.want_of_test_key
unfolding create eval_all reaches word_at word
want_of_test_key = (tt, (refl, (refl, inr (inl (refl, refl)))))

want_of_full_queue : IsStart examples.want_of_full_queue
unfolding create eval_all reaches word_at word
want_of_full_queue = ((((((tt, (refl, (refl, inl (refl, refl, refl)))), (tt, refl, refl)), (refl, (refl, inl (refl, refl, refl)))), (refl, (refl, inl (refl, refl, refl)))), (refl, (refl, inl (refl, refl, refl)))), (refl, (refl, inr (inl (refl, refl)))))

unmade_to_full : IsStart examples.unmade_to_full
unfolding create eval_all reaches word_at word
unmade_to_full = (((tt, (refl, (refl, inl (refl, refl, refl)))), (refl, (refl, inl (refl, refl, refl)))), (refl, (refl, inl (refl, refl, refl))))

live_between : IsStart examples.live_between
unfolding create eval_all reaches word_at word
live_between = (((tt, (tt, refl, refl)), (refl, (refl, inl (refl, refl, refl)))), (refl, (refl, inl (refl, refl, refl))))

live_in_queue : IsStart examples.live_in_queue
unfolding create eval_all reaches word_at word
live_in_queue = ((((tt, (tt, refl, refl)), (refl, (refl, inl (refl, refl, refl)))), (refl, (refl, inl (refl, refl, refl)))), (refl, (refl, inl (refl, refl, refl))))

held_until_released : IsStart examples.held_until_released
unfolding create eval_all reaches word_at word
held_until_released = ((((((((tt, ((lit≤ tt, lit≤ tt), refl, refl)), (refl, (refl, inl (refl, refl, refl)))), (refl, (refl, inl (refl, refl, refl)))), ((lit≤ tt, lit≤ tt), refl, refl)), (refl, (refl, inl (refl, refl, refl)))), (refl, (refl, inl (refl, refl, refl)))), (refl, (refl, inl (refl, refl, refl)))), (refl, (refl, inl (refl, refl, refl))))

made_before_want : IsStart examples.made_before_want
unfolding create eval_all reaches word_at word
made_before_want = (((((tt, (tt, refl, refl)), (refl, (refl, inr (inl (refl, refl))))), (refl, (refl, inl (refl, refl, refl)))), (refl, (refl, inl (refl, refl, refl)))), (refl, (refl, inl (refl, refl, refl))))

want_before_cut : IsStart examples.want_before_cut
unfolding create eval_all reaches word_at word
want_before_cut = (tt, (refl, (refl, inr (inl (refl, refl)))))

pub are_starts : AreStarts
are_starts = record {
  want_before_cut = want_before_cut;
  wants_of_creates = wants_of_creates;
  want_of_test_key = want_of_test_key;
  want_of_full_queue = want_of_full_queue;
  unmade_to_full = unmade_to_full;
  live_between = live_between;
  live_in_queue = live_in_queue;
  held_until_released = held_until_released;
  made_before_want = made_before_want;
}
