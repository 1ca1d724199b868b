-- What may happen before the end.
use Rattle.vch_model.specs.Legal.{Legal}
use Rattle.vch_model.specs.Examples.{Example}
use Rattle.vch_model.specs.WorkedStarts as examples

abbrev pub IsStart : Example → Type 0
IsStart e = Legal e.history e.scenario

pub record AreStarts : Type 0 where
  pub wants_of_creates : IsStart examples.wants_of_creates
  pub want_of_test_key : IsStart examples.want_of_test_key
  pub want_of_full_queue : IsStart examples.want_of_full_queue
  pub unmade_to_full : IsStart examples.unmade_to_full
  pub live_between : IsStart examples.live_between
  pub live_in_queue : IsStart examples.live_in_queue
  pub held_until_released : IsStart examples.held_until_released
  pub made_before_want : IsStart examples.made_before_want
  pub want_before_cut : IsStart examples.want_before_cut
