-- The worked scenarios, run by the machine.
use Rattle.std.proofs.Common.{refl}
use Rattle.vch_base.specs.Words.{word}
use Rattle.vch_recipe.specs.Recipes.{word_at}
use Rattle.vch_model.specs.Eval.{create, eval_all}
use Rattle.vch_machine.specs.Events.{event, phase_event}
use Rattle.vch_machine.specs.Schedules.{in_turn, by_seed}
use Rattle.vch_machine.specs.Worked.{Worked}
use Rattle.vch_machine.proofs.FullList.{full_list}

pub worked : Worked
unfolding event phase_event create eval_all word_at word in_turn by_seed
worked = record {
  last_name = refl;
  empty_array = refl;
  equal_vouchers = refl;
  copied_all = refl;
  cut_record = refl;
  without_manager = refl;
  made_before_ask = refl;
  made_after_ask = refl;
  claimed_again = refl;
  assertions = refl;
  charges = refl;
  own_ledger = refl;
  full_queue = refl;
  seed_0 = refl;
  seed_0_create = refl;
  turn_create = refl;
  client_and_service = refl;
  removed_where_equal = refl;
  redeemed_all = refl;
  replaced = refl;
  moved_name = refl;
  test_key = refl;
  test_key_in_version_1 = refl;
  limited_queue = refl;
  full_list = full_list;
  large_charges = refl;
}
