-- Each is refused memory by computation.
use Rattle.std.proofs.Common.{lit≤, refl, inl}
use Rattle.vch_base.specs.Words.{word}
use Rattle.vch_recipe.specs.Recipes.{word_at}
use Rattle.vch_model.specs.Eval.{create, eval_all}
use Rattle.vch_model.specs.Legal.{reaches}
use Rattle.vch_model.specs.Wants.{IsUnwanted}
use Rattle.vch_model.specs.WorkedWants as wants
use Rattle.vch_model.specs.Unwanted.{AreUnwanted}

no_bytes : IsUnwanted wants.no_bytes
unfolding create eval_all reaches word_at word
no_bytes = record {
  legal = tt;
  unwanted = refl;
}

cut_header : IsUnwanted wants.cut_header
unfolding create eval_all reaches word_at word
cut_header = record {
  legal = tt;
  unwanted = refl;
}

cut_record : IsUnwanted wants.cut_record
unfolding create eval_all reaches word_at word
cut_record = record {
  legal = tt;
  unwanted = refl;
}

unknown_previous : IsUnwanted wants.unknown_previous
unfolding create eval_all reaches word_at word
unknown_previous = record {
  legal = tt;
  unwanted = refl;
}

key_without_manager : IsUnwanted wants.key_without_manager
unfolding create eval_all reaches word_at word
key_without_manager = record {
  legal = tt;
  unwanted = refl;
}

test_key_in_version_1 : IsUnwanted wants.test_key_in_version_1
unfolding create eval_all reaches word_at word
test_key_in_version_1 = record {
  legal = tt;
  unwanted = refl;
}

redeem_all_with_content : IsUnwanted wants.redeem_all_with_content
unfolding create eval_all reaches word_at word
redeem_all_with_content = record {
  legal = tt;
  unwanted = refl;
}

store_at_all : IsUnwanted wants.store_at_all
unfolding create eval_all reaches word_at word
store_at_all = record {
  legal = tt;
  unwanted = refl;
}

copy_with_content : IsUnwanted wants.copy_with_content
unfolding create eval_all reaches word_at word
copy_with_content = record {
  legal = tt;
  unwanted = refl;
}

copy_at_key_99 : IsUnwanted wants.copy_at_key_99
unfolding create eval_all reaches word_at word
copy_at_key_99 = record {
  legal = ((tt, (tt, refl, refl)), (refl, (refl, inl (refl, refl, refl))));
  unwanted = refl;
}

code_before_asking : IsUnwanted wants.code_before_asking
unfolding create eval_all reaches word_at word
code_before_asking = record {
  legal = tt;
  unwanted = refl;
}

extract_unmanaged : IsUnwanted wants.extract_unmanaged
unfolding create eval_all reaches word_at word
extract_unmanaged = record {
  legal = ((tt, (tt, refl, refl)), (refl, (refl, inl (refl, refl, refl))));
  unwanted = refl;
}

recipes_of_unknown : IsUnwanted wants.recipes_of_unknown
unfolding create eval_all reaches word_at word
recipes_of_unknown = record {
  legal = tt;
  unwanted = refl;
}

send_to_no_task : IsUnwanted wants.send_to_no_task
unfolding create eval_all reaches word_at word
send_to_no_task = record {
  legal = (tt, (refl, (refl, inl (refl, refl, refl))));
  unwanted = refl;
}

send_of_unknown : IsUnwanted wants.send_of_unknown
unfolding create eval_all reaches word_at word
send_of_unknown = record {
  legal = tt;
  unwanted = refl;
}

send_of_list_to_full : IsUnwanted wants.send_of_list_to_full
unfolding create eval_all reaches word_at word
send_of_list_to_full = record {
  legal = (((tt, ((lit≤ tt, lit≤ tt), refl, refl)), (refl, (refl, inl (refl, refl, refl)))), (refl, (refl, inl (refl, refl, refl))));
  unwanted = refl;
}

recv_from_empty : IsUnwanted wants.recv_from_empty
unfolding create eval_all reaches word_at word
recv_from_empty = record {
  legal = tt;
  unwanted = refl;
}

recv_of_bare_first : IsUnwanted wants.recv_of_bare_first
unfolding create eval_all reaches word_at word
recv_of_bare_first = record {
  legal = ((((tt, (tt, refl, refl)), (refl, (refl, inl (refl, refl, refl)))), (refl, (refl, inl (refl, refl, refl)))), (refl, (refl, inl (refl, refl, refl))));
  unwanted = refl;
}

ledger : IsUnwanted wants.ledger
unfolding create eval_all reaches word_at word
ledger = record {
  legal = tt;
  unwanted = refl;
}

live : IsUnwanted wants.live
unfolding create eval_all reaches word_at word
live = record {
  legal = tt;
  unwanted = refl;
}

assertions : IsUnwanted wants.assertions
unfolding create eval_all reaches word_at word
assertions = record {
  legal = tt;
  unwanted = refl;
}

charge : IsUnwanted wants.charge
unfolding create eval_all reaches word_at word
charge = record {
  legal = tt;
  unwanted = refl;
}

extern : IsUnwanted wants.extern
unfolding create eval_all reaches word_at word
extern = record {
  legal = tt;
  unwanted = refl;
}

pub are_unwanted : AreUnwanted
are_unwanted = record {
  no_bytes = no_bytes;
  cut_header = cut_header;
  cut_record = cut_record;
  unknown_previous = unknown_previous;
  key_without_manager = key_without_manager;
  test_key_in_version_1 = test_key_in_version_1;
  redeem_all_with_content = redeem_all_with_content;
  store_at_all = store_at_all;
  copy_with_content = copy_with_content;
  copy_at_key_99 = copy_at_key_99;
  code_before_asking = code_before_asking;
  extract_unmanaged = extract_unmanaged;
  recipes_of_unknown = recipes_of_unknown;
  send_to_no_task = send_to_no_task;
  send_of_unknown = send_of_unknown;
  send_of_list_to_full = send_of_list_to_full;
  recv_from_empty = recv_from_empty;
  recv_of_bare_first = recv_of_bare_first;
  ledger = ledger;
  live = live;
  assertions = assertions;
  charge = charge;
  extern = extern;
}
