-- Each worked history is a whole one of its scenario, and two texts.
use Rattle.std.specs.Prelude.{◌≡◌, ℕ, List, ◌++◌, codes}
use Rattle.vch_model.specs.Legal.{Whole}
use Rattle.vch_model.specs.Text.{Text, newline}
use Rattle.vch_model.specs.Worked as examples
use Rattle.vch_model.specs.Examples.{Example}
use Rattle.vch_model.specs.WorkedKeys as by_key
use Rattle.vch_model.specs.WorkedLists as lists
use Rattle.vch_model.specs.WorkedNames as names
use Rattle.vch_model.specs.WorkedRecords as records
use Rattle.vch_model.specs.WorkedLong as long
use Rattle.vch_model.specs.WorkedTwo as two
use Rattle.vch_model.specs.WorkedRecipes as recipes
use Rattle.vch_model.specs.WorkedCounts as counts
use Rattle.vch_model.specs.WorkedRefusals as refusals

-- a history of the example's scenario: legal at each entry by the sequential store, and ended
abbrev pub IsWhole : Example → Type 0
IsWhole e = Whole e.history e.scenario

abbrev pub text_of : Example → List ℕ
text_of e = Text e.history e.scenario

pub record AreWhole : Type 0 where
  pub last_name : IsWhole examples.last_name
  pub empty_array : IsWhole examples.empty_array
  pub equal_vouchers : IsWhole examples.equal_vouchers
  pub copied_all : IsWhole examples.copied_all
  pub cut_record : IsWhole examples.cut_record
  pub without_manager : IsWhole examples.without_manager
  pub made_before_ask : IsWhole examples.made_before_ask
  pub made_after_ask : IsWhole examples.made_after_ask
  pub claimed_again : IsWhole examples.claimed_again
  pub assertions : IsWhole examples.assertions
  pub charges : IsWhole examples.charges
  pub own_ledger : IsWhole examples.own_ledger
  pub full_queue : IsWhole examples.full_queue
  pub seed_0 : IsWhole examples.seed_0
  pub seed_0_create : IsWhole examples.seed_0_create
  pub turn_create : IsWhole examples.turn_create
  pub client_and_service : IsWhole examples.client_and_service
  pub removed_where_equal : IsWhole examples.removed_where_equal
  pub redeemed_all : IsWhole examples.redeemed_all
  pub replaced : IsWhole examples.replaced
  pub moved_name : IsWhole examples.moved_name

pub record AreRecords : Type 0 where
  pub refused_records : IsWhole records.refused_records
  pub carried_records : IsWhole records.carried_records

pub record AreLong : Type 0 where
  pub longest_array : IsWhole long.longest_array
  pub long_recipe : IsWhole long.long_recipe
  pub largest_recipe : IsWhole long.largest_recipe

pub record AreRefusals : Type 0 where
  pub refused_calls : IsWhole refusals.refused_calls
  pub unmanaged_key : IsWhole refusals.unmanaged_key
  pub out_of_memory : IsWhole refusals.out_of_memory
  pub out_of_memory_when_full : IsWhole refusals.out_of_memory_when_full
  pub out_of_memory_when_asked : IsWhole refusals.out_of_memory_when_asked

pub record AreCounts : Type 0 where
  pub counted : IsWhole counts.counted
  pub counted_past_bound : IsWhole counts.counted_past_bound
  pub counted_in_queue : IsWhole counts.counted_in_queue
  pub counted_anew : IsWhole counts.counted_anew

pub record AreRecipes : Type 0 where
  pub cleared : IsWhole recipes.cleared
  pub whole_recipe : IsWhole recipes.whole_recipe
  pub part_recipe : IsWhole recipes.part_recipe
  pub nothing_left : IsWhole recipes.nothing_left

pub record AreTwo : Type 0 where
  pub test_key : IsWhole two.test_key
  pub test_key_in_version_1 : IsWhole two.test_key_in_version_1
  pub limited_queue : IsWhole two.limited_queue
  pub left_in_order : IsWhole two.left_in_order
  pub sent_while_leaving : IsWhole two.sent_while_leaving
  pub three_messages : IsWhole two.three_messages

pub record AreKeys : Type 0 where
  pub records_in_version_1 : IsWhole by_key.records_in_version_1
  pub records_in_version_2 : IsWhole by_key.records_in_version_2

pub record AreLists : Type 0 where
  pub extracted_values : IsWhole lists.extracted_values
  pub list_of_eight : IsWhole lists.list_of_eight
  pub counted_by_last : IsWhole lists.counted_by_last
  pub due_again : IsWhole lists.due_again
  pub donor_that_is_last : IsWhole lists.donor_that_is_last

pub record AreNames : Type 0 where
  pub counted_live : IsWhole names.counted_live
  pub counted_references : IsWhole names.counted_references
  pub unknown_to_full : IsWhole names.unknown_to_full
  pub told_of_four : IsWhole names.told_of_four
  pub told_of_exit : IsWhole names.told_of_exit
  pub told_of_gone : IsWhole names.told_of_gone

-- the report of the drop of a last name
abbrev pub last_name_text : List ℕ
last_name_text =
    codes "report 1" ++ newline
    ++ codes "made 7 user 6162" ++ newline
    ++ codes "call 1 1 create 0 1" ++ newline
    ++ codes "call 1 2 drop 0" ++ newline
    ++ codes "released 1" ++ newline
    ++ codes "phase" ++ newline
    ++ codes "task 1 ledger 0 held 0 out 0" ++ newline
    ++ codes "vouchers 0 values 1" ++ newline
    ++ codes "end" ++ newline

-- the report of the client and the service
abbrev pub client_text : List ℕ
client_text =
    codes "report 1" ++ newline
    ++ codes "made 2 list 1" ++ newline
    ++ codes "made 7 user 6162" ++ newline
    ++ codes "call 1 1 create 0 1" ++ newline
    ++ codes "made 3 task 1" ++ newline
    ++ codes "call 1 2 send 0" ++ newline
    ++ codes "call 1 3 drop 0" ++ newline
    ++ codes "made 2 list 1,2" ++ newline
    ++ codes "made 3 account 1 2" ++ newline
    ++ codes "call 2 1 recv 0 1 9 1" ++ newline
    ++ codes "released 1" ++ newline
    ++ codes "released 4" ++ newline
    ++ codes "call 2 2 charge 0" ++ newline
    ++ codes "call 2 3 assertions 0 1 0" ++ newline
    ++ codes "call 2 4 drop 0" ++ newline
    ++ codes "released 7" ++ newline
    ++ codes "released 8" ++ newline
    ++ codes "released 2" ++ newline
    ++ codes "phase" ++ newline
    ++ codes "call 1 4 ledger 0 1200" ++ newline
    ++ codes "phase" ++ newline
    ++ codes "task 1 ledger 1200 held 0 out 0" ++ newline
    ++ codes "task 2 ledger 0 held 0 out 0" ++ newline
    ++ codes "vouchers 0 values 1" ++ newline
    ++ codes "end" ++ newline

pub record Texts : Type 0 where
  pub last_name : text_of examples.last_name ≡ last_name_text
  pub client_and_service : text_of examples.client_and_service ≡ client_text
