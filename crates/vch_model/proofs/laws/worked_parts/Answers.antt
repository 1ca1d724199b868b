use Rattle.vch_model.proofs.worked.WorkedCountsWhole as counts
use Rattle.vch_model.proofs.worked.WorkedKeysWhole as by_key
use Rattle.vch_model.proofs.worked.WorkedListsWhole as lists
use Rattle.vch_model.proofs.worked.WorkedNamesWhole as names
use Rattle.vch_model.proofs.worked.WorkedLongWhole as long
use Rattle.vch_model.proofs.worked.WorkedRecipesWhole as recipes
use Rattle.vch_model.proofs.worked.WorkedRecordsWhole as records
use Rattle.vch_model.proofs.worked.WorkedRefusalsWhole as refusals
use Rattle.vch_model.proofs.worked.WorkedTwoWhole as two
use Rattle.vch_model.proofs.laws.worked_parts.Goals as goal

-- src/laws.rt
pub returns-clause-refusals : goal.returns-clause-refusals
returns-clause-refusals c = refusals.are_whole

pub returns-clause-counts : goal.returns-clause-counts
returns-clause-counts c = counts.are_whole

pub returns-clause-recipes : goal.returns-clause-recipes
returns-clause-recipes c = recipes.are_whole

pub returns-clause-long : goal.returns-clause-long
returns-clause-long c = long.are_whole

pub returns-clause-version_2 : goal.returns-clause-version_2
returns-clause-version_2 c = two.are_whole

pub returns-clause-records : goal.returns-clause-records
returns-clause-records c = records.are_whole

pub returns-clause-by_key : goal.returns-clause-by_key
returns-clause-by_key c = by_key.are_whole

pub returns-clause-lists : goal.returns-clause-lists
returns-clause-lists c = lists.are_whole

pub returns-clause-names : goal.returns-clause-names
returns-clause-names c = names.are_whole
