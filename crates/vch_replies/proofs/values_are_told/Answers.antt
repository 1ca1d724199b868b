use Rattle.vch_replies.proofs.calls.Named.{extract_reply, recipes_reply}
use Rattle.vch_replies.proofs.values_are_told.Goals as goal

pub returns-clause-extract : goal.returns-clause-extract
returns-clause-extract c = λ sc c m t name key b. extract_reply sc c m t b name key

pub returns-clause-recipes : goal.returns-clause-recipes
returns-clause-recipes c = λ sc c m t name b. recipes_reply sc c m t b name
