use Rattle.vch_replies.proofs.left.Recounted.{extern_left}
use Rattle.vch_replies.proofs.left.Paid.{charge_left}
use Rattle.vch_replies.proofs.entries_add_up.Goals as goal

pub returns-clause-count : goal.returns-clause-count
returns-clause-count c = extern_left

pub returns-clause-charge : goal.returns-clause-charge
returns-clause-charge c = λ sc c m t i name n h word v payer b call named handle. charge_left sc c m t i name n h word v b call named handle payer
