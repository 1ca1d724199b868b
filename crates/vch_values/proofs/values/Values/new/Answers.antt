use Rattle.std.proofs.Common.{refl}
use Rattle.vch_base.specs.declared.key.Key.TheVariants as keys
use Rattle.vch_values.proofs.Rules.{new_ruled}
use Rattle.vch_values.proofs.values.Values.new.Goals as goal

pub invariant_of-result : goal.invariant_of-result
invariant_of-result c =
    new_ruled c.args.flags.now c.in_ok-importance.importance c.in_ok-bank.bank c.new-5.result c.new-7.result c.in_ok-importance.ensures c.in_ok-bank.ensures c.new-5.ensures c.new-7.ensures

pub returns : goal.returns
returns c keys.Importance = record { entries = c.new-3.ensures; kept = c.in_ok-importance.ensures; numbers = rw c.new-9.ensures refl }
returns c keys.Bank = record { entries = c.new-4.ensures; kept = c.in_ok-bank.ensures; numbers = rw c.new-9.ensures refl }
returns c keys.User = record { entries = c.new-6.ensures; kept = c.new-5.ensures; numbers = rw c.new-9.ensures refl }
returns c keys.Test = record { entries = c.new-8.ensures; kept = c.new-7.ensures; numbers = rw c.new-9.ensures refl }
