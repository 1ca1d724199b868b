use Rattle.std.proofs.Common.{refl}
use Rattle.vch_base.specs.declared.key.Key.TheVariants as keys
use Rattle.vch_creating.proofs.forming.Doing.{do_after}
use Rattle.vch_creating.proofs.change.change_keys.Goals as goal

pub change_key-requires-clause-shares : goal.change_key-requires-clause-shares
change_key-requires-clause-shares c = c.requires.shares c.in-One.key

pub change_key-requires-in-All-clause-shares : goal.change_key-requires-in-All-clause-shares
change_key-requires-in-All-clause-shares c = c.requires.shares keys.Importance

pub change_key-requires-in-All-2-clause-shares : goal.change_key-requires-in-All-2-clause-shares
change_key-requires-in-All-2-clause-shares c =
    do_after _ (record { keyed = c.change_key-in-All.new.values; map = c.change_key-in-All.new.map; lets = c.change_key-in-All.new.lets }) keys.Importance keys.Bank c.args.deed.now _ c.change_key-in-All.ensures.changes refl (c.requires.shares keys.Bank)

pub change_key-requires-in-All-3-clause-shares : goal.change_key-requires-in-All-3-clause-shares
change_key-requires-in-All-3-clause-shares c =
    do_after _ (record { keyed = c.change_key-in-All-2.new.values; map = c.change_key-in-All-2.new.map; lets = c.change_key-in-All-2.new.lets }) keys.Bank keys.User c.args.deed.now _ c.change_key-in-All-2.ensures.changes refl
    (do_after _ (record { keyed = c.change_key-in-All.new.values; map = c.change_key-in-All.new.map; lets = c.change_key-in-All.new.lets }) keys.Importance keys.User c.args.deed.now _ c.change_key-in-All.ensures.changes refl (c.requires.shares keys.User))

pub change_key-requires-then-version-eq2-clause-shares : goal.change_key-requires-then-version-eq2-clause-shares
change_key-requires-then-version-eq2-clause-shares c =
    do_after _ (record { keyed = c.change_key-in-All-3.new.values; map = c.change_key-in-All-3.new.map; lets = c.change_key-in-All-3.new.lets }) keys.User keys.Test c.args.deed.now _ c.change_key-in-All-3.ensures.changes refl
    (do_after _ (record { keyed = c.change_key-in-All-2.new.values; map = c.change_key-in-All-2.new.map; lets = c.change_key-in-All-2.new.lets }) keys.Bank keys.Test c.args.deed.now _ c.change_key-in-All-2.ensures.changes refl
    (do_after _ (record { keyed = c.change_key-in-All.new.values; map = c.change_key-in-All.new.map; lets = c.change_key-in-All.new.lets }) keys.Importance keys.Test c.args.deed.now _ c.change_key-in-All.ensures.changes refl (c.requires.shares keys.Test)))
