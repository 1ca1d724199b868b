-- A deed at several keys, one after the other: what one key takes leaves the others as they were.
use Rattle.std.proofs.Common.{◌≡◌, ℕ, false, sym, subst, ap, Option, Some, None}
use Rattle.vch_base.specs.declared.key.Key.{Key}
use Rattle.vch_base.specs.Keys.{same_key}
use Rattle.vch_base.specs.Keyed.{of_key}
use Rattle.vch_frame.specs.Indices.{index_of}
use Rattle.vch_moves.specs.Works.{Workspace, Changes}
use Rattle.vch_creating.specs.declared.change.Deed.{Deed}
use Rattle.vch_creating.specs.declared.change.Deed.TheVariants as deeds
use Rattle.vch_creating.specs.Changing.{MayDo, MayShare}

other_same : (old new : Workspace) (k q : Key) (x : Option (Option ℕ)) → Changes old k x new → same_key k q ≡ false → of_key q new.keyed ≡ of_key q old.keyed
other_same old new k q None e n = ap (λ (w : Workspace). of_key q w.keyed) e
other_same old new k q (Some i) e n = e.others q n

-- what a deed may do at a key, it may do after a change at another
pub do_after : (old new : Workspace) (k q : Key) (deed : Deed) (x : Option (Option ℕ)) → Changes old k x new → same_key k q ≡ false → MayDo q old.keyed deed → MayDo q new.keyed deed
do_after old new k q (deeds.Copy v) x e n m = subst (λ y. MayShare y (index_of q v)) (sym (other_same old new k q x e n)) m
do_after old new k q (deeds.Remove v) x e n m = tt
