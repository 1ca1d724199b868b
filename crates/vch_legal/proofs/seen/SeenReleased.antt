-- Ask, seen in the sequential store: the entry may follow, and the store after it is the one that the machine stands
-- for.
use Rattle.std.proofs.Common.{◌≡◌, Bool, List, refl, true, false, sym, ap, ◌∙◌, subst, Some, Option}
use Rattle.std.specs.Prelude.{nat_lt}
use Rattle.std.specs.List.{flat_map}
use Rattle.vch_base.specs.declared.key.Key.{Key}
use Rattle.vch_base.specs.declared.key.Key.TheVariants as keys
use Rattle.vch_base.specs.Keys.{number_of, key_numbered}
use Rattle.vch_model.specs.Store as store
use Rattle.vch_model.specs.Store.{Alive, is_held, is_held_at}
use Rattle.vch_model.specs.After.{without_made}
use Rattle.vch_model.specs.Legal.{find_made, IsUnheld}
use Rattle.vch_machine.specs.State.{Place, same_place, Living, Machine, living_at, without_place, alive_of, seen}
use Rattle.vch_machine.specs.State as states
use Rattle.vch_legal.specs.Facts.{Different}
use Rattle.vch_legal.proofs.seen.SeenHeld.{unheld_seen}

-- each live value but Default is found by the number of its Made entry, and no other has that number
abbrev pub Numbered : List Living → Type 0
Numbered live = (q : Place) (a : Living) → living_at live q ≡ Some a → nat_lt 0 a.made ≡ true
    → (find_made (flat_map alive_of live) a.made ≡ Some
    (record { key = number_of q.key; value = a.value; made = a.made }))
    × (flat_map alive_of (without_place live q) ≡ without_made (flat_map alive_of live) a.made)

abbrev machine_held : Machine → Place → Bool
machine_held m q = states.is_held m q

pub key_number : (k : Key) → key_numbered (number_of k) ≡ Some k
key_number keys.Importance = refl
key_number keys.Bank = refl
key_number keys.User = refl
key_number keys.Test = refl

-- a Released entry may follow
pub released_legal : (m : Machine) (q : Place) (a : Living) → Different m.live → Numbered m.live → living_at m.live q
    ≡ Some a → nat_lt 0 a.made ≡ true
    → machine_held m q ≡ false → IsUnheld (seen m) (find_made (seen m).live a.made)
released_legal m q a different numbered e made free =
    subst (λ (o : Option Alive). IsUnheld (seen m) o) (sym (numbered q a e made).0)
    (ap (λ k. store.is_held_by (seen m) k a.value) (key_number q.key)
    ∙ unheld_seen m q.key q.handle a different e free)
