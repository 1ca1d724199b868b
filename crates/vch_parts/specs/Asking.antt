-- Keys that are still to be asked, as four marks.
use Rattle.std.specs.Prelude.{Bool, List, [], ◌∷◌, ◌++◌, if◌then◌else◌}
use Rattle.vch_base.specs.declared.key.Key.{Key}
use Rattle.vch_base.specs.declared.key.Key.TheVariants as keys

abbrev pub key_where : Key → Bool → List Key
key_where k b = if b then k ∷ [] else []

-- the keys that are marked, in rising order
abbrev pub marked : Bool → Bool → Bool → Bool → List Key
marked importance bank user test = key_where keys.Importance importance ++ (key_where keys.Bank bank ++ (key_where keys.User user ++ key_where keys.Test test))
