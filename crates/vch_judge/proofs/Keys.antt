-- Something at each key.
use Rattle.vch_base.specs.declared.key.Key.{Key}
use Rattle.vch_base.specs.declared.key.Key.TheVariants as keys

pub by_key : (P : Key → Type 0) → P keys.Importance → P keys.Bank → P keys.User → P keys.Test → (k : Key) → P k
by_key P i b u t keys.Importance = i
by_key P i b u t keys.Bank = b
by_key P i b u t keys.User = u
by_key P i b u t keys.Test = t
