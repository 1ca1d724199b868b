-- What a manager keeps after so many commands, as the tests of managers use it.
use Rattle.std.specs.Prelude.{ℕ, ◌<◌, ◌≤◌, List, length, slice_index_or, IsSome}
use Rattle.vch_base.specs.Managers.{Kept, live_at, made_at}

-- no more handles than commands, no count above their number, and a handle that was counted is live
pub record Played (k : Kept) (commands : ℕ) (counted : List ℕ) : Type 0 where
  pub handles : length k.slots ≤ commands
  pub counts : (h : ℕ) → made_at k.slots h ≤ commands
  pub alive : (h : ℕ) → 0 < slice_index_or counted h 0 → IsSome (live_at k.slots h)
