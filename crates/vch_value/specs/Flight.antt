-- What is in flight between two events of a value, as contracts see it. Who holds one got it from the event before.
use Rattle.std.specs.Prelude.{ℕ, Bool}

-- a value that was handed out and is not referred to yet: its handle, and whether it is Default
pub record Receipt : Type 0 where
  pub handle : ℕ
  pub persist : Bool

-- a claim on the entry at an index, and the made count that the manager is to be asked about
pub record Claim : Type 0 where
  pub index : ℕ
  pub sync : ℕ

-- a claim with its manager's answer
pub record Asked : Type 0 where
  pub index : ℕ
  pub sync : ℕ
  pub agreed : Bool
