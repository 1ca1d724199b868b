-- How many claims were taken, references and questions.
use Rattle.std.specs.Prelude.{◌≡◌, ◌+◌, Option, Some, None}
use Rattle.vch_value.specs.Flight.{Claim}
use Rattle.vch_machine.specs.State as machine
use Rattle.vch_frame.specs.declared.tally.Tally.{Tally}

-- the tally is the machine's
pub record SameTally (x : Tally) (y : machine.Tally) : Type 0 where
  pub claims : x.claims ≡ y.claims
  pub refers : x.refers ≡ y.refers
  pub asks : x.asks ≡ y.asks

-- one claim more where one was taken
abbrev pub more_claims : Option Claim → Tally → Tally
more_claims None n = n
more_claims (Some x) n = record n { claims = n.claims + 1 }

-- one question more was asked
abbrev pub one_asked : Tally → Tally
one_asked n = record n { asks = n.asks + 1 }

-- one reference more was taken
abbrev pub one_referred : Tally → Tally
one_referred n = record n { refers = n.refers + 1 }
