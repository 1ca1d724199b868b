-- What a step of reading gives, or why it can't.
use Rattle.std.specs.Prelude.{◌≡◌, Option, Some, None, Result, Ok, Err}
use Rattle.vch_scenario.specs.declared.fault.Why.{Why}
use Rattle.vch_scenario.specs.declared.fault.Why.TheVariants.{Form}
use Rattle.vch_text.specs.declared.digits.HexFault.{HexFault}
use Rattle.vch_text.specs.declared.digits.HexFault.TheVariants as hexes
use Rattle.vch_scenario.specs.declared.fault.Stop.{Stop}
use Rattle.vch_scenario.specs.declared.fault.Stop.TheVariants as stops

infixl 10 ◌>>=◌
abbrev pub ◌>>=◌ : {A B : Type 0} → Result A Why → (A → Result B Why) → Result B Why
(Ok x) >>= f = f x
(Err e) >>= f = Err e

-- what a function returned, seen by view, is what reading gives
abbrev pub Tells : {X Y : Type 0} → (X → Y) → Result X Why → Result Y Why → Type 0
Tells view (Ok x) read = read ≡ Ok (view x)
Tells view (Err e) read = read ≡ Err e

abbrev pub Stops : {Y : Type 0} → Stop → Result Y Why → Type 0
Stops (stops.Memory cause) read = Unit {0}
Stops (stops.Fault e) read = read ≡ Err e

-- the same, unless memory ran out
abbrev pub Gives : {X Y : Type 0} → (X → Y) → Result X Stop → Result Y Why → Type 0
Gives view (Ok x) read = read ≡ Ok (view x)
Gives view (Err e) read = Stops e read

-- what is found, and a fault of form where nothing is
abbrev pub formed : {X : Type 0} → Option X → Result X Why
formed (Some x) = Ok x
formed None = Err Form

-- what stops a line whose digits have this fault
abbrev pub stop_of : HexFault → Stop
stop_of hexes.Malformed = stops.Fault Form
stop_of (hexes.NoMemory cause) = stops.Memory cause
