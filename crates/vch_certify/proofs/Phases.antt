-- How many phases a legal history has ended.
use Rattle.std.proofs.Common.{◌≡◌, ℕ, ◌+◌, ◌≤◌, ◌<◌, List, [], ◌∷◌, arith, length}
use Rattle.vch_model.specs.Legal.{LegalPast}
use Rattle.vch_model.specs.Lines.{phases_in}
use Rattle.vch_model.specs.declared.entry.Entry.{Entry}
use Rattle.vch_model.specs.declared.entry.Entry.TheVariants as entries
use Rattle.vch_model.specs.declared.lists.Scenario.{Scenario}

pub phases_few : (sc : Scenario) (past : List Entry) → LegalPast sc past → phases_in past ≤ length sc.phases
phases_few sc [] l = omega arith
phases_few sc (entries.Call t n word reply ∷ past) l = phases_few sc past l.0
phases_few sc (entries.Made k x ∷ past) l = phases_few sc past l.0
phases_few sc (entries.Released e ∷ past) l = phases_few sc past l.0
phases_few sc (entries.Gone t name ∷ past) l = phases_few sc past l.0
phases_few sc (entries.Lost t ∷ past) l = phases_few sc past l.0
phases_few sc (entries.Phase ∷ past) l = let a = l.1.0 in omega (arith, a)
