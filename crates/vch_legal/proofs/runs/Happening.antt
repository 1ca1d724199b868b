-- What is next can happen, and until the last phase has ended something can.
use Rattle.std.proofs.Common.{◌≡◌, ℕ, Bool, refl, true, false, ap, length, Some}
use Rattle.std.specs.Prelude.{is_some}
use Rattle.vch_base.specs.declared.kind.Kind.{Kind}
use Rattle.vch_model.specs.declared.lists.Scenario.{Scenario}
use Rattle.vch_model.specs.Lines.{is_task}
use Rattle.vch_machine.specs.State.{Machine}
use Rattle.vch_machine.specs.Events.{event, phase_event, all_at_rest, numbers, ready}
use Rattle.vch_machine.specs.Next.{next_kind}
use Rattle.vch_machine.specs.PlainRuns.{never}
use Rattle.vch_machine.specs.Schedules.{Move, happens, move_of, picked, has_ended}
use Rattle.vch_legal.specs.Tie.{Ties}
use Rattle.vch_legal.proofs.runs.Possible.{event_some}
use Rattle.vch_legal.proofs.runs.Turns.{all_tasks}
use Rattle.vch_legal.proofs.runs.ScheduleRuns.{phase_some, all_ready, seed_some}

pub next_happens : (sc : Scenario) (want : Bool) (t : ℕ) (m : Machine) (kind : Kind) → Ties sc m → is_task sc t ≡ true
    → next_kind sc m t ≡ Some kind → is_some (event sc want m t) ≡ true
next_happens sc want t m kind s task e = event_some sc want t m s task (ap is_some e)

pub phase_ends : (sc : Scenario) (m : Machine) → all_at_rest sc m ≡ true → has_ended sc m ≡ false
    → is_some (phase_event sc m) ≡ true
phase_ends sc m e over = phase_some sc m e over

-- some move can happen
pub some_move : (sc : Scenario) (m : Machine) → Ties sc m → has_ended sc m ≡ false
    → (move : Move) × (is_some (happens sc m move) ≡ true)
some_move sc m s over = (
  move_of never 0 (picked (ready sc m (numbers (length sc.flags))) 0),
  seed_some sc never 0 0 m s over (ready sc m (numbers (length sc.flags))) refl
      (all_ready sc m (numbers (length sc.flags)) (all_tasks sc)),
)
