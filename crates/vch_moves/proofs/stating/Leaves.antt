-- The laws of names and messages that go.
use Rattle.std.specs.Prelude.{◌≡◌, ℕ, ◌≤◌, ◌∷◌, List, Some, None}
use Rattle.vch_model.specs.declared.call.Call.{Call}
use Rattle.vch_model.specs.declared.call.Call.TheVariants as calls
use Rattle.vch_model.specs.declared.entry.Reply.{Reply}
use Rattle.vch_model.specs.declared.lists.Scenario.{Scenario}
use Rattle.vch_machine.specs.State as machine
use Rattle.vch_machine.specs.State.{Machine, tasked}
use Rattle.vch_machine.specs.Beginning as begins
use Rattle.vch_machine.specs.Naming.{handles_of}
use Rattle.vch_machine.specs.Next.{nth_call}
use Rattle.vch_machine.specs.Working.{do_gone, do_lost, do_left}
use Rattle.vch_frame.specs.Pairs.{Pairwise}
use Rattle.vch_vouchers.specs.declared.answers.Message.{Message}
use Rattle.vch_parts.specs.declared.frame.Frame.{Frame}
use Rattle.vch_parts.specs.Plain.{Plain, part_of}
use Rattle.vch_parts.specs.Shape.{IsMessage}
use Rattle.vch_parts.specs.Stands.{StandsFor}
use Rattle.vch_moves.specs.Desks.{AllApart}
use Rattle.vch_moves.specs.Moments.{IsFree, IsAtWork, IsAnswered}
use Rattle.vch_moves.specs.Steps.{dropped, gone, lost, left, machine_begun}
use Rattle.vch_moves.proofs.leaving.Dropped.{dropped_stands}
use Rattle.vch_moves.proofs.leaving.Exits.{gone_stands, lost_stands, left_stands}

pub drops_leave : (sc : Scenario) (c : Plain) (m : Machine) (t : ℕ) (call : Call) (reply : Reply) (name : ℕ) → IsFree sc c m t → IsAnswered sc c m t call reply → AllApart c.keyed
    → StandsFor sc (dropped c t call reply name) (begins.dropped (machine_begun m t) t call reply (handles_of (tasked (machine_begun m t) t).names name) name)
drops_leave sc c m t call reply name a b apart = dropped_stands sc c m t a.positive a.inside a.stands apart call reply name a.own a.task b.uncounted b.room

pub names_leave : (sc : Scenario) (c : Plain) (m : Machine) (t : ℕ) (f : Frame) (g : machine.Frame) (name : ℕ) → IsAtWork sc c m t f g → AllApart c.keyed → 1 ≤ c.spare
    → StandsFor sc (gone c t f name) (do_gone m t g name)
names_leave sc c m t f g name a apart room = gone_stands sc c m t a.positive a.inside a.stands f g a.own a.task a.frame a.idle room apart name

pub messages_leave : (sc : Scenario) (c : Plain) (m : Machine) (t : ℕ) (f : Frame) (g : machine.Frame)
    (q : Message) (queue : List Message) (r : machine.Message) (rest : List machine.Message) → IsAtWork sc c m t f g → AllApart c.keyed → 1 ≤ c.spare
    → (tasked m t).queue ≡ r ∷ rest → IsMessage c.keyed q r → Pairwise (IsMessage c.keyed) queue rest
    → StandsFor sc (lost c t f q queue) (do_lost m t g r rest)
messages_leave sc c m t f g q queue r rest a apart room first message others = lost_stands sc c m t a.positive a.inside a.stands f g a.own a.task a.frame a.idle room apart q queue r rest first message others

pub tasks_leave : (sc : Scenario) (c : Plain) (m : Machine) (t : ℕ) (f : Frame) (g : machine.Frame) → IsAtWork sc c m t f g → 1 ≤ c.spare
    → g.forming ≡ None → nth_call sc t (part_of c t).begun ≡ Some calls.Exit
    → StandsFor sc (left c t f) (do_left m t g)
tasks_leave sc c m t f g a room formless exit = left_stands sc c m t a.positive a.inside a.stands f g a.own a.task a.frame a.idle room formless exit
