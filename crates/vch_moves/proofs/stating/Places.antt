-- The laws of what a call places.
use Rattle.std.specs.Prelude.{◌≡◌, ℕ, ◌-◌, ◌<◌, ◌≤◌, true, false, ◌∷◌, List, Some, length}
use Rattle.vch_model.specs.declared.call.Call.{Call}
use Rattle.vch_model.specs.declared.call.Call.TheVariants as calls
use Rattle.vch_model.specs.declared.lists.Scenario.{Scenario}
use Rattle.vch_machine.specs.State as machine
use Rattle.vch_machine.specs.State.{Handles, Machine, tasked}
use Rattle.vch_machine.specs.Next.{nth_call}
use Rattle.vch_machine.specs.Placing.{place_create, place_send, place_recv}
use Rattle.vch_frame.specs.Pairs.{Pairwise}
use Rattle.vch_vouchers.specs.declared.answers.Message.{Message}
use Rattle.vch_parts.specs.declared.frame.Frame.{Frame}
use Rattle.vch_parts.specs.Plain.{Indices, Plain, part_of}
use Rattle.vch_parts.specs.Shape.{IsMessage}
use Rattle.vch_parts.specs.Stands.{StandsFor}
use Rattle.vch_moves.specs.Desks.{AllApart}
use Rattle.vch_moves.specs.Moments.{IsAtWork, Forms}
use Rattle.vch_moves.specs.Steps.{created, received, sent}
use Rattle.vch_moves.proofs.ending.Created.{created_stands}
use Rattle.vch_moves.proofs.ending.Sent.{sent_moving, sent_staying}
use Rattle.vch_moves.proofs.ending.Received.{received_stands}

pub creates_place : (sc : Scenario) (c : Plain) (m : Machine) (t : ℕ) (f : Frame) (g : machine.Frame) (u : Indices) (w : Handles) (call : Call) → IsAtWork sc c m t f g → Forms c g u w → AllApart c.keyed → 1 ≤ c.spare
    → StandsFor sc (created c t f u call) (place_create m t g w call)
creates_place sc c m t f g u w call a b apart room = created_stands sc c m t a.positive a.inside a.stands apart f g u w call a.own a.task a.frame b.forms b.map a.idle room

pub moving_sends_place : (sc : Scenario) (c : Plain) (m : Machine) (t : ℕ) (f : Frame) (g : machine.Frame) (u : Indices) (w : Handles) (to name id : ℕ) → IsAtWork sc c m t f g → Forms c g u w → AllApart c.keyed → 1 ≤ c.spare
    → 0 < to → to - 1 < length c.tasks → nth_call sc t (part_of c t).begun ≡ Some (calls.Send to true name id)
    → StandsFor sc (sent c t f to true name id u) (place_send m t g w (calls.Send to true name id) to true name id)
moving_sends_place sc c m t f g u w to name id a b apart room positive inside call = sent_moving sc c m t to a.positive a.inside positive inside a.stands apart f g u w a.own a.task a.frame b.forms b.map a.idle room id name call

pub sends_place : (sc : Scenario) (c : Plain) (m : Machine) (t : ℕ) (f : Frame) (g : machine.Frame) (u : Indices) (w : Handles) (to name id : ℕ) → IsAtWork sc c m t f g → Forms c g u w → AllApart c.keyed → 1 ≤ c.spare
    → 0 < to → to - 1 < length c.tasks → nth_call sc t (part_of c t).begun ≡ Some (calls.Send to false name id)
    → StandsFor sc (sent c t f to false name id u) (place_send m t g w (calls.Send to false name id) to false name id)
sends_place sc c m t f g u w to name id a b apart room positive inside call = sent_staying sc c m t to a.positive a.inside positive inside a.stands apart f g u w a.own a.task a.frame b.forms b.map a.idle room id name call

pub recvs_place : (sc : Scenario) (c : Plain) (m : Machine) (t : ℕ) (f : Frame) (g : machine.Frame) (u : Indices) (w : Handles)
    (q : Message) (queue : List Message) (r : machine.Message) (rest : List machine.Message) → IsAtWork sc c m t f g → Forms c g u w → AllApart c.keyed → 1 ≤ c.spare
    → (tasked m t).queue ≡ r ∷ rest → IsMessage c.keyed q r → Pairwise (IsMessage c.keyed) queue rest
    → StandsFor sc (received c t f u q queue) (place_recv m t g w calls.Recv (tasked m t).queue)
recvs_place sc c m t f g u w q queue r rest a b apart room first message others = received_stands sc c m t a.positive a.inside a.stands apart f g u w a.own a.task a.frame b.forms b.map a.idle room q queue r rest first message others
