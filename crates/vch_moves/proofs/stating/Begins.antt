-- The laws of refusals and of beginnings, as this crate's root states them.
use Rattle.std.specs.Prelude.{◌≡◌, ℕ, ◌-◌, ◌<◌, ◌≤◌, ℤ, true, [], ◌∷◌, List, Some, None, length}
use Rattle.vch_base.specs.declared.key.Key.{Key}
use Rattle.vch_base.specs.Keyed.{Keyed}
use Rattle.vch_model.specs.declared.call.Call.{Call}
use Rattle.vch_model.specs.declared.entry.Reply.{Reply}
use Rattle.vch_model.specs.declared.lists.Scenario.{Scenario}
use Rattle.vch_machine.specs.State as machine
use Rattle.vch_machine.specs.State.{Handles, Machine, tasked, no_handles}
use Rattle.vch_machine.specs.Beginning as begins
use Rattle.vch_machine.specs.Frames as frames
use Rattle.vch_machine.specs.Frames.{refuse}
use Rattle.vch_machine.specs.Naming.{is_known}
use Rattle.vch_frame.specs.Pairs.{Pairwise}
use Rattle.vch_values.specs.Parts.{KeyParts}
use Rattle.vch_vouchers.specs.declared.answers.Message.{Message}
use Rattle.vch_parts.specs.declared.frame.Frame.{Frame}
use Rattle.vch_parts.specs.Plain.{Indices, Plain}
use Rattle.vch_parts.specs.Shape.{IsMap, IsMessage}
use Rattle.vch_parts.specs.Stands.{StandsFor}
use Rattle.vch_moves.specs.Moments.{IsFree, IsAtWork, IsAnswered}
use Rattle.vch_moves.specs.Shares.{SharesAll}
use Rattle.vch_moves.specs.Steps.{refused_call, fresh_frame, exiting_frame, copied, queued_first, taken_first, opened, answered_first, machine_begun}
use Rattle.vch_moves.proofs.ending.Refused.{refused_stands}
use Rattle.vch_moves.proofs.beginning.Begun.{create_begun, exit_begun, answered_begun}
use Rattle.vch_moves.proofs.beginning.Copied.{copied_stands}
use Rattle.vch_moves.proofs.beginning.Bare.{taken_stands, queued_stands}

pub refusals_stand : (sc : Scenario) (c : Plain) (m : Machine) (t : ℕ) (f : Frame) (g : machine.Frame) (call : Call) (code : ℤ) → IsAtWork sc c m t f g → 1 ≤ c.spare
    → StandsFor sc (refused_call c t f call code) (refuse m t g call code)
refusals_stand sc c m t f g call code a room = refused_stands sc c m t a.positive a.inside a.stands f g call code a.own a.task a.frame a.idle room

pub creates_begin : (sc : Scenario) (c : Plain) (m : Machine) (t : ℕ) → IsFree sc c m t
    → StandsFor sc (opened c t (fresh_frame [] [])) (frames.with_frame (machine_begun m t) t (Some (begins.fresh_frame no_handles [])))
creates_begin sc c m t a = create_begun sc c m t a.positive a.inside a.stands a.own a.task

pub exits_begin : (sc : Scenario) (c : Plain) (m : Machine) (t : ℕ) → IsFree sc c m t
    → StandsFor sc (opened c t exiting_frame) (frames.with_frame (machine_begun m t) t (Some begins.exiting_frame))
exits_begin sc c m t a = exit_begun sc c m t a.positive a.inside a.stands a.own a.task

pub copies_begin : (sc : Scenario) (c : Plain) (m : Machine) (t : ℕ) (keyed : Keyed KeyParts) (v : Indices) (w : Handles) (ks : List Key) → IsFree sc c m t
    → IsMap c.keyed v w → SharesAll c.keyed v keyed → is_known m w ≡ true
    → StandsFor sc (copied c t keyed v ks) (frames.with_frame (machine_begun m t) t (Some (begins.fresh_frame w ks)))
copies_begin sc c m t keyed v w ks a map shares known = copied_stands sc c m t a.positive a.inside a.stands a.own a.task keyed v w ks map shares known

pub answers_begin : (sc : Scenario) (c : Plain) (m : Machine) (t : ℕ) (call : Call) (reply : Reply) → IsFree sc c m t → IsAnswered sc c m t call reply
    → StandsFor sc (answered_first c t call reply) (frames.replied (machine_begun m t) t call reply)
answers_begin sc c m t call reply a b = answered_begun sc c m t a.positive a.inside a.stands a.own a.task call reply b.uncounted b.room

pub takings_begin : (sc : Scenario) (c : Plain) (m : Machine) (t : ℕ) (call : Call) (reply : Reply)
    (queue : List Message) (r : machine.Message) (rest : List machine.Message) → IsFree sc c m t → IsAnswered sc c m t call reply
    → (tasked m t).queue ≡ r ∷ rest → Pairwise (IsMessage c.keyed) queue rest → r.voucher ≡ None
    → StandsFor sc (taken_first c t queue call reply) (frames.replied (begins.dequeued (machine_begun m t) t (tasked (machine_begun m t) t).queue) t call reply)
takings_begin sc c m t call reply queue r rest a b first others bare = taken_stands sc c m t a.positive a.inside a.stands a.own a.task call reply b.uncounted b.room queue r rest first others bare

pub queueings_begin : (sc : Scenario) (c : Plain) (m : Machine) (t : ℕ) (call : Call) (reply : Reply) (to id : ℕ) → IsFree sc c m t → IsAnswered sc c m t call reply
    → 0 < to → to - 1 < length c.tasks
    → StandsFor sc (queued_first c t to (record { sender = t; id = id; voucher = None }) call reply)
    (frames.replied (begins.enqueued (machine_begun m t) to (record { sender = t; id = id; voucher = None })) t call reply)
queueings_begin sc c m t call reply to id a b positive inside = queued_stands sc c m t a.positive a.inside a.stands a.own a.task call reply b.uncounted b.room to id positive inside
