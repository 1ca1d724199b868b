-- The Place of a create: the voucher gets a name of the task, and its handles are let go where the voucher was known before.
use Rattle.std.proofs.Common.{◌≡◌, ℕ, ◌+◌, ◌-◌, ◌<◌, ◌≤◌, refl, arith, sym, ap, ◌∙◌, length, subst, Some}
use Rattle.vch_base.specs.declared.key.Key.{Key}
use Rattle.vch_base.specs.Managers.{count}
use Rattle.vch_base.specs.Tasks.{set_task}
use Rattle.vch_model.specs.declared.call.Call.{Call}
use Rattle.vch_model.specs.declared.entry.Reply.TheVariants as replies
use Rattle.vch_model.specs.declared.lists.Scenario.{Scenario}
use Rattle.vch_model.specs.Words.{word_of}
use Rattle.vch_machine.specs.State as machine
use Rattle.vch_machine.specs.State.{Handles, Machine, Tasked, tasked}
use Rattle.vch_machine.specs.Frames as frames
use Rattle.vch_machine.specs.Naming as naming
use Rattle.vch_machine.specs.Naming.{name_of, with_name}
use Rattle.vch_machine.specs.Placing.{place_create}
use Rattle.vch_legal.proofs.CallerLemmas.{IsAmong, refused_uncounted}
use Rattle.vch_parts.specs.declared.frame.Frame.{Frame}
use Rattle.vch_parts.specs.Plain.{Indices, Plain, Part, part_of, with_frame, closed}
use Rattle.vch_parts.specs.Shape.{IsFrame, IsMap, IsTask}
use Rattle.vch_parts.specs.Pictures.{frame_holds, forming_holds}
use Rattle.vch_parts.specs.Stands.{StandsFor}
use Rattle.vch_moves.specs.Desks.{given, name_of_given, doubled, AllApart}
use Rattle.vch_moves.specs.Known.{holds_in, known_in, vouchers_in}
use Rattle.vch_moves.specs.Steps.{machine_stepped, answer, ended, created, IsIdle}
use Rattle.vch_moves.proofs.desks.Known.{doubled_is}
use Rattle.vch_moves.proofs.desks.Names.{given_is, answer_is, given_limit}
use Rattle.vch_moves.proofs.holding.InTasks.{more_in_tasks, doubled_holds, lets_in}
use Rattle.vch_moves.proofs.holding.Vouchers.{task_given}
use Rattle.vch_moves.proofs.keeping.Stepping.{OneStep, step_stands}
use Rattle.vch_moves.proofs.ending.Ends.{machine_ended, ended_frames, ended_idle, ended_holds, forming_held, answer_quiet}
use Rattle.vch_moves.proofs.ending.Replies.{named_begun, replied_is}

module _ (sc : Scenario) (c : Plain) (m : Machine) (t : ℕ) (positive : 0 < t) (inside : t - 1 < length c.tasks) (s : StandsFor sc c m) (apart : AllApart c.keyed)
    (f : Frame) (g : machine.Frame) (u : Indices) (w : Handles) (call : Call)
    (own : (part_of c t).frame ≡ Some f) (task : (tasked m t).frame ≡ Some g) (frame : IsFrame c.keyed f g)
    (forms : g.forming ≡ Some w) (map : IsMap c.keyed u w) (idle_frame : IsIdle (Some f)) (room : 1 ≤ c.spare) where
  among : IsAmong t m.tasks
  among = (positive, omega (arith, s.shape.long, inside))

  abbrev z : Tasked
  z = with_name (tasked m t) w (name_of (tasked m t).names w)

  abbrev x : Part
  x = with_frame (given (part_of c t) u) (closed (ended f (doubled c.tasks u)))

  abbrev y : Tasked
  y = record z { frame = frames.closed (machine_ended g (naming.doubled m w)) }

  given_task : IsTask c.keyed (given (part_of c t) u) z
  given_task = given_is c.keyed u w (part_of c t) (tasked m t) apart map (s.shape.tasks t positive inside)

  own_task : IsTask c.keyed x y
  own_task = let q = given_task in
      record { names = q.names; next = q.next; queue = q.queue; begun = q.begun; frame = ended_frames c.keyed f g frame (doubled c.tasks u) (naming.doubled m w) (doubled_is sc c m s.shape apart u w map) }

  sums : (l d k2 k1 v : ℕ) → k2 + d ≡ k1 + v → (l + d) + k2 ≡ (v + l) + k1
  sums l d k2 k1 v p = omega (arith, p)

  held : (k : Key) (h : ℕ) → count h (frame_holds k y.frame) + known_in k h (vouchers_in (set_task m.tasks t y)) ≡ count h (frame_holds k (tasked m t).frame) + known_in k h (vouchers_in m.tasks)
  held k h =
      ap (λ i. i + known_in k h (vouchers_in (set_task m.tasks t y))) (ended_holds k h g (naming.doubled m w))
      ∙ sums (lets_in k h g.lets) (lets_in k h (naming.doubled m w)) (known_in k h (vouchers_in (set_task m.tasks t y))) (known_in k h (vouchers_in m.tasks)) (holds_in k h w)
      (doubled_holds k h m w (vouchers_in (set_task m.tasks t y)) (more_in_tasks m t y among (Some w) (task_given (tasked m t) w)))
      ∙ ap (λ i. i + known_in k h (vouchers_in m.tasks)) (was ∙ sym (forming_held k h g) ∙ sym (ap (λ o. count h (frame_holds k o)) task))
    where
      was : holds_in k h w + lets_in k h g.lets ≡ count h (forming_holds k g.forming) + lets_in k h g.lets
      was = ap (λ o. count h (forming_holds k o) + lets_in k h g.lets) (sym forms)

  abbrev name : ℕ
  name = name_of_given (part_of c t) u

  step : OneStep sc c m t x y (answer c t call (replies.Created name))
  step = record {
    positive = positive;
    inside = inside;
    idle_old = subst IsIdle (sym own) idle_frame;
    idle_new = ended_idle f (doubled c.tasks u) idle_frame;
    own = own_task;
    limit = given_limit c.keyed u (part_of c t);
    holders = held;
    quiet = answer_quiet sc m.past t (part_of c t).begun (word_of call) (replies.Created name) (refused_uncounted sc m.past t (part_of c t).begun (word_of call) (replies.Created name) refl);
    room = room;
  }

  same_name : name ≡ naming.name_for (tasked m t) (name_of (tasked m t).names w)
  same_name = answer_is c.keyed u w (part_of c t) (tasked m t) apart map (s.shape.tasks t positive inside)

  is_place : machine_stepped m t y (answer c t call (replies.Created name)) ≡ place_create m t g w call
  is_place = ap (λ n. machine_stepped m t y (answer c t call (replies.Created n))) same_name
      ∙ replied_is m t z y.frame among call (replies.Created (naming.name_for (tasked m t) (name_of (tasked m t).names w))) (part_of c t).begun
      ((s.shape.tasks t positive inside).begun ∙ sym (named_begun (tasked m t) w (name_of (tasked m t).names w)))

  pub created_stands : StandsFor sc (created c t f u call) (place_create m t g w call)
  created_stands = subst (StandsFor sc (created c t f u call)) is_place (step_stands sc c m t x y (answer c t call (replies.Created name)) s step)
