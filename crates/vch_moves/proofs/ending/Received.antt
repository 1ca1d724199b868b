-- The Place of a recv keeps all that the parts stand for.
use Rattle.std.proofs.Common.{◌≡◌, ℕ, ◌+◌, ◌-◌, ◌<◌, ◌≤◌, List, ◌∷◌, ◌++◌, refl, arith, sym, ap, ◌∙◌, length, subst, Option, Some, None}
use Rattle.std.specs.List.{flat_map}
use Rattle.std.proofs.lemmas.Grind.{flat_map-append}
use Rattle.vch_base.specs.declared.key.Key.{Key}
use Rattle.vch_base.specs.Managers.{count}
use Rattle.vch_base.specs.Tasks.{set_task}
use Rattle.vch_model.specs.declared.call.Call.TheVariants as calls
use Rattle.vch_model.specs.declared.entry.Reply.{Reply}
use Rattle.vch_model.specs.declared.entry.Reply.TheVariants as replies
use Rattle.vch_model.specs.declared.lists.Scenario.{Scenario}
use Rattle.vch_model.specs.Words.{word_of}
use Rattle.vch_machine.specs.State as machine
use Rattle.vch_machine.specs.State.{Handles, Place, Machine, Tasked, tasked, with_tasked}
use Rattle.vch_machine.specs.Frames as frames
use Rattle.vch_machine.specs.Naming as naming
use Rattle.vch_machine.specs.Naming.{name_of, with_name}
use Rattle.vch_machine.specs.Placing.{place_recv}
use Rattle.vch_legal.proofs.CallerLemmas.{IsAmong, refused_uncounted}
use Rattle.vch_frame.specs.declared.frame.KeyIndex.{KeyIndex}
use Rattle.vch_frame.specs.Pairs.{Pairwise}
use Rattle.vch_parts.specs.declared.frame.Frame.{Frame}
use Rattle.vch_vouchers.specs.declared.answers.Message.{Message}
use Rattle.vch_parts.specs.Plain.{Indices, Plain, Part, part_of, with_frame, closed}
use Rattle.vch_parts.specs.Shape.{IsFrame, IsMap, IsTask, IsMessage, IsLet, Shape}
use Rattle.vch_parts.specs.Pictures.{frame_holds, forming_holds, let_holds, task_vouchers}
use Rattle.vch_parts.specs.Stands.{StandsFor}
use Rattle.vch_vouchers.specs.Desks.{name_for, name_with}
use Rattle.vch_moves.specs.Desks.{desk_of, name_of_given, doubled, orphaned, AllApart}
use Rattle.vch_moves.specs.Known.{holds_in, known_in, vouchers_in}
use Rattle.vch_moves.specs.Steps.{machine_stepped, answer, ended, received, received_part, un_queued, IsIdle}
use Rattle.vch_moves.proofs.desks.Known.{doubled_is, orphaned_is}
use Rattle.vch_moves.proofs.desks.Names.{given_is, answer_is, given_limit}
use Rattle.vch_moves.proofs.holding.Different.{count_append}
use Rattle.vch_moves.proofs.holding.InTasks.{more_in_tasks, more_put, vouchers_put, doubled_holds, orphaned_holds, lets_in}
use Rattle.vch_moves.proofs.holding.Items.{pairwise_append}
use Rattle.vch_moves.proofs.holding.Vouchers.{MoreBy, task_given, task_taken}
use Rattle.vch_moves.proofs.keeping.OneTask.{shape_one}
use Rattle.vch_moves.proofs.keeping.Stepping.{OneStep, step_stands}
use Rattle.vch_moves.proofs.ending.Ends.{machine_ended, ended_frames, ended_idle, ended_holds, forming_held, answer_quiet}
use Rattle.vch_moves.proofs.ending.Replies.{named_begun, named_queue, replied_is}

-- what is let go of two vouchers
pub lets_both : (k : Key) (h : ℕ) (ps qs : List Place) → lets_in k h (ps ++ qs) ≡ lets_in k h ps + lets_in k h qs
lets_both k h ps qs = ap (count h) (flat_map-append (let_holds k) ps qs) ∙ count_append h (flat_map (let_holds k) ps) (flat_map (let_holds k) qs)

-- a name and the queue change apart from each other
unqueued_named : (y : Tasked) (v : Handles) (o : Option ℕ) (queue : List machine.Message) → with_name (record y { queue = queue }) v o ≡ record (with_name y v o) { queue = queue }
unqueued_named y v None queue = refl
unqueued_named y v (Some name) queue = refl

module _ (sc : Scenario) (c : Plain) (m : Machine) (t : ℕ) (positive : 0 < t) (inside : t - 1 < length c.tasks) (s : StandsFor sc c m) (apart : AllApart c.keyed)
    (f : Frame) (g : machine.Frame) (u : Indices) (w : Handles)
    (own : (part_of c t).frame ≡ Some f) (task : (tasked m t).frame ≡ Some g) (frame : IsFrame c.keyed f g)
    (forms : g.forming ≡ Some w) (map : IsMap c.keyed u w) (idle_frame : IsIdle (Some f)) (room : 1 ≤ c.spare)
    (q : Message) (queue : List Message) (r : machine.Message) (rest : List machine.Message) (first : (tasked m t).queue ≡ r ∷ rest)
    (message : IsMessage c.keyed q r) (others : Pairwise (IsMessage c.keyed) queue rest) where
  among : IsAmong t m.tasks
  among = (positive, omega (arith, s.shape.long, inside))

  abbrev old : Tasked
  old = record (tasked m t) { queue = rest }

  abbrev named : Tasked
  named = with_name (tasked m t) w (name_of (tasked m t).names w)

  abbrev z : Tasked
  z = with_name old w (name_of (tasked m t).names w)

  abbrev a : Part
  a = received_part (part_of c t) queue u

  abbrev ls : List KeyIndex
  ls = doubled c.tasks u ++ orphaned (set_task c.tasks t a) q.voucher

  abbrev ps : List Place
  ps = naming.doubled m w ++ naming.orphaned (with_tasked m t z) r.voucher

  abbrev x : Part
  x = with_frame a (closed (ended f ls))

  abbrev y : Tasked
  y = record z { frame = frames.closed (machine_ended g ps) }

  unqueued_task : IsTask c.keyed (un_queued (part_of c t) queue) old
  unqueued_task = let n : IsTask c.keyed (part_of c t) (tasked m t) = s.shape.tasks t positive inside in
      record { names = n.names; next = n.next; queue = others; begun = n.begun; frame = n.frame }

  mid_task : IsTask c.keyed a z
  mid_task = given_is c.keyed u w (un_queued (part_of c t) queue) old apart map unqueued_task

  limit : a.limit ≡ (part_of c t).limit
  limit = given_limit c.keyed u (un_queued (part_of c t) queue)

  shape_mid : Shape sc (record c { tasks = set_task c.tasks t a }) (with_tasked m t z)
  shape_mid = shape_one sc c (record c { tasks = set_task c.tasks t a }) m (with_tasked m t z) t a z s.shape
      (record { positive = positive; inside = inside; parts = refl; tasks = refl }) (λ k i h e. e) mid_task limit

  lets_are : Pairwise (IsLet c.keyed) ls ps
  lets_are = pairwise_append (IsLet c.keyed) _ _ _ _ (doubled_is sc c m s.shape apart u w map)
      (orphaned_is sc (record c { tasks = set_task c.tasks t a }) (with_tasked m t z) shape_mid apart q.voucher r.voucher message.2)

  own_task : IsTask c.keyed x y
  own_task = let n = mid_task in
      record { names = n.names; next = n.next; queue = n.queue; begun = n.begun; frame = ended_frames c.keyed f g frame ls ps lets_are }

  -- first the name is given, and then the message goes
  less : MoreBy r.voucher (task_vouchers z) (task_vouchers named)
  less = subst (λ (b : Tasked). MoreBy r.voucher (task_vouchers b) (task_vouchers named)) (sym (unqueued_named (tasked m t) w (name_of (tasked m t).names w) rest))
      (task_taken named r rest (named_queue (tasked m t) w (name_of (tasked m t).names w) ∙ first))

  sums : (l d e k3 k2 k1 v : ℕ) → k2 + d ≡ k1 + v → k3 + e ≡ k2 → (l + (d + e)) + k3 ≡ (v + l) + k1
  sums l d e k3 k2 k1 v p q = omega (arith, p, q)

  held : (k : Key) (h : ℕ) → count h (frame_holds k y.frame) + known_in k h (vouchers_in (set_task m.tasks t y)) ≡ count h (frame_holds k (tasked m t).frame) + known_in k h (vouchers_in m.tasks)
  held k h =
      ap (λ i. i + known_in k h (vouchers_in (set_task m.tasks t y))) (ended_holds k h g ps ∙ ap (λ i. lets_in k h g.lets + i) (lets_both k h (naming.doubled m w) (naming.orphaned (with_tasked m t z) r.voucher)))
      ∙ ap (λ vs. (lets_in k h g.lets + (lets_in k h (naming.doubled m w) + lets_in k h (naming.orphaned (with_tasked m t z) r.voucher))) + known_in k h vs) (vouchers_put m t y z among refl)
      ∙ sums (lets_in k h g.lets) (lets_in k h (naming.doubled m w)) (lets_in k h (naming.orphaned (with_tasked m t z) r.voucher))
      (known_in k h (vouchers_in (set_task m.tasks t z))) (known_in k h (vouchers_in (set_task m.tasks t named))) (known_in k h (vouchers_in m.tasks)) (holds_in k h w)
      (doubled_holds k h m w (vouchers_in (set_task m.tasks t named)) (more_in_tasks m t named among (Some w) (task_given (tasked m t) w)))
      (orphaned_holds k h (with_tasked m t z) r.voucher (vouchers_in (set_task m.tasks t named)) (more_put m t z named among r.voucher less))
      ∙ ap (λ i. i + known_in k h (vouchers_in m.tasks)) (was ∙ sym (forming_held k h g) ∙ sym (ap (λ o. count h (frame_holds k o)) task))
    where
      was : holds_in k h w + lets_in k h g.lets ≡ count h (forming_holds k g.forming) + lets_in k h g.lets
      was = ap (λ o. count h (forming_holds k o) + lets_in k h g.lets) (sym forms)

  abbrev reply : Reply
  reply = replies.Received q.sender q.id (name_of_given (part_of c t) u)

  step : OneStep sc c m t x y (answer c t calls.Recv reply)
  step = record {
    positive = positive;
    inside = inside;
    idle_old = subst IsIdle (sym own) idle_frame;
    idle_new = ended_idle f ls idle_frame;
    own = own_task;
    limit = limit;
    holders = held;
    quiet = answer_quiet sc m.past t (part_of c t).begun (word_of calls.Recv) reply (refused_uncounted sc m.past t (part_of c t).begun (word_of calls.Recv) reply refl);
    room = room;
  }

  same_reply : reply ≡ replies.Received r.sender r.id (naming.name_for old (name_of (tasked m t).names w))
  same_reply = let e : name_of_given (un_queued (part_of c t) queue) u ≡ naming.name_for old (name_of (tasked m t).names w) = answer_is c.keyed u w (un_queued (part_of c t) queue) old apart map unqueued_task in
      rw (message.0, message.1) (ap (λ n. replies.Received r.sender r.id n) (same_for (name_with (part_of c t).names u) ∙ e))
    where
      same_for : (o : Option ℕ) → name_for (desk_of (part_of c t)) o ≡ name_for (desk_of (un_queued (part_of c t) queue)) o
      same_for None = refl
      same_for (Some name) = refl

  is_place : machine_stepped m t y (answer c t calls.Recv reply) ≡ place_recv m t g w calls.Recv (r ∷ rest)
  is_place = ap (λ n. machine_stepped m t y (answer c t calls.Recv n)) same_reply
      ∙ replied_is m t z y.frame among calls.Recv (replies.Received r.sender r.id (naming.name_for old (name_of (tasked m t).names w))) (part_of c t).begun
      ((s.shape.tasks t positive inside).begun ∙ sym (named_begun old w (name_of (tasked m t).names w)))

  pub received_stands : StandsFor sc (received c t f u q queue) (place_recv m t g w calls.Recv (tasked m t).queue)
  received_stands = subst (λ qs. StandsFor sc (received c t f u q queue) (place_recv m t g w calls.Recv qs)) (sym first)
      (subst (StandsFor sc (received c t f u q queue)) is_place (step_stands sc c m t x y (answer c t calls.Recv reply) s step))
