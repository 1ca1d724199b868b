-- The Place of a send keeps all that the parts stand for: the voucher is queued, and then a name may go.
use Rattle.std.proofs.Common.{◌≡◌, ℕ, ◌+◌, ◌-◌, ◌<◌, ◌≤◌, true, false, cond, List, [], ◌∷◌, ◌++◌, refl, arith, sym, ap, ◌∙◌, length, subst, Option, Some, None}
use Rattle.vch_base.specs.declared.key.Key.{Key}
use Rattle.vch_base.specs.Managers.{count}
use Rattle.vch_base.specs.Tasks.{set_task}
use Rattle.vch_base.proofs.CallerLemmas.{as_long}
use Rattle.vch_model.specs.declared.call.Call.{Call}
use Rattle.vch_model.specs.declared.call.Call.TheVariants as calls
use Rattle.vch_model.specs.declared.entry.Reply.TheVariants as replies
use Rattle.vch_model.specs.declared.lists.Scenario.{Scenario}
use Rattle.vch_model.specs.Words.{word_of}
use Rattle.vch_machine.specs.State as machine
use Rattle.vch_machine.specs.State.{Handles, Place, Machine, Tasked, tasked, with_tasked, idle}
use Rattle.vch_machine.specs.Beginning.{enqueued}
use Rattle.vch_machine.specs.Frames as frames
use Rattle.vch_machine.specs.Naming as naming
use Rattle.vch_machine.specs.Naming.{handles_of}
use Rattle.vch_machine.specs.Next.{nth_call}
use Rattle.vch_machine.specs.Placing.{place_send}
use Rattle.vch_legal.specs.ValueAmounts.{is_counting}
use Rattle.vch_legal.proofs.CallerLemmas.{IsAmong, call_uncounted}
use Rattle.vch_frame.specs.declared.frame.KeyIndex.{KeyIndex}
use Rattle.vch_frame.specs.Pairs.{Pairwise}
use Rattle.vch_parts.specs.declared.frame.Frame.{Frame}
use Rattle.vch_vouchers.specs.declared.answers.Message.{Message}
use Rattle.vch_parts.specs.Plain.{Indices, Plain, Part, part_of, idle_part, with_frame, closed}
use Rattle.vch_parts.specs.Shape.{IsFrame, IsMap, IsTask, IsMessage, IsLet, Shape}
use Rattle.vch_parts.specs.Pictures.{frame_holds, forming_holds, task_holds}
use Rattle.vch_parts.specs.Stands.{StandsFor}
use Rattle.vch_vouchers.specs.Desks.{voucher_of, one_less}
use Rattle.vch_moves.specs.Desks.{doubled, orphaned, AllApart}
use Rattle.vch_moves.specs.Known.{holds_in, known_in, held_in, frames_in, vouchers_in}
use Rattle.vch_moves.specs.Steps.{stepped, machine_stepped, answer, ended, queued, queued_part, sent, IsIdle}
use Rattle.vch_moves.proofs.desks.Known.{doubled_is, orphaned_is}
use Rattle.vch_moves.proofs.desks.Names.{voucher_is, names_less}
use Rattle.vch_moves.proofs.holding.InTasks.{more_in_tasks, less_in_tasks, vouchers_put, doubled_holds, orphaned_holds, lets_in, own_known}
use Rattle.vch_moves.proofs.holding.Items.{pairwise_append}
use Rattle.vch_moves.proofs.holding.Vouchers.{task_less, task_queued}
use Rattle.vch_moves.proofs.keeping.Between.{Between, Replaced, idle_replaced, replaced_between, replaced_frames, then_between, between_stands}
use Rattle.vch_moves.proofs.keeping.OneTask.{shape_one, vouchers_stay}
use Rattle.vch_moves.proofs.keeping.SamePart.{same_part}
use Rattle.vch_moves.proofs.ending.Ends.{machine_ended, ended_frames, ended_idle, ended_holds, forming_held, answer_quiet}
use Rattle.vch_moves.proofs.ending.Received.{lets_both}
use Rattle.vch_moves.proofs.ending.Replies.{framed_is, replied_is}

module _ (sc : Scenario) (c : Plain) (m : Machine) (t to : ℕ) (positive : 0 < t) (inside : t - 1 < length c.tasks) (to_positive : 0 < to) (to_inside : to - 1 < length c.tasks)
    (s : StandsFor sc c m) (apart : AllApart c.keyed) (f : Frame) (g : machine.Frame) (u : Indices) (w : Handles)
    (own : (part_of c t).frame ≡ Some f) (task : (tasked m t).frame ≡ Some g) (frame : IsFrame c.keyed f g)
    (forms : g.forming ≡ Some w) (map : IsMap c.keyed u w) (idle_frame : IsIdle (Some f)) (room : 1 ≤ c.spare) (id : ℕ) where
  abbrev message : Message
  message = record { sender = t; id = id; voucher = Some u }

  abbrev twin : machine.Message
  twin = record { sender = t; id = id; voucher = Some w }

  -- the message is queued
  abbrev pub c1 : Plain
  c1 = queued c to message

  abbrev pub m1 : Machine
  m1 = enqueued m to twin

  abbrev z1 : Tasked
  z1 = record (tasked m to) { queue = (tasked m to).queue ++ twin ∷ [] }

  first : Replaced c m to (queued_part (part_of c to) message) z1
  first = let q : IsTask c.keyed (part_of c to) (tasked m to) = s.shape.tasks to to_positive to_inside in record {
    positive = to_positive;
    inside = to_inside;
    own = record { names = q.names; next = q.next; queue = pairwise_append (IsMessage c.keyed) (part_of c to).queue (tasked m to).queue (message ∷ []) (twin ∷ []) q.queue ((refl, refl, map), tt); begun = q.begun; frame = q.frame };
    limit = refl;
    receipts = λ k. refl;
    claims = λ k. refl;
  }

  between_first : Between sc c c1 m m1
  between_first = replaced_between sc c c1 m m1 to (queued_part (part_of c to) message) z1 s.shape first refl refl refl refl refl refl refl refl

  frames_first : (k : Key) (h : ℕ) → frames_in k h m1.tasks ≡ frames_in k h m.tasks
  frames_first k h = same _ _ _ (replaced_frames sc c c1 m m1 to (queued_part (part_of c to) message) z1 s.shape first refl refl k h)
    where
      same : (a b e : ℕ) → a + e ≡ b + e → a ≡ b
      same a b e p = omega (arith, p)

  among_to : IsAmong to m.tasks
  among_to = (to_positive, omega (arith, s.shape.long, to_inside))

  known_first : (k : Key) (h : ℕ) → known_in k h (vouchers_in m1.tasks) + lets_in k h (naming.doubled m w) ≡ known_in k h (vouchers_in m.tasks) + holds_in k h w
  known_first k h = doubled_holds k h m w (vouchers_in m1.tasks) (more_in_tasks m to z1 among_to (Some w) (task_queued (tasked m to) twin))

  -- the sender is there, with the frame and the names that it had
  pub inside1 : t - 1 < length c1.tasks
  inside1 = subst (λ n. t - 1 < n) (sym (as_long c.tasks to (queued_part (part_of c to) message))) inside

  among1 : IsAmong t m1.tasks
  among1 = (positive, omega (arith, between_first.shape.long, inside1))

  pub now1 : IsTask c1.keyed (part_of c1 t) (tasked m1 t)
  now1 = between_first.shape.tasks t positive inside1

  own1 : (part_of c1 t).frame ≡ Some f
  own1 = same_part (λ (x : Part). x.frame) c.tasks to t (queued_part (part_of c to) message) idle_part refl ∙ own

  task1 : (tasked m1 t).frame ≡ Some g
  task1 = same_part (λ (x : Tasked). x.frame) m.tasks to t z1 idle refl ∙ task

  same_names : (tasked m1 t).names ≡ (tasked m t).names
  same_names = same_part (λ (x : Tasked). x.names) m.tasks to t z1 idle refl

  same_begun : (part_of c t).begun ≡ (tasked m1 t).begun
  same_begun = (s.shape.tasks t positive inside).begun ∙ sym (same_part (λ (x : Tasked). x.begun) m.tasks to t z1 idle refl)

  -- what the sender has then, on both sides
  module _ (call : Call) (a : Part) (z : Tasked) (sent_task : IsTask c.keyed a z) (same_limit : a.limit ≡ (part_of c1 t).limit) (begun : z.begun ≡ (tasked m1 t).begun)
      (ls2 : List KeyIndex) (ps2 : List Place) (lets2 : Pairwise (IsLet c.keyed) ls2 ps2)
      (known2 : (k : Key) (h : ℕ) → known_in k h (vouchers_in (set_task m1.tasks t z)) + lets_in k h ps2 ≡ known_in k h (vouchers_in m1.tasks))
      (is_call : nth_call sc t (part_of c t).begun ≡ Some call) (plain : is_counting call ≡ false) where
    abbrev ls : List KeyIndex
    ls = doubled c.tasks u ++ ls2

    abbrev ps : List Place
    ps = naming.doubled m w ++ ps2

    abbrev x : Part
    x = with_frame a (closed (ended f ls))

    abbrev y : Tasked
    y = record z { frame = frames.closed (machine_ended g ps) }

    abbrev d : Plain
    d = stepped c1 t x (answer c t call replies.Done)

    abbrev n : Machine
    n = machine_stepped m1 t y (answer c t call replies.Done)

    lets_are : Pairwise (IsLet c.keyed) ls ps
    lets_are = pairwise_append (IsLet c.keyed) _ _ _ _ (doubled_is sc c m s.shape apart u w map) lets2

    second : Replaced c1 m1 t x y
    second = let q = sent_task in idle_replaced sc c1 m1 t x y between_first.shape positive inside1
        (record { names = q.names; next = q.next; queue = q.queue; begun = q.begun; frame = ended_frames c.keyed f g frame ls ps lets_are }) same_limit
        (subst IsIdle (sym own1) idle_frame) (ended_idle f ls idle_frame)

    between_second : Between sc c1 d m1 n
    between_second = replaced_between sc c1 d m1 n t x y between_first.shape second refl refl refl refl refl refl refl refl

    held : (k : Key) (h : ℕ) → held_in k h n.tasks ≡ held_in k h m.tasks
    held k h = sums (frames_in k h n.tasks) (frames_in k h m1.tasks) (frames_in k h m.tasks) (known_in k h (vouchers_in n.tasks)) (known_in k h (vouchers_in (set_task m1.tasks t z))) (known_in k h (vouchers_in m1.tasks)) (known_in k h (vouchers_in m.tasks))
        (count h (task_holds k (tasked m1 t))) (count h (task_holds k y)) (lets_in k h g.lets) (holds_in k h w) (lets_in k h (naming.doubled m w)) (lets_in k h ps2)
        (replaced_frames sc c1 d m1 n t x y between_first.shape second refl refl k h) (frames_first k h)
        (ap (λ vs. known_in k h vs) (vouchers_put m1 t y z among1 refl)) (known2 k h) (known_first k h)
        (ap (λ o. count h (frame_holds k o)) task1 ∙ forming_held k h g ∙ ap (λ o. count h (forming_holds k o) + lets_in k h g.lets) forms)
        (ended_holds k h g ps ∙ ap (λ i. lets_in k h g.lets + i) (lets_both k h (naming.doubled m w) ps2))
      where
        sums : (f3 f2 f1 k4 k3 k2 k1 old new l v d e : ℕ) → f3 + old ≡ f2 + new → f2 ≡ f1 → k4 ≡ k3 → k3 + e ≡ k2 → k2 + d ≡ k1 + v → old ≡ v + l → new ≡ l + (d + e) → f3 + k4 ≡ f1 + k1
        sums f3 f2 f1 k4 k3 k2 k1 old new l v d e p q r s1 s2 o w_ = omega (arith, p, q, r, s1, s2, o, w_)

    stands_then : StandsFor sc d n
    stands_then = between_stands sc (answer c t call replies.Done) c d m n s (then_between sc c c1 d m m1 n between_first between_second)
        (record { past = refl; history = refl; spare = omega (arith, room); quiet = answer_quiet sc m.past t (part_of c t).begun (word_of call) replies.Done (call_uncounted sc m.past t (part_of c t).begun (word_of call) replies.Done call is_call plain) })
        held

    is_replied : n ≡ frames.replied (frames.with_frame (with_tasked m1 t z) t (frames.closed (machine_ended g ps))) t call replies.Done
    is_replied = replied_is m1 t z (frames.closed (machine_ended g ps)) among1 call replies.Done (part_of c t).begun (same_begun ∙ sym begun)

    pub replied_stands : StandsFor sc d (frames.replied (frames.with_frame (with_tasked m1 t z) t (frames.closed (machine_ended g ps))) t call replies.Done)
    replied_stands = subst (StandsFor sc d) is_replied stands_then

  -- the name moves, or it stays
  module _ (name : ℕ) where
    abbrev less : Tasked
    less = record (tasked m1 t) { names = naming.one_less (tasked m1 t).names name }

    less_task : IsTask c.keyed (record (part_of c1 t) { names = one_less (part_of c1 t).names name }) less
    less_task = record { names = names_less c.keyed (part_of c1 t).names (tasked m1 t).names name now1.names; next = now1.next; queue = now1.queue; begun = now1.begun; frame = now1.frame }

    pub sent_moving : nth_call sc t (part_of c t).begun ≡ Some (calls.Send to true name id) → StandsFor sc (sent c t f to true name id u) (place_send m t g w (calls.Send to true name id) to true name id)
    sent_moving is_call = subst (λ o. StandsFor sc (sent c t f to true name id u) (frames.replied (frames.with_frame (with_tasked m1 t less) t (frames.closed (machine_ended g (naming.doubled m w ++ naming.orphaned (with_tasked m1 t less) o)))) t (calls.Send to true name id) replies.Done))
        (ap (λ ns. handles_of ns name) same_names)
        (replied_stands (calls.Send to true name id) (record (part_of c1 t) { names = one_less (part_of c1 t).names name }) less less_task refl refl
        (orphaned (set_task c1.tasks t (record (part_of c1 t) { names = one_less (part_of c1 t).names name })) (voucher_of (part_of c1 t).names name))
        (naming.orphaned (with_tasked m1 t less) (handles_of (tasked m1 t).names name))
        (orphaned_is sc (record c1 { tasks = set_task c1.tasks t (record (part_of c1 t) { names = one_less (part_of c1 t).names name }) }) (with_tasked m1 t less) shape2 apart (voucher_of (part_of c1 t).names name) (handles_of (tasked m1 t).names name)
        (voucher_is c.keyed (part_of c1 t).names (tasked m1 t).names name now1.names))
        (λ k h. orphaned_holds k h (with_tasked m1 t less) (handles_of (tasked m1 t).names name) (vouchers_in m1.tasks) (less_in_tasks m1 t less among1 (handles_of (tasked m1 t).names name) (task_less (tasked m1 t) name)))
        is_call refl)
      where
        shape2 : Shape sc (record c1 { tasks = set_task c1.tasks t (record (part_of c1 t) { names = one_less (part_of c1 t).names name }) }) (with_tasked m1 t less)
        shape2 = shape_one sc c1 (record c1 { tasks = set_task c1.tasks t (record (part_of c1 t) { names = one_less (part_of c1 t).names name }) }) m1 (with_tasked m1 t less) t
            (record (part_of c1 t) { names = one_less (part_of c1 t).names name }) less between_first.shape
            (record { positive = positive; inside = inside1; parts = refl; tasks = refl }) (λ k i h e. e) less_task refl

    -- the voucher of a name that stays is no orphan
    no_orphan : naming.orphaned m1 (handles_of (tasked m t).names name) ≡ []
    no_orphan = by (handles_of (tasked m t).names name) refl
      where
        by : (o : Option Handles) → handles_of (tasked m t).names name ≡ o → naming.orphaned m1 o ≡ []
        by None e = refl
        by (Some v) e = ap (λ b. cond b [] (naming.places v)) (own_known m1 t name v among1 (ap (λ ns. handles_of ns name) same_names ∙ e))

    pub sent_staying : nth_call sc t (part_of c t).begun ≡ Some (calls.Send to false name id) → StandsFor sc (sent c t f to false name id u) (place_send m t g w (calls.Send to false name id) to false name id)
    sent_staying is_call = subst (λ ps. StandsFor sc (sent c t f to false name id u) (frames.replied (frames.with_frame m1 t (frames.closed (machine_ended g (naming.doubled m w ++ ps)))) t (calls.Send to false name id) replies.Done))
        (sym no_orphan)
        (subst (λ a. StandsFor sc (sent c t f to false name id u) (frames.replied a t (calls.Send to false name id) replies.Done))
        (framed_is m1 t (tasked m1 t) (frames.closed (machine_ended g (naming.doubled m w ++ []))) among1)
        (replied_stands (calls.Send to false name id) (part_of c1 t) (tasked m1 t) now1 refl refl [] [] tt
        (λ k h. ap (λ vs. known_in k h vs + 0) (vouchers_stay m1 t (tasked m1 t) refl) ∙ none (known_in k h (vouchers_in m1.tasks))) is_call refl))
      where
        none : (n : ℕ) → n + 0 ≡ n
        none n = omega arith
