-- The steps of an exit keep all that the parts stand for: a name goes, a message goes, and the answer.
use Rattle.std.proofs.Common.{◌≡◌, ℕ, ◌+◌, ◌-◌, ◌<◌, ◌≤◌, List, ◌∷◌, ◌++◌, refl, arith, sym, ap, ◌∙◌, length, subst, Option, Some, None, true}
use Rattle.std.specs.List.{flat_map}
use Rattle.std.proofs.lemmas.Grind.{flat_map-append}
use Rattle.vch_base.specs.declared.key.Key.{Key}
use Rattle.vch_base.specs.Managers.{count}
use Rattle.vch_base.specs.Tasks.{set_task}
use Rattle.vch_model.specs.declared.call.Call.TheVariants as calls
use Rattle.vch_model.specs.declared.entry.Entry.TheVariants as entries
use Rattle.vch_model.specs.declared.entry.Reply.TheVariants as replies
use Rattle.vch_model.specs.declared.lists.Scenario.{Scenario}
use Rattle.vch_model.specs.Words.{word_of}
use Rattle.vch_machine.specs.State as machine
use Rattle.vch_machine.specs.State.{Handles, Place, Machine, Tasked, tasked, with_tasked, idle}
use Rattle.vch_machine.specs.Frames as frames
use Rattle.vch_machine.specs.Naming as naming
use Rattle.vch_machine.specs.Naming.{handles_of}
use Rattle.vch_machine.specs.Next.{nth_call}
use Rattle.vch_machine.specs.Working.{do_gone, do_lost, do_left}
use Rattle.vch_legal.proofs.CallerLemmas.{IsAmong, gone_uncounted, lost_uncounted, call_uncounted}
use Rattle.vch_base.proofs.CallerLemmas.{own_item}
use Rattle.vch_frame.specs.declared.frame.KeyIndex.{KeyIndex}
use Rattle.vch_frame.specs.Pairs.{Pairwise}
use Rattle.vch_parts.specs.declared.frame.Frame.{Frame}
use Rattle.vch_vouchers.specs.declared.answers.Message.{Message}
use Rattle.vch_parts.specs.Plain.{Plain, Part, part_of, with_frame, closed}
use Rattle.vch_parts.specs.Shape.{IsFrame, IsTask, IsLet, IsMessage}
use Rattle.vch_parts.specs.Pictures.{frame_holds, forming_holds, let_holds}
use Rattle.vch_parts.specs.Stands.{StandsFor}
use Rattle.vch_parts.proofs.CallerLemmas.{closed_frames, holds_closed}
use Rattle.vch_vouchers.specs.Desks.{voucher_of}
use Rattle.vch_moves.specs.Known.{known_in, vouchers_in}
use Rattle.vch_moves.specs.Steps.{machine_stepped, gone, lost, left, letting, un_named, un_queued, answer, IsIdle}
use Rattle.vch_moves.specs.Desks.{AllApart}
use Rattle.vch_moves.proofs.desks.Names.{voucher_is, names_without}
use Rattle.vch_moves.proofs.holding.Different.{count_append}
use Rattle.vch_moves.proofs.holding.Items.{pairwise_append}
use Rattle.vch_moves.proofs.holding.Vouchers.{task_without, task_taken}
use Rattle.vch_moves.proofs.keeping.Idle.{idle_closed}
use Rattle.vch_moves.proofs.keeping.OneTask.{vouchers_stay}
use Rattle.vch_moves.proofs.keeping.Stepping.{OneStep, step_stands}
use Rattle.vch_moves.proofs.ending.Ends.{answer_quiet}
use Rattle.vch_moves.proofs.ending.Replies.{noted_is}
use Rattle.vch_moves.proofs.leaving.GivesUp.{GivesUp, Leaves, gives_up_stands}

module _ (sc : Scenario) (c : Plain) (m : Machine) (t : ℕ) (positive : 0 < t) (inside : t - 1 < length c.tasks) (s : StandsFor sc c m)
    (f : Frame) (g : machine.Frame) (own : (part_of c t).frame ≡ Some f) (task : (tasked m t).frame ≡ Some g) (frame : IsFrame c.keyed f g)
    (idle_frame : IsIdle (Some f)) (room : 1 ≤ c.spare) where
  among : IsAmong t m.tasks
  among = (positive, omega (arith, s.shape.long, inside))

  now : IsTask c.keyed (part_of c t) (tasked m t)
  now = s.shape.tasks t positive inside

  abbrev fs : List KeyIndex → Option Frame
  fs ls = Some (letting f ls)

  abbrev gs : List Place → Option machine.Frame
  gs ps = Some (record g { lets = g.lets ++ ps })

  holds_more : (k : Key) (h : ℕ) (ps : List Place) → count h (forming_holds k g.forming ++ flat_map (let_holds k) (g.lets ++ ps)) ≡ count h (forming_holds k g.forming ++ flat_map (let_holds k) g.lets) + count h (flat_map (let_holds k) ps)
  holds_more k h ps =
      let a = count_append h (forming_holds k g.forming) (flat_map (let_holds k) (g.lets ++ ps)) in
      let b : count h (flat_map (let_holds k) (g.lets ++ ps)) ≡ count h (flat_map (let_holds k) g.lets) + count h (flat_map (let_holds k) ps) = ap (count h) (flat_map-append (let_holds k) g.lets ps) ∙ count_append h (flat_map (let_holds k) g.lets) (flat_map (let_holds k) ps) in
      let d = count_append h (forming_holds k g.forming) (flat_map (let_holds k) g.lets) in
      a ∙ sums _ _ _ _ _ b d
    where
      sums : (e x l p q : ℕ) → x ≡ l + p → q ≡ e + l → e + x ≡ q + p
      sums e x l p q a b = omega (arith, a, b)

  leaves : Leaves c.keyed (tasked m t).frame fs gs
  leaves = record {
    related = λ ls ps r. record { forming = frame.forming; answered = frame.answered; at_byte = frame.at_byte; keys = frame.keys; receipt = frame.receipt; lets = pairwise_append (IsLet c.keyed) f.lets g.lets ls ps frame.lets r; claim = frame.claim };
    idle = λ ls. idle_frame;
    holds = λ k h ps. holds_more k h ps ∙ sym (ap (λ o. count h (frame_holds k o) + count h (flat_map (let_holds k) ps)) task);
  }

  module _ (apart : AllApart c.keyed) where
    -- a name goes
    module _ (name : ℕ) where
      abbrev unnamed : Tasked
      unnamed = record (tasked m t) { names = naming.without_name (tasked m t).names name }

      gives_name : GivesUp c m t (un_named (part_of c t) name) unnamed (voucher_of (part_of c t).names name) (handles_of (tasked m t).names name)
      gives_name = record {
        positive = positive;
        inside = inside;
        task = record { names = names_without c.keyed (part_of c t).names (tasked m t).names name now.names; next = now.next; queue = now.queue; begun = now.begun; frame = now.frame };
        limit = refl;
        voucher = voucher_is c.keyed (part_of c t).names (tasked m t).names name now.names;
        less = task_without (tasked m t) name;
      }

      pub gone_stands : StandsFor sc (gone c t f name) (do_gone m t g name)
      gone_stands = subst (StandsFor sc (gone c t f name)) (sym (noted_is m t unnamed (gs (naming.orphaned (with_tasked m t unnamed) (handles_of (tasked m t).names name))) among (entries.Gone t name)))
          (gives_up_stands sc c m t (un_named (part_of c t) name) unnamed (voucher_of (part_of c t).names name) (handles_of (tasked m t).names name) (Some (entries.Gone t name)) s apart gives_name fs gs leaves
          (subst IsIdle (sym own) idle_frame) (record { uncounted = gone_uncounted sc m.past t name; phases = refl; made = omega arith }) room)

    -- the first message goes
    module _ (q : Message) (queue : List Message) (r : machine.Message) (rest : List machine.Message) (first : (tasked m t).queue ≡ r ∷ rest)
        (message : IsMessage c.keyed q r) (others : Pairwise (IsMessage c.keyed) queue rest) where
      abbrev unqueued : Tasked
      unqueued = record (tasked m t) { queue = rest }

      gives_message : GivesUp c m t (un_queued (part_of c t) queue) unqueued q.voucher r.voucher
      gives_message = record {
        positive = positive;
        inside = inside;
        task = record { names = now.names; next = now.next; queue = others; begun = now.begun; frame = now.frame };
        limit = refl;
        voucher = message.2;
        less = task_taken (tasked m t) r rest first;
      }

      pub lost_stands : StandsFor sc (lost c t f q queue) (do_lost m t g r rest)
      lost_stands = subst (StandsFor sc (lost c t f q queue)) (sym (noted_is m t unqueued (gs (naming.orphaned (with_tasked m t unqueued) r.voucher)) among (entries.Lost t)))
          (gives_up_stands sc c m t (un_queued (part_of c t) queue) unqueued q.voucher r.voucher (Some (entries.Lost t)) s apart gives_message fs gs leaves
          (subst IsIdle (sym own) idle_frame) (record { uncounted = lost_uncounted sc m.past t; phases = refl; made = omega arith }) room)

  -- nothing is left
  module _ (formless : g.forming ≡ None) (exit : nth_call sc t (part_of c t).begun ≡ Some calls.Exit) where
    abbrev F : Frame
    F = record f { answered = true }

    abbrev G : machine.Frame
    G = record g { answered = true }

    abbrev x : Part
    x = with_frame (part_of c t) (closed F)

    abbrev y : Tasked
    y = record (tasked m t) { frame = frames.closed G }

    step : OneStep sc c m t x y (answer c t calls.Exit replies.Done)
    step = record {
      positive = positive;
      inside = inside;
      idle_old = subst IsIdle (sym own) idle_frame;
      idle_new = idle_closed F idle_frame;
      own = record { names = now.names; next = now.next; queue = now.queue; begun = now.begun; frame = closed_frames c.keyed F G (record { forming = frame.forming; answered = refl; at_byte = frame.at_byte; keys = frame.keys; receipt = frame.receipt; lets = frame.lets; claim = frame.claim }) };
      limit = refl;
      holders = λ k h. ap (λ o. count h o + known_in k h (vouchers_in (set_task m.tasks t y))) (holds_closed k G (λ e. formless) ∙ sym (ap (frame_holds k) task))
          ∙ ap (λ vs. count h (frame_holds k (tasked m t).frame) + known_in k h vs) (vouchers_stay m t y refl);
      quiet = answer_quiet sc m.past t (part_of c t).begun (word_of calls.Exit) replies.Done (call_uncounted sc m.past t (part_of c t).begun (word_of calls.Exit) replies.Done calls.Exit exit refl);
      room = room;
    }

    is_left : machine_stepped m t y (answer c t calls.Exit replies.Done) ≡ do_left m t g
    is_left = ap (λ n. record (frames.with_frame m t y.frame) { past = entries.Call t n (word_of calls.Exit) replies.Done ∷ m.past })
        (now.begun ∙ sym (ap (λ (z : Tasked). z.begun) (own_item m.tasks t y idle positive (omega (arith, s.shape.long, inside)))))

    pub left_stands : StandsFor sc (left c t f) (do_left m t g)
    left_stands = subst (StandsFor sc (left c t f)) is_left (step_stands sc c m t x y (answer c t calls.Exit replies.Done) s step)
