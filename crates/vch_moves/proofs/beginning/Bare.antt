-- A send or a recv of a message without a voucher is answered as it begins: all that the parts stand for is kept.
use Rattle.std.proofs.Common.{◌≡◌, ℕ, ◌+◌, ◌-◌, ◌<◌, ◌≤◌, List, [], ◌∷◌, ◌++◌, refl, arith, sym, ap, ◌∙◌, length, subst, Some, None}
use Rattle.vch_base.specs.declared.key.Key.{Key}
use Rattle.vch_base.specs.Managers.{count}
use Rattle.vch_base.specs.Tasks.{set_task}
use Rattle.vch_base.proofs.CallerLemmas.{as_long, own_item, set_twice}
use Rattle.vch_model.specs.declared.call.Call.{Call}
use Rattle.vch_model.specs.declared.entry.Entry.TheVariants as entries
use Rattle.vch_model.specs.declared.entry.Reply.{Reply}
use Rattle.vch_model.specs.declared.lists.Scenario.{Scenario}
use Rattle.vch_model.specs.Words.{word_of}
use Rattle.vch_machine.specs.State as machine
use Rattle.vch_machine.specs.State.{Machine, Tasked, tasked, with_tasked, idle}
use Rattle.vch_machine.specs.Frames as frames
use Rattle.vch_machine.specs.Beginning as begins
use Rattle.vch_legal.specs.ValueAmounts.{IsUncounted}
use Rattle.vch_legal.proofs.CallerLemmas.{IsAmong}
use Rattle.vch_frame.specs.Pairs.{Pairwise}
use Rattle.vch_vouchers.specs.declared.answers.Message.{Message}
use Rattle.vch_parts.specs.Plain.{Plain, part_of}
use Rattle.vch_parts.specs.Shape.{IsTask, IsMessage}
use Rattle.vch_parts.specs.Pictures.{frame_holds}
use Rattle.vch_parts.specs.Stands.{StandsFor}
use Rattle.vch_moves.specs.Known.{known_in, held_in, vouchers_in}
use Rattle.vch_moves.specs.Steps.{machine_stepped, begun_one, un_queued, queued_part, queued_first, taken_first, first_answer, IsIdle}
use Rattle.vch_moves.proofs.holding.InTasks.{more_in_tasks, less_in_tasks}
use Rattle.vch_moves.proofs.holding.Items.{pairwise_append}
use Rattle.vch_moves.proofs.holding.Vouchers.{MoreBy, task_queued, task_taken}
use Rattle.vch_moves.proofs.keeping.Between.{Between, Replaced, replaced_between, replaced_frames, then_between, between_stands}
use Rattle.vch_moves.proofs.keeping.OneTask.{vouchers_stay}
use Rattle.vch_moves.proofs.keeping.SamePart.{same_part}
use Rattle.vch_moves.proofs.keeping.Stepping.{OneStep, step_stands}
use Rattle.vch_moves.proofs.ending.Ends.{answer_quiet}

module _ (sc : Scenario) (c : Plain) (m : Machine) (t : ℕ) (positive : 0 < t) (inside : t - 1 < length c.tasks) (s : StandsFor sc c m)
    (own : (part_of c t).frame ≡ None) (task : (tasked m t).frame ≡ None) (call : Call) (reply : Reply)
    (uncounted : IsUncounted sc m.past (entries.Call t ((part_of c t).begun + 1) (word_of call) reply)) (room : 1 ≤ c.spare) where
  among : IsAmong t m.tasks
  among = (positive, omega (arith, s.shape.long, inside))

  abbrev begun : Tasked
  begun = begins.begun_one (tasked m t)

  abbrev mid : Machine
  mid = with_tasked m t begun

  now : IsTask c.keyed (part_of c t) (tasked m t)
  now = s.shape.tasks t positive inside

  own_mid : tasked mid t ≡ begun
  own_mid = own_item m.tasks t begun idle among.0 among.1

  -- the first message goes
  module _ (queue : List Message) (r : machine.Message) (rest : List machine.Message) (first : (tasked m t).queue ≡ r ∷ rest)
      (others : Pairwise (IsMessage c.keyed) queue rest) (bare : r.voucher ≡ None) where
    abbrev y : Tasked
    y = record begun { queue = rest }

    same_vouchers : vouchers_in (set_task m.tasks t y) ≡ vouchers_in m.tasks
    same_vouchers = sym (subst (λ o. MoreBy o (vouchers_in (set_task m.tasks t y)) (vouchers_in m.tasks)) bare (less_in_tasks m t y among r.voucher (task_taken (tasked m t) r rest first)))

    step : OneStep sc c m t (un_queued (begun_one (part_of c t)) queue) y (first_answer c t call reply)
    step = record {
      positive = positive;
      inside = inside;
      idle_old = subst IsIdle (sym own) tt;
      idle_new = subst IsIdle (sym own) tt;
      own = record { names = now.names; next = now.next; queue = others; begun = ap (λ n. n + 1) now.begun; frame = now.frame };
      limit = refl;
      holders = λ k h. ap (λ vs. count h (frame_holds k (tasked m t).frame) + known_in k h vs) same_vouchers;
      quiet = answer_quiet sc m.past t ((part_of c t).begun + 1) (word_of call) reply uncounted;
      room = room;
    }

    is_taken : machine_stepped m t y (first_answer c t call reply) ≡ frames.replied (begins.dequeued mid t (tasked mid t).queue) t call reply
    is_taken =
        ap (λ n. machine_stepped m t y (Some (entries.Call t n (word_of call) reply))) (ap (λ n. n + 1) now.begun ∙ sym (ap (λ (a : Tasked). a.begun) (own_item m.tasks t y idle among.0 among.1)))
        ∙ ap (λ a. frames.replied a t call reply) (sym (ap (λ (a : Tasked). begins.dequeued mid t a.queue) own_mid ∙ ap (λ qs. begins.dequeued mid t qs) first
        ∙ ap (λ (a : Tasked). with_tasked mid t (record a { queue = rest })) own_mid ∙ ap (λ ts. record m { tasks = ts }) (set_twice m.tasks t begun y)))

    pub taken_stands : StandsFor sc (taken_first c t queue call reply) (frames.replied (begins.dequeued mid t (tasked mid t).queue) t call reply)
    taken_stands = subst (StandsFor sc (taken_first c t queue call reply)) is_taken (step_stands sc c m t (un_queued (begun_one (part_of c t)) queue) y (first_answer c t call reply) s step)

  -- a message is queued
  module _ (to id : ℕ) (to_positive : 0 < to) (to_inside : to - 1 < length c.tasks) where
    abbrev message : Message
    message = record { sender = t; id = id; voucher = None }

    abbrev twin : machine.Message
    twin = record { sender = t; id = id; voucher = None }

    abbrev c1 : Plain
    c1 = record c { tasks = set_task c.tasks t (begun_one (part_of c t)) }

    abbrev z : Tasked
    z = record (tasked mid to) { queue = (tasked mid to).queue ++ twin ∷ [] }

    abbrev d : Plain
    d = queued_first c t to message call reply

    abbrev n : Machine
    n = machine_stepped mid to z (first_answer c t call reply)

    first : Replaced c m t (begun_one (part_of c t)) begun
    first = record {
      positive = positive;
      inside = inside;
      own = record { names = now.names; next = now.next; queue = now.queue; begun = ap (λ n. n + 1) now.begun; frame = now.frame };
      limit = refl;
      receipts = λ k. refl;
      claims = λ k. refl;
    }

    between_first : Between sc c c1 m mid
    between_first = replaced_between sc c c1 m mid t (begun_one (part_of c t)) begun s.shape first refl refl refl refl refl refl refl refl

    inside1 : to - 1 < length c1.tasks
    inside1 = subst (λ n. to - 1 < n) (sym (as_long c.tasks t (begun_one (part_of c t)))) to_inside

    among1 : IsAmong to mid.tasks
    among1 = (to_positive, omega (arith, between_first.shape.long, inside1))

    second : Replaced c1 mid to (queued_part (part_of c1 to) message) z
    second = let q : IsTask c.keyed (part_of c1 to) (tasked mid to) = between_first.shape.tasks to to_positive inside1 in record {
      positive = to_positive;
      inside = inside1;
      own = record { names = q.names; next = q.next; queue = pairwise_append (IsMessage c.keyed) (part_of c1 to).queue (tasked mid to).queue (message ∷ []) (twin ∷ []) q.queue ((refl, refl, tt), tt); begun = q.begun; frame = q.frame };
      limit = refl;
      receipts = λ k. refl;
      claims = λ k. refl;
    }

    between_second : Between sc c1 d mid n
    between_second = replaced_between sc c1 d mid n to (queued_part (part_of c1 to) message) z between_first.shape second refl refl refl refl refl refl refl refl

    held : (k : Key) (h : ℕ) → held_in k h n.tasks ≡ held_in k h m.tasks
    held k h = sums _ _ _ _ _ _ _ _
        (replaced_frames sc c c1 m mid t (begun_one (part_of c t)) begun s.shape first refl refl k h) (replaced_frames sc c1 d mid n to (queued_part (part_of c1 to) message) z between_first.shape second refl refl k h)
        (ap (known_in k h) (vouchers_stay m t begun refl)) (ap (known_in k h) (more_in_tasks mid to z among1 None (task_queued (tasked mid to) twin)))
      where
        sums : (f1 f2 f3 a b k1 k2 k3 : ℕ) → f2 + a ≡ f1 + a → f3 + b ≡ f2 + b → k2 ≡ k1 → k3 ≡ k2 → f3 + k3 ≡ f1 + k1
        sums f1 f2 f3 a b k1 k2 k3 p q r v = omega (arith, p, q, r, v)

    stands_then : StandsFor sc d n
    stands_then = between_stands sc (first_answer c t call reply) c d m n s (then_between sc c c1 d m mid n between_first between_second)
        (record { past = refl; history = refl; spare = omega (arith, room); quiet = answer_quiet sc m.past t ((part_of c t).begun + 1) (word_of call) reply uncounted }) held

    is_queued : n ≡ frames.replied (begins.enqueued mid to twin) t call reply
    is_queued = ap (λ i. machine_stepped mid to z (Some (entries.Call t i (word_of call) reply)))
        (ap (λ n. n + 1) now.begun ∙ sym (same_part (λ (a : Tasked). a.begun) mid.tasks to t z idle refl ∙ ap (λ (a : Tasked). a.begun) own_mid))

    pub queued_stands : StandsFor sc (queued_first c t to message call reply) (frames.replied (begins.enqueued mid to twin) t call reply)
    queued_stands = subst (StandsFor sc (queued_first c t to message call reply)) is_queued stands_then
