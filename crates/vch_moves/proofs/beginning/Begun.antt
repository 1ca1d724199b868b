-- A call begins that moves no voucher: it has a frame that holds nothing yet, or is answered at once.
use Rattle.std.proofs.Common.{◌≡◌, ℕ, ◌+◌, ◌-◌, ◌<◌, ◌≤◌, [], refl, arith, sym, ap, ◌∙◌, length, subst, Option, Some, None}
use Rattle.std.specs.Prelude.{option_to_list}
use Rattle.vch_base.specs.declared.key.Key.{Key}
use Rattle.vch_base.specs.declared.key.Key.TheVariants as keys
use Rattle.vch_base.specs.Managers.{count}
use Rattle.vch_base.specs.Tasks.{set_task}
use Rattle.vch_model.specs.declared.call.Call.{Call}
use Rattle.vch_model.specs.declared.entry.Entry.{Entry}
use Rattle.vch_model.specs.declared.entry.Entry.TheVariants as entries
use Rattle.vch_model.specs.declared.entry.Reply.{Reply}
use Rattle.vch_model.specs.declared.lists.Scenario.{Scenario}
use Rattle.vch_model.specs.Words.{word_of}
use Rattle.vch_machine.specs.State as machine
use Rattle.vch_machine.specs.State.{Machine, Tasked, tasked, with_tasked, no_handles, idle}
use Rattle.vch_machine.specs.Frames as frames
use Rattle.vch_machine.specs.Beginning as begins
use Rattle.vch_legal.specs.ValueAmounts.{IsUncounted}
use Rattle.vch_legal.proofs.CallerLemmas.{IsAmong}
use Rattle.vch_frame.specs.Pairs.{Optional}
use Rattle.vch_parts.specs.declared.frame.Frame.{Frame}
use Rattle.vch_parts.specs.Plain.{Plain, Part, part_of, with_frame}
use Rattle.vch_parts.specs.Shape.{IsFrame, IsTask}
use Rattle.vch_parts.specs.Pictures.{frame_holds}
use Rattle.vch_parts.specs.Stands.{StandsFor}
use Rattle.vch_moves.specs.Kept.{IsQuiet}
use Rattle.vch_moves.specs.Known.{known_in, vouchers_in}
use Rattle.vch_moves.specs.Steps.{stepped, machine_stepped, begun_one, first_answer, fresh_frame, exiting_frame, IsIdle}
use Rattle.vch_moves.proofs.keeping.OneTask.{vouchers_stay}
use Rattle.vch_moves.proofs.keeping.Stepping.{OneStep, step_stands}
use Rattle.vch_moves.proofs.ending.Ends.{answer_quiet}
use Rattle.vch_moves.proofs.ending.Replies.{framed_is, own_}

module _ (sc : Scenario) (c : Plain) (m : Machine) (t : ℕ) (positive : 0 < t) (inside : t - 1 < length c.tasks) (s : StandsFor sc c m)
    (own : (part_of c t).frame ≡ None) (task : (tasked m t).frame ≡ None) where
  among : IsAmong t m.tasks
  among = (positive, omega (arith, s.shape.long, inside))

  now : IsTask c.keyed (part_of c t) (tasked m t)
  now = s.shape.tasks t positive inside

  abbrev mid : Machine
  mid = with_tasked m t (begins.begun_one (tasked m t))

  module _ (f : Option Frame) (g : Option machine.Frame) (o : Option Entry) (related : Optional (IsFrame c.keyed) f g) (idle_frame : IsIdle f) (nothing : (k : Key) → frame_holds k g ≡ [])
      (quiet : IsQuiet sc m.past o) (room : length (option_to_list o) ≤ c.spare) where
    abbrev x : Part
    x = with_frame (begun_one (part_of c t)) f

    abbrev y : Tasked
    y = record (begins.begun_one (tasked m t)) { frame = g }

    step : OneStep sc c m t x y o
    step = record {
      positive = positive;
      inside = inside;
      idle_old = subst IsIdle (sym own) tt;
      idle_new = idle_frame;
      own = record { names = now.names; next = now.next; queue = now.queue; begun = ap (λ n. n + 1) now.begun; frame = related };
      limit = refl;
      holders = λ k h. ap (λ xs. count h xs + known_in k h (vouchers_in (set_task m.tasks t y))) (nothing k ∙ sym (ap (frame_holds k) task))
          ∙ ap (λ vs. count h (frame_holds k (tasked m t).frame) + known_in k h vs) (vouchers_stay m t y refl);
      quiet = quiet;
      room = room;
    }

    begun_stands : StandsFor sc (stepped c t x o) (machine_stepped m t y o)
    begun_stands = step_stands sc c m t x y o s step

  -- a create
  pub create_begun : StandsFor sc (stepped c t (with_frame (begun_one (part_of c t)) (Some (fresh_frame [] []))) None) (frames.with_frame mid t (Some (begins.fresh_frame no_handles [])))
  create_begun = subst (StandsFor sc _) (sym (framed_is m t (begins.begun_one (tasked m t)) (Some (begins.fresh_frame no_handles [])) among))
      (begun_stands (Some (fresh_frame [] [])) (Some (begins.fresh_frame no_handles [])) None
      (record { forming = ((tt, (tt, (tt, (tt, tt)))), record { bounded = record { rising = tt; few = omega arith }; managed = λ n e. refl }); answered = refl; at_byte = refl; keys = refl; receipt = tt; lets = tt; claim = tt }) (refl, refl) nothing tt (omega arith))
    where
      nothing : (k : Key) → frame_holds k (Some (begins.fresh_frame no_handles [])) ≡ []
      nothing keys.Importance = refl
      nothing keys.Bank = refl
      nothing keys.User = refl
      nothing keys.Test = refl

  -- an exit
  pub exit_begun : StandsFor sc (stepped c t (with_frame (begun_one (part_of c t)) (Some exiting_frame)) None) (frames.with_frame mid t (Some begins.exiting_frame))
  exit_begun = subst (StandsFor sc _) (sym (framed_is m t (begins.begun_one (tasked m t)) (Some begins.exiting_frame) among))
      (begun_stands (Some exiting_frame) (Some begins.exiting_frame) None
      (record { forming = tt; answered = refl; at_byte = refl; keys = refl; receipt = tt; lets = tt; claim = tt }) (refl, refl) (λ k. refl) tt (omega arith))

  -- a call that is answered at once
  module _ (call : Call) (reply : Reply) (uncounted : IsUncounted sc m.past (entries.Call t ((part_of c t).begun + 1) (word_of call) reply)) (room : 1 ≤ c.spare) where
    is_answered : machine_stepped m t (record (begins.begun_one (tasked m t)) { frame = (tasked m t).frame }) (first_answer c t call reply) ≡ frames.replied mid t call reply
    is_answered = ap (λ n. frames.noted mid (entries.Call t n (word_of call) reply)) (ap (λ n. n + 1) now.begun ∙ sym (ap (λ (a : Tasked). a.begun) (own_ m t (begins.begun_one (tasked m t)) None among (begins.begun_one (tasked m t)))))

    pub answered_begun : StandsFor sc (stepped c t (begun_one (part_of c t)) (first_answer c t call reply)) (frames.replied mid t call reply)
    answered_begun = subst (StandsFor sc (stepped c t (begun_one (part_of c t)) (first_answer c t call reply))) is_answered
        (begun_stands (part_of c t).frame (tasked m t).frame (first_answer c t call reply) now.frame (subst IsIdle (sym own) tt) (λ k. ap (frame_holds k) task)
        (answer_quiet sc m.past t ((part_of c t).begun + 1) (word_of call) reply uncounted) room)
