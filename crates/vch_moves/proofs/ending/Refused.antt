-- A refused call keeps all that the parts stand for.
use Rattle.std.proofs.Common.{◌≡◌, ℕ, ◌+◌, ◌-◌, ◌<◌, ◌≤◌, ◌∷◌, refl, arith, sym, ap, ◌∙◌, length, subst, Some}
use Rattle.std.specs.Prelude.{ℤ}
use Rattle.std.specs.List.{flat_map}
use Rattle.vch_base.specs.declared.key.Key.{Key}
use Rattle.vch_base.specs.Managers.{count}
use Rattle.vch_base.specs.Tasks.{set_task}
use Rattle.vch_base.proofs.CallerLemmas.{own_item}
use Rattle.vch_model.specs.declared.call.Call.{Call}
use Rattle.vch_model.specs.declared.entry.Entry.TheVariants as entries
use Rattle.vch_model.specs.declared.lists.Scenario.{Scenario}
use Rattle.vch_model.specs.Replies.{refused}
use Rattle.vch_model.specs.Words.{word_of}
use Rattle.vch_machine.specs.State as machine
use Rattle.vch_machine.specs.State.{Machine, Tasked, tasked, idle}
use Rattle.vch_machine.specs.Frames as frames
use Rattle.vch_machine.specs.Frames.{refuse}
use Rattle.vch_machine.specs.Naming.{option_places}
use Rattle.vch_legal.proofs.CallerLemmas.{refused_uncounted}
use Rattle.vch_parts.specs.declared.frame.Frame.{Frame}
use Rattle.vch_parts.specs.Plain.{Plain, Part, part_of, with_frame, closed}
use Rattle.vch_parts.specs.Shape.{IsFrame, IsTask}
use Rattle.vch_parts.specs.Pictures.{frame_holds, forming_holds, let_holds}
use Rattle.vch_parts.specs.Stands.{StandsFor}
use Rattle.vch_moves.specs.Desks.{option_items}
use Rattle.vch_moves.specs.Known.{known_in, vouchers_in}
use Rattle.vch_moves.specs.Steps.{refused_call, machine_stepped, answer, ended, IsIdle}
use Rattle.vch_moves.proofs.holding.Items.{option_lets, option_hold}
use Rattle.vch_moves.proofs.keeping.OneTask.{vouchers_stay}
use Rattle.vch_moves.proofs.keeping.Stepping.{OneStep, step_stands}
use Rattle.vch_moves.proofs.ending.Ends.{machine_ended, ended_frames, ended_idle, ended_holds, forming_held, answer_quiet}

module _ (sc : Scenario) (c : Plain) (m : Machine) (t : ℕ) (positive : 0 < t) (inside : t - 1 < length c.tasks) (s : StandsFor sc c m)
    (f : Frame) (g : machine.Frame) (call : Call) (code : ℤ)
    (own : (part_of c t).frame ≡ Some f) (task : (tasked m t).frame ≡ Some g) (frame : IsFrame c.keyed f g) (idle_frame : IsIdle (Some f)) (room : 1 ≤ c.spare) where
  abbrev x : Part
  x = with_frame (part_of c t) (closed (ended f (option_items f.forming)))

  abbrev y : Tasked
  y = record (tasked m t) { frame = frames.closed (machine_ended g (option_places g.forming)) }

  own_task : IsTask c.keyed x y
  own_task = let z : IsTask c.keyed (part_of c t) (tasked m t) = s.shape.tasks t positive inside in
      record { names = z.names; next = z.next; queue = z.queue; begun = z.begun; frame = ended_frames c.keyed f g frame (option_items f.forming) (option_places g.forming) (option_lets c.keyed f.forming g.forming frame.forming) }

  sums : (a b e z : ℕ) → a ≡ b → (e + a) + z ≡ (b + e) + z
  sums a b e z p = omega (arith, p)

  held : (k : Key) (h : ℕ) → count h (frame_holds k y.frame) + known_in k h (vouchers_in (set_task m.tasks t y)) ≡ count h (frame_holds k (tasked m t).frame) + known_in k h (vouchers_in m.tasks)
  held k h =
      ap (λ i. i + known_in k h (vouchers_in (set_task m.tasks t y))) (ended_holds k h g (option_places g.forming))
      ∙ ap (λ vs. (count h (flat_map (let_holds k) g.lets) + count h (flat_map (let_holds k) (option_places g.forming))) + known_in k h vs) (vouchers_stay m t y refl)
      ∙ sums (count h (flat_map (let_holds k) (option_places g.forming))) (count h (forming_holds k g.forming)) (count h (flat_map (let_holds k) g.lets)) (known_in k h (vouchers_in m.tasks)) (ap (count h) (option_hold k g.forming))
      ∙ ap (λ i. i + known_in k h (vouchers_in m.tasks)) (sym (forming_held k h g) ∙ sym (ap (λ o. count h (frame_holds k o)) task))

  step : OneStep sc c m t x y (answer c t call (refused code))
  step = record {
    positive = positive;
    inside = inside;
    idle_old = subst IsIdle (sym own) idle_frame;
    idle_new = ended_idle f (option_items f.forming) idle_frame;
    own = own_task;
    limit = refl;
    holders = held;
    quiet = answer_quiet sc m.past t (part_of c t).begun (word_of call) (refused code) (refused_uncounted sc m.past t (part_of c t).begun (word_of call) (refused code) refl);
    room = room;
  }

  is_refuse : machine_stepped m t y (answer c t call (refused code)) ≡ refuse m t g call code
  is_refuse = ap (λ n. record (frames.with_frame m t y.frame) { past = entries.Call t n (word_of call) (refused code) ∷ m.past })
      ((s.shape.tasks t positive inside).begun ∙ sym (ap (λ (z : Tasked). z.begun) (own_item m.tasks t y idle positive (omega (arith, s.shape.long, inside)))))

  pub refused_stands : StandsFor sc (refused_call c t f call code) (refuse m t g call code)
  refused_stands = subst (StandsFor sc (refused_call c t f call code)) is_refuse (step_stands sc c m t x y (answer c t call (refused code)) s step)
