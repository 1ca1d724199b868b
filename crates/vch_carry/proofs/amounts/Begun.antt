-- A call begins, and its answer is noted with a change of what is due.
use Rattle.std.proofs.Common.{◌≡◌, ℕ, ◌+◌, ◌-◌, ◌≤◌, List, [], ◌∷◌, ◌++◌, refl, arith, sym, ap, ◌∙◌, subst, append-nil, None}
use Rattle.vch_base.specs.declared.key.Key.{Key}
use Rattle.vch_base.specs.Keyed.{Keyed, of_key}
use Rattle.vch_base.specs.Managers.{count}
use Rattle.vch_base.specs.Tasks.{set_task}
use Rattle.vch_base.proofs.CallerLemmas.{own_item}
use Rattle.vch_model.specs.declared.call.Call.{Call}
use Rattle.vch_model.specs.declared.entry.Entry.{Entry}
use Rattle.vch_model.specs.declared.entry.Entry.TheVariants as entries
use Rattle.vch_model.specs.declared.entry.Reply.{Reply}
use Rattle.vch_model.specs.declared.lists.Scenario.{Scenario}
use Rattle.vch_model.specs.Words.{word_of}
use Rattle.vch_machine.specs.Beginning as begins
use Rattle.vch_machine.specs.Frames.{noted, replied}
use Rattle.vch_machine.specs.State.{Machine, Tasked, tasked, idle}
use Rattle.vch_bounds.specs.Rooms.{made_in}
use Rattle.vch_values.specs.Parts.{KeyParts}
use Rattle.vch_parts.specs.Plain.{Plain, Part, part_of}
use Rattle.vch_parts.specs.Pictures.{frame_holds}
use Rattle.vch_parts.specs.Shape.{IsTask}
use Rattle.vch_parts.specs.Stands.{StandsFor}
use Rattle.vch_moves.specs.Known.{known_in}
use Rattle.vch_moves.specs.Moments.{IsFree}
use Rattle.vch_moves.specs.Steps.{machine_begun, begun_one, answered_first, IsIdle}
use Rattle.vch_moves.proofs.CallerLemmas.{OneStep, step_stands, vouchers_stay}
use Rattle.vch_replies.specs.Left.{AddsUp}
use Rattle.vch_carry.proofs.amounts.Noted.{SameButDues, noted_stands}

module _ (sc : Scenario) (c : Plain) (m : Machine) (t : ℕ) (a : IsFree sc c m t) where
  now : IsTask c.keyed (part_of c t) (tasked m t)
  now = a.stands.shape.tasks t a.positive a.inside

  abbrev more : Tasked
  more = begins.begun_one (tasked m t)

  step : OneStep sc c m t (begun_one (part_of c t)) more None
  step = record {
    positive = a.positive;
    inside = a.inside;
    idle_old = subst IsIdle (sym a.own) tt;
    idle_new = subst IsIdle (sym a.own) tt;
    own = record { names = now.names; next = now.next; queue = now.queue; begun = ap (λ n. n + 1) now.begun; frame = now.frame };
    limit = refl;
    holders = λ k h. ap (λ vs. count h (frame_holds k (tasked m t).frame) + known_in k h vs) (vouchers_stay m t more refl);
    quiet = tt;
    room = omega arith;
  }

  plain_with : (ps : List Part) (es fs : List Entry) (i j : ℕ) → es ≡ fs → i ≡ j → record c { tasks = ps; history = es; spare = i } ≡ record c { tasks = ps; history = fs; spare = j }
  plain_with ps es fs i j e f = rw (e, f) refl

  nothing_more : (es : List Entry) → es ++ [] ≡ es
  nothing_more es = simp append-nil

  nothing_first : (n : ℕ) → 0 + n ≡ n
  nothing_first n = omega arith

  nothing_less : (n : ℕ) → n - 0 ≡ n
  nothing_less n = omega arith

  -- one call more is begun
  begun_stands : StandsFor sc (record c { tasks = set_task c.tasks t (begun_one (part_of c t)) }) (machine_begun m t)
  begun_stands = subst (λ d. StandsFor sc d (machine_begun m t))
      (plain_with (set_task c.tasks t (begun_one (part_of c t))) (c.history ++ []) c.history (c.spare - 0) c.spare (nothing_more c.history) (nothing_less c.spare))
      (step_stands sc c m t (begun_one (part_of c t)) more None a.stands step)

  number : (part_of c t).begun + 1 ≡ (tasked (machine_begun m t) t).begun
  number = ap (λ n. n + 1) now.begun ∙ sym (ap (λ (x : Tasked). x.begun) (own_item m.tasks t more idle a.positive (let s = a.stands.shape.long in omega (arith, s, a.inside, a.positive))))

  -- what is due changes as the history with the answer adds it up
  pub due_answered : (y : Keyed KeyParts) (call : Call) (reply : Reply) → ((k : Key) → SameButDues (of_key k c.keyed) (of_key k y))
      → AddsUp sc (entries.Call t ((part_of c t).begun + 1) (word_of call) reply ∷ m.past) y → 1 ≤ c.spare
      → StandsFor sc (record (answered_first c t call reply) { keyed = y }) (replied (machine_begun m t) t call reply)
  due_answered y call reply same adds room =
      subst (λ n. StandsFor sc (record (answered_first c t call reply) { keyed = y }) (noted (machine_begun m t) (entries.Call t n (word_of call) reply))) number
      (noted_stands sc (record c { tasks = set_task c.tasks t (begun_one (part_of c t)) }) (machine_begun m t) begun_stands y (entries.Call t ((part_of c t).begun + 1) (word_of call) reply) same adds refl (nothing_first (made_in m.past)) room)
