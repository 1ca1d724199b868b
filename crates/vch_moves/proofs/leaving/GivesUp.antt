-- A name or a message of a task goes: the handles of its voucher are let go where no one has it any more.
use Rattle.std.proofs.Common.{◌≡◌, ℕ, ◌+◌, ◌-◌, ◌<◌, ◌≤◌, List, refl, arith, ap, ◌∙◌, length, Option}
use Rattle.std.specs.Prelude.{option_to_list}
use Rattle.vch_base.specs.declared.key.Key.{Key}
use Rattle.vch_base.specs.Keyed.{Keyed}
use Rattle.vch_base.specs.Managers.{count}
use Rattle.vch_base.specs.Tasks.{set_task}
use Rattle.vch_model.specs.declared.entry.Entry.{Entry}
use Rattle.vch_model.specs.declared.lists.Scenario.{Scenario}
use Rattle.vch_machine.specs.State as machine
use Rattle.vch_machine.specs.State.{Handles, Place, Machine, Tasked, tasked, with_tasked}
use Rattle.vch_machine.specs.Naming as naming
use Rattle.vch_legal.proofs.CallerLemmas.{IsAmong}
use Rattle.vch_frame.specs.declared.frame.KeyIndex.{KeyIndex}
use Rattle.vch_frame.specs.Pairs.{Optional, Pairwise}
use Rattle.vch_values.specs.Parts.{KeyParts}
use Rattle.vch_parts.specs.declared.frame.Frame.{Frame}
use Rattle.vch_parts.specs.Plain.{Indices, Plain, Part, part_of, with_frame}
use Rattle.vch_parts.specs.Shape.{IsFrame, IsMap, IsTask, IsLet, Shape}
use Rattle.vch_parts.specs.Pictures.{frame_holds, task_vouchers}
use Rattle.vch_parts.specs.Stands.{StandsFor}
use Rattle.vch_moves.specs.Desks.{orphaned, AllApart}
use Rattle.vch_moves.specs.Kept.{IsQuiet}
use Rattle.vch_moves.specs.Known.{known_in, vouchers_in}
use Rattle.vch_moves.specs.Steps.{stepped, machine_stepped, IsIdle}
use Rattle.vch_moves.proofs.desks.Known.{orphaned_is}
use Rattle.vch_moves.proofs.holding.InTasks.{less_in_tasks, orphaned_holds, vouchers_put, lets_in}
use Rattle.vch_moves.proofs.holding.Vouchers.{MoreBy}
use Rattle.vch_moves.proofs.keeping.OneTask.{shape_one}
use Rattle.vch_moves.proofs.keeping.Stepping.{OneStep, step_stands}

-- the frame of the task then, by what it lets go of: it is idle, and holds what the old one held and this
pub record Leaves (x : Keyed KeyParts) (old : Option machine.Frame) (fs : List KeyIndex → Option Frame) (gs : List Place → Option machine.Frame) : Type 0 where
  pub related : (ls : List KeyIndex) (ps : List Place) → Pairwise (IsLet x) ls ps → Optional (IsFrame x) (fs ls) (gs ps)
  pub idle : (ls : List KeyIndex) → IsIdle (fs ls)
  pub holds : (k : Key) (h : ℕ) (ps : List Place) → count h (frame_holds k (gs ps)) ≡ count h (frame_holds k old) + lets_in k h ps

-- a task that has one voucher less, on both sides
pub record GivesUp (c : Plain) (m : Machine) (t : ℕ) (a : Part) (z : Tasked) (u : Option Indices) (w : Option Handles) : Type 0 where
  pub positive : 0 < t
  pub inside : t - 1 < length c.tasks
  pub task : IsTask c.keyed a z
  pub limit : a.limit ≡ (part_of c t).limit
  pub voucher : Optional (IsMap c.keyed) u w
  pub less : MoreBy w (task_vouchers z) (task_vouchers (tasked m t))

module _ (sc : Scenario) (c : Plain) (m : Machine) (t : ℕ) (a : Part) (z : Tasked) (u : Option Indices) (w : Option Handles) (o : Option Entry)
    (s : StandsFor sc c m) (apart : AllApart c.keyed) (gives : GivesUp c m t a z u w)
    (fs : List KeyIndex → Option Frame) (gs : List Place → Option machine.Frame) (leaves : Leaves c.keyed (tasked m t).frame fs gs)
    (idle_old : IsIdle (part_of c t).frame) (quiet : IsQuiet sc m.past o) (room : length (option_to_list o) ≤ c.spare) where
  abbrev ls : List KeyIndex
  ls = orphaned (set_task c.tasks t a) u

  abbrev ps : List Place
  ps = naming.orphaned (with_tasked m t z) w

  abbrev x : Part
  x = with_frame a (fs ls)

  abbrev y : Tasked
  y = record z { frame = gs ps }

  among : IsAmong t m.tasks
  among = (gives.positive, let i : t - 1 < length c.tasks = gives.inside in omega (arith, s.shape.long, i))

  shape_mid : Shape sc (record c { tasks = set_task c.tasks t a }) (with_tasked m t z)
  shape_mid = shape_one sc c (record c { tasks = set_task c.tasks t a }) m (with_tasked m t z) t a z s.shape
      (record { positive = gives.positive; inside = gives.inside; parts = refl; tasks = refl }) (λ k i h e. e) gives.task gives.limit

  lets_are : Pairwise (IsLet c.keyed) ls ps
  lets_are = orphaned_is sc (record c { tasks = set_task c.tasks t a }) (with_tasked m t z) shape_mid apart u w gives.voucher

  held : (k : Key) (h : ℕ) → count h (frame_holds k y.frame) + known_in k h (vouchers_in (set_task m.tasks t y)) ≡ count h (frame_holds k (tasked m t).frame) + known_in k h (vouchers_in m.tasks)
  held k h =
      ap (λ i. i + known_in k h (vouchers_in (set_task m.tasks t y))) (leaves.holds k h ps)
      ∙ ap (λ vs. (count h (frame_holds k (tasked m t).frame) + lets_in k h ps) + known_in k h vs) (vouchers_put m t y z among refl)
      ∙ sums (count h (frame_holds k (tasked m t).frame)) (lets_in k h ps) (known_in k h (vouchers_in (set_task m.tasks t z))) (known_in k h (vouchers_in m.tasks))
      (orphaned_holds k h (with_tasked m t z) w (vouchers_in m.tasks) (less_in_tasks m t z among w gives.less))
    where
      sums : (f l n p : ℕ) → n + l ≡ p → (f + l) + n ≡ f + p
      sums f l n p e = omega (arith, e)

  step : OneStep sc c m t x y o
  step = let q = gives.task in record {
    positive = gives.positive;
    inside = gives.inside;
    idle_old = idle_old;
    idle_new = leaves.idle ls;
    own = record { names = q.names; next = q.next; queue = q.queue; begun = q.begun; frame = leaves.related ls ps lets_are };
    limit = gives.limit;
    holders = held;
    quiet = quiet;
    room = room;
  }

  pub gives_up_stands : StandsFor sc (stepped c t (with_frame a (fs (orphaned (set_task c.tasks t a) u))) o) (machine_stepped m t (record z { frame = gs (naming.orphaned (with_tasked m t z) w) }) o)
  gives_up_stands = step_stands sc c m t x y o s step
