-- An event that replaces one task and shares references of entries keeps all that the parts stand for.
use Rattle.std.proofs.Common.{◌≡◌, ℕ, ◌+◌, ◌-◌, ◌<◌, ◌≤◌, refl, arith, sym, ◌∙◌, length, Option}
use Rattle.std.specs.Prelude.{option_to_list}
use Rattle.vch_base.specs.declared.key.Key.{Key}
use Rattle.vch_base.specs.Keyed.{Keyed}
use Rattle.vch_base.specs.Managers.{count}
use Rattle.vch_base.specs.Tasks.{set_task}
use Rattle.vch_model.specs.declared.entry.Entry.{Entry}
use Rattle.vch_model.specs.declared.lists.Scenario.{Scenario}
use Rattle.vch_machine.specs.State.{Machine, Tasked, tasked}
use Rattle.vch_frame.specs.Indices.{listed}
use Rattle.vch_values.specs.Parts.{KeyParts}
use Rattle.vch_parts.specs.Plain.{Plain, Part, part_of}
use Rattle.vch_parts.specs.Shape.{IsTask}
use Rattle.vch_parts.specs.Pictures.{frame_holds}
use Rattle.vch_parts.specs.Stands.{StandsFor}
use Rattle.vch_parts.proofs.CallerLemmas.{Keeps}
use Rattle.vch_moves.specs.Known.{known_in, held_in, frames_in, vouchers_in}
use Rattle.vch_moves.specs.Kept.{Moved, SameFlight, IsQuiet, Shared}
use Rattle.vch_moves.specs.Steps.{stepped, machine_stepped, IsIdle}
use Rattle.vch_moves.proofs.keeping.Keeping.{moved_stands}
use Rattle.vch_moves.proofs.keeping.OneTask.{Replaces, shape_one, flight_one, frames_one}
use Rattle.vch_moves.proofs.keeping.Counts.{still_key}
use Rattle.vch_moves.proofs.keeping.Idle.{idle_receipts, idle_claims}

-- the parts after such a step
abbrev pub shared_parts : Plain → ℕ → Part → Option Entry → Keyed KeyParts → Plain
shared_parts c t x o keyed = record (stepped c t x o) { keyed = keyed }

pub record SharedStep (sc : Scenario) (c : Plain) (m : Machine) (t : ℕ) (x : Part) (y : Tasked) (o : Option Entry) (keyed : Keyed KeyParts) (more : Key → Option ℕ) : Type 0 where
  pub positive : 0 < t
  pub inside : t - 1 < length c.tasks
  pub idle_old : IsIdle (part_of c t).frame
  pub idle_new : IsIdle x.frame
  pub keeps : Keeps c.keyed keyed
  pub shared : (k : Key) → Shared k (more k) c (shared_parts c t x o keyed) m
  pub own : IsTask keyed x y
  pub limit : x.limit ≡ (part_of c t).limit
  pub holders : (k : Key) (h : ℕ) → count h (frame_holds k y.frame) + known_in k h (vouchers_in (set_task m.tasks t y)) ≡ count h (listed (more k)) + (count h (frame_holds k (tasked m t).frame) + known_in k h (vouchers_in m.tasks))
  pub quiet : IsQuiet sc m.past o
  pub room : length (option_to_list o) ≤ c.spare

module _ (sc : Scenario) (c : Plain) (m : Machine) (t : ℕ) (x : Part) (y : Tasked) (o : Option Entry) (keyed : Keyed KeyParts) (more : Key → Option ℕ) (s : StandsFor sc c m) (step : SharedStep sc c m t x y o keyed more) where
  abbrev d : Plain
  d = shared_parts c t x o keyed

  abbrev n : Machine
  n = machine_stepped m t y o

  replaces : Replaces c d m n t x y
  replaces = record { positive = step.positive; inside = step.inside; parts = refl; tasks = refl }

  flight : (k : Key) → SameFlight k c d m n
  flight k = flight_one sc c d m n t x y s.shape replaces k
      (idle_receipts k x.frame step.idle_new ∙ sym (idle_receipts k (part_of c t).frame step.idle_old))
      (idle_claims keyed k x.frame y.frame step.own.frame step.idle_new ∙ sym (idle_claims c.keyed k (part_of c t).frame (tasked m t).frame (s.shape.tasks t step.positive step.inside).frame step.idle_old))

  holders : (k : Key) (h : ℕ) → held_in k h n.tasks ≡ count h (listed (more k)) + held_in k h m.tasks
  holders k h = sums (frames_in k h n.tasks) (known_in k h (vouchers_in n.tasks)) (frames_in k h m.tasks) (known_in k h (vouchers_in m.tasks)) (count h (frame_holds k y.frame)) (count h (frame_holds k (tasked m t).frame)) (count h (listed (more k)))
      (frames_one sc c d m n t x y s.shape replaces k h) (step.holders k h)
    where
      sums : (f2 v2 f v y_ z e : ℕ) → f2 + z ≡ f + y_ → y_ + v2 ≡ e + (z + v) → f2 + v2 ≡ e + (f + v)
      sums f2 v2 f v y_ z e p q = omega (arith, p, q)

  moved : Moved sc o c d m n
  moved = record {
    keyed = λ k. still_key k (more k) c d m n (step.shared k) (flight k) (holders k);
    live = refl;
    pools = refl;
    tally = refl;
    core_tally = refl;
    phase = refl;
    shape = shape_one sc c d m n t x y s.shape replaces step.keeps step.own step.limit;
    notes = record { past = refl; history = refl; spare = let r : length (option_to_list o) ≤ c.spare = step.room in omega (arith, r); quiet = step.quiet };
  }

  pub shared_stands : StandsFor sc (shared_parts c t x o keyed) (machine_stepped m t y o)
  shared_stands = moved_stands sc o c d m n s moved
