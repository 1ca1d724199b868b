-- Changes of tasks one after the other: between them the counts need not fit, and all else does.
use Rattle.std.proofs.Common.{◌≡◌, ℕ, ◌+◌, ◌-◌, ◌<◌, arith, sym, ◌∙◌, length, subst, Option, None}
use Rattle.vch_base.specs.declared.key.Key.{Key}
use Rattle.vch_base.specs.Managers.{count}
use Rattle.vch_base.specs.Tasks.{set_task}
use Rattle.vch_model.specs.declared.entry.Entry.{Entry}
use Rattle.vch_model.specs.declared.lists.Scenario.{Scenario}
use Rattle.vch_machine.specs.State.{Machine, Tasked, tasked}
use Rattle.vch_parts.specs.Plain.{Plain, Part, part_of}
use Rattle.vch_parts.specs.Shape.{IsTask, Shape}
use Rattle.vch_parts.specs.Pictures.{part_expects, both_claimed, task_holds}
use Rattle.vch_parts.specs.Stands.{StandsFor}
use Rattle.vch_parts.proofs.CallerLemmas.{Keeps}
use Rattle.vch_moves.specs.Known.{held_in, frames_in}
use Rattle.vch_moves.specs.Kept.{SameFlight, Notes}
use Rattle.vch_moves.specs.Steps.{IsIdle}
use Rattle.vch_moves.proofs.keeping.Keeping.{moved_stands}
use Rattle.vch_moves.proofs.keeping.OneTask.{Replaces, shape_one, flight_one, frames_one}
use Rattle.vch_moves.proofs.keeping.Counts.{still_key, not_shared}
use Rattle.vch_moves.proofs.keeping.Idle.{idle_receipts, idle_claims}

-- nothing changed but tasks and the history, and the tasks agree
pub record Between (sc : Scenario) (c d : Plain) (m n : Machine) : Type 0 where
  pub keyed : d.keyed ≡ c.keyed
  pub live : n.live ≡ m.live
  pub pools : n.pools ≡ m.pools
  pub tally : n.tally ≡ m.tally
  pub core_tally : d.tally ≡ c.tally
  pub phase : d.phase ≡ c.phase
  pub shape : Shape sc d n
  pub flight : (k : Key) → SameFlight k c d m n

-- one task is another, with the same receipt and claim in hand
pub record Replaced (c : Plain) (m : Machine) (t : ℕ) (x : Part) (y : Tasked) : Type 0 where
  pub positive : 0 < t
  pub inside : t - 1 < length c.tasks
  pub own : IsTask c.keyed x y
  pub limit : x.limit ≡ (part_of c t).limit
  pub receipts : (k : Key) → part_expects k x ≡ part_expects k (part_of c t)
  pub claims : (k : Key) → both_claimed k (record { part = x; task = y }) ≡ both_claimed k (record { part = part_of c t; task = tasked m t })

-- with nothing in hand before and after
pub idle_replaced : (sc : Scenario) (c : Plain) (m : Machine) (t : ℕ) (x : Part) (y : Tasked) → Shape sc c m → 0 < t → t - 1 < length c.tasks → IsTask c.keyed x y → x.limit ≡ (part_of c t).limit → IsIdle (part_of c t).frame → IsIdle x.frame → Replaced c m t x y
idle_replaced sc c m t x y s positive inside own limit old new = record {
  positive = positive;
  inside = inside;
  own = own;
  limit = limit;
  receipts = λ k. idle_receipts k x.frame new ∙ sym (idle_receipts k (part_of c t).frame old);
  claims = λ k. idle_claims c.keyed k x.frame y.frame own.frame new ∙ sym (idle_claims c.keyed k (part_of c t).frame (tasked m t).frame (s.tasks t positive inside).frame old);
}

module _ (sc : Scenario) (c d : Plain) (m n : Machine) (t : ℕ) (x : Part) (y : Tasked) (s : Shape sc c m) (r : Replaced c m t x y)
    (parts : d.tasks ≡ set_task c.tasks t x) (tasks : n.tasks ≡ set_task m.tasks t y) where
  replaces : Replaces c d m n t x y
  replaces = record { positive = r.positive; inside = r.inside; parts = parts; tasks = tasks }

  pub replaced_between : d.keyed ≡ c.keyed → n.live ≡ m.live → n.pools ≡ m.pools → n.tally ≡ m.tally → d.tally ≡ c.tally → d.phase ≡ c.phase → Between sc c d m n
  replaced_between keyed live pools tally core_tally phase = record {
    keyed = keyed;
    live = live;
    pools = pools;
    tally = tally;
    core_tally = core_tally;
    phase = phase;
    shape = shape_one sc c d m n t x y s replaces (subst (Keeps c.keyed) (sym keyed) (λ k i h e. e)) (subst (λ z. IsTask z x y) (sym keyed) r.own) r.limit;
    flight = λ k. flight_one sc c d m n t x y s replaces k (r.receipts k) (r.claims k);
  }

  pub replaced_frames : (k : Key) (h : ℕ) → frames_in k h n.tasks + count h (task_holds k (tasked m t)) ≡ frames_in k h m.tasks + count h (task_holds k y)
  replaced_frames k h = frames_one sc c d m n t x y s replaces k h

pub then_between : (sc : Scenario) (c d e : Plain) (m n o : Machine) → Between sc c d m n → Between sc d e n o → Between sc c e m o
then_between sc c d e m n o a b = record {
  keyed = b.keyed ∙ a.keyed;
  live = b.live ∙ a.live;
  pools = b.pools ∙ a.pools;
  tally = b.tally ∙ a.tally;
  core_tally = b.core_tally ∙ a.core_tally;
  phase = b.phase ∙ a.phase;
  shape = b.shape;
  flight = λ k. record { receipts = (b.flight k).receipts ∙ (a.flight k).receipts; claims = (b.flight k).claims ∙ (a.flight k).claims };
}

-- in the end each handle has as many holders
pub between_stands : (sc : Scenario) (o : Option Entry) (c d : Plain) (m n : Machine) → StandsFor sc c m → Between sc c d m n → Notes sc o c d m n → ((k : Key) (h : ℕ) → held_in k h n.tasks ≡ held_in k h m.tasks) → StandsFor sc d n
between_stands sc o c d m n s b notes held = moved_stands sc o c d m n s (record {
  keyed = λ k. still_key k None c d m n (not_shared sc k c d m s b.keyed) (b.flight k) (λ h. held k h ∙ zero_first (held_in k h m.tasks));
  live = b.live;
  pools = b.pools;
  tally = b.tally;
  core_tally = b.core_tally;
  phase = b.phase;
  shape = b.shape;
  notes = notes;
})
  where
    zero_first : (n : ℕ) → n ≡ 0 + n
    zero_first n = omega arith
