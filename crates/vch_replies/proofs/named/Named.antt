-- The voucher of a name has the same values in the parts and in the store.
use Rattle.std.proofs.Common.{◌≡◌, ℕ, ◌-◌, ◌<◌, Bool, true, false, List, [], ◌∷◌, length, refl, arith, sym, ap, ◌∙◌, Option, Some, None}
use Rattle.std.specs.Prelude.{◌==◌, if◌then◌else◌}
use Rattle.std.specs.Option.{option_map}
use Rattle.vch_base.specs.declared.key.Key.{Key}
use Rattle.vch_base.specs.declared.key.Key.TheVariants as keys
use Rattle.vch_base.specs.declared.places.Live.{Live}
use Rattle.vch_base.specs.Keyed.{of_key, tabled}
use Rattle.vch_base.specs.Managers.{live_at, value_of}
use Rattle.vch_model.specs.declared.lists.Scenario.{Scenario}
use Rattle.vch_model.specs.Totals.{named_voucher}
use Rattle.vch_model.specs.Voucher as model
use Rattle.vch_machine.specs.Naming.{handles_of}
use Rattle.vch_machine.specs.State as machine
use Rattle.vch_machine.specs.State.{Handles, Living, Machine, living_at, value_at, valued, valued_option, tasked, seen}
use Rattle.vch_legal.proofs.CallerLemmas.{names_seen, voucher_seen}
use Rattle.vch_frame.specs.Pairs.{Optional, Pairwise}
use Rattle.vch_frame.specs.Indices.{index_of}
use Rattle.vch_frame.specs.Living.{IsLiving}
use Rattle.vch_frame.proofs.CallerLemmas.{task_number}
use Rattle.vch_values.specs.Parts.{number_at}
use Rattle.vch_vouchers.specs.Desks.{Voucher, Named, voucher_of}
use Rattle.vch_parts.specs.Plain.{Plain, part_of}
use Rattle.vch_parts.specs.Shape.{IsIndexOf, IsMap, IsName, IsTask}
use Rattle.vch_parts.specs.Stands.{StandsFor}
use Rattle.vch_replies.specs.Begins.{Begins}
use Rattle.vch_replies.specs.Told.{handle_in, live_in, live_of, values_of, values_by}

-- what each key has makes a table
pub tables_same : {A : Type 0} (f g : Key → A) → ((k : Key) → f k ≡ g k) → tabled f ≡ tabled g
tables_same f g h = rw (h keys.Importance, h keys.Bank, h keys.User, h keys.Test) refl

-- what a table has at a key
pub at_table : {A : Type 0} (f : Key → A) (k : Key) → of_key k (tabled f) ≡ f k
at_table f keys.Importance = refl
at_table f keys.Bank = refl
at_table f keys.User = refl
at_table f keys.Test = refl

-- what a voucher has at a key
pub map_at : (c : Plain) (k : Key) (v : Voucher) (w : Handles) → IsMap c.keyed v w → Optional (IsIndexOf c.keyed k) (index_of k v) (of_key k w)
map_at c keys.Importance v w p = p.0.0
map_at c keys.Bank v w p = p.0.1.0
map_at c keys.User v w p = p.0.1.1.0
map_at c keys.Test v w p = p.0.1.1.1.0

-- the task is one of the parts
pub inside : (sc : Scenario) (c : Plain) (m : Machine) (t : ℕ) → Begins sc c m t → (0 < t) × (t - 1 < length c.tasks)
inside sc c m t b =
    let n = task_number sc t b.task in
    let long : length c.tasks ≡ length m.tasks = b.stands.shape.long in
    let flags : length m.tasks ≡ length sc.flags = b.ties.fits.tasks in
    (omega (arith, n.0), omega (arith, n.0, n.1, long, flags))

pub task_here : (sc : Scenario) (c : Plain) (m : Machine) (t : ℕ) → Begins sc c m t → IsTask c.keyed (part_of c t) (tasked m t)
task_here sc c m t b = let i = inside sc c m t b in b.stands.shape.tasks t i.0 i.1

module _ (sc : Scenario) (c : Plain) (m : Machine) (s : StandsFor sc c m) where
  living_value : (n : ℕ) (l : Option Live) (a : Option Living) → IsLiving n l a → value_of l ≡ machine.value_of a
  living_value n None None e = refl
  living_value n (Some l) (Some a) e = ap Some e.0
  living_value n None (Some a) e = absurd e
  living_value n (Some l) None e = absurd e

  -- the value at an index is the one at its handle
  pub value_here : (k : Key) (i h : Option ℕ) → Optional (IsIndexOf c.keyed k) i h
      → value_of (live_in (of_key k c.keyed) (handle_in (of_key k c.keyed) i)) ≡ value_at m.live k h
  value_here k None None e = refl
  value_here k (Some i) (Some h) e = ap (λ g. value_of (live_in (of_key k c.keyed) g)) e
      ∙ living_value (number_at (of_key k c.keyed).numbers h) (live_at (of_key k c.keyed).kept.slots h)
      (living_at m.live (record { key = k; handle = h })) ((s.keyed k).living h)
  value_here k None (Some h) e = absurd e
  value_here k (Some i) None e = absurd e

  pub values_here : (v : Voucher) (w : Handles) → IsMap c.keyed v w → values_of c.keyed v ≡ valued m.live w
  values_here v w p = tables_same (λ k. value_of (live_of c.keyed k v)) (λ k. value_at m.live k (of_key k w))
      (λ k. value_here k (index_of k v) (of_key k w) (map_at c k v w p))

  names_here : (name : ℕ) (ns : List Named) (os : List machine.Named) → Pairwise (IsName c.keyed) ns os
      → option_map (values_of c.keyed) (voucher_of ns name) ≡ valued_option m.live (handles_of os name)
  names_here name [] [] p = refl
  names_here name [] (o ∷ os) p = absurd p
  names_here name (n ∷ ns) [] p = absurd p
  names_here name (n ∷ ns) (o ∷ os) p =
      ap (λ a. option_map (values_of c.keyed) (if a == name then Some n.voucher else voucher_of ns name)) p.0.0
      ∙ by_test (o.name == name) (values_here n.voucher o.voucher p.0.2) (names_here name ns os p.1)
    where
      by_test : (b : Bool) → values_of c.keyed n.voucher ≡ valued m.live o.voucher
          → option_map (values_of c.keyed) (voucher_of ns name) ≡ valued_option m.live (handles_of os name)
          → option_map (values_of c.keyed) (if b then Some n.voucher else voucher_of ns name)
          ≡ valued_option m.live (if b then Some o.voucher else handles_of os name)
      by_test true e i = ap Some e
      by_test false e i = i

-- the values of the voucher that the task names are those that the store has there
pub named_here : (sc : Scenario) (c : Plain) (m : Machine) (t name : ℕ) → Begins sc c m t → named_voucher (seen m) t name ≡ values_by c t name
named_here sc c m t name b =
    ap (λ (f : ℕ → Option model.Voucher). f name) (names_seen m t) ∙ voucher_seen m.live (tasked m t).names name
    ∙ sym (names_here sc c m b.stands name (part_of c t).names (tasked m t).names (task_here sc c m t b).names)
