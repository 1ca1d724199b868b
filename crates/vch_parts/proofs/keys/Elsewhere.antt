-- What an event changes at one key leaves what stands at every other.
use Rattle.std.proofs.Common.{◌≡◌, ℕ, ◌≤◌, arith, sym, ◌∙◌, subst, Some}
use Rattle.vch_base.specs.declared.key.Key.{Key}
use Rattle.vch_base.specs.declared.places.Live.{Live}
use Rattle.vch_base.specs.declared.value.Value.{Value}
use Rattle.vch_base.specs.Keyed.{of_key}
use Rattle.vch_base.specs.Managers.{live_at}
use Rattle.vch_entry.specs.Entries.{entry_at, made_of}
use Rattle.vch_model.specs.declared.lists.Scenario.{Scenario}
use Rattle.vch_machine.specs.State.{Machine, living_at}
use Rattle.vch_legal.specs.ValueAmounts.{amount_of}
use Rattle.vch_values.specs.Parts.{KeyParts}
use Rattle.vch_parts.specs.Plain.{Plain}
use Rattle.vch_parts.specs.Pictures.{picture_of}
use Rattle.vch_parts.specs.Stands.{KeyStands}

-- nothing of a key is changed: its parts, its live values and free handles, its picture, and what the history adds up
pub record SameKey (sc : Scenario) (q : Key) (c d : Plain) (m n : Machine) : Type 0 where
  pub parts : of_key q d.keyed ≡ of_key q c.keyed
  pub pools : of_key q n.pools ≡ of_key q m.pools
  pub living : (h : ℕ) → living_at n.live (record { key = q; handle = h }) ≡ living_at m.live (record { key = q; handle = h })
  pub shown : picture_of q d n ≡ picture_of q c m
  pub refers : m.tally.refers ≤ n.tally.refers
  pub amounts : (x : Value) → amount_of sc n.past x ≡ amount_of sc m.past x

pub elsewhere : (sc : Scenario) (q : Key) (c d : Plain) (m n : Machine) → SameKey sc q c d m n → KeyStands sc q c m → KeyStands sc q d n
elsewhere sc q c d m n same s = record {
  living = λ h. rw (same.parts, same.living h) (s.living h);
  free = rw (same.parts, same.pools) s.free;
  used = rw (same.parts, same.pools) s.used;
  rules = rw same.parts s.rules;
  dues = λ h l e. due h l (subst (λ (x : KeyParts). live_at x.kept.slots h ≡ Some l) same.parts e);
  counts = rw (same.parts, same.shown) s.counts;
  made = λ i. rw same.parts (more (made_of (entry_at (of_key q c.keyed).entries.slots i)) (s.made i));
}
  where
    due : (h : ℕ) (l : Live) → live_at (of_key q c.keyed).kept.slots h ≡ Some l → l.due ≡ amount_of sc n.past l.value
    due h l e = s.dues h l e ∙ sym (same.amounts l.value)

    more : (a : ℕ) → a ≤ m.tally.refers → a ≤ n.tally.refers
    more a l = let r : m.tally.refers ≤ n.tally.refers = same.refers in omega (arith, l, r)
