-- When the parts of a core stand for a state of the event machine.
use Rattle.std.specs.Prelude.{◌≡◌, ℕ, ◌+◌, ◌≤◌, List, length, reverse, Some, true}
use Rattle.vch_base.specs.declared.key.Key.{Key}
use Rattle.vch_base.specs.declared.places.Live.{Live}
use Rattle.vch_base.specs.Keyed.{of_key}
use Rattle.vch_base.specs.Managers.{live_at}
use Rattle.vch_base.specs.Tasks.{at_task}
use Rattle.vch_entry.specs.Entries.{entry_at, made_of}
use Rattle.vch_value.specs.Picture as picture
use Rattle.vch_model.specs.declared.entry.Entry.{Entry}
use Rattle.vch_model.specs.declared.lists.Scenario.{Scenario}
use Rattle.vch_model.specs.Lines.{phases_in, is_task}
use Rattle.vch_model.specs.Totals.{ledger}
use Rattle.vch_machine.specs.State.{Machine, living_at}
use Rattle.vch_legal.specs.ValueAmounts.{amount_of}
use Rattle.vch_bounds.specs.Rooms.{room_of}
use Rattle.vch_frame.specs.Tallies.{SameTally}
use Rattle.vch_frame.specs.Living.{IsLiving}
use Rattle.vch_values.specs.Parts.{number_at, rules_at, asked_in}
use Rattle.vch_parts.specs.Plain.{Plain}
use Rattle.vch_parts.specs.Shape.{Shape}
use Rattle.vch_parts.specs.Pictures.{picture_of}

-- One key: the manager's live values are the machine's, with the numbers of their Made entries; so are the free handles and how
-- many were ever used; the manager has the key's rules, and on each live value is due what the history adds up for it. Who holds
-- what fits the entries and the made counts. Each made count is of references that were taken
pub record KeyStands (sc : Scenario) (k : Key) (c : Plain) (m : Machine) : Type 0 where
  pub living : (h : ℕ) → IsLiving (number_at (of_key k c.keyed).numbers h) (live_at (of_key k c.keyed).kept.slots h) (living_at m.live (record { key = k; handle = h }))
  pub free : (of_key k c.keyed).kept.free ≡ (of_key k m.pools).free
  pub used : length (of_key k c.keyed).kept.slots ≡ (of_key k m.pools).used
  pub rules : (of_key k c.keyed).kept.rules ≡ rules_at k sc.flags
  pub dues : (h : ℕ) (l : Live) → live_at (of_key k c.keyed).kept.slots h ≡ Some l → l.due ≡ amount_of sc m.past l.value
  pub counts : picture.Depicts (picture_of k c m) (of_key k c.keyed).entries (of_key k c.keyed).kept
  pub made : (i : ℕ) → made_of (entry_at (of_key k c.keyed).entries.slots i) ≤ m.tally.refers

-- the bank has a ledger for each task, with what the history adds up for it
pub record Ledgers (sc : Scenario) (past : List Entry) (ledgers : List ℕ) : Type 0 where
  pub long : length ledgers ≡ length sc.flags
  pub each : (t : ℕ) → is_task sc t ≡ true → at_task ledgers t 0 ≡ ledger sc past t

-- The whole. The questions are those that all managers were asked
pub record StandsFor (sc : Scenario) (c : Plain) (m : Machine) : Type 0 where
  pub keyed : (k : Key) → KeyStands sc k c m
  pub ledgers : Ledgers sc m.past c.keyed.bank.kept.ledgers
  pub shape : Shape sc c m
  pub history : c.history ≡ reverse m.past
  pub phase : c.phase ≡ phases_in m.past
  pub tally : SameTally c.tally m.tally
  pub asked : c.tally.asks ≡ asked_in c.keyed
  pub room : room_of sc m.past ≤ length m.past + c.spare
