-- With more room, the parts stand for what they stood for.
use Rattle.std.proofs.Common.{◌≡◌, ℕ, ◌+◌, ◌≤◌, arith, sym, ap, ◌∙◌, subst}
use Rattle.vch_base.specs.declared.key.Key.{Key}
use Rattle.vch_base.specs.declared.key.Key.TheVariants as keys
use Rattle.vch_base.specs.Keyed.{Keyed, of_key}
use Rattle.vch_base.specs.Managers.{Kept, count, live_at}
use Rattle.vch_entry.specs.Entries.{Entries, handle_at}
use Rattle.vch_value.specs.Picture as picture
use Rattle.vch_value.specs.Picture.{Picture, AgreesAt, flags_at, claims_at, entry_of}
use Rattle.vch_model.specs.declared.lists.Scenario.{Scenario}
use Rattle.vch_machine.specs.State.{Machine, tasked}
use Rattle.vch_bounds.specs.Bounded.{Limited}
use Rattle.vch_values.specs.Parts.{KeyParts}
use Rattle.vch_values.proofs.CallerLemmas.{over_keys}
use Rattle.vch_parts.specs.declared.parts.Parts.{Parts}
use Rattle.vch_parts.specs.Plain.{Plain, part_of}
use Rattle.vch_parts.specs.Shape.{Shape}
use Rattle.vch_parts.specs.Stands.{StandsFor, KeyStands}
use Rattle.vch_parts.specs.Reached.{plain_of, IsState, IsEnd, Reached, Stands}
use Rattle.vch_parts.proofs.CallerLemmas.{Keeps, task_stays}
use Rattle.vch_making.specs.Given.{RoomierKey, IsRoomier}

-- entries with more places fit what they fitted
more_places : (p : Picture) (old new : Entries) (kept : Kept) → new.slots ≡ old.slots → old.spare ≤ new.spare → picture.Depicts p old kept → picture.Depicts p new kept
more_places p old new kept e l s = record {
  at = λ h. subst (λ slots. AgreesAt (count h p.holders) (flags_at h p.receipts) (claims_at h p.claims) (live_at kept.slots h) (entry_of slots h)) (sym e) (s.at h);
  room = let r = s.room in omega (arith, r, l);
}

module _ (sc : Scenario) (c : Plain) (m : Machine) (x : Keyed KeyParts) (spare : ℕ) (room : c.spare ≤ spare)
    (keyed : (k : Key) → RoomierKey (of_key k c.keyed) (of_key k x)) (s : StandsFor sc c m) where
  abbrev pub d : Plain
  d = record c { keyed = x; spare = spare }

  stable : Keeps c.keyed x
  stable q i h e = ap (λ slots. handle_at slots i) (keyed q).slots ∙ e

  shape_after : Shape sc d m
  shape_after = record {
    long = s.shape.long;
    tasks = λ u p i. task_stays c.keyed x stable (part_of c u) (tasked m u) (s.shape.tasks u p i);
    limits = s.shape.limits;
  }

  key_after : (k : Key) → KeyStands sc k d m
  key_after k = let r : RoomierKey (of_key k c.keyed) (of_key k x) = keyed k in let z : KeyStands sc k c m = s.keyed k in record {
    living = λ h. rw (r.numbers h, r.kept) (z.living h);
    free = rw r.kept z.free;
    used = rw r.kept z.used;
    rules = rw r.kept z.rules;
    dues = rw r.kept z.dues;
    counts = rw r.kept (more_places _ (of_key k c.keyed).entries (of_key k x).entries (of_key k c.keyed).kept r.slots r.places z.counts);
    made = λ i. rw r.slots (z.made i);
  }

  four : (a b d e a2 b2 d2 e2 : ℕ) → a ≡ a2 → b ≡ b2 → d ≡ d2 → e ≡ e2 → a + b + d + e ≡ a2 + b2 + d2 + e2
  four a b d e a2 b2 d2 e2 p q r s = omega (arith, p, q, r, s)

  pub roomier_stands : StandsFor sc d m
  roomier_stands = record {
    keyed = key_after;
    ledgers = rw (keyed keys.Bank).kept s.ledgers;
    shape = shape_after;
    history = s.history;
    phase = s.phase;
    tally = s.tally;
    asked = s.asked ∙ (over_keys (λ q. (of_key q c.keyed).kept.asked)
        ∙ four _ _ _ _ _ _ _ _ (as_asked keys.Importance) (as_asked keys.Bank) (as_asked keys.User) (as_asked keys.Test)
        ∙ sym (over_keys (λ q. (of_key q x).kept.asked)));
    room = let l = s.room in omega (arith, l, room);
  }
    where
      as_asked : (q : Key) → (of_key q c.keyed).kept.asked ≡ (of_key q x).kept.asked
      as_asked q = ap (λ (a : Kept). a.asked) (sym (keyed q).kept)

-- the same of parts
module _ (old new : Parts) (r : IsRoomier old new) where
  plain_is : plain_of new ≡ record (plain_of old) { keyed = new.values; spare = new.history.spare }
  plain_is = ap plain_of r.others ∙ ap (λ xs. record (plain_of old) { keyed = new.values; history = xs; spare = new.history.spare }) r.entries

  same_scenario : new.scenario ≡ old.scenario
  same_scenario = ap (λ (x : Parts). x.scenario) r.others

  pub roomier_state : (m : Machine) → Stands old m → Stands new m
  unfolding IsState
  roomier_state m st = subst (λ sc. IsState sc (plain_of new) m) (sym same_scenario)
      (st.0, st.1, subst (λ d. StandsFor old.scenario d m) (sym plain_is) (roomier_stands old.scenario (plain_of old) m new.values new.history.spare r.spare r.keyed st.2))

  pub roomier_reached : Reached old → Reached new
  unfolding IsEnd
  roomier_reached e = record {
    limited = subst (λ sc. Limited sc) (sym same_scenario) e.limited;
    end = (e.end.0, roomier_state e.end.0 e.end.1);
  }
