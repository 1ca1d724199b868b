-- What is due on live values changes, and an entry is noted with which the history adds up so: the parts stand for the state with
-- the entry.
use Rattle.std.proofs.Common.{◌≡◌, ℕ, ◌+◌, ◌-◌, ◌≤◌, Bool, List, [], ◌∷◌, ◌++◌, refl, arith, sym, ap, ◌∙◌, subst, length, reverse, Option, Some, None}
use Rattle.std.proofs.lemmas.Grind.{common_steps}
use Rattle.vch_base.specs.declared.key.Key.{Key}
use Rattle.vch_base.specs.declared.key.Key.TheVariants as keys
use Rattle.vch_base.specs.declared.places.Live.{Live}
use Rattle.vch_base.specs.Keyed.{Keyed, of_key}
use Rattle.vch_base.specs.Managers.{Kept, live_at}
use Rattle.vch_entry.specs.declared.table.Entry as entry
use Rattle.vch_entry.specs.Entries.{Entries, handle_at, made_of, entry_at}
use Rattle.vch_value.specs.Picture.{Picture, Claimed, AgreesAt, AreMarked, Depicts}
use Rattle.vch_model.specs.declared.entry.Entry.{Entry}
use Rattle.vch_model.specs.declared.lists.Scenario.{Scenario}
use Rattle.vch_model.specs.Lines.{phases_in}
use Rattle.vch_machine.specs.Frames.{noted}
use Rattle.vch_machine.specs.State.{Living, Machine, tasked, living_at}
use Rattle.vch_bounds.specs.Rooms.{room_of, made_in}
use Rattle.vch_frame.specs.Living.{IsLiving}
use Rattle.vch_values.specs.Parts.{KeyParts, asked_in, number_at}
use Rattle.vch_values.proofs.CallerLemmas.{over_keys}
use Rattle.vch_parts.specs.Plain.{Plain, part_of}
use Rattle.vch_parts.specs.Pictures.{picture_of}
use Rattle.vch_parts.specs.Stands.{StandsFor, KeyStands}
use Rattle.vch_parts.proofs.CallerLemmas.{Keeps, task_stays}
use Rattle.vch_replies.specs.Left.{AddsUp}

-- the same value with the same made count is live, or none is
abbrev pub SameLive : Option Live → Option Live → Type 0
SameLive None None = Unit {0}
SameLive (Some a) (Some b) = (b.value ≡ a.value) × (b.made ≡ a.made)
SameLive a b = ⊥

-- at a key all is as it was but what is due, and the ledgers
pub record SameButDues (a b : KeyParts) : Type 0 where
  pub entries : b.entries ≡ a.entries
  pub numbers : b.numbers ≡ a.numbers
  pub free : b.kept.free ≡ a.kept.free
  pub long : length b.kept.slots ≡ length a.kept.slots
  pub rules : b.kept.rules ≡ a.kept.rules
  pub asked : b.kept.asked ≡ a.kept.asked
  pub live : (h : ℕ) → SameLive (live_at a.kept.slots h) (live_at b.kept.slots h)

still_living : (n : ℕ) (a b : Option Live) (z : Option Living) → SameLive a b → IsLiving n a z → IsLiving n b z
still_living n None None z s i = i
still_living n None (Some b) z s i = absurd s
still_living n (Some a) None z s i = absurd s
still_living n (Some a) (Some b) None s i = absurd i
still_living n (Some a) (Some b) (Some z) s i = (s.0 ∙ i.0, i.1)

marked_still : (n : ℕ) (flags : List Bool) (a : Live) (due : ℕ) (e : Option entry.Entry) (cs : List Claimed) → AreMarked n flags (Some a) e cs → AreMarked n flags (Some (record a { due = due })) e cs
marked_still n flags a due e [] m = tt
marked_still n flags a due e (c ∷ cs) m = record { raced = m.raced; back = m.back; unheld = m.unheld; refused = m.refused }

agrees_with : (n : ℕ) (flags : List Bool) (cs : List Claimed) (a : Live) (due : ℕ) (e : Option entry.Entry) → AgreesAt n flags cs (Some a) e → AgreesAt n flags cs (Some (record a { due = due })) e
agrees_with n flags cs a due e g = by e g
  where
    by : (e : Option entry.Entry) → AgreesAt n flags cs (Some a) e → AgreesAt n flags cs (Some (record a { due = due })) e
    by None g = record { refs = g.refs; persist = g.persist; kept = tt; claimed = g.claimed; counted = g.counted; dead = tt; marked = marked_still n flags a due None cs g.marked }
    by (Some x) g = record { refs = g.refs; persist = g.persist; kept = g.kept; claimed = g.claimed; counted = g.counted; dead = tt; marked = marked_still n flags a due (Some x) cs g.marked }

agrees_still : (n : ℕ) (flags : List Bool) (cs : List Claimed) (a b : Option Live) (e : Option entry.Entry) → SameLive a b → AgreesAt n flags cs a e → AgreesAt n flags cs b e
agrees_still n flags cs None None e s g = g
agrees_still n flags cs None (Some b) e s g = absurd s
agrees_still n flags cs (Some a) None e s g = absurd s
agrees_still n flags cs (Some a) (Some b) e s g = subst (λ x. AgreesAt n flags cs (Some x) e) (same a b s) (agrees_with n flags cs a b.due e g)
  where
    same : (a b : Live) → (b.value ≡ a.value) × (b.made ≡ a.made) → record a { due = b.due } ≡ b
    same a b s = rw (s.0, s.1) refl

depicts_still : (p : Picture) (e : Entries) (a b : Kept) → ((h : ℕ) → SameLive (live_at a.slots h) (live_at b.slots h)) → Depicts p e a → Depicts p e b
depicts_still p e a b s d = record { at = λ h. agrees_still _ _ _ (live_at a.slots h) (live_at b.slots h) _ (s h) (d.at h); room = d.room }

module _ (sc : Scenario) (c : Plain) (m : Machine) (s : StandsFor sc c m) (y : Keyed KeyParts) (e : Entry)
    (same : (k : Key) → SameButDues (of_key k c.keyed) (of_key k y)) (adds : AddsUp sc (e ∷ m.past) y)
    (phases : phases_in (e ∷ m.past) ≡ phases_in m.past) (made : made_in (e ∷ m.past) ≡ made_in m.past) (room : 1 ≤ c.spare) where
  abbrev d : Plain
  d = record c { keyed = y; history = c.history ++ e ∷ []; spare = c.spare - 1 }

  keys_still : (k : Key) → KeyStands sc k d (noted m e)
  keys_still k =
      let w = s.keyed k in
      let z = same k in
      record {
        living = λ h. subst (λ ns. IsLiving (number_at ns h) (live_at (of_key k y).kept.slots h) (living_at m.live (record { key = k; handle = h }))) (sym z.numbers)
            (still_living (number_at (of_key k c.keyed).numbers h) (live_at (of_key k c.keyed).kept.slots h) (live_at (of_key k y).kept.slots h) (living_at m.live (record { key = k; handle = h })) (z.live h) (w.living h));
        free = z.free ∙ w.free;
        used = z.long ∙ w.used;
        rules = z.rules ∙ w.rules;
        dues = λ h l there. adds.dues k h l there;
        counts = subst (λ es. Depicts (picture_of k c m) es (of_key k y).kept) (sym z.entries) (depicts_still (picture_of k c m) (of_key k c.keyed).entries (of_key k c.keyed).kept (of_key k y).kept z.live w.counts);
        made = λ i. subst (λ (es : Entries). made_of (entry_at es.slots i) ≤ m.tally.refers) (sym z.entries) (w.made i);
      }

  keeps : Keeps c.keyed y
  keeps k i h there = ap (λ (es : Entries). handle_at es.slots i) (same k).entries ∙ there

  asked_still : asked_in y ≡ asked_in c.keyed
  asked_still = over_keys (λ k. (of_key k y).kept.asked) ∙ four _ _ _ _ _ _ _ _ (same keys.Importance).asked (same keys.Bank).asked (same keys.User).asked (same keys.Test).asked ∙ sym (over_keys (λ k. (of_key k c.keyed).kept.asked))
    where
      four : (a b d e i j k l : ℕ) → a ≡ i → b ≡ j → d ≡ k → e ≡ l → a + b + d + e ≡ i + j + k + l
      four a b d e i j k l p q r s = rw (p, q, r, s) refl

  reversed : (x : Entry) (xs ys : List Entry) → ys ≡ reverse xs → ys ++ x ∷ [] ≡ reverse (x ∷ xs)
  reversed x xs ys q = rw q (grind (arith, common_steps))

  room_still : room_of sc (e ∷ m.past) ≤ length (e ∷ m.past) + (c.spare - 1)
  room_still =
      let a : room_of sc (e ∷ m.past) ≡ room_of sc m.past = rw made refl in
      let b : room_of sc m.past ≤ length m.past + c.spare = s.room in
      omega (arith, a, b, room)

  pub noted_stands : StandsFor sc (record c { keyed = y; history = c.history ++ e ∷ []; spare = c.spare - 1 }) (noted m e)
  noted_stands = record {
    keyed = keys_still;
    ledgers = adds.ledgers;
    shape = record {
      long = s.shape.long;
      tasks = λ t p i. task_stays c.keyed y keeps (part_of c t) (tasked m t) (s.shape.tasks t p i);
      limits = s.shape.limits;
    };
    history = reversed e m.past c.history s.history;
    phase = s.phase ∙ sym phases;
    tally = s.tally;
    asked = s.asked ∙ sym asked_still;
    room = room_still;
  }
