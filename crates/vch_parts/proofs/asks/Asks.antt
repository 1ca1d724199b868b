-- Ask keeps all that the parts stand for: where the manager agrees, the live value goes, its handle is free, a Released entry is
-- noted, and what was due on an account is credited to its holder.
use Rattle.std.proofs.Common.{◌≡◌, ◌≢◌, ℕ, zero, suc, ◌+◌, ◌*◌, ◌-◌, ◌<◌, ◌≤◌, not, Bool, true, false, List, [], ◌∷◌, ◌++◌, refl, arith, sym, ap, ◌∙◌, length, reverse, get_or, subst, Option, Some, None, inl, inr}
use Rattle.std.specs.Prelude.{if◌then◌else◌}
use Rattle.std.proofs.Math.ListN.{set}
use Rattle.std.proofs.lemmas.Bool.{cases_eq}
use Rattle.std.proofs.lemmas.List.{get_or-set_other, length-set}
use Rattle.std.proofs.lemmas.Grind.{common_steps}
use Rattle.vch_base.specs.Tasks.{set_task}
use Rattle.vch_base.specs.declared.key.Key.{Key}
use Rattle.vch_base.specs.declared.key.Key.TheVariants as keys
use Rattle.vch_base.specs.declared.places.Live.{Live}
use Rattle.vch_base.specs.declared.value.Value.{Value}
use Rattle.vch_base.specs.Keys.{same_key}
use Rattle.vch_base.specs.Keyed.{of_key}
use Rattle.vch_base.specs.Managers.{Kept, live_at, after_release, credited}
use Rattle.vch_base.specs.Values.{is_default}
use Rattle.vch_entry.specs.Entries as entry
use Rattle.vch_entry.specs.Entries.{handle_at, entry_at}
use Rattle.vch_value.specs.Flight as flight
use Rattle.vch_value.specs.Flight.{Asked}
use Rattle.vch_value.specs.Picture as picture
use Rattle.vch_value.specs.Picture.{Picture, Claimed, with_claims, default_of}
use Rattle.vch_model.specs.declared.entry.Entry.TheVariants as entries
use Rattle.vch_model.specs.declared.lists.Scenario.{Scenario}
use Rattle.vch_model.specs.Lines.{phases_in}
use Rattle.vch_machine.specs.State as machine
use Rattle.vch_machine.specs.State.{Place, same_place, Living, Pool, Machine, Tasked, tasked, living_at, without_place}
use Rattle.vch_machine.specs.Frames as frames
use Rattle.vch_machine.specs.Leaving.{released, do_ask, more_free, made_of, one_ask}
use Rattle.vch_legal.specs.Tie.{Ties}
use Rattle.vch_legal.specs.ValueAmounts.{amount_of}
use Rattle.vch_legal.proofs.CallerLemmas.{without_here, without_other, released_amount}
use Rattle.vch_frame.specs.declared.frame.Claiming.{Claiming}
use Rattle.vch_frame.specs.declared.frame.KeyIndex.{KeyIndex}
use Rattle.vch_frame.specs.Releases.{noted_release, less_room}
use Rattle.vch_frame.specs.Claims.{claimed}
use Rattle.vch_frame.specs.Living.{IsLiving}
use Rattle.vch_frame.proofs.CallerLemmas.{same_at}
use Rattle.vch_values.proofs.CallerLemmas.{of_with, same_key_refl}
use Rattle.vch_values.specs.Parts.{KeyParts, number_at, rules_at}
use Rattle.vch_parts.specs.declared.frame.Frame.{Frame}
use Rattle.vch_parts.specs.Plain.{Plain, part_of}
use Rattle.vch_parts.specs.Shape.{Shape, IsIndexOf, IsFrame, IsTask}
use Rattle.vch_parts.specs.Pictures.{picture_of}
use Rattle.vch_bounds.specs.Rooms.{room_of}
use Rattle.vch_bounds.proofs.CallerLemmas.{room_grows}
use Rattle.vch_parts.specs.Stands.{StandsFor, KeyStands, Ledgers}
use Rattle.vch_parts.specs.Moves.{was_asked}
use Rattle.vch_parts.proofs.asks.Ledger.{ledgers_stay, bank_credits, not_holder}
use Rattle.vch_parts.proofs.asks.LiveValue.{at_place, found, in_store, value_belongs}
use Rattle.vch_parts.proofs.holders.Stable.{Keeps, task_stays, frame_stays}
use Rattle.vch_parts.proofs.framing.Replaced.{claims_before, claims_behind, shape_then, framed}
use Rattle.vch_parts.proofs.framing.FrameParts.{leaving_frame, leaving_machine}
use Rattle.vch_values.proofs.CallerLemmas.{key_cases}
use Rattle.vch_parts.proofs.keys.KeyCases.{each_key, other_with}
use Rattle.vch_parts.proofs.keys.Elsewhere.{SameKey, elsewhere}
use Rattle.vch_parts.proofs.keys.Entered.{kept_here, keeps_kept, asked_more}
use Rattle.vch_parts.proofs.claims.OneClaim as one

-- the state after the answer
abbrev pub asked_machine : Machine → ℕ → machine.Frame → machine.Claim → Bool → Machine
asked_machine m t g y b = frames.tallied one_ask (frames.with_frame (if b then released m y.place else m) t (Some (record g { claim = Some (record y { answer = Some b }) })))

pub asked_machine_is : (m : Machine) (t : ℕ) (g : machine.Frame) (y : machine.Claim) (b : Bool) → b ≡ not y.raced → do_ask m t g y ≡ asked_machine m t g y b
asked_machine_is m t g y b e = by y.raced e
  where
    by : (r : Bool) → b ≡ not r → frames.tallied one_ask (if r then frames.with_frame m t (Some (record g { claim = Some (record y { answer = Some false }) })) else frames.with_frame (released m y.place) t (Some (record g { claim = Some (record y { answer = Some true }) }))) ≡ asked_machine m t g y b
    by true q = rw q refl
    by false q = rw q refl

set_none : {A : Type 0} (xs : List (Option A)) (i : ℕ) → get_or (set xs i None) i None ≡ None
set_none [] i = refl
set_none (x ∷ xs) zero = refl
set_none (x ∷ xs) (suc i) = set_none xs i

one_behind : {A : Type 0} (x : A) (xs : List A) → reverse (x ∷ xs) ≡ reverse xs ++ x ∷ []
one_behind x xs = grind (arith, common_steps)

module _ (sc : Scenario) (c : Plain) (m : Machine) (t : ℕ) (positive : 0 < t) (inside : t - 1 < length c.tasks)
    (f : Frame) (ls : List KeyIndex) (g : machine.Frame) (rest : List Place) (k : Key) (h : ℕ) (raced back : Bool) (x : flight.Claim)
    (own : (part_of c t).frame ≡ Some (leaving_frame f ls (Claiming.Claimed k x)))
    (task : (tasked m t).frame ≡ Some (leaving_machine g rest (Some (record { place = at_place k h; raced = raced; back = back; answer = None }))))
    (index : IsIndexOf c.keyed k x.index h) (s : StandsFor sc c m) (ties : Ties sc m)
    (asked : Asked) (l : Live) (same_index : asked.index ≡ x.index) (same_sync : asked.sync ≡ x.sync)
    (alive : live_at (of_key k c.keyed).kept.slots h ≡ Some l) (plain : is_default l.value ≡ false) where
  abbrev y : machine.Claim
  y = record { place = at_place k h; raced = raced; back = back; answer = None }

  abbrev kp : KeyParts
  kp = of_key k c.keyed

  abbrev F2 : Frame
  F2 = leaving_frame f ls (Claiming.Answered k asked)

  abbrev y2 : machine.Claim
  y2 = record y { answer = Some asked.agreed }

  abbrev G2 : machine.Frame
  G2 = leaving_machine g rest (Some y2)

  abbrev kept2 : Kept
  kept2 = after_release kp.kept h asked.agreed

  abbrev number : ℕ
  number = number_at kp.numbers h

  abbrev pub then_parts : Plain
  then_parts = was_asked c t (leaving_frame f ls (Claiming.Claimed k x)) k number kept2 asked

  -- the machine after an answer, and the parts of it that matter
  abbrev after : Bool → Machine
  after b = asked_machine m t (leaving_machine g rest (Some y)) y b

  abbrev pub then_machine : Machine
  then_machine = after asked.agreed

  tasks_are : (b : Bool) → (after b).tasks ≡ set_task m.tasks t (framed (tasked m t) (Some (leaving_machine g rest (Some (record y { answer = Some b })))))
  tasks_are true = refl
  tasks_are false = refl

  tally_is : (b : Bool) → (after b).tally ≡ one_ask m.tally
  tally_is true = refl
  tally_is false = refl

  stable : Keeps c.keyed then_parts.keyed
  stable = keeps_kept c.keyed k kept2

  new_frame : IsFrame then_parts.keyed F2 G2
  new_frame =
      let u = frame_stays c.keyed then_parts.keyed stable _ _ (one.old_frame sc c m t positive inside f ls g rest (Claiming.Claimed k x) y own task s) in
      record { forming = u.forming; answered = u.answered; at_byte = u.at_byte; keys = u.keys; receipt = u.receipt; lets = u.lets; claim = (refl, subst (λ i. IsIndexOf then_parts.keyed k i h) (sym same_index) (stable k x.index h index), refl) }

  shape_after : Shape sc then_parts then_machine
  shape_after = shape_then sc c m t positive inside s.shape then_parts then_machine (Some F2) (Some G2) refl (tasks_are asked.agreed)
      (λ u n q i. task_stays c.keyed then_parts.keyed stable (part_of c u) (tasked m u) (s.shape.tasks u q i))
      (let z : IsTask then_parts.keyed (part_of c t) (tasked m t) = task_stays c.keyed then_parts.keyed stable (part_of c t) (tasked m t) (s.shape.tasks t positive inside) in
      record { names = z.names; next = z.next; queue = z.queue; begun = z.begun; frame = new_frame })

  abbrev pub P : Picture
  P = one.P sc c m t positive inside f ls g rest (Claiming.Claimed k x) y own task s

  abbrev pub own_claim : Claimed
  own_claim = claimed x.sync y

  abbrev pub answered_picture : Picture
  answered_picture = with_claims P (claims_before k c m t ++ picture.with_answer asked.agreed own_claim ∷ claims_behind k c m t)

  picture_after : picture_of k then_parts then_machine ≡ answered_picture
  picture_after =
      one.picture_after sc c m t positive inside f ls g rest (Claiming.Claimed k x) y own task s then_parts then_machine (Some F2) (Some G2) (Claiming.Answered k asked) (Some y2)
      refl (tasks_are asked.agreed) (λ q. refl) (λ q. refl) (λ q. refl)
      ∙ rw (same_key_refl k, same_sync) refl

  -- The value, where the manager agreed.

  past_is : (after true).past ≡ entries.Released number ∷ m.past
  past_is = found sc c m k h l s alive _ (λ a e v n. ap (λ o. entries.Released (made_of o) ∷ m.past) e ∙ ap (λ z. entries.Released z ∷ m.past) (sym n))

  amounts : (b : Bool) (z : Value) → amount_of sc (after b).past z ≡ amount_of sc m.past z
  amounts true z = released_amount sc m.past (made_of (living_at m.live (at_place k h))) z
  amounts false z = refl

  -- The key.

  abbrev Living_at : Bool → ℕ → Type 0
  Living_at b i = IsLiving (number_at kp.numbers i) (live_at (after_release kp.kept h b).slots i) (living_at (after b).live (at_place k i))

  gone : live_at (set kp.kept.slots h None) h ≡ None
  gone = set_none kp.kept.slots h

  others_live : (i : ℕ) → i ≢ h → live_at (set kp.kept.slots h None) i ≡ live_at kp.kept.slots i
  others_live i n = get_or-set_other kp.kept.slots h i None None n

  living : (b : Bool) (i : ℕ) → Living_at b i
  living false i = (s.keyed k).living i
  living true i = elim (cases_eq i h) [ inl e ↦ subst (Living_at true) (sym e) here | inr n ↦ there n ]
    where
      here : Living_at true h
      here = let z : living_at (without_place m.live (at_place k h)) (at_place k h) ≡ None = without_here m.live (at_place k h) in rw (gone, z) tt

      there : i ≢ h → Living_at true i
      there n =
          let z : living_at (without_place m.live (at_place k h)) (at_place k i) ≡ living_at m.live (at_place k i) = without_other m.live (at_place k h) (at_place k i) (same_at k h i n) in
          rw (others_live i n, z) ((s.keyed k).living i)

  dues : (b : Bool) (i : ℕ) (a : Live) → live_at (after_release kp.kept h b).slots i ≡ Some a → a.due ≡ amount_of sc (after b).past a.value
  dues false i a e = (s.keyed k).dues i a e
  dues true i a e = elim (cases_eq i h) [
    | inl same ↦ absurd (let z : None ≡ Some a = sym (ap (λ j. live_at (set kp.kept.slots h None) j) same ∙ gone) ∙ e in cc)
    | inr n ↦ (s.keyed k).dues i a (sym (others_live i n) ∙ e) ∙ sym (amounts true a.value)
  ]

  free : (b : Bool) → (after_release kp.kept h b).free ≡ (of_key k (after b).pools).free
  free false = (s.keyed k).free
  free true = rw (of_with k (more_free (of_key k m.pools) h) m.pools) (ap (λ u. h ∷ u) (s.keyed k).free)

  pool_used : (b : Bool) → (of_key k (after b).pools).used ≡ (of_key k m.pools).used
  pool_used false = refl
  pool_used true = ap (λ (z : Pool). z.used) (of_with k (more_free (of_key k m.pools) h) m.pools)

  used : (b : Bool) → length (after_release kp.kept h b).slots ≡ (of_key k (after b).pools).used
  used false = (s.keyed k).used
  used true = length-set kp.kept.slots h None ∙ (s.keyed k).used ∙ sym (pool_used true)

  rules : (b : Bool) → (after_release kp.kept h b).rules ≡ rules_at k sc.flags
  rules true = (s.keyed k).rules
  rules false = (s.keyed k).rules

  more_asked : (b : Bool) → (after_release kp.kept h b).asked ≡ kp.kept.asked + 1
  more_asked true = refl
  more_asked false = refl

  is_new : of_key k then_parts.keyed ≡ record kp { kept = kept2 }
  is_new = kept_here c.keyed k kept2

  key_after : picture.Depicts answered_picture kp.entries kept2 → KeyStands sc k then_parts then_machine
  key_after counts = record {
    living = λ i. rw is_new (living asked.agreed i);
    free = rw is_new (free asked.agreed);
    used = rw is_new (used asked.agreed);
    rules = rw is_new (rules asked.agreed);
    dues = rw is_new (dues asked.agreed);
    counts = rw is_new (subst (λ (q : Picture). picture.Depicts q kp.entries kept2) (sym picture_after) counts);
    made = λ i. rw is_new (subst (λ (z : machine.Tally). entry.made_of (entry_at kp.entries.slots i) ≤ z.refers) (sym (tally_is asked.agreed)) ((s.keyed k).made i));
  }

  -- The other keys.

  module _ (q : Key) (other : same_key k q ≡ false) where
    pools_other : (b : Bool) → of_key q (after b).pools ≡ of_key q m.pools
    pools_other false = refl
    pools_other true = other_with q k (more_free (of_key k m.pools) h) m.pools other

    living_other : (b : Bool) (i : ℕ) → living_at (after b).live (at_place q i) ≡ living_at m.live (at_place q i)
    living_other false i = refl
    living_other true i = without_other m.live (at_place k h) (at_place q i) (rw other refl)

    same_other : SameKey sc q c then_parts m then_machine
    same_other = record {
      parts = other_with q k (record kp { kept = kept2 }) c.keyed other;
      pools = pools_other asked.agreed;
      living = living_other asked.agreed;
      shown = one.picture_other sc c m t positive inside f ls g rest (Claiming.Claimed k x) y own task s then_parts then_machine (Some F2) (Some G2) (Claiming.Answered k asked) (Some y2)
          refl (tasks_are asked.agreed) (λ q. refl) (λ q. refl) (λ q. refl) q other (one.claim_elsewhere q (Claiming.Answered k asked) y2 other);
      refers = let r : then_machine.tally.refers ≡ m.tally.refers = ap (λ (z : machine.Tally). z.refers) (tally_is asked.agreed) in omega (arith, r);
      amounts = amounts asked.agreed;
    }

  -- The ledgers.

  at_bank : (b : Bool) → k ≡ keys.Bank → Ledgers sc (after b).past (after_release kp.kept h b).ledgers
  at_bank b e = by b (subst (λ j. Ledgers sc m.past (of_key j c.keyed).kept.ledgers) (sym e) s.ledgers)
    where
      by : (b : Bool) → Ledgers sc m.past kp.kept.ledgers → Ledgers sc (after b).past (after_release kp.kept h b).ledgers
      by false z = z
      by true z = subst (λ past. Ledgers sc past (credited (live_at kp.kept.slots h) kp.kept.ledgers)) (sym past_is)
          (subst (λ o. Ledgers sc (entries.Released number ∷ m.past) (credited o kp.kept.ledgers)) (sym alive)
          (bank_credits sc m.past number l kp.kept.ledgers (in_store sc c m k h l s alive ties plain) ((s.keyed k).dues h l alive) z))

  elsewhere_than_bank : (b : Bool) → same_key k keys.Bank ≡ false → Ledgers sc (after b).past c.keyed.bank.kept.ledgers
  elsewhere_than_bank false e = s.ledgers
  elsewhere_than_bank true e = subst (λ past. Ledgers sc past c.keyed.bank.kept.ledgers) (sym past_is)
      (ledgers_stay sc m.past number l.value (in_store sc c m k h l s alive ties plain) c.keyed.bank.kept.ledgers s.ledgers (λ u. not_holder k l.value u e (value_belongs sc c m k h l s alive ties)))

  ledgers_after : Ledgers sc then_machine.past then_parts.keyed.bank.kept.ledgers
  ledgers_after = elim (key_cases k keys.Bank) [
    | inl e ↦ subst (λ j. Ledgers sc then_machine.past (of_key j then_parts.keyed).kept.ledgers) e (subst (λ (z : KeyParts). Ledgers sc then_machine.past z.kept.ledgers) (sym is_new) (at_bank asked.agreed e))
    | inr other ↦ subst (λ (z : KeyParts). Ledgers sc then_machine.past z.kept.ledgers) (sym (other_with keys.Bank k (record kp { kept = kept2 }) c.keyed other)) (elsewhere_than_bank asked.agreed other)
  ]

  -- The history.

  history : (b : Bool) → noted_release b number c.history ≡ reverse (after b).past
  history false = s.history
  history true = rw (past_is, s.history) (sym (one_behind (entries.Released number) m.past))

  phases : (b : Bool) → phases_in (after b).past ≡ phases_in m.past
  phases true = refl
  phases false = refl

  room : (b : Bool) → room_of sc (after b).past ≤ length (after b).past + less_room b c.spare
  room false = s.room
  room true = less (room_of sc (after true).past) (room_of sc m.past) (length m.past) c.spare (room_grows sc m.past (entries.Released (made_of (living_at m.live (at_place k h))))) s.room
    where
      less : (z a b n : ℕ) → z ≡ a + 2 * 0 → a ≤ b + n → z ≤ suc b + (n - 1)
      less z a b n q e = omega arith

  pub stands_after : picture.Depicts answered_picture kp.entries kept2 → StandsFor sc then_parts then_machine
  stands_after counts = record {
    keyed = each_key (λ q. KeyStands sc q then_parts then_machine) k (key_after counts) (λ q other. elsewhere sc q c then_parts m then_machine (same_other q other) (s.keyed q));
    ledgers = ledgers_after;
    shape = shape_after;
    history = history asked.agreed;
    phase = s.phase ∙ sym (phases asked.agreed);
    tally = record {
      claims = s.tally.claims ∙ sym (ap (λ (z : machine.Tally). z.claims) (tally_is asked.agreed));
      refers = s.tally.refers ∙ sym (ap (λ (z : machine.Tally). z.refers) (tally_is asked.agreed));
      asks = ap (λ n. n + 1) s.tally.asks ∙ sym (ap (λ (z : machine.Tally). z.asks) (tally_is asked.agreed));
    };
    asked = ap (λ n. n + 1) s.asked ∙ sym (asked_more c.keyed k kept2 (more_asked asked.agreed));
    room = room asked.agreed;
  }
