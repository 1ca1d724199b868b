-- A frame gets a receipt, of a value that was live or of a fresh one: what the parts stand for then.
use Rattle.std.proofs.Common.{◌≡◌, ℕ, ◌+◌, ◌-◌, ◌<◌, ◌≤◌, ◌==◌, ◌&&◌, true, false, List, ◌∷◌, ◌++◌, refl, arith, sym, ap, ◌∙◌, length, map, reverse, subst, Option, Some, None}
use Rattle.vch_base.specs.Tasks.{set_task, at_task}
use Rattle.vch_base.specs.declared.key.Key.{Key}
use Rattle.vch_base.specs.declared.key.Key.TheVariants as keys
use Rattle.vch_base.specs.declared.places.Live.{Live}
use Rattle.vch_base.specs.Keys.{same_key}
use Rattle.vch_base.specs.Keyed.{of_key, with_key}
use Rattle.vch_base.specs.Managers.{live_at, count}
use Rattle.vch_entry.specs.Entries.{handle_at}
use Rattle.vch_value.specs.Flight.{Receipt}
use Rattle.vch_value.specs.Picture as picture
use Rattle.vch_value.specs.Picture.{Picture, Alike, AllAre, claims_at, flags_at, race, made_picture, default_of}
use Rattle.vch_value.proofs.CallerLemmas.{stands_alike}
use Rattle.vch_model.specs.Lines.{phases_in}
use Rattle.vch_model.specs.Totals.{ledger}
use Rattle.vch_model.specs.declared.entry.Entry.{Entry}
use Rattle.vch_model.specs.declared.lists.Scenario.{Scenario}
use Rattle.vch_machine.specs.State as machine
use Rattle.vch_machine.specs.State.{Place, same_place, Machine, Tasked, tasked, living_at}
use Rattle.vch_machine.specs.Making.{race_claim, on_claim, on_frame, on_claims}
use Rattle.vch_legal.specs.ValueAmounts.{amount_of}
use Rattle.vch_legal.proofs.CallerLemmas.{claims_task}
use Rattle.vch_bounds.specs.Rooms.{room_of}
use Rattle.vch_frame.specs.declared.frame.Claiming.{Claiming}
use Rattle.vch_frame.specs.Living.{IsLiving}
use Rattle.vch_values.specs.Parts.{KeyParts, number_at, asked_in}
use Rattle.vch_values.proofs.CallerLemmas.{of_with, same_key_refl, over_keys}
use Rattle.vch_parts.specs.declared.frame.Frame.{Frame}
use Rattle.vch_parts.specs.Plain.{Plain, part_of, with_frame}
use Rattle.vch_parts.specs.Shape.{Shape, IsClaim, IsFrame, IsTask, IsIndexOf}
use Rattle.vch_parts.specs.Pictures.{picture_of}
use Rattle.vch_parts.specs.Stands.{StandsFor, KeyStands}
use Rattle.vch_parts.proofs.CallerLemmas.{Keeps, frame_stays, task_stays, race_keeps, race_shows, shape_on, picture_on, picture_by, receipts_before, receipts_behind, picture_now, picture_then, picture_same, shape_then, framed, each_key, other_with, apart_keys, no_claim, Shows}
use Rattle.vch_making.proofs.giving.Orders.{flags_behind, one_more, map_same}

-- the parts of a key are others, and its entries have the handles that they had
pub keeps_parts : (c : Plain) (k : Key) (x2 : KeyParts) → x2.entries.slots ≡ (of_key k c.keyed).entries.slots → Keeps c.keyed (with_key k x2 c.keyed)
keeps_parts c k x2 slots = each_key (λ q. (i h : ℕ) → IsIndexOf c.keyed q i h → IsIndexOf (with_key k x2 c.keyed) q i h) k
    (λ i h a. ap (λ (y : KeyParts). handle_at y.entries.slots i) (of_with k x2 c.keyed) ∙ ap (λ xs. handle_at xs i) slots ∙ a)
    (λ q other i h a. ap (λ (y : KeyParts). handle_at y.entries.slots i) (other_with q k x2 c.keyed other) ∙ a)

-- as many questions, where this key's manager was asked as many
asked_stays : (c : Plain) (k : Key) (x2 : KeyParts) → x2.kept.asked ≡ (of_key k c.keyed).kept.asked → asked_in (with_key k x2 c.keyed) ≡ asked_in c.keyed
asked_stays c k x2 e =
    let here : (q : Key) → (of_key q (with_key k x2 c.keyed)).kept.asked ≡ (of_key q c.keyed).kept.asked = each_key (λ q. (of_key q (with_key k x2 c.keyed)).kept.asked ≡ (of_key q c.keyed).kept.asked) k
    (ap (λ (y : KeyParts). y.kept.asked) (of_with k x2 c.keyed) ∙ e)
    (λ q other. ap (λ (y : KeyParts). y.kept.asked) (other_with q k x2 c.keyed other)) in
    over_keys (λ q. (of_key q (with_key k x2 c.keyed)).kept.asked)
    ∙ four _ _ _ _ _ _ _ _ (here keys.Importance) (here keys.Bank) (here keys.User) (here keys.Test)
    ∙ sym (over_keys (λ q. (of_key q c.keyed).kept.asked))
  where
    four : (a b d e a2 b2 d2 e2 : ℕ) → a ≡ a2 → b ≡ b2 → d ≡ d2 → e ≡ e2 → a + b + d + e ≡ a2 + b2 + d2 + e2
    four a b d e a2 b2 d2 e2 p q r s = omega (arith, p, q, r, s)

module _ (sc : Scenario) (c : Plain) (m : Machine) (t : ℕ) (positive : 0 < t) (inside : t - 1 < length c.tasks)
    (f : Frame) (g : machine.Frame) (k : Key) (receipt : Receipt)
    (own : (part_of c t).frame ≡ Some f) (task : (tasked m t).frame ≡ Some g)
    (frame : IsFrame c.keyed f g) (no_taken : f.receipt ≡ None) (no_claimed : f.claim ≡ Claiming.Nothing)
    (s : StandsFor sc c m) where
  abbrev pub h : ℕ
  h = receipt.handle

  abbrev pub racing : machine.Claim → machine.Claim
  racing = race_claim (record { key = k; handle = h })

  -- between the two halves: the claims on the handle are raced
  abbrev pub mid : Machine
  mid = on_claims racing m

  abbrev pub F2 : Frame
  F2 = record f { receipt = Some (record { key = k; receipt = receipt }) }

  abbrev pub G2 : machine.Frame
  G2 = record g { receipt = Some (record { key = k; handle = h }) }

  pub twin_claim : g.claim ≡ None
  twin_claim = no_claim c.keyed g.claim (subst (λ x. IsClaim c.keyed x g.claim) no_claimed frame.claim)

  shape_mid : Shape sc c mid
  shape_mid = shape_on racing (race_keeps _) sc c m s.shape

  racing_none : (o : Option machine.Claim) → o ≡ None → on_claim racing o ≡ o
  racing_none o e = rw e refl

  task_mid : (tasked mid t).frame ≡ Some g
  task_mid = ap (λ (y : Tasked). y.frame) (claims_task m racing t) ∙ ap (on_frame racing) task ∙ ap (λ o. Some (record g { claim = o })) (racing_none g.claim twin_claim)

  abbrev pub P : Picture
  P = picture_of k c m

  mid_is : picture_by k c mid t (Some f) (Some g) ≡ record P { claims = map (race h) P.claims }
  mid_is = sym (picture_now k c mid t positive shape_mid.long inside ∙ rw (own, task_mid) refl) ∙ picture_on racing (race_keeps _) k (race h) (race_shows k h) c m

  module _ (x2 : KeyParts) (history2 : List Entry) (spare2 : ℕ) (n : Machine)
      (slots : x2.entries.slots ≡ (of_key k c.keyed).entries.slots)
      (counts : picture.Depicts (made_picture receipt P) x2.entries x2.kept)
      (tasks : n.tasks ≡ set_task mid.tasks t (framed (tasked mid t) (Some G2)))
      (tally : n.tally ≡ m.tally) where
    abbrev pub then_parts : Plain
    then_parts = record c { keyed = with_key k x2 c.keyed; tasks = set_task c.tasks t (with_frame (part_of c t) (Some F2)); history = history2; spare = spare2 }

    is_new : of_key k then_parts.keyed ≡ x2
    is_new = of_with k x2 c.keyed

    stable : Keeps c.keyed then_parts.keyed
    stable = keeps_parts c k x2 slots

    new_frame : IsFrame then_parts.keyed F2 G2
    new_frame =
        let z : IsFrame then_parts.keyed f g = frame_stays c.keyed then_parts.keyed stable f g frame in
        record { forming = z.forming; answered = z.answered; at_byte = z.at_byte; keys = z.keys; receipt = (refl, refl); lets = z.lets; claim = z.claim }

    shape_after : Shape sc then_parts n
    shape_after = shape_then sc c mid t positive inside shape_mid then_parts n (Some F2) (Some G2) refl tasks
        (λ a u q i. task_stays c.keyed then_parts.keyed stable (part_of c a) (tasked mid a) (shape_mid.tasks a q i))
        (let z : IsTask then_parts.keyed (part_of c t) (tasked mid t) = task_stays c.keyed then_parts.keyed stable (part_of c t) (tasked mid t) (shape_mid.tasks t positive inside) in
        record { names = z.names; next = z.next; queue = z.queue; begun = z.begun; frame = new_frame })

    abbrev pub Q : Picture
    Q = picture_by k c mid t (Some F2) (Some G2)

    picture_after : picture_of k then_parts n ≡ Q
    picture_after = picture_then k c mid t positive shape_mid.long inside then_parts n (Some F2) (Some G2) refl tasks

    abbrev pub A : List Receipt
    A = receipts_before k c m t

    abbrev pub B : List Receipt
    B = receipts_behind k c m t

    receipts_are : P.receipts ≡ A ++ B
    receipts_are = ap (λ (q : Picture). q.receipts) (sym mid_is) ∙ rw no_taken refl

    receipts_then : Q.receipts ≡ A ++ receipt ∷ B
    receipts_then = rw (same_key_refl k) refl

    alike : Alike (made_picture receipt P) Q
    alike = record {
      holders = λ x. ap (λ (q : Picture). count x q.holders) mid_is;
      flags = λ i. ap (flags_at i) receipts_then ∙ flags_behind i (default_of (live_at x2.kept.slots i)) receipt A B (subst (λ rs. AllAre (default_of (live_at x2.kept.slots i)) (flags_at i (receipt ∷ rs))) receipts_are (counts.at i).persist)
          ∙ ap (λ rs. flags_at i (receipt ∷ rs)) (sym receipts_are);
      claims = λ i. ap (λ (q : Picture). claims_at i q.claims) mid_is;
      flying =
          (let a : length Q.receipts ≡ length (A ++ receipt ∷ B) = ap length receipts_then in
          let b : length (A ++ receipt ∷ B) ≡ length (A ++ B) + 1 = one_more receipt A B in
          let d : length P.receipts ≡ length (A ++ B) = ap length receipts_are in
          omega (arith, a, b, d));
    }

    counts_after : picture.Depicts (picture_of k then_parts n) x2.entries x2.kept
    counts_after = subst (λ (q : Picture). picture.Depicts q x2.entries x2.kept) (sym picture_after) (stands_alike _ _ x2.entries _ alike counts)

    -- at another key
    module _ (q : Key) (other : same_key k q ≡ false) where
      shows_other : Shows q racing (λ z. z)
      shows_other sync y e = rw (other_place y.place e) refl
        where
          other_place : (p : Place) → same_key p.key q ≡ true → same_place p (record { key = k; handle = h }) ≡ false
          other_place p e = ap (λ b. b && (p.handle == h)) (apart_keys p.key q k e other)

      same_mid : picture_of q c mid ≡ picture_of q c m
      same_mid = picture_on racing (race_keeps _) q (λ z. z) shows_other c m ∙ ap (λ cs. record (picture_of q c m) { claims = cs }) (map_same (picture_of q c m).claims)

      pub shown : picture_of q then_parts n ≡ picture_of q c m
      shown = picture_same q c mid t positive shape_mid.long inside then_parts n (Some F2) (Some G2) refl tasks (rw task_mid refl) (rw (own, other, no_taken) refl) (rw (own, task_mid) refl) ∙ same_mid

    -- what the caller shows of the values, the handles and the history
    pub record Holds : Type 0 where
      pub living : (i : ℕ) → IsLiving (number_at x2.numbers i) (live_at x2.kept.slots i) (living_at n.live (record { key = k; handle = i }))
      pub free : x2.kept.free ≡ (of_key k n.pools).free
      pub used : length x2.kept.slots ≡ (of_key k n.pools).used
      pub dues : (i : ℕ) (l : Live) → live_at x2.kept.slots i ≡ Some l → l.due ≡ amount_of sc n.past l.value
      pub rules : x2.kept.rules ≡ (of_key k c.keyed).kept.rules
      pub asked : x2.kept.asked ≡ (of_key k c.keyed).kept.asked
      pub books : x2.kept.ledgers ≡ (of_key k c.keyed).kept.ledgers
      pub elsewhere_living : (q : Key) → same_key k q ≡ false → (i : ℕ) → living_at n.live (record { key = q; handle = i }) ≡ living_at m.live (record { key = q; handle = i })
      pub elsewhere_pools : (q : Key) → same_key k q ≡ false → of_key q n.pools ≡ of_key q m.pools
      pub elsewhere_dues : (q : Key) → same_key k q ≡ false → (i : ℕ) (l : Live) → live_at (of_key q c.keyed).kept.slots i ≡ Some l → amount_of sc n.past l.value ≡ amount_of sc m.past l.value
      pub ledgers : (u : ℕ) → ledger sc n.past u ≡ ledger sc m.past u
      pub history : history2 ≡ reverse n.past
      pub phases : phases_in n.past ≡ phases_in m.past
      pub room : room_of sc n.past ≤ length n.past + spare2

    module _ (z : Holds) where
      key_after : KeyStands sc k then_parts n
      key_after = record {
        living = λ i. rw is_new (z.living i);
        free = rw is_new z.free;
        used = rw is_new z.used;
        rules = rw is_new (z.rules ∙ (s.keyed k).rules);
        dues = rw is_new z.dues;
        counts = rw is_new counts_after;
        made = λ i. rw (is_new, slots, tally) ((s.keyed k).made i);
      }

      key_other : (q : Key) → same_key k q ≡ false → KeyStands sc q then_parts n
      key_other q other =
          let same : of_key q then_parts.keyed ≡ of_key q c.keyed = other_with q k x2 c.keyed other in
          let w : KeyStands sc q c m = s.keyed q in record {
            living = λ i. rw (same, z.elsewhere_living q other i) (w.living i);
            free = rw (same, z.elsewhere_pools q other) w.free;
            used = rw (same, z.elsewhere_pools q other) w.used;
            rules = rw same w.rules;
            dues = λ i l e. due q other i l (subst (λ (x : KeyParts). live_at x.kept.slots i ≡ Some l) same e);
            counts = rw (same, shown q other) w.counts;
            made = λ i. rw (same, tally) (w.made i);
          }
        where
          due : (q : Key) → same_key k q ≡ false → (i : ℕ) (l : Live) → live_at (of_key q c.keyed).kept.slots i ≡ Some l → l.due ≡ amount_of sc n.past l.value
          due q other i l e = (s.keyed q).dues i l e ∙ sym (z.elsewhere_dues q other i l e)

      ledgers_are : then_parts.keyed.bank.kept.ledgers ≡ c.keyed.bank.kept.ledgers
      ledgers_are = each_key (λ q. (of_key q then_parts.keyed).kept.ledgers ≡ (of_key q c.keyed).kept.ledgers) k
          (ap (λ (y : KeyParts). y.kept.ledgers) is_new ∙ z.books)
          (λ q other. ap (λ (y : KeyParts). y.kept.ledgers) (other_with q k x2 c.keyed other)) keys.Bank

      pub received : StandsFor sc then_parts n
      received = record {
        keyed = each_key (λ q. KeyStands sc q then_parts n) k key_after key_other;
        ledgers = record { long = ap length ledgers_are ∙ s.ledgers.long; each = λ u e. ap (λ xs. at_task xs u 0) ledgers_are ∙ s.ledgers.each u e ∙ sym (z.ledgers u) };
        shape = shape_after;
        history = z.history;
        phase = s.phase ∙ sym z.phases;
        tally = rw tally s.tally;
        asked = s.asked ∙ sym (asked_stays c k x2 z.asked);
        room = z.room;
      }
