-- Recheck keeps all that the parts stand for.
use Rattle.std.proofs.Common.{◌≡◌, ◌≢◌, ℕ, ◌-◌, ◌<◌, ◌≤◌, ◌==◌, nat_lt, ◌&&◌, not, Bool, false, cond, List, [], ◌++◌, refl, arith, sym, ap, ◌∙◌, length, subst, Option, Some, None}
use Rattle.std.specs.Prelude.{is_some}
use Rattle.std.proofs.lemmas.Grind.{common_steps}
use Rattle.vch_base.specs.declared.key.Key.{Key}
use Rattle.vch_base.specs.declared.key.Key.TheVariants as keys
use Rattle.vch_base.specs.Keys.{same_key}
use Rattle.vch_base.specs.Keyed.{of_key}
use Rattle.vch_base.specs.Managers.{Kept, count}
use Rattle.vch_entry.specs.Entries.{Entries, entry_at, made_of}
use Rattle.vch_value.specs.Flight as flight
use Rattle.vch_value.specs.Flight.{Asked}
use Rattle.vch_value.specs.Picture as picture
use Rattle.vch_value.specs.Picture.{Picture, Claimed, with_claims, flags_at, is_met, takes_again, again}
use Rattle.vch_model.specs.declared.lists.Scenario.{Scenario}
use Rattle.vch_machine.specs.State as machine
use Rattle.vch_machine.specs.State.{Place, Machine, Tasked, tasked, is_held, is_expected}
use Rattle.vch_machine.specs.Frames as frames
use Rattle.vch_machine.specs.Leaving as leaving
use Rattle.vch_legal.specs.Tie.{Ties}
use Rattle.vch_frame.specs.declared.frame.Claiming.{Claiming}
use Rattle.vch_frame.specs.declared.frame.KeyIndex.{KeyIndex}
use Rattle.vch_frame.specs.Claims.{claiming, claimed}
use Rattle.vch_values.proofs.CallerLemmas.{same_key_refl}
use Rattle.vch_parts.specs.declared.frame.Frame.{Frame}
use Rattle.vch_parts.specs.Plain.{Plain, part_of, with_frame, closed}
use Rattle.vch_parts.specs.Shape.{Shape, IsIndexOf, IsClaim, IsFrame, IsTask}
use Rattle.vch_parts.specs.Pictures.{picture_of, claimed_of, frame_holds}
use Rattle.vch_parts.specs.Stands.{StandsFor, KeyStands, Ledgers}
use Rattle.vch_parts.specs.Moves.{rechecked}
use Rattle.vch_parts.proofs.holders.Held.{held_counted}
use Rattle.vch_parts.proofs.claims.Expected.{expected_met}
use Rattle.vch_parts.proofs.framing.Replaced.{claims_before, claims_behind, shape_then, framed}
use Rattle.vch_parts.proofs.framing.Closing.{closed_frames, holds_closed, receipts_closed, claimed_closed}
use Rattle.vch_parts.proofs.framing.FrameParts.{leaving_frame, leaving_machine, formless_of}
use Rattle.vch_parts.proofs.keys.KeyCases.{each_key, other_with}
use Rattle.vch_parts.proofs.keys.Elsewhere.{SameKey, elsewhere}
use Rattle.vch_parts.proofs.keys.Entered.{entries_here, kept_stays, asked_same}
use Rattle.vch_parts.proofs.claims.OneClaim as one

-- what stays of names, queues and frames once the entry was looked at
pub record Steady (c d : Plain) (m : Machine) (t : ℕ) (f : Frame) (g : machine.Frame) : Type 0 where
  pub others : (u : ℕ) → u - 1 ≢ t - 1 → 0 < u → u - 1 < length c.tasks → IsTask d.keyed (part_of c u) (tasked m u)
  pub own : IsTask d.keyed (with_frame (part_of c t) None) (framed (tasked m t) None)
  pub frame : IsFrame d.keyed f g

abbrev pub at_place : Key → ℕ → Place
at_place k h = record { key = k; handle = h }

module _ (sc : Scenario) (c : Plain) (m : Machine) (t : ℕ) (positive : 0 < t) (inside : t - 1 < length c.tasks)
    (f : Frame) (ls : List KeyIndex) (g : machine.Frame) (rest : List Place) (k : Key) (h : ℕ) (raced back : Bool) (x : Asked)
    (own : (part_of c t).frame ≡ Some (leaving_frame f ls (Claiming.Answered k x)))
    (task : (tasked m t).frame ≡ Some (leaving_machine g rest (Some (record { place = at_place k h; raced = raced; back = back; answer = Some x.agreed }))))
    (s : StandsFor sc c m) (ties : Ties sc m) where
  abbrev pub y : machine.Claim
  y = record { place = at_place k h; raced = raced; back = back; answer = Some x.agreed }

  abbrev F : Claiming → Frame
  F z = leaving_frame f ls z

  abbrev G : Option machine.Claim → machine.Frame
  G z = leaving_machine g rest z

  abbrev pub P : Picture
  P = one.P sc c m t positive inside f ls g rest (Claiming.Answered k x) y own task s

  is_now : picture_of k c m ≡ P
  is_now = one.is_now sc c m t positive inside f ls g rest (Claiming.Answered k x) y own task s

  held : is_held m (at_place k h) ≡ nat_lt 0 (count h P.holders)
  held = held_counted k h c m ∙ ap (λ (q : Picture). nat_lt 0 (count h q.holders)) is_now

  expected : is_expected m (at_place k h) ≡ is_met (flags_at h P.receipts)
  expected = expected_met k h sc c m s.shape ∙ ap (λ (q : Picture). is_met (flags_at h q.receipts)) is_now

  abbrev new_claim : machine.Claim
  new_claim = record { place = at_place k h; raced = is_met (flags_at h P.receipts); back = false; answer = None }

  -- the machine's claim, where the code takes it again
  abbrev pub told_claim : Option flight.Claim → Option machine.Claim
  told_claim None = None
  told_claim (Some z) = Some new_claim

  pub claim_is : (o : Option flight.Claim) → is_some o ≡ takes_again (claimed x.sync y) P → leaving.again m y ≡ told_claim o
  claim_is o row = ap (λ b. cond (back && not b) (Some (leaving.new_claim m (at_place k h))) None) held ∙ rw (expected, zero_test (count h P.holders), ← row) (by o)
    where
      zero_test : (n : ℕ) → not (nat_lt 0 n) ≡ (n == 0)
      zero_test n = grind (arith, common_steps)

      by : (o : Option flight.Claim) → cond (is_some o) (Some new_claim) None ≡ told_claim o
      by None = refl
      by (Some z) = refl

  module _ (e2 : Entries) (o : Option flight.Claim) where
    abbrev F2 : Frame
    F2 = F (claiming k o)

    abbrev G2 : machine.Frame
    G2 = G (told_claim o)

    abbrev pub then_parts : Plain
    then_parts = rechecked c t (leaving_frame f ls (Claiming.Answered k x)) k e2 o

    abbrev pub then_machine : Machine
    then_machine = frames.with_frame m t (frames.closed G2)

    module _ (steady : Steady c then_parts m t (F Claiming.Nothing) (G None)) (same_index : (z : flight.Claim) → o ≡ Some z → IsIndexOf then_parts.keyed k z.index h)
        (counts : picture.Depicts (with_claims P (claims_before k c m t ++ again h o P.receipts (claims_behind k c m t))) e2 (of_key k c.keyed).kept) where
      claim_related : (o : Option flight.Claim) → ((z : flight.Claim) → o ≡ Some z → IsIndexOf then_parts.keyed k z.index h) → IsClaim then_parts.keyed (claiming k o) (told_claim o)
      claim_related None i = tt
      claim_related (Some z) i = (refl, i z refl, refl)

      new_frame : IsFrame then_parts.keyed F2 G2
      new_frame = record { forming = steady.frame.forming; answered = steady.frame.answered; at_byte = steady.frame.at_byte; keys = steady.frame.keys; receipt = steady.frame.receipt; lets = steady.frame.lets; claim = claim_related o same_index }

      shape_after : Shape sc then_parts then_machine
      shape_after = shape_then sc c m t positive inside s.shape then_parts then_machine (closed F2) (frames.closed G2) refl refl steady.others
          (record { names = steady.own.names; next = steady.own.next; queue = steady.own.queue; begun = steady.own.begun; frame = closed_frames then_parts.keyed F2 G2 new_frame })

      again_is : (o : Option flight.Claim) → claimed_of k (claiming k o) (told_claim o) ++ claims_behind k c m t ≡ again h o P.receipts (claims_behind k c m t)
      again_is None = refl
      again_is (Some z) = rw (same_key_refl k) refl

      holds : (q : Key) → frame_holds q (frames.closed G2) ≡ frame_holds q (Some G2)
      holds q = holds_closed q G2 (formless_of m t g rest (Some y) task (ties.fits.frames t))

      picture_after : picture_of k then_parts then_machine ≡ with_claims P (claims_before k c m t ++ again h o P.receipts (claims_behind k c m t))
      picture_after =
          one.picture_after sc c m t positive inside f ls g rest (Claiming.Answered k x) y own task s then_parts then_machine (closed F2) (frames.closed G2) (claiming k o) (told_claim o)
          refl refl holds (λ q. receipts_closed q F2) (λ q. claimed_closed then_parts.keyed q F2 G2 new_frame)
          ∙ ap (λ cs. with_claims P (claims_before k c m t ++ cs)) (again_is o)

      is_new : of_key k then_parts.keyed ≡ record (of_key k c.keyed) { entries = e2 }
      is_new = entries_here c.keyed k e2

      key_after : ((i : ℕ) → made_of (entry_at e2.slots i) ≤ m.tally.refers) → KeyStands sc k then_parts then_machine
      key_after lower = record {
        living = λ i. rw is_new ((s.keyed k).living i);
        free = rw is_new (s.keyed k).free;
        used = rw is_new (s.keyed k).used;
        rules = rw is_new (s.keyed k).rules;
        dues = rw is_new (s.keyed k).dues;
        counts = rw is_new (subst (λ (q : Picture). picture.Depicts q e2 (of_key k c.keyed).kept) (sym picture_after) counts);
        made = λ i. rw is_new (lower i);
      }

      same_other : (q : Key) → same_key k q ≡ false → SameKey sc q c then_parts m then_machine
      same_other q other = record {
        parts = other_with q k (record (of_key k c.keyed) { entries = e2 }) c.keyed other;
        pools = refl;
        living = λ i. refl;
        shown = one.picture_other sc c m t positive inside f ls g rest (Claiming.Answered k x) y own task s then_parts then_machine (closed F2) (frames.closed G2) (claiming k o) (told_claim o)
            refl refl holds (λ q. receipts_closed q F2) (λ q. claimed_closed then_parts.keyed q F2 G2 new_frame) q other (none_of o);
        refers = omega arith;
        amounts = λ z. refl;
      }
        where
          none_of : (o : Option flight.Claim) → claimed_of q (claiming k o) (told_claim o) ≡ []
          none_of None = refl
          none_of (Some z) = rw other refl

      pub stands_after : ((i : ℕ) → made_of (entry_at e2.slots i) ≤ m.tally.refers) → StandsFor sc then_parts then_machine
      stands_after lower = record {
        keyed = each_key (λ q. KeyStands sc q then_parts then_machine) k (key_after lower) (λ q other. elsewhere sc q c then_parts m then_machine (same_other q other) (s.keyed q));
        ledgers = subst (λ (z : Kept). Ledgers sc m.past z.ledgers) (sym (kept_stays c.keyed k e2 keys.Bank)) s.ledgers;
        shape = shape_after;
        history = s.history;
        phase = s.phase;
        tally = s.tally;
        asked = s.asked ∙ sym (asked_same c.keyed k e2);
        room = s.room;
      }
