-- LetGo keeps all that the parts stand for.
use Rattle.std.proofs.Common.{◌≡◌, ◌≢◌, ℕ, ◌+◌, ◌-◌, ◌<◌, ◌≤◌, ◌==◌, nat_lt, ◌&&◌, not, Bool, true, false, cond, List, [], ◌∷◌, ◌++◌, refl, arith, sym, ap, ◌∙◌, length, append_assoc, subst, Option, Some, None}
use Rattle.std.specs.Prelude.{is_some}
use Rattle.std.specs.List.{flat_map}
use Rattle.vch_base.specs.declared.key.Key.{Key}
use Rattle.vch_base.specs.declared.key.Key.TheVariants as keys
use Rattle.vch_base.specs.declared.places.Live.{Live}
use Rattle.vch_base.specs.Keys.{same_key}
use Rattle.vch_base.specs.Keyed.{of_key}
use Rattle.vch_base.specs.Managers.{Kept, live_at, count}
use Rattle.vch_base.specs.Values.{is_default}
use Rattle.vch_entry.specs.Entries.{Entries, handle_at, entry_at, made_of}
use Rattle.vch_value.specs.Flight as flight
use Rattle.vch_value.specs.Picture as picture
use Rattle.vch_value.specs.Picture.{Picture, Claimed, Alike, claims_at, flags_at, is_nil, is_met, let_go_picture, takes_claim, default_of}
use Rattle.vch_value.proofs.CallerLemmas.{stands_alike}
use Rattle.vch_model.specs.declared.lists.Scenario.{Scenario}
use Rattle.vch_machine.specs.State as machine
use Rattle.vch_machine.specs.State.{Place, Living, Machine, Tasked, tasked, living_at, is_held, is_expected, claims_on, is_empty}
use Rattle.vch_machine.specs.Frames as frames
use Rattle.vch_machine.specs.Leaving as leaving
use Rattle.vch_machine.specs.Leaving.{claim_if, is_fixed, is_fixed_value}
use Rattle.vch_legal.specs.Tie.{Ties}
use Rattle.vch_frame.specs.declared.frame.Claiming.{Claiming}
use Rattle.vch_frame.specs.declared.frame.KeyIndex.{KeyIndex}
use Rattle.vch_frame.specs.Pairs.{Optional}
use Rattle.vch_frame.specs.Claims.{claiming, claimed}
use Rattle.vch_frame.specs.Tallies.{more_claims, SameTally}
use Rattle.vch_frame.specs.Living.{IsLiving}
use Rattle.vch_values.proofs.CallerLemmas.{same_key_refl}
use Rattle.vch_values.specs.Parts.{number_at}
use Rattle.vch_parts.specs.declared.frame.Frame.{Frame}
use Rattle.vch_parts.specs.Plain.{Plain, part_of, with_frame, with_frame_at, closed}
use Rattle.vch_parts.specs.Shape.{Shape, IsIndexOf, IsClaim, IsFrame, IsTask, slots_of}
use Rattle.vch_parts.specs.Pictures.{picture_of, forming_holds, frame_holds, let_holds, frame_claimed, receipts_of}
use Rattle.vch_parts.specs.Stands.{StandsFor, KeyStands, Ledgers}
use Rattle.vch_parts.specs.Moves.{let_gone}
use Rattle.vch_parts.proofs.holders.Stable.{Keeps, task_stays, frame_stays}
use Rattle.vch_parts.proofs.holders.Held.{held_counted}
use Rattle.vch_parts.proofs.claims.Expected.{expected_met}
use Rattle.vch_parts.proofs.claims.Claims.{AreThose, claims_those}
use Rattle.vch_parts.proofs.claims.Taking.{claims_moved, nil_of, taken}
use Rattle.vch_parts.proofs.framing.Replaced.{picture_by, held_before, held_behind, claims_before, claims_behind, picture_now, picture_then, picture_same, shape_then, framed}
use Rattle.vch_parts.proofs.framing.Closing.{Formless, closed_frames, holds_closed, receipts_closed, claimed_closed}
use Rattle.vch_parts.proofs.framing.FrameParts.{frames_of, leaving_frame, leaving_machine, formless_of}
use Rattle.vch_parts.proofs.keys.KeyCases.{each_key, other_with}
use Rattle.vch_parts.proofs.keys.Elsewhere.{SameKey, elsewhere}
use Rattle.vch_parts.proofs.keys.Entered.{entries_here, keeps_entries, kept_stays, asked_same}

-- an index of the claim that was taken
abbrev pub IsOf : ℕ → Option flight.Claim → Type 0
IsOf index None = Unit {0}
IsOf index (Some x) = x.index ≡ index

fixed_default : (n : ℕ) (o : Option Live) (a : Option Living) → IsLiving n o a → is_fixed_value a ≡ default_of o
fixed_default n None None e = refl
fixed_default n (Some l) (Some a) e = ap is_default (sym e.0)
fixed_default n None (Some a) e = absurd e
fixed_default n (Some l) None e = absurd e

empty_those : (k : Key) (h : ℕ) (xs : List Claimed) (ys : List machine.Claim) → AreThose k h xs ys → is_empty ys ≡ is_nil xs
empty_those k h [] [] e = refl
empty_those k h (x ∷ xs) (y ∷ ys) e = refl
empty_those k h [] (y ∷ ys) e = absurd e
empty_those k h (x ∷ xs) [] e = absurd e

module _ (sc : Scenario) (k : Key) (c : Plain) (m : Machine) (t : ℕ) (positive : 0 < t) (inside : t - 1 < length c.tasks)
    (f : Frame) (l : KeyIndex) (ls : List KeyIndex) (g : machine.Frame) (h : ℕ) (rest : List Place)
    (own : (part_of c t).frame ≡ Some (leaving_frame f (l ∷ ls) Claiming.Nothing))
    (task : (tasked m t).frame ≡ Some (leaving_machine g (record { key = k; handle = h } ∷ rest) None))
    (index : IsIndexOf c.keyed k l.index h)
    (s : StandsFor sc c m) (ties : Ties sc m) where
  abbrev pub p : Place
  p = record { key = k; handle = h }

  abbrev pub F1 : Claiming → Frame
  F1 x = leaving_frame f ls x

  abbrev pub G1 : Option machine.Claim → machine.Frame
  G1 y = leaving_machine g rest y

  -- between the two halves: the handle is not in the frame any more, and nothing is claimed
  abbrev pub mid_parts : Plain
  mid_parts = with_frame_at c t (Some (F1 Claiming.Nothing))

  abbrev pub mid : Machine
  mid = frames.with_frame m t (Some (G1 None))

  old_frame : IsFrame c.keyed (leaving_frame f (l ∷ ls) Claiming.Nothing) (leaving_machine g (p ∷ rest) None)
  old_frame = frames_of c.keyed (part_of c t).frame (tasked m t).frame _ _ own task (s.shape.tasks t positive inside).frame

  formless : (y : Option machine.Claim) → Formless (G1 y)
  formless y = formless_of m t g (p ∷ rest) None task (ties.fits.frames t)

  -- the task with a frame that is related, and the others
  module _ (d : Plain) (stable : Keeps c.keyed d.keyed) where
    own_task : (f : Option Frame) (g : Option machine.Frame) → Optional (IsFrame d.keyed) f g → IsTask d.keyed (with_frame (part_of c t) f) (framed (tasked m t) g)
    own_task f g related =
        let z : IsTask d.keyed (part_of c t) (tasked m t) = task_stays c.keyed d.keyed stable (part_of c t) (tasked m t) (s.shape.tasks t positive inside) in
        record { names = z.names; next = z.next; queue = z.queue; begun = z.begun; frame = related }

    left_frame : (x : Claiming) (y : Option machine.Claim) → IsClaim d.keyed x y → IsFrame d.keyed (F1 x) (G1 y)
    left_frame x y related =
        let z = frame_stays c.keyed d.keyed stable _ _ old_frame in
        record { forming = z.forming; answered = z.answered; at_byte = z.at_byte; keys = z.keys; receipt = z.receipt; lets = z.lets.1; claim = related }

    others : (u : ℕ) → u - 1 ≢ t - 1 → 0 < u → u - 1 < length c.tasks → IsTask d.keyed (part_of c u) (tasked m u)
    others u n q i = task_stays c.keyed d.keyed stable (part_of c u) (tasked m u) (s.shape.tasks u q i)

  shape_mid : Shape sc mid_parts mid
  shape_mid = shape_then sc c m t positive inside s.shape mid_parts mid (Some (F1 Claiming.Nothing)) (Some (G1 None)) refl refl
      (others mid_parts (λ q i j e. e)) (own_task mid_parts (λ q i j e. e) (Some (F1 Claiming.Nothing)) (Some (G1 None)) (left_frame mid_parts (λ q i j e. e) Claiming.Nothing None tt))

  -- the pictures
  abbrev pub P : Picture
  P = picture_by k c m t (Some (leaving_frame f (l ∷ ls) Claiming.Nothing)) (Some (leaving_machine g (p ∷ rest) None))

  pub is_now : picture_of k c m ≡ P
  is_now = picture_now k c m t positive s.shape.long inside ∙ rw (own, task) refl

  abbrev pub ahead : List ℕ
  ahead = held_before k c m t ++ forming_holds k g.forming

  abbrev pub after : List ℕ
  after = flat_map (let_holds k) rest ++ held_behind k c m t

  pub split : P.holders ≡ ahead ++ h ∷ after
  split = rw (same_key_refl k) (simp append_assoc)

  less : (picture_by k c m t (Some (F1 Claiming.Nothing)) (Some (G1 None))).holders ≡ ahead ++ after
  less = simp append_assoc

  is_mid : picture_of k mid_parts mid ≡ picture_by k c m t (Some (F1 Claiming.Nothing)) (Some (G1 None))
  is_mid = picture_then k c m t positive s.shape.long inside mid_parts mid (Some (F1 Claiming.Nothing)) (Some (G1 None)) refl refl

  held : is_held mid p ≡ nat_lt 0 (count h (ahead ++ after))
  held = held_counted k h mid_parts mid ∙ ap (λ (q : Picture). nat_lt 0 (count h q.holders)) is_mid ∙ ap (λ xs. nat_lt 0 (count h xs)) less

  unclaimed : is_empty (claims_on mid p) ≡ is_nil (claims_at h P.claims)
  unclaimed = empty_those k h _ _ (claims_those k h sc mid_parts mid shape_mid) ∙ ap (λ (q : Picture). is_nil (claims_at h q.claims)) is_mid

  fixed : is_fixed mid p ≡ default_of (live_at (of_key k c.keyed).kept.slots h)
  fixed = fixed_default (number_at (of_key k c.keyed).numbers h) (live_at (of_key k c.keyed).kept.slots h) (living_at m.live (record { key = k; handle = h })) ((s.keyed k).living h)

  raced : is_expected mid p ≡ is_met (flags_at h P.receipts)
  raced = expected_met k h sc mid_parts mid shape_mid ∙ ap (λ (q : Picture). is_met (flags_at h q.receipts)) is_mid

  abbrev pub machine_claim : machine.Claim
  machine_claim = record { place = p; raced = is_met (flags_at h P.receipts); back = false; answer = None }

  -- the machine's claim, where the code takes one
  abbrev pub told_claim : Option flight.Claim → Option machine.Claim
  told_claim None = None
  told_claim (Some x) = Some machine_claim

  pub claim_is : (o : Option flight.Claim) → is_some o ≡ takes_claim h (ahead ++ after) P (of_key k c.keyed).kept → claim_if mid p ≡ told_claim o
  claim_is o row =
      taken (is_fixed mid p) (is_held mid p) (not (is_empty (claims_on mid p))) (is_nil (claims_at h P.claims)) (default_of (live_at (of_key k c.keyed).kept.slots h)) (count h (ahead ++ after)) (leaving.new_claim mid p) fixed held (ap not unclaimed)
      ∙ rw (← row, raced) (by o)
    where
      by : (o : Option flight.Claim) → cond (is_some o) (Some machine_claim) None ≡ told_claim o
      by None = refl
      by (Some x) = refl

  module _ (e2 : Entries) (o : Option flight.Claim)
      (handles : (i : ℕ) → handle_at e2.slots i ≡ handle_at (slots_of c.keyed k) i)
      (same_made : (i : ℕ) → made_of (entry_at e2.slots i) ≡ made_of (entry_at (slots_of c.keyed k) i))
      (same_index : IsOf l.index o)
      (row : is_some o ≡ takes_claim h (ahead ++ after) P (of_key k c.keyed).kept)
      (counts : picture.Depicts (let_go_picture h o (ahead ++ after) P) e2 (of_key k c.keyed).kept) where
    abbrev pub F2 : Frame
    F2 = F1 (claiming k o)

    abbrev pub G2 : machine.Frame
    G2 = G1 (told_claim o)

    abbrev pub then_parts : Plain
    then_parts = let_gone c t (leaving_frame f (l ∷ ls) Claiming.Nothing) k ls e2 o

    abbrev pub then_machine : Machine
    then_machine = frames.tallied (leaving.more_claims (told_claim o)) (frames.with_frame m t (frames.closed G2))

    stable : Keeps c.keyed then_parts.keyed
    stable = keeps_entries c.keyed k e2 (λ i j e. handles i ∙ e)

    claim_related : (o : Option flight.Claim) → IsOf l.index o → IsClaim then_parts.keyed (claiming k o) (told_claim o)
    claim_related None e = tt
    claim_related (Some x) e = (refl, subst (λ i. IsIndexOf then_parts.keyed k i h) (sym e) (stable k l.index h index), refl)

    new_frame : IsFrame then_parts.keyed F2 G2
    new_frame = left_frame then_parts stable (claiming k o) (told_claim o) (claim_related o same_index)

    shape_after : Shape sc then_parts then_machine
    shape_after = shape_then sc c m t positive inside s.shape then_parts then_machine (closed F2) (frames.closed G2) refl refl
        (others then_parts stable) (own_task then_parts stable (closed F2) (frames.closed G2) (closed_frames then_parts.keyed F2 G2 new_frame))

    abbrev Q : Picture
    Q = picture_by k c m t (Some F2) (Some G2)

    picture_after : picture_of k then_parts then_machine ≡ Q
    picture_after =
        picture_then k c m t positive s.shape.long inside then_parts then_machine (closed F2) (frames.closed G2) refl refl
        ∙ rw (holds_closed k G2 (formless (told_claim o)), receipts_closed k F2, claimed_closed then_parts.keyed k F2 G2 new_frame) refl

    none_there : (a b z : Bool) → true ≡ (a && (b && z)) → z ≡ true
    none_there true true true e = refl
    none_there true true false e = sym e
    none_there true false z e = absurd (cc)
    none_there false b z e = absurd (cc)

    claims_alike : (o : Option flight.Claim) → is_some o ≡ takes_claim h (ahead ++ after) P (of_key k c.keyed).kept → (i : ℕ)
        → claims_at i (claims_before k c m t ++ (frame_claimed k (Some (F1 (claiming k o))) (Some (G1 (told_claim o))) ++ claims_behind k c m t)) ≡ claims_at i (picture.again h o P.receipts P.claims)
    claims_alike None row i = refl
    claims_alike (Some x) row i = rw (same_key_refl k)
        (claims_moved i (claimed x.sync machine_claim) (claims_before k c m t) (claims_behind k c m t) (nil_of _ (none_there (count h (ahead ++ after) == 0) (not (default_of (live_at (of_key k c.keyed).kept.slots h))) (is_nil (claims_at h P.claims)) row)))

    alike : Alike (let_go_picture h o (ahead ++ after) P) Q
    alike = record { holders = λ i. ap (count i) less; flags = λ i. refl; claims = claims_alike o row; flying = refl }

    counts_after : picture.Depicts (picture_of k then_parts then_machine) e2 (of_key k c.keyed).kept
    counts_after = subst (λ (q : Picture). picture.Depicts q e2 (of_key k c.keyed).kept) (sym picture_after) (stands_alike _ _ e2 _ alike counts)

    refers_same : (o : Option flight.Claim) → (leaving.more_claims (told_claim o) m.tally).refers ≡ m.tally.refers
    refers_same None = refl
    refers_same (Some x) = refl

    is_new : of_key k then_parts.keyed ≡ record (of_key k c.keyed) { entries = e2 }
    is_new = entries_here c.keyed k e2

    key_after : KeyStands sc k then_parts then_machine
    key_after = record {
      living = λ i. rw is_new ((s.keyed k).living i);
      free = rw is_new (s.keyed k).free;
      used = rw is_new (s.keyed k).used;
      rules = rw is_new (s.keyed k).rules;
      dues = rw is_new (s.keyed k).dues;
      counts = rw is_new counts_after;
      made = λ i. rw (is_new, refers_same o) (subst (λ n. n ≤ m.tally.refers) (sym (same_made i)) ((s.keyed k).made i));
    }

    -- at another key
    module _ (q : Key) (other : same_key k q ≡ false) where
      holds_other : frame_holds q (frames.closed G2) ≡ frame_holds q (tasked m t).frame
      holds_other = holds_closed q G2 (formless (told_claim o)) ∙ rw (task, other) refl

      receipts_other : receipts_of q (closed F2) ≡ receipts_of q (part_of c t).frame
      receipts_other = receipts_closed q F2 ∙ rw own refl

      claims_other : frame_claimed q (closed F2) (frames.closed G2) ≡ frame_claimed q (part_of c t).frame (tasked m t).frame
      claims_other = claimed_closed then_parts.keyed q F2 G2 new_frame ∙ (by o ∙ rw (own, task) refl)
        where
          by : (o : Option flight.Claim) → frame_claimed q (Some (F1 (claiming k o))) (Some (G1 (told_claim o))) ≡ []
          by None = refl
          by (Some x) = rw other refl

      same_other : SameKey sc q c then_parts m then_machine
      same_other = record {
        parts = other_with q k (record (of_key k c.keyed) { entries = e2 }) c.keyed other;
        pools = refl;
        living = λ i. refl;
        shown = picture_same q c m t positive s.shape.long inside then_parts then_machine (closed F2) (frames.closed G2) refl refl holds_other receipts_other claims_other;
        refers = let r : then_machine.tally.refers ≡ m.tally.refers = refers_same o in omega (arith, r);
        amounts = λ x. refl;
      }

    tally_after : (o : Option flight.Claim) → SameTally (more_claims o c.tally) (leaving.more_claims (told_claim o) m.tally)
    tally_after None = s.tally
    tally_after (Some x) = record { claims = ap (λ n. n + 1) s.tally.claims; refers = s.tally.refers; asks = s.tally.asks }

    asks_same : (o : Option flight.Claim) → (more_claims o c.tally).asks ≡ c.tally.asks
    asks_same None = refl
    asks_same (Some x) = refl

    pub stands_after : StandsFor sc then_parts then_machine
    stands_after = record {
      keyed = each_key (λ q. KeyStands sc q then_parts then_machine) k key_after (λ q other. elsewhere sc q c then_parts m then_machine (same_other q other) (s.keyed q));
      ledgers = subst (λ (x : Kept). Ledgers sc m.past x.ledgers) (sym (kept_stays c.keyed k e2 keys.Bank)) s.ledgers;
      shape = shape_after;
      history = s.history;
      phase = s.phase;
      tally = tally_after o;
      asked = asks_same o ∙ s.asked ∙ sym (asked_same c.keyed k e2);
      room = s.room;
    }
