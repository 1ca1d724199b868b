-- Refer keeps all that the parts stand for.
use Rattle.std.proofs.Common.{◌≡◌, ℕ, ◌+◌, ◌-◌, ◌<◌, ◌==◌, ◌&&◌, true, List, [], ◌∷◌, ◌++◌, refl, arith, sym, ap, ◌∙◌, length, map, subst, Option, Some, None, false}
use Rattle.std.specs.List.{flat_map}
use Rattle.vch_base.specs.declared.key.Key.{Key}
use Rattle.vch_base.specs.declared.key.Key.TheVariants as keys
use Rattle.vch_base.specs.Keys.{number_of, same_key}
use Rattle.vch_base.specs.Keyed.{of_key, with_key}
use Rattle.vch_base.specs.Managers.{Kept, count}
use Rattle.vch_entry.specs.Entries.{Entries, handle_at, Refers}
use Rattle.vch_table.specs.Indices.{Bounded, SetsIndex}
use Rattle.vch_value.specs.Flight.{Receipt}
use Rattle.vch_value.specs.Picture as picture
use Rattle.vch_value.specs.Picture.{Picture, Claimed, Alike, bring, claims_at, referred_picture}
use Rattle.vch_value.proofs.CallerLemmas.{stands_alike}
use Rattle.vch_model.specs.declared.call.Call.{Call}
use Rattle.vch_model.specs.declared.lists.Scenario.{Scenario}
use Rattle.vch_machine.specs.State as machine
use Rattle.vch_machine.specs.State.{Handles, Place, same_place, Machine, Tasked, tasked}
use Rattle.vch_machine.specs.Frames as frames
use Rattle.vch_machine.specs.Making.{back_claim, on_claims, one_refer, do_refer}
use Rattle.vch_machine.specs.Naming.{item}
use Rattle.vch_legal.specs.Tie.{moved_place, moved_keys}
use Rattle.vch_legal.proofs.CallerLemmas.{claims_task}
use Rattle.vch_frame.specs.declared.frame.Claiming.{Claiming}
use Rattle.vch_frame.specs.Pairs.{Pairwise, Optional}
use Rattle.vch_frame.specs.Indices.{listed, index_of}
use Rattle.vch_frame.specs.Releases.{let_at}
use Rattle.vch_values.proofs.CallerLemmas.{of_with, same_key_refl}
use Rattle.vch_values.specs.Parts.{KeyParts}
use Rattle.vch_parts.specs.declared.frame.Frame.{Frame}
use Rattle.vch_parts.specs.Plain.{Indices, Plain, part_of}
use Rattle.vch_parts.specs.Shape.{Shape, IsIndexOf, IsLet, IsFrame, IsTask}
use Rattle.vch_parts.specs.Pictures.{picture_of, let_holds, frame_holds}
use Rattle.vch_parts.specs.Stands.{StandsFor, KeyStands, Ledgers}
use Rattle.vch_parts.specs.Moves.{was_referred, moved_on}
use Rattle.vch_parts.proofs.holders.Stable.{Keeps, task_stays, map_stays}
use Rattle.vch_parts.proofs.keys.KeyCases.{each_key, other_with, apart_keys}
use Rattle.vch_parts.proofs.keys.Elsewhere.{SameKey, elsewhere}
use Rattle.vch_parts.proofs.keys.Entered.{entries_here, keeps_entries, kept_stays, asked_same}
use Rattle.vch_parts.proofs.keys.Maps.{at_key, map_with}
use Rattle.vch_parts.proofs.claims.OnClaims.{Shows, back_keeps, back_shows, shape_on, picture_on}
use Rattle.vch_parts.proofs.framing.Replaced.{picture_by, held_before, held_behind, receipts_before, receipts_behind, picture_now, picture_then, picture_same, shape_then}
use Rattle.vch_parts.proofs.framing.FrameParts.{frames_of}
use Rattle.vch_parts.proofs.refers.Moved.{moved_is}
use Rattle.vch_parts.proofs.refers.Referring.{refers_here, refers_keep, refers_made, count_moved}

-- a frame with a receipt
abbrev pub taking_frame : Frame → Key → Indices → Receipt → Frame
taking_frame f k v r = record f { forming = Some v; answered = false; receipt = Some (record { key = k; receipt = r }); lets = []; claim = Claiming.Nothing }

abbrev pub taking_machine : machine.Frame → Key → Handles → ℕ → machine.Frame
taking_machine g k w h = record g { forming = Some w; answered = false; receipt = Some (record { key = k; handle = h }); lets = []; claim = None }

-- and the frame once it was taken: what stood at the key is to be let go of, and the call is at its next key
abbrev pub taken_frame : ℕ → Call → Frame → Key → Indices → Indices → Frame
taken_frame version call f k v u = moved_on version call (record f { forming = Some u; answered = false; receipt = None; lets = let_at k (index_of k v); claim = Claiming.Nothing })

abbrev pub taken_machine : ℕ → Call → machine.Frame → Key → Handles → ℕ → machine.Frame
taken_machine version call g k w h = record g {
  forming = Some (with_key k (Some h) w);
  answered = false;
  at_byte = moved_place version call g.at_byte g.keys;
  keys = moved_keys version call g.at_byte g.keys;
  receipt = None;
  lets = item k (of_key k w);
  claim = None;
}

map_same : {A : Type 0} (xs : List A) → map (λ x. x) xs ≡ xs
map_same [] = refl
map_same (x ∷ xs) = ap (λ ys. x ∷ ys) (map_same xs)

module _ (sc : Scenario) (c : Plain) (m : Machine) (t : ℕ) (positive : 0 < t) (inside : t - 1 < length c.tasks)
    (f : Frame) (g : machine.Frame) (k : Key) (v : Indices) (w : Handles) (receipt : Receipt) (call : Call)
    (own : (part_of c t).frame ≡ Some (taking_frame f k v receipt))
    (task : (tasked m t).frame ≡ Some (taking_machine g k w receipt.handle))
    (s : StandsFor sc c m) where
  abbrev pub h : ℕ
  h = receipt.handle

  abbrev pub back : machine.Claim → machine.Claim
  back = back_claim (record { key = k; handle = h })

  -- between the two halves: the claims on the handle are back
  abbrev pub mid : Machine
  mid = on_claims back m

  shape_mid : Shape sc c mid
  shape_mid = shape_on back (back_keeps _) sc c m s.shape

  abbrev pub F : Frame
  F = taking_frame f k v receipt

  abbrev pub G : machine.Frame
  G = taking_machine g k w h

  task_mid : (tasked mid t).frame ≡ Some G
  task_mid = ap (λ (y : Tasked). y.frame) (claims_task m back t) ∙ rw task refl

  old_frame : IsFrame c.keyed F G
  old_frame = frames_of c.keyed (part_of c t).frame (tasked m t).frame _ _ own task (s.shape.tasks t positive inside).frame

  abbrev pub P : Picture
  P = picture_of k c m

  -- the receipt stands here
  pub split : P.receipts ≡ receipts_before k c m t ++ receipt ∷ receipts_behind k c m t
  split = ap (λ (q : Picture). q.receipts) (picture_now k c m t positive s.shape.long inside) ∙ rw (own, same_key_refl k) refl

  mid_is : picture_by k c mid t (Some F) (Some G) ≡ record P { claims = map (bring h) P.claims }
  mid_is = sym (picture_now k c mid t positive shape_mid.long inside ∙ rw (own, task_mid) refl) ∙ picture_on back (back_keeps _) k (bring h) (back_shows k h) c m

  abbrev pub G2 : machine.Frame
  G2 = taken_machine sc.version call g k w h

  abbrev pub then_machine : Machine
  then_machine = frames.tallied one_refer (frames.with_frame mid t (Some G2))

  pub done_is : do_refer sc.version m t G w call (record { key = k; handle = h }) ≡ then_machine
  done_is = ap (λ o. frames.tallied one_refer (frames.with_frame mid t (frames.closed o)))
      (moved_is sc.version call (record g { forming = Some (with_key k (Some h) w); answered = false; receipt = None; lets = item k (of_key k w); claim = None }))

  module _ (e2 : Entries) (index : ℕ) (u : Indices)
      (refers : Refers (of_key k c.keyed).entries h receipt.persist index e2)
      (bounded : Bounded u) (sets : SetsIndex v u (number_of k) (Some index))
      (counts : picture.Depicts (referred_picture h (receipts_before k c m t ++ receipts_behind k c m t) P) e2 (of_key k c.keyed).kept) where
    abbrev pub F2 : Frame
    F2 = taken_frame sc.version call f k v u

    abbrev pub then_parts : Plain
    then_parts = was_referred c t F2 k e2

    -- names, queues and frames
    stable : Keeps c.keyed then_parts.keyed
    stable = keeps_entries c.keyed k e2 (refers_keep (of_key k c.keyed).entries e2 h receipt.persist index refers)

    is_new : of_key k then_parts.keyed ≡ record (of_key k c.keyed) { entries = e2 }
    is_new = entries_here c.keyed k e2

    index_now : IsIndexOf then_parts.keyed k index h
    index_now = ap (λ (kp : KeyParts). handle_at kp.entries.slots index) is_new ∙ refers_here (of_key k c.keyed).entries e2 h receipt.persist index refers

    lets_now : Pairwise (IsLet then_parts.keyed) (let_at k (index_of k v)) (item k (of_key k w))
    lets_now = by (index_of k v) (of_key k w) (at_key c.keyed k v w old_frame.forming)
      where
        by : (i o : Option ℕ) → Optional (IsIndexOf c.keyed k) i o → Pairwise (IsLet then_parts.keyed) (let_at k i) (item k o)
        by None None p = tt
        by (Some i) (Some o) p = ((refl, stable k i o p), tt)
        by None (Some o) p = absurd p
        by (Some i) None p = absurd p

    new_frame : IsFrame then_parts.keyed F2 G2
    new_frame = record {
      forming = map_with then_parts.keyed k v u w (Some index) (Some h) bounded sets index_now (map_stays c.keyed then_parts.keyed stable v w old_frame.forming);
      answered = refl;
      at_byte = rw (old_frame.at_byte, old_frame.keys) refl;
      keys = rw (old_frame.at_byte, old_frame.keys) refl;
      receipt = tt;
      lets = lets_now;
      claim = tt;
    }

    shape_after : Shape sc then_parts then_machine
    shape_after = shape_then sc c mid t positive inside shape_mid then_parts then_machine (Some F2) (Some G2) refl refl
        (λ a n q i. task_stays c.keyed then_parts.keyed stable (part_of c a) (tasked mid a) (shape_mid.tasks a q i))
        (let z : IsTask then_parts.keyed (part_of c t) (tasked mid t) = task_stays c.keyed then_parts.keyed stable (part_of c t) (tasked mid t) (shape_mid.tasks t positive inside) in
        record { names = z.names; next = z.next; queue = z.queue; begun = z.begun; frame = new_frame })

    -- the picture
    abbrev pub Q : Picture
    Q = picture_by k c mid t (Some F2) (Some G2)

    picture_after : picture_of k then_parts then_machine ≡ Q
    picture_after = picture_then k c mid t positive shape_mid.long inside then_parts then_machine (Some F2) (Some G2) refl refl

    holders_moved : (x : ℕ) (o : Option ℕ) (before behind : List ℕ)
        → count x (before ++ ((h ∷ flat_map (let_holds k) (item k o)) ++ behind)) ≡ count x (h ∷ before ++ ((listed o ++ []) ++ behind))
    holders_moved x None before behind = count_moved x h before behind
    holders_moved x (Some a) before behind = rw (same_key_refl k) (count_moved x h before (a ∷ behind))

    alike : Alike (referred_picture h (receipts_before k c m t ++ receipts_behind k c m t) P) Q
    alike = record {
      holders = λ x. holders_is x ∙ ap (λ xs. count x (h ∷ xs)) (ap (λ (q : Picture). q.holders) mid_is);
      flags = λ i. refl;
      claims = λ i. ap (λ (q : Picture). claims_at i q.claims) mid_is;
      flying = refl;
    }
      where
        holders_is : (x : ℕ) → count x Q.holders ≡ count x (h ∷ (picture_by k c mid t (Some F) (Some G)).holders)
        holders_is x = rw (of_with k (Some h) w) (holders_moved x (of_key k w) (held_before k c mid t) (held_behind k c mid t))

    counts_after : picture.Depicts (picture_of k then_parts then_machine) e2 (of_key k c.keyed).kept
    counts_after = subst (λ (q : Picture). picture.Depicts q e2 (of_key k c.keyed).kept) (sym picture_after) (stands_alike _ _ e2 _ alike counts)

    key_after : KeyStands sc k then_parts then_machine
    key_after = record {
      living = λ i. rw is_new ((s.keyed k).living i);
      free = rw is_new (s.keyed k).free;
      used = rw is_new (s.keyed k).used;
      rules = rw is_new (s.keyed k).rules;
      dues = rw is_new (s.keyed k).dues;
      counts = rw is_new counts_after;
      made = λ i. rw is_new (refers_made (of_key k c.keyed).entries e2 h receipt.persist index refers m.tally.refers (s.keyed k).made i);
    }

    -- at another key
    module _ (q : Key) (other : same_key k q ≡ false) where
      shows_other : Shows q back (λ z. z)
      shows_other sync y e = rw (other_place y.place e) refl
        where
          other_place : (p : Place) → same_key p.key q ≡ true → same_place p (record { key = k; handle = h }) ≡ false
          other_place p e = ap (λ b. b && (p.handle == h)) (apart_keys p.key q k e other)

      same_mid : picture_of q c mid ≡ picture_of q c m
      same_mid = picture_on back (back_keeps _) q (λ z. z) shows_other c m ∙ ap (λ cs. record (picture_of q c m) { claims = cs }) (map_same (picture_of q c m).claims)

      item_other : (o : Option ℕ) → flat_map (let_holds q) (item k o) ≡ []
      item_other None = refl
      item_other (Some a) = rw other refl

      holds_other : frame_holds q (Some G2) ≡ frame_holds q (tasked mid t).frame
      holds_other = rw (task_mid, other_with q k (Some h) w other, item_other (of_key k w)) refl

      shown : picture_of q then_parts then_machine ≡ picture_of q c mid
      shown = picture_same q c mid t positive shape_mid.long inside then_parts then_machine (Some F2) (Some G2) refl refl holds_other (rw (own, other) refl) (rw (own, task_mid) refl)

      same_other : SameKey sc q c then_parts m then_machine
      same_other = record {
        parts = other_with q k (record (of_key k c.keyed) { entries = e2 }) c.keyed other;
        pools = refl;
        living = λ i. refl;
        shown = shown ∙ same_mid;
        refers = omega arith;
        amounts = λ z. refl;
      }

    pub stands_after : StandsFor sc then_parts then_machine
    stands_after = record {
      keyed = each_key (λ q. KeyStands sc q then_parts then_machine) k key_after (λ q other. elsewhere sc q c then_parts m then_machine (same_other q other) (s.keyed q));
      ledgers = subst (λ (z : Kept). Ledgers sc m.past z.ledgers) (sym (kept_stays c.keyed k e2 keys.Bank)) s.ledgers;
      shape = shape_after;
      history = s.history;
      phase = s.phase;
      tally = record { claims = s.tally.claims; refers = ap (λ n. n + 1) s.tally.refers; asks = s.tally.asks };
      asked = s.asked ∙ sym (asked_same c.keyed k e2);
      room = s.room;
    }
