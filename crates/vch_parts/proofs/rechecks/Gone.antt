-- What stands once the entry of a handle that no one uses is gone.
use Rattle.std.proofs.Common.{◌≡◌, ◌≢◌, ℕ, ◌-◌, ◌<◌, nat_lt, ◌||◌, Bool, true, false, List, [], ◌∷◌, ◌++◌, refl, arith, sym, ap, ◌∙◌, length, get_or, Option, Some, None, subst}
use Rattle.std.specs.List.{list_any}
use Rattle.vch_base.specs.declared.key.Key.{Key}
use Rattle.vch_base.specs.Keyed.{of_key}
use Rattle.vch_base.specs.Managers.{count}
use Rattle.vch_entry.specs.Entries.{Entries, handle_at}
use Rattle.vch_value.specs.Flight.{Asked}
use Rattle.vch_value.specs.Flight as flight
use Rattle.vch_value.specs.Picture.{Picture, Claimed, claims_at}
use Rattle.vch_value.proofs.CallerLemmas.{test_same}
use Rattle.vch_model.specs.declared.lists.Scenario.{Scenario}
use Rattle.vch_machine.specs.State as machine
use Rattle.vch_machine.specs.State.{Place, Named, Message, Machine, Tasked, tasked, idle, same_place, task_holds, frame_claims, frame_holds, has_place, option_has, is_held, claims_on}
use Rattle.vch_legal.specs.Tie.{Ties}
use Rattle.vch_legal.proofs.CallerLemmas.{before, behind, all_split}
use Rattle.vch_frame.specs.declared.frame.Claiming.{Claiming}
use Rattle.vch_frame.specs.declared.frame.KeyIndex.{KeyIndex}
use Rattle.vch_frame.specs.Claims.{claimed}
use Rattle.vch_values.proofs.CallerLemmas.{same_key_refl}
use Rattle.vch_frame.proofs.CallerLemmas.{at_place as item_at}
use Rattle.vch_values.specs.Parts.{KeyParts}
use Rattle.vch_parts.specs.declared.frame.Frame.{Frame}
use Rattle.vch_parts.specs.Plain.{Plain, part_of, with_frame}
use Rattle.vch_parts.specs.Shape.{IsIndexOf, IsFrame}
use Rattle.vch_parts.specs.Pictures.{picture_of}
use Rattle.vch_parts.specs.Stands.{StandsFor}
use Rattle.vch_parts.proofs.claims.Claims.{AreThose, claims_those}
use Rattle.vch_parts.proofs.claims.OneClaim as one
use Rattle.vch_parts.proofs.framing.FrameParts.{leaving_frame, leaving_machine}
use Rattle.vch_parts.proofs.framing.Replaced.{framed}
use Rattle.vch_parts.proofs.holders.Held.{held_counted}
use Rattle.vch_parts.proofs.holders.Unused.{either_false, task_unused, frame_unused, none_passes, others_empty, lone}
use Rattle.vch_parts.proofs.keys.KeyCases.{each_key, other_with}
use Rattle.vch_parts.proofs.keys.Entered.{entries_here}
use Rattle.vch_parts.proofs.rechecks.Rechecks as rechecks
use Rattle.vch_parts.proofs.rechecks.Rechecks.{Steady, at_place}

-- one claim of the picture is one of the machine
lone_those : (k : Key) (h : ℕ) (xs : List Claimed) (x : Claimed) (ys : List machine.Claim) (A : Type 0) → xs ≡ x ∷ [] → AreThose k h xs ys → ((y : machine.Claim) → ys ≡ y ∷ [] → A) → A
lone_those k h xs x ys A e r f = by ys (subst (λ u. AreThose k h u ys) e r) f
  where
    by : (ys : List machine.Claim) → AreThose k h (x ∷ []) ys → ((y : machine.Claim) → ys ≡ y ∷ [] → A) → A
    by [] r f = absurd r
    by (y ∷ []) r f = f y refl
    by (y ∷ z ∷ ys) r f = absurd r.1

module _ (sc : Scenario) (c : Plain) (m : Machine) (t : ℕ) (positive : 0 < t) (inside : t - 1 < length c.tasks)
    (f : Frame) (ls : List KeyIndex) (g : machine.Frame) (rest : List Place) (k : Key) (h : ℕ) (raced back : Bool) (x : Asked)
    (own : (part_of c t).frame ≡ Some (leaving_frame f ls (Claiming.Answered k x)))
    (task : (tasked m t).frame ≡ Some (leaving_machine g rest (Some (record { place = at_place k h; raced = raced; back = back; answer = Some x.agreed }))))
    (index : IsIndexOf c.keyed k x.index h) (s : StandsFor sc c m) (ties : Ties sc m)
    (e2 : Entries) (o : Option flight.Claim) where
  abbrev y : machine.Claim
  y = record { place = at_place k h; raced = raced; back = back; answer = Some x.agreed }

  abbrev P : Picture
  P = one.P sc c m t positive inside f ls g rest (Claiming.Answered k x) y own task s

  is_now : picture_of k c m ≡ P
  is_now = one.is_now sc c m t positive inside f ls g rest (Claiming.Answered k x) y own task s

  abbrev D : Plain
  D = rechecks.then_parts sc c m t positive inside f ls g rest k h raced back x own task s ties e2 o

  old_frame : IsFrame c.keyed (leaving_frame f ls (Claiming.Answered k x)) (leaving_machine g rest (Some y))
  old_frame = one.old_frame sc c m t positive inside f ls g rest (Claiming.Answered k x) y own task s

  module _ (writes : (i : ℕ) → i ≢ x.index → handle_at e2.slots i ≡ handle_at (of_key k c.keyed).entries.slots i) (free : count h P.holders ≡ 0) where
    abbrev gone : Place
    gone = at_place k h

    unheld : is_held m gone ≡ false
    unheld = held_counted k h c m ∙ ap (λ (q : Picture). nat_lt 0 (count h q.holders)) is_now ∙ ap (λ n. nat_lt 0 n) free

    no_holder : (i : ℕ) → task_holds gone (get_or m.tasks i idle) ≡ false
    no_holder i = none_passes (task_holds gone) idle refl m.tasks i unheld

    own_claims : frame_claims (tasked m t).frame gone ≡ y ∷ []
    own_claims = rw (task, same_key_refl k, test_same h) refl

    claims_split : claims_on m gone ≡ before (λ (a : Tasked). frame_claims a.frame gone) m.tasks t ++ (y ∷ behind (λ (a : Tasked). frame_claims a.frame gone) m.tasks t)
    claims_split = all_split (λ (a : Tasked). frame_claims a.frame gone) m.tasks t idle (positive, omega (arith, s.shape.long, inside, positive))
        ∙ ap (λ xs. before (λ (a : Tasked). frame_claims a.frame gone) m.tasks t ++ (xs ++ behind (λ (a : Tasked). frame_claims a.frame gone) m.tasks t)) own_claims

    no_claim : (u : ℕ) → u - 1 ≢ t - 1 → 0 < u → frame_claims (tasked m u).frame gone ≡ []
    no_claim u n q = lone_those k h (claims_at h (picture_of k c m).claims) (claimed x.sync y) (claims_on m gone) _
        (ap (λ (q : Picture). claims_at h q.claims) is_now ∙ one.alone sc c m t positive inside f ls g rest (Claiming.Answered k x) y own task s) (claims_those k h sc c m s.shape)
        (λ v r. let b = lone _ _ y v (sym claims_split ∙ r) in others_empty (λ (a : Tasked). frame_claims a.frame gone) idle refl m.tasks t u b.0 b.1 (λ e. n (ap (λ i. i - 1) e)))

    other_index : (i j : ℕ) → same_place (at_place k j) gone ≡ false → handle_at (of_key k c.keyed).entries.slots i ≡ Some j → i ≢ x.index
    other_index i j n r = λ q. differ (sym r ∙ ap (handle_at (of_key k c.keyed).entries.slots) q ∙ index)
      where
        differ : Some j ≡ Some h → ⊥
        differ w =
            let a : j ≡ h = cc in
            let b : same_place (at_place k h) gone ≡ true = rw (same_key_refl k, test_same h) refl in
            let d : same_place (at_place k j) gone ≡ true = ap (λ v. same_place (at_place k v) gone) a ∙ b in
            let no : true ≡ false = sym d ∙ n in cc

    stable : (q : Key) (i j : ℕ) → same_place (at_place q j) gone ≡ false → IsIndexOf c.keyed q i j → IsIndexOf D.keyed q i j
    stable = each_key (λ q. (i j : ℕ) → same_place (at_place q j) gone ≡ false → IsIndexOf c.keyed q i j → IsIndexOf D.keyed q i j) k
        (λ i j n r. ap (λ (z : KeyParts). handle_at z.entries.slots i) (entries_here c.keyed k e2) ∙ writes i (other_index i j n r) ∙ r)
        (λ q other i j n r. ap (λ (z : KeyParts). handle_at z.entries.slots i) (other_with q k (record (of_key k c.keyed) { entries = e2 }) c.keyed other) ∙ r)

    own_free : (task_holds gone (framed (tasked m t) None) ≡ false) × (frame_holds (Some (leaving_machine g rest None)) gone ≡ false)
    own_free =
        let w : task_holds gone (tasked m t) ≡ false = ap (task_holds gone) (item_at m.tasks t idle positive) ∙ no_holder (t - 1) in
        let a = either_false (list_any (λ (n : Named). has_place n.voucher gone) (tasked m t).names) (list_any (λ (q : Message). option_has q.voucher gone) (tasked m t).queue || frame_holds (tasked m t).frame gone) w in
        let b = either_false (list_any (λ (q : Message). option_has q.voucher gone) (tasked m t).queue) (frame_holds (tasked m t).frame gone) a.1 in
        (rw (a.0, b.0) refl, sym (ap (λ v. frame_holds v gone) task) ∙ b.1)

    pub steady_gone : Steady c D m t (leaving_frame f ls Claiming.Nothing) (leaving_machine g rest None)
    steady_gone = record {
      others = λ u n q i. task_unused c.keyed D.keyed gone stable (part_of c u) (tasked m u) (ap (task_holds gone) (item_at m.tasks u idle q) ∙ no_holder (u - 1)) (no_claim u n q) (s.shape.tasks u q i);
      own = task_unused c.keyed D.keyed gone stable (with_frame (part_of c t) None) (framed (tasked m t) None) own_free.0 refl
          (let w = s.shape.tasks t positive inside in record { names = w.names; next = w.next; queue = w.queue; begun = w.begun; frame = tt });
      frame = frame_unused c.keyed D.keyed gone stable _ _ own_free.1 refl
          (record { forming = old_frame.forming; answered = old_frame.answered; at_byte = old_frame.at_byte; keys = old_frame.keys; receipt = old_frame.receipt; lets = old_frame.lets; claim = tt });
    }
