-- From what the call of Ask promises to what the event does.
use Rattle.std.proofs.Common.{◌≡◌, ◌≢◌, ℕ, ◌+◌, ◌-◌, ◌<◌, ◌≤◌, arith, not, Bool, true, false, List, [], ◌∷◌, ◌++◌, refl, sym, ap, ◌∙◌, length, subst, Option, Some, None}
use Rattle.std.specs.Prelude.{IsSome, IfSome}
use Rattle.vch_base.specs.declared.key.Key.{Key}
use Rattle.vch_base.specs.declared.kind.Kind.TheVariants as kinds
use Rattle.vch_base.specs.declared.places.Live.{Live}
use Rattle.vch_base.specs.declared.value.Value.TheVariants as values
use Rattle.vch_base.specs.Keyed.{of_key}
use Rattle.vch_base.specs.Values.{is_default}
use Rattle.vch_base.specs.Managers.{Kept, live_at, value_at, value_of, after_release}
use Rattle.vch_entry.specs.Entries.{handle_at, entry_at}
use Rattle.vch_value.specs.Flight as flight
use Rattle.vch_value.specs.Flight.{Asked}
use Rattle.vch_value.specs.Picture as picture
use Rattle.vch_value.specs.Picture.{Picture, Claimed, AgreesAt, with_claims, default_of}
use Rattle.vch_value.specs.Calls.{IsFor}
use Rattle.vch_base.specs.declared.value.Value.{Value}
use Rattle.vch_bounds.specs.Rooms.{room_of}
use Rattle.vch_bounds.proofs.CallerLemmas.{counted}
use Rattle.vch_model.specs.After.{store_of}
use Rattle.vch_model.specs.Legal.{LegalPast}
use Rattle.vch_model.specs.Lines.{is_task}
use Rattle.vch_model.specs.Store.{Alive}
use Rattle.vch_model.specs.Totals.{with_made}
use Rattle.vch_model.specs.declared.entry.Entry.{Entry}
use Rattle.vch_model.specs.declared.lists.Scenario.{Scenario}
use Rattle.vch_machine.specs.State as machine
use Rattle.vch_machine.specs.State.{Place, Machine, tasked}
use Rattle.vch_machine.specs.Next.{next_kind}
use Rattle.vch_machine.specs.Events.{event}
use Rattle.vch_legal.specs.Tie.{Ties}
use Rattle.vch_frame.specs.declared.frame.Claiming.{Claiming}
use Rattle.vch_frame.specs.Pairs.{Optional}
use Rattle.vch_frame.specs.Claims.{claimed}
use Rattle.vch_frame.proofs.CallerLemmas.{there_of, event_is}
use Rattle.vch_values.specs.Parts.{KeyParts, number_at}
use Rattle.vch_parts.specs.declared.frame.Frame.{Frame}
use Rattle.vch_parts.specs.Plain.{Plain, part_of}
use Rattle.vch_parts.specs.Shape.{IsIndexOf, IsClaim, IsReceipt, IsFrame}
use Rattle.vch_parts.specs.Stands.{StandsFor}
use Rattle.vch_parts.specs.Moves.{was_asked}
use Rattle.vch_parts.specs.Reached.{IsEnd, IsEvent}
use Rattle.vch_parts.proofs.framing.Glue.{in_parts, twin_of, from_end, event_of_run, Happens}
use Rattle.vch_parts.proofs.framing.FrameParts.{leaving_frame, leaving_machine, frame_is, machine_frame_is, no_receipt}
use Rattle.vch_parts.proofs.framing.Replaced.{claims_before, claims_behind}
use Rattle.vch_parts.proofs.asks.Asks as asks
use Rattle.vch_parts.proofs.asks.Asks.{asked_machine, asked_machine_is}
use Rattle.vch_parts.proofs.asks.LiveValue.{at_place, in_store}
use Rattle.vch_parts.proofs.claims.OneClaim as one
use Rattle.vch_parts.proofs.claims.OneClaim.{unasked_live, not_default}

-- a claim that was not asked
abbrev unasked : Key → ℕ → Bool → Bool → machine.Claim
unasked k h raced back = record { place = at_place k h; raced = raced; back = back; answer = None }

module _ (sc : Scenario) (c : Plain) (t : ℕ) (f : Frame) (k : Key) (x : flight.Claim) (task : is_task sc t ≡ true)
    (own : (part_of c t).frame ≡ Some f) (receipt : f.receipt ≡ None) (claim : f.claim ≡ Claiming.Claimed k x) where
  abbrev kp : KeyParts
  kp = of_key k c.keyed

  same_frame : f ≡ leaving_frame f f.lets (Claiming.Claimed k x)
  same_frame = frame_is f f.lets (Claiming.Claimed k x) receipt refl claim

  own_is : (part_of c t).frame ≡ Some (leaving_frame f f.lets (Claiming.Claimed k x))
  own_is = own ∙ ap Some same_frame

  -- the frame in a state
  abbrev Seen : Machine → Type 0 → Type 0
  Seen m A = (g : machine.Frame) (h : ℕ) (raced back : Bool) → (tasked m t).frame ≡ Some (leaving_machine g g.lets (Some (unasked k h raced back))) → IsIndexOf c.keyed k x.index h → A

  seen : (m : Machine) (A : Type 0) → StandsFor sc c m → Ties sc m → Seen m A → A
  seen m A s ties q = twin_of sc c m t f A s ties task own (λ g e r. by g e r g.claim refl (subst (λ z. IsClaim c.keyed z g.claim) claim r.claim))
    where
      claim_is : (y : machine.Claim) → k ≡ y.place.key → y.answer ≡ None → y ≡ unasked k y.place.handle y.raced y.back
      claim_is y a b = rw (a, ← b) refl

      by : (g : machine.Frame) → (tasked m t).frame ≡ Some g → IsFrame c.keyed f g → (o : Option machine.Claim) → g.claim ≡ o → IsClaim c.keyed (Claiming.Claimed k x) o → A
      by g e r None z w = absurd w
      by g e r (Some y) z w = q g y.place.handle y.raced y.back
          (e ∙ ap Some (machine_frame_is g g.lets (Some (unasked k y.place.handle y.raced y.back))
          (no_receipt g.receipt (subst (λ o. Optional IsReceipt o g.receipt) receipt r.receipt)) refl (z ∙ ap Some (claim_is y w.0 w.2))))
          w.1

  module _ (m : Machine) (s : StandsFor sc c m) (ties : Ties sc m) (g : machine.Frame) (h : ℕ) (raced back : Bool)
      (e : (tasked m t).frame ≡ Some (leaving_machine g g.lets (Some (unasked k h raced back)))) (index : IsIndexOf c.keyed k x.index h) where
    range : (0 < t) × (t - 1 < length c.tasks)
    range = in_parts sc c m t s ties task

    -- the value is live, and not Default
    live_with : (A : Type 0) → ((l : Live) → live_at kp.kept.slots h ≡ Some l → A) → A
    live_with A q = unasked_live _ _ _ _ _ (one.meets sc c m t range.0 range.1 f f.lets g g.lets (Claiming.Claimed k x) (unasked k h raced back) own_is e s) refl A q

    other : default_of (live_at kp.kept.slots h) ≡ false
    other = not_default _ _ _ _ _ (one.meets sc c m t range.0 range.1 f f.lets g g.lets (Claiming.Claimed k x) (unasked k h raced back) own_is e s)

    is_other : (o : Option Live) → default_of o ≡ false → value_of o ≢ Some values.Default
    is_other None a q = cc
    is_other (Some l) a q = let v : l.value ≡ values.Default = cc in let d : is_default l.value ≡ true = ap is_default v in cc

    module _ (want : Bool) (l : Live) (alive : live_at kp.kept.slots h ≡ Some l) (asked : Asked) (kept2 : Kept)
        (same_index : asked.index ≡ x.index) (same_sync : asked.sync ≡ x.sync) (leaves : kept2 ≡ after_release kp.kept h asked.agreed)
        (stands : (q : Picture) (z : Claimed) (before after : List Claimed) → q.claims ≡ before ++ z ∷ after → IsFor kp.entries x z → z.answered ≡ None → picture.Depicts q kp.entries kp.kept
        → picture.Depicts (with_claims q (before ++ picture.with_answer asked.agreed z ∷ after)) kp.entries kept2)
        (row : (q : Picture) (z : Claimed) (before after : List Claimed) → q.claims ≡ before ++ z ∷ after → IsFor kp.entries x z → z.answered ≡ None → picture.Depicts q kp.entries kp.kept → asked.agreed ≡ not z.raced) where
      plain : is_default l.value ≡ false
      plain = sym (ap default_of alive) ∙ other

      abbrev Y : machine.Claim
      Y = unasked k h raced back

      abbrev Next : Machine
      Next = asked_machine m t (leaving_machine g g.lets (Some Y)) Y asked.agreed

      abbrev Q : Picture
      Q = one.P sc c m t range.0 range.1 f f.lets g g.lets (Claiming.Claimed k x) Y own_is e s

      split : Q.claims ≡ claims_before k c m t ++ claimed x.sync Y ∷ claims_behind k c m t
      split = one.split sc c m t range.0 range.1 f f.lets g g.lets (Claiming.Claimed k x) Y own_is e s

      now : picture.Depicts Q kp.entries kp.kept
      now = one.stands_now sc c m t range.0 range.1 f f.lets g g.lets (Claiming.Claimed k x) Y own_is e s

      next_is : next_kind sc m t ≡ Some kinds.Ask
      next_is = rw e refl

      agreed_is : asked.agreed ≡ not raced
      agreed_is = row Q (claimed x.sync Y) (claims_before k c m t) (claims_behind k c m t) split (index, refl) refl now

      happens : event sc want m t ≡ Some Next
      happens = event_is sc want m t (leaving_machine g g.lets (Some Y)) kinds.Ask (Some Next) task e next_is
          (ap Some (asked_machine_is m t (leaving_machine g g.lets (Some Y)) Y asked.agreed agreed_is))

      counts : picture.Depicts (with_claims Q (claims_before k c m t ++ picture.with_answer asked.agreed (claimed x.sync Y) ∷ claims_behind k c m t)) kp.entries (after_release kp.kept h asked.agreed)
      counts = subst (λ z. picture.Depicts (with_claims Q (claims_before k c m t ++ picture.with_answer asked.agreed (claimed x.sync Y) ∷ claims_behind k c m t)) kp.entries z) leaves
          (stands Q (claimed x.sync Y) (claims_before k c m t) (claims_behind k c m t) split (index, refl) refl now)

      after_it : Happens sc want kinds.Ask t (was_asked c t f k (number_at kp.numbers h) kept2 asked) m
      after_it = (
        Next,
        happens,
        next_is,
        subst (λ z. StandsFor sc (was_asked c t z k (number_at kp.numbers h) kept2 asked) Next) (sym same_frame)
            (subst (λ z. StandsFor sc (was_asked c t (leaving_frame f f.lets (Claiming.Claimed k x)) k (number_at kp.numbers h) z asked) Next) (sym leaves)
            (asks.stands_after sc c m t range.0 range.1 f f.lets g g.lets k h raced back x own_is e index s ties asked l same_index same_sync alive plain counts)),
      )

  -- what the call needs

  pub ask_there : IsEnd sc c → IsSome (entry_at kp.entries.slots x.index)
  ask_there r = from_end sc c _ r (λ m s ties. seen m _ s ties (λ g h raced back e index. there_of kp.entries.slots x.index h index))

  pub ask_live : IsEnd sc c → IfSome (handle_at kp.entries.slots x.index) (λ h. IsSome (live_at kp.kept.slots h))
  ask_live r = from_end sc c _ r (λ m s ties. seen m _ s ties (λ g h raced back e index.
      subst (λ o. IfSome o (λ h. IsSome (live_at kp.kept.slots h))) (sym index) (live_with m s ties g h raced back e index _ (λ l alive. subst IsSome (sym alive) refl))))

  pub ask_other : IsEnd sc c → IfSome (handle_at kp.entries.slots x.index) (λ h. value_at kp.kept.slots h ≢ Some values.Default)
  ask_other r = from_end sc c _ r (λ m s ties. seen m _ s ties (λ g h raced back e index.
      subst (λ o. IfSome o (λ h. value_at kp.kept.slots h ≢ Some values.Default)) (sym index) (is_other m s ties g h raced back e index (live_at kp.kept.slots h) (other m s ties g h raced back e index))))

  -- the value can still be released, so there is room for the entry
  pub ask_room : IsEnd sc c → 1 ≤ c.spare
  ask_room r = from_end sc c _ r (λ m s ties. seen m _ s ties (λ g h raced back e index. live_with m s ties g h raced back e index _ (λ l alive.
      let found = in_store sc c m k h l s alive ties (sym (ap default_of alive) ∙ other m s ties g h raced back e index) in
      room_left sc m.past c.spare ties.legal (some_made (store_of sc m.past).live (number_at kp.numbers h) l.value found) s.room)))
    where
      some_made : (live : List Alive) (n : ℕ) (v : Value) → with_made live n ≡ Some v → 1 ≤ length live
      some_made [] n v e = absurd (cc)
      some_made (a ∷ live) n v e = omega arith

      room_left : (sc : Scenario) (past : List Entry) (spare : ℕ) → LegalPast sc past → 1 ≤ length (store_of sc past).live → room_of sc past ≤ length past + spare → 1 ≤ spare
      room_left sc past spare legal live room = let n = counted sc past legal in omega (arith, live, room, n.entries, n.answers, n.phases, n.released, n.given_up)

  -- and what it does
  one_handle : {a b : ℕ} → Some a ≡ Some b → a ≡ b
  one_handle q = cc

  pub ask_event : (asked : Asked) (kept2 : Kept) (handle : ℕ) → asked.index ≡ x.index → asked.sync ≡ x.sync → handle_at kp.entries.slots x.index ≡ Some handle
      → IfSome (handle_at kp.entries.slots x.index) (λ h. kept2 ≡ after_release kp.kept h asked.agreed)
      → ((q : Picture) (z : Claimed) (before after : List Claimed) → q.claims ≡ before ++ z ∷ after → IsFor kp.entries x z → z.answered ≡ None → picture.Depicts q kp.entries kp.kept
      → picture.Depicts (with_claims q (before ++ picture.with_answer asked.agreed z ∷ after)) kp.entries kept2)
      → ((q : Picture) (z : Claimed) (before after : List Claimed) → q.claims ≡ before ++ z ∷ after → IsFor kp.entries x z → z.answered ≡ None → picture.Depicts q kp.entries kp.kept → asked.agreed ≡ not z.raced)
      → IsEvent sc kinds.Ask t c (was_asked c t f k (number_at kp.numbers handle) kept2 asked)
  ask_event asked kept2 handle same_index same_sync at leaves stands row = event_of_run sc kinds.Ask t c _ (λ want m s ties. seen m _ s ties (λ g h raced back e index. live_with m s ties g h raced back e index _ (λ l alive.
      let left : kept2 ≡ after_release kp.kept h asked.agreed = subst (λ o. IfSome o (λ h. kept2 ≡ after_release kp.kept h asked.agreed)) index leaves in
      let same : h ≡ handle = one_handle (sym index ∙ at) in
      subst (λ z. Happens sc want kinds.Ask t (was_asked c t f k (number_at kp.numbers z) kept2 asked) m) same
      (after_it m s ties g h raced back e index want l alive asked kept2 same_index same_sync left stands row))))
