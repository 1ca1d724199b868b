-- From what the call of Recheck promises to what the event does.
use Rattle.std.proofs.Common.{◌≡◌, ◌≢◌, ℕ, ◌-◌, ◌<◌, ◌≤◌, ◌==◌, not, Bool, true, List, [], ◌∷◌, ◌++◌, refl, sym, ap, ◌∙◌, length, subst, Option, Some, None, inl, inr, IsTrue}
use Rattle.std.specs.Prelude.{is_some, IfSome}
use Rattle.std.proofs.lemmas.Bool.{cases_eq}
use Rattle.vch_base.specs.declared.key.Key.{Key}
use Rattle.vch_base.specs.declared.kind.Kind.TheVariants as kinds
use Rattle.vch_base.specs.Keyed.{of_key}
use Rattle.vch_base.specs.Managers.{Kept, live_at, count}
use Rattle.vch_entry.specs.declared.table.Entry.{Entry}
use Rattle.vch_entry.specs.declared.table.Check.{Check}
use Rattle.vch_entry.specs.declared.table.Check.TheVariants as check
use Rattle.vch_entry.specs.Entries.{Entries, handle_at, handle_of, entry_at, made_of, releasing_of, check_answer, checked, Writes, IsApart}
use Rattle.vch_value.specs.Flight as flight
use Rattle.vch_value.specs.Flight.{Asked}
use Rattle.vch_value.specs.Picture as picture
use Rattle.vch_value.specs.Picture.{Picture, Claimed, AgreesAt, with_claims, flags_at, entry_of, again, takes_again}
use Rattle.vch_value.specs.Calls.{IsAnswered, Rechecks, claim_again}
use Rattle.vch_value.proofs.CallerLemmas.{entry_is}
use Rattle.vch_model.specs.Lines.{is_task}
use Rattle.vch_model.specs.declared.lists.Scenario.{Scenario}
use Rattle.vch_machine.specs.State as machine
use Rattle.vch_machine.specs.State.{Place, Machine, tasked}
use Rattle.vch_machine.specs.Frames as frames
use Rattle.vch_machine.specs.Next.{next_kind}
use Rattle.vch_machine.specs.Events.{event}
use Rattle.vch_legal.specs.Tie.{Ties}
use Rattle.vch_frame.specs.declared.frame.Claiming.{Claiming}
use Rattle.vch_frame.specs.Pairs.{Optional}
use Rattle.vch_frame.specs.Claims.{claimed}
use Rattle.vch_frame.proofs.CallerLemmas.{there_of, entry_of_handle, event_is}
use Rattle.vch_values.specs.Parts.{KeyParts}
use Rattle.vch_parts.specs.declared.frame.Frame.{Frame}
use Rattle.vch_parts.specs.Plain.{Plain, part_of}
use Rattle.vch_parts.specs.Shape.{IsIndexOf, IsClaim, IsReceipt, IsFrame, IsTask}
use Rattle.vch_parts.specs.Stands.{StandsFor}
use Rattle.vch_parts.specs.Moves.{rechecked}
use Rattle.vch_parts.specs.Reached.{IsEnd, IsEvent}
use Rattle.vch_parts.proofs.framing.Glue.{in_parts, twin_of, from_end, event_of_run, Happens}
use Rattle.vch_parts.proofs.framing.FrameParts.{leaving_frame, leaving_machine, frame_is, machine_frame_is, no_receipt}
use Rattle.vch_parts.proofs.framing.Replaced.{claims_before, claims_behind}
use Rattle.vch_parts.proofs.holders.Stable.{Keeps, task_stays, frame_stays}
use Rattle.vch_parts.proofs.keys.Entered.{keeps_entries, entries_here}
use Rattle.vch_parts.proofs.rechecks.Checked.{checked_cases, made_falls}
use Rattle.vch_parts.proofs.rechecks.Gone.{steady_gone}
use Rattle.vch_parts.proofs.rechecks.Rechecks as rechecks
use Rattle.vch_parts.proofs.rechecks.Rechecks.{Steady, at_place}
use Rattle.vch_parts.proofs.claims.OneClaim as one

-- a claim with its answer
abbrev answered : Key → ℕ → Bool → Bool → Bool → machine.Claim
answered k h raced back agreed = record { place = at_place k h; raced = raced; back = back; answer = Some agreed }

module _ (sc : Scenario) (c : Plain) (t : ℕ) (f : Frame) (k : Key) (x : Asked) (task : is_task sc t ≡ true)
    (own : (part_of c t).frame ≡ Some f) (receipt : f.receipt ≡ None) (claim : f.claim ≡ Claiming.Answered k x) where
  abbrev kp : KeyParts
  kp = of_key k c.keyed

  same_frame : f ≡ leaving_frame f f.lets (Claiming.Answered k x)
  same_frame = frame_is f f.lets (Claiming.Answered k x) receipt refl claim

  own_is : (part_of c t).frame ≡ Some (leaving_frame f f.lets (Claiming.Answered k x))
  own_is = own ∙ ap Some same_frame

  -- the frame in a state
  abbrev Seen : Machine → Type 0 → Type 0
  Seen m A = (g : machine.Frame) (h : ℕ) (raced back : Bool) → (tasked m t).frame ≡ Some (leaving_machine g g.lets (Some (answered k h raced back x.agreed))) → IsIndexOf c.keyed k x.index h → A

  seen : (m : Machine) (A : Type 0) → StandsFor sc c m → Ties sc m → Seen m A → A
  seen m A s ties q = twin_of sc c m t f A s ties task own (λ g e r. by g e r g.claim refl (subst (λ z. IsClaim c.keyed z g.claim) claim r.claim))
    where
      claim_is : (y : machine.Claim) → k ≡ y.place.key → y.answer ≡ Some x.agreed → y ≡ answered k y.place.handle y.raced y.back x.agreed
      claim_is y a b = rw (a, ← b) refl

      by : (g : machine.Frame) → (tasked m t).frame ≡ Some g → IsFrame c.keyed f g → (o : Option machine.Claim) → g.claim ≡ o → IsClaim c.keyed (Claiming.Answered k x) o → A
      by g e r None z w = absurd w
      by g e r (Some y) z w = q g y.place.handle y.raced y.back
          (e ∙ ap Some (machine_frame_is g g.lets (Some (answered k y.place.handle y.raced y.back x.agreed))
          (no_receipt g.receipt (subst (λ o. Optional IsReceipt o g.receipt) receipt r.receipt)) refl (z ∙ ap Some (claim_is y w.0 w.2))))
          w.1

  module _ (m : Machine) (s : StandsFor sc c m) (ties : Ties sc m) (g : machine.Frame) (h : ℕ) (raced back : Bool)
      (e : (tasked m t).frame ≡ Some (leaving_machine g g.lets (Some (answered k h raced back x.agreed)))) (index : IsIndexOf c.keyed k x.index h) where
    range : (0 < t) × (t - 1 < length c.tasks)
    range = in_parts sc c m t s ties task

    abbrev Y : machine.Claim
    Y = answered k h raced back x.agreed

    abbrev P : Picture
    P = one.P sc c m t range.0 range.1 f f.lets g g.lets (Claiming.Answered k x) Y own_is e s

    meets : AgreesAt (count h P.holders) (flags_at h P.receipts) (claimed x.sync Y ∷ []) (live_at kp.kept.slots h) (entry_of kp.entries.slots h)
    meets = one.meets sc c m t range.0 range.1 f f.lets g g.lets (Claiming.Answered k x) Y own_is e s

    split : P.claims ≡ claims_before k c m t ++ claimed x.sync Y ∷ claims_behind k c m t
    split = one.split sc c m t range.0 range.1 f f.lets g g.lets (Claiming.Answered k x) Y own_is e s

    now : picture.Depicts P kp.entries kp.kept
    now = one.stands_now sc c m t range.0 range.1 f f.lets g g.lets (Claiming.Answered k x) Y own_is e s

    entry_here : (en : Entry) → IsApart kp.entries.slots → entry_at kp.entries.slots x.index ≡ Some en → en.handle ≡ h → entry_of kp.entries.slots h ≡ entry_at kp.entries.slots x.index
    entry_here en apart at same = entry_is kp.entries.slots x.index h en apart at same ∙ sym at

    releasing : IsApart kp.entries.slots → IsTrue (releasing_of (entry_at kp.entries.slots x.index))
    releasing apart = entry_of_handle kp.entries.slots x.index h _ index (λ en at same. subst (λ o. IsTrue (releasing_of o)) (entry_here en apart at same) meets.claimed.0)

    within : IsApart kp.entries.slots → x.sync ≤ made_of (entry_at kp.entries.slots x.index)
    within apart = entry_of_handle kp.entries.slots x.index h _ index (λ en at same. subst (λ o. x.sync ≤ made_of o) (entry_here en apart at same) meets.claimed.1)

    module _ (e2 : Entries) (o : Option flight.Claim) where
      abbrev D : Plain
      D = rechecks.then_parts sc c m t range.0 range.1 f f.lets g g.lets k h raced back x own_is e s ties e2 o

      abbrev Same : Type 0
      Same = Steady c D m t (leaving_frame f f.lets Claiming.Nothing) (leaving_machine g g.lets None)

      -- where every index keeps its handle
      steady_kept : ((i : ℕ) → handle_at e2.slots i ≡ handle_at kp.entries.slots i) → Same
      steady_kept handles = record {
        others = λ u n q i. task_stays c.keyed D.keyed stable (part_of c u) (tasked m u) (s.shape.tasks u q i);
        own = (let w : IsTask D.keyed (part_of c t) (tasked m t) = task_stays c.keyed D.keyed stable (part_of c t) (tasked m t) (s.shape.tasks t range.0 range.1) in
            record { names = w.names; next = w.next; queue = w.queue; begun = w.begun; frame = tt });
        frame = (let w = frame_stays c.keyed D.keyed stable _ _ (one.old_frame sc c m t range.0 range.1 f f.lets g g.lets (Claiming.Answered k x) Y own_is e s) in
            record { forming = w.forming; answered = w.answered; at_byte = w.at_byte; keys = w.keys; receipt = w.receipt; lets = w.lets; claim = tt });
      }
        where
          stable : Keeps c.keyed D.keyed
          stable = keeps_entries c.keyed k e2 (λ i j r. handles i ∙ r)

      index_then : (w : flight.Claim) → w.index ≡ x.index → handle_at e2.slots x.index ≡ Some h → IsIndexOf D.keyed k w.index h
      index_then w same at = ap (λ (z : KeyParts). handle_at z.entries.slots w.index) (entries_here c.keyed k e2) ∙ ap (handle_at e2.slots) same ∙ at

      -- the two cases of the call
      steady : IsApart kp.entries.slots → Rechecks kp.entries x o e2 → Same × ((w : flight.Claim) → o ≡ Some w → IsIndexOf D.keyed k w.index h)
      steady apart call = entry_of_handle kp.entries.slots x.index h _ index (λ en at same.
          let answer : (o ≡ claim_again x.index (check_answer en x.sync x.agreed)) × Writes kp.entries.slots e2.slots x.index (checked en x.sync x.agreed) × (kp.entries.spare ≤ e2.spare) =
          subst (λ q. IfSome q (λ en. (o ≡ claim_again x.index (check_answer en x.sync x.agreed)) × Writes kp.entries.slots e2.slots x.index (checked en x.sync x.agreed) × (kp.entries.spare ≤ e2.spare))) at call in
          let written : (i : ℕ) → i ≢ x.index → handle_at e2.slots i ≡ handle_at kp.entries.slots i = λ i n. ap handle_of (answer.1.others i n) in
          checked_cases en x.sync x.agreed _
          (λ gone same_made freed. (
            steady_gone sc c m t range.0 range.1 f f.lets g g.lets k h raced back x own_is e index s ties e2 o written (meets.marked.unheld (meets.marked.back ∙ ap (λ q. not (made_of q == x.sync)) (entry_here en apart at same ∙ at) ∙ ap not same_made)),
            λ w q. absurd (no_claim_then (sym (answer.0 ∙ ap (claim_again x.index) freed) ∙ q)),
          ))
          (λ stays.
          let all : (i : ℕ) → handle_at e2.slots i ≡ handle_at kp.entries.slots i = λ i. elim (cases_eq i x.index) [
            | inl r ↦ subst (λ j. handle_at e2.slots j ≡ handle_at kp.entries.slots j) (sym r) (ap handle_of answer.1.here ∙ stays ∙ sym (ap handle_of at))
            | inr n ↦ written i n
          ] in
          (steady_kept all, λ w q. index_then w (again_index (check_answer en x.sync x.agreed) w (sym answer.0 ∙ q)) (all x.index ∙ index))))
        where
          no_claim_then : {w : flight.Claim} → None ≡ Some w → ⊥
          no_claim_then q = cc

          again_index : (a : Check) (w : flight.Claim) → claim_again x.index a ≡ Some w → w.index ≡ x.index
          again_index (check.Again sync) w q = let r : record { index = x.index; sync = sync } ≡ w = some_is q in sym (ap (λ (u : flight.Claim). u.index) r)
            where
              some_is : {a b : flight.Claim} → Some a ≡ Some b → a ≡ b
              some_is v = cc
          again_index check.Freed w q = cc
          again_index check.Done w q = cc

      module _ (want : Bool) (apart : IsApart kp.entries.slots) (call : Rechecks kp.entries x o e2)
          (stands : (q : Picture) (kept : Kept) (z : Claimed) (before after : List Claimed) → q.claims ≡ before ++ z ∷ after → IsAnswered kp.entries x z → picture.Depicts q kp.entries kept
          → picture.Depicts (with_claims q (before ++ again z.handle o q.receipts after)) e2 kept)
          (row : (q : Picture) (kept : Kept) (z : Claimed) (before after : List Claimed) → q.claims ≡ before ++ z ∷ after → IsAnswered kp.entries x z → picture.Depicts q kp.entries kept → is_some o ≡ takes_again z q) where
        abbrev Next : Machine
        Next = rechecks.then_machine sc c m t range.0 range.1 f f.lets g g.lets k h raced back x own_is e s ties e2 o

        next_is : next_kind sc m t ≡ Some kinds.Recheck
        next_is = rw e refl

        told_row : is_some o ≡ takes_again (claimed x.sync Y) P
        told_row = row P kp.kept (claimed x.sync Y) (claims_before k c m t) (claims_behind k c m t) split (index, refl, refl) now

        happens : event sc want m t ≡ Some Next
        happens = event_is sc want m t (leaving_machine g g.lets (Some Y)) kinds.Recheck (Some Next) task e next_is
            (ap (λ z. Some (frames.with_frame m t (frames.closed (leaving_machine g g.lets z))))
            (rechecks.claim_is sc c m t range.0 range.1 f f.lets g g.lets k h raced back x own_is e s ties o told_row))

        after_it : Happens sc want kinds.Recheck t (rechecked c t f k e2 o) m
        after_it = (
          Next,
          happens,
          next_is,
          subst (λ z. StandsFor sc (rechecked c t z k e2 o) Next) (sym same_frame)
              (rechecks.stands_after sc c m t range.0 range.1 f f.lets g g.lets k h raced back x own_is e s ties e2 o
              (steady apart call).0 (steady apart call).1
              (stands P kp.kept (claimed x.sync Y) (claims_before k c m t) (claims_behind k c m t) split (index, refl, refl) now)
              (made_falls kp.entries e2 x o (there_of kp.entries.slots x.index h index) call m.tally.refers (s.keyed k).made)),
        )

  -- what the call needs

  pub recheck_releasing : IsEnd sc c → IsApart kp.entries.slots → IsTrue (releasing_of (entry_at kp.entries.slots x.index))
  recheck_releasing r apart = from_end sc c _ r (λ m s ties. seen m _ s ties (λ g h raced back e index. releasing m s ties g h raced back e index apart))

  pub recheck_within : IsEnd sc c → IsApart kp.entries.slots → x.sync ≤ made_of (entry_at kp.entries.slots x.index)
  recheck_within r apart = from_end sc c _ r (λ m s ties. seen m _ s ties (λ g h raced back e index. within m s ties g h raced back e index apart))

  -- and what it does
  pub recheck_event : (e2 : Entries) (o : Option flight.Claim) → IsApart kp.entries.slots → Rechecks kp.entries x o e2
      → ((q : Picture) (kept : Kept) (z : Claimed) (before after : List Claimed) → q.claims ≡ before ++ z ∷ after → IsAnswered kp.entries x z → picture.Depicts q kp.entries kept
      → picture.Depicts (with_claims q (before ++ again z.handle o q.receipts after)) e2 kept)
      → ((q : Picture) (kept : Kept) (z : Claimed) (before after : List Claimed) → q.claims ≡ before ++ z ∷ after → IsAnswered kp.entries x z → picture.Depicts q kp.entries kept → is_some o ≡ takes_again z q)
      → IsEvent sc kinds.Recheck t c (rechecked c t f k e2 o)
  recheck_event e2 o apart call stands row = event_of_run sc kinds.Recheck t c _ (λ want m s ties. seen m _ s ties (λ g h raced back e index. after_it m s ties g h raced back e index e2 o want apart call stands row))
