-- What the four events do to the parts.
use Rattle.std.proofs.Common.{◌≡◌, ℕ, not, true, List, ◌∷◌, ◌++◌, refl, sym, ap, ◌∙◌, subst, Option, Some, None}
use Rattle.std.specs.Prelude.{is_some, IfSome}
use Rattle.vch_base.specs.declared.key.Key.{Key}
use Rattle.vch_base.specs.declared.kind.Kind.TheVariants as kinds
use Rattle.vch_base.specs.Keyed.{Keyed, of_key, with_key}
use Rattle.vch_base.specs.Managers.{Kept, after_release}
use Rattle.vch_entry.specs.Entries.{handle_at, IsApart, Refers}
use Rattle.vch_value.specs.Flight as flight
use Rattle.vch_value.specs.Flight.{Asked, Receipt}
use Rattle.vch_value.specs.Picture as picture
use Rattle.vch_value.specs.Picture.{Picture, Claimed, let_go_picture, takes_claim, with_claims, again, takes_again, referred_picture}
use Rattle.vch_value.specs.Calls.{LetsGo, IsFor, IsAnswered, Rechecks}
use Rattle.vch_values.specs.Parts.{KeyParts, number_at}
use Rattle.vch_model.specs.Lines.{is_task}
use Rattle.vch_model.specs.Rows as rows
use Rattle.vch_model.specs.declared.call.Call.{Call}
use Rattle.vch_model.specs.declared.entry.Entry.{Entry}
use Rattle.vch_machine.specs.Next.{nth_call}
use Rattle.vch_frame.specs.declared.frame.Claiming.{Claiming}
use Rattle.vch_frame.specs.declared.frame.KeyIndex.{KeyIndex}
use Rattle.vch_frame.specs.declared.frame.KeyReceipt.{KeyReceipt}
use Rattle.vch_frame.specs.declared.tally.Tally.{Tally}
use Rattle.vch_frame.specs.Releases.{noted_release, less_room}
use Rattle.vch_frame.specs.Claims.{claiming}
use Rattle.vch_frame.specs.Tallies.{more_claims, one_asked, one_referred}
use Rattle.vch_parts.specs.declared.frame.Frame.{Frame}
use Rattle.vch_parts.specs.declared.frames.Working.{Working}
use Rattle.vch_parts.specs.declared.parts.Parts.{Parts}
use Rattle.vch_parts.specs.Framed.{frame_of, begun_of, with_frame_of}
use Rattle.vch_parts.specs.Moves.{PutsIndex, moved_on}
use Rattle.vch_parts.specs.Nexts.{value_kind}
use Rattle.vch_parts.specs.Plain.{Plain, Part, part_of, closed}
use Rattle.vch_parts.specs.Reached.{plain_of, Reached, Follows, IsEvent}
use Rattle.vch_parts.proofs.asks.AsksEvent.{ask_event}
use Rattle.vch_parts.proofs.lets.LetsGoEvent.{let_go_event}
use Rattle.vch_parts.proofs.rechecks.RechecksEvent.{recheck_event}
use Rattle.vch_parts.proofs.refers.RefersEvent.{refer_event}
use Rattle.vch_parts.proofs.framing.OfParts.{own_frame, own_begun, tasks_then, entries_then, kept_then, lets_go_next, asks_next, rechecks_next}

plain_is : (x : Plain) (a b : Keyed KeyParts) (d e : List Part) (f g : List Entry) (i j : ℕ) (k l : Tally) → a ≡ b → d ≡ e → f ≡ g → i ≡ j → k ≡ l
    → record x { keyed = a; tasks = d; history = f; spare = i; tally = k } ≡ record x { keyed = b; tasks = e; history = g; spare = j; tally = l }
plain_is x a b d e f g i j k l p q r s t = rw (p, q, r, s, t) refl

module _ (p : Parts) (t : ℕ) (f : Frame) (reached : Reached p) (task : is_task p.scenario t ≡ true) (own : frame_of p.frames t ≡ Some f) where
  own_is : (part_of (plain_of p) t).frame ≡ Some f
  own_is = own_frame p t reached task ∙ own

  pub let_go_follows : (l : KeyIndex) (ls : List KeyIndex) → value_kind (frame_of p.frames t) ≡ Some kinds.LetGo → f.lets ≡ l ∷ ls
      → (new : Keyed KeyParts) → new ≡ with_key l.key (of_key l.key new) p.values → (of_key l.key new).kept ≡ (of_key l.key p.values).kept → (of_key l.key new).numbers ≡ (of_key l.key p.values).numbers
      → (o : Option flight.Claim) → LetsGo (of_key l.key p.values).entries l.index o (of_key l.key new).entries
      → ((x : Picture) (kept : Kept) (h : ℕ) (before behind : List ℕ) → handle_at (of_key l.key p.values).entries.slots l.index ≡ Some h → x.holders ≡ before ++ h ∷ behind → picture.Depicts x (of_key l.key p.values).entries kept → picture.Depicts (let_go_picture h o (before ++ behind) x) (of_key l.key new).entries kept)
      → ((x : Picture) (kept : Kept) (h : ℕ) (before behind : List ℕ) → handle_at (of_key l.key p.values).entries.slots l.index ≡ Some h → x.holders ≡ before ++ h ∷ behind → picture.Depicts x (of_key l.key p.values).entries kept → is_some o ≡ takes_claim h (before ++ behind) x kept)
      → (frames2 : List Working) (tally2 : Tally) → frames2 ≡ with_frame_of (with_frame_of p.frames t None) t (closed (record f { lets = ls; claim = claiming l.key o })) → tally2 ≡ more_claims o p.tally
      → Follows kinds.LetGo t p (record p { frames = frames2; values = new; tally = tally2 })
  let_go_follows l ls next lets new others kept numbers o call stands row frames2 tally2 put counted =
      let told = lets_go_next f (sym (ap value_kind own) ∙ next) in record {
        scenario = refl;
        event = subst (IsEvent p.scenario kinds.LetGo t (plain_of p))
            (sym (plain_is (plain_of p) _ _ _ _ _ _ _ _ _ _ (entries_then l.key p.values new others kept numbers) (tasks_then p t reached task frames2 _ put) refl refl counted))
            (let_go_event p.scenario (plain_of p) t f l ls task own_is told.0 told.1 lets (of_key l.key new).entries o call stands row);
      }

  pub ask_follows : (k : Key) (x : flight.Claim) → value_kind (frame_of p.frames t) ≡ Some kinds.Ask → f.claim ≡ Claiming.Claimed k x
      → (new : Keyed KeyParts) → new ≡ with_key k (of_key k new) p.values → (of_key k new).entries ≡ (of_key k p.values).entries → (of_key k new).numbers ≡ (of_key k p.values).numbers
      → (asked : Asked) → asked.index ≡ x.index → asked.sync ≡ x.sync → (handle : ℕ) → handle_at (of_key k p.values).entries.slots x.index ≡ Some handle
      → IfSome (handle_at (of_key k p.values).entries.slots x.index) (λ h. (of_key k new).kept ≡ after_release (of_key k p.values).kept h asked.agreed)
      → ((q : Picture) (z : Claimed) (before after : List Claimed) → q.claims ≡ before ++ z ∷ after → IsFor (of_key k p.values).entries x z → z.answered ≡ None → picture.Depicts q (of_key k p.values).entries (of_key k p.values).kept
      → picture.Depicts (with_claims q (before ++ picture.with_answer asked.agreed z ∷ after)) (of_key k p.values).entries (of_key k new).kept)
      → ((q : Picture) (z : Claimed) (before after : List Claimed) → q.claims ≡ before ++ z ∷ after → IsFor (of_key k p.values).entries x z → z.answered ≡ None → picture.Depicts q (of_key k p.values).entries (of_key k p.values).kept → asked.agreed ≡ not z.raced)
      → (frames2 : List Working) (tally2 : Tally) (history2 : rows.Entries) (made : ℕ)
      → frames2 ≡ with_frame_of (with_frame_of p.frames t None) t (Some (record f { claim = Claiming.Answered k asked })) → tally2 ≡ one_asked p.tally
      → made ≡ number_at (of_key k p.values).numbers handle → history2.entries ≡ noted_release asked.agreed made p.history.entries → history2.spare ≡ less_room asked.agreed p.history.spare
      → Follows kinds.Ask t p (record p { frames = frames2; values = new; tally = tally2; history = history2 })
  ask_follows k x next claim new others entries numbers asked same_index same_sync handle at leaves stands row frames2 tally2 history2 made put counted number noted room = record {
    scenario = refl;
    event = subst (IsEvent p.scenario kinds.Ask t (plain_of p))
        (sym (plain_is (plain_of p) _ _ _ _ _ _ _ _ _ _ (kept_then k p.values new others entries numbers) (tasks_then p t reached task frames2 _ put) (noted ∙ ap (λ n. noted_release asked.agreed n p.history.entries) number) room counted))
        (ask_event p.scenario (plain_of p) t f k x task own_is (asks_next f (sym (ap value_kind own) ∙ next)) claim asked (of_key k new).kept handle same_index same_sync at leaves stands row);
  }

  pub recheck_follows : (k : Key) (x : Asked) → value_kind (frame_of p.frames t) ≡ Some kinds.Recheck → f.claim ≡ Claiming.Answered k x → IsApart (of_key k p.values).entries.slots
      → (new : Keyed KeyParts) → new ≡ with_key k (of_key k new) p.values → (of_key k new).kept ≡ (of_key k p.values).kept → (of_key k new).numbers ≡ (of_key k p.values).numbers
      → (o : Option flight.Claim) → Rechecks (of_key k p.values).entries x o (of_key k new).entries
      → ((q : Picture) (kept : Kept) (z : Claimed) (before after : List Claimed) → q.claims ≡ before ++ z ∷ after → IsAnswered (of_key k p.values).entries x z → picture.Depicts q (of_key k p.values).entries kept
      → picture.Depicts (with_claims q (before ++ again z.handle o q.receipts after)) (of_key k new).entries kept)
      → ((q : Picture) (kept : Kept) (z : Claimed) (before after : List Claimed) → q.claims ≡ before ++ z ∷ after → IsAnswered (of_key k p.values).entries x z → picture.Depicts q (of_key k p.values).entries kept → is_some o ≡ takes_again z q)
      → (frames2 : List Working) → frames2 ≡ with_frame_of (with_frame_of p.frames t None) t (closed (record f { claim = claiming k o }))
      → Follows kinds.Recheck t p (record p { frames = frames2; values = new })
  recheck_follows k x next claim apart new others kept numbers o call stands row frames2 put = record {
    scenario = refl;
    event = subst (IsEvent p.scenario kinds.Recheck t (plain_of p))
        (sym (plain_is (plain_of p) _ _ _ _ _ _ _ _ _ _ (entries_then k p.values new others kept numbers) (tasks_then p t reached task frames2 _ put) refl refl refl))
        (recheck_event p.scenario (plain_of p) t f k x task own_is (rechecks_next f (sym (ap value_kind own) ∙ next)) claim (of_key k new).entries o apart call stands row);
  }

  pub refer_follows : (r : KeyReceipt) → f.receipt ≡ Some r
      → (new : Keyed KeyParts) → new ≡ with_key r.key (of_key r.key new) p.values → (of_key r.key new).kept ≡ (of_key r.key p.values).kept → (of_key r.key new).numbers ≡ (of_key r.key p.values).numbers
      → (index : ℕ) (f3 f4 : Frame) (call : Call) → nth_call p.scenario t (begun_of p.frames t) ≡ Some call
      → Refers (of_key r.key p.values).entries r.receipt.handle r.receipt.persist index (of_key r.key new).entries
      → ((q : Picture) (kept : Kept) (before after : List Receipt) → q.receipts ≡ before ++ r.receipt ∷ after → picture.Depicts q (of_key r.key p.values).entries kept → picture.Depicts (referred_picture r.receipt.handle (before ++ after) q) (of_key r.key new).entries kept)
      → IfSome f.forming (λ v. PutsIndex r.key (Some index) v (record f { receipt = None }) f3) → f4 ≡ moved_on p.scenario.version call f3
      → (frames2 : List Working) (tally2 : Tally) → frames2 ≡ with_frame_of (with_frame_of p.frames t None) t (Some f4) → tally2 ≡ one_referred p.tally
      → Follows kinds.Refer t p (record p { frames = frames2; values = new; tally = tally2 })
  refer_follows r receipt new others kept numbers index f3 f4 call is done stands puts moved frames2 tally2 put counted = record {
    scenario = refl;
    event = subst (IsEvent p.scenario kinds.Refer t (plain_of p))
        (sym (plain_is (plain_of p) _ _ _ _ _ _ _ _ _ _ (entries_then r.key p.values new others kept numbers) (tasks_then p t reached task frames2 _ (put ∙ ap (λ z. with_frame_of (with_frame_of p.frames t None) t (Some z)) moved)) refl refl counted))
        (refer_event p.scenario (plain_of p) t f r task own_is receipt (of_key r.key new).entries index f3 call (ap (nth_call p.scenario t) (own_begun p t reached task) ∙ is) done stands puts);
  }
