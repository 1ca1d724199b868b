-- From what the call of LetGo promises to what the event does.
use Rattle.std.proofs.Common.{◌≡◌, ℕ, ◌+◌, ◌-◌, ◌<◌, ◌≤◌, length, Bool, true, false, List, ◌∷◌, ◌++◌, refl, arith, sym, ap, ◌∙◌, subst, Option, Some, None, inl, inr}
use Rattle.std.specs.Prelude.{is_some, IsSome, IfSome, []}
use Rattle.std.proofs.lemmas.Bool.{cases_eq}
use Rattle.vch_base.specs.declared.key.Key.{Key}
use Rattle.vch_base.specs.declared.kind.Kind.TheVariants as kinds
use Rattle.vch_base.specs.Keyed.{of_key}
use Rattle.vch_base.specs.Managers.{Kept, count}
use Rattle.vch_entry.specs.declared.table.Entry.{Entry}
use Rattle.vch_entry.specs.declared.table.LetGo.{LetGo}
use Rattle.vch_entry.specs.declared.table.LetGo.TheVariants as let_go
use Rattle.vch_entry.specs.Entries.{Entries, handle_at, handle_of, entry_at, refs_of, made_of, let_go_answer, less_refs, Writes, IsApart}
use Rattle.vch_value.specs.Flight as flight
use Rattle.vch_value.specs.Picture as picture
use Rattle.vch_value.specs.Picture.{Picture, entry_of, let_go_picture, takes_claim}
use Rattle.vch_value.specs.Calls.{LetsGo, claim_of}
use Rattle.vch_value.proofs.CallerLemmas.{entry_is, count_out}
use Rattle.vch_model.specs.Lines.{is_task}
use Rattle.vch_model.specs.declared.lists.Scenario.{Scenario}
use Rattle.vch_machine.specs.State as machine
use Rattle.vch_machine.specs.State.{Place, Machine, tasked}
use Rattle.vch_machine.specs.Frames as frames
use Rattle.vch_machine.specs.Leaving as leaving
use Rattle.vch_machine.specs.Leaving.{do_let_go}
use Rattle.vch_machine.specs.Next.{next_kind}
use Rattle.vch_machine.specs.Events.{event}
use Rattle.vch_legal.specs.Tie.{Ties}
use Rattle.vch_frame.specs.declared.frame.Claiming.{Claiming}
use Rattle.vch_frame.specs.declared.frame.KeyIndex.{KeyIndex}
use Rattle.vch_frame.specs.Pairs.{Optional, Pairwise}
use Rattle.vch_frame.proofs.CallerLemmas.{there_of, entry_of_handle, event_is}
use Rattle.vch_values.specs.Parts.{KeyParts}
use Rattle.vch_parts.specs.declared.frame.Frame.{Frame}
use Rattle.vch_parts.specs.Plain.{Plain, part_of}
use Rattle.vch_parts.specs.Shape.{IsIndexOf, IsLet, IsClaim, IsReceipt, IsFrame}
use Rattle.vch_parts.specs.Stands.{StandsFor}
use Rattle.vch_parts.specs.Moves.{let_gone}
use Rattle.vch_parts.specs.Reached.{IsEnd, IsEvent}
use Rattle.vch_parts.proofs.framing.Glue.{in_parts, twin_of, from_end, event_of_run, Happens}
use Rattle.vch_parts.proofs.framing.FrameParts.{leaving_frame, leaving_machine, frame_is, machine_frame_is, no_receipt, no_claim}
use Rattle.vch_parts.proofs.lets.LetsGo as lets
use Rattle.vch_parts.proofs.lets.LetsGo.{IsOf}

-- what the call leaves: each index keeps its handle and its made count, and a claim has the index that was let go of
pub record Left (old new : Entries) (index : ℕ) (o : Option flight.Claim) : Type 0 where
  pub handles : (i : ℕ) → handle_at new.slots i ≡ handle_at old.slots i
  pub made : (i : ℕ) → made_of (entry_at new.slots i) ≡ made_of (entry_at old.slots i)
  pub same_index : IsOf index o

left_of : (old new : Entries) (index : ℕ) (o : Option flight.Claim) → IsSome (entry_at old.slots index) → LetsGo old index o new → Left old new index o
left_of old new index o there call = by (entry_at old.slots index) refl there call
  where
    answered : (a : LetGo) → IsOf index (claim_of index a)
    answered (let_go.Claimed sync) = refl
    answered let_go.Kept = tt

    by : (x : Option Entry) → entry_at old.slots index ≡ x → IsSome x → IfSome x (λ e. (o ≡ claim_of index (let_go_answer e)) × Writes old.slots new.slots index (Some (less_refs e)) × (new.spare ≡ old.spare)) → Left old new index o
    by None q t e = let z : false ≡ true = t in absurd (cc)
    by (Some x) q t e = record {
      handles = λ i. elim (cases_eq i index) [
        | inl same ↦ subst (λ j. handle_at new.slots j ≡ handle_at old.slots j) (sym same) (ap handle_of e.1.here ∙ sym (ap handle_of q))
        | inr n ↦ ap handle_of (e.1.others i n)
      ];
      made = λ i. elim (cases_eq i index) [
        | inl same ↦ subst (λ j. made_of (entry_at new.slots j) ≡ made_of (entry_at old.slots j)) (sym same) (ap made_of e.1.here ∙ sym (ap made_of q))
        | inr n ↦ ap made_of (e.1.others i n)
      ];
      same_index = subst (IsOf index) (sym e.0) (answered (let_go_answer x));
    }

module _ (sc : Scenario) (c : Plain) (t : ℕ) (f : Frame) (l : KeyIndex) (ls : List KeyIndex) (task : is_task sc t ≡ true)
    (own : (part_of c t).frame ≡ Some f) (receipt : f.receipt ≡ None) (claim : f.claim ≡ Claiming.Nothing) (lets_are : f.lets ≡ l ∷ ls) where
  abbrev k : Key
  k = l.key

  abbrev kp : KeyParts
  kp = of_key k c.keyed

  same_frame : f ≡ leaving_frame f (l ∷ ls) Claiming.Nothing
  same_frame = frame_is f (l ∷ ls) Claiming.Nothing receipt lets_are claim

  own_is : (part_of c t).frame ≡ Some (leaving_frame f (l ∷ ls) Claiming.Nothing)
  own_is = own ∙ ap Some same_frame

  -- the frame in a state
  abbrev Seen : Machine → Type 0 → Type 0
  Seen m A = (g : machine.Frame) (h : ℕ) (rest : List Place) → (tasked m t).frame ≡ Some (leaving_machine g (record { key = k; handle = h } ∷ rest) None) → IsIndexOf c.keyed k l.index h → A

  seen : (m : Machine) (A : Type 0) → StandsFor sc c m → Ties sc m → Seen m A → A
  seen m A s ties q = twin_of sc c m t f A s ties task own (λ g e r. by g e r g.lets refl (subst (λ x. Pairwise (IsLet c.keyed) x g.lets) lets_are r.lets))
    where
      by : (g : machine.Frame) → (tasked m t).frame ≡ Some g → IsFrame c.keyed f g → (ps : List Place) → g.lets ≡ ps → Pairwise (IsLet c.keyed) (l ∷ ls) ps → A
      by g e r [] z p = absurd p
      by g e r (p ∷ rest) z w = q g p.handle rest
          (e ∙ ap Some (machine_frame_is g (record { key = k; handle = p.handle } ∷ rest) None
          (no_receipt g.receipt (subst (λ o. Optional IsReceipt o g.receipt) receipt r.receipt))
          (z ∙ ap (λ (u : Key). record { key = u; handle = p.handle } ∷ rest) (sym w.0.0))
          (no_claim c.keyed g.claim (subst (λ x. IsClaim c.keyed x g.claim) claim r.claim))))
          w.0.1

  -- what the call needs

  pub let_go_there : IsEnd sc c → IsSome (entry_at kp.entries.slots l.index)
  let_go_there r = from_end sc c _ r (λ m s ties. seen m _ s ties (λ g h rest e index. there_of kp.entries.slots l.index h index))

  pub let_go_counts : IsEnd sc c → IsApart kp.entries.slots → 1 ≤ refs_of (entry_at kp.entries.slots l.index)
  let_go_counts r apart = from_end sc c _ r (λ m s ties. seen m _ s ties (λ g h rest e index.
      let range = in_parts sc c m t s ties task in
      let now : picture.Depicts (lets.P sc k c m t range.0 range.1 f l ls g h rest own_is e index s ties) kp.entries kp.kept =
      subst (λ (x : Picture). picture.Depicts x kp.entries kp.kept) (lets.is_now sc k c m t range.0 range.1 f l ls g h rest own_is e index s ties) (s.keyed k).counts in
      entry_of_handle kp.entries.slots l.index h _ index (λ x at same.
      above (refs_of (entry_at kp.entries.slots l.index)) _
      (ap refs_of (at ∙ sym (entry_is kp.entries.slots l.index h x apart at same)) ∙ (now.at h).refs
      ∙ ap (count h) (lets.split sc k c m t range.0 range.1 f l ls g h rest own_is e index s ties)
      ∙ count_out h (lets.ahead sc k c m t range.0 range.1 f l ls g h rest own_is e index s ties) (lets.after sc k c m t range.0 range.1 f l ls g h rest own_is e index s ties)))))
    where
      above : (a b : ℕ) → a ≡ b + 1 → 1 ≤ a
      above a b e = omega arith

  -- and what it does
  module _ (e2 : Entries) (o : Option flight.Claim) (call : LetsGo kp.entries l.index o e2)
      (stands : (x : Picture) (kept : Kept) (h : ℕ) (before behind : List ℕ) → handle_at kp.entries.slots l.index ≡ Some h → x.holders ≡ before ++ h ∷ behind → picture.Depicts x kp.entries kept → picture.Depicts (let_go_picture h o (before ++ behind) x) e2 kept)
      (row : (x : Picture) (kept : Kept) (h : ℕ) (before behind : List ℕ) → handle_at kp.entries.slots l.index ≡ Some h → x.holders ≡ before ++ h ∷ behind → picture.Depicts x kp.entries kept → is_some o ≡ takes_claim h (before ++ behind) x kept) where
    module _ (want : Bool) (m : Machine) (s : StandsFor sc c m) (ties : Ties sc m) (g : machine.Frame) (h : ℕ) (rest : List Place)
        (e : (tasked m t).frame ≡ Some (leaving_machine g (record { key = k; handle = h } ∷ rest) None)) (index : IsIndexOf c.keyed k l.index h) where
      range : (0 < t) × (t - 1 < length c.tasks)
      range = in_parts sc c m t s ties task

      abbrev P : Picture
      P = lets.P sc k c m t range.0 range.1 f l ls g h rest own_is e index s ties

      abbrev ahead : List ℕ
      ahead = lets.ahead sc k c m t range.0 range.1 f l ls g h rest own_is e index s ties

      abbrev after : List ℕ
      after = lets.after sc k c m t range.0 range.1 f l ls g h rest own_is e index s ties

      split : P.holders ≡ ahead ++ h ∷ after
      split = lets.split sc k c m t range.0 range.1 f l ls g h rest own_is e index s ties

      now : picture.Depicts P kp.entries kp.kept
      now = subst (λ (x : Picture). picture.Depicts x kp.entries kp.kept) (lets.is_now sc k c m t range.0 range.1 f l ls g h rest own_is e index s ties) (s.keyed k).counts

      left : Left kp.entries e2 l.index o
      left = left_of kp.entries e2 l.index o (there_of kp.entries.slots l.index h index) call

      told : is_some o ≡ takes_claim h (ahead ++ after) P kp.kept
      told = row P kp.kept h ahead after index split now

      counts : picture.Depicts (let_go_picture h o (ahead ++ after) P) e2 kp.kept
      counts = stands P kp.kept h ahead after index split now

      abbrev Next : Machine
      Next = lets.then_machine sc k c m t range.0 range.1 f l ls g h rest own_is e index s ties e2 o left.handles left.made left.same_index told counts

      next_is : next_kind sc m t ≡ Some kinds.LetGo
      next_is = rw e refl

      done_is : do_let_go m t (leaving_machine g (record { key = k; handle = h } ∷ rest) None) (record { key = k; handle = h }) rest ≡ Next
      done_is = ap (λ y. frames.tallied (leaving.more_claims y) (frames.with_frame m t (frames.closed (leaving_machine g rest y))))
          (lets.claim_is sc k c m t range.0 range.1 f l ls g h rest own_is e index s ties o told)

      happens : event sc want m t ≡ Some Next
      happens = event_is sc want m t (leaving_machine g (record { key = k; handle = h } ∷ rest) None) kinds.LetGo (Some Next) task e next_is (ap Some done_is)

      after_it : Happens sc want kinds.LetGo t (let_gone c t f k ls e2 o) m
      after_it = (
        Next,
        happens,
        next_is,
        subst (λ z. StandsFor sc (let_gone c t z k ls e2 o) Next) (sym same_frame)
            (lets.stands_after sc k c m t range.0 range.1 f l ls g h rest own_is e index s ties e2 o left.handles left.made left.same_index told counts),
      )

    pub let_go_event : IsEvent sc kinds.LetGo t c (let_gone c t f k ls e2 o)
    let_go_event = event_of_run sc kinds.LetGo t c _ (λ want m s ties. seen m _ s ties (λ g h rest e index. after_it want m s ties g h rest e index))
