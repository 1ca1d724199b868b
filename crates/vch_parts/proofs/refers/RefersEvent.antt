-- From what the call of Refer promises to what the event does.
use Rattle.std.proofs.Common.{◌≡◌, ℕ, ◌-◌, ◌<◌, ◌≤◌, Bool, true, false, List, [], ◌∷◌, ◌++◌, refl, arith, sym, ap, ◌∙◌, length, drop, subst, Option, Some, None}
use Rattle.std.specs.Prelude.{is_some, IfSome}
use Rattle.vch_base.specs.declared.key.Key.{Key}
use Rattle.vch_base.specs.declared.kind.Kind.TheVariants as kinds
use Rattle.vch_base.specs.Keys.{number_of}
use Rattle.vch_base.specs.Keyed.{Keyed, of_key}
use Rattle.vch_base.specs.Managers.{Kept}
use Rattle.vch_entry.specs.Entries.{Entries, Refers}
use Rattle.vch_table.specs.Indices.{index_at}
use Rattle.vch_value.specs.Flight.{Receipt}
use Rattle.vch_value.specs.Picture as picture
use Rattle.vch_value.specs.Picture.{Picture, referred_picture}
use Rattle.vch_base.specs.declared.value.Value.{Value}
use Rattle.vch_recipe.specs.Recipes.{First, One, first_of}
use Rattle.vch_model.specs.Lines.{is_task}
use Rattle.vch_model.specs.Store.{Member, voucher_of}
use Rattle.vch_model.specs.Voucher.{Voucher}
use Rattle.vch_legal.proofs.CallerLemmas.{record_inside}
use Rattle.vch_parts.proofs.framing.FrameParts.{frames_of}
use Rattle.vch_model.specs.declared.call.Call.{Call}
use Rattle.vch_model.specs.declared.call.Call.TheVariants as calls
use Rattle.vch_model.specs.declared.lists.Scenario.{Scenario}
use Rattle.vch_machine.specs.State as machine
use Rattle.vch_machine.specs.State.{Handles, Place, Machine, tasked, member_of, valued}
use Rattle.vch_machine.specs.Events.{event, event_of}
use Rattle.vch_machine.specs.Next.{current, nth_call, next_kind}
use Rattle.vch_legal.specs.Facts.{FrameFits, OptionFits}
use Rattle.vch_legal.specs.Tie.{Ties, IsForming, FrameForms, Awaits, AsksAt, AsksFirst}
use Rattle.vch_frame.specs.declared.frame.Claiming.{Claiming}
use Rattle.vch_frame.specs.declared.frame.KeyIndex.{KeyIndex}
use Rattle.vch_frame.specs.declared.frame.KeyReceipt.{KeyReceipt}
use Rattle.vch_frame.specs.Pairs.{Optional, Pairwise}
use Rattle.vch_frame.specs.Indices.{index_of}
use Rattle.vch_frame.specs.Releases.{let_at}
use Rattle.vch_frame.proofs.CallerLemmas.{event_is, room_for}
use Rattle.vch_values.specs.Parts.{KeyParts}
use Rattle.vch_parts.specs.declared.frame.Frame.{Frame}
use Rattle.vch_parts.specs.Plain.{Indices, Plain, part_of}
use Rattle.vch_parts.specs.Shape.{IsMap, IsLet, IsClaim, IsReceipt, IsFrame}
use Rattle.vch_parts.specs.Stands.{StandsFor}
use Rattle.vch_parts.specs.Moves.{PutsIndex, was_referred, moved_on}
use Rattle.vch_parts.specs.Nexts.{IsInside}
use Rattle.vch_parts.specs.Reached.{IsEnd, IsEvent}
use Rattle.vch_parts.proofs.framing.Glue.{in_parts, twin_of, from_end, event_of_run, Happens}
use Rattle.vch_parts.proofs.framing.Replaced.{receipts_before, receipts_behind}
use Rattle.vch_parts.proofs.refers.Refers as refers
use Rattle.vch_parts.proofs.refers.Refers.{taking_frame, taking_machine, taken_frame}

no_lets : (x : Keyed KeyParts) (ls : List KeyIndex) (ps : List Place) → ps ≡ [] → Pairwise (IsLet x) ls ps → ls ≡ []
no_lets x [] ps e z = refl
no_lets x (l ∷ ls) [] e z = absurd z
no_lets x (l ∷ ls) (p ∷ ps) e z = absurd (cc)

nothing : (x : Keyed KeyParts) (a : Claiming) (y : Option machine.Claim) → y ≡ None → IsClaim x a y → a ≡ Claiming.Nothing
nothing x Claiming.Nothing y e z = refl
nothing x (Claiming.Claimed k a) None e z = absurd z
nothing x (Claiming.Claimed k a) (Some y) e z = absurd (cc)
nothing x (Claiming.Answered k a) None e z = absurd z
nothing x (Claiming.Answered k a) (Some y) e z = absurd (cc)

-- a frame with a receipt is one that takes it
frame_whole : (f : Frame) (k : Key) (v : Indices) (r : Receipt) → f.forming ≡ Some v → f.answered ≡ false → f.receipt ≡ Some (record { key = k; receipt = r }) → f.lets ≡ [] → f.claim ≡ Claiming.Nothing → f ≡ taking_frame f k v r
frame_whole f k v r a b d e z = rw (← a, ← b, ← d, ← e, ← z) refl

machine_whole : (g : machine.Frame) (k : Key) (w : Handles) (h : ℕ) → g.forming ≡ Some w → g.answered ≡ false → g.receipt ≡ Some (record { key = k; handle = h }) → g.lets ≡ [] → g.claim ≡ None → g ≡ taking_machine g k w h
machine_whole g k w h a b d e z = rw (← a, ← b, ← d, ← e, ← z) refl

-- what a frame with a receipt has beside it in the machine
pub record Taking (x : Keyed KeyParts) (f : Frame) (r : KeyReceipt) (g : machine.Frame) (v : Indices) (w : Handles) : Type 0 where
  pub own : f ≡ taking_frame f r.key v r.receipt
  pub twin : g ≡ taking_machine g r.key w r.receipt.handle
  pub map : IsMap x v w

taking_of : (x : Keyed KeyParts) (f : Frame) (r : KeyReceipt) (g : machine.Frame) (A : Type 0) → IsFrame x f g → FrameFits g → f.receipt ≡ Some r → ((v : Indices) (w : Handles) → Taking x f r g v w → A) → A
taking_of x f r g A z fits rec next = by f.forming g.forming g.receipt refl refl refl z.forming (subst (λ o. Optional IsReceipt o g.receipt) rec z.receipt)
  where
    unanswered : (b : Bool) (o : Option Handles) (w : Handles) → (b ≡ true → o ≡ None) → o ≡ Some w → b ≡ false
    unanswered false o w q e = refl
    unanswered true o w q e = let n : o ≡ None = q refl in cc

    by : (v : Option Indices) (w : Option Handles) (p : Option Place) → f.forming ≡ v → g.forming ≡ w → g.receipt ≡ p → Optional (IsMap x) v w → Optional IsReceipt (Some r) p → A
    by v w None a b d map q = absurd q
    by None None (Some p) a b d map q = let n : is_some g.forming ≡ true = fits.forming (ap is_some d) in absurd (let no : false ≡ true = sym (ap is_some b) ∙ n in cc)
    by None (Some w) (Some p) a b d map q = absurd map
    by (Some v) None (Some p) a b d map q = absurd map
    by (Some v) (Some w) (Some p) a b d map q =
        let there : is_some g.receipt ≡ true = ap is_some d in
        let open_call : g.answered ≡ false = unanswered g.answered g.forming w fits.answered b in
        next v w (record {
          own = frame_whole f r.key v r.receipt a (z.answered ∙ open_call) rec (no_lets x f.lets g.lets (fits.lets there) z.lets) (nothing x f.claim g.claim (fits.claim there) z.claim);
          twin = machine_whole g r.key w r.receipt.handle b open_call (d ∙ ap Some (place_is p q.0 q.1)) (fits.lets there) (fits.claim there);
          map = map;
        })
      where
        place_is : (p : Place) → r.key ≡ p.key → r.receipt.handle ≡ p.handle → p ≡ record { key = r.key; handle = r.receipt.handle }
        place_is p a b = rw (a, b) refl

-- a call that forms a voucher is there, and asks what its receipt is for
call_of : (sc : Scenario) (m : Machine) (t : ℕ) (g : machine.Frame) (k : Key) (w : Handles) (h : ℕ) (P : Type 0) → Ties sc m → is_task sc t ≡ true → (tasked m t).frame ≡ Some (taking_machine g k w h)
    → ((call : Call) → current sc m t ≡ Some call → Awaits sc m.live (member_of m.live (tasked m t)) t call g.at_byte g.keys w (Some (record { key = k; handle = h })) → P) → P
call_of sc m t g k w h P ties task e next = by (current sc m t) refl (subst (λ o. IsForming sc m.live (member_of m.live (tasked m t)) t (tasked m t).begun o) e (ties.tasks t task).forming)
  where
    by : (o : Option Call) → current sc m t ≡ o → FrameForms sc m.live (member_of m.live (tasked m t)) t g.at_byte g.keys (Some (record { key = k; handle = h })) false (Some w) o → P
    by None q z = absurd z
    by (Some call) q z = next call q z.1

-- a create that asks is at a record
asks_inside : (sc : Scenario) (x : Member) (t : ℕ) (ks : List Key) (map : Voucher) (k : Key) (y : Value) (call : Call) (place : ℕ) → AsksAt sc x t call place ks map k y → IsInside place call
asks_inside sc x t ks map k y (calls.Create bytes) place asks = by (first_of (drop place bytes)) refl asks
  where
    by : (first : First) → first_of (drop place bytes) ≡ first → AsksFirst sc.version (voucher_of x.names) t ks map first k y → place ≤ length bytes
    by (One r rest) q a = record_inside bytes place r rest q
    by First.End q a = absurd a
    by (First.HeaderCut left) q a = absurd a
    by (First.ContentCut wanted left) q a = absurd a
asks_inside sc x t ks map k y (calls.GiveUp name) place asks = tt
asks_inside sc x t ks map k y (calls.Extract name key) place asks = tt
asks_inside sc x t ks map k y (calls.Recipes name) place asks = tt
asks_inside sc x t ks map k y (calls.Send to moving name id) place asks = tt
asks_inside sc x t ks map k y calls.Recv place asks = tt
asks_inside sc x t ks map k y (calls.Extern name adding n) place asks = tt
asks_inside sc x t ks map k y (calls.Charge name n) place asks = tt
asks_inside sc x t ks map k y calls.Ledger place asks = tt
asks_inside sc x t ks map k y calls.Assertions place asks = tt
asks_inside sc x t ks map k y calls.Live place asks = tt
asks_inside sc x t ks map k y calls.Exit place asks = tt

module _ (sc : Scenario) (c : Plain) (t : ℕ) (f : Frame) (r : KeyReceipt) (task : is_task sc t ≡ true)
    (own : (part_of c t).frame ≡ Some f) (receipt : f.receipt ≡ Some r) where
  abbrev k : Key
  k = r.key

  abbrev kp : KeyParts
  kp = of_key k c.keyed

  seen : (m : Machine) (A : Type 0) → StandsFor sc c m → Ties sc m
      → ((g : machine.Frame) (v : Indices) (w : Handles) → (tasked m t).frame ≡ Some g → Taking c.keyed f r g v w → A) → A
  seen m A s ties q = twin_of sc c m t f A s ties task own
      (λ g e z. taking_of c.keyed f r g A z (subst OptionFits e (ties.fits.frames t)) receipt (λ v w x. q g v w e x))

  module _ (m : Machine) (s : StandsFor sc c m) (ties : Ties sc m) (g : machine.Frame) (v : Indices) (w : Handles) (e : (tasked m t).frame ≡ Some g) (x : Taking c.keyed f r g v w) where
    own_is : (part_of c t).frame ≡ Some (taking_frame f k v r.receipt)
    own_is = own ∙ ap Some x.own

    twin_is : (tasked m t).frame ≡ Some (taking_machine g k w r.receipt.handle)
    twin_is = e ∙ ap Some x.twin

    range : (0 < t) × (t - 1 < length c.tasks)
    range = in_parts sc c m t s ties task

    abbrev P : Picture
    P = refers.P sc c m t range.0 range.1 f g k v w r.receipt (calls.Recv) own_is twin_is s

    split : P.receipts ≡ receipts_before k c m t ++ r.receipt ∷ receipts_behind k c m t
    split = refers.split sc c m t range.0 range.1 f g k v w r.receipt (calls.Recv) own_is twin_is s

    at_same : f.at ≡ g.at_byte
    at_same =
        let z = frames_of c.keyed (part_of c t).frame (tasked m t).frame f g own e (s.shape.tasks t range.0 range.1).frame in z.at_byte

    room : 1 ≤ kp.entries.spare
    room =
        let a : length P.receipts ≡ length (receipts_before k c m t ++ r.receipt ∷ receipts_behind k c m t) = ap length split in
        let b : 1 ≤ length (receipts_before k c m t ++ r.receipt ∷ receipts_behind k c m t) = some (receipts_before k c m t) in
        let d : length P.receipts ≤ kp.entries.spare = (s.keyed k).counts.room in
        omega (arith, a, b, d)
      where
        some : (xs : List Receipt) → 1 ≤ length (xs ++ r.receipt ∷ receipts_behind k c m t)
        some [] = omega arith
        some (y ∷ xs) = omega arith

    call_now : (call : Call) → nth_call sc t (part_of c t).begun ≡ Some call → current sc m t ≡ Some call
    call_now call is = ap (nth_call sc t) (sym (s.shape.tasks t range.0 range.1).begun) ∙ is

    module _ (want : Bool) (e2 : Entries) (index : ℕ) (f3 : Frame) (call : Call)
        (is : nth_call sc t (part_of c t).begun ≡ Some call)
        (done : Refers kp.entries r.receipt.handle r.receipt.persist index e2)
        (stands : (q : Picture) (kept : Kept) (before after : List Receipt) → q.receipts ≡ before ++ r.receipt ∷ after → picture.Depicts q kp.entries kept → picture.Depicts (referred_picture r.receipt.handle (before ++ after) q) e2 kept)
        (puts : IfSome f.forming (λ v. PutsIndex k (Some index) v (record f { receipt = None }) f3)) where
      put_now : PutsIndex k (Some index) v (record f { receipt = None }) f3
      put_now = let q : IfSome (Some v) (λ v. PutsIndex k (Some index) v (record f { receipt = None }) f3) = subst (λ o. IfSome o (λ v. PutsIndex k (Some index) v (record f { receipt = None }) f3)) (ap (λ (a : Frame). a.forming) x.own) puts in q

      counts : picture.Depicts (referred_picture r.receipt.handle (receipts_before k c m t ++ receipts_behind k c m t) P) e2 kp.kept
      counts = stands P kp.kept (receipts_before k c m t) (receipts_behind k c m t) split (s.keyed k).counts

      abbrev G : machine.Frame
      G = taking_machine g k w r.receipt.handle

      abbrev Next : Machine
      Next = refers.then_machine sc c m t range.0 range.1 f g k v w r.receipt call own_is twin_is s

      next_is : next_kind sc m t ≡ Some kinds.Refer
      next_is = rw twin_is refl

      done_is : event_of sc want m t (Some G) (Some kinds.Refer) ≡ Some Next
      done_is = rw (call_now call is) (ap Some (refers.done_is sc c m t range.0 range.1 f g k v w r.receipt call own_is twin_is s))

      happens : event sc want m t ≡ Some Next
      happens = event_is sc want m t G kinds.Refer (Some Next) task twin_is next_is done_is

      frame_then : moved_on sc.version call f3 ≡ taken_frame sc.version call f k v put_now.voucher
      frame_then = ap (moved_on sc.version call) (whole f f3 put_now.voucher put_now.frame (ap (λ (a : Frame). a.answered) x.own) (ap (λ (a : Frame). a.lets) x.own) (ap (λ (a : Frame). a.claim) x.own))
        where
          whole : (f f3 : Frame) (u : Indices) → f3 ≡ record f { receipt = None; forming = Some u; lets = f.lets ++ let_at k (index_of k v) } → f.answered ≡ false → f.lets ≡ [] → f.claim ≡ Claiming.Nothing
              → f3 ≡ record f { forming = Some u; answered = false; receipt = None; lets = let_at k (index_of k v); claim = Claiming.Nothing }
          whole f f3 u a n b d = rw (a, ← n, b, ← d) refl

      after_it : Happens sc want kinds.Refer t (was_referred c t (moved_on sc.version call f3) k e2) m
      after_it = (
        Next,
        happens,
        next_is,
        subst (λ z. StandsFor sc (was_referred c t z k e2) Next) (sym frame_then)
            (refers.stands_after sc c m t range.0 range.1 f g k v w r.receipt call own_is twin_is s e2 index put_now.voucher done put_now.bounded put_now.sets counts),
      )

  -- what the calls need

  pub refer_call : IsEnd sc c → nth_call sc t (part_of c t).begun ≡ None → ⊥
  refer_call reached none = from_end sc c _ reached (λ m s ties. seen m _ s ties (λ g v w e x.
      call_of sc m t g k w r.receipt.handle ⊥ ties task (twin_is m s ties g v w e x) (λ call is aw.
      two (sym none ∙ ap (nth_call sc t) (s.shape.tasks t (range m s ties g v w e x).0 (range m s ties g v w e x).1).begun ∙ is))))
    where
      two : {c : Call} → None ≡ Some c → ⊥
      two e = cc

  pub refer_inside : (call : Call) (index : ℕ) (f3 : Frame) → nth_call sc t (part_of c t).begun ≡ Some call → IfSome f.forming (λ v. PutsIndex k (Some index) v (record f { receipt = None }) f3) → IsEnd sc c → IsInside f3.at call
  refer_inside call index f3 is puts reached = from_end sc c _ reached (λ m s ties. seen m _ s ties (λ g v w e x.
      call_of sc m t g k w r.receipt.handle _ ties task (twin_is m s ties g v w e x) (λ call2 is2 aw.
      let same : call2 ≡ call = one_call (sym is2 ∙ call_now m s ties g v w e x call is) in
      let placed : f3.at ≡ f.at = at_put v (ap (λ (a : Frame). a.forming) x.own) in
      subst (IsInside f3.at) same (subst (λ n. IsInside n call2) (sym (placed ∙ at_same m s ties g v w e x)) (asks_inside sc (member_of m.live (tasked m t)) t g.keys (valued m.live w) k aw.value call2 g.at_byte aw.asked)))))
    where
      one_call : {a b : Call} → Some a ≡ Some b → a ≡ b
      one_call q = cc

      at_put : (v : Indices) → f.forming ≡ Some v → f3.at ≡ f.at
      at_put v e = let q : IfSome (Some v) (λ v. PutsIndex k (Some index) v (record f { receipt = None }) f3) = subst (λ o. IfSome o (λ v. PutsIndex k (Some index) v (record f { receipt = None }) f3)) e puts in ap (λ (a : Frame). a.at) q.frame

  pub refer_room : IsEnd sc c → 1 ≤ kp.entries.spare
  refer_room reached = from_end sc c _ reached (λ m s ties. seen m _ s ties (λ g v w e x. room m s ties g v w e x))

  pub refer_keys : IsEnd sc c → IfSome f.forming (λ v. index_at v (number_of k) ≡ None → length v < 4)
  refer_keys reached = from_end sc c _ reached (λ m s ties. seen m _ s ties (λ g v w e x. subst (λ o. IfSome o (λ u. index_at u (number_of k) ≡ None → length u < 4)) (sym (ap (λ (a : Frame). a.forming) x.own)) (room_for v k x.map.1)))

  pub refer_lets : IsEnd sc c → length f.lets < 12
  refer_lets reached = from_end sc c _ reached (λ m s ties. seen m _ s ties (λ g v w e x. subst (λ ls. length ls < 12) (sym (ap (λ (a : Frame). a.lets) x.own)) (few tt)))
    where
      few : Unit {0} → length {A = KeyIndex} [] < 12
      few u = omega arith

  -- and what they do
  pub refer_event : (e2 : Entries) (index : ℕ) (f3 : Frame) (call : Call) → nth_call sc t (part_of c t).begun ≡ Some call
      → Refers kp.entries r.receipt.handle r.receipt.persist index e2
      → ((q : Picture) (kept : Kept) (before after : List Receipt) → q.receipts ≡ before ++ r.receipt ∷ after → picture.Depicts q kp.entries kept → picture.Depicts (referred_picture r.receipt.handle (before ++ after) q) e2 kept)
      → IfSome f.forming (λ v. PutsIndex k (Some index) v (record f { receipt = None }) f3)
      → IsEvent sc kinds.Refer t c (was_referred c t (moved_on sc.version call f3) k e2)
  refer_event e2 index f3 call is done stands puts = event_of_run sc kinds.Refer t c _ (λ want m s ties. seen m _ s ties (λ g v w e x. after_it m s ties g v w e x want e2 index f3 call is done stands puts))
