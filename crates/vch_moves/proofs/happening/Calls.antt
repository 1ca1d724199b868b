-- What a call is at where one of its own events is next.
use Rattle.std.proofs.Common.{◌≡◌, ℕ, Bool, true, false, List, [], ◌∷◌, refl, sym, ap, ◌∙◌, subst, Option, Some, None}
use Rattle.std.specs.Prelude.{is_some, if◌then◌else◌}
use Rattle.vch_base.specs.declared.kind.Kind.{Kind}
use Rattle.vch_base.specs.declared.kind.Kind.TheVariants as kinds
use Rattle.vch_base.specs.Keyed.{Keyed}
use Rattle.vch_model.specs.Lines.{is_task, phases_in}
use Rattle.vch_model.specs.declared.call.Call.{Call}
use Rattle.vch_model.specs.declared.lists.Scenario.{Scenario}
use Rattle.vch_machine.specs.Events.{event, frame_event}
use Rattle.vch_machine.specs.Next.{next_kind, nth_call, current, frame_next, unclaimed_next, lets_next, unanswered_next, call_next, claim_next, task_next}
use Rattle.vch_machine.specs.State as machine
use Rattle.vch_machine.specs.State.{Machine, Place, Tasked, tasked}
use Rattle.vch_legal.specs.Tie.{Ties}
use Rattle.vch_frame.proofs.CallerLemmas.{event_is}
use Rattle.vch_frame.specs.declared.frame.Claiming.{Claiming}
use Rattle.vch_frame.specs.declared.frame.KeyIndex.{KeyIndex}
use Rattle.vch_frame.specs.declared.frame.KeyReceipt.{KeyReceipt}
use Rattle.vch_frame.specs.Pairs.{Optional, Pairwise}
use Rattle.vch_values.specs.Parts.{KeyParts}
use Rattle.vch_parts.specs.declared.frame.Frame.{Frame}
use Rattle.vch_parts.specs.Plain.{Plain, part_of}
use Rattle.vch_parts.specs.Shape.{IsFrame, IsReceipt, IsClaim, IsLet}
use Rattle.vch_parts.specs.Stands.{StandsFor}
use Rattle.vch_parts.proofs.CallerLemmas.{in_parts}
use Rattle.vch_moves.specs.Moments.{IsAtWork}
use Rattle.vch_moves.proofs.happening.Tasks.{same_begun}

-- the events of the call itself
abbrev pub is_own : Kind → Bool
is_own kinds.Work = true
is_own kinds.Make = true
is_own kinds.Place = true
is_own kind = false

-- the machine's frame there
record Own (version : ℕ) (names : List machine.Named) (g : machine.Frame) (call : Option Call) (kind : Kind) : Type 0 where
  receipt : g.receipt ≡ None
  claim : g.claim ≡ None
  lets : g.lets ≡ []
  unanswered : g.answered ≡ false
  next : call_next version names g.at_byte g.keys call ≡ Some kind

module _ (version : ℕ) (names : List machine.Named) (g : machine.Frame) (call : Option Call) (kind : Kind) (own : is_own kind ≡ true) where
  other : (k : Kind) → Some k ≡ Some kind → is_own k ≡ false → ⊥
  other k e n = let q : k ≡ kind = cc in let z : is_own k ≡ true = subst (λ (x : Kind). is_own x ≡ true) (sym q) own in let w : true ≡ false = sym z ∙ n in cc

  claim_other : (y : machine.Claim) → is_own (claim_next y) ≡ false
  claim_other y = by (is_some y.answer)
    where
      by : (b : Bool) → is_own (if b then kinds.Recheck else kinds.Ask) ≡ false
      by true = refl
      by false = refl

  by_answered : (b : Bool) → g.receipt ≡ None → g.claim ≡ None → g.lets ≡ [] → g.answered ≡ b → unanswered_next version names g call b ≡ Some kind → Own version names g call kind
  by_answered true r y l a e = absurd (cc)
  by_answered false r y l a e = record { receipt = r; claim = y; lets = l; unanswered = a; next = e }

  by_lets : (ps : List Place) → g.receipt ≡ None → g.claim ≡ None → g.lets ≡ ps → lets_next version names g call ps ≡ Some kind → Own version names g call kind
  by_lets [] r y l e = by_answered g.answered r y l refl e
  by_lets (p ∷ ps) r y l e = absurd (other kinds.LetGo e refl)

  by_claim : (o : Option machine.Claim) → g.receipt ≡ None → g.claim ≡ o → unclaimed_next version names g call o ≡ Some kind → Own version names g call kind
  by_claim None r y e = by_lets g.lets r y refl e
  by_claim (Some x) r y e = absurd (other (claim_next x) e (claim_other x))

  by_receipt : (o : Option Place) → g.receipt ≡ o → frame_next version names g call o ≡ Some kind → Own version names g call kind
  by_receipt None r e = by_claim g.claim r refl e
  by_receipt (Some p) r e = absurd (other kinds.Refer e refl)

  own_frame : frame_next version names g call g.receipt ≡ Some kind → Own version names g call kind
  own_frame e = by_receipt g.receipt refl e

-- a call is under way with nothing in hand and nothing to let go of, and an event of its own is next
pub record AtCall (sc : Scenario) (c : Plain) (m : Machine) (t : ℕ) (f : Frame) (g : machine.Frame) (kind : Kind) : Type 0 where
  pub work : IsAtWork sc c m t f g
  pub unanswered : f.answered ≡ false
  pub lets : f.lets ≡ []
  pub twin_lets : g.lets ≡ []
  pub call : Call
  pub begun : nth_call sc t (part_of c t).begun ≡ Some call
  pub current_is : current sc m t ≡ Some call
  pub next : next_kind sc m t ≡ Some kind
  pub asked : call_next sc.version (tasked m t).names g.at_byte g.keys (Some call) ≡ Some kind

no_receipt : (o : Option KeyReceipt) (q : Option Place) → q ≡ None → Optional IsReceipt o q → o ≡ None
no_receipt None q e z = refl
no_receipt (Some r) None e z = absurd z
no_receipt (Some r) (Some p) e z = absurd (cc)

no_claim : (x : Keyed KeyParts) (a : Claiming) (y : Option machine.Claim) → y ≡ None → IsClaim x a y → a ≡ Claiming.Nothing
no_claim x Claiming.Nothing y e z = refl
no_claim x (Claiming.Claimed k a) None e z = absurd z
no_claim x (Claiming.Claimed k a) (Some y) e z = absurd (cc)
no_claim x (Claiming.Answered k a) None e z = absurd z
no_claim x (Claiming.Answered k a) (Some y) e z = absurd (cc)

no_lets : (x : Keyed KeyParts) (ls : List KeyIndex) (ps : List Place) → ps ≡ [] → Pairwise (IsLet x) ls ps → ls ≡ []
no_lets x [] ps e z = refl
no_lets x (l ∷ ls) [] e z = absurd z
no_lets x (l ∷ ls) (p ∷ ps) e z = absurd (cc)

module _ (sc : Scenario) (c : Plain) (m : Machine) (t : ℕ) (s : StandsFor sc c m) (ties : Ties sc m) (task : is_task sc t ≡ true)
    (kind : Kind) (own : is_own kind ≡ true) (next : next_kind sc m t ≡ Some kind) where
  at_frames : (f : Frame) (g : machine.Frame) (P : Type 0) → (part_of c t).frame ≡ Some f → (tasked m t).frame ≡ Some g → IsFrame c.keyed f g → (AtCall sc c m t f g kind → P) → P
  at_frames f g P e d z h = by (current sc m t) refl
    where
      framed : frame_next sc.version (tasked m t).names g (current sc m t) g.receipt ≡ Some kind
      framed = ap (task_next sc (phases_in m.past) t (tasked m t)) (sym d) ∙ next

      o : Own sc.version (tasked m t).names g (current sc m t) kind
      o = own_frame sc.version (tasked m t).names g (current sc m t) kind own framed

      by : (call : Option Call) → current sc m t ≡ call → P
      by None q = absurd (let x : call_next sc.version (tasked m t).names g.at_byte g.keys None ≡ Some kind = subst (λ u. call_next sc.version (tasked m t).names g.at_byte g.keys u ≡ Some kind) q o.next in cc)
      by (Some call) q =
          let n = in_parts sc c m t s ties task in
          h (record {
            work = record {
              stands = s;
              positive = n.0;
              inside = n.1;
              own = e;
              task = d;
              frame = z;
              idle = (no_receipt f.receipt g.receipt o.receipt z.receipt, no_claim c.keyed f.claim g.claim o.claim z.claim);
            };
            unanswered = z.answered ∙ o.unanswered;
            lets = no_lets c.keyed f.lets g.lets o.lets z.lets;
            twin_lets = o.lets;
            call = call;
            begun = ap (nth_call sc t) (sym (same_begun sc c m t s ties task)) ∙ q;
            current_is = q;
            next = next;
            asked = subst (λ u. call_next sc.version (tasked m t).names g.at_byte g.keys u ≡ Some kind) q o.next;
          })

  -- the frame on both sides
  pub at_call : (P : Type 0) → ((f : Frame) (g : machine.Frame) → (part_of c t).frame ≡ Some f → AtCall sc c m t f g kind → P) → P
  at_call P h =
      let n = in_parts sc c m t s ties task in
      by (part_of c t).frame (tasked m t).frame refl refl (s.shape.tasks t n.0 n.1).frame
    where
      begins : (b : Bool) → (if b then Some kinds.Begin else None) ≡ Some kind → ⊥
      begins true e = other sc.version (tasked m t).names machine_frame None kind own kinds.Begin e refl
        where
          machine_frame : machine.Frame
          machine_frame = record { forming = None; answered = true; at_byte = 0; keys = []; receipt = None; lets = []; claim = None }
      begins false e = cc

      by : (a : Option Frame) (b : Option machine.Frame) → (part_of c t).frame ≡ a → (tasked m t).frame ≡ b → Optional (IsFrame c.keyed) a b → P
      by None None e d z = absurd (begins _ (ap (task_next sc (phases_in m.past) t (tasked m t)) (sym d) ∙ next))
      by None (Some g) e d z = absurd z
      by (Some f) None e d z = absurd z
      by (Some f) (Some g) e d z = at_frames f g P e d z (h f g e)

  -- the same of a frame that is known
  pub at_call_of : (f : Frame) (P : Type 0) → (part_of c t).frame ≡ Some f → ((g : machine.Frame) → AtCall sc c m t f g kind → P) → P
  at_call_of f P e h = at_call P (λ f2 g e2 a. h g (subst (λ x. AtCall sc c m t x g kind) (same (sym e2 ∙ e)) a))
    where
      same : {a b : Frame} → Some a ≡ Some b → a ≡ b
      same q = cc

-- the event of a task with a frame
pub own_event : (sc : Scenario) (c : Plain) (m : Machine) (t : ℕ) (f : Frame) (g : machine.Frame) (kind : Kind) (want : Bool) (o : Option Machine) → is_task sc t ≡ true → AtCall sc c m t f g kind
    → frame_event sc want m t g kind ≡ o → event sc want m t ≡ o
own_event sc c m t f g kind want o task a e = event_is sc want m t g kind o task a.work.task a.next e
