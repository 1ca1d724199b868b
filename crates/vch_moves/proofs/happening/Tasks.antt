-- What a task is at, by its own frame and by the kind of its next event.
use Rattle.std.proofs.Common.{◌≡◌, ℕ, true, false, List, [], ◌∷◌, refl, sym, ap, ◌∙◌, subst, Option, Some, None}
use Rattle.vch_model.specs.Legal.{is_exit}
use Rattle.vch_model.specs.Lines.{is_task}
use Rattle.vch_model.specs.declared.call.Call.{Call}
use Rattle.vch_model.specs.declared.call.Call.TheVariants as calls
use Rattle.vch_model.specs.declared.lists.Scenario.{Scenario}
use Rattle.vch_machine.specs.Next.{nth_call}
use Rattle.vch_machine.specs.State as machine
use Rattle.vch_machine.specs.State.{Handles, Machine, Place, tasked, member_of, Living}
use Rattle.vch_legal.specs.Tie.{Ties, IsForming, FrameForms}
use Rattle.vch_frame.specs.declared.frame.Claiming.{Claiming}
use Rattle.vch_frame.specs.declared.frame.KeyIndex.{KeyIndex}
use Rattle.vch_frame.specs.declared.frame.KeyReceipt.{KeyReceipt}
use Rattle.vch_frame.specs.Pairs.{Optional}
use Rattle.vch_frame.specs.Releases.{lets_kind}
use Rattle.vch_frame.specs.Claims.{claim_kind}
use Rattle.vch_parts.specs.declared.frame.Frame.{Frame}
use Rattle.vch_parts.specs.Plain.{Indices, Plain, part_of}
use Rattle.vch_parts.specs.Nexts.{value_kind, receipt_kind}
use Rattle.vch_parts.specs.Shape.{IsFrame, IsMap}
use Rattle.vch_parts.specs.Stands.{StandsFor}
use Rattle.vch_parts.proofs.CallerLemmas.{in_parts, twin_of}
use Rattle.vch_moves.specs.Moments.{IsFree, IsAtWork, Forms}
use Rattle.vch_moves.specs.Steps.{IsIdle}

module _ (sc : Scenario) (c : Plain) (m : Machine) (t : ℕ) (s : StandsFor sc c m) (ties : Ties sc m) (task : is_task sc t ≡ true) where
  -- the calls that a task has begun
  pub same_begun : (tasked m t).begun ≡ (part_of c t).begun
  same_begun = let n = in_parts sc c m t s ties task in sym (s.shape.tasks t n.0 n.1).begun

  -- a task without a frame
  pub free_of : (part_of c t).frame ≡ None → IsFree sc c m t
  free_of own =
      let n = in_parts sc c m t s ties task in
      record {
        stands = s;
        positive = n.0;
        inside = n.1;
        own = own;
        task = none (tasked m t).frame (subst (λ o. Optional (IsFrame c.keyed) o (tasked m t).frame) own (s.shape.tasks t n.0 n.1).frame);
      }
    where
      none : (o : Option machine.Frame) → Optional (IsFrame c.keyed) None o → o ≡ None
      none None e = refl
      none (Some g) e = absurd e

  -- a task with an idle frame
  pub at_work_of : (f : Frame) (P : Type 0) → (part_of c t).frame ≡ Some f → IsIdle (Some f) → ((g : machine.Frame) → IsAtWork sc c m t f g → P) → P
  at_work_of f P own idle h =
      let n = in_parts sc c m t s ties task in
      twin_of sc c m t f P s ties task own (λ g e z. h g (record { stands = s; positive = n.0; inside = n.1; own = own; task = e; frame = z; idle = idle }))

  -- a call that is not answered and is no exit forms a voucher
  forming_there : (g : machine.Frame) (call : Call) → (tasked m t).frame ≡ Some g → g.answered ≡ false → g.forming ≡ None → nth_call sc t (tasked m t).begun ≡ Some call → call ≡ calls.Exit
  forming_there g call e unanswered none there =
      let a : IsForming sc m.live (member_of m.live (tasked m t)) t (tasked m t).begun (Some g) = subst (λ o. IsForming sc m.live (member_of m.live (tasked m t)) t (tasked m t).begun o) e (ties.tasks t task).forming in
      let b : FrameForms sc m.live (member_of m.live (tasked m t)) t g.at_byte g.keys g.receipt false None (Some call) =
      subst (λ o. FrameForms sc m.live (member_of m.live (tasked m t)) t g.at_byte g.keys g.receipt false None o) there
      (subst (λ o. FrameForms sc m.live (member_of m.live (tasked m t)) t g.at_byte g.keys g.receipt false o (nth_call sc t (tasked m t).begun)) none
      (subst (λ o. FrameForms sc m.live (member_of m.live (tasked m t)) t g.at_byte g.keys g.receipt o g.forming (nth_call sc t (tasked m t).begun)) unanswered a)) in
      let d : Some call ≡ Some calls.Exit = b in cc

  pub forms_call : (f : Frame) (g : machine.Frame) (call : Call) (P : Type 0) → IsAtWork sc c m t f g → f.answered ≡ false
      → nth_call sc t (part_of c t).begun ≡ Some call → is_exit call ≡ false → ((u : Indices) (w : Handles) → f.forming ≡ Some u → Forms c g u w → P) → P
  forms_call f g call P a unanswered there other h = by f.forming g.forming refl refl a.frame.forming
    where
      now : nth_call sc t (tasked m t).begun ≡ Some call
      now = ap (nth_call sc t) same_begun ∙ there

      exits : calls.Exit ≡ call → ⊥
      exits e = let x : true ≡ false = ap is_exit e ∙ other in cc

      by : (u : Option Indices) (w : Option Handles) → f.forming ≡ u → g.forming ≡ w → Optional (IsMap c.keyed) u w → P
      by None None d e z = absurd (exits (sym (forming_there g call a.task (sym a.frame.answered ∙ unanswered) e now)))
      by None (Some w) d e z = absurd z
      by (Some u) None d e z = absurd z
      by (Some u) (Some w) d e z = h u w d (record { forms = e; map = z })

  -- what an idle frame forms
  pub forms_of : (f : Frame) (g : machine.Frame) (u : Indices) (P : Type 0) → IsAtWork sc c m t f g → f.forming ≡ Some u → ((w : Handles) → Forms c g u w → P) → P
  forms_of f g u P a e h = by g.forming refl (subst (λ o. Optional (IsMap c.keyed) o g.forming) e a.frame.forming)
    where
      by : (w : Option Handles) → g.forming ≡ w → Optional (IsMap c.keyed) (Some u) w → P
      by None q z = absurd z
      by (Some w) q z = h w (record { forms = q; map = z })

-- a frame whose values have no event is idle, and has nothing to let go of
pub idle_of : (f : Frame) → value_kind (Some f) ≡ None → IsIdle (Some f) × (f.lets ≡ [])
idle_of f e = by_receipt f.receipt refl e
  where
    by_lets : (ls : List KeyIndex) → f.receipt ≡ None → f.claim ≡ Claiming.Nothing → f.lets ≡ ls → lets_kind ls ≡ None → IsIdle (Some f) × (f.lets ≡ [])
    by_lets [] r x q e = ((r, x), q)
    by_lets (l ∷ ls) r x q e = absurd (cc)

    by_claim : (x : Claiming) → f.receipt ≡ None → f.claim ≡ x → claim_kind f.lets x ≡ None → IsIdle (Some f) × (f.lets ≡ [])
    by_claim Claiming.Nothing r q e = by_lets f.lets r q refl e
    by_claim (Claiming.Claimed k a) r q e = absurd (cc)
    by_claim (Claiming.Answered k a) r q e = absurd (cc)

    by_receipt : (r : Option KeyReceipt) → f.receipt ≡ r → receipt_kind f r ≡ None → IsIdle (Some f) × (f.lets ≡ [])
    by_receipt None q e = by_claim f.claim q refl e
    by_receipt (Some r) q e = absurd (cc)
