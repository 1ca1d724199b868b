-- From what the code of a refusal does to the parts as plain data.
use Rattle.std.proofs.Common.{◌≡◌, ℕ, ◌+◌, ◌-◌, true, List, [], ◌∷◌, ◌++◌, refl, arith, sym, ap, ◌∙◌, Option, Some, None, length}
use Rattle.std.specs.Prelude.{◌≤◌}
use Rattle.std.proofs.lemmas.Option.{same_Some}
use Rattle.vch_base.specs.declared.fault.Code.{Code}
use Rattle.vch_model.specs.Lines.{is_task}
use Rattle.vch_model.specs.Replies.{refused}
use Rattle.vch_model.specs.Rows.{Entries}
use Rattle.vch_model.specs.Words.{word_of}
use Rattle.vch_model.specs.declared.call.Call.{Call}
use Rattle.vch_model.specs.declared.entry.Entry.{Entry}
use Rattle.vch_model.specs.declared.entry.Entry.TheVariants as entries
use Rattle.vch_machine.specs.Next.{nth_call}
use Rattle.vch_frame.specs.declared.frame.Claiming.{Claiming}
use Rattle.vch_frame.specs.declared.frame.KeyIndex.{KeyIndex}
use Rattle.vch_frame.specs.declared.frame.KeyReceipt.{KeyReceipt}
use Rattle.vch_frame.specs.Claims.{claim_kind}
use Rattle.vch_parts.specs.declared.frame.Frame.{Frame}
use Rattle.vch_parts.specs.declared.frames.Working.{Working}
use Rattle.vch_parts.specs.declared.parts.Parts.{Parts}
use Rattle.vch_parts.specs.Framed.{frame_of, begun_of, with_frame_of}
use Rattle.vch_parts.specs.Nexts.{value_kind, receipt_kind}
use Rattle.vch_parts.specs.Plain.{Plain, Part, closed}
use Rattle.vch_parts.specs.Reached.{plain_of, Reached}
use Rattle.vch_parts.proofs.CallerLemmas.{own_begun, tasks_then}
use Rattle.vch_moves.specs.Desks.{option_items}
use Rattle.vch_moves.specs.Steps.{refused_call, ended}
use Rattle.vch_making.specs.Refused.{IsRefused}

-- A frame with nothing to do for a value has no receipt, no claim, and nothing to let go of.
pub record Quiet (f : Frame) : Type 0 where
  pub receipt : f.receipt ≡ None
  pub claim : f.claim ≡ Claiming.Nothing
  pub lets : f.lets ≡ []

pub quiet_frame : (f : Frame) → value_kind (Some f) ≡ None → Quiet f
quiet_frame f e = by_receipt f.receipt refl e
  where
    by_lets : (l : List KeyIndex) → f.lets ≡ l → f.receipt ≡ None → f.claim ≡ Claiming.Nothing → claim_kind l Claiming.Nothing ≡ None → Quiet f
    by_lets [] q r y e = record { receipt = r; claim = y; lets = q }
    by_lets (l ∷ ls) q r y e = absurd (cc)

    by_claim : (x : Claiming) → f.claim ≡ x → f.receipt ≡ None → claim_kind f.lets x ≡ None → Quiet f
    by_claim Claiming.Nothing q r e = by_lets f.lets refl r q e
    by_claim (Claiming.Claimed key claim) q r e = absurd (cc)
    by_claim (Claiming.Answered key asked) q r e = absurd (cc)

    by_receipt : (r : Option KeyReceipt) → f.receipt ≡ r → receipt_kind f r ≡ None → Quiet f
    by_receipt None q e = by_claim f.claim refl q e
    by_receipt (Some r) q e = absurd (cc)

pub few_lets : (f : Frame) → value_kind (Some f) ≡ None → length f.lets ≤ 8
few_lets f e = let q : f.lets ≡ [] = (quiet_frame f e).lets in rw q (omega arith)

-- Parts that differ in tasks, history and its room.
pub plain_is : (x : Plain) (d e : List Part) (f g : List Entry) (i j : ℕ) → d ≡ e → f ≡ g → i ≡ j
    → record x { tasks = d; history = f; spare = i } ≡ record x { tasks = e; history = g; spare = j }
plain_is x d e f g i j p q r = rw (p, q, r) refl

module _ (p : Parts) (t : ℕ) (reached : Reached p) (task : is_task p.scenario t ≡ true) (f : Frame) (call : Call) (code : Code)
    (own : frame_of p.frames t ≡ Some f) (is : nth_call p.scenario t (begun_of p.frames t) ≡ Some call)
    (frames2 : List Working) (history2 : Entries)
    (put : frames2 ≡ with_frame_of (with_frame_of p.frames t None) t (closed (ended f (option_items f.forming))))
    (pushed : history2.entries ≡ p.history.entries ++ entries.Call t (begun_of p.frames t) (word_of call) (refused code.number) ∷ [])
    (less : history2.spare + 1 ≡ p.history.spare) where
  abbrev new : Parts
  new = record p { frames = frames2; history = history2 }

  one_less : (a b : ℕ) → a + 1 ≡ b → a ≡ b - 1
  one_less a b e = omega (arith, e)

  here : plain_of new ≡ refused_call (plain_of p) t f call code.number
  here = plain_is (plain_of p) _ _ _ _ _ _
      (tasks_then p t reached task frames2 (closed (ended f (option_items f.forming))) put)
      (pushed ∙ ap (λ n. p.history.entries ++ entries.Call t n (word_of call) (refused code.number) ∷ []) (sym (own_begun p t reached task)))
      (one_less _ _ less)

  pub refuse_is : IsRefused t code.number p new
  refuse_is = record {
    scenario = refl;
    plain = λ g other own2 is2.
        let a : f ≡ g = same_Some f g (sym own ∙ own2) in
        let b : call ≡ other = same_Some call other (sym is ∙ is2) in
        here ∙ ap (λ h. refused_call (plain_of p) t h call code.number) a ∙ ap (λ h. refused_call (plain_of p) t g h code.number) b;
  }
