-- From the parts to plain data.
use Rattle.std.proofs.Common.{◌≡◌, ℕ, ◌-◌, ◌<◌, ◌≤◌, true, List, refl, arith, ap, ◌∙◌, length, Option, Some, None}
use Rattle.vch_base.specs.Tasks.{at_task, set_task}
use Rattle.vch_base.specs.declared.key.Key.{Key}
use Rattle.vch_base.specs.declared.kind.Kind.TheVariants as kinds
use Rattle.vch_base.specs.Keyed.{Keyed, of_key, with_key}
use Rattle.vch_values.specs.Parts.{KeyParts}
use Rattle.vch_bounds.specs.Bounded.{InNumbers}
use Rattle.vch_bounds.proofs.CallerLemmas.{run_in_numbers}
use Rattle.vch_model.specs.Lines.{is_task}
use Rattle.vch_machine.specs.State.{Machine}
use Rattle.vch_legal.specs.Tie.{Ties}
use Rattle.vch_legal.proofs.CallerLemmas.{reached_stands}
use Rattle.vch_frame.specs.declared.frame.Claiming.{Claiming}
use Rattle.vch_frame.specs.declared.frame.KeyReceipt.{KeyReceipt}
use Rattle.vch_frame.specs.Claims.{claim_kind}
use Rattle.vch_parts.specs.declared.frame.Frame.{Frame}
use Rattle.vch_parts.specs.declared.frames.Working.{Working}
use Rattle.vch_parts.specs.declared.parts.Parts.{Parts}
use Rattle.vch_parts.specs.Framed.{frame_of, begun_of, with_frame_of}
use Rattle.vch_parts.specs.Moves.{with_entries, with_kept}
use Rattle.vch_parts.specs.Nexts.{value_kind, receipt_kind}
use Rattle.vch_parts.specs.Plain.{part_of, idle_part, with_frame}
use Rattle.vch_parts.specs.Reached.{plain_of, parts_in, Reached, IsEnd, IsState}
use Rattle.vch_parts.specs.Stands.{StandsFor}
use Rattle.vch_parts.proofs.framing.Glue.{in_parts, from_end}
use Rattle.vch_parts.proofs.framing.Put.{put_taken, frame_at, parts_range}

-- what the parts at the end of a run give: the bounds of the state too
pub numbers_of : (p : Parts) (P : Type 0) → Reached p → ((m : Machine) → StandsFor p.scenario (plain_of p) m → Ties p.scenario m → InNumbers m → P) → P
unfolding IsEnd IsState
numbers_of p P r f =
    let e = r.end in
    f e.0 e.1.2 (reached_stands p.scenario e.1.0 e.0 e.1.1) (run_in_numbers p.scenario e.1.0 e.0 r.limited e.1.1)

module _ (p : Parts) (t : ℕ) (reached : Reached p) (task : is_task p.scenario t ≡ true) where
  pub range : (0 < t) × (t - 1 < length (parts_in p.vouchers p.frames))
  range = from_end p.scenario (plain_of p) _ reached.end (λ m s ties. in_parts p.scenario (plain_of p) m t s ties task)

  pub task_inside : (0 < t) × (t ≤ length p.frames)
  task_inside = let a = range.1 in let b = parts_range p.vouchers p.frames in (range.0, omega (arith, range.0, a, b))

  pub own_frame : (part_of (plain_of p) t).frame ≡ frame_of p.frames t
  own_frame = (frame_at p.vouchers p.frames t range.0 range.1).0

  pub own_begun : (part_of (plain_of p) t).begun ≡ begun_of p.frames t
  own_begun = (frame_at p.vouchers p.frames t range.0 range.1).1

  -- a frame that is put where it was taken
  pub tasks_then : (frames2 : List Working) (f : Option Frame) → frames2 ≡ with_frame_of (with_frame_of p.frames t None) t f
      → parts_in p.vouchers frames2 ≡ set_task (parts_in p.vouchers p.frames) t (with_frame (at_task (parts_in p.vouchers p.frames) t idle_part) f)
  tasks_then frames2 f put = ap (parts_in p.vouchers) put ∙ put_taken p.vouchers p.frames t f range.0 range.1

-- a key with other entries, and with another manager

entries_apart : (x y : KeyParts) → x.kept ≡ y.kept → x.numbers ≡ y.numbers → x ≡ record y { entries = x.entries }
entries_apart x y a b = rw (← a, ← b) refl

pub entries_then : (k : Key) (old new : Keyed KeyParts) → new ≡ with_key k (of_key k new) old → (of_key k new).kept ≡ (of_key k old).kept → (of_key k new).numbers ≡ (of_key k old).numbers
    → new ≡ with_entries old k (of_key k new).entries
entries_then k old new others kept numbers = others ∙ ap (λ y. with_key k y old) (entries_apart (of_key k new) (of_key k old) kept numbers)

kept_apart : (x y : KeyParts) → x.entries ≡ y.entries → x.numbers ≡ y.numbers → x ≡ record y { kept = x.kept }
kept_apart x y a b = rw (← a, ← b) refl

pub kept_then : (k : Key) (old new : Keyed KeyParts) → new ≡ with_key k (of_key k new) old → (of_key k new).entries ≡ (of_key k old).entries → (of_key k new).numbers ≡ (of_key k old).numbers
    → new ≡ with_kept old k (of_key k new).kept
kept_then k old new others entries numbers = others ∙ ap (λ y. with_key k y old) (kept_apart (of_key k new) (of_key k old) entries numbers)

-- what the kind of the next event says of a frame

pub lets_go_next : (f : Frame) → value_kind (Some f) ≡ Some kinds.LetGo → (f.receipt ≡ None) × (f.claim ≡ Claiming.Nothing)
lets_go_next f e = by_receipt f.receipt refl e
  where
    by_claim : (x : Claiming) → f.claim ≡ x → f.receipt ≡ None → claim_kind f.lets x ≡ Some kinds.LetGo → (f.receipt ≡ None) × (f.claim ≡ Claiming.Nothing)
    by_claim Claiming.Nothing q r e = (r, q)
    by_claim (Claiming.Claimed key claim) q r e = absurd (cc)
    by_claim (Claiming.Answered key asked) q r e = absurd (cc)

    by_receipt : (r : Option KeyReceipt) → f.receipt ≡ r → receipt_kind f r ≡ Some kinds.LetGo → (f.receipt ≡ None) × (f.claim ≡ Claiming.Nothing)
    by_receipt None q e = by_claim f.claim refl q e
    by_receipt (Some r) q e = absurd (cc)

pub asks_next : (f : Frame) → value_kind (Some f) ≡ Some kinds.Ask → f.receipt ≡ None
asks_next f e = by_receipt f.receipt refl e
  where
    by_receipt : (r : Option KeyReceipt) → f.receipt ≡ r → receipt_kind f r ≡ Some kinds.Ask → f.receipt ≡ None
    by_receipt None q e = q
    by_receipt (Some r) q e = absurd (cc)

pub rechecks_next : (f : Frame) → value_kind (Some f) ≡ Some kinds.Recheck → f.receipt ≡ None
rechecks_next f e = by_receipt f.receipt refl e
  where
    by_receipt : (r : Option KeyReceipt) → f.receipt ≡ r → receipt_kind f r ≡ Some kinds.Recheck → f.receipt ≡ None
    by_receipt None q e = q
    by_receipt (Some r) q e = absurd (cc)
