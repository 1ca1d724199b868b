-- A call places what it formed, or is refused.
use Rattle.std.proofs.Common.{◌≡◌, ℕ, ◌≤◌, Bool, true, false, refl, sym, ap, ◌∙◌, Some, None, ℤ}
use Rattle.vch_base.specs.declared.kind.Kind.TheVariants as kinds
use Rattle.vch_model.specs.Legal.{is_exit}
use Rattle.vch_model.specs.Lines.{is_task}
use Rattle.vch_model.specs.declared.call.Call.{Call}
use Rattle.vch_machine.specs.Events.{event}
use Rattle.vch_machine.specs.Frames.{refuse}
use Rattle.vch_machine.specs.Next.{nth_call}
use Rattle.vch_machine.specs.Placing.{do_place}
use Rattle.vch_machine.specs.State as machine
use Rattle.vch_machine.specs.State.{Handles, Machine}
use Rattle.vch_parts.specs.declared.frame.Frame.{Frame}
use Rattle.vch_parts.specs.declared.parts.Parts.{Parts}
use Rattle.vch_parts.specs.Framed.{frame_of, begun_of}
use Rattle.vch_parts.specs.Nexts.{value_kind}
use Rattle.vch_parts.specs.Plain.{Indices, part_of}
use Rattle.vch_parts.specs.Reached.{plain_of, Reached, IsState, IsNext, MayFollow}
use Rattle.vch_parts.proofs.CallerLemmas.{own_frame, own_begun}
use Rattle.vch_moves.specs.Moments.{Forms}
use Rattle.vch_moves.specs.Steps.{refused_call}
use Rattle.vch_moves.proofs.CallerLemmas.{refused_stands, stands_of, ties_of, from_state, next_in, may_follow, forms_call, AtCall, at_call_of, place_event}
use Rattle.vch_carry.proofs.glue.Open.{framed, idle_kind}
use Rattle.vch_carry.proofs.glue.Runs.{room_by}
use Rattle.vch_carry.specs.Carried.{forming_in}

module _ (p : Parts) (t : ℕ) (r : Reached p) (task : is_task p.scenario t ≡ true) (next : IsNext p t (Some kinds.Place))
    (call : Call) (is : nth_call p.scenario t (begun_of p.frames t) ≡ Some call) (other : is_exit call ≡ false) (f : Frame) (own : frame_of p.frames t ≡ Some f) where
  pub own_is : (part_of (plain_of p) t).frame ≡ Some f
  own_is = own_frame p t r task ∙ own

  pub call_is : nth_call p.scenario t (part_of (plain_of p) t).begun ≡ Some call
  call_is = ap (nth_call p.scenario t) (own_begun p t r task) ∙ is

  -- what it forms, and the event
  pub placing : (m : Machine) → IsState p.scenario (plain_of p) m → (P : Type 0)
      → ((g : machine.Frame) (u : Indices) (w : Handles) → AtCall p.scenario (plain_of p) m t f g kinds.Place → f.forming ≡ Some u → Forms (plain_of p) g u w
      → ((want : Bool) → event p.scenario want m t ≡ do_place p.scenario want m t g w call) → P) → P
  placing m st P h =
      let s = stands_of p.scenario (plain_of p) m st in
      let ties = ties_of p.scenario (plain_of p) m st in
      at_call_of p.scenario (plain_of p) m t s ties task kinds.Place refl (next_in p t (Some kinds.Place) m next st) f P own_is (λ g a.
      forms_call p.scenario (plain_of p) m t s ties task f g call P a.work a.unanswered call_is other (λ u w e forms.
      h g u w a e forms (λ want. place_event p.scenario (plain_of p) m t f g task want u w call forms call_is a)))

  -- a refusal
  module _ (code : ℤ) (want : Bool) (refuses : (m : Machine) → IsState p.scenario (plain_of p) m → (g : machine.Frame) (w : Handles) → AtCall p.scenario (plain_of p) m t f g kinds.Place → do_place p.scenario want m t g w call ≡ Some (refuse m t g call code)) where
    pub refused_room : 1 ≤ p.history.spare
    refused_room = from_state p _ r (λ m st. placing m st _ (λ g u w a e forms happens.
        room_by p.scenario (plain_of p) m (refuse m t g call code) t want _ st (happens want ∙ refuses m st g w a) refl refl))

    pub refused_follows : (new : Parts) → new.scenario ≡ p.scenario → plain_of new ≡ refused_call (plain_of p) t f call code → MayFollow kinds.Place t p new
    refused_follows new same plain = may_follow kinds.Place t p new want (refused_call (plain_of p) t f call code) same plain (λ m st. placing m st _ (λ g u w a e forms happens. (
      refuse m t g call code,
      happens want ∙ refuses m st g w a,
      a.next,
      refused_stands p.scenario (plain_of p) m t a.work.positive a.work.inside a.work.stands f g call code a.work.own a.work.task a.work.frame a.work.idle refused_room,
    )))

-- a frame that places forms a voucher
pub forms_some : (p : Parts) (t : ℕ) (r : Reached p) (task : is_task p.scenario t ≡ true) → IsNext p t (Some kinds.Place) → (call : Call) → nth_call p.scenario t (begun_of p.frames t) ≡ Some call → is_exit call ≡ false
    → forming_in (frame_of p.frames t) ≡ None → ⊥
forms_some p t r task next call is other none = framed p t kinds.Place tt r task next _ (λ f own. from_state p _ r (λ m st. placing p t r task next call is other f own m st _ (λ g u w a e forms happens.
    let z : Some u ≡ None = sym e ∙ (ap forming_in (sym own) ∙ none) in cc)))

-- a frame whose call goes on has no value to see to
pub idle_now : (p : Parts) (t : ℕ) (r : Reached p) (task : is_task p.scenario t ≡ true) → IsNext p t (Some kinds.Place) → (f : Frame) → frame_of p.frames t ≡ Some f → value_kind (frame_of p.frames t) ≡ None
idle_now p t r task next f own = ap value_kind own ∙ idle_kind p t kinds.Place tt r task next f own
