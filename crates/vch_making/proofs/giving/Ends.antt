-- The event Make where no value is handed out: the call is refused, is out of memory, or loses the key.
use Rattle.std.proofs.Common.{◌≡◌, ℕ, ◌≤◌, true, false, refl, sym, ap, ◌∙◌, subst, Option, Some, None}
use Rattle.std.specs.Prelude.{Result, Ok, Err, ℤ}
use Rattle.std.proofs.lemmas.Option.{same_Some}
use Rattle.vch_base.specs.declared.codes.TheConstants.{KERN_RESOURCE_SHORTAGE}
use Rattle.vch_base.specs.declared.kind.Kind.TheVariants as kinds
use Rattle.vch_base.specs.declared.manager.GetFault.{GetFault}
use Rattle.vch_base.specs.Keyed.{of_key}
use Rattle.vch_value.specs.declared.flight.Made.{Made}
use Rattle.vch_model.specs.Lines.{is_task}
use Rattle.vch_model.specs.declared.call.Call.{Call}
use Rattle.vch_machine.specs.Making.{asked_by}
use Rattle.vch_machine.specs.Next.{nth_call}
use Rattle.vch_machine.specs.State as machine
use Rattle.vch_machine.specs.State.{Handles, Machine}
use Rattle.vch_legal.specs.Tie.{Ties}
use Rattle.vch_vouchers.specs.Desks.{desk}
use Rattle.vch_parts.specs.declared.frame.Frame.{Frame}
use Rattle.vch_parts.specs.declared.parts.Parts.{Parts}
use Rattle.vch_parts.specs.Framed.{frame_of, begun_of}
use Rattle.vch_parts.specs.Plain.{Part, Indices}
use Rattle.vch_parts.specs.Reached.{plain_of, Reached, Stands, IsNext, MayFollow}
use Rattle.vch_parts.specs.Stands.{StandsFor}
use Rattle.vch_parts.proofs.CallerLemmas.{own_frame, own_begun, part_at, Happens}
use Rattle.vch_moves.specs.Moments.{Forms}
use Rattle.vch_moves.specs.Steps.{refused_call}
use Rattle.vch_moves.proofs.CallerLemmas.{AtCall, at_call_of, forms_of, from_state, next_in, stands_of, ties_of, may_follow, make_wants, making_room}
use Rattle.vch_making.specs.declared.question.Question.{Question}
use Rattle.vch_making.specs.Asked.{question_by, content_by}
use Rattle.vch_making.specs.Given.{gave_none}
use Rattle.vch_making.specs.Refused.{IsRefused}
use Rattle.vch_making.specs.Answers.{Answers, IsLoss, question_of, place_of, content_of, reply_to}
use Rattle.vch_making.proofs.giving.Happens.{none_happens, refused_happens}
use Rattle.vch_making.proofs.questions.Asks.{answered}
use Rattle.vch_making.proofs.questions.AskedBy.{asked_same}
use Rattle.vch_making.proofs.questions.Previous.{asking}

-- The call, beside the frame and what it forms.
pub with_call : (p : Parts) (t : ℕ) (q : Question) (P : Type 0) → question_of p t ≡ Some q
    → ((f : Frame) (u : Indices) (call : Call) → frame_of p.frames t ≡ Some f → f.forming ≡ Some u → nth_call p.scenario t (begun_of p.frames t) ≡ Some call
    → question_by p.scenario.version (desk p.vouchers t).names f.at f.keys u (Some call) ≡ Some q → P) → P
with_call p t q P e h = asking p t q P e (λ f u own forming asks. by f u own forming (nth_call p.scenario t (begun_of p.frames t)) refl asks)
  where
    by : (f : Frame) (u : Indices) → frame_of p.frames t ≡ Some f → f.forming ≡ Some u → (o : Option Call) → nth_call p.scenario t (begun_of p.frames t) ≡ o
        → question_by p.scenario.version (desk p.vouchers t).names f.at f.keys u o ≡ Some q → P
    by f u own forming None is asks = absurd (cc)
    by f u own forming (Some call) is asks = h f u call own forming is asks

module _ (p : Parts) (t : ℕ) (q : Question) (reached : Reached p) (task : is_task p.scenario t ≡ true) (next : IsNext p t (Some kinds.Make))
    (f : Frame) (u : Indices) (call : Call) (own : frame_of p.frames t ≡ Some f) (forming : f.forming ≡ Some u) (is : nth_call p.scenario t (begun_of p.frames t) ≡ Some call)
    (asks : question_by p.scenario.version (desk p.vouchers t).names f.at f.keys u (Some call) ≡ Some q) (m : Machine) (st : Stands p m) where
  pub s : StandsFor p.scenario (plain_of p) m
  s = stands_of p.scenario (plain_of p) m st

  pub ties : Ties p.scenario m
  ties = ties_of p.scenario (plain_of p) m st

  pub at_make : (P : Type 0) → ((g : machine.Frame) → AtCall p.scenario (plain_of p) m t f g kinds.Make → P) → P
  at_make P h = at_call_of p.scenario (plain_of p) m t s ties task kinds.Make refl (next_in p t (Some kinds.Make) m next st) f P (own_frame p t reached task ∙ own) h

  pub formed : (g : machine.Frame) → AtCall p.scenario (plain_of p) m t f g kinds.Make → (P : Type 0) → ((w : Handles) → Forms (plain_of p) g u w → P) → P
  formed g a P h = forms_of p.scenario (plain_of p) m t s ties task f g u P a.work forming h

  pub same_call : (g : machine.Frame) (a : AtCall p.scenario (plain_of p) m t f g kinds.Make) → a.call ≡ call
  same_call g a = same_Some a.call call (sym a.begun ∙ (ap (nth_call p.scenario t) (own_begun p t reached task) ∙ is))

  -- the machine asks the same, and its manager answers the same
  pub asks_for : (g : machine.Frame) (w : Handles) (a : AtCall p.scenario (plain_of p) m t f g kinds.Make) → Forms (plain_of p) g u w → asked_by p.scenario m t g w a.call ≡ Some (record { key = q.key; reply = reply_to p t q })
  asks_for g w a forms =
      asked_same p.scenario (plain_of p) m t f g u w ties task a forms q
      (subst (λ ns. question_by p.scenario.version ns f.at f.keys u (Some a.call) ≡ Some q) (sym (ap (λ (x : Part). x.names) (part_at p.vouchers p.frames t a.work.positive a.work.inside)))
      (subst (λ z. question_by p.scenario.version (desk p.vouchers t).names f.at f.keys u (Some z) ≡ Some q) (sym (same_call g a)) asks))
      ∙ ap (λ content. Some (record { key = q.key; reply = answered (of_key q.key p.values) t q content })) same_content
    where
      same_content : content_by f.at (Some a.call) ≡ content_of p t
      same_content = ap (λ o. content_by f.at o) (ap Some (same_call g a) ∙ sym is) ∙ ap (λ o. content_by (place_of o) (nth_call p.scenario t (begun_of p.frames t))) (sym own)

-- there is room for the answer of a call that is refused
pub make_has_room : (p : Parts) (t : ℕ) (q : Question) → Reached p → is_task p.scenario t ≡ true → IsNext p t (Some kinds.Make) → question_of p t ≡ Some q → 1 ≤ p.history.spare
make_has_room p t q reached task next e = with_call p t q _ e (λ f u call own forming is asks. from_state p _ reached (λ m st.
    at_make p t q reached task next f u call own forming is asks m st _ (λ g a.
    making_room p.scenario (plain_of p) m t f g (ties_of p.scenario (plain_of p) m st) task u a.call a forming a.begun)))

-- out of memory
pub wants_follows : (p new : Parts) (t : ℕ) (q : Question) → Reached p → is_task p.scenario t ≡ true → IsNext p t (Some kinds.Make) → question_of p t ≡ Some q → IsRefused t KERN_RESOURCE_SHORTAGE p new → MayFollow kinds.Make t p new
wants_follows p new t q reached task next e r = with_call p t q _ e (λ f u call own forming is asks.
    may_follow kinds.Make t p new true (refused_call (plain_of p) t f call KERN_RESOURCE_SHORTAGE) r.scenario (r.plain f call own is) (λ m st.
    at_make p t q reached task next f u call own forming is asks m st _ (λ g a.
    subst (λ z. Happens p.scenario true kinds.Make t (refused_call (plain_of p) t f z KERN_RESOURCE_SHORTAGE) m) (same_call p t q reached task next f u call own forming is asks m st g a)
    (make_wants p.scenario (plain_of p) m t f g (ties_of p.scenario (plain_of p) m st) task u a.call a forming a.begun))))

-- refused
pub refused_follows : (p new : Parts) (t : ℕ) (q : Question) (code : ℤ) → Reached p → is_task p.scenario t ≡ true → IsNext p t (Some kinds.Make) → question_of p t ≡ Some q → reply_to p t q ≡ Err code → IsRefused t code p new → MayFollow kinds.Make t p new
refused_follows p new t q code reached task next e reply r = with_call p t q _ e (λ f u call own forming is asks.
    may_follow kinds.Make t p new false (refused_call (plain_of p) t f call code) r.scenario (r.plain f call own is) (λ m st.
    at_make p t q reached task next f u call own forming is asks m st _ (λ g a.
    formed p t q reached task next f u call own forming is asks m st g a _ (λ w forms.
    subst (λ z. Happens p.scenario false kinds.Make t (refused_call (plain_of p) t f z code) m) (same_call p t q reached task next f u call own forming is asks m st g a)
    (refused_happens p.scenario (plain_of p) m t f g u w (ties_of p.scenario (plain_of p) m st) task a forms q.key code
    (asks_for p t q reached task next f u call own forming is asks m st g w a forms ∙ ap (λ x. Some (record { key = q.key; reply = x })) reply)
    (make_has_room p t q reached task next e))))))

-- without a value
pub none_follows : (p new : Parts) (t : ℕ) (q : Question) → Reached p → is_task p.scenario t ≡ true → IsNext p t (Some kinds.Make) → question_of p t ≡ Some q → reply_to p t q ≡ Ok None → IsLoss t q.key p new → MayFollow kinds.Make t p new
none_follows p new t q reached task next e reply r = with_call p t q _ e (λ f u call own forming is asks.
    let l = r.plain f u call own forming is in
    may_follow kinds.Make t p new false (gave_none (plain_of p) t f p.scenario.version call q.key u l.0) r.scenario l.3 (λ m st.
    at_make p t q reached task next f u call own forming is asks m st _ (λ g a.
    formed p t q reached task next f u call own forming is asks m st g a _ (λ w forms.
    subst (λ z. Happens p.scenario false kinds.Make t (gave_none (plain_of p) t f p.scenario.version z q.key u l.0) m) (same_call p t q reached task next f u call own forming is asks m st g a)
    (none_happens p.scenario (plain_of p) m t f g u w (ties_of p.scenario (plain_of p) m st) task a forms q.key l.0
    (asks_for p t q reached task next f u call own forming is asks m st g w a forms ∙ ap (λ x. Some (record { key = q.key; reply = x })) reply) l.1 l.2)))))

-- where the manager keeps what it kept, it is asked the same and answers the same
pub same_reply : (t : ℕ) (q : Question) (result : Result Made GetFault) (old new : Parts) → Answers t q result old new → (of_key q.key new.values).kept ≡ (of_key q.key old.values).kept → reply_to new t q ≡ reply_to old t q
same_reply t q result old new a kept = ap (λ x. reply_to x t q) a.others ∙ rw (kept, a.slots) refl
