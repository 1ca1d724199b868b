-- A create places what it formed, or is refused.
use Rattle.std.proofs.Common.{◌≡◌, ℕ, ◌+◌, ◌≤◌, Bool, true, false, if◌then◌else◌, List, [], ◌∷◌, ◌++◌, refl, sym, ap, ◌∙◌, arith, length, Option, Some, None}
use Rattle.vch_base.specs.declared.codes.TheConstants.{KERN_RESOURCE_SHORTAGE}
use Rattle.vch_base.specs.declared.kind.Kind.TheVariants as kinds
use Rattle.vch_base.specs.Tasks.{set_task}
use Rattle.vch_model.specs.Lines.{is_task}
use Rattle.vch_model.specs.Rows.{Entries}
use Rattle.vch_model.specs.declared.call.Call.{Call}
use Rattle.vch_model.specs.declared.call.Call.TheVariants as calls
use Rattle.vch_model.specs.declared.call.Word.TheVariants as words
use Rattle.vch_model.specs.declared.entry.Entry.TheVariants as entries
use Rattle.vch_model.specs.declared.entry.Reply.TheVariants as replies
use Rattle.vch_machine.specs.Next.{nth_call}
use Rattle.vch_machine.specs.State as machine
use Rattle.vch_machine.specs.State.{Machine}
use Rattle.vch_frame.specs.declared.frame.Claiming.{Claiming}
use Rattle.vch_frame.specs.declared.frame.KeyIndex.{KeyIndex}
use Rattle.vch_vouchers.specs.Desks as desks
use Rattle.vch_vouchers.specs.Desks.{Desk, desk, is_known, name_for, name_with}
use Rattle.vch_parts.specs.declared.frame.Frame.{Frame}
use Rattle.vch_parts.specs.declared.frames.Working.{Working}
use Rattle.vch_parts.specs.declared.parts.Parts.{Parts}
use Rattle.vch_parts.specs.Framed.{frame_of, begun_of, with_frame_of}
use Rattle.vch_parts.specs.Nexts.{value_kind}
use Rattle.vch_parts.specs.Plain.{Indices, Part, part_of, closed}
use Rattle.vch_parts.specs.Reached.{plain_of, Reached, IsState, IsNext, MayFollow}
use Rattle.vch_parts.proofs.CallerLemmas.{own_frame, own_begun}
use Rattle.vch_moves.specs.Desks.{AllApart, items, doubled, given, name_of_given}
use Rattle.vch_moves.specs.Steps.{created, ended, refused_call}
use Rattle.vch_moves.proofs.CallerLemmas.{stands_of, ties_of, from_state, next_in, may_follow, forms_call, AtCall, at_call, at_call_of, create_room, create_wants, create_places, own_desk, all_desks, stepped_is}
use Rattle.vch_creating.specs.Beginnings.{IsCreating, forming_in}

create_of : (o : Option Call) → IsCreating o → (P : Type 0) → ((bytes : List ℕ) → o ≡ Some (calls.Create bytes) → P) → P
create_of None z P h = absurd z
create_of (Some (calls.Create bytes)) z P h = h bytes refl
create_of (Some (calls.GiveUp name)) z P h = absurd z
create_of (Some (calls.Extract name key)) z P h = absurd z
create_of (Some (calls.Recipes name)) z P h = absurd z
create_of (Some (calls.Extern name adding n)) z P h = absurd z
create_of (Some (calls.Charge name n)) z P h = absurd z
create_of (Some calls.Ledger) z P h = absurd z
create_of (Some calls.Assertions) z P h = absurd z
create_of (Some calls.Live) z P h = absurd z
create_of (Some (calls.Send to moving name id)) z P h = absurd z
create_of (Some calls.Recv) z P h = absurd z
create_of (Some calls.Exit) z P h = absurd z

kind_none : (f : Frame) → f.receipt ≡ None → f.claim ≡ Claiming.Nothing → f.lets ≡ [] → value_kind (Some f) ≡ None
kind_none f a b e = rw (a, b, e) refl

few : (ls : List KeyIndex) → ls ≡ [] → length ls ≤ 8
few ls e = rw e (omega arith)

-- a create that is to be placed
pub record Placing (p : Parts) (t : ℕ) (f : Frame) (u : Indices) (bytes : List ℕ) : Type 0 where
  pub own : frame_of p.frames t ≡ Some f
  pub form : f.forming ≡ Some u
  pub idle : value_kind (frame_of p.frames t) ≡ None
  pub lets : f.lets ≡ []
  pub call_is : nth_call p.scenario t (begun_of p.frames t) ≡ Some (calls.Create bytes)

module _ (p : Parts) (t : ℕ) (r : Reached p) (task : is_task p.scenario t ≡ true) (next : IsNext p t (Some kinds.Place)) where
  pub placing : IsCreating (nth_call p.scenario t (begun_of p.frames t)) → (P : Type 0) → ((f : Frame) (u : Indices) (bytes : List ℕ) → Placing p t f u bytes → P) → P
  placing call P h = create_of (nth_call p.scenario t (begun_of p.frames t)) call P (λ bytes is. from_state p P r (λ m st.
      let s = stands_of p.scenario (plain_of p) m st in
      let ties = ties_of p.scenario (plain_of p) m st in
      at_call p.scenario (plain_of p) m t s ties task kinds.Place refl (next_in p t (Some kinds.Place) m next st) P (λ f g e a.
      forms_call p.scenario (plain_of p) m t s ties task f g (calls.Create bytes) P a.work a.unanswered (ap (nth_call p.scenario t) (own_begun p t r task) ∙ is) refl (λ u w form forms.
      let own = sym (own_frame p t r task) ∙ e in
      h f u bytes (record { own = own; form = form; idle = ap value_kind own ∙ kind_none f a.work.idle.0 a.work.idle.1 a.lets; lets = a.lets; call_is = is })))))

  -- a frame that places forms a voucher
  pub forms_some : IsCreating (nth_call p.scenario t (begun_of p.frames t)) → forming_in (frame_of p.frames t) ≡ None → ⊥
  forms_some call none = placing call ⊥ (λ f u bytes x. let z : Some u ≡ None = sym x.form ∙ (ap forming_in (sym x.own) ∙ none) in cc)

  pub idle_now : IsCreating (nth_call p.scenario t (begun_of p.frames t)) → value_kind (frame_of p.frames t) ≡ None
  idle_now call = placing call _ (λ f u bytes x. x.idle)

  same_frame : {a b : Frame} → Some a ≡ Some b → a ≡ b
  same_frame e = cc

  pub few_lets : IsCreating (nth_call p.scenario t (begun_of p.frames t)) → (f : Frame) → frame_of p.frames t ≡ Some f → length f.lets ≤ 8
  few_lets call f own = placing call _ (λ f2 u bytes x. few f.lets (ap (λ (y : Frame). y.lets) (same_frame (sym own ∙ x.own)) ∙ x.lets))

  module _ (f : Frame) (u : Indices) (bytes : List ℕ) (x : Placing p t f u bytes) where
    abbrev X : Part
    X = part_of (plain_of p) t

    there : nth_call p.scenario t X.begun ≡ Some (calls.Create bytes)
    there = ap (nth_call p.scenario t) (own_begun p t r task) ∙ x.call_is

    at_place : (m : Machine) → IsState p.scenario (plain_of p) m → (P : Type 0) → ((g : machine.Frame) → AtCall p.scenario (plain_of p) m t f g kinds.Place → P) → P
    at_place m st P h = at_call_of p.scenario (plain_of p) m t (stands_of p.scenario (plain_of p) m st) (ties_of p.scenario (plain_of p) m st) task kinds.Place refl
        (next_in p t (Some kinds.Place) m next st) f P (own_frame p t r task ∙ x.own) h

    room : 1 ≤ p.history.spare
    room = from_state p _ r (λ m st. at_place m st _ (λ g a. create_room p.scenario (plain_of p) m t f g (ties_of p.scenario (plain_of p) m st) task u bytes a x.form there))

    refused : (new : Parts) → new.scenario ≡ p.scenario → plain_of new ≡ refused_call (plain_of p) t f (calls.Create bytes) KERN_RESOURCE_SHORTAGE → MayFollow kinds.Place t p new
    refused new same plain = may_follow kinds.Place t p new true (refused_call (plain_of p) t f (calls.Create bytes) KERN_RESOURCE_SHORTAGE) same plain (λ m st. at_place m st _ (λ g a.
        create_wants p.scenario (plain_of p) m t f g (ties_of p.scenario (plain_of p) m st) task u bytes a x.form there))

    module _ (apart : AllApart p.values) (ds2 : List Desk) (named : ds2 ≡ set_task p.vouchers t (desks.given (desk p.vouchers t) u))
        (name : ℕ) (name_is : name ≡ name_for (desk p.vouchers t) (name_with (desk p.vouchers t).names u)) (known : Bool) (known_is : known ≡ is_known p.vouchers u)
        (f2 : Frame) (f2_is : f2 ≡ ended f (if known then items u else []))
        (fs2 : List Working) (put : fs2 ≡ with_frame_of (with_frame_of p.frames t None) t (closed f2))
        (h2 : Entries) (number : ℕ) (number_is : number ≡ begun_of p.frames t) (noted : h2.entries ≡ p.history.entries ++ entries.Call t number words.Create (replies.Created name) ∷ []) (less : h2.spare + 1 ≡ p.history.spare) where
      lets_are : (if known then items u else []) ≡ doubled (plain_of p).tasks u
      lets_are = ap (λ b. if b then items u else []) (known_is ∙ ap (λ ds. is_known ds u) (sym (all_desks p t r task)))

      name_here : name ≡ name_of_given X u
      name_here = name_is ∙ ap (λ (d : Desk). name_for d (name_with d.names u)) (own_desk p t r task)

      plain : plain_of (record p { vouchers = ds2; frames = fs2; history = h2 }) ≡ created (plain_of p) t f u (calls.Create bytes)
      plain = stepped_is p t r task ds2 (given X u) (named ∙ ap (λ (d : Desk). set_task p.vouchers t (desks.given d u)) (own_desk p t r task)) refl fs2
          (closed (ended f (doubled (plain_of p).tasks u)))
          (put ∙ ap (λ (y : Frame). with_frame_of (with_frame_of p.frames t None) t (closed y)) (f2_is ∙ ap (ended f) lets_are))
          h2 (entries.Call t X.begun words.Create (replies.Created (name_of_given X u)))
          (noted ∙ (ap (λ n. p.history.entries ++ entries.Call t n words.Create (replies.Created name) ∷ []) (number_is ∙ sym (own_begun p t r task))
          ∙ ap (λ n. p.history.entries ++ entries.Call t X.begun words.Create (replies.Created n) ∷ []) name_here)) less

      places : MayFollow kinds.Place t p (record p { vouchers = ds2; frames = fs2; history = h2 })
      places = may_follow kinds.Place t p (record p { vouchers = ds2; frames = fs2; history = h2 }) false (created (plain_of p) t f u (calls.Create bytes)) refl plain (λ m st. at_place m st _ (λ g a.
          create_places p.scenario (plain_of p) m t f g (ties_of p.scenario (plain_of p) m st) task u bytes a x.form there apart))

  module _ (call : IsCreating (nth_call p.scenario t (begun_of p.frames t))) where
    pub place_room : 1 ≤ p.history.spare
    place_room = placing call _ room

    pub refused_follows : (new : Parts) → new.scenario ≡ p.scenario
        → ((f : Frame) (other : Call) → frame_of p.frames t ≡ Some f → nth_call p.scenario t (begun_of p.frames t) ≡ Some other → plain_of new ≡ refused_call (plain_of p) t f other KERN_RESOURCE_SHORTAGE)
        → MayFollow kinds.Place t p new
    refused_follows new same plain = placing call _ (λ f u bytes x. refused f u bytes x new same (plain f (calls.Create bytes) x.own x.call_is))

    same_form : {a b : Indices} → Some a ≡ Some b → a ≡ b
    same_form e = cc

    -- the create whose frame and voucher are at hand
    at_hand : (f : Frame) (u : Indices) → frame_of p.frames t ≡ Some f → forming_in (frame_of p.frames t) ≡ Some u → (P : Type 0) → ((bytes : List ℕ) → Placing p t f u bytes → P) → P
    at_hand f u own form P h = create_of (nth_call p.scenario t (begun_of p.frames t)) call P (λ bytes is.
        h bytes (record { own = own; form = ap forming_in (sym own) ∙ form; idle = idle_now call; lets = lets_none; call_is = is }))
      where
        lets_none : f.lets ≡ []
        lets_none = placing call _ (λ f2 u2 bytes x. ap (λ (y : Frame). y.lets) (same_frame (sym own ∙ x.own)) ∙ x.lets)

    pub placed_follows : (f : Frame) (u : Indices) → frame_of p.frames t ≡ Some f → forming_in (frame_of p.frames t) ≡ Some u → AllApart p.values
        → (ds2 : List Desk) → ds2 ≡ set_task p.vouchers t (desks.given (desk p.vouchers t) u)
        → (name : ℕ) → name ≡ name_for (desk p.vouchers t) (name_with (desk p.vouchers t).names u) → (known : Bool) → known ≡ is_known p.vouchers u
        → (f2 : Frame) → f2 ≡ ended f (if known then items u else [])
        → (fs2 : List Working) → fs2 ≡ with_frame_of (with_frame_of p.frames t None) t (closed f2)
        → (h2 : Entries) (number : ℕ) → number ≡ begun_of p.frames t → h2.entries ≡ p.history.entries ++ entries.Call t number words.Create (replies.Created name) ∷ [] → h2.spare + 1 ≡ p.history.spare
        → MayFollow kinds.Place t p (record p { vouchers = ds2; frames = fs2; history = h2 })
    placed_follows f u own form apart ds2 named name name_is known known_is f2 f2_is fs2 put h2 number number_is noted less = at_hand f u own form _ (λ bytes x.
        places f u bytes x apart ds2 named name name_is known known_is f2 f2_is fs2 put h2 number number_is noted less)
