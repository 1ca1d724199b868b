-- A receive takes the first message, and its voucher gets a name.
use Rattle.std.proofs.Common.{◌≡◌, ℕ, ◌+◌, ◌≤◌, Bool, true, false, List, [], ◌∷◌, ◌++◌, length, map, drop, refl, sym, ap, ◌∙◌, subst, Option, Some, None}
use Rattle.std.specs.Prelude.{slice_get, if◌then◌else◌}
use Rattle.vch_base.specs.Tasks.{set_task}
use Rattle.vch_base.proofs.CallerLemmas.{as_long, own_item, set_twice}
use Rattle.vch_base.specs.declared.codes.TheConstants.{KERN_RESOURCE_SHORTAGE}
use Rattle.vch_base.specs.declared.kind.Kind.TheVariants as kinds
use Rattle.vch_model.specs.Lines.{is_task}
use Rattle.vch_model.specs.Rows.{Entries}
use Rattle.vch_model.specs.declared.call.Call.TheVariants as calls
use Rattle.vch_model.specs.declared.call.Word.TheVariants as words
use Rattle.vch_model.specs.declared.entry.Entry.TheVariants as entries
use Rattle.vch_model.specs.declared.entry.Reply.TheVariants as replies
use Rattle.vch_machine.specs.Next.{nth_call}
use Rattle.vch_machine.specs.Placing.{place_recv}
use Rattle.vch_machine.specs.State as machine
use Rattle.vch_machine.specs.State.{Handles, Machine, Living, tasked, member_of, message_of}
use Rattle.vch_legal.specs.Tie.{IsForming, FrameForms, first_in}
use Rattle.vch_frame.specs.Pairs.{Pairwise}
use Rattle.vch_vouchers.specs.Desks as desks
use Rattle.vch_vouchers.specs.Desks.{Desk, desk, empty_desk, name_for, name_with, given_to, is_known, taken_from}
use Rattle.vch_vouchers.specs.declared.answers.Message.{Message}
use Rattle.vch_vouchers.specs.declared.answers.Taken.{Taken}
use Rattle.vch_parts.specs.declared.frame.Frame.{Frame}
use Rattle.vch_parts.specs.declared.frames.Working as declared
use Rattle.vch_parts.specs.declared.parts.Parts.{Parts}
use Rattle.vch_parts.specs.Framed.{frame_of, begun_of, with_frame_of}
use Rattle.vch_parts.specs.Plain.{Indices, Part, part_of, closed}
use Rattle.vch_parts.specs.Reached.{plain_of, Reached, IsState, IsNext, MayFollow}
use Rattle.vch_parts.specs.Shape.{IsMap, IsMessage}
use Rattle.vch_parts.proofs.CallerLemmas.{desk_inside, own_begun}
use Rattle.vch_moves.specs.Desks.{AllApart, desk_of, items, option_items, orphaned, doubled, name_of_given}
use Rattle.vch_moves.specs.Steps.{ended, received, received_part}
use Rattle.vch_moves.proofs.CallerLemmas.{received_stands, ties_of, from_state, may_follow}
use Rattle.vch_carry.proofs.glue.Steps.{own_desk, all_desks, desks_then, stepped_is}
use Rattle.vch_carry.proofs.placed.Placing.{placing, refused_room, call_is}

-- There is a first message.

queue_there : (live : List Living) (rs : List machine.Message) (v : _) → first_in (map (message_of live) rs) ≡ Some v → (P : Type 0) → ((r : machine.Message) (rest : List machine.Message) → rs ≡ r ∷ rest → P) → P
queue_there live [] v e P h = absurd (cc)
queue_there live (r ∷ rest) v e P h = h r rest refl

module _ (p : Parts) (t : ℕ) (r : Reached p) (task : is_task p.scenario t ≡ true) (next : IsNext p t (Some kinds.Place))
    (is : nth_call p.scenario t (begun_of p.frames t) ≡ Some calls.Recv) (f : Frame) (own : frame_of p.frames t ≡ Some f) where
  abbrev X : Part
  X = part_of (plain_of p) t

  abbrev D : Desk
  D = desk_of X

  firsts : (m : Machine) → IsState p.scenario (plain_of p) m → (P : Type 0)
      → ((q : Message) (queue : List Message) (s : machine.Message) (rest : List machine.Message) → X.queue ≡ q ∷ queue → (tasked m t).queue ≡ s ∷ rest → IsMessage p.values q s → Pairwise (IsMessage p.values) queue rest → P) → P
  firsts m st P h = placing p t r task next calls.Recv is refl f own m st P (λ g u w a e forms happens.
      let ties = ties_of p.scenario (plain_of p) m st in
      let begun : nth_call p.scenario t (tasked m t).begun ≡ Some calls.Recv = a.current_is ∙ (sym a.begun ∙ call_is p t r task next calls.Recv is refl f own) in
      let z : IsForming p.scenario m.live (member_of m.live (tasked m t)) t (tasked m t).begun (Some g) = subst (λ o. IsForming p.scenario m.live (member_of m.live (tasked m t)) t (tasked m t).begun o) a.work.task (ties.tasks t task).forming in
      let y : FrameForms p.scenario m.live (member_of m.live (tasked m t)) t g.at_byte g.keys g.receipt g.answered (Some w) (Some calls.Recv) =
      subst (λ o. FrameForms p.scenario m.live (member_of m.live (tasked m t)) t g.at_byte g.keys g.receipt g.answered (Some w) o) begun
      (subst (λ o. FrameForms p.scenario m.live (member_of m.live (tasked m t)) t g.at_byte g.keys g.receipt g.answered o (nth_call p.scenario t (tasked m t).begun)) forms.forms z) in
      queue_there m.live (tasked m t).queue y.0.voucher y.0.first P (λ s rest first.
      both X.queue s rest P (subst (λ rs. Pairwise (IsMessage p.values) X.queue rs) first (a.work.stands.shape.tasks t a.work.positive a.work.inside).queue) (λ q queue own_queue one others. h q queue s rest own_queue first one others)))
    where
      both : (qs : List Message) (s : machine.Message) (rest : List machine.Message) (P : Type 0) → Pairwise (IsMessage p.values) qs (s ∷ rest)
          → ((q : Message) (queue : List Message) → qs ≡ q ∷ queue → IsMessage p.values q s → Pairwise (IsMessage p.values) queue rest → P) → P
      both [] s rest P e h = absurd e
      both (q ∷ queue) s rest P e h = h q queue refl e.0 e.1

  pub recv_room : 1 ≤ p.history.spare
  recv_room = refused_room p t r task next calls.Recv is refl f own KERN_RESOURCE_SHORTAGE true (λ m st g w a. refl)

  -- The desks.

  queue_kept : (d : Desk) (v : Indices) (o : Option ℕ) → (given_to d v o).queue ≡ d.queue
  queue_kept d v None = refl
  queue_kept d v (Some n) = refl

  unqueued : (d : Desk) (v : Indices) (o : Option ℕ) (queue : List Message) → record (given_to d v o) { queue = queue } ≡ given_to (record d { queue = queue }) v o
  unqueued d v None queue = refl
  unqueued d v (Some n) queue = refl

  module _ (u : Indices) (ds1 : List Desk) (named : ds1 ≡ set_task p.vouchers t (desks.given (desk p.vouchers t) u)) where
    first_desk : desk ds1 t ≡ desks.given D u
    first_desk =
        let n = desk_inside p t r task in
        ap (λ ds. desk ds t) named ∙ (own_item p.vouchers t (desks.given (desk p.vouchers t) u) (empty_desk 0) n.0 n.1 ∙ ap (λ (d : Desk). desks.given d u) (own_desk p t r task))

    first_queue : (desk ds1 t).queue ≡ X.queue
    first_queue = ap (λ (d : Desk). d.queue) first_desk ∙ queue_kept D u (name_with D.names u)

    pub inside_named : (1 ≤ t) × (t ≤ length ds1)
    inside_named = let n = desk_inside p t r task in (n.0, subst (λ k. t ≤ k) (sym (ap length named ∙ as_long p.vouchers t (desks.given (desk p.vouchers t) u))) n.1)

    pub taken_there : (ds2 : List Desk) → None ≡ taken_from ds2 (slice_get (desk ds1 t).queue 0) → ⊥
    taken_there ds2 e = from_state p _ r (λ m st. firsts m st _ (λ q queue s rest own_queue first one others.
        let z : None ≡ taken_from ds2 (slice_get (q ∷ queue) 0) = e ∙ ap (λ qs. taken_from ds2 (slice_get qs 0)) (first_queue ∙ own_queue) in cc))

    module _ (ds2 : List Desk) (left : ds2 ≡ set_task ds1 t (record (desk ds1 t) { queue = drop 1 (desk ds1 t).queue }))
        (q : Message) (queue : List Message) (own_queue : X.queue ≡ q ∷ queue) where
      desks_are : ds2 ≡ set_task p.vouchers t (desk_of (received_part X queue u))
      desks_are = left
          ∙ (ap (λ (d : Desk). set_task ds1 t (record d { queue = drop 1 d.queue })) first_desk
          ∙ (ap (λ qs. set_task ds1 t (record (desks.given D u) { queue = drop 1 qs })) (queue_kept D u (name_with D.names u) ∙ own_queue)
          ∙ (ap (λ ds. set_task ds t (record (desks.given D u) { queue = queue })) named
          ∙ (set_twice p.vouchers t (desks.given (desk p.vouchers t) u) (record (desks.given D u) { queue = queue })
          ∙ ap (λ (d : Desk). set_task p.vouchers t d) (unqueued D u (name_with D.names u) queue)))))

  same_head : {a b : Message} {as_ bs : List Message} → a ∷ as_ ≡ b ∷ bs → (a ≡ b) × (as_ ≡ bs)
  same_head e = (cc, cc)

  same_form : {a b : Indices} → Some a ≡ Some b → a ≡ b
  same_form e = cc

  module _ (u : Indices) (form : f.forming ≡ Some u) (apart : AllApart p.values) (ds1 : List Desk) (named : ds1 ≡ set_task p.vouchers t (desks.given (desk p.vouchers t) u))
      (name : ℕ) (name_is : name ≡ name_for (desk p.vouchers t) (name_with (desk p.vouchers t).names u)) (known : Bool) (known_is : known ≡ is_known p.vouchers u)
      (ds2 : List Desk) (left : ds2 ≡ set_task ds1 t (record (desk ds1 t) { queue = drop 1 (desk ds1 t).queue }))
      (taken : Taken) (taken_is : Some taken ≡ taken_from ds2 (slice_get (desk ds1 t).queue 0))
      (f2 : Frame) (f2_is : f2 ≡ ended f ((if known then items u else []) ++ option_items taken.orphan))
      (fs2 : List declared.Working) (put : fs2 ≡ with_frame_of (with_frame_of p.frames t None) t (closed f2))
      (h2 : Entries) (number : ℕ) (number_is : number ≡ begun_of p.frames t) (noted : h2.entries ≡ p.history.entries ++ entries.Call t number words.Recv (replies.Received taken.sender taken.id name) ∷ []) (less : h2.spare + 1 ≡ p.history.spare) where
    module _ (q : Message) (queue : List Message) (own_queue : X.queue ≡ q ∷ queue) where
      desks_now : ds2 ≡ set_task p.vouchers t (desk_of (received_part X queue u))
      desks_now = desks_are u ds1 named ds2 left q queue own_queue

      whole : taken ≡ record { sender = q.sender; id = q.id; orphan = desks.orphaned ds2 q.voucher }
      whole = let z : Some taken ≡ Some (record { sender = q.sender; id = q.id; orphan = desks.orphaned ds2 q.voucher }) = taken_is ∙ ap (λ qs. taken_from ds2 (slice_get qs 0)) (first_queue u ds1 named ∙ own_queue) in cc

      lets_are : (if known then items u else []) ++ option_items taken.orphan ≡ doubled (plain_of p).tasks u ++ orphaned (set_task (plain_of p).tasks t (received_part X queue u)) q.voucher
      lets_are = ap (λ b. (if b then items u else []) ++ option_items taken.orphan) (known_is ∙ ap (λ ds. is_known ds u) (sym (all_desks p t r task)))
          ∙ (ap (λ (y : Taken). doubled (plain_of p).tasks u ++ option_items y.orphan) whole
          ∙ ap (λ ds. doubled (plain_of p).tasks u ++ option_items (desks.orphaned ds q.voucher)) (sym (desks_then p t r task (received_part X queue u) ds2 desks_now)))

      reply_is : replies.Received taken.sender taken.id name ≡ replies.Received q.sender q.id (name_of_given X u)
      reply_is = ap (λ (y : Taken). replies.Received y.sender y.id name) whole ∙ ap (λ n. replies.Received q.sender q.id n) (name_is ∙ ap (λ (d : Desk). name_for d (name_with d.names u)) (own_desk p t r task))

      plain : plain_of (record p { vouchers = ds2; frames = fs2; history = h2 }) ≡ received (plain_of p) t f u q queue
      plain = stepped_is p t r task ds2 (received_part X queue u) desks_now refl fs2
          (closed (ended f (doubled (plain_of p).tasks u ++ orphaned (set_task (plain_of p).tasks t (received_part X queue u)) q.voucher)))
          (put ∙ ap (λ (y : Frame). with_frame_of (with_frame_of p.frames t None) t (closed y)) (f2_is ∙ ap (ended f) lets_are))
          h2 (entries.Call t X.begun words.Recv (replies.Received q.sender q.id (name_of_given X u)))
          (noted ∙ (ap (λ n. p.history.entries ++ entries.Call t n words.Recv (replies.Received taken.sender taken.id name) ∷ []) (number_is ∙ sym (own_begun p t r task))
          ∙ ap (λ y. p.history.entries ++ entries.Call t X.begun words.Recv y ∷ []) reply_is)) less

      follows : MayFollow kinds.Place t p (record p { vouchers = ds2; frames = fs2; history = h2 })
      follows = may_follow kinds.Place t p (record p { vouchers = ds2; frames = fs2; history = h2 }) false (received (plain_of p) t f u q queue) refl plain (λ m st.
          placing p t r task next calls.Recv is refl f own m st _ (λ g v w a e forms happens.
          firsts m st _ (λ q2 queue2 s rest own2 first one others.
          let h = same_head (sym own2 ∙ own_queue) in (
            place_recv m t g w calls.Recv (tasked m t).queue,
            happens false,
            a.next,
            received_stands p.scenario (plain_of p) m t a.work.positive a.work.inside a.work.stands apart f g u w a.work.own a.work.task a.work.frame forms.forms
                (subst (λ (z : Indices). IsMap p.values z w) (same_form (sym e ∙ form)) forms.map) a.work.idle recv_room q queue s rest first
                (subst (λ (z : Message). IsMessage p.values z s) h.0 one) (subst (λ qs. Pairwise (IsMessage p.values) qs rest) h.1 others),
          ))))

    pub received_follows : MayFollow kinds.Place t p (record p { vouchers = ds2; frames = fs2; history = h2 })
    received_follows = from_state p _ r (λ m st. firsts m st _ (λ q queue s rest own_queue first one others. follows q queue own_queue))
