-- A send queues its voucher, and a name that moves loses a user reference.
use Rattle.std.proofs.Common.{◌≡◌, ◌≢◌, ℕ, zero, suc, ◌+◌, ◌-◌, ◌<◌, ◌≤◌, Bool, true, false, List, [], ◌∷◌, ◌++◌, arith, length, refl, sym, ap, ◌∙◌, subst, Option, Some, None}
use Rattle.std.specs.Prelude.{if◌then◌else◌}
use Rattle.vch_base.specs.Tasks.{set_task}
use Rattle.vch_base.proofs.CallerLemmas.{as_long}
use Rattle.vch_base.specs.declared.codes.TheConstants.{KERN_RESOURCE_SHORTAGE, MACH_SEND_TIMED_OUT}
use Rattle.vch_base.specs.declared.kind.Kind.TheVariants as kinds
use Rattle.vch_model.specs.Lines.{is_task}
use Rattle.vch_model.specs.Rows.{Entries}
use Rattle.vch_model.specs.declared.call.Call.TheVariants as calls
use Rattle.vch_model.specs.declared.call.Word.TheVariants as words
use Rattle.vch_model.specs.declared.entry.Entry.TheVariants as entries
use Rattle.vch_model.specs.declared.entry.Reply.TheVariants as replies
use Rattle.vch_machine.specs.Beginning.{is_full}
use Rattle.vch_machine.specs.Frames.{refuse}
use Rattle.vch_machine.specs.Next.{nth_call}
use Rattle.vch_machine.specs.Placing.{do_place, place_send}
use Rattle.vch_machine.specs.State as machine
use Rattle.vch_machine.specs.State.{Handles, Machine}
use Rattle.vch_vouchers.specs.Desks as desks
use Rattle.vch_vouchers.specs.Desks.{Desk, AreDesks, desk, one_less, voucher_of, is_known}
use Rattle.vch_vouchers.specs.declared.answers.Message.{Message}
use Rattle.vch_parts.specs.declared.frame.Frame.{Frame}
use Rattle.vch_parts.specs.declared.frames.Working as declared
use Rattle.vch_parts.specs.declared.parts.Parts.{Parts}
use Rattle.vch_parts.specs.Framed.{frame_of, begun_of, with_frame_of}
use Rattle.vch_parts.specs.Plain.{Indices, Plain, Part, part_of, closed}
use Rattle.vch_parts.specs.Reached.{plain_of, parts_in, Reached, IsState, IsNext, MayFollow}
use Rattle.vch_parts.specs.Shape.{IsMap}
use Rattle.vch_parts.specs.Stands.{StandsFor}
use Rattle.vch_parts.proofs.CallerLemmas.{desk_inside, own_begun, set_desk, side_at}
use Rattle.vch_moves.specs.Desks.{AllApart, desk_of, items, option_items, doubled}
use Rattle.vch_moves.specs.Steps.{ended, sent, sent_from, queued, queued_part, sender_part, sender_lets}
use Rattle.vch_moves.specs.Moments.{IsAtWork}
use Rattle.vch_moves.proofs.CallerLemmas.{AtCall, sent_moving, sent_staying, stands_of, ties_of, from_state, may_follow, full_queue, room_in_queue, send_too_many, send_wanting, send_placed, send_inside}
use Rattle.vch_carry.proofs.glue.Places as places
use Rattle.vch_carry.proofs.glue.Steps.{range, own_desk, all_desks}
use Rattle.vch_carry.proofs.placed.Placing.{placing, refused_room, call_is}

strict : (a b : ℕ) → a ≤ b → a ≢ b → a < b
strict zero zero l n = absurd (n refl)
strict zero (suc b) l n = omega arith
strict (suc a) zero l n = absurd (omega (arith, l))
strict (suc a) (suc b) l n = let r : a < b = strict a b (omega (arith, l)) (λ e. n (ap suc e)) in omega (arith, r)

same_form : {a b : Indices} → Some a ≡ Some b → a ≡ b
same_form e = cc

module _ (p : Parts) (t : ℕ) (r : Reached p) (task : is_task p.scenario t ≡ true) (next : IsNext p t (Some kinds.Place)) (to : ℕ) (moving : Bool) (name id : ℕ)
    (is : nth_call p.scenario t (begun_of p.frames t) ≡ Some (calls.Send to moving name id)) (f : Frame) (own : frame_of p.frames t ≡ Some f) where
  abbrev C : Plain
  C = plain_of p

  pub to_task : is_task p.scenario to ≡ true
  to_task = from_state p _ r (λ m st. placing p t r task next (calls.Send to moving name id) is refl f own m st _ (λ g u w a e forms happens.
      (send_inside p.scenario C m t f g kinds.Place to moving name id (ties_of p.scenario C m st) task a (call_is p t r task next (calls.Send to moving name id) is refl f own)).0))

  pub to_inside : (1 ≤ to) × (to ≤ length p.vouchers)
  to_inside = desk_inside p to r to_task

  to_range : (0 < to) × (to - 1 < length (parts_in p.vouchers p.frames))
  to_range = range p to r to_task

  -- A full queue, and one with room.

  module _ (full : length (desk p.vouchers to).queue ≡ (desk p.vouchers to).limit) where
    full_now : (m : Machine) → IsState p.scenario C m → is_full p.scenario m to ≡ true
    full_now m st = full_queue p.scenario C m to (stands_of p.scenario C m st) to_range.0 to_range.1 (subst (λ (d : Desk). length d.queue ≡ d.limit) (own_desk p to r to_task) full)

    pub refuses_full : (want : Bool) (m : Machine) → IsState p.scenario C m → (g : machine.Frame) (w : Handles) → AtCall p.scenario C m t f g kinds.Place
        → do_place p.scenario want m t g w (calls.Send to moving name id) ≡ Some (refuse m t g (calls.Send to moving name id) MACH_SEND_TIMED_OUT)
    refuses_full want m st g w a = send_too_many p.scenario m t g w want to moving name id (full_now m st)

    pub full_room : 1 ≤ p.history.spare
    full_room = refused_room p t r task next (calls.Send to moving name id) is refl f own MACH_SEND_TIMED_OUT false (refuses_full false)

  module _ (apart_desks : AreDesks p.vouchers) (room : length (desk p.vouchers to).queue ≢ (desk p.vouchers to).limit) where
    room_now : (m : Machine) → IsState p.scenario C m → is_full p.scenario m to ≡ false
    room_now m st = room_in_queue p.scenario C m to (stands_of p.scenario C m st) to_range.0 to_range.1
        (subst (λ (d : Desk). length d.queue < d.limit) (own_desk p to r to_task) (strict _ _ (apart_desks to to_inside.0 to_inside.1).within room))

    pub refuses_wanting : (m : Machine) → IsState p.scenario C m → (g : machine.Frame) (w : Handles) → AtCall p.scenario C m t f g kinds.Place
        → do_place p.scenario true m t g w (calls.Send to moving name id) ≡ Some (refuse m t g (calls.Send to moving name id) KERN_RESOURCE_SHORTAGE)
    refuses_wanting m st g w a = send_wanting p.scenario m t g w to moving name id (room_now m st)

    pub send_room : 1 ≤ p.history.spare
    send_room = refused_room p t r task next (calls.Send to moving name id) is refl f own KERN_RESOURCE_SHORTAGE true refuses_wanting

    module _ (u : Indices) (ds1 : List Desk) (queues : ds1 ≡ set_task p.vouchers to (desks.queued (desk p.vouchers to) (record { sender = t; id = id; voucher = Some u }))) where
      abbrev Q : Message
      Q = record { sender = t; id = id; voucher = Some u }

      abbrev P1 : Parts
      P1 = record p { vouchers = ds1 }

      queued_is : plain_of P1 ≡ queued C to Q
      queued_is = ap (λ ts. record C { tasks = ts }) (ap (λ ds. parts_in ds p.frames) queues
          ∙ (set_desk p.vouchers p.frames to (desks.queued (desk p.vouchers to) Q) to_range.0
          ∙ ap (λ (x : Part). set_task (parts_in p.vouchers p.frames) to (queued_part x Q)) (sym (side_at p.vouchers p.frames to to_range.0 to_range.1))))

      long : length (parts_in ds1 p.frames) ≡ length (parts_in p.vouchers p.frames)
      long = ap (λ (c : Plain). length c.tasks) queued_is ∙ as_long (parts_in p.vouchers p.frames) to (queued_part (part_of C to) Q)

      range1 : (0 < t) × (t - 1 < length (parts_in P1.vouchers P1.frames))
      range1 = ((range p t r task).0, subst (λ n. t - 1 < n) (sym long) (range p t r task).1)

      pub inside1 : (1 ≤ t) × (t ≤ length ds1)
      inside1 =
          let n = desk_inside p t r task in
          (n.0, subst (λ k. t ≤ k) (sym (ap length queues ∙ as_long p.vouchers to (desks.queued (desk p.vouchers to) Q))) n.1)

      abbrev X1 : Part
      X1 = part_of (plain_of P1) t

      module _ (form : f.forming ≡ Some u) (apart : AllApart p.values) (known : Bool) (known_is : known ≡ is_known p.vouchers u)
          (ds2 : List Desk) (moves : ds2 ≡ (if moving then set_task ds1 t (record (desk ds1 t) { names = one_less (desk ds1 t).names name }) else ds1))
          (o : Option Indices) (orphan : o ≡ (if moving then desks.orphaned ds2 (voucher_of (desk ds1 t).names name) else None))
          (f2 : Frame) (f2_is : f2 ≡ ended f ((if known then items u else []) ++ option_items o))
          (fs2 : List declared.Working) (put : fs2 ≡ with_frame_of (with_frame_of p.frames t None) t (closed f2))
          (h2 : Entries) (number : ℕ) (number_is : number ≡ begun_of p.frames t) (noted : h2.entries ≡ p.history.entries ++ entries.Call t number words.Send replies.Done ∷ []) (less : h2.spare + 1 ≡ p.history.spare) where
        desks_by : (b : Bool) → ds2 ≡ (if b then set_task ds1 t (record (desk ds1 t) { names = one_less (desk ds1 t).names name }) else ds1) → ds2 ≡ set_task ds1 t (desk_of (sender_part b X1 name))
        desks_by true e = e ∙ ap (λ (d : Desk). set_task ds1 t (record d { names = one_less d.names name })) (places.own_desk P1 t range1)
        desks_by false e = e ∙ sym (ap (λ (d : Desk). set_task ds1 t d) (sym (places.own_desk P1 t range1)) ∙ places.put_same P1 t range1)

        desks_now : ds2 ≡ set_task ds1 t (desk_of (sender_part moving X1 name))
        desks_now = desks_by moving moves

        orphan_by : (b : Bool) → ds2 ≡ set_task ds1 t (desk_of (sender_part b X1 name)) → o ≡ (if b then desks.orphaned ds2 (voucher_of (desk ds1 t).names name) else None)
            → option_items o ≡ sender_lets b (plain_of P1) t (sender_part b X1 name) (voucher_of X1.names name)
        orphan_by true d e = ap option_items e ∙ (ap (λ (d : Desk). option_items (desks.orphaned ds2 (voucher_of d.names name))) (places.own_desk P1 t range1)
            ∙ ap (λ ds. option_items (desks.orphaned ds (voucher_of X1.names name))) (sym (places.desks_then P1 t range1 (sender_part true X1 name) ds2 d)))
        orphan_by false d e = ap option_items e

        begun_by : (b : Bool) → (sender_part b X1 name).begun ≡ X1.begun
        begun_by true = refl
        begun_by false = refl

        lets_are : (if known then items u else []) ++ option_items o ≡ doubled C.tasks u ++ sender_lets moving (plain_of P1) t (sender_part moving X1 name) (voucher_of X1.names name)
        lets_are = ap (λ b. (if b then items u else []) ++ option_items o) (known_is ∙ ap (λ ds. is_known ds u) (sym (all_desks p t r task))) ∙ ap (λ ls. doubled C.tasks u ++ ls) (orphan_by moving desks_now orphan)

        plain : plain_of (record p { vouchers = ds2; frames = fs2; history = h2 }) ≡ sent C t f to moving name id u
        plain = places.stepped_is P1 t range1 ds2 (sender_part moving X1 name) desks_now (begun_by moving) fs2
            (closed (ended f (doubled C.tasks u ++ sender_lets moving (plain_of P1) t (sender_part moving X1 name) (voucher_of X1.names name))))
            (put ∙ ap (λ (y : Frame). with_frame_of (with_frame_of p.frames t None) t (closed y)) (f2_is ∙ ap (ended f) lets_are))
            h2 (entries.Call t (part_of C t).begun words.Send replies.Done)
            (noted ∙ ap (λ n. p.history.entries ++ entries.Call t n words.Send replies.Done ∷ []) (number_is ∙ sym (own_begun p t r task))) less
            ∙ ap (λ mid. sent_from C mid t f moving name u (calls.Send to moving name id)) queued_is

        stands_by : (b : Bool) (m : Machine) (g : machine.Frame) (w : Handles) → nth_call p.scenario t (part_of C t).begun ≡ Some (calls.Send to b name id) → IsAtWork p.scenario C m t f g → g.forming ≡ Some w → IsMap p.values u w
            → StandsFor p.scenario (sent C t f to b name id u) (place_send m t g w (calls.Send to b name id) to b name id)
        stands_by true m g w call a forms map = sent_moving p.scenario C m t to a.positive a.inside to_range.0 to_range.1 a.stands apart f g u w a.own a.task a.frame forms map a.idle send_room id name call
        stands_by false m g w call a forms map = sent_staying p.scenario C m t to a.positive a.inside to_range.0 to_range.1 a.stands apart f g u w a.own a.task a.frame forms map a.idle send_room id name call

        pub sent_follows : MayFollow kinds.Place t p (record p { vouchers = ds2; frames = fs2; history = h2 })
        sent_follows = may_follow kinds.Place t p (record p { vouchers = ds2; frames = fs2; history = h2 }) false (sent C t f to moving name id u) refl plain (λ m st.
            placing p t r task next (calls.Send to moving name id) is refl f own m st _ (λ g v w a e forms happens. (
              place_send m t g w (calls.Send to moving name id) to moving name id,
              happens false ∙ send_placed p.scenario m t g w to moving name id (room_now m st),
              a.next,
              stands_by moving m g w (call_is p t r task next (calls.Send to moving name id) is refl f own) a.work forms.forms (subst (λ (z : Indices). IsMap p.values z w) (same_form (sym e ∙ form)) forms.map),
            )))
