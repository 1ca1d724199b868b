-- The events of a call that is under way, from the parts to the parts.
use Rattle.std.proofs.Common.{◌≡◌, ℕ, ◌-◌, ◌<◌, ◌≤◌, Bool, true, false, List, [], ◌∷◌, sym, ap, ◌∙◌, subst, map, length, Some, None, ℤ}
use Rattle.vch_base.specs.declared.codes.TheConstants.{KERN_RESOURCE_SHORTAGE, MACH_SEND_TIMED_OUT}
use Rattle.vch_base.specs.declared.kind.Kind.{Kind}
use Rattle.vch_base.specs.declared.kind.Kind.TheVariants as kinds
use Rattle.vch_model.specs.Lines.{is_task}
use Rattle.vch_model.specs.declared.call.Call.{Call}
use Rattle.vch_model.specs.declared.call.Call.TheVariants as calls
use Rattle.vch_model.specs.declared.lists.Scenario.{Scenario}
use Rattle.vch_machine.specs.Events.{event}
use Rattle.vch_machine.specs.Frames.{refuse}
use Rattle.vch_machine.specs.Next.{nth_call}
use Rattle.vch_machine.specs.Placing.{place_send}
use Rattle.vch_model.specs.Voucher.{Voucher}
use Rattle.vch_frame.specs.Pairs.{Optional}
use Rattle.vch_machine.specs.State as machine
use Rattle.vch_machine.specs.State.{Handles, Machine, tasked, member_of, message_of, valued}
use Rattle.vch_legal.specs.Tie.{Ties, FormsRecv, first_in}
use Rattle.vch_legal.proofs.CallerLemmas.{forms_at}
use Rattle.vch_vouchers.specs.Desks.{lowest}
use Rattle.vch_vouchers.specs.declared.answers.Message.{Message}
use Rattle.vch_parts.specs.declared.frame.Frame.{Frame}
use Rattle.vch_parts.specs.Plain.{Indices, Plain, part_of}
use Rattle.vch_parts.specs.Shape.{IsReceipt}
use Rattle.vch_parts.specs.Stands.{StandsFor}
use Rattle.vch_parts.proofs.CallerLemmas.{Happens, no_receipt}
use Rattle.vch_moves.specs.Desks.{AllApart}
use Rattle.vch_moves.specs.Moments.{Forms}
use Rattle.vch_moves.specs.Steps.{refused_call, created, sent, received, gone, lost, left}
use Rattle.vch_moves.proofs.stating.Begins.{refusals_stand}
use Rattle.vch_moves.proofs.stating.Places.{creates_place, moving_sends_place, sends_place, recvs_place}
use Rattle.vch_moves.proofs.stating.Leaves.{names_leave, messages_leave, tasks_leave}
use Rattle.vch_moves.proofs.happening.Calls.{AtCall}
use Rattle.vch_moves.proofs.happening.Ends.{is_call, make_event, place_event, exit_name, exit_message, exit_left, first_message, no_message, full_queue, room_in_queue, send_too_many, send_wanting, send_placed, send_inside}
use Rattle.vch_moves.proofs.happening.Rooms.{make_room, place_create_room, place_recv_room, place_send_room, exit_room}
use Rattle.vch_moves.proofs.happening.Tasks.{forms_of}

module _ (sc : Scenario) (c : Plain) (m : Machine) (t : ℕ) (f : Frame) (g : machine.Frame) (ties : Ties sc m) (task : is_task sc t ≡ true) where
  -- a call is refused
  pub refuses : (kind : Kind) (want : Bool) (call : Call) (code : ℤ) → AtCall sc c m t f g kind → 1 ≤ c.spare → event sc want m t ≡ Some (refuse m t g call code)
      → Happens sc want kind t (refused_call c t f call code) m
  refuses kind want call code a room e = (refuse m t g call code, e, a.next, refusals_stand sc c m t f g call code a.work room)

  -- what is formed, on both sides
  forms_here : (kind : Kind) (u : Indices) (P : Type 0) → AtCall sc c m t f g kind → f.forming ≡ Some u → ((w : Handles) → Forms c g u w → P) → P
  forms_here kind u P a e h = forms_of sc c m t a.work.stands ties task f g u P a.work e h

  -- Make, out of memory
  pub make_wants : (u : Indices) (call : Call) → AtCall sc c m t f g kinds.Make → f.forming ≡ Some u → nth_call sc t (part_of c t).begun ≡ Some call
      → Happens sc true kinds.Make t (refused_call c t f call KERN_RESOURCE_SHORTAGE) m
  make_wants u call a e there = forms_here kinds.Make u _ a e (λ w forms. refuses kinds.Make true call KERN_RESOURCE_SHORTAGE a
      (make_room sc c m t a.work.stands ties task f g u w call forms there a) (make_event sc c m t f g task true u w call forms there a))

  pub making_room : (u : Indices) (call : Call) → AtCall sc c m t f g kinds.Make → f.forming ≡ Some u → nth_call sc t (part_of c t).begun ≡ Some call → 1 ≤ c.spare
  making_room u call a e there = forms_here kinds.Make u _ a e (λ w forms. make_room sc c m t a.work.stands ties task f g u w call forms there a)

  -- Place of a create
  module _ (u : Indices) (bytes : List ℕ) (a : AtCall sc c m t f g kinds.Place) (e : f.forming ≡ Some u) (there : nth_call sc t (part_of c t).begun ≡ Some (calls.Create bytes)) where
    pub create_room : 1 ≤ c.spare
    create_room = forms_here kinds.Place u _ a e (λ w forms. place_create_room sc c m t a.work.stands ties task f g u w bytes forms there a)

    pub create_wants : Happens sc true kinds.Place t (refused_call c t f (calls.Create bytes) KERN_RESOURCE_SHORTAGE) m
    create_wants = forms_here kinds.Place u _ a e (λ w forms. refuses kinds.Place true (calls.Create bytes) KERN_RESOURCE_SHORTAGE a create_room (place_event sc c m t f g task true u w (calls.Create bytes) forms there a))

    pub create_places : AllApart c.keyed → Happens sc false kinds.Place t (created c t f u (calls.Create bytes)) m
    create_places apart = forms_here kinds.Place u _ a e (λ w forms.
        (_, place_event sc c m t f g task false u w (calls.Create bytes) forms there a, a.next, creates_place sc c m t f g u w (calls.Create bytes) a.work forms apart create_room))

  -- Place of a send
  module _ (u : Indices) (to : ℕ) (moving : Bool) (name id : ℕ) (a : AtCall sc c m t f g kinds.Place) (e : f.forming ≡ Some u)
      (there : nth_call sc t (part_of c t).begun ≡ Some (calls.Send to moving name id)) where
    abbrev sending : Call
    sending = calls.Send to moving name id

    pub send_to : (is_task sc to ≡ true) × ((0 < to) × (to - 1 < length c.tasks))
    send_to = send_inside sc c m t f g kinds.Place to moving name id ties task a there

    pub send_room : 1 ≤ c.spare
    send_room = forms_here kinds.Place u _ a e (λ w forms. place_send_room sc c m t a.work.stands ties task f g u w to moving name id forms there a)

    pub send_times_out : (want : Bool) → length (part_of c to).queue ≡ (part_of c to).limit → Happens sc want kinds.Place t (refused_call c t f sending MACH_SEND_TIMED_OUT) m
    send_times_out want full = forms_here kinds.Place u _ a e (λ w forms. refuses kinds.Place want sending MACH_SEND_TIMED_OUT a send_room
        (place_event sc c m t f g task want u w sending forms there a ∙ send_too_many sc m t g w want to moving name id (full_queue sc c m to a.work.stands send_to.1.0 send_to.1.1 full)))

    -- a name that moves, or one that stays
    placed : (b : Bool) → nth_call sc t (part_of c t).begun ≡ Some (calls.Send to b name id) → (w : Handles) → Forms c g u w → AllApart c.keyed
        → StandsFor sc (sent c t f to b name id u) (place_send m t g w (calls.Send to b name id) to b name id)
    placed true q w forms apart = moving_sends_place sc c m t f g u w to name id a.work forms apart send_room send_to.1.0 send_to.1.1 q
    placed false q w forms apart = sends_place sc c m t f g u w to name id a.work forms apart send_room send_to.1.0 send_to.1.1 q

    module _ (free : length (part_of c to).queue < (part_of c to).limit) where
      pub send_wants : Happens sc true kinds.Place t (refused_call c t f sending KERN_RESOURCE_SHORTAGE) m
      send_wants = forms_here kinds.Place u _ a e (λ w forms. refuses kinds.Place true sending KERN_RESOURCE_SHORTAGE a send_room
          (place_event sc c m t f g task true u w sending forms there a ∙ send_wanting sc m t g w to moving name id (room_in_queue sc c m to a.work.stands send_to.1.0 send_to.1.1 free)))

      pub send_places : AllApart c.keyed → Happens sc false kinds.Place t (sent c t f to moving name id u) m
      send_places apart = forms_here kinds.Place u _ a e (λ w forms. (
        _,
        place_event sc c m t f g task false u w sending forms there a ∙ send_placed sc m t g w to moving name id (room_in_queue sc c m to a.work.stands send_to.1.0 send_to.1.1 free),
        a.next,
        placed moving there w forms apart,
      ))

  -- Place of a recv
  module _ (u : Indices) (a : AtCall sc c m t f g kinds.Place) (e : f.forming ≡ Some u) (there : nth_call sc t (part_of c t).begun ≡ Some calls.Recv) where
    pub recv_room : 1 ≤ c.spare
    recv_room = forms_here kinds.Place u _ a e (λ w forms. place_recv_room sc c m t a.work.stands ties task f g u w forms there a)

    pub recv_wants : Happens sc true kinds.Place t (refused_call c t f calls.Recv KERN_RESOURCE_SHORTAGE) m
    recv_wants = forms_here kinds.Place u _ a e (λ w forms. refuses kinds.Place true calls.Recv KERN_RESOURCE_SHORTAGE a recv_room (place_event sc c m t f g task true u w calls.Recv forms there a))

    pub recv_places : (q : Message) (queue : List Message) → (part_of c t).queue ≡ q ∷ queue → AllApart c.keyed → Happens sc false kinds.Place t (received c t f u q queue) m
    recv_places q queue first apart = forms_here kinds.Place u _ a e (λ w forms. first_message sc c m t q queue _ a.work.stands a.work.positive a.work.inside first (λ r rest x y z.
        (_, place_event sc c m t f g task false u w calls.Recv forms there a, a.next, recvs_place sc c m t f g u w q queue r rest a.work forms apart recv_room x y z)))

    -- its message is still there
    pub recv_there : (part_of c t).queue ≡ [] → ⊥
    recv_there empty = forms_here kinds.Place u _ a e (λ w forms.
        let r : FormsRecv sc (member_of m.live (tasked m t)).queue t g.keys (valued m.live w) =
        forms_at sc t m g w None calls.Recv (ties.tasks t task) a.work.task forms.forms (no_receipt g.receipt (subst (λ o. Optional IsReceipt o g.receipt) a.work.idle.0 a.work.frame.receipt)) (is_call sc c m t f g kinds.Place calls.Recv a there) in
        none_first r.voucher (ap (λ (qs : List machine.Message). first_in (map (message_of m.live) qs)) (sym (no_message sc c m t a.work.stands a.work.positive a.work.inside empty)) ∙ r.first))
      where
        none_first : (v : Voucher) → None ≡ Some v → ⊥
        none_first v q = cc

  -- Work of an exit
  module _ (want : Bool) (a : AtCall sc c m t f g kinds.Work) (there : nth_call sc t (part_of c t).begun ≡ Some calls.Exit) where
    pub exit_has_room : 1 ≤ c.spare
    exit_has_room = exit_room sc c m t a.work.stands ties task f g there a

    -- nothing is formed
    pub exit_forms : g.forming ≡ None
    exit_forms = ties.fits.exits t g task a.work.task (is_call sc c m t f g kinds.Work calls.Exit a there)

    pub exit_gives_name : (name : ℕ) → lowest (part_of c t).names ≡ Some name → AllApart c.keyed → Happens sc want kinds.Work t (gone c t f name) m
    exit_gives_name name low apart = (_, exit_name sc c m t f g task want there a name low, a.next, names_leave sc c m t f g name a.work apart exit_has_room)

    pub exit_gives_message : (q : Message) (queue : List Message) → lowest (part_of c t).names ≡ None → (part_of c t).queue ≡ q ∷ queue → AllApart c.keyed → Happens sc want kinds.Work t (lost c t f q queue) m
    exit_gives_message q queue low first apart = exit_message sc c m t f g task want there a q queue _ low first (λ r rest x y z happens.
        (_, happens, a.next, messages_leave sc c m t f g q queue r rest a.work apart exit_has_room x y z))

    pub exit_ends : lowest (part_of c t).names ≡ None → (part_of c t).queue ≡ [] → Happens sc want kinds.Work t (left c t f) m
    exit_ends low empty = (_, exit_left sc c m t f g task want there a low empty, a.next, tasks_leave sc c m t f g a.work exit_has_room exit_forms there)
