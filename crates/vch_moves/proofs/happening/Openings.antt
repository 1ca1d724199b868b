-- The beginning of each call, from the parts to the parts: what is left is what the parts stand for after the machine's event.
use Rattle.std.proofs.Common.{◌≡◌, ℕ, ◌+◌, ◌<◌, ◌==◌, nat_lt, not, Bool, true, false, List, [], ◌∷◌, ◌++◌, refl, arith, ap, ◌∙◌, subst, length, Option, Some, None}
use Rattle.vch_base.specs.declared.kind.Kind.TheVariants as kinds
use Rattle.vch_base.specs.declared.key.Key.{Key}
use Rattle.vch_base.specs.declared.key.Key.TheVariants as keys
use Rattle.vch_base.specs.declared.limits.TheConstants.{ARRAY_BYTES}
use Rattle.vch_base.specs.Keyed.{Keyed}
use Rattle.vch_base.proofs.CallerLemmas.{own_item}
use Rattle.vch_model.specs.Lines.{is_task}
use Rattle.vch_model.specs.Store.{limit_of}
use Rattle.vch_model.specs.Totals.{is_done}
use Rattle.vch_model.specs.Words.{word_of}
use Rattle.vch_model.specs.declared.call.Call.{Call}
use Rattle.vch_model.specs.declared.call.Call.TheVariants as calls
use Rattle.vch_model.specs.declared.entry.Entry.TheVariants as entries
use Rattle.vch_model.specs.declared.entry.Reply.{Reply}
use Rattle.vch_model.specs.declared.lists.Scenario.{Scenario}
use Rattle.vch_machine.specs.Beginning as begins
use Rattle.vch_machine.specs.Beginning.{begin_call, store_reply, is_full, key_if, dequeued, enqueued}
use Rattle.vch_machine.specs.Frames.{replied, with_frame}
use Rattle.vch_machine.specs.Naming.{handles_of}
use Rattle.vch_machine.specs.Next.{next_kind, nth_call}
use Rattle.vch_machine.specs.State as machine
use Rattle.vch_machine.specs.State.{Handles, Machine, Tasked, tasked, idle}
use Rattle.vch_legal.specs.Tie.{Ties}
use Rattle.vch_legal.specs.ValueAmounts.{is_counting, IsUncounted}
use Rattle.vch_legal.proofs.CallerLemmas.{IsAmong, call_uncounted, refused_uncounted}
use Rattle.vch_frame.specs.Pairs.{Optional}
use Rattle.vch_frame.specs.Indices.{index_of}
use Rattle.vch_values.specs.Parts.{KeyParts}
use Rattle.vch_vouchers.specs.Desks.{voucher_of}
use Rattle.vch_vouchers.specs.declared.answers.Message.{Message}
use Rattle.vch_parts.specs.Plain.{Indices, Plain, part_of}
use Rattle.vch_parts.specs.Shape.{IsMap, IsTask}
use Rattle.vch_parts.specs.Stands.{StandsFor}
use Rattle.vch_parts.proofs.CallerLemmas.{Happens, in_parts}
use Rattle.vch_moves.specs.Desks.{AllApart}
use Rattle.vch_moves.specs.Moments.{IsFree, IsAnswered}
use Rattle.vch_moves.specs.Shares.{SharesAll}
use Rattle.vch_moves.specs.Steps.{machine_begun, opened, answered_first, dropped, copied, queued_first, taken_first, fresh_frame, exiting_frame}
use Rattle.vch_moves.proofs.beginning.Copied.{asked_same}
use Rattle.vch_moves.proofs.desks.Names.{voucher_is}
use Rattle.vch_moves.proofs.holding.InTasks.{own_known}
use Rattle.vch_moves.proofs.keeping.SamePart.{same_part}
use Rattle.vch_moves.proofs.sharing.Among.{first_known}
use Rattle.vch_moves.proofs.stating.Begins.{creates_begin, exits_begin, copies_begin, answers_begin, takings_begin, queueings_begin}
use Rattle.vch_moves.proofs.stating.Leaves.{drops_leave}
use Rattle.vch_moves.proofs.happening.Beginning.{begin_happens, create_framed, send_bare, send_unknown, send_full, send_framed, recv_nothing, recv_bare, recv_framed}
use Rattle.vch_moves.proofs.happening.Ends.{first_message, no_message, full_queue, room_in_queue}
use Rattle.vch_moves.proofs.happening.Rooms.{begin_room}

-- the keys that a recv of a voucher asks
abbrev pub recv_keys : Indices → List Key
recv_keys v = key_if keys.Importance (index_of keys.Importance v) ++ key_if keys.Bank (index_of keys.Bank v)

module _ (sc : Scenario) (c : Plain) (m : Machine) (t : ℕ) (ties : Ties sc m) (task : is_task sc t ≡ true) (a : IsFree sc c m t) (next : next_kind sc m t ≡ Some kinds.Begin) where
  abbrev mid : Machine
  mid = machine_begun m t

  among : IsAmong t m.tasks
  among = let s = a.stands.shape.long in (a.positive, omega (arith, s, a.inside, a.positive))

  now : IsTask c.keyed (part_of c t) (tasked m t)
  now = a.stands.shape.tasks t a.positive a.inside

  own_mid : tasked mid t ≡ begins.begun_one (tasked m t)
  own_mid = own_item m.tasks t (begins.begun_one (tasked m t)) idle among.0 among.1

  abbrev begun : Bool → Call → Machine
  begun want call = begin_call sc want mid t call (store_reply sc m t call)

  module _ (want : Bool) (call : Call) (there : nth_call sc t ((part_of c t).begun + 1) ≡ Some call) where
    -- an answer that counts no amount has room
    pub is_answered : (reply : Reply) (n : Machine) → IsUncounted sc m.past (entries.Call t ((part_of c t).begun + 1) (word_of call) reply) → begun want call ≡ replied n t call reply → n.past ≡ m.past → IsAnswered sc c m t call reply
    is_answered reply n uncounted e past = record { uncounted = uncounted; room = begin_room sc c m t a.stands ties task want call reply n a next there e past }

    -- a call that counts nothing, and one that is refused
    pub counts_nothing : (reply : Reply) → is_counting call ≡ false → IsUncounted sc m.past (entries.Call t ((part_of c t).begun + 1) (word_of call) reply)
    counts_nothing reply none = call_uncounted sc m.past t ((part_of c t).begun + 1) (word_of call) reply call there none

    pub refused_nothing : (reply : Reply) → is_done reply ≡ false → IsUncounted sc m.past (entries.Call t ((part_of c t).begun + 1) (word_of call) reply)
    refused_nothing reply none = refused_uncounted sc m.past t ((part_of c t).begun + 1) (word_of call) reply none

    -- a call that is answered at once and moves nothing
    pub answers_at_once : (reply : Reply) → IsUncounted sc m.past (entries.Call t ((part_of c t).begun + 1) (word_of call) reply) → begun want call ≡ replied mid t call reply
        → Happens sc want kinds.Begin t (answered_first c t call reply) m
    answers_at_once reply uncounted e = begin_happens sc c m t ties task a want call next there (replied mid t call reply) (answered_first c t call reply) e
        (answers_begin sc c m t call reply a (is_answered reply mid uncounted e refl))

  -- a create of some bytes, and an exit
  pub create_opens : (want : Bool) (bytes : List ℕ) → nth_call sc t ((part_of c t).begun + 1) ≡ Some (calls.Create bytes) → (length bytes == 0) ≡ false → nat_lt ARRAY_BYTES (length bytes) ≡ false
      → Happens sc want kinds.Begin t (opened c t (fresh_frame [] [])) m
  create_opens want bytes there some few = begin_happens sc c m t ties task a want (calls.Create bytes) next there _ (opened c t (fresh_frame [] []))
      (create_framed sc want mid t (store_reply sc m t (calls.Create bytes)) bytes some few) (creates_begin sc c m t a)

  pub exit_opens : (want : Bool) → nth_call sc t ((part_of c t).begun + 1) ≡ Some calls.Exit → Happens sc want kinds.Begin t (opened c t exiting_frame) m
  exit_opens want there = begin_happens sc c m t ties task a want calls.Exit next there _ (opened c t exiting_frame) refl (exits_begin sc c m t a)

  -- a drop
  pub drop_at_once : (want : Bool) (name : ℕ) (reply : Reply) → nth_call sc t ((part_of c t).begun + 1) ≡ Some (calls.GiveUp name) → AllApart c.keyed → store_reply sc m t (calls.GiveUp name) ≡ reply
      → Happens sc want kinds.Begin t (dropped c t (calls.GiveUp name) reply name) m
  drop_at_once want name reply there apart e =
      let q : begun want (calls.GiveUp name) ≡ begins.dropped mid t (calls.GiveUp name) reply (handles_of (tasked mid t).names name) name = ap (λ r. begins.dropped mid t (calls.GiveUp name) r (handles_of (tasked mid t).names name) name) e in
      begin_happens sc c m t ties task a want (calls.GiveUp name) next there _ (dropped c t (calls.GiveUp name) reply name) q
      (drops_leave sc c m t (calls.GiveUp name) reply name a (is_answered want (calls.GiveUp name) there reply _ (counts_nothing want (calls.GiveUp name) there reply refl) q refl) apart)

  -- A send.

  module _ (want : Bool) (to name id : ℕ) (moving : Bool) (there : nth_call sc t ((part_of c t).begun + 1) ≡ Some (calls.Send to moving name id)) where
    abbrev sending : Call
    sending = calls.Send to moving name id

    mid_names : handles_of (tasked mid t).names name ≡ handles_of (tasked m t).names name
    mid_names = ap (λ (x : Tasked). handles_of x.names name) own_mid

    mid_full : is_full sc mid to ≡ is_full sc m to
    mid_full = ap (λ (qs : List machine.Message). begins_full qs) (same_part (λ (x : Tasked). x.queue) m.tasks t to (begins.begun_one (tasked m t)) idle refl)
      where
        begins_full : List machine.Message → Bool
        begins_full qs = not (nat_lt (length qs) (limit_of sc to))

    -- of a name that is not there
    pub send_knows_none : is_task sc to ≡ true → (name == 0) ≡ false → voucher_of (part_of c t).names name ≡ None → begun want sending ≡ replied mid t sending (store_reply sc m t sending)
    send_knows_none to_task some none = send_unknown sc want mid t (store_reply sc m t sending) to name id moving to_task some (mid_names ∙ no_handles_there (handles_of (tasked m t).names name) (subst (λ o. Optional (IsMap c.keyed) o (handles_of (tasked m t).names name)) none (voucher_is c.keyed (part_of c t).names (tasked m t).names name now.names)))
      where
        no_handles_there : (o : Option Handles) → Optional (IsMap c.keyed) None o → o ≡ None
        no_handles_there None z = refl
        no_handles_there (Some w) z = absurd z

    -- of a voucher, which is copied
    pub send_copies : (v : Indices) (keyed : Keyed KeyParts) → is_task sc to ≡ true → (name == 0) ≡ false → voucher_of (part_of c t).names name ≡ Some v → SharesAll c.keyed v keyed
        → Happens sc want kinds.Begin t (copied c t keyed v (key_if keys.Bank (index_of keys.Bank v))) m
    send_copies v keyed to_task some named shares = by (handles_of (tasked m t).names name) refl (subst (λ o. Optional (IsMap c.keyed) o (handles_of (tasked m t).names name)) named (voucher_is c.keyed (part_of c t).names (tasked m t).names name now.names))
      where
        by : (o : Option Handles) → handles_of (tasked m t).names name ≡ o → Optional (IsMap c.keyed) (Some v) o → Happens sc want kinds.Begin t (copied c t keyed v (key_if keys.Bank (index_of keys.Bank v))) m
        by None e z = absurd z
        by (Some w) e z = begin_happens sc c m t ties task a want sending next there _ (copied c t keyed v (key_if keys.Bank (index_of keys.Bank v)))
            (send_framed sc want mid t (store_reply sc m t sending) to name id moving w to_task some (mid_names ∙ e))
            (subst (λ ks. StandsFor sc (copied c t keyed v (key_if keys.Bank (index_of keys.Bank v))) (with_frame mid t (Some (begins.fresh_frame w ks)))) (asked_same c.keyed keys.Bank v w z)
            (copies_begin sc c m t keyed v w (key_if keys.Bank (index_of keys.Bank v)) a z shares (own_known m t name w among e)))

    -- of no voucher
    pub send_finds_full : is_task sc to ≡ true → (name == 0) ≡ true → length (part_of c to).queue ≡ (part_of c to).limit → begun want sending ≡ replied mid t sending (store_reply sc m t sending)
    send_finds_full to_task none full = let n = in_parts sc c m to a.stands ties to_task in
        send_full sc want mid t (store_reply sc m t sending) to name id moving to_task none (mid_full ∙ full_queue sc c m to a.stands n.0 n.1 full)

    pub send_queues : (reply : Reply) → is_task sc to ≡ true → (name == 0) ≡ true → length (part_of c to).queue < (part_of c to).limit → store_reply sc m t sending ≡ reply
        → Happens sc want kinds.Begin t (queued_first c t to (record { sender = t; id = id; voucher = None }) sending reply) m
    send_queues reply to_task none room e =
        let n = in_parts sc c m to a.stands ties to_task in
        let q : begun want sending ≡ replied (enqueued mid to (record { sender = t; id = id; voucher = None })) t sending reply =
        send_bare sc want mid t (store_reply sc m t sending) to name id moving to_task none (mid_full ∙ room_in_queue sc c m to a.stands n.0 n.1 room)
        ∙ ap (replied (enqueued mid to (record { sender = t; id = id; voucher = None })) t sending) e in
        begin_happens sc c m t ties task a want sending next there _ (queued_first c t to (record { sender = t; id = id; voucher = None }) sending reply) q
        (queueings_begin sc c m t sending reply to id a (is_answered want sending there reply (enqueued mid to (record { sender = t; id = id; voucher = None })) (counts_nothing want sending there reply refl) q refl) n.0 n.1)

  -- A recv.

  module _ (want : Bool) (there : nth_call sc t ((part_of c t).begun + 1) ≡ Some calls.Recv) where
    mid_queue : (tasked mid t).queue ≡ (tasked m t).queue
    mid_queue = ap (λ (x : Tasked). x.queue) own_mid

    -- of nothing
    pub recv_finds_none : (part_of c t).queue ≡ [] → begun want calls.Recv ≡ replied mid t calls.Recv (store_reply sc m t calls.Recv)
    recv_finds_none empty = recv_nothing sc want mid t (store_reply sc m t calls.Recv) (mid_queue ∙ no_message sc c m t a.stands a.positive a.inside empty)

    -- of a message without a voucher
    pub recv_takes : (q : Message) (queue : List Message) (reply : Reply) → (part_of c t).queue ≡ q ∷ queue → q.voucher ≡ None → store_reply sc m t calls.Recv ≡ reply
        → Happens sc want kinds.Begin t (taken_first c t queue calls.Recv reply) m
    recv_takes q queue reply first none e = first_message sc c m t q queue _ a.stands a.positive a.inside first (λ r rest x y z.
        let bare : r.voucher ≡ None = no_voucher r.voucher (subst (λ o. Optional (IsMap c.keyed) o r.voucher) none y.2) in
        let w : begun want calls.Recv ≡ replied (dequeued mid t (tasked mid t).queue) t calls.Recv reply =
        recv_bare sc want mid t (store_reply sc m t calls.Recv) r rest (mid_queue ∙ x) bare ∙ ap (replied (dequeued mid t (tasked mid t).queue) t calls.Recv) e in
        begin_happens sc c m t ties task a want calls.Recv next there _ (taken_first c t queue calls.Recv reply) w
        (takings_begin sc c m t calls.Recv reply queue r rest a (is_answered want calls.Recv there reply (dequeued mid t (tasked mid t).queue) (counts_nothing want calls.Recv there reply refl) w (past_same (tasked mid t).queue)) x z bare))
      where
        no_voucher : (o : Option Handles) → Optional (IsMap c.keyed) None o → o ≡ None
        no_voucher None z = refl
        no_voucher (Some w) z = absurd z

        past_same : (qs : List machine.Message) → (dequeued mid t qs).past ≡ m.past
        past_same [] = refl
        past_same (q ∷ qs) = refl

    -- of a message with one, which is copied
    pub recv_copies : (q : Message) (queue : List Message) (v : Indices) (keyed : Keyed KeyParts) → (part_of c t).queue ≡ q ∷ queue → q.voucher ≡ Some v → SharesAll c.keyed v keyed
        → Happens sc want kinds.Begin t (copied c t keyed v (recv_keys v)) m
    recv_copies q queue v keyed first some shares = first_message sc c m t q queue _ a.stands a.positive a.inside first (λ r rest x y z.
        by r rest x r.voucher refl (subst (λ o. Optional (IsMap c.keyed) o r.voucher) some y.2))
      where
        by : (r : machine.Message) (rest : List machine.Message) → (tasked m t).queue ≡ r ∷ rest → (o : Option Handles) → r.voucher ≡ o → Optional (IsMap c.keyed) (Some v) o → Happens sc want kinds.Begin t (copied c t keyed v (recv_keys v)) m
        by r rest x None e z = absurd z
        by r rest x (Some w) e z = begin_happens sc c m t ties task a want calls.Recv next there _ (copied c t keyed v (recv_keys v))
            (recv_framed sc want mid t (store_reply sc m t calls.Recv) r rest w (mid_queue ∙ x) e)
            (subst (λ l. StandsFor sc (copied c t keyed v (recv_keys v)) (with_frame mid t (Some (begins.fresh_frame w l))))
            (ap (λ l. l ++ key_if keys.Bank (index_of keys.Bank v)) (asked_same c.keyed keys.Importance v w z) ∙ ap (λ l. key_if keys.Importance w.importance ++ l) (asked_same c.keyed keys.Bank v w z))
            (copies_begin sc c m t keyed v w (recv_keys v) a z shares (first_known m t r rest w among x e)))
