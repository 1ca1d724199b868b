-- A receive begins: it is refused, takes a message without a voucher, or copies a voucher.
use Rattle.std.proofs.Common.{◌≡◌, ℕ, ◌+◌, ◌-◌, ◌≤◌, true, false, List, [], ◌∷◌, ◌++◌, arith, drop, refl, sym, ap, ◌∙◌, subst, Option, Some, None}
use Rattle.std.specs.Prelude.{is_some, slice_get}
use Rattle.vch_base.specs.Tasks.{set_task}
use Rattle.vch_base.specs.declared.codes.TheConstants.{MACH_RCV_TIMED_OUT}
use Rattle.vch_base.specs.declared.key.Key.TheVariants as keys
use Rattle.vch_base.specs.declared.kind.Kind.TheVariants as kinds
use Rattle.vch_base.specs.Keyed.{Keyed}
use Rattle.vch_model.specs.Lines.{is_task}
use Rattle.vch_model.specs.Replies.{refused}
use Rattle.vch_model.specs.Rows.{Entries}
use Rattle.vch_model.specs.declared.call.Call.TheVariants as calls
use Rattle.vch_model.specs.declared.call.Word.TheVariants as words
use Rattle.vch_model.specs.declared.entry.Entry.{Entry}
use Rattle.vch_model.specs.declared.entry.Entry.TheVariants as entries
use Rattle.vch_model.specs.declared.entry.Reply.{Reply}
use Rattle.vch_model.specs.declared.entry.Reply.TheVariants as replies
use Rattle.vch_machine.specs.Beginning as begins
use Rattle.vch_machine.specs.Beginning.{begin_call, store_reply, key_if}
use Rattle.vch_machine.specs.Frames as frames
use Rattle.vch_machine.specs.Next.{nth_call}
use Rattle.vch_machine.specs.State as machine
use Rattle.vch_machine.specs.State.{Handles, Machine, tasked}
use Rattle.vch_frame.specs.Pairs.{Optional, Pairwise}
use Rattle.vch_frame.specs.Indices.{index_of}
use Rattle.vch_values.specs.Parts.{KeyParts}
use Rattle.vch_vouchers.specs.Desks.{Desk, desk}
use Rattle.vch_vouchers.specs.declared.answers.Message.{Message}
use Rattle.vch_parts.specs.Asking.{marked}
use Rattle.vch_parts.specs.declared.frames.Working.{Working}
use Rattle.vch_parts.specs.declared.parts.Parts.{Parts}
use Rattle.vch_parts.specs.Framed.{frame_of, begun_of, with_begun_of}
use Rattle.vch_parts.specs.Plain.{Indices, Plain, Part, part_of}
use Rattle.vch_parts.specs.Reached.{plain_of, parts_in, Reached, IsState, IsNext, MayFollow}
use Rattle.vch_parts.specs.Shape.{IsMap, IsIndexOf, IsMessage}
use Rattle.vch_parts.proofs.CallerLemmas.{at_key, in_parts, set_sides}
use Rattle.vch_moves.specs.Steps.{begun_one, un_queued, taken_first, machine_begun}
use Rattle.vch_moves.proofs.CallerLemmas.{taken_stands, may_follow, stands_of, ties_of, first_message, no_message, recv_nothing, recv_bare, recv_framed, first_known}
use Rattle.vch_replies.specs.Replied.{is_bare, recv_told}
use Rattle.vch_replies.proofs.CallerLemmas.{begins, recv_reply}
use Rattle.vch_carry.proofs.glue.Begun.{begun, some_begun}
use Rattle.vch_carry.proofs.glue.Runs.{room_by}
use Rattle.vch_carry.proofs.glue.Steps.{range, own_desk, own_work}
use Rattle.vch_carry.proofs.begun.Answered.{uncounted_here, entry_is}
use Rattle.vch_carry.proofs.begun.Copied.{Copies}
use Rattle.vch_carry.proofs.begun.SendBegins.{queue_stays}

none_first : (qs : List Message) → slice_get qs 0 ≡ None → qs ≡ []
none_first [] e = refl
none_first (q ∷ qs) e = absurd (cc)

one_first : (qs : List Message) (q : Message) → slice_get qs 0 ≡ Some q → qs ≡ q ∷ drop 1 qs
one_first [] q e = absurd (cc)
one_first (x ∷ qs) q e = let same : x ≡ q = cc in ap (λ y. y ∷ qs) same

bare_twin : (x : Keyed KeyParts) (v : Option Indices) (w : Option Handles) → v ≡ None → Optional (IsMap x) v w → w ≡ None
bare_twin x None None e h = refl
bare_twin x None (Some w) e h = absurd h
bare_twin x (Some v) w e h = absurd (cc)

-- importance and the bank are to be asked where the voucher has values there
both_asked : (x : Keyed KeyParts) (i h j k : Option ℕ) → Optional (IsIndexOf x keys.Importance) i h → Optional (IsIndexOf x keys.Bank) j k → marked (is_some i) (is_some j) false false ≡ key_if keys.Importance h ++ key_if keys.Bank k
both_asked x None None None None e f = refl
both_asked x None None (Some j) (Some k) e f = refl
both_asked x (Some i) (Some h) None None e f = refl
both_asked x (Some i) (Some h) (Some j) (Some k) e f = refl
both_asked x None (Some h) j k e f = absurd e
both_asked x (Some i) None j k e f = absurd e
both_asked x None None None (Some k) e f = absurd f
both_asked x None None (Some j) None e f = absurd f
both_asked x (Some i) (Some h) None (Some k) e f = absurd f
both_asked x (Some i) (Some h) (Some j) None e f = absurd f

module _ (p : Parts) (t : ℕ) (r : Reached p) (task : is_task p.scenario t ≡ true) (next : IsNext p t (Some kinds.Begin)) (free : frame_of p.frames t ≡ None)
    (is : nth_call p.scenario t (begun_of p.frames t + 1) ≡ Some calls.Recv) where
  abbrev C : Plain
  C = plain_of p

  abbrev X : Part
  X = part_of C t

  own_queue : (qs : List Message) → (desk p.vouchers t).queue ≡ qs → X.queue ≡ qs
  own_queue qs e = ap (λ (d : Desk). d.queue) (sym (own_desk p t r task)) ∙ e

  bare_told : (m : Machine) → IsState p.scenario C m → is_bare X.queue ≡ true → (reply : Reply) → recv_told X.queue ≡ reply
      → begin_call p.scenario false (machine_begun m t) t calls.Recv (store_reply p.scenario m t calls.Recv) ≡ begin_call p.scenario false (machine_begun m t) t calls.Recv reply
  bare_told m st bare reply e = ap (begin_call p.scenario false (machine_begun m t) t calls.Recv) (recv_reply p.scenario C m t (begins p.scenario C m t st task) bare ∙ e)

  at_first : (m : Machine) → IsState p.scenario C m → (q : Message) (queue : List Message) → X.queue ≡ q ∷ queue → (P : Type 0)
      → ((s : machine.Message) (rest : List machine.Message) → (tasked m t).queue ≡ s ∷ rest → IsMessage p.values q s → Pairwise (IsMessage p.values) queue rest → P) → P
  at_first m st q queue e P h =
      let s = stands_of p.scenario C m st in
      let n = in_parts p.scenario C m t s (ties_of p.scenario C m st) task in
      first_message p.scenario C m t q queue P s n.0 n.1 e h

  -- No message.

  pub empty_replies : slice_get (desk p.vouchers t).queue 0 ≡ None → (m : Machine) → IsState p.scenario C m
      → begin_call p.scenario false (machine_begun m t) t calls.Recv (store_reply p.scenario m t calls.Recv) ≡ frames.replied (machine_begun m t) t calls.Recv (refused MACH_RCV_TIMED_OUT)
  empty_replies none m st =
      let e : X.queue ≡ [] = own_queue [] (none_first (desk p.vouchers t).queue none) in
      let s = stands_of p.scenario C m st in
      let n = in_parts p.scenario C m t s (ties_of p.scenario C m st) task in
      bare_told m st (ap is_bare e) (refused MACH_RCV_TIMED_OUT) (ap recv_told e)
      ∙ recv_nothing p.scenario false (machine_begun m t) t (refused MACH_RCV_TIMED_OUT) (queue_stays m t t ∙ no_message p.scenario C m t s n.0 n.1 e)

  -- One without a voucher.

  module _ (sender id : ℕ) (first : slice_get (desk p.vouchers t).queue 0 ≡ Some (record { sender = sender; id = id; voucher = None })) where
    abbrev Q : Message
    Q = record { sender = sender; id = id; voucher = None }

    abbrev rest_of : List Message
    rest_of = drop 1 (desk p.vouchers t).queue

    abbrev reply : Reply
    reply = replies.Received sender id 0

    queue_is : X.queue ≡ Q ∷ rest_of
    queue_is = own_queue (Q ∷ rest_of) (one_first (desk p.vouchers t).queue Q first)

    takes : (m : Machine) → IsState p.scenario C m → (s : machine.Message) (rest : List machine.Message) → (tasked m t).queue ≡ s ∷ rest → IsMessage p.values Q s
        → begin_call p.scenario false (machine_begun m t) t calls.Recv (store_reply p.scenario m t calls.Recv) ≡ frames.replied (begins.dequeued (machine_begun m t) t (tasked (machine_begun m t) t).queue) t calls.Recv reply
    takes m st s rest e one = bare_told m st (ap is_bare queue_is) reply (ap recv_told queue_is)
        ∙ recv_bare p.scenario false (machine_begun m t) t reply s rest (queue_stays m t t ∙ e) (bare_twin p.values None s.voucher refl one.2)

    pub bare_room : 1 ≤ p.history.spare
    bare_room = some_begun p t r task next free calls.Recv is _ (λ m b. at_first m b.state Q rest_of queue_is _ (λ s rest e one others.
        room_by p.scenario C m (frames.replied (begins.dequeued (machine_begun m t) t (s ∷ rest)) t calls.Recv reply) t false _ b.state
        (b.event false ∙ ap Some (takes m b.state s rest e one ∙ ap (λ qs. frames.replied (begins.dequeued (machine_begun m t) t qs) t calls.Recv reply) (queue_stays m t t ∙ e))) refl refl))

    module _ (ds2 : List Desk) (left : ds2 ≡ set_task p.vouchers t (record (desk p.vouchers t) { queue = drop 1 (desk p.vouchers t).queue })) where
      tasks_are : parts_in ds2 (with_begun_of p.frames t) ≡ set_task (parts_in p.vouchers p.frames) t (un_queued (begun_one X) rest_of)
      tasks_are =
          ap (λ ds. parts_in ds (with_begun_of p.frames t)) left
          ∙ (set_sides p.vouchers p.frames t (record (desk p.vouchers t) { queue = rest_of }) (record { begun = begun_of p.frames t + 1; frame = frame_of p.frames t }) (range p t r task).0
          ∙ (ap (λ (w : Working). set_task (parts_in p.vouchers p.frames) t (record { names = (desk p.vouchers t).names; next = (desk p.vouchers t).next; queue = rest_of; limit = (desk p.vouchers t).limit; begun = w.begun + 1; frame = w.frame })) (own_work p t r task)
          ∙ ap (λ (d : Desk). set_task (parts_in p.vouchers p.frames) t (record { names = d.names; next = d.next; queue = rest_of; limit = d.limit; begun = X.begun + 1; frame = X.frame })) (own_desk p t r task)))

      plain_is : (a b : List Part) (d e : List Entry) (i j : ℕ) → a ≡ b → d ≡ e → i ≡ j → record C { tasks = a; history = d; spare = i } ≡ record C { tasks = b; history = e; spare = j }
      plain_is a b d e i j q r s = rw (q, r, s) refl

      less_one : (a b : ℕ) → a + 1 ≡ b → a ≡ b - 1
      less_one a b e = omega (arith, e)

      pub bare_follows : (h2 : Entries) → h2.entries ≡ p.history.entries ++ entries.Call t (begun_of p.frames t + 1) words.Recv reply ∷ [] → h2.spare + 1 ≡ p.history.spare
          → MayFollow kinds.Begin t p (record p { vouchers = ds2; frames = with_begun_of p.frames t; history = h2 })
      bare_follows h2 noted less = may_follow kinds.Begin t p (record p { vouchers = ds2; frames = with_begun_of p.frames t; history = h2 }) false (taken_first C t rest_of calls.Recv reply) refl
          (plain_is _ _ _ _ _ _ tasks_are (entry_is p t r task next free calls.Recv is h2 reply noted) (less_one h2.spare p.history.spare less))
          (λ m st. let b = begun p t r task next free calls.Recv is m st in let a = b.at_rest in at_first m st Q rest_of queue_is _ (λ s rest e one others. (
            frames.replied (begins.dequeued (machine_begun m t) t (tasked (machine_begun m t) t).queue) t calls.Recv reply,
            b.event false ∙ ap Some (takes m st s rest e one),
            b.next,
            taken_stands p.scenario C m t a.positive a.inside a.stands a.own a.task calls.Recv reply (uncounted_here p t r task next free calls.Recv is refl m.past reply) bare_room rest_of s rest e others
                (bare_twin p.values None s.voucher refl one.2),
          )))

      pub bare_then : (new : Parts) → new ≡ record p { vouchers = ds2; frames = with_begun_of p.frames t; history = new.history }
          → new.history.entries ≡ p.history.entries ++ entries.Call t (begun_of p.frames t + 1) words.Recv reply ∷ [] → new.history.spare + 1 ≡ p.history.spare → MayFollow kinds.Begin t p new
      bare_then new whole noted less = subst (MayFollow kinds.Begin t p) (sym whole) (bare_follows new.history noted less)

  -- A copy.

  pub recv_copies : (sender id : ℕ) (v : Indices) → slice_get (desk p.vouchers t).queue 0 ≡ Some (record { sender = sender; id = id; voucher = Some v })
      → (m : Machine) → IsState p.scenario C m → Copies p m t calls.Recv v (marked (is_some (index_of keys.Importance v)) (is_some (index_of keys.Bank v)) false false)
  recv_copies sender id v first m st =
      at_first m st (record { sender = sender; id = id; voucher = Some v }) (drop 1 (desk p.vouchers t).queue) (own_queue _ (one_first (desk p.vouchers t).queue _ first)) _ (λ s rest e one others.
      twin s.voucher refl one.2 (λ w has map.
      let st2 = stands_of p.scenario C m st in
      let n = in_parts p.scenario C m t st2 (ties_of p.scenario C m st) task in
      let asked : marked (is_some (index_of keys.Importance v)) (is_some (index_of keys.Bank v)) false false ≡ key_if keys.Importance w.importance ++ key_if keys.Bank w.bank =
      both_asked p.values (index_of keys.Importance v) w.importance (index_of keys.Bank v) w.bank (at_key p.values keys.Importance v w map) (at_key p.values keys.Bank v w map) in
      record {
        handles = w;
        map = map;
        known = first_known m t s rest w (n.0, (let l = st2.shape.long in let i = n.1 in omega (arith, l, i))) e has;
        begins = recv_framed p.scenario false (machine_begun m t) t (store_reply p.scenario m t calls.Recv) s rest w (queue_stays m t t ∙ e) has
            ∙ ap (λ ks. frames.with_frame (machine_begun m t) t (Some (begins.fresh_frame w ks))) (sym asked);
      }))
    where
      twin : (o : Option Handles) {P : Type 0} {x : Option Handles} → x ≡ o → Optional (IsMap p.values) (Some v) o → ((w : Handles) → x ≡ Some w → IsMap p.values v w → P) → P
      twin None e z h = absurd z
      twin (Some w) e z h = h w e z
