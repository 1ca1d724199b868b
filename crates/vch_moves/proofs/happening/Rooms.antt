-- The history has room for what is not a value made.
use Rattle.std.proofs.Common.{◌≡◌, ℕ, ◌+◌, ◌≤◌, Bool, true, false, List, [], ◌∷◌, ◌++◌, refl, arith, ap, ◌∙◌, subst, length, Option, Some, None, ℤ}
use Rattle.vch_base.specs.declared.codes.TheConstants.{KERN_RESOURCE_SHORTAGE, MACH_SEND_TIMED_OUT}
use Rattle.vch_base.specs.declared.kind.Kind.TheVariants as kinds
use Rattle.vch_model.specs.Legal.{LegalPast}
use Rattle.vch_model.specs.Lines.{is_task}
use Rattle.vch_model.specs.Replies.{refused}
use Rattle.vch_model.specs.Words.{word_of}
use Rattle.vch_model.specs.declared.call.Call.{Call}
use Rattle.vch_model.specs.declared.call.Call.TheVariants as calls
use Rattle.vch_model.specs.declared.entry.Entry.{Entry}
use Rattle.vch_model.specs.declared.entry.Entry.TheVariants as entries
use Rattle.vch_model.specs.declared.entry.Reply.{Reply}
use Rattle.vch_model.specs.declared.entry.Reply.TheVariants as replies
use Rattle.vch_model.specs.declared.lists.Scenario.{Scenario}
use Rattle.vch_machine.specs.Beginning.{begin_call, store_reply, is_full}
use Rattle.vch_machine.specs.Events.{event}
use Rattle.vch_machine.specs.Frames.{refuse, replied, with_frame, closed}
use Rattle.vch_machine.specs.Naming.{lowest, option_places}
use Rattle.vch_machine.specs.Next.{next_kind, nth_call}
use Rattle.vch_machine.specs.Placing.{do_place}
use Rattle.vch_machine.specs.Schedules.{Move}
use Rattle.vch_machine.specs.State as machine
use Rattle.vch_machine.specs.State.{Handles, Machine, tasked}
use Rattle.vch_machine.specs.Working.{do_work, exit_names, exit_queue, do_gone, do_lost, do_left}
use Rattle.vch_legal.specs.Tie.{Ties}
use Rattle.vch_legal.proofs.CallerLemmas.{happens_stands}
use Rattle.vch_bounds.specs.Rooms.{is_made, room_of}
use Rattle.vch_bounds.proofs.CallerLemmas.{one_more}
use Rattle.vch_parts.specs.declared.frame.Frame.{Frame}
use Rattle.vch_parts.specs.Plain.{Indices, Plain, part_of}
use Rattle.vch_parts.specs.Stands.{StandsFor}
use Rattle.vch_moves.specs.Moments.{IsFree, Forms}
use Rattle.vch_moves.specs.Steps.{machine_begun}
use Rattle.vch_moves.proofs.happening.Beginning.{begin_event}
use Rattle.vch_moves.proofs.happening.Calls.{AtCall}
use Rattle.vch_moves.proofs.happening.Ends.{make_event, place_event, work_is_done, exit_event, send_too_many, send_wanting}

-- an event that notes one entry, and makes no value, has room for it
pub entry_room : (sc : Scenario) (c : Plain) (m n : Machine) (t : ℕ) (want : Bool) (e : Entry) → StandsFor sc c m → Ties sc m
    → event sc want m t ≡ Some n → n.past ≡ e ∷ m.past → is_made e ≡ false → 1 ≤ c.spare
entry_room sc c m n t want e s ties happens past none =
    let legal : LegalPast sc (e ∷ m.past) = subst (LegalPast sc) past (happens_stands sc m n (Move.Of t want) ties happens).legal in
    let a : length m.past + 1 ≤ room_of sc m.past = one_more sc m.past e legal.0 legal.1 none in
    let b : room_of sc m.past ≤ length m.past + c.spare = s.room in
    omega (arith, a, b)

-- Where a call is answered, whatever its answer.

module _ (sc : Scenario) (c : Plain) (m : Machine) (t : ℕ) (s : StandsFor sc c m) (ties : Ties sc m) (task : is_task sc t ≡ true) where
  -- as it begins
  pub begin_room : (want : Bool) (call : Call) (reply : Reply) (mid : Machine) → IsFree sc c m t → next_kind sc m t ≡ Some kinds.Begin → nth_call sc t ((part_of c t).begun + 1) ≡ Some call
      → begin_call sc want (machine_begun m t) t call (store_reply sc m t call) ≡ replied mid t call reply → mid.past ≡ m.past → 1 ≤ c.spare
  begin_room want call reply mid a next there e past =
      entry_room sc c m (replied mid t call reply) t want (entries.Call t (tasked mid t).begun (word_of call) reply) s ties
      (begin_event sc c m t ties task a want call next there ∙ ap (λ n. Some n) e)
      (ap (λ (p : List Entry). entries.Call t (tasked mid t).begun (word_of call) reply ∷ p) past) refl

  module _ (f : Frame) (g : machine.Frame) where
    -- where it is refused
    refusal_room : (want : Bool) (call : Call) (code : ℤ) → event sc want m t ≡ Some (refuse m t g call code) → 1 ≤ c.spare
    refusal_room want call code e = entry_room sc c m (refuse m t g call code) t want
        (entries.Call t (tasked (with_frame m t (closed (record g { forming = None; answered = true; keys = []; lets = g.lets ++ option_places g.forming }))) t).begun (word_of call) (refused code)) s ties e refl refl

    -- where a manager is asked
    pub make_room : (u : Indices) (w : Handles) (call : Call) → Forms c g u w → nth_call sc t (part_of c t).begun ≡ Some call → AtCall sc c m t f g kinds.Make → 1 ≤ c.spare
    make_room u w call forms there a = refusal_room true call KERN_RESOURCE_SHORTAGE (make_event sc c m t f g task true u w call forms there a)

    -- at its end
    pub place_create_room : (u : Indices) (w : Handles) (bytes : List ℕ) → Forms c g u w → nth_call sc t (part_of c t).begun ≡ Some (calls.Create bytes) → AtCall sc c m t f g kinds.Place → 1 ≤ c.spare
    place_create_room u w bytes forms there a = refusal_room true (calls.Create bytes) KERN_RESOURCE_SHORTAGE (place_event sc c m t f g task true u w (calls.Create bytes) forms there a)

    pub place_recv_room : (u : Indices) (w : Handles) → Forms c g u w → nth_call sc t (part_of c t).begun ≡ Some calls.Recv → AtCall sc c m t f g kinds.Place → 1 ≤ c.spare
    place_recv_room u w forms there a = refusal_room true calls.Recv KERN_RESOURCE_SHORTAGE (place_event sc c m t f g task true u w calls.Recv forms there a)

    pub place_send_room : (u : Indices) (w : Handles) (to : ℕ) (moving : Bool) (name id : ℕ) → Forms c g u w → nth_call sc t (part_of c t).begun ≡ Some (calls.Send to moving name id) → AtCall sc c m t f g kinds.Place → 1 ≤ c.spare
    place_send_room u w to moving name id forms there a = by (is_full sc m to) refl
      where
        placed : event sc true m t ≡ do_place sc true m t g w (calls.Send to moving name id)
        placed = place_event sc c m t f g task true u w (calls.Send to moving name id) forms there a

        by : (b : Bool) → is_full sc m to ≡ b → 1 ≤ c.spare
        by true e = refusal_room true (calls.Send to moving name id) MACH_SEND_TIMED_OUT (placed ∙ send_too_many sc m t g w true to moving name id e)
        by false e = refusal_room true (calls.Send to moving name id) KERN_RESOURCE_SHORTAGE (placed ∙ send_wanting sc m t g w to moving name id e)

    -- where a record is refused
    pub work_room : (u : Indices) (w : Handles) (bytes : List ℕ) (code : ℤ) → Forms c g u w → nth_call sc t (part_of c t).begun ≡ Some (calls.Create bytes) → AtCall sc c m t f g kinds.Work
        → do_work sc.version m t g w (calls.Create bytes) ≡ refuse m t g (calls.Create bytes) code → 1 ≤ c.spare
    work_room u w bytes code forms there a e = refusal_room false (calls.Create bytes) code (work_is_done sc c m t f g task false u w bytes forms there a ∙ ap (λ n. Some n) e)

    -- where an exit gives one thing up, or ends
    pub exit_room : nth_call sc t (part_of c t).begun ≡ Some calls.Exit → AtCall sc c m t f g kinds.Work → 1 ≤ c.spare
    exit_room there a = by_name (lowest (tasked m t).names) (exit_event sc c m t f g task false there a)
      where
        by_queue : (qs : List machine.Message) → event sc false m t ≡ Some (exit_queue m t g qs) → 1 ≤ c.spare
        by_queue [] e = entry_room sc c m (do_left m t g) t false (entries.Call t (tasked (with_frame m t (closed (record g { answered = true }))) t).begun (word_of calls.Exit) replies.Done) s ties e refl refl
        by_queue (q ∷ qs) e = entry_room sc c m (do_lost m t g q qs) t false (entries.Lost t) s ties e refl refl

        by_name : (o : Option ℕ) → event sc false m t ≡ Some (exit_names m t g o) → 1 ≤ c.spare
        by_name None e = by_queue (tasked m t).queue e
        by_name (Some name) e = entry_room sc c m (do_gone m t g name) t false (entries.Gone t name) s ties e refl refl
