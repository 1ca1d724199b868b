-- An exit gives up a name or a message, or is answered.
use Rattle.std.proofs.Common.{◌≡◌, ℕ, ◌+◌, ◌≤◌, Bool, true, false, List, [], ◌∷◌, ◌++◌, refl, sym, ap, ◌∙◌, subst, drop, Option, Some, None}
use Rattle.std.specs.Prelude.{slice_get, IsSome}
use Rattle.vch_base.specs.Tasks.{set_task}
use Rattle.vch_base.specs.declared.kind.Kind.TheVariants as kinds
use Rattle.vch_base.specs.Keyed.{Keyed}
use Rattle.vch_model.specs.Lines.{is_task}
use Rattle.vch_model.specs.Rows.{Entries}
use Rattle.vch_model.specs.Store.{lower}
use Rattle.vch_model.specs.declared.call.Call.TheVariants as calls
use Rattle.vch_model.specs.declared.call.Word.TheVariants as words
use Rattle.vch_model.specs.declared.entry.Entry.TheVariants as entries
use Rattle.vch_model.specs.declared.entry.Reply.TheVariants as replies
use Rattle.vch_machine.specs.Events.{event, work_event}
use Rattle.vch_machine.specs.Frames as frames
use Rattle.vch_machine.specs.Naming as naming
use Rattle.vch_machine.specs.Next.{nth_call, current}
use Rattle.vch_machine.specs.State as machine
use Rattle.vch_machine.specs.State.{Machine, tasked}
use Rattle.vch_machine.specs.Working.{do_exit, do_gone, do_lost, do_left, exit_names, exit_queue}
use Rattle.vch_frame.specs.declared.frame.KeyIndex.{KeyIndex}
use Rattle.vch_frame.specs.Pairs.{Pairwise}
use Rattle.vch_values.specs.Parts.{KeyParts}
use Rattle.vch_ports.specs.Names as ports
use Rattle.vch_vouchers.specs.Desks as desks
use Rattle.vch_vouchers.specs.Desks.{Desk, Named, desk, lowest, without_name, voucher_of, taken_from}
use Rattle.vch_vouchers.specs.declared.answers.Message.{Message}
use Rattle.vch_vouchers.specs.declared.answers.Taken.{Taken}
use Rattle.vch_parts.specs.declared.frame.Frame.{Frame}
use Rattle.vch_parts.specs.declared.frames.Working as declared
use Rattle.vch_parts.specs.declared.parts.Parts.{Parts}
use Rattle.vch_parts.specs.Framed.{frame_of, begun_of, with_frame_of}
use Rattle.vch_parts.specs.Plain.{Indices, Part, part_of, closed}
use Rattle.vch_parts.specs.Reached.{plain_of, Reached, IsNext, MayFollow}
use Rattle.vch_parts.specs.Shape.{IsName, IsMessage}
use Rattle.vch_parts.proofs.CallerLemmas.{own_begun}
use Rattle.vch_moves.specs.Desks.{AllApart, desk_of, option_items, orphaned}
use Rattle.vch_moves.specs.Steps.{gone, lost, left, letting, un_named, un_queued}
use Rattle.vch_moves.proofs.CallerLemmas.{gone_stands, lost_stands, left_stands}
use Rattle.vch_carry.proofs.glue.Open.{Working, working, some_working}
use Rattle.vch_carry.proofs.glue.Runs.{follows_by, room_by}
use Rattle.vch_carry.proofs.glue.Steps.{own_desk, desks_then, put_same, stepped_is}

-- The lowest name on both sides.

lowest_agrees : (x : Keyed KeyParts) (names : List Named) (twins : List machine.Named) → Pairwise (IsName x) names twins → lowest names ≡ naming.lowest twins
lowest_agrees x [] [] h = refl
lowest_agrees x [] (y ∷ twins) h = absurd h
lowest_agrees x (n ∷ names) [] h = absurd h
lowest_agrees x (n ∷ names) (y ∷ twins) h = rw (h.0.0, lowest_agrees x names twins h.1) (same y.name (naming.lowest twins))
  where
    same : (n : ℕ) (o : Option ℕ) → Some (ports.lower n o) ≡ Some (lower n o)
    same n None = refl
    same n (Some k) = refl

-- the first message on both sides
first_of : (x : Keyed KeyParts) (q : Message) (queue : List Message) (rs : List machine.Message) (A : Type 0) → Pairwise (IsMessage x) (q ∷ queue) rs
    → ((r : machine.Message) (rest : List machine.Message) → rs ≡ r ∷ rest → IsMessage x q r → Pairwise (IsMessage x) queue rest → A) → A
first_of x q queue [] A h f = absurd h
first_of x q queue (r ∷ rest) A h f = f r rest refl h.0 h.1

none_either : (x : Keyed KeyParts) (qs : List Message) (rs : List machine.Message) → qs ≡ [] → Pairwise (IsMessage x) qs rs → rs ≡ []
none_either x [] [] e h = refl
none_either x [] (r ∷ rs) e h = absurd h
none_either x (q ∷ qs) rs e h = absurd (cc)

none_left : (qs : List Message) → slice_get qs 0 ≡ None → qs ≡ []
none_left [] e = refl
none_left (q ∷ qs) e = absurd (cc)

some_first : (qs : List Message) (A : Type 0) → IsSome (slice_get qs 0) → ((q : Message) (queue : List Message) → qs ≡ q ∷ queue → A) → A
some_first [] A e f = absurd (let no : false ≡ true = e in cc)
some_first (q ∷ qs) A e f = f q qs refl

module _ (p : Parts) (t : ℕ) (r : Reached p) (task : is_task p.scenario t ≡ true) (next : IsNext p t (Some kinds.Work))
    (is : nth_call p.scenario t (begun_of p.frames t) ≡ Some calls.Exit) (f : Frame) (own : frame_of p.frames t ≡ Some f) where
  abbrev W : Machine → machine.Frame → Type 0
  W m g = Working p m t kinds.Work f g

  abbrev X : Part
  X = part_of (plain_of p) t

  module _ (m : Machine) (g : machine.Frame) (w : W m g) where
    call_now : current p.scenario m t ≡ Some calls.Exit
    call_now =
        let a = w.at_work in
        ap (nth_call p.scenario t) (sym (a.stands.shape.tasks t a.positive a.inside).begun ∙ own_begun p t r task) ∙ is

    exits_here : (want : Bool) → event p.scenario want m t ≡ Some (do_exit m t g)
    exits_here want = w.event want ∙ ap (work_event p.scenario.version m t g) call_now

    formless : g.forming ≡ None
    formless = w.ties.fits.exits t g task w.at_work.task call_now

    lowest_now : (o : Option ℕ) → lowest (desk p.vouchers t).names ≡ o → naming.lowest (tasked m t).names ≡ o
    lowest_now o e =
        let a = w.at_work in
        sym (lowest_agrees p.values X.names (tasked m t).names (a.stands.shape.tasks t a.positive a.inside).names)
        ∙ (ap (λ (d : Desk). lowest d.names) (sym (own_desk p t r task)) ∙ e)

    queue_now : Pairwise (IsMessage p.values) X.queue (tasked m t).queue
    queue_now = let a = w.at_work in (a.stands.shape.tasks t a.positive a.inside).queue

  -- A name.

  module _ (name : ℕ) (is_lowest : lowest (desk p.vouchers t).names ≡ Some name) where
    gone_here : (want : Bool) (m : Machine) (g : machine.Frame) → W m g → event p.scenario want m t ≡ Some (do_gone m t g name)
    gone_here want m g w = exits_here m g w want ∙ ap (λ o. Some (exit_names m t g o)) (lowest_now m g w (Some name) is_lowest)

    pub gone_room : 1 ≤ p.history.spare
    gone_room = some_working p t kinds.Work tt r task next f own _ (λ m g w.
        room_by p.scenario (plain_of p) m (do_gone m t g name) t false (entries.Gone t name) w.state (gone_here false m g w) refl refl)

    pub gone_follows : AllApart p.values → (ds2 : List Desk) → ds2 ≡ set_task p.vouchers t (record (desk p.vouchers t) { names = without_name (desk p.vouchers t).names name })
        → (o : Option Indices) → o ≡ desks.orphaned ds2 (voucher_of (desk p.vouchers t).names name) → (ls : List KeyIndex) → ls ≡ f.lets ++ option_items o
        → (fs2 : List declared.Working) → fs2 ≡ with_frame_of (with_frame_of p.frames t None) t (Some (record f { lets = ls }))
        → (h2 : Entries) → h2.entries ≡ p.history.entries ++ entries.Gone t name ∷ [] → h2.spare + 1 ≡ p.history.spare
        → MayFollow kinds.Work t p (record p { vouchers = ds2; frames = fs2; history = h2 })
    gone_follows apart ds2 desks_are o orphan ls more fs2 put h2 noted less = follows_by p (record p { vouchers = ds2; frames = fs2; history = h2 }) false kinds.Work t (gone (plain_of p) t f name) refl
        (stepped_is p t r task ds2 (un_named X name) is_desks refl fs2 (Some (letting f (orphaned (set_task (plain_of p).tasks t (un_named X name)) (voucher_of X.names name))))
        (put ∙ ap (λ ls. with_frame_of (with_frame_of p.frames t None) t (Some (record f { lets = ls }))) lets_are) h2 (entries.Gone t name) noted less)
        (λ m st. let w = working p t kinds.Work tt r task next f own m st in let g = w.0 in let a = w.1.at_work in
        (do_gone m t g name, gone_here false m g w.1, w.1.next, gone_stands p.scenario (plain_of p) m t a.positive a.inside a.stands f g a.own a.task a.frame a.idle (gone_room) apart name))
      where
        is_desks : ds2 ≡ set_task p.vouchers t (desk_of (un_named X name))
        is_desks = desks_are ∙ ap (λ (d : Desk). set_task p.vouchers t (record d { names = without_name d.names name })) (own_desk p t r task)

        lets_are : ls ≡ f.lets ++ orphaned (set_task (plain_of p).tasks t (un_named X name)) (voucher_of X.names name)
        lets_are = more ∙ (ap (λ o. f.lets ++ option_items o) (orphan ∙ ap (λ (d : Desk). desks.orphaned ds2 (voucher_of d.names name)) (own_desk p t r task)))
            ∙ ap (λ ds. f.lets ++ option_items (desks.orphaned ds (voucher_of X.names name))) (sym (desks_then p t r task (un_named X name) ds2 is_desks))

  -- A message.

  module _ (nameless : lowest (desk p.vouchers t).names ≡ None) where
    unnamed_here : (want : Bool) (m : Machine) (g : machine.Frame) → W m g → event p.scenario want m t ≡ Some (exit_queue m t g (tasked m t).queue)
    unnamed_here want m g w = exits_here m g w want ∙ ap (λ o. Some (exit_names m t g o)) (lowest_now m g w None nameless)

    module _ (q : Message) (queue : List Message) (first : (desk p.vouchers t).queue ≡ q ∷ queue) where
      own_queue : X.queue ≡ q ∷ queue
      own_queue = ap (λ (d : Desk). d.queue) (sym (own_desk p t r task)) ∙ first

      firsts : (m : Machine) (g : machine.Frame) → W m g → (A : Type 0) → ((s : machine.Message) (rest : List machine.Message) → (tasked m t).queue ≡ s ∷ rest → IsMessage p.values q s → Pairwise (IsMessage p.values) queue rest → A) → A
      firsts m g w A h = first_of p.values q queue (tasked m t).queue A (subst (λ qs. Pairwise (IsMessage p.values) qs (tasked m t).queue) own_queue (queue_now m g w)) h

      lost_here : (want : Bool) (m : Machine) (g : machine.Frame) (s : machine.Message) (rest : List machine.Message) → W m g → (tasked m t).queue ≡ s ∷ rest → event p.scenario want m t ≡ Some (do_lost m t g s rest)
      lost_here want m g s rest w e = unnamed_here want m g w ∙ ap (λ qs. Some (exit_queue m t g qs)) e

      lost_room : 1 ≤ p.history.spare
      lost_room = some_working p t kinds.Work tt r task next f own _ (λ m g w. firsts m g w _ (λ s rest e one others.
          room_by p.scenario (plain_of p) m (do_lost m t g s rest) t false (entries.Lost t) w.state (lost_here false m g s rest w e) refl refl))

      lost_is : AllApart p.values → (ds2 : List Desk) → ds2 ≡ set_task p.vouchers t (record (desk p.vouchers t) { queue = queue })
          → (o : Option Indices) → o ≡ desks.orphaned ds2 q.voucher → (ls : List KeyIndex) → ls ≡ f.lets ++ option_items o
          → (fs2 : List declared.Working) → fs2 ≡ with_frame_of (with_frame_of p.frames t None) t (Some (record f { lets = ls }))
          → (h2 : Entries) → h2.entries ≡ p.history.entries ++ entries.Lost t ∷ [] → h2.spare + 1 ≡ p.history.spare
          → MayFollow kinds.Work t p (record p { vouchers = ds2; frames = fs2; history = h2 })
      lost_is apart ds2 desks_are o orphan ls more fs2 put h2 noted less = follows_by p (record p { vouchers = ds2; frames = fs2; history = h2 }) false kinds.Work t (lost (plain_of p) t f q queue) refl
          (stepped_is p t r task ds2 (un_queued X queue) is_desks refl fs2 (Some (letting f (orphaned (set_task (plain_of p).tasks t (un_queued X queue)) q.voucher)))
          (put ∙ ap (λ ls. with_frame_of (with_frame_of p.frames t None) t (Some (record f { lets = ls }))) lets_are) h2 (entries.Lost t) noted less)
          (λ m st. let w = working p t kinds.Work tt r task next f own m st in let g = w.0 in let a = w.1.at_work in firsts m g w.1 _ (λ s rest e one others.
          (do_lost m t g s rest, lost_here false m g s rest w.1 e, w.1.next, lost_stands p.scenario (plain_of p) m t a.positive a.inside a.stands f g a.own a.task a.frame a.idle lost_room apart q queue s rest e one others)))
        where
          is_desks : ds2 ≡ set_task p.vouchers t (desk_of (un_queued X queue))
          is_desks = desks_are ∙ ap (λ (d : Desk). set_task p.vouchers t (record d { queue = queue })) (own_desk p t r task)

          lets_are : ls ≡ f.lets ++ orphaned (set_task (plain_of p).tasks t (un_queued X queue)) q.voucher
          lets_are = more ∙ (ap (λ o. f.lets ++ option_items o) orphan ∙ ap (λ ds. f.lets ++ option_items (desks.orphaned ds q.voucher)) (sym (desks_then p t r task (un_queued X queue) ds2 is_desks)))

    pub message_room : IsSome (slice_get (desk p.vouchers t).queue 0) → 1 ≤ p.history.spare
    message_room there = some_first (desk p.vouchers t).queue _ there (λ q queue e. lost_room q queue e)

    pub lost_follows : IsSome (slice_get (desk p.vouchers t).queue 0) → AllApart p.values → (ds2 : List Desk) → ds2 ≡ set_task p.vouchers t (record (desk p.vouchers t) { queue = drop 1 (desk p.vouchers t).queue })
        → (taken : Taken) → Some taken ≡ taken_from ds2 (slice_get (desk p.vouchers t).queue 0) → (ls : List KeyIndex) → ls ≡ f.lets ++ option_items taken.orphan
        → (fs2 : List declared.Working) → fs2 ≡ with_frame_of (with_frame_of p.frames t None) t (Some (record f { lets = ls }))
        → (h2 : Entries) → h2.entries ≡ p.history.entries ++ entries.Lost t ∷ [] → h2.spare + 1 ≡ p.history.spare
        → MayFollow kinds.Work t p (record p { vouchers = ds2; frames = fs2; history = h2 })
    lost_follows there apart ds2 desks_are taken is_taken ls more fs2 put h2 noted less = some_first (desk p.vouchers t).queue _ there (λ q queue e.
        lost_is q queue e apart ds2 (desks_are ∙ ap (λ qs. set_task p.vouchers t (record (desk p.vouchers t) { queue = qs })) (ap (drop 1) e))
        taken.orphan (orphan q queue (is_taken ∙ ap (λ qs. taken_from ds2 (slice_get qs 0)) e)) ls more fs2 put h2 noted less)
      where
        orphan : (q : Message) (queue : List Message) → Some taken ≡ Some (record { sender = q.sender; id = q.id; orphan = desks.orphaned ds2 q.voucher }) → taken.orphan ≡ desks.orphaned ds2 q.voucher
        orphan q queue e = let same : taken ≡ record { sender = q.sender; id = q.id; orphan = desks.orphaned ds2 q.voucher } = cc in ap (λ (x : Taken). x.orphan) same

    -- Nothing.

    module _ (empty : slice_get (desk p.vouchers t).queue 0 ≡ None) where
      left_here : (want : Bool) (m : Machine) (g : machine.Frame) → W m g → event p.scenario want m t ≡ Some (do_left m t g)
      left_here want m g w = unnamed_here want m g w ∙ ap (λ qs. Some (exit_queue m t g qs))
          (none_either p.values X.queue (tasked m t).queue (ap (λ (d : Desk). d.queue) (sym (own_desk p t r task)) ∙ none_left (desk p.vouchers t).queue empty) (queue_now m g w))

      pub left_room : 1 ≤ p.history.spare
      left_room = some_working p t kinds.Work tt r task next f own _ (λ m g w.
          room_by p.scenario (plain_of p) m (do_left m t g) t false (entries.Call t (tasked (frames.with_frame m t (frames.closed (record g { answered = true }))) t).begun words.Exit replies.Done) w.state (left_here false m g w) refl refl)

      pub left_follows : (fs2 : List declared.Working) → fs2 ≡ with_frame_of (with_frame_of p.frames t None) t (closed (record f { answered = true }))
          → (h2 : Entries) (number : ℕ) → number ≡ begun_of p.frames t → h2.entries ≡ p.history.entries ++ entries.Call t number words.Exit replies.Done ∷ [] → h2.spare + 1 ≡ p.history.spare
          → MayFollow kinds.Work t p (record p { frames = fs2; history = h2 })
      left_follows fs2 put h2 number is_number noted less = follows_by p (record p { frames = fs2; history = h2 }) false kinds.Work t (left (plain_of p) t f) refl
          (stepped_is p t r task p.vouchers X same_desks refl fs2 (closed (record f { answered = true })) put h2 (entries.Call t X.begun words.Exit replies.Done)
          (noted ∙ ap (λ n. p.history.entries ++ entries.Call t n words.Exit replies.Done ∷ []) (is_number ∙ sym (own_begun p t r task))) less)
          (λ m st. let w = working p t kinds.Work tt r task next f own m st in let g = w.0 in let a = w.1.at_work in (
            do_left m t g,
            left_here false m g w.1,
            w.1.next,
            left_stands p.scenario (plain_of p) m t a.positive a.inside a.stands f g a.own a.task a.frame a.idle left_room (formless m g w.1)
                (ap (nth_call p.scenario t) (own_begun p t r task) ∙ is),
          ))
        where
          same_desks : p.vouchers ≡ set_task p.vouchers t (desk_of X)
          same_desks = sym (ap (λ (d : Desk). set_task p.vouchers t d) (sym (own_desk p t r task)) ∙ put_same p t r task)
