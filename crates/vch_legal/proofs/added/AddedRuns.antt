-- A run of a scenario is one of the scenario with one line more, with the same states, while the last phase has not ended.
use Rattle.std.proofs.Common.{◌≡◌, ◌≢◌, ℕ, ◌+◌, ◌<◌, ◌≤◌, ◌&&◌, Bool, true, false, not, List, [], ◌∷◌, refl, arith, sym, ap, ◌∙◌, subst, length, Some, None, Option}
use Rattle.std.specs.Prelude.{if◌then◌else◌, is_some, nat_lt}
use Rattle.std.specs.List.{list_all}
use Rattle.vch_base.specs.declared.kind.Kind.{Kind}
use Rattle.vch_base.specs.declared.kind.Kind.TheVariants as kinds
use Rattle.vch_model.specs.declared.call.Call.{Call}
use Rattle.vch_model.specs.declared.call.Call.TheVariants as calls
use Rattle.vch_model.specs.declared.call.Line.{Line}
use Rattle.vch_model.specs.declared.entry.Entry.{Entry}
use Rattle.vch_model.specs.declared.entry.Entry.TheVariants as entries
use Rattle.vch_model.specs.declared.entry.Reply.{Reply}
use Rattle.vch_model.specs.declared.lists.Scenario.{Scenario}
use Rattle.vch_model.specs.After.{store_of}
use Rattle.vch_model.specs.Legal.{LegalPast}
use Rattle.vch_model.specs.Lines.{is_task, phases_in, lines_until}
use Rattle.vch_machine.specs.State.{Handles, Place, Claim, Named, Frame, Machine, tasked, with_tasked, seen, start}
use Rattle.vch_machine.specs.Beginning.{begun_one, begin_call, begin_line, do_begin, store_reply}
use Rattle.vch_machine.specs.Events.{event, event_of, frame_event, work_event, phase_event, on_formed, numbers, all_at_rest}
use Rattle.vch_machine.specs.Frames.{noted}
use Rattle.vch_machine.specs.Next.{next_kind, task_next, frame_next, unclaimed_next, lets_next, unanswered_next, nth_call, current}
use Rattle.vch_machine.specs.Making.{do_make}
use Rattle.vch_machine.specs.Placing.{do_place}
use Rattle.vch_machine.specs.Working.{do_work}
use Rattle.vch_machine.specs.Schedules.{Move, happens, run, run_from_start, has_ended}
use Rattle.vch_machine.proofs.CallerLemmas.{leaves_of}
use Rattle.vch_legal.specs.Added.{with_added}
use Rattle.vch_legal.specs.Tie.{Ties}
use Rattle.vch_legal.proofs.added.AddedLines.{call_kept, phases_added, until_more, until_same}
use Rattle.vch_legal.proofs.added.AddedPasts.{Lined, legal_lined, same_reply, same_store, past_added}
use Rattle.vch_legal.proofs.runs.Runs.{start_stands, happens_stands}

some_eq : {A : Type 0} {x y : A} → Some x ≡ Some y → x ≡ y
some_eq g = cc

-- what is next without a call is next with any
next_with : (version : ℕ) (names : List Named) (f : Frame) (call : Option Call) (r : Option Place) (kind : Kind)
    → frame_next version names f None r ≡ Some kind → frame_next version names f call r ≡ Some kind
next_with version names f call (Some p) kind e = e
next_with version names f call None kind e = by_claim f.claim e
  where
    by_answered : (b : Bool) → unanswered_next version names f None b ≡ Some kind → unanswered_next version names f call b ≡ Some kind
    by_answered true g = absurd (cc)
    by_answered false g = absurd (cc)

    by_lets : (lets : List Place) → lets_next version names f None lets ≡ Some kind → lets_next version names f call lets ≡ Some kind
    by_lets [] g = by_answered f.answered g
    by_lets (p ∷ rest) g = g

    by_claim : (c : Option Claim) → unclaimed_next version names f None c ≡ Some kind → unclaimed_next version names f call c ≡ Some kind
    by_claim None g = by_lets f.lets g
    by_claim (Some c) g = g

module _ (sc : Scenario) (line : Line) (some : 1 ≤ length sc.phases) where
  -- an event on the call is the same where the call is
  formed_with : (g h : Handles → Call → Option Machine) (n : Machine) (v : Option Handles) (a b : Option Call)
      → ((w : Handles) (c : Call) → g w c ≡ h w c) → ((c : Call) → a ≡ Some c → b ≡ Some c) → on_formed g v a ≡ Some n
      → on_formed h v b ≡ Some n
  formed_with g h n None a b same kept e = absurd (cc)
  formed_with g h n (Some v) None b same kept e = absurd (cc)
  formed_with g h n (Some v) (Some c) b same kept e =
      subst (λ o. on_formed h (Some v) o ≡ Some n) (sym (kept c refl)) (sym (same v c) ∙ e)

  no_call : (g : Handles → Call → Option Machine) (n : Machine) (v : Option Handles) → on_formed g v None ≡ Some n → ⊥
  no_call g n None e = cc
  no_call g n (Some v) e = cc

  work_with : (n m : Machine) (t : ℕ) (f : Frame) (a b : Option Call) → ((c : Call) → a ≡ Some c → b ≡ Some c)
      → work_event sc.version m t f a ≡ Some n → work_event sc.version m t f b ≡ Some n
  work_with n m t f None b kept e = absurd (no_call (λ v c. Some (do_work sc.version m t f v c)) n f.forming e)
  work_with n m t f (Some c) b kept e = subst (λ o. work_event sc.version m t f o ≡ Some n) (sym (kept c refl)) e

  kept_call : (t n : ℕ) (c : Call) → nth_call sc t n ≡ Some c → nth_call (with_added sc line) t n ≡ Some c
  kept_call t n c e = call_kept sc line t n c some e

  make_same : (want : Bool) (m : Machine) (t : ℕ) (f : Frame) (v : Handles) (c : Call)
      → do_make sc want m t f v c ≡ do_make (with_added sc line) want m t f v c
  make_same want m t f v (calls.Create bytes) = refl
  make_same want m t f v (calls.Send to moving name id) = refl
  make_same want m t f v calls.Recv = refl
  make_same want m t f v (calls.GiveUp name) = refl
  make_same want m t f v (calls.Extract name key) = refl
  make_same want m t f v (calls.Recipes name) = refl
  make_same want m t f v (calls.Extern name adding n) = refl
  make_same want m t f v (calls.Charge name n) = refl
  make_same want m t f v calls.Ledger = refl
  make_same want m t f v calls.Assertions = refl
  make_same want m t f v calls.Live = refl
  make_same want m t f v calls.Exit = refl

  place_same : (want : Bool) (m : Machine) (t : ℕ) (f : Frame) (v : Handles) (c : Call)
      → do_place sc want m t f v c ≡ do_place (with_added sc line) want m t f v c
  place_same want m t f v (calls.Create bytes) = refl
  place_same want m t f v (calls.Send to moving name id) = refl
  place_same want m t f v calls.Recv = refl
  place_same want m t f v (calls.GiveUp name) = refl
  place_same want m t f v (calls.Extract name key) = refl
  place_same want m t f v (calls.Recipes name) = refl
  place_same want m t f v (calls.Extern name adding n) = refl
  place_same want m t f v (calls.Charge name n) = refl
  place_same want m t f v calls.Ledger = refl
  place_same want m t f v calls.Assertions = refl
  place_same want m t f v calls.Live = refl
  place_same want m t f v calls.Exit = refl

  frame_same : (want : Bool) (m n : Machine) (t : ℕ) (f : Frame) (kind : Kind) → frame_event sc want m t f kind ≡ Some n
      → frame_event (with_added sc line) want m t f kind ≡ Some n
  frame_same want m n t f kinds.Begin e = e
  frame_same want m n t f kinds.Work e =
      work_with n m t f (current sc m t) (current (with_added sc line) m t) (kept_call t (tasked m t).begun) e
  frame_same want m n t f kinds.Make e =
      formed_with _ _ n f.forming (current sc m t) (current (with_added sc line) m t) (make_same want m t f)
      (kept_call t (tasked m t).begun) e
  frame_same want m n t f kinds.Refer e =
      formed_with _ _ n f.forming (current sc m t) (current (with_added sc line) m t) (λ v c. refl)
      (kept_call t (tasked m t).begun) e
  frame_same want m n t f kinds.Place e =
      formed_with _ _ n f.forming (current sc m t) (current (with_added sc line) m t) (place_same want m t f)
      (kept_call t (tasked m t).begun) e
  frame_same want m n t f kinds.LetGo e = e
  frame_same want m n t f kinds.Ask e = e
  frame_same want m n t f kinds.Recheck e = e
  frame_same want m n t f kinds.Phase e = e

  begin_same : (want : Bool) (m : Machine) (t : ℕ) (c : Call) (reply : Reply)
      → begin_call sc want m t c reply ≡ begin_call (with_added sc line) want m t c reply
  begin_same want m t (calls.Create bytes) reply = refl
  begin_same want m t (calls.Send to moving name id) reply = refl
  begin_same want m t calls.Recv reply = refl
  begin_same want m t (calls.GiveUp name) reply = refl
  begin_same want m t (calls.Extract name key) reply = refl
  begin_same want m t (calls.Recipes name) reply = refl
  begin_same want m t (calls.Extern name adding n) reply = refl
  begin_same want m t (calls.Charge name n) reply = refl
  begin_same want m t calls.Ledger reply = refl
  begin_same want m t calls.Assertions reply = refl
  begin_same want m t calls.Live reply = refl
  begin_same want m t calls.Exit reply = refl

  line_same : (want : Bool) (m n : Machine) (t : ℕ) (a : Option Call) → Lined sc m.past → nth_call sc t ((tasked m t).begun + 1) ≡ a
      → begin_line sc want m t a ≡ Some n → do_begin (with_added sc line) want m t ≡ Some n
  line_same want m n t None h g e = absurd (cc)
  line_same want m n t (Some c) h g e =
      ap (begin_line (with_added sc line) want m t) (kept_call t ((tasked m t).begun + 1) c g)
      ∙ (ap (λ r. Some (begin_call (with_added sc line) want (with_tasked m t (begun_one (tasked m t))) t c r))
      (same_reply sc line some m.past (seen m) t c h)
      ∙ (ap Some (sym (begin_same want (with_tasked m t (begun_one (tasked m t))) t c (store_reply sc m t c))) ∙ e))

  of_same : (want : Bool) (m n : Machine) (t : ℕ) (frame : Option Frame) (kind : Option Kind) → Lined sc m.past
      → task_next sc (phases_in m.past) t (tasked m t) frame ≡ kind → event_of sc want m t frame kind ≡ Some n
      → event_of (with_added sc line) want m t frame (task_next (with_added sc line) (phases_in m.past) t (tasked m t) frame) ≡ Some n
  of_same want m n t frame None h k e = absurd (none frame e)
    where
      none : (o : Option Frame) → event_of sc want m t o None ≡ Some n → ⊥
      none None g = cc
      none (Some f) g = cc
  of_same want m n t None (Some kind) h k e =
      subst (λ o. event_of (with_added sc line) want m t None o ≡ Some n) (sym begins)
      (line_same want m n t (nth_call sc t ((tasked m t).begun + 1)) h refl e)
    where
      less : (a b c : ℕ) → nat_lt a b ≡ true → b ≤ c → nat_lt a c ≡ true
      less a b c g l = grind arith

      is_less : (b : Bool) → (if b then Some kinds.Begin else None) ≡ Some kind → b ≡ true
      is_less true g = refl
      is_less false g = absurd (cc)

      begins : task_next (with_added sc line) (phases_in m.past) t (tasked m t) None ≡ Some kinds.Begin
      begins = ap (λ b. if b then Some kinds.Begin else None)
          (less (tasked m t).begun (lines_until sc (phases_in m.past + 1) t) _
          (is_less (nat_lt (tasked m t).begun (lines_until sc (phases_in m.past + 1) t)) k)
          (until_more sc line (phases_in m.past + 1) t some))
  of_same want m n t (Some f) (Some kind) h k e =
      subst (λ o. event_of (with_added sc line) want m t (Some f) o ≡ Some n)
      (sym (by_call (nth_call sc t (tasked m t).begun) refl k)) (frame_same want m n t f kind e)
    where
      by_call : (a : Option Call) → nth_call sc t (tasked m t).begun ≡ a
          → frame_next sc.version (tasked m t).names f a f.receipt ≡ Some kind
          → frame_next sc.version (tasked m t).names f (nth_call (with_added sc line) t (tasked m t).begun) f.receipt ≡ Some kind
      by_call None g i = next_with sc.version (tasked m t).names f _ f.receipt kind i
      by_call (Some c) g i =
          ap (λ o. frame_next sc.version (tasked m t).names f o f.receipt) (kept_call t (tasked m t).begun c g) ∙ i

  event_same : (want : Bool) (m n : Machine) (t : ℕ) → Lined sc m.past → event sc want m t ≡ Some n
      → event (with_added sc line) want m t ≡ Some n
  unfolding event
  event_same want m n t h e = by_task (is_task sc t) e
    where
      by_task : (b : Bool) → (if b then event_of sc want m t (tasked m t).frame (next_kind sc m t) else None) ≡ Some n
          → (if b then event_of (with_added sc line) want m t (tasked m t).frame (next_kind (with_added sc line) m t) else None) ≡ Some n
      by_task true g = of_same want m n t (tasked m t).frame (next_kind sc m t) h refl g
      by_task false g = absurd (cc)

  -- The end of a phase that is not the last.

  all_same : (f g : ℕ → Bool) (ts : List ℕ) → ((t : ℕ) → f t ≡ g t) → list_all f ts ≡ list_all g ts
  all_same f g [] h = refl
  all_same f g (t ∷ ts) h = ap (λ b. b && list_all f ts) (h t) ∙ ap (λ b. g t && b) (all_same f g ts h)

  rest_same : (m : Machine) → phases_in m.past + 1 < length sc.phases → all_at_rest (with_added sc line) m ≡ all_at_rest sc m
  rest_same m early = all_same _ _ (numbers (length sc.flags)) (λ t.
      ap (λ i. not (is_some (tasked m t).frame) && not (nat_lt (tasked m t).begun i))
      (until_same sc line (phases_in m.past + 1) t some early))

  phase_same : (m n : Machine) → phases_in n.past < length sc.phases → phase_event sc m ≡ Some n
      → phase_event (with_added sc line) m ≡ Some n
  unfolding phase_event
  phase_same m n open_ e =
      by_test (all_at_rest sc m && nat_lt (phases_in m.past) (length sc.phases)) refl e
    where
      by_test : (b : Bool) → (all_at_rest sc m && nat_lt (phases_in m.past) (length sc.phases)) ≡ b
          → (if b then Some (noted m entries.Phase) else None) ≡ Some n
          → (if all_at_rest (with_added sc line) m && nat_lt (phases_in m.past) (length (with_added sc line).phases) then Some (noted m entries.Phase) else None) ≡ Some n
      by_test false h g = absurd (cc)
      by_test true h g =
          ap (λ b. if b then Some (noted m entries.Phase) else None)
          (ap (λ b. b && nat_lt (phases_in m.past) (length (with_added sc line).phases))
          (rest_same m (subst (λ (x : Machine). phases_in x.past < length sc.phases) (sym (some_eq g)) open_))
          ∙ (ap (λ i. all_at_rest sc m && nat_lt (phases_in m.past) i) (phases_added sc line) ∙ h)) ∙ g

  -- Runs.

  event_phases : (want : Bool) (m n : Machine) (t : ℕ) → event sc want m t ≡ Some n → phases_in n.past ≡ phases_in m.past
  event_phases want m n t e = (leaves_of sc want t (t + 1) m n (apart t) e).phases
    where
      apart : (t : ℕ) → t + 1 ≢ t
      apart t = λ e. absurd (omega arith)

  phase_phases : (m n : Machine) → phase_event sc m ≡ Some n → phases_in m.past ≤ phases_in n.past
  unfolding phase_event
  phase_phases m n e = by_test (all_at_rest sc m && nat_lt (phases_in m.past) (length sc.phases)) e
    where
      by_test : (b : Bool) → (if b then Some (noted m entries.Phase) else None) ≡ Some n → phases_in m.past ≤ phases_in n.past
      by_test false g = absurd (cc)
      by_test true g = subst (λ (x : Machine). phases_in m.past ≤ phases_in x.past) (some_eq g) (omega arith)

  move_phases : (move : Move) (m n : Machine) → happens sc m move ≡ Some n → phases_in m.past ≤ phases_in n.past
  move_phases (Move.Of t want) m n e = let p = event_phases want m n t e in omega (arith, p)
  move_phases Move.EndPhase m n e = phase_phases m n e

  run_phases : (moves : List Move) (m n : Machine) → run sc moves (Some m) ≡ Some n → phases_in m.past ≤ phases_in n.past
  run_phases [] m n e = subst (λ (x : Machine). phases_in m.past ≤ phases_in x.past) (some_eq e) (omega arith)
  run_phases (move ∷ moves) m n e = by_move (happens sc m move) refl e (λ o. run_phases moves o n)
    where
      by_move : (o : Option Machine) → happens sc m move ≡ o → run sc moves o ≡ Some n
          → ((o : Machine) → run sc moves (Some o) ≡ Some n → phases_in o.past ≤ phases_in n.past) → phases_in m.past ≤ phases_in n.past
      by_move None g i later = absurd (cc)
      by_move (Some o) g i later =
          let a = move_phases move m o g in let b = later o i in omega (arith, a, b)

  move_same : (move : Move) (m n : Machine) → Ties sc m → phases_in n.past < length sc.phases → happens sc m move ≡ Some n
      → happens (with_added sc line) m move ≡ Some n
  move_same (Move.Of t want) m n s open_ e = event_same want m n t (legal_lined sc m.past s.legal) e
  move_same Move.EndPhase m n s open_ e = phase_same m n open_ e

  run_same : (moves : List Move) (m n : Machine) → Ties sc m → phases_in n.past < length sc.phases → run sc moves (Some m) ≡ Some n
      → run (with_added sc line) moves (Some m) ≡ Some n
  run_same [] m n s open_ e = e
  run_same (move ∷ moves) m n s open_ e = by_move (happens sc m move) refl e (λ o t i. run_same moves o n t open_ i)
    where
      by_move : (o : Option Machine) → happens sc m move ≡ o → run sc moves o ≡ Some n
          → ((o : Machine) → Ties sc o → run sc moves (Some o) ≡ Some n → run (with_added sc line) moves (Some o) ≡ Some n)
          → run (with_added sc line) moves (happens (with_added sc line) m move) ≡ Some n
      by_move None g i later = absurd (cc)
      by_move (Some o) g i later =
          let l : phases_in o.past ≤ phases_in n.past = run_phases moves o n i in
          ap (run (with_added sc line) moves) (move_same move m o s (omega (arith, l, open_)) g)
          ∙ later o (happens_stands sc m o move s g) i

not_over : (sc : Scenario) (n : Machine) → has_ended sc n ≡ false → phases_in n.past < length sc.phases
not_over sc n e = below (phases_in n.past) (length sc.phases) e
  where
    below : (a b : ℕ) → not (nat_lt a b) ≡ false → a < b
    below a b h = grind arith

pub run_added : (sc : Scenario) (line : Line) (moves : List Move) (n : Machine) → run_from_start sc moves ≡ Some n
    → has_ended sc n ≡ false → run_from_start (with_added sc line) moves ≡ Some n
run_added sc line moves n e open_ =
    let l : phases_in n.past < length sc.phases = not_over sc n open_ in
    run_same sc line (omega (arith, l)) moves (start sc) n (start_stands sc) l e

pub legal_added : (sc : Scenario) (line : Line) (past : List Entry) → LegalPast sc past → phases_in past < length sc.phases
    → LegalPast (with_added sc line) past
legal_added sc line past legal open_ = past_added sc line (omega (arith, open_)) past open_ legal

pub store_added : (sc : Scenario) (line : Line) (past : List Entry) → LegalPast sc past → phases_in past < length sc.phases
    → store_of (with_added sc line) past ≡ store_of sc past
store_added sc line past legal open_ = same_store sc line (omega (arith, open_)) past (legal_lined sc past legal)
