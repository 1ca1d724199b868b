-- Where a scenario ends in exits, all is given back at its end.
use Rattle.std.proofs.Common.{◌≡◌, ℕ, zero, suc, ◌+◌, ◌<◌, ◌≤◌, Bool, List, [], ◌∷◌, refl, true, false, ◌&&◌, arith, sym, ap, ◌∙◌, subst, length, reverse, get_or, Some, None, Option, inl, inr}
use Rattle.std.specs.Prelude.{if◌then◌else◌, ◌==◌, nat_lt}
use Rattle.std.specs.List.{list_all, sum_by}
use Rattle.vch_model.specs.declared.call.Call.{Call}
use Rattle.vch_model.specs.declared.call.Call.TheVariants as calls
use Rattle.vch_model.specs.declared.call.Line.{Line}
use Rattle.vch_model.specs.declared.call.Word.{Word}
use Rattle.vch_model.specs.declared.entry.Entry.{Entry}
use Rattle.vch_model.specs.declared.entry.Entry.TheVariants as entries
use Rattle.vch_model.specs.declared.entry.Reply.{Reply}
use Rattle.vch_model.specs.declared.lists.Scenario.{Scenario}
use Rattle.vch_model.specs.After.{is_want, store_after_call, store_after_line, lost, store_after, store_of}
use Rattle.vch_model.specs.Legal.{LegalPast, CanFollow, Answers, IsAnswer, EachTask, Whole, is_exit, may_want}
use Rattle.vch_model.specs.Lines.{is_task, lines_of, line_at, calls_in, phases_in, call_of_phase}
use Rattle.vch_model.specs.Store.{Store, Member, Named, Message, Alive, nobody, member, is_empty, has_nothing, without_name}
use Rattle.vch_legal.specs.GivenBack.{EndsInExits, AllGivenBack}
use Rattle.vch_legal.proofs.facts.Choices.{cases_bool, both_ways, and_left, and_right, number_eq}
use Rattle.vch_legal.proofs.tasks.TaskItems.{set_keeps}
use Rattle.vch_legal.proofs.store.AsManyTasks.{as_many_tasks}
use Rattle.vch_legal.proofs.values.NothingHeld.{none_live}
use Rattle.vch_legal.proofs.lines.LastPhase.{IsExitAt, exit_at, last_lines, last_line}
use Rattle.vch_legal.proofs.sums.Conservation.{task_range}
use Rattle.vch_legal.proofs.sums.Ledgers.{charges_are_kept}

-- an exit is answered where its task has nothing left
exit_answered : (sc : Scenario) (past : List Entry) (s : Store) (t : ℕ) (call : Call) (reply : Reply)
    → is_exit call ≡ true
    → IsAnswer sc past s t call reply → has_nothing (member s t) ≡ true
exit_answered sc past s t call reply e (inl (other, r, l)) = absurd (both_ways e other)
exit_answered sc past s t call reply e (inr (inl (r, w))) = absurd (no_want call e w)
  where
    no_want : (call : Call) → is_exit call ≡ true → may_want sc past s t call ≡ true → ⊥
    no_want calls.Exit e w = cc
    no_want (calls.Create bytes) e w = cc
    no_want (calls.GiveUp name) e w = cc
    no_want (calls.Extract name key) e w = cc
    no_want (calls.Recipes name) e w = cc
    no_want (calls.Send to moving name id) e w = cc
    no_want calls.Recv e w = cc
    no_want (calls.Extern name adding n) e w = cc
    no_want (calls.Charge name n) e w = cc
    no_want calls.Ledger e w = cc
    no_want calls.Assertions e w = cc
    no_want calls.Live e w = cc
exit_answered sc past s t call reply e (inr (inr (exit, nothing, done))) = nothing

-- and leaves the store
exit_leaves : (sc : Scenario) (s : Store) (t : ℕ) (call : Call) → is_exit call ≡ true → store_after_call sc s t call ≡ s
exit_leaves sc s t calls.Exit e = refl
exit_leaves sc s t (calls.Create bytes) e = cc
exit_leaves sc s t (calls.GiveUp name) e = cc
exit_leaves sc s t (calls.Extract name key) e = cc
exit_leaves sc s t (calls.Recipes name) e = cc
exit_leaves sc s t (calls.Send to moving name id) e = cc
exit_leaves sc s t calls.Recv e = cc
exit_leaves sc s t (calls.Extern name adding n) e = cc
exit_leaves sc s t (calls.Charge name n) e = cc
exit_leaves sc s t calls.Ledger e = cc
exit_leaves sc s t calls.Assertions e = cc
exit_leaves sc s t calls.Live e = cc

-- a call that is answered in the current phase
record Answered (sc : Scenario) (past : List Entry) (s : Store) (t n : ℕ) (reply : Reply) : Type 0 where
  line : ℕ × Line
  there : line_at sc t n ≡ Some line
  phase : line.0 ≡ phases_in past + 1
  answer : IsAnswer sc past s t line.1.call reply

answered : (sc : Scenario) (past : List Entry) (s : Store) (t n : ℕ) (word : Word) (reply : Reply)
    → CanFollow sc past s (entries.Call t n word reply) → Answered sc past s t n reply
answered sc past s t n word reply f = of_line (line_at sc t (calls_in past t + 1)) (ap (line_at sc t) f.0) f.1
  where
    of_line : (o : Option (ℕ × Line)) → line_at sc t n ≡ o
        → Answers sc past s t (call_of_phase (phases_in past + 1) o) word reply → Answered sc past s t n reply
    of_line None g a = absurd a
    of_line (Some l) g a = by_phase (l.0 == phases_in past + 1) refl a
      where
        by_phase : (b : Bool) → (l.0 == phases_in past + 1) ≡ b
            → Answers sc past s t (if b then Some l.1.call else None) word reply → Answered sc past s t n reply
        by_phase true e a = record { line = l; there = g; phase = number_eq l.0 (phases_in past + 1) e; answer = a.1 }
        by_phase false e a = absurd a

-- in the last phase it is an exit
abbrev InLast : Scenario → List Entry → Type 0
InLast sc past = length sc.phases ≤ phases_in past + 1

is_last_exit : (sc : Scenario) (past : List Entry) (s : Store) (t n : ℕ) (reply : Reply) → EndsInExits sc
    → InLast sc past
    → (a : Answered sc past s t n reply) → is_exit a.line.1.call ≡ true
is_last_exit sc past s t n reply h last a =
    let x : IsExitAt (length sc.phases) a.line = exit_at sc t n a.line h a.there in
    x.1 (both _ _ _ x.0 last a.phase)
  where
    both : (l c p : ℕ) → l ≤ c → c ≤ p → l ≡ p → l ≡ c
    both l c p h k e = omega arith

-- what an answer in the last phase leaves
last_leaves : (sc : Scenario) (past : List Entry) (s : Store) (t n count : ℕ) (word : Word) (reply : Reply)
    → (a : Answered sc past s t n reply) → is_exit a.line.1.call ≡ true
    → store_after sc count s (entries.Call t n word reply) ≡ s
last_leaves sc past s t n count word reply a e =
    by_want (is_want reply) (store_after_line sc s t (line_at sc t n))
    (ap (store_after_line sc s t) a.there ∙ exit_leaves sc s t a.line.1.call e)
  where
    by_want : (b : Bool) (o : Store) → o ≡ s → (if b then s else o) ≡ s
    by_want true o g = refl
    by_want false o g = g

-- what a task has that has answered all its calls
record Over (sc : Scenario) (past : List Entry) (t : ℕ) : Type 0 where
  nothing : has_nothing (member (store_of sc past) t) ≡ true
  last : InLast sc past

empty_is : {A : Type 0} (xs : List A) → is_empty xs ≡ true → xs ≡ []
empty_is [] e = refl
empty_is (x ∷ xs) e = cc

-- what another entry gives up
gone_nothing : (m : Member) (name : ℕ) → has_nothing m ≡ true
    → has_nothing (record m { names = without_name m.names name }) ≡ true
gone_nothing m name h = by_names m.names (and_left (is_empty m.names) (is_empty m.queue) h)
  where
    by_names : (names : List Named) → is_empty names ≡ true → (is_empty (without_name names name) && is_empty m.queue)
        ≡ true
    by_names [] e = and_right (is_empty m.names) (is_empty m.queue) h
    by_names (n ∷ names) e = cc

lost_nothing : (s : Store) (t u : ℕ) (queue : List Message) → (member s u).queue ≡ queue
    → has_nothing (member s t) ≡ true → has_nothing (member (lost s u queue) t) ≡ true
lost_nothing s t u [] e h = h
lost_nothing s t u (q ∷ queue) e h =
    set_keeps (λ (x : Member). has_nothing x ≡ true) s.tasks u t (record (member s u) { queue = queue }) nobody
    (λ k. absurd
    (some_message (member s u).queue e (and_right (is_empty (member s u).names) (is_empty (member s u).queue) k))) h
  where
    some_message : (xs : List Message) → xs ≡ q ∷ queue → is_empty xs ≡ true → ⊥
    some_message [] e k = cc
    some_message (x ∷ xs) e k = cc

-- a task's last answer
own_over : (sc : Scenario) (t n : ℕ) (word : Word) (reply : Reply) (past : List Entry) → EndsInExits sc
    → is_task sc t ≡ true
    → CanFollow sc past (store_of sc past) (entries.Call t n word reply) → calls_in past t + 1 ≡ length (lines_of sc t)
    → Over sc (entries.Call t n word reply ∷ past) t
own_over sc t n word reply past h task f e =
    let a : Answered sc past (store_of sc past) t n reply = answered sc past (store_of sc past) t n word reply f in
    let at_end : a.line.0 ≡ length sc.phases = last_line sc t a.line h task
    (subst (λ k. line_at sc t k ≡ Some a.line) (f.0 ∙ e) a.there) in
    let last : InLast sc past = reached _ _ _ at_end a.phase in
    let exit : is_exit a.line.1.call ≡ true = is_last_exit sc past (store_of sc past) t n reply h last a in
    record {
      nothing = subst (λ (s : Store). has_nothing (member s t) ≡ true)
          (sym (last_leaves sc past (store_of sc past) t n (length past) word reply a exit))
          (exit_answered sc past (store_of sc past) t a.line.1.call reply exit a.answer);
      last = last;
    }
  where
    reached : (l c p : ℕ) → l ≡ c → l ≡ p → c ≤ p
    reached l c p e g = omega arith

-- another task's answer in the last phase
other_over : (sc : Scenario) (t u n : ℕ) (word : Word) (reply : Reply) (past : List Entry) → EndsInExits sc
    → CanFollow sc past (store_of sc past) (entries.Call u n word reply) → Over sc past t
    → Over sc (entries.Call u n word reply ∷ past) t
other_over sc t u n word reply past h f o =
    let a : Answered sc past (store_of sc past) u n reply = answered sc past (store_of sc past) u n word reply f in
    record {
      nothing = subst (λ (s : Store). has_nothing (member s t) ≡ true)
          (sym (last_leaves sc past (store_of sc past) u n (length past) word reply a
          (is_last_exit sc past (store_of sc past) u n reply h o.last a))) o.nothing;
      last = o.last;
    }

-- a task that has answered all its calls has nothing
over_now : (sc : Scenario) (t : ℕ) → EndsInExits sc → is_task sc t ≡ true → (past : List Entry) → LegalPast sc past
    → calls_in past t ≡ length (lines_of sc t) → Over sc past t
over_now sc t h task [] legal e = absurd (none _ _ e (last_lines sc t h task).some)
  where
    none : (a n : ℕ) → 0 ≡ n → a < n → ⊥
    none a n e l = absurd (omega arith)
over_now sc t h task (entries.Call u n word reply ∷ past) legal e =
    cases_bool (u == t) (Over sc (entries.Call u n word reply ∷ past) t)
    (λ own. subst (λ k. CanFollow sc past (store_of sc past) (entries.Call k n word reply)
    → Over sc (entries.Call k n word reply ∷ past) t) (sym (number_eq u t own))
    (λ f. own_over sc t n word reply past h task f (rw own at e)) legal.1)
    (λ other. other_over sc t u n word reply past h legal.1
    (over_now sc t h task past legal.0 (no_more _ _ (rw other at e))))
  where
    no_more : (a n : ℕ) → a + 0 ≡ n → a ≡ n
    no_more a n e = omega arith
over_now sc t h task (entries.Made k x ∷ past) legal e =
    let o : Over sc past t = over_now sc t h task past legal.0 e in record { nothing = o.nothing; last = o.last }
over_now sc t h task (entries.Released k ∷ past) legal e =
    let o : Over sc past t = over_now sc t h task past legal.0 e in record { nothing = o.nothing; last = o.last }
over_now sc t h task (entries.Gone u name ∷ past) legal e =
    let o : Over sc past t = over_now sc t h task past legal.0 e in
    record {
      nothing = set_keeps (λ (x : Member). has_nothing x ≡ true) (store_of sc past).tasks u t _ nobody
          (gone_nothing (member (store_of sc past) u) name) o.nothing;
      last = o.last;
    }
over_now sc t h task (entries.Lost u ∷ past) legal e =
    let o : Over sc past t = over_now sc t h task past legal.0 e in
    record {
      nothing = lost_nothing (store_of sc past) t u (member (store_of sc past) u).queue refl o.nothing;
      last = o.last;
    }
over_now sc t h task (entries.Phase ∷ past) legal e =
    let o : Over sc past t = over_now sc t h task past legal.0 e in
    record { nothing = o.nothing; last = further _ _ o.last }
  where
    further : (a b : ℕ) → a ≤ b → a ≤ b + 1
    further a b h = omega arith

-- each task, by its place
all_nothing : (tasks : List Member) → ((i : ℕ) → i < length tasks → has_nothing (get_or tasks i nobody) ≡ true)
    → list_all has_nothing tasks ≡ true
all_nothing [] h = refl
all_nothing (m ∷ tasks) h = both _ _ (h 0 (omega arith)) (all_nothing tasks (λ i l. h (suc i) (omega arith)))
  where
    both : (a b : Bool) → a ≡ true → b ≡ true → (a && b) ≡ true
    both a b e g = grind arith

each_of : (n : ℕ) (P : ℕ → Type 0) → EachTask n P → (t : ℕ) → 1 ≤ t → t ≤ n → P t
each_of zero P h t a b = absurd (omega arith)
each_of (suc n) P h t a b =
    cases_bool (t == suc n) (P t)
    (λ here. subst P (sym (number_eq t (suc n) here)) h.1)
    (λ other. each_of n P h.0 t a (earlier t n b other))
  where
    earlier : (t n : ℕ) → t ≤ suc n → (t == suc n) ≡ false → t ≤ n
    earlier t n b e = grind arith

-- a sum over no values
no_sum : (f : Alive → ℕ) (live : List Alive) → live ≡ [] → sum_by f live ≡ 0
no_sum f [] e = refl
no_sum f (l ∷ live) e = cc

pub all_given_back : (sc : Scenario) (history : List Entry) → EndsInExits sc → Whole history sc
    → AllGivenBack sc (reverse history)
all_given_back sc history h w =
    record {
      nothing = nothing;
      live = live;
      held = λ t. no_sum _ (store_of sc past).live live;
      out = λ t. no_sum _ (store_of sc past).live live;
      ledgers = charges_are_kept sc past w.legal ∙ over _ _ (no_sum _ (store_of sc past).live live);
    }
  where
    past : List Entry
    past = reverse history

    over : (a b : ℕ) → b ≡ 0 → a + b ≡ a
    over a b e = omega arith

    nothing : (t : ℕ) → is_task sc t ≡ true → has_nothing (member (store_of sc (reverse history)) t) ≡ true
    nothing t task = (over_now sc t h task (reverse history) w.legal
        (each_of (length sc.flags) (λ u. calls_in (reverse history) u ≡ length (lines_of sc u)) w.ended.calls t
        (task_range sc t task).0 (task_range sc t task).1)).nothing

    numbered : (i n : ℕ) → i < n → (nat_lt 0 (suc i) && nat_lt (suc i) (n + 1)) ≡ true
    numbered i n l = grind arith

    live : (store_of sc (reverse history)).live ≡ []
    live = none_live (store_of sc (reverse history)) (store_of sc (reverse history)).live
        (all_nothing (store_of sc (reverse history)).tasks
        (λ i l. nothing (suc i) (numbered i (length sc.flags)
        (subst (λ n. i < n) (as_many_tasks sc (reverse history)) l)))) w.ended.held
