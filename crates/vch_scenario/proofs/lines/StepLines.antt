-- One line behind what was read, both ways.
use Rattle.std.proofs.Common.{◌≡◌, ◌≢◌, ℕ, ◌+◌, ◌<◌, ◌≤◌, min, true, false, cond, eqb, ltb, List, [], ◌∷◌, ◌++◌, length, Option, Some, None, Result, Ok, Err, refl, sym, ap, subst, ◌∙◌, arith, ◌⊎◌, inl, inr, codes}
use Rattle.std.proofs.lemmas.Grind.{common_steps}
use Rattle.vch_model.specs.declared.call.Call.{Call}
use Rattle.vch_model.specs.declared.call.Line.{Line}
use Rattle.vch_base.specs.declared.flags.Flags.{Flags}
use Rattle.vch_scenario.specs.declared.fault.Why.{Why}
use Rattle.vch_scenario.specs.declared.fault.Why.TheVariants.{Form, Range, Limit}
use Rattle.vch_scenario.specs.declared.draft.Draft.{Draft}
use Rattle.vch_scenario.specs.declared.draft.Place.{Place}
use Rattle.vch_scenario.specs.declared.draft.Place.TheVariants as places
use Rattle.vch_scenario.specs.Reading.{◌>>=◌, formed}
use Rattle.vch_text.specs.Words.{is_word, front_of}
use Rattle.vch_text.specs.Numbers.{number_of}
use Rattle.vch_text.proofs.CallerLemmas.{word_true, word_same, word_false, spelled_follows, IsRead}
use Rattle.vch_model.specs.Grammar.{top, Item, IsLine, IsSmall, IsNumeral, call_pieces, AreSpelled}
use Rattle.vch_scenario.specs.Calls.{word_is, up_to, version_of, tasks_of, task_of, call_of, line_of}
use Rattle.vch_scenario.specs.declared.task.TaskLine.{TaskLine}
use Rattle.vch_base.specs.declared.limits.TheConstants.{MOST_TASKS, MOST_PHASES, MOST_CALLS}
use Rattle.vch_model.specs.Scenarios.{IsCallOf}
use Rattle.std.proofs.lemmas.Bool.{cases_eq}
use Rattle.vch_scenario.specs.Whole.{FitsAt, step_at, title_of, count_of, task_in, phase_in, first_in, call_in, next_in}
use Rattle.vch_model.specs.Grammar as grammar
use Rattle.vch_scenario.specs.Faults.{MayStand, IsRanged, IsWithin, limit_by, with_item}
use Rattle.vch_scenario.proofs.drafts.Told.{Told, told_bind, told_test}
use Rattle.vch_scenario.proofs.drafts.Formed.{number_told, number_again}
use Rattle.vch_scenario.proofs.lines.CallLines.{IsCallAt, NoCallAt, told_change, call_told, call_again, verdict_small, verdict_large, call_size}
use Rattle.vch_scenario.proofs.lines.CommandLines.{IsCall, verdict}
use Rattle.vch_scenario.proofs.lines.ItemLines.{line_begins, line_front, is_again, is_told_pub, up_to_told, tasks_told, tasks_again, NoCount, IsVersion, IsTitle, version_told, version_again, phase_line, end_line, phase_again, end_again_line, by_bool, up_to_good, up_to_bad}
use Rattle.vch_scenario.proofs.lines.TaskLines.{task_told, task_again, NoTask, IsTask, IsTaskRanged, IsWrittenIn, limit_good, limit_bad, number_good, number_bad}

-- ---- a call line

-- a task among so many, and small numbers
abbrev pub IsAmong : ℕ → Line → Type 0
IsAmong tasks l = (0 < l.task) × (l.task ≤ tasks) × IsSmall l.call

abbrev pub NoLine : ℕ → ℕ → List ℕ → Why → Type 0
NoLine version tasks line why = (why ≡ Form) ⊎ ((why ≡ Range) × (l : Line) × IsLine line (grammar.Calls l) × IsCallOf version l.call × (IsAmong tasks l → ⊥))

abbrev pub IsCallLine : ℕ → ℕ → List ℕ → Line → Type 0
IsCallLine version tasks line l = IsLine line (grammar.Calls l) × IsCallOf version l.call × IsAmong tasks l

abbrev made : ℕ → Call → Line
made t c = record { task = t; call = c }

none_line : (version tasks : ℕ) (line w more : List ℕ) (n : ℕ) (why : Why) → ((c : Call) → IsCall more c → IsLine line (grammar.Calls (made n c))) → NoCallAt version more why → NoLine version tasks line why
none_line version tasks line w more n why spelled h =
    elim h [ inl p ↦ inl p | inr p ↦ inr (p.0, made n p.1, spelled p.1 p.2, p.3, λ s. p.4 s.2) ]

pub line_told : (version tasks : ℕ) → tasks < top → (line : List ℕ) → Told (NoLine version tasks line) (IsCallLine version tasks line) (line_of version tasks line)
unfolding line_of
line_told version tasks few line =
    let Q : Why → Type 0 = NoLine version tasks line in
    let S : Line → Type 0 = IsCallLine version tasks line in
    let f = front_of 32 line in
    told_bind Q (λ k. IsRead top f.0 k) S (formed (number_of top f.0)) _ (number_told Q (inl refl) f.0)
    (λ k r.
    let spelled : (c : Call) → IsCall f.1 c → IsLine line (grammar.Calls (made r.number c)) = λ c h. (f.0, f.1, line_begins line, r.spelled, h) in
    told_bind Q (IsCallAt version f.1) S (call_of version f.1) _ (told_change (NoCallAt version f.1) Q (IsCallAt version f.1) (IsCallAt version f.1) (call_of version f.1) (λ why h. none_line version tasks line f.0 f.1 r.number why spelled h) (λ c h. h) (call_told version f.1))
    (λ c h. told_bind Q (λ x. (x ≡ r.number) × (0 < r.number) × (r.number ≤ tasks)) S (up_to tasks k) _ (up_to_told Q tasks k r.number few r.read (λ large. inr (refl, made r.number c, spelled c h.0, h.1, λ s. large (s.0, s.1))))
    (λ t b. subst (λ (n : ℕ). S (made n c)) (sym b.0) (spelled c h.0, h.1, (b.1, b.2, h.2)))))

line_again : (version tasks : ℕ) (line : List ℕ) (l : Line) → IsLine line (grammar.Calls l) → IsCallOf version l.call → line_of version tasks line ≡ (verdict l.call >>= λ c. up_to tasks (min l.task top) >>= λ t. Ok (made t c))
unfolding line_of
line_again version tasks line l h i =
    rw (line_front line h.0 h.1 h.2 (spelled_follows h.1 (call_pieces l.call) h.4), number_again h.0 l.task h.3, call_again version h.1 l.call h.4 i) refl

pub line_good : (version tasks : ℕ) (line : List ℕ) (l : Line) → tasks < top → IsLine line (grammar.Calls l) → IsCallOf version l.call → IsAmong tasks l → line_of version tasks line ≡ Ok l
line_good version tasks line l few h i s = line_again version tasks line l h i ∙ rw (verdict_small l.call s.2, up_to_good tasks l.task few s.0 s.1) refl

pub line_bad : (version tasks : ℕ) (line : List ℕ) (l : Line) → tasks < top → IsLine line (grammar.Calls l) → IsCallOf version l.call → (IsAmong tasks l → ⊥) → line_of version tasks line ≡ Err Range
line_bad version tasks line l few h i large =
    line_again version tasks line l h i ∙ (
    elim (call_size l.call) [
      | inl s ↦ rw (verdict_small l.call s, up_to_bad tasks l.task few (λ b. large (b.0, b.1, s))) refl
      | inr s ↦ rw (verdict_large l.call s) refl
    ])

-- ---- what a step makes of an item that may stand

pub record Outcome (d : Draft) (i : Item) (r : Result Draft Why) : Type 0 where
  pub good : IsRanged d i → IsWithin d i → r ≡ Ok (with_item d i)
  pub range : (IsRanged d i → ⊥) → r ≡ Err Range
  pub limit : IsRanged d i → (IsWithin d i → ⊥) → r ≡ Err Limit

not_text : (line t : List ℕ) (l : Line) → IsLine line (grammar.Calls l) → line ≡ t → (front_of 32 t).0 ≡ t → (IsNumeral t l.task → ⊥) → ⊥
not_text line t l h e f differ =
    let a = line_front line h.0 h.1 h.2 (spelled_follows h.1 (call_pieces l.call) h.4) in
    let same : h.0 ≡ t = sym (ap (λ (p : List ℕ × List ℕ). p.0) a) ∙ ap (λ x. (front_of 32 x).0) e ∙ f in
    differ (subst (λ (w : List ℕ). IsNumeral w l.task) same h.3)

not_phase : (line : List ℕ) (l : Line) → IsLine line (grammar.Calls l) → is_word line (codes "phase") ≡ false
unfolding front_of
not_phase line l h = word_false line (codes "phase") (λ e. not_text line (codes "phase") l h e refl (λ n. omega (arith, n.digits.1)))

not_end : (line : List ℕ) (l : Line) → IsLine line (grammar.Calls l) → is_word line (codes "end") ≡ false
unfolding front_of
not_end line l h = word_false line (codes "end") (λ e. not_text line (codes "end") l h e refl (λ n. omega (arith, n.digits.1)))

end_no_phase : is_word (codes "end") (codes "phase") ≡ false
unfolding is_word
end_no_phase = refl

phase_good : (d : Draft) → length d.phases < MOST_PHASES → phase_in d ≡ Ok (with_item d grammar.Phase)
unfolding phase_in
phase_good d lt = let t : ltb (length d.phases) MOST_PHASES ≡ true = grind (arith, common_steps) in rw t refl

phase_full : (d : Draft) → (length d.phases < MOST_PHASES → ⊥) → phase_in d ≡ Err Limit
unfolding phase_in
phase_full d full = rw (by_bool (ltb (length d.phases) MOST_PHASES) (λ t. full (grind (arith, common_steps)))) refl

call_good : (d : Draft) (line : List ℕ) (l : Line) → d.tasks < top → IsLine line (grammar.Calls l) → IsCallOf d.version l.call → IsAmong d.tasks l → d.calls < MOST_CALLS → call_in d line ≡ Ok (with_item d (grammar.Calls l))
unfolding call_in
call_good d line l few h i s lt = let t : ltb d.calls MOST_CALLS ≡ true = grind (arith, common_steps) in rw (line_good d.version d.tasks line l few h i s, t) refl

call_bad : (d : Draft) (line : List ℕ) (l : Line) → d.tasks < top → IsLine line (grammar.Calls l) → IsCallOf d.version l.call → (IsAmong d.tasks l → ⊥) → call_in d line ≡ Err Range
unfolding call_in
call_bad d line l few h i s = rw (line_bad d.version d.tasks line l few h i s) refl

call_full : (d : Draft) (line : List ℕ) (l : Line) → d.tasks < top → IsLine line (grammar.Calls l) → IsCallOf d.version l.call → IsAmong d.tasks l → (d.calls < MOST_CALLS → ⊥) → call_in d line ≡ Err Limit
unfolding call_in
call_full d line l few h i s full = rw (line_good d.version d.tasks line l few h i s, by_bool (ltb d.calls MOST_CALLS) (λ t. full (grind (arith, common_steps)))) refl

abbrev placed : Draft → Flags → ℕ → ℕ → Result Draft Why
placed d f limit n = Ok (record d { place = cond (eqb n d.tasks) places.Phase places.Task; flags = d.flags ++ f ∷ []; queues = d.queues ++ limit ∷ [] })

task_good : (d : Draft) (line : List ℕ) (t : ℕ) (f : Flags) (queue : Option ℕ) → length d.flags < MOST_TASKS → IsLine line (grammar.Task t f queue) → IsWrittenIn d.version queue → IsTaskRanged (length d.flags + 1) t queue
    → task_in d line ≡ Ok (with_item d (grammar.Task t f queue))
unfolding task_in
task_good d line t f queue few h i r =
    let small : length d.flags + 1 < top = omega arith in
    rw (task_again d.version (length d.flags + 1) line t f queue h i, number_good (length d.flags + 1) t small r.0, limit_good queue r.1) (ap (λ (n : ℕ). placed d f (limit_by queue) n) (sym r.0))

task_bad : (d : Draft) (line : List ℕ) (t : ℕ) (f : Flags) (queue : Option ℕ) → length d.flags < MOST_TASKS → IsLine line (grammar.Task t f queue) → IsWrittenIn d.version queue → (IsTaskRanged (length d.flags + 1) t queue → ⊥)
    → task_in d line ≡ Err Range
unfolding task_in
task_bad d line t f queue few h i r =
    let small : length d.flags + 1 < top = omega arith in
    elim (cases_eq t (length d.flags + 1)) [
      | inl e ↦ rw (task_again d.version (length d.flags + 1) line t f queue h i, number_good (length d.flags + 1) t small e, limit_bad queue (λ q. r (e, q))) refl
      | inr ne ↦ rw (task_again d.version (length d.flags + 1) line t f queue h i, number_bad (length d.flags + 1) t small ne) refl
    ]

-- a title with another version is no form
title_good : (d : Draft) (line : List ℕ) (v : ℕ) → IsLine line (grammar.Title v) → IsVersion v → title_of d line ≡ Ok (with_item d (grammar.Title v))
unfolding title_of
title_good d line v h m = rw (version_again line v m h) refl

task_outcome : (d : Draft) (line : List ℕ) (t : ℕ) (f : Flags) (queue : Option ℕ) → length d.flags < MOST_TASKS → IsLine line (grammar.Task t f queue) → IsWrittenIn d.version queue → Outcome d (grammar.Task t f queue) (task_in d line)
task_outcome d line t f queue few h i =
    record { good = λ r w. task_good d line t f queue few h i r; range = λ r. task_bad d line t f queue few h i r; limit = λ r w. absurd (w tt) }

pub stands_again : (p : Place) (i : Item) (d : Draft) (line : List ℕ) → FitsAt p d → IsLine line i → MayStand d.version p i → Outcome d i (step_at p d line)
unfolding count_of first_in next_in
stands_again places.Title (grammar.Title v) d line fits h m =
    record { good = λ r w. title_good d line v h m; range = λ r. absurd (r tt); limit = λ r w. absurd (w tt) }
stands_again places.Tasks (grammar.Tasks n) d line fits h m =
    record { good = λ r w. rw (tasks_again line n h, up_to_good MOST_TASKS n (omega arith) r.0 r.1) refl; range = λ r. rw (tasks_again line n h, up_to_bad MOST_TASKS n (omega arith) r) refl; limit = λ r w. absurd (w tt) }
stands_again places.Task (grammar.Task t f None) d line fits h m = task_outcome d line t f None (omega (arith, fits.0, fits.1)) h tt
stands_again places.Task (grammar.Task t f (Some q)) d line fits h m = task_outcome d line t f (Some q) (omega (arith, fits.0, fits.1)) h m
stands_again places.Phase grammar.Phase d line fits h m =
    let e = is_again (codes "phase") line (phase_again line h) in
    record { good = λ r w. rw e (phase_good d w); range = λ r. absurd (r tt); limit = λ r w. rw e (phase_full d w) }
stands_again places.Call grammar.Phase d line fits h m =
    let e = word_same line (codes "phase") (phase_again line h) in
    record { good = λ r w. rw e (phase_good d w); range = λ r. absurd (r tt); limit = λ r w. rw e (phase_full d w) }
stands_again places.Call (grammar.Calls l) d line fits h m =
    let a = not_phase line l h in
    let b = not_end line l h in
    let few : d.tasks < top = omega arith in
    record { good = λ r w. rw (a, b) (call_good d line l few h m r w); range = λ r. rw (a, b) (call_bad d line l few h m r); limit = λ r w. rw (a, b) (call_full d line l few h m r w) }
stands_again places.Call grammar.End d line fits h m =
    let e = end_again_line line h in
    let a : is_word line (codes "phase") ≡ false = ap (λ (x : List ℕ). is_word x (codes "phase")) e ∙ end_no_phase in
    let b = word_same line (codes "end") e in
    record { good = λ r w. rw (a, b) refl; range = λ r. absurd (r tt); limit = λ r w. absurd (w tt) }
stands_again p i d line fits h m = absurd m

-- ---- what a step tells

abbrev pub NoStep : Place → Draft → List ℕ → Why → Type 0
NoStep p d line why =
    (why ≡ Form) ⊎ ((why ≡ Range) × (i : Item) × IsLine line i × MayStand d.version p i × (IsRanged d i → ⊥))
    ⊎ ((why ≡ Limit) × (i : Item) × IsLine line i × MayStand d.version p i × IsRanged d i × (IsWithin d i → ⊥))

abbrev pub IsStep : Place → Draft → List ℕ → Draft → Type 0
IsStep p d line e = (i : Item) × IsLine line i × MayStand d.version p i × IsRanged d i × IsWithin d i × (e ≡ with_item d i)

abbrev StepTold : Place → Draft → List ℕ → Result Draft Why → Type 0
StepTold p d line r = Told (NoStep p d line) (λ e. IsStep p d line e) r

phase_told : (p : Place) (d : Draft) (line : List ℕ) → IsLine line grammar.Phase → MayStand d.version p grammar.Phase → StepTold p d line (phase_in d)
unfolding phase_in
phase_told p d line h m =
    told_test (NoStep p d line) (λ e. IsStep p d line e) (ltb (length d.phases) MOST_PHASES) (Ok (with_item d grammar.Phase)) (Err Limit)
    (λ t. (grammar.Phase, h, m, tt, grind (arith, common_steps), refl))
    (λ f. inr (inr (refl, grammar.Phase, h, m, tt, λ w. let t : ltb (length d.phases) MOST_PHASES ≡ true = grind (arith, common_steps) in cc)))

call_step_told : (d : Draft) (line : List ℕ) → d.tasks < top → StepTold places.Call d line (call_in d line)
unfolding call_in
call_step_told d line few =
    let Q : Why → Type 0 = NoStep places.Call d line in
    let S : Draft → Type 0 = λ e. IsStep places.Call d line e in
    let R : Line → Type 0 = IsCallLine d.version d.tasks line in
    told_bind Q R S (line_of d.version d.tasks line) _ (told_change (NoLine d.version d.tasks line) Q R R (line_of d.version d.tasks line)
    (λ why h. elim h [ inl p ↦ inl p | inr p ↦ inr (inl (p.0, grammar.Calls p.1, p.2, p.3, p.4)) ]) (λ l h. h) (line_told d.version d.tasks few line))
    (λ l h. told_test Q S (ltb d.calls MOST_CALLS) (Ok (with_item d (grammar.Calls l))) (Err Limit)
    (λ t. (grammar.Calls l, h.0, h.1, h.2, grind (arith, common_steps), refl))
    (λ f. inr (inr (refl, grammar.Calls l, h.0, h.1, h.2, λ w. let t : ltb d.calls MOST_CALLS ≡ true = grind (arith, common_steps) in cc))))

may_task : (version t : ℕ) (f : Flags) (queue : Option ℕ) → IsWrittenIn version queue → MayStand version places.Task (grammar.Task t f queue)
may_task version t f None h = tt
may_task version t f (Some q) h = h

none_task : (d : Draft) (line : List ℕ) (why : Why) → NoTask d.version (length d.flags + 1) line why → NoStep places.Task d line why
none_task d line why h =
    elim h [ inl p ↦ inl p | inr p ↦ inr (inl (p.0, grammar.Task p.1 p.2 p.3, p.4, may_task d.version p.1 p.2 p.3 p.5, p.6)) ]

some_task : (d : Draft) (line : List ℕ) (x : TaskLine) → IsTask d.version (length d.flags + 1) line x → (e : Draft)
    → e ≡ record d { place = cond (eqb (length d.flags + 1) d.tasks) places.Phase places.Task; flags = d.flags ++ x.flags ∷ []; queues = d.queues ++ x.queue ∷ [] } → IsStep places.Task d line e
some_task d line x h e same =
    let n = length d.flags + 1 in
    (grammar.Task n x.flags h.0, h.1, may_task d.version n x.flags h.0 h.2, (refl, h.3), tt, same ∙ ap (λ (q : ℕ). record d { place = cond (eqb n d.tasks) places.Phase places.Task; flags = d.flags ++ x.flags ∷ []; queues = d.queues ++ q ∷ [] }) h.4)

pub stands_told : (p : Place) (d : Draft) (line : List ℕ) → FitsAt p d → p ≢ places.End → StepTold p d line (step_at p d line)
unfolding title_of count_of task_in first_in next_in
stands_told places.Title d line fits open_place =
    told_bind (NoStep places.Title d line) (IsTitle line) (λ e. IsStep places.Title d line e) (version_of line) _ (version_told (NoStep places.Title d line) (inl refl) line)
    (λ v h. (grammar.Title v, h.0, h.1, tt, tt, refl))
stands_told places.Tasks d line fits open_place =
    let Q : Why → Type 0 = NoStep places.Tasks d line in
    let R : ℕ → Type 0 = λ n. IsLine line (grammar.Tasks n) × (0 < n) × (n ≤ MOST_TASKS) in
    told_bind Q R (λ e. IsStep places.Tasks d line e) (tasks_of line) _ (told_change (NoCount line) Q R R (tasks_of line)
    (λ why h. elim h [ inl p ↦ inl p | inr p ↦ inr (inl (p.0, grammar.Tasks p.1, p.2, tt, p.3)) ]) (λ n h. h) (tasks_told line))
    (λ n h. (grammar.Tasks n, h.0, tt, (h.1, h.2), tt, refl))
stands_told places.Task d line fits open_place =
    let Q : Why → Type 0 = NoStep places.Task d line in
    let n = length d.flags + 1 in
    let R : TaskLine → Type 0 = IsTask d.version n line in
    told_bind Q R (λ e. IsStep places.Task d line e) (task_of d.version n line) _ (told_change (NoTask d.version n line) Q R R (task_of d.version n line)
    (λ why h. none_task d line why h) (λ x h. h) (task_told d.version n (omega arith) line))
    (λ x h. some_task d line x h _ refl)
stands_told places.Phase d line fits open_place =
    told_bind (NoStep places.Phase d line) (λ u. line ≡ codes "phase") (λ e. IsStep places.Phase d line e) (word_is (codes "phase") line) _ (is_told_pub (NoStep places.Phase d line) (inl refl) (codes "phase") line)
    (λ u e. phase_told places.Phase d line (phase_line line e) tt)
stands_told places.Call d line fits open_place =
    let Q : Why → Type 0 = NoStep places.Call d line in
    let S : Draft → Type 0 = λ e. IsStep places.Call d line e in
    told_test Q S (is_word line (codes "phase")) (phase_in d) _ (λ t. phase_told places.Call d line (phase_line line (word_true line (codes "phase") t)) tt)
    (λ n. told_test Q S (is_word line (codes "end")) (Ok (with_item d grammar.End)) (call_in d line) (λ t. (grammar.End, end_line line (word_true line (codes "end") t), tt, tt, tt, refl))
    (λ m. call_step_told d line (omega arith)))
stands_told places.End d line fits open_place = absurd (open_place refl)
