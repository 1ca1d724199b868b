-- A run of items behind what was read.
use Rattle.std.proofs.Common.{◌≡◌, ◌≢◌, ℕ, suc, ◌+◌, ◌-◌, ◌<◌, ◌≤◌, true, false, cond, eqb, List, [], ◌∷◌, ◌++◌, length, Option, Some, None, refl, sym, ap, subst, ◌∙◌, arith, inl, inr, append_assoc, append-nil, length-append}
use Rattle.std.proofs.lemmas.Grind.{common_steps}
use Rattle.std.specs.List.{AllByRecursion}
use Rattle.std.proofs.Math.Seq.{get_or-append_seam, set-append_seam}
use Rattle.vch_model.specs.declared.call.Line.{Line}
use Rattle.vch_base.specs.declared.flags.Flags.{Flags}
use Rattle.vch_model.specs.declared.lists.Scenario.{Scenario}
use Rattle.vch_model.specs.Rows.{with_line}
use Rattle.vch_scenario.specs.declared.draft.Draft.{Draft}
use Rattle.vch_scenario.specs.declared.draft.Place.{Place}
use Rattle.vch_scenario.specs.declared.draft.Place.TheVariants as places
use Rattle.vch_scenario.specs.Whole.{nothing}
use Rattle.vch_model.specs.TextLines.{is_passed, split_of}
use Rattle.vch_model.specs.Grammar.{Item, Task, Phase, End}
use Rattle.vch_base.specs.declared.limits.TheConstants.{MOST_PHASES, MOST_CALLS}
use Rattle.vch_scenario.specs.Faults.{MayStand, IsRanged, IsQueueRanged, IsWithin, limit_by, with_item, Goes, IsOpen, Lead, IsRead}
use Rattle.vch_model.specs.Scenarios.{MayWrite, MayWriteAll, task_items, line_items, phase_items, items_of, AreLines, line_count, IsQueueOf, IsIn, IsLimited, IsScenario}

abbrev pub Runs : Draft → List Item → Draft → Type 0
Runs d [] e = e ≡ d
Runs d (i ∷ items) e = MayStand d.version d.place i × IsRanged d i × IsWithin d i × Runs (with_item d i) items e

stands_open : (version : ℕ) (p : Place) (i : Item) → MayStand version p i → p ≢ places.End
stands_open version places.End i m e = absurd m
stands_open version p i m e = absurd cc

pub lines_lead : (lines : List (List ℕ)) (items : List Item) (d e : Draft) → AreLines lines items → Runs d items e → Lead d lines e
lines_lead [] [] d e a r = r
lines_lead [] (i ∷ items) d e a r = absurd a
lines_lead (l ∷ lines) [] d e a r = absurd a
lines_lead (l ∷ lines) (i ∷ items) d e a r =
    elim a [
      | inl p ↦ (stands_open d.version d.place i r.0, d, inl (p.0, refl), lines_lead lines (i ∷ items) d e p.1 r)
      | inr s ↦ (stands_open d.version d.place i r.0, with_item d i, inr (i, s.0, r.0, r.1, r.2, refl), lines_lead lines items (with_item d i) e s.1 r.3)
    ]

-- the items that the lines spell
abbrev pub Spelled : List (List ℕ) → Draft → Draft → Type 0
Spelled lines d e = (items : List Item) × AreLines lines items × Runs d items e

passed_by : (l : List ℕ) (lines : List (List ℕ)) (d e : Draft) → IsOpen d → e.place ≡ places.End → is_passed l ≡ true → (items : List Item) → AreLines lines items → Runs d items e → Spelled (l ∷ lines) d e
passed_by l lines d e o p t [] a r = absurd (o (ap (λ (x : Draft). x.place) (sym r) ∙ p))
passed_by l lines d e o p t (i ∷ items) a r = (i ∷ items, inl (t, a), r)

passed_more : (l : List ℕ) (lines : List (List ℕ)) (d e : Draft) → IsOpen d → e.place ≡ places.End → is_passed l ≡ true → Spelled lines d e → Spelled (l ∷ lines) d e
passed_more l lines d e o p t s = passed_by l lines d e o p t s.0 s.1 s.2

lead_goes : (l : List ℕ) (lines : List (List ℕ)) (d x e : Draft) → IsOpen d → e.place ≡ places.End → Goes d l x → Spelled lines x e → Spelled (l ∷ lines) d e
lead_goes l lines d x e o p g s =
    elim g [
      | inl q ↦ passed_more l lines d e o p q.0 (subst (λ (y : Draft). Spelled lines y e) q.1 s)
      | inr q ↦ let r : Runs (with_item d q.0) s.0 e = subst (λ (y : Draft). Runs y s.0 e) q.5 s.2 in (q.0 ∷ s.0, inr (q.1, s.1), (q.2, q.3, q.4, r))
    ]

pub lead_lines : (lines : List (List ℕ)) (d e : Draft) → e.place ≡ places.End → Lead d lines e → Spelled lines d e
lead_lines [] d e p h = ([], tt, h)
lead_lines (l ∷ lines) d e p h = lead_goes l lines d h.1 e h.0 p h.2 (lead_lines lines h.1 e p h.3)

pub runs_append : (xs ys : List Item) (d m e : Draft) → Runs d xs m → Runs m ys e → Runs d (xs ++ ys) e
runs_append [] ys d m e r s = subst (λ (x : Draft). Runs x ys e) r s
runs_append (i ∷ xs) ys d m e r s = (r.0, r.1, r.2, runs_append xs ys (with_item d i) m e r.3 s)

-- ---- the items of a scenario run

abbrev pub draft : Place → ℕ → ℕ → List Flags → List ℕ → List (List Line) → ℕ → Draft
draft p v t f q ph c = record { place = p; version = v; tasks = t; flags = f; queues = q; phases = ph; calls = c }

runs_same : (d x e y : Draft) (is js : List Item) → d ≡ x → is ≡ js → e ≡ y → Runs x js y → Runs d is e
runs_same d x e y is js a b c r = rw (a, b, c) r

pub last_line : (ps : List (List Line)) (p : List Line) (l : Line) → with_line (ps ++ p ∷ []) l ≡ ps ++ (p ++ l ∷ []) ∷ []
last_line ps p l =
    let n : length (ps ++ p ∷ []) - 1 ≡ length ps = omega (arith, length-append ps (p ∷ [])) in
    rw (n, get_or-append_seam ps p [] [], set-append_seam ps p [] (p ++ l ∷ [])) refl

may_task : (version t : ℕ) (f : Flags) (queue : Option ℕ) (limit : ℕ) → MayWrite version queue limit → MayStand version places.Task (Task t f queue)
may_task version t f None limit w = tt
may_task version t f (Some q) limit w = w.0

queue_ranged : (version : ℕ) (queue : Option ℕ) (limit : ℕ) → MayWrite version queue limit → IsQueueOf version limit → IsQueueRanged queue
queue_ranged version None limit w h = tt
queue_ranged version (Some q) limit w h = let e = w.1 in (omega (arith, h.0), omega (arith, h.1))

queue_limit : (version : ℕ) (queue : Option ℕ) (limit : ℕ) → MayWrite version queue limit → limit_by queue ≡ limit
queue_limit version None limit w = sym w
queue_limit version (Some q) limit w = w.1

tasks_run : (v : ℕ) (f : Flags) (fs before : List Flags) (queues : List (Option ℕ)) (limits done : List ℕ) (t : ℕ) → length before + (1 + length fs) ≡ t → length limits ≡ 1 + length fs → MayWriteAll v queues limits → AllByRecursion (IsQueueOf v) limits
    → Runs (draft places.Task v t before done [] 0) (task_items (length before + 1) (f ∷ fs) queues) (draft places.Phase v t (before ++ f ∷ fs) (done ++ limits) [] 0)
tasks_run v f fs before [] [] done t e len w all = absurd (omega arith)
tasks_run v f fs before [] (l ∷ ls) done t e len w all = absurd w
tasks_run v f fs before (q ∷ qs) [] done t e len w all = absurd w
tasks_run v f [] before (q ∷ qs) (l ∷ []) done t e len w all =
    let n = length before + 1 in
    let last : eqb n t ≡ true = let same : length before + 1 ≡ t = omega arith in grind (arith, common_steps) in
    (may_task v n f q l w.0, (refl, queue_ranged v q l w.0 all.0), tt, rw (last, queue_limit v q l w.0) refl)
tasks_run v f [] before (q ∷ qs) (l ∷ m ∷ ls) done t e len w all = absurd (omega arith)
tasks_run v f (g ∷ fs) before (q ∷ qs) (l ∷ ls) done t e len w all =
    let n = length before + 1 in
    let more : eqb n t ≡ false = let less : length before + 1 < t = omega arith in grind (arith, common_steps) in
    let size : length (before ++ f ∷ []) ≡ length before + 1 = length-append before (f ∷ []) in
    let rest = tasks_run v g fs (before ++ f ∷ []) qs ls (done ++ l ∷ []) t (omega arith) (omega arith) w.1 all.1 in (
      may_task v n f q l w.0,
      (refl, queue_ranged v q l w.0 all.0),
      tt,
      runs_same (draft (cond (eqb n t) places.Phase places.Task) v t (before ++ f ∷ []) (done ++ limit_by q ∷ []) [] 0) (draft places.Task v t (before ++ f ∷ []) (done ++ l ∷ []) [] 0) _ _ (task_items (n + 1) (g ∷ fs) qs) _
          (rw (more, queue_limit v q l w.0) refl) (ap (λ (k : ℕ). task_items (k + 1) (g ∷ fs) qs) (sym size)) (rw (append_assoc before (f ∷ []) (g ∷ fs), append_assoc done (l ∷ []) ls) refl) rest,
    )

lines_run : (ls : List Line) (v t : ℕ) (f : List Flags) (q : List ℕ) (ps : List (List Line)) (p : List Line) (c : ℕ) → AllByRecursion (λ l. IsIn v t l) ls → c + length ls ≤ MOST_CALLS
    → Runs (draft places.Call v t f q (ps ++ p ∷ []) c) (line_items ls) (draft places.Call v t f q (ps ++ (p ++ ls) ∷ []) (c + length ls))
lines_run [] v t f q ps p c a le = let e : c + 0 ≡ c = omega arith in rw (append-nil p, e) refl
lines_run (l ∷ ls) v t f q ps p c a le =
    let rest = lines_run ls v t f q ps (p ++ l ∷ []) (c + 1) a.1 (omega arith) in
    let e : c + suc (length ls) ≡ c + 1 + length ls = omega arith in
    let s = a.0 in (
      s.3,
      (s.0, s.1, s.2),
      omega arith,
      runs_same (draft places.Call v t f q (with_line (ps ++ p ∷ []) l) (c + 1)) (draft places.Call v t f q (ps ++ (p ++ l ∷ []) ∷ []) (c + 1)) _ _ (line_items ls) (line_items ls) (ap (λ (x : List (List Line)). draft places.Call v t f q x (c + 1)) (last_line ps p l)) refl
          (rw (append_assoc p (l ∷ []) ls, e) refl) rest,
    )

-- a place where a phase may stand
abbrev IsBetween : Place → Type 0
IsBetween places.Phase = Unit {0}
IsBetween places.Call = Unit {0}
IsBetween p = ⊥

may_phase : (version : ℕ) (p : Place) → IsBetween p → MayStand version p Phase
may_phase version places.Phase h = tt
may_phase version places.Call h = tt
may_phase version places.Title h = absurd h
may_phase version places.Tasks h = absurd h
may_phase version places.Task h = absurd h
may_phase version places.End h = absurd h

phases_run : (ps : List (List Line)) (place : Place) (v t : ℕ) (f : List Flags) (q : List ℕ) (before : List (List Line)) (c : ℕ) → IsBetween place → 1 ≤ length ps → length before + length ps ≤ MOST_PHASES → c + line_count ps ≤ MOST_CALLS
    → AllByRecursion (λ p. AllByRecursion (λ l. IsIn v t l) p) ps
    → Runs (draft place v t f q before c) (phase_items ps) (draft places.Call v t f q (before ++ ps) (c + line_count ps))
phases_run [] place v t f q before c at some few less a = absurd (omega arith)
phases_run (p ∷ []) place v t f q before c at some few less a =
    let r = lines_run p v t f q before [] c a.0 (omega arith) in
    let e : c + (length p + 0) ≡ c + length p = omega arith in (
      may_phase v place at,
      tt,
      omega arith,
      runs_same (draft places.Call v t f q (before ++ [] ∷ []) c) (draft places.Call v t f q (before ++ [] ∷ []) c) _ _ (line_items p ++ []) (line_items p) refl (append-nil (line_items p)) (ap (λ (n : ℕ). draft places.Call v t f q (before ++ p ∷ []) n) e) r,
    )
phases_run (p ∷ r ∷ ps) place v t f q before c at some few less a =
    let len : length (before ++ p ∷ []) ≡ length before + 1 = length-append before (p ∷ []) in
    let first = lines_run p v t f q before [] c a.0 (omega arith) in
    let rest = phases_run (r ∷ ps) places.Call v t f q (before ++ p ∷ []) (c + length p) tt (omega arith) (omega arith) (omega arith) a.1 in
    let e : c + line_count (p ∷ r ∷ ps) ≡ c + length p + line_count (r ∷ ps) = omega arith in
    let end : draft places.Call v t f q (before ++ p ∷ r ∷ ps) (c + line_count (p ∷ r ∷ ps)) ≡ draft places.Call v t f q ((before ++ p ∷ []) ++ r ∷ ps) (c + length p + line_count (r ∷ ps)) = rw (append_assoc before (p ∷ []) (r ∷ ps), e) refl in
    let whole = runs_append (line_items p) (phase_items (r ∷ ps)) (draft places.Call v t f q (before ++ [] ∷ []) c) (draft places.Call v t f q (before ++ p ∷ []) (c + length p)) _ first rest in
    (may_phase v place at, tt, omega arith, runs_same _ _ _ _ (line_items p ++ phase_items (r ∷ ps)) _ refl refl end whole)

-- ---- a scenario within the limits runs

pub final : Scenario → Draft
final sc = draft places.End sc.version (length sc.flags) sc.flags sc.queues sc.phases (line_count sc.phases)

flags_run : (v : ℕ) (flags : List Flags) (queues : List (Option ℕ)) (limits : List ℕ) → 1 ≤ length flags → length limits ≡ length flags → MayWriteAll v queues limits → AllByRecursion (IsQueueOf v) limits
    → Runs (draft places.Task v (length flags) [] [] [] 0) (task_items 1 flags queues) (draft places.Phase v (length flags) flags limits [] 0)
flags_run v [] queues limits some len w all = absurd (omega arith)
flags_run v (f ∷ fs) queues limits some len w all = tasks_run v f fs [] queues limits [] (length (f ∷ fs)) (omega arith) (omega arith) w all

pub scenario_runs : (sc : Scenario) (queues : List (Option ℕ)) → IsLimited sc → MayWriteAll sc.version queues sc.queues → Runs nothing (items_of sc queues) (final sc)
unfolding final
scenario_runs sc queues h w =
    let v = sc.version in
    let n = length sc.flags in
    let a = flags_run v sc.flags queues sc.queues h.some_task h.queues w h.limits in
    let b = phases_run sc.phases places.Phase v n sc.flags sc.queues [] 0 tt h.some_phase (omega (arith, h.phases)) (omega (arith, h.calls)) h.lines in
    let e : Runs (draft places.Call v n sc.flags sc.queues sc.phases (0 + line_count sc.phases)) (End ∷ []) (draft places.End v n sc.flags sc.queues sc.phases (line_count sc.phases)) = (tt, tt, tt, ap (λ (k : ℕ). draft places.End v n sc.flags sc.queues sc.phases k) (omega arith)) in (
      h.version,
      tt,
      tt,
      (
        tt,
        (h.some_task, h.tasks),
        tt,
        runs_append (task_items 1 sc.flags queues) (phase_items sc.phases ++ End ∷ []) (draft places.Task v n [] [] [] 0) (draft places.Phase v n sc.flags sc.queues [] 0) (draft places.End v n sc.flags sc.queues sc.phases (line_count sc.phases)) a
            (runs_append (phase_items sc.phases) (End ∷ []) (draft places.Phase v n sc.flags sc.queues [] 0) (draft places.Call v n sc.flags sc.queues sc.phases (0 + line_count sc.phases)) (draft places.End v n sc.flags sc.queues sc.phases (line_count sc.phases)) b e),
      ),
    )

pub scenario_read : (text : List ℕ) (sc : Scenario) → IsScenario text sc → IsRead text sc
unfolding final
scenario_read text sc h =
    let lines = h.1 in
    (h.0, final sc, lines_lead (split_of text).0 (items_of sc lines.0) nothing (final sc) lines.2 (scenario_runs sc lines.0 h.2 lines.1), refl, refl)
