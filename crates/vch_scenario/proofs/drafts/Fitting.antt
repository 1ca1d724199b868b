-- What a draft keeps.
use Rattle.std.proofs.Common.{◌≡◌, ℕ, ◌+◌, ◌≤◌, Bool, true, false, cond, eqb, ltb, List, [], ◌∷◌, ◌++◌, length, refl, sym, subst, arith, Result, Ok, Err, codes, length-append, ◌⊎◌, inl, inr}
use Rattle.std.proofs.lemmas.Grind.{common_steps}
use Rattle.std.proofs.Math.ListN.{length-set}
use Rattle.vch_model.specs.Rows.{with_line}
use Rattle.vch_base.specs.declared.flags.Flags.{Flags}
use Rattle.vch_scenario.specs.declared.fault.Why.{Why}
use Rattle.vch_scenario.specs.declared.fault.Why.TheVariants.{Limit, Ending}
use Rattle.vch_scenario.specs.declared.draft.Draft.{Draft}
use Rattle.vch_scenario.specs.declared.draft.Place.{Place}
use Rattle.vch_scenario.specs.declared.draft.Place.TheVariants as places
use Rattle.vch_scenario.specs.Reading.{◌>>=◌, formed}
use Rattle.vch_text.specs.Words.{is_word, front_of}
use Rattle.vch_text.specs.Numbers.{one_of}
use Rattle.vch_model.specs.Grammar.{top}
use Rattle.vch_scenario.specs.Calls.{up_to, word_is, version_of, tasks_of, task_of, line_of}
use Rattle.vch_base.specs.declared.limits.TheConstants.{MOST_TASKS, MOST_PHASES, MOST_CALLS}
use Rattle.vch_scenario.specs.Whole.{FitsAt, IsFitting, step_at, step_of, is_end, title_of, count_of, task_in, phase_in, first_in, call_in, next_in}
use Rattle.vch_model.specs.TextLines.{is_passed}
use Rattle.vch_scenario.proofs.drafts.Steps.{bind_ok, guard_ok, ok_is, up_to_ok}

abbrev stopped : Result Draft Why
stopped = Err Ending

fits_by : (d e : Draft) → IsFitting d → d ≡ e → IsFitting e
fits_by d e f same = subst (λ (x : Draft). IsFitting x) same f

phase_fits : (d e : Draft) → d.tasks ≤ MOST_TASKS → phase_in d ≡ Ok e → IsFitting e
unfolding phase_in
phase_fits d e few ok =
    let next : Draft = record d { place = places.Call; phases = d.phases ++ [] ∷ [] } in
    let g = guard_ok (ltb (length d.phases) MOST_PHASES) Limit next e ok in
    let some : 1 ≤ length (d.phases ++ [] ∷ []) = omega (arith, length-append d.phases ([] ∷ [])) in
    fits_by next e (some, few) g.1

task_place : (b : Bool) (d : Draft) (f : Flags) (limits : List ℕ) → FitsAt places.Task d → eqb (length d.flags + 1) d.tasks ≡ b → IsFitting (record d { place = cond b places.Phase places.Task; flags = d.flags ++ f ∷ []; queues = limits })
task_place true d f limits fits e = fits.1
task_place false d f limits fits e = (grind (arith, common_steps, length-append d.flags (f ∷ [])), fits.1)

call_fits : (d : Draft) (line : List ℕ) (e : Draft) → d.place ≡ places.Call → FitsAt places.Call d → call_in d line ≡ Ok e → IsFitting e
unfolding call_in
call_fits d line e at some ok =
    let b = bind_ok (line_of d.version d.tasks line) (λ l. cond (ltb d.calls MOST_CALLS) (Ok (record d { phases = with_line d.phases l; calls = d.calls + 1 })) (Err Limit)) e ok in
    let next : Draft = record d { phases = with_line d.phases b.0; calls = d.calls + 1 } in
    let g = guard_ok (ltb d.calls MOST_CALLS) Limit next e b.2 in
    let more : 1 ≤ length (with_line d.phases b.0) = simp length-set some.0 in
    fits_by next e (subst (λ (p : Place). FitsAt p next) (sym at) (more, some.1)) g.1

chosen : (b : Bool) (r s t : Result Draft Why) → cond b r s ≡ t → ((b ≡ true) × (r ≡ t)) ⊎ ((b ≡ false) × (s ≡ t))
chosen true r s t e = inl (refl, e)
chosen false r s t e = inr (refl, e)

next_fits : (d : Draft) (line : List ℕ) (e : Draft) → d.place ≡ places.Call → FitsAt places.Call d → next_in d line ≡ Ok e → IsFitting e
unfolding next_in
next_fits d line e at some ok =
    elim (chosen (is_word line (codes "phase")) (phase_in d) (cond (is_word line (codes "end")) (Ok (record d { place = places.End })) (call_in d line)) (Ok e) ok) [
      | inl p ↦ phase_fits d e some.1 p.1
      | inr n ↦ elim (chosen (is_word line (codes "end")) (Ok (record d { place = places.End })) (call_in d line) (Ok e) n.1) [
        | inl p ↦ fits_by (record d { place = places.End }) e tt (ok_is (record d { place = places.End }) e p.1)
        | inr m ↦ call_fits d line e at some m.1
      ]
    ]

never : {e : Draft} → stopped ≡ Ok e → ⊥
never e = absurd cc

at_fits : (p : Place) (d : Draft) (line : List ℕ) (e : Draft) → d.place ≡ p → FitsAt p d → step_at p d line ≡ Ok e → IsFitting e
unfolding title_of count_of task_in first_in tasks_of
at_fits places.Title d line e at fits ok =
    let b = bind_ok (version_of line) (λ v. Ok (record d { place = places.Tasks; version = v })) e ok in
    let next : Draft = record d { place = places.Tasks; version = b.0 } in fits_by next e fits (ok_is next e b.2)
at_fits places.Tasks d line e at fits ok =
    let b = bind_ok (tasks_of line) (λ n. Ok (record d { place = places.Task; tasks = n })) e ok in
    let next : Draft = record d { place = places.Task; tasks = b.0 } in
    let c = bind_ok (word_is (codes "tasks") (front_of 32 line).0) (λ u. formed (one_of top (front_of 32 line).1) >>= λ n. up_to MOST_TASKS n) b.0 b.1 in
    let a = bind_ok (formed (one_of top (front_of 32 line).1)) (λ n. up_to MOST_TASKS n) b.0 c.2 in
    let k = up_to_ok MOST_TASKS a.0 b.0 a.2 in
    fits_by next e (omega arith, omega arith) (ok_is next e b.2)
at_fits places.Task d line e at fits ok =
    let n = length d.flags + 1 in
    let b = bind_ok (task_of d.version n line) (λ t. Ok (record d { place = cond (eqb n d.tasks) places.Phase places.Task; flags = d.flags ++ t.flags ∷ []; queues = d.queues ++ t.queue ∷ [] })) e ok in
    let next : Draft = record d { place = cond (eqb n d.tasks) places.Phase places.Task; flags = d.flags ++ b.0.flags ∷ []; queues = d.queues ++ b.0.queue ∷ [] } in
    fits_by next e (task_place (eqb n d.tasks) d b.0.flags (d.queues ++ b.0.queue ∷ []) fits refl) (ok_is next e b.2)
at_fits places.Phase d line e at fits ok =
    let b = bind_ok (word_is (codes "phase") line) (λ u. phase_in d) e ok in phase_fits d e fits b.2
at_fits places.Call d line e at fits ok = next_fits d line e at fits ok
at_fits places.End d line e at fits ok = absurd cc

pub step_fits : (d : Draft) (line : List ℕ) (e : Draft) → IsFitting d → step_of d line ≡ Ok e → IsFitting e
unfolding step_of
step_fits d line e fits ok =
    elim (chosen (is_end d.place) (Err Ending) (cond (is_passed line) (Ok d) (step_at d.place d line)) (Ok e) ok) [
      | inl p ↦ absurd (never p.1)
      | inr n ↦ elim (chosen (is_passed line) (Ok d) (step_at d.place d line) (Ok e) n.1) [
        | inl p ↦ fits_by d e fits (ok_is d e p.1)
        | inr m ↦ at_fits d.place d line e refl fits m.1
      ]
    ]
