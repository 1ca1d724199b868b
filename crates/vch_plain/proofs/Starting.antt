-- The state at the start.
use Rattle.std.proofs.Common.{◌≡◌, ℕ, zero, suc, ◌+◌, ◌<◌, ◌≤◌, List, [], ◌∷◌, ◌++◌, refl, arith, sym, ap, ◌∙◌, length, take, map, reverse, subst, Some}
use Rattle.std.proofs.lemmas.List.{reverse-reverse}
use Rattle.vch_model.specs.declared.entry.Entry.{Entry}
use Rattle.vch_machine.specs.EndedRuns.{IsBySeed}
use Rattle.vch_machine.specs.PlainRuns.{IsPlainRun}
use Rattle.vch_base.specs.declared.flags.Flags.{Flags}
use Rattle.vch_machine.specs.State.{Tasked, idle, start}
use Rattle.vch_model.specs.declared.lists.Scenario.{Scenario}
use Rattle.vch_model.specs.Scenarios.{IsLimited}
use Rattle.vch_sums.specs.Summed.{IsSummed}
use Rattle.vch_plain.specs.Turning.{IsGoing}
use Rattle.vch_plain.specs.declared.run.Run.{Run}

abbrev pub idles : List Flags → List Tasked
idles flags = map (λ (f : Flags). idle) flags

idle_suc : (flags : List Flags) (i : ℕ) → i < length flags → idles (take (suc i) flags) ≡ idles (take i flags) ++ idle ∷ []
idle_suc [] i l = absurd (omega (arith, l))
idle_suc (f ∷ flags) zero l = refl
idle_suc (f ∷ flags) (suc i) l = ap (λ xs. idle ∷ xs) (idle_suc flags i (omega (arith, l)))

pub idle_more : (flags : List Flags) (i : ℕ) (old new : List Tasked) → i < length flags → old ≡ idles (take i flags) → new ≡ old ++ idle ∷ [] → new ≡ idles (take (i + 1) flags)
idle_more flags i old new l e n =
    let one : suc i ≡ i + 1 = omega arith in
    subst (λ k. new ≡ idles (take k flags)) one (n ∙ ap (λ xs. xs ++ idle ∷ []) e ∙ sym (idle_suc flags i l))

pub idle_all : (flags : List Flags) (i : ℕ) → length flags ≤ i → idles (take i flags) ≡ idles flags
idle_all [] zero l = refl
idle_all [] (suc i) l = refl
idle_all (f ∷ flags) zero l = absurd (omega (arith, l))
idle_all (f ∷ flags) (suc i) l = ap (λ xs. idle ∷ xs) (idle_all flags i (omega (arith, l)))

pub going_first : (sc : Scenario) (r : Run) → IsLimited sc → r.machine ≡ start sc → r.phases ≡ 0 → IsSummed sc [] r.sums → IsGoing sc r
going_first sc r l e z d = record { limited = l; moves = []; reached = ap Some (sym e); phase = rw (z, e) refl; summed = rw e d }

-- the history of a run has its oldest entry first
pub same_plain : (sc : Scenario) (history past : List Entry) → reverse history ≡ past → IsPlainRun sc (reverse past) → IsPlainRun sc history
same_plain sc history past e p = subst (IsPlainRun sc) (ap reverse (sym e) ∙ reverse-reverse history) p

pub same_seeded : (sc : Scenario) (seed : ℕ) (history past : List Entry) → reverse history ≡ past → IsBySeed seed sc (reverse past) → IsBySeed seed sc history
same_seeded sc seed history past e p = subst (IsBySeed seed sc) (ap reverse (sym e) ∙ reverse-reverse history) p
