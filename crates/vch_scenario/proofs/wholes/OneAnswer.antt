-- A text has one answer.
use Rattle.std.proofs.Common.{◌≡◌, ◌⊎◌, ℕ, List, Result, Ok, Err, refl, sym, ◌∙◌, inl, inr}
use Rattle.vch_model.specs.declared.lists.Scenario.{Scenario}
use Rattle.vch_scenario.specs.declared.fault.Why.{Why}
use Rattle.vch_scenario.specs.Whole.{At, at_line, read_lines, nothing}
use Rattle.vch_model.specs.TextLines.{split_of}
use Rattle.vch_scenario.specs.Faults.{IsFault}
use Rattle.vch_model.specs.Scenarios.{IsScenario}
use Rattle.vch_scenario.proofs.lines.FaultLines.{fault_answered, answer_fault, lead_answered, answer_lead, same_fault, same_answer}
use Rattle.vch_scenario.proofs.drafts.ItemRuns.{scenario_read}
use Rattle.vch_scenario.proofs.drafts.ItemBack.{read_scenario}

abbrev pub answer : List ℕ → Result Scenario At
answer text = read_lines 1 nothing (split_of text).0 (split_of text).1

abbrev pub good : Scenario → Result Scenario At
good sc = Ok sc

ok_same : (a b : Scenario) → a ≡ b → good b ≡ good a
ok_same a b e = cc

ok_answer : (text : List ℕ) (sc : Scenario) → IsScenario text sc → answer text ≡ Ok sc
ok_answer text sc h =
    let r = scenario_read text sc h in
    lead_answered (split_of text).0 1 nothing (split_of text).1 r.1 refl r.2 r.3 r.0 ∙ ok_same sc _ r.4

err_answer : (text : List ℕ) (line : ℕ) (why : Why) → IsFault text line why → answer text ≡ Err (at_line line why)
err_answer text line why h = fault_answered (split_of text).0 1 nothing (split_of text).1 line why refl h

-- what the answer says of the text
pub scenario_answered : (text : List ℕ) (sc : Scenario) → answer text ≡ good sc → IsScenario text sc
scenario_answered text sc e = read_scenario text sc (answer_lead (split_of text).0 1 nothing (split_of text).1 sc refl e)

pub fault_told : (text : List ℕ) (line : ℕ) (why : Why) → answer text ≡ Err (at_line line why) → IsFault text line why
fault_told text line why e = answer_fault (split_of text).0 1 nothing (split_of text).1 line why refl e

by_answer : (text : List ℕ) (r : Result Scenario At) → answer text ≡ r → ((sc : Scenario) × IsScenario text sc) ⊎ ((line : ℕ) × (why : Why) × IsFault text line why)
by_answer text (Ok sc) e = inl (sc, scenario_answered text sc e)
by_answer text (Err a) e = inr (a.line, a.why, fault_told text a.line a.why e)

pub some_answer : (text : List ℕ) → ((sc : Scenario) × IsScenario text sc) ⊎ ((line : ℕ) × (why : Why) × IsFault text line why)
some_answer text = by_answer text (answer text) refl

pub never_both : (text : List ℕ) (sc : Scenario) (line : ℕ) (why : Why) → IsScenario text sc → IsFault text line why → ⊥
never_both text sc line why h f = let a = ok_answer text sc h in let b = err_answer text line why f in cc

pub one_scenario : (text : List ℕ) (a b : Scenario) → IsScenario text a → IsScenario text b → a ≡ b
one_scenario text a b h g = same_answer a b (sym (ok_answer text a h) ∙ ok_answer text b g)

pub one_fault : (text : List ℕ) (a b : ℕ) (v w : Why) → IsFault text a v → IsFault text b w → (a ≡ b) × (v ≡ w)
one_fault text a b v w h g = let s = same_fault b a w v (sym (err_answer text b w g) ∙ err_answer text a v h) in (s.0, s.1)
