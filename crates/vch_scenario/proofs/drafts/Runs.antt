-- What is read from one line on.
use Rattle.std.proofs.Common.{◌≡◌, ℕ, ◌+◌, List, [], Result, Ok, Err, refl, sym, ap, ◌∙◌, subst}
use Rattle.vch_model.specs.declared.lists.Scenario.{Scenario}
use Rattle.vch_base.specs.declared.flags.Flags.{Flags}
use Rattle.vch_model.specs.declared.call.Line.{Line}
use Rattle.vch_scenario.specs.declared.fault.ScenarioFault.{ScenarioFault}
use Rattle.vch_scenario.specs.declared.fault.Stop.{Stop}
use Rattle.vch_scenario.specs.declared.fault.Stop.TheVariants as stops
use Rattle.vch_scenario.specs.declared.draft.Place.TheVariants as places
use Rattle.vch_scenario.specs.Reading.{Stops}
use Rattle.vch_scenario.specs.declared.fault.Why.{Why}
use Rattle.vch_scenario.specs.declared.draft.Draft.{Draft}
use Rattle.vch_scenario.specs.Whole.{At, at_line, step_of, read_lines, read_text, read_of, Reads, Stopped, fault_at, finish}
use Rattle.vch_model.specs.TextLines.{split_of, with_line_before}

abbrev pub goes_on : ℕ → List (List ℕ) → List ℕ → Result Draft Why → Result Scenario At
goes_on n lines rest (Ok e) = read_lines (n + 1) e lines rest
goes_on n lines rest (Err why) = Err (at_line n why)

pub lines_more : (n : ℕ) (d : Draft) (l : List ℕ) (p : List (List ℕ) × List ℕ) → read_text n d (with_line_before l p) ≡ goes_on n p.0 p.1 (step_of d l)
unfolding read_lines
lines_more n d l p = refl

pub lines_none : (n : ℕ) (d : Draft) (rest : List ℕ) → read_text n d ([], rest) ≡ finish n d rest
unfolding read_lines
lines_none n d rest = refl

pub fault_read : (n : ℕ) (d : Draft) (l : List ℕ) (p : List (List ℕ) × List ℕ) (stop : Stop) (r : Result Scenario At) → Stops stop (step_of d l) → read_text n d (with_line_before l p) ≡ r → Stopped (fault_at n stop) r
fault_read n d l p (stops.Memory cause) r s e = tt
fault_read n d l p (stops.Fault why) r s e = sym e ∙ lines_more n d l p ∙ ap (goes_on n p.0 p.1) s

pub line_read : (n : ℕ) (d e : Draft) (l : List ℕ) (p : List (List ℕ) × List ℕ) (r : Result Scenario At) → step_of d l ≡ Ok e → read_text n d (with_line_before l p) ≡ r → read_text (n + 1) e p ≡ r
line_read n d e l p r s h = sym (ap (goes_on n p.0 p.1) s) ∙ sym (lines_more n d l p) ∙ h

abbrev start : List Flags → List ℕ → List (List Line) → Draft
start flags queues phases = record { place = places.Title; version = 0; tasks = 0; flags = flags; queues = queues; phases = phases; calls = 0 }

pub start_read : (flags : List Flags) (queues : List ℕ) (phases : List (List Line)) (text : List ℕ) → flags ≡ [] → queues ≡ [] → phases ≡ [] → read_text 1 (start flags queues phases) (split_of text) ≡ read_of text
unfolding read_of
start_read flags queues phases text f q p =
    ap (λ (x : List Flags). read_text 1 (start x queues phases) (split_of text)) f ∙ ap (λ (x : List ℕ). read_text 1 (start [] x phases) (split_of text)) q
    ∙ ap (λ (x : List (List Line)). read_text 1 (start [] [] x) (split_of text)) p

pub stopped_by : (f g : ScenarioFault) (r : Result Scenario At) → f ≡ g → Stopped f r → Stopped g r
stopped_by f g r e h = subst (λ (x : ScenarioFault). Stopped x r) e h

pub reads_by : (x : Result Scenario ScenarioFault) (r t : Result Scenario At) → r ≡ t → Reads x r → Reads x t
reads_by x r t e h = subst (λ (y : Result Scenario At). Reads x y) e h
