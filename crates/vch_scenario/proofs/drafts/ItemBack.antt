-- What was read is the items so far.
use Rattle.std.proofs.Common.{◌≡◌, ℕ, List, [], ◌∷◌, ◌++◌, length, Option, refl, sym, ap, subst, ◌∙◌, arith, append_assoc, append-nil, Result, Ok, Err, IfOk}
use Rattle.vch_scenario.specs.declared.fault.ScenarioFault.{ScenarioFault}
use Rattle.vch_model.specs.declared.lists.Scenario.{Scenario}
use Rattle.vch_scenario.specs.declared.draft.Draft.{Draft}
use Rattle.vch_scenario.specs.declared.draft.Place.{Place}
use Rattle.vch_scenario.specs.declared.draft.Place.TheVariants as places
use Rattle.vch_scenario.specs.Whole.{nothing, scenario_of}
use Rattle.vch_model.specs.TextLines.{split_of}
use Rattle.vch_model.specs.Grammar.{Item, Title, Tasks, End}
use Rattle.vch_scenario.specs.Faults.{with_item, IsRead}
use Rattle.vch_model.specs.Scenarios.{task_items, phase_items, items_of, AreLines, AreLinesOf, IsLimited, IsScenario}
use Rattle.vch_scenario.proofs.drafts.ItemRuns.{Runs, lead_lines}
use Rattle.vch_scenario.proofs.drafts.Drafts.{AllIn, Called, Kept, items_to, Written, queues_with, item_more}

-- what a draft is once the items were read behind another
pub record After (queues : List (Option ℕ)) (d : Draft) (more : List Item) (e : Draft) : Type 0 where
  pub shown : List (Option ℕ)
  pub kept : Kept e.place e
  pub written : Written shown e
  pub items : items_to e.place shown e ≡ items_to d.place queues d ++ more

pub runs_items : (items : List Item) (queues : List (Option ℕ)) (d e : Draft) → Kept d.place d → Written queues d → Runs d items e → After queues d items e
runs_items [] queues d e k w r =
    record {
      shown = queues;
      kept = subst (λ (x : Draft). Kept x.place x) (sym r) k;
      written = subst (λ (x : Draft). Written queues x) (sym r) w;
      items = ap (λ (x : Draft). items_to x.place queues x) r ∙ sym (append-nil (items_to d.place queues d));
    }
runs_items (i ∷ items) queues d e k w r =
    let m = item_more d.place i queues d refl k w r.0 r.1 r.2 in
    let n = runs_items items (queues_with queues i) (with_item d i) e m.kept m.written r.3 in
    record { shown = n.shown; kept = n.kept; written = n.written; items = n.items ∙ ap (λ x. x ++ items) m.items ∙ append_assoc (items_to d.place queues d) (i ∷ []) items }

ended : (e : Draft) → Called e → IsLimited (scenario_of e)
ended e c =
    record {
      version = c.listed.limits.version;
      some_task = omega (arith, c.listed.count, c.listed.some);
      tasks = omega (arith, c.listed.count, c.listed.few);
      queues = c.listed.limits.count;
      limits = c.listed.limits.each;
      some_phase = c.some;
      phases = c.few;
      calls = omega (arith, c.calls, c.limit);
      lines = subst (λ (n : ℕ). AllIn e.version n e.phases) (sym c.listed.count) c.each;
    }

ended_items : (e : Draft) (queues : List (Option ℕ)) → length e.flags ≡ e.tasks → items_to places.End queues e ≡ items_of (scenario_of e) queues
ended_items e queues c =
    ap (λ (n : ℕ). (Title e.version ∷ Tasks n ∷ (task_items 1 e.flags queues ++ phase_items e.phases)) ++ End ∷ []) (sym c)
    ∙ ap (λ x. Title e.version ∷ Tasks (length e.flags) ∷ x) (append_assoc (task_items 1 e.flags queues) (phase_items e.phases) (End ∷ []))

at_end : (e : Draft) (queues : List (Option ℕ)) (items : List Item) → e.place ≡ places.End → Kept e.place e → items_to e.place queues e ≡ items → Called e × (items_to places.End queues e ≡ items)
at_end e queues items p k i = (subst (λ (q : Place). Kept q e) p k, ap (λ (q : Place). items_to q queues e) (sym p) ∙ i)

-- what the lines lead to is a scenario whose items they spell
pub read_scenario : (text : List ℕ) (sc : Scenario) → IsRead text sc → IsScenario text sc
read_scenario text sc h =
    let lines = (split_of text).0 in
    let e = h.1 in
    let s = lead_lines lines nothing e h.3 h.2 in
    let r = runs_items s.0 [] nothing e (record { flags = refl; queues = refl; empty = record { phases = refl; calls = refl } }) tt s.2 in
    let a = at_end e r.shown s.0 h.3 r.kept r.items in
    let same : s.0 ≡ items_of (scenario_of e) r.shown = sym a.1 ∙ ended_items e r.shown a.0.listed.count in
    let spelled : AreLinesOf (scenario_of e) lines = (r.shown, r.written, subst (λ (x : List Item). AreLines lines x) same s.1) in
    (h.0, subst (λ (x : Scenario). AreLinesOf x lines) (sym h.4) spelled, subst (λ (x : Scenario). IsLimited x) (sym h.4) (ended e a.0))

pub found_scenario : (text : List ℕ) (r : Result Scenario ScenarioFault) → IfOk r (λ sc. IsRead text sc) → IfOk r (λ sc. IsScenario text sc)
found_scenario text (Ok sc) h = read_scenario text sc h
found_scenario text (Err e) h = tt
