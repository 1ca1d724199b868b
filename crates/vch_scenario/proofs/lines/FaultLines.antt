-- The reader's answer is the first fault, or the scenario that the lines lead to.
use Rattle.std.proofs.Common.{◌≡◌, ◌≢◌, ℕ, ◌+◌, ◌≤◌, true, false, cond, List, [], ◌∷◌, ◌++◌, Result, Ok, Err, refl, sym, ap, subst, ◌∙◌, arith, ◌⊎◌, inl, inr, ◌&&◌, IfOk}
use Rattle.vch_model.specs.declared.lists.Scenario.{Scenario}
use Rattle.vch_scenario.specs.declared.fault.Why.{Why}
use Rattle.vch_scenario.specs.declared.fault.Why.TheVariants.{Form, Range, Limit, Ending}
use Rattle.vch_scenario.specs.declared.draft.Draft.{Draft}
use Rattle.vch_scenario.specs.declared.draft.Place.{Place}
use Rattle.vch_scenario.specs.declared.draft.Place.TheVariants as places
use Rattle.vch_scenario.specs.Whole.{At, at_line, IsFitting, is_end, is_empty, step_at, step_of, finish, read_lines, nothing, scenario_of, read_of, Reads}
use Rattle.vch_model.specs.TextLines.{is_passed, split_of}
use Rattle.std.proofs.lemmas.Grind.{common_steps}
use Rattle.vch_scenario.specs.declared.fault.ScenarioFault.{ScenarioFault}
use Rattle.vch_scenario.specs.declared.fault.ScenarioFault.TheVariants as faults
use Rattle.vch_scenario.specs.Faults as Read
use Rattle.vch_model.specs.Grammar as items
use Rattle.vch_model.specs.Grammar.{Item, IsLine, Piece, Text, AreSpelled, IsNumeral}
use Rattle.vch_scenario.specs.Faults.{MayStand, IsRanged, IsWithin, with_item, Goes, IsWrong, IsOpen, FirstFault, Lead, IsFault}
use Rattle.vch_scenario.proofs.drafts.Told.{Told}
use Rattle.vch_scenario.proofs.drafts.Fitting.{step_fits}
use Rattle.vch_scenario.proofs.drafts.Runs.{goes_on}
use Rattle.vch_scenario.proofs.lines.StepLines.{NoStep, IsStep, stands_told, stands_again, Outcome}

-- ---- one line

open_place : (p : Place) → p ≢ places.End → is_end p ≡ false
open_place places.Title o = refl
open_place places.Tasks o = refl
open_place places.Task o = refl
open_place places.Phase o = refl
open_place places.Call o = refl
open_place places.End o = absurd (o refl)

place_cases : (p : Place) → (p ≡ places.End) ⊎ (p ≢ places.End)
place_cases places.Title = inr (λ e. cc)
place_cases places.Tasks = inr (λ e. cc)
place_cases places.Task = inr (λ e. cc)
place_cases places.Phase = inr (λ e. cc)
place_cases places.Call = inr (λ e. cc)
place_cases places.End = inl refl

passed_cases : (line : List ℕ) → (is_passed line ≡ true) ⊎ (is_passed line ≡ false)
passed_cases line = elim (is_passed line) as (λ b. (b ≡ true) ⊎ (b ≡ false)) [ true ↦ inl refl | false ↦ inr refl ]

step_ended : (d : Draft) (line : List ℕ) → d.place ≡ places.End → step_of d line ≡ Err Ending
unfolding step_of
step_ended d line e = ap (λ (p : Place). cond (is_end p) (Err Ending) (cond (is_passed line) (Ok d) (step_at d.place d line))) e

step_passed : (d : Draft) (line : List ℕ) → IsOpen d → is_passed line ≡ true → step_of d line ≡ Ok d
unfolding step_of
step_passed d line o p = rw (open_place d.place o, p) refl

step_here : (d : Draft) (line : List ℕ) → IsOpen d → is_passed line ≡ false → step_of d line ≡ step_at d.place d line
unfolding step_of
step_here d line o p = rw (open_place d.place o, p) refl

line_parts : (line w more : List ℕ) → 32 ∷ line ≡ 32 ∷ (w ++ more) → line ≡ w ++ more
line_parts line w more e = cc

numeral_not_passed : (w more : List ℕ) (n : ℕ) → IsNumeral w n → is_passed (w ++ more) ≡ false
numeral_not_passed [] more n h = absurd (omega (arith, h.some))
numeral_not_passed (c ∷ cs) more n h = let low : 48 ≤ c = h.digits.0 in grind (arith, common_steps)

starts : (line t w more : List ℕ) → 32 ∷ line ≡ 32 ∷ (w ++ more) → w ≡ t → line ≡ t ++ more
starts line t w more e f = line_parts line w more e ∙ ap (λ l. l ++ more) f

abbrev ok_of : Draft → Result Draft Why
ok_of d = Ok d

abbrev err_of : Why → Result Draft Why
err_of w = Err w

ok_is : (x y : Draft) → ok_of x ≡ ok_of y → x ≡ y
ok_is x y e = cc

item_not_passed : (line : List ℕ) (i : Item) → IsLine line i → is_passed line ≡ false
item_not_passed line (items.Title v) h = ap is_passed (starts line _ h.0 h.1 h.2.parts h.3)
item_not_passed line (items.Tasks n) h = ap is_passed (starts line _ h.0 h.1 h.2.parts h.3)
item_not_passed line (items.Task t f queue) h = ap is_passed (starts line _ h.0 h.1 h.2.parts h.3)
item_not_passed line items.Phase h = ap is_passed (starts line _ h.0 h.1 h.2.parts h.3)
item_not_passed line items.End h = ap is_passed (starts line _ h.0 h.1 h.2.parts h.3)
item_not_passed line (items.Calls l) h = ap is_passed (line_parts line h.0 h.1 h.2.parts) ∙ numeral_not_passed h.0 h.1 l.task h.3

told_ok : {X : Type 0} (Q : Why → Type 0) (R : X → Type 0) (r : Result X Why) (x : X) → Told Q R r → r ≡ Ok x → R x
told_ok Q R (Ok y) x h e = let same : y ≡ x = cc in subst R same h
told_ok Q R (Err why) x h e = absurd cc

told_err : {X : Type 0} (Q : Why → Type 0) (R : X → Type 0) (r : Result X Why) (why : Why) → Told Q R r → r ≡ Err why → Q why
told_err Q R (Ok y) why h e = absurd cc
told_err Q R (Err w) why h e = let same : w ≡ why = cc in subst Q same h

not_form : (d : Draft) (i : Item) (r : Result Draft Why) → Outcome d i r → r ≡ Err Form → ⊥
not_form d i r o e =
    let no_range : IsRanged d i → ⊥ = λ a. (let full : IsWithin d i → ⊥ = λ b. (let g = o.good a b in cc) in let l = o.limit a full in cc) in
    let x = o.range no_range in cc

abbrev stands : Draft → List ℕ → Result Draft Why
stands d line = step_at d.place d line

line_told : (d : Draft) (line : List ℕ) → IsFitting d → IsOpen d → Told (NoStep d.place d line) (λ e. IsStep d.place d line e) (stands d line)
line_told d line fits o = stands_told d.place d line fits o

goes_of : (d : Draft) (line : List ℕ) (e : Draft) → IsFitting d → IsOpen d → step_of d line ≡ Ok e → Goes d line e
goes_of d line e fits o s =
    elim (passed_cases line) [
      | inl p ↦ inl (p, ok_is e d (sym s ∙ step_passed d line o p))
      | inr n ↦ inr (told_ok (NoStep d.place d line) (λ x. IsStep d.place d line x) (stands d line) e (line_told d line fits o) (sym (step_here d line o n) ∙ s))
    ]

of_goes : (d : Draft) (line : List ℕ) (e : Draft) → IsFitting d → IsOpen d → Goes d line e → step_of d line ≡ Ok e
of_goes d line e fits o g =
    elim g [
      | inl p ↦ step_passed d line o p.0 ∙ ap (λ (x : Draft). ok_of x) (sym p.1)
      | inr s ↦ step_here d line o (item_not_passed line s.0 s.1) ∙ (stands_again d.place s.0 d line fits s.1 s.2).good s.3 s.4 ∙ ap (λ (x : Draft). ok_of x) (sym s.5)
    ]

no_step_wrong : (d : Draft) (line : List ℕ) (why : Why) → IsFitting d → is_passed line ≡ false → stands d line ≡ Err why → NoStep d.place d line why → IsWrong d line why
no_step_wrong d line Form fits n s h = (n, λ i l m. not_form d i (stands d line) (stands_again d.place i d line fits l m) s)
no_step_wrong d line Range fits n s h =
    elim h [ inl p ↦ absurd cc | inr q ↦ elim q [ inl r ↦ (r.1, r.2, r.3, r.4) | inr r ↦ let e = r.0 in absurd cc ] ]
no_step_wrong d line Limit fits n s h =
    elim h [ inl p ↦ absurd cc | inr q ↦ elim q [ inl r ↦ let e = r.0 in absurd cc | inr r ↦ (r.1, r.2, r.3, r.4, r.5) ] ]
no_step_wrong d line Ending fits n s h =
    elim h [ inl p ↦ absurd cc | inr q ↦ elim q [ inl r ↦ let e = r.0 in absurd cc | inr r ↦ let e = r.0 in absurd cc ] ]

wrong_of : (d : Draft) (line : List ℕ) (why : Why) → IsFitting d → IsOpen d → step_of d line ≡ Err why → IsWrong d line why
wrong_of d line why fits o s =
    elim (passed_cases line) [
      | inl p ↦ let ok = step_passed d line o p in absurd cc
      | inr n ↦
          let here : stands d line ≡ Err why = sym (step_here d line o n) ∙ s in
          no_step_wrong d line why fits n here (told_err (NoStep d.place d line) (λ x. IsStep d.place d line x) (stands d line) why (line_told d line fits o) here)
    ]

form_only : (d : Draft) (line : List ℕ) (r : Result Draft Why) → Told (NoStep d.place d line) (λ x. IsStep d.place d line x) r → ((i : Item) → IsLine line i → MayStand d.version d.place i → ⊥) → r ≡ Err Form
form_only d line (Ok e) h none = absurd (none h.0 h.1 h.2)
form_only d line (Err why) h none =
    elim h [ inl p ↦ ap (λ (w : Why). err_of w) p | inr q ↦ elim q [ inl r ↦ absurd (none r.1 r.2 r.3) | inr r ↦ absurd (none r.1 r.2 r.3) ] ]

of_wrong : (d : Draft) (line : List ℕ) (why : Why) → IsFitting d → IsOpen d → IsWrong d line why → step_of d line ≡ Err why
of_wrong d line Form fits o w = step_here d line o w.0 ∙ form_only d line (stands d line) (line_told d line fits o) w.1
of_wrong d line Range fits o w = step_here d line o (item_not_passed line w.0 w.1) ∙ (stands_again d.place w.0 d line fits w.1 w.2).range w.3
of_wrong d line Limit fits o w = step_here d line o (item_not_passed line w.0 w.1) ∙ (stands_again d.place w.0 d line fits w.1 w.2).limit w.3 w.4
of_wrong d line Ending fits o w = absurd w

-- ---- all lines

end_cases : (p : Place) (rest : List ℕ) → ((is_end p && is_empty rest ≡ true) × (p ≡ places.End) × (rest ≡ [])) ⊎ ((is_end p && is_empty rest ≡ false) × ((p ≡ places.End) × (rest ≡ []) → ⊥))
end_cases places.End [] = inl (refl, refl, refl)
end_cases places.End (c ∷ cs) = inr (refl, λ e. let x : c ∷ cs ≡ [] = e.1 in cc)
end_cases places.Title rest = inr (refl, λ e. let x : places.Title ≡ places.End = e.0 in cc)
end_cases places.Tasks rest = inr (refl, λ e. let x : places.Tasks ≡ places.End = e.0 in cc)
end_cases places.Task rest = inr (refl, λ e. let x : places.Task ≡ places.End = e.0 in cc)
end_cases places.Phase rest = inr (refl, λ e. let x : places.Phase ≡ places.End = e.0 in cc)
end_cases places.Call rest = inr (refl, λ e. let x : places.Call ≡ places.End = e.0 in cc)

finish_cases : (n : ℕ) (d : Draft) (rest : List ℕ) → ((finish n d rest ≡ Ok (scenario_of d)) × (d.place ≡ places.End) × (rest ≡ [])) ⊎ ((finish n d rest ≡ Err (at_line n Ending)) × ((d.place ≡ places.End) × (rest ≡ []) → ⊥))
unfolding finish
finish_cases n d rest =
    elim (end_cases d.place rest) [
      | inl a ↦ inl (rw a.0 refl, a.1, a.2)
      | inr b ↦ inr (rw b.0 refl, b.1)
    ]

abbrev pub failed : At → Result Scenario At
failed a = Err a

pub same_fault : (n at : ℕ) (w why : Why) → failed (at_line n w) ≡ failed (at_line at why) → (at ≡ n) × (why ≡ w)
same_fault n at w why e = let same : at_line n w ≡ at_line at why = cc in (sym (ap (λ (a : At). a.line) same), sym (ap (λ (a : At). a.why) same))

read_step : (n : ℕ) (d : Draft) (l : List ℕ) (lines : List (List ℕ)) (rest : List ℕ) (r : Result Draft Why) → step_of d l ≡ r → read_lines n d (l ∷ lines) rest ≡ goes_on n lines rest r
unfolding read_lines
read_step n d l lines rest r e = ap (goes_on n lines rest) e

read_none : (n : ℕ) (d : Draft) (rest : List ℕ) → read_lines n d [] rest ≡ finish n d rest
unfolding read_lines
read_none n d rest = refl

-- a first fault is the answer
pub fault_answered : (lines : List (List ℕ)) (n : ℕ) (d : Draft) (rest : List ℕ) (at : ℕ) (why : Why) → IsFitting d → FirstFault n d lines rest at why → read_lines n d lines rest ≡ Err (at_line at why)
fault_answered [] n d rest at why fits h =
    elim (finish_cases n d rest) [
      | inl a ↦ absurd (h.2 (a.1, a.2))
      | inr b ↦ read_none n d rest ∙ b.0 ∙ ap (λ (m : ℕ). failed (at_line m Ending)) (sym h.0) ∙ ap (λ (w : Why). failed (at_line at w)) (sym h.1)
    ]
fault_answered (l ∷ lines) n d rest at why fits h =
    elim h [
      | inl a ↦ read_step n d l lines rest (Err Ending) (step_ended d l a.0) ∙ ap (λ (m : ℕ). failed (at_line m Ending)) (sym a.1) ∙ ap (λ (w : Why). failed (at_line at w)) (sym a.2)
      | inr x ↦ elim x [
        | inl b ↦ read_step n d l lines rest (Err why) (of_wrong d l why fits b.0 b.1) ∙ ap (λ (m : ℕ). failed (at_line m why)) (sym b.2)
        | inr c ↦
            let s = of_goes d l c.1 fits c.0 c.2 in
            read_step n d l lines rest (Ok c.1) s ∙ fault_answered lines (n + 1) c.1 rest at why (step_fits d l c.1 fits s) c.3
      ]
    ]

fault_step : (l : List ℕ) (lines : List (List ℕ)) (n : ℕ) (d : Draft) (rest : List ℕ) (at : ℕ) (why : Why) → IsFitting d → IsOpen d → (r : Result Draft Why) → step_of d l ≡ r → goes_on n lines rest r ≡ Err (at_line at why)
    → ((x : Draft) → IsFitting x → read_lines (n + 1) x lines rest ≡ Err (at_line at why) → FirstFault (n + 1) x lines rest at why)
    → (IsOpen d × IsWrong d l why × (at ≡ n)) ⊎ (IsOpen d × (e : Draft) × Goes d l e × FirstFault (n + 1) e lines rest at why)
fault_step l lines n d rest at why fits o (Ok x) s e more = inr (o, x, goes_of d l x fits o s, more x (step_fits d l x fits s) e)
fault_step l lines n d rest at why fits o (Err w) s e more =
    let same = same_fault n at w why e in
    inl (o, subst (λ (v : Why). IsWrong d l v) (sym same.1) (wrong_of d l w fits o s), same.0)

-- the answer is a first fault
pub answer_fault : (lines : List (List ℕ)) (n : ℕ) (d : Draft) (rest : List ℕ) (at : ℕ) (why : Why) → IsFitting d → read_lines n d lines rest ≡ Err (at_line at why) → FirstFault n d lines rest at why
answer_fault [] n d rest at why fits e =
    elim (finish_cases n d rest) [
      | inl a ↦ let x = read_none n d rest in let y = a.0 in absurd cc
      | inr b ↦ let same = same_fault n at Ending why (sym b.0 ∙ sym (read_none n d rest) ∙ e) in (same.0, same.1, b.1)
    ]
answer_fault (l ∷ lines) n d rest at why fits e =
    elim (place_cases d.place) [
      | inl p ↦ let same = same_fault n at Ending why (sym (read_step n d l lines rest (Err Ending) (step_ended d l p)) ∙ e) in inl (p, same.0, same.1)
      | inr o ↦ inr (fault_step l lines n d rest at why fits o (step_of d l) refl (sym (read_step n d l lines rest (step_of d l) refl) ∙ e) (λ x f g. answer_fault lines (n + 1) x rest at why f g))
    ]

abbrev pub answered : Scenario → Result Scenario At
answered sc = Ok sc

pub same_answer : (a b : Scenario) → answered a ≡ answered b → a ≡ b
same_answer a b e = cc

-- what the lines lead to is the answer
pub lead_answered : (lines : List (List ℕ)) (n : ℕ) (d : Draft) (rest : List ℕ) (e : Draft) → IsFitting d → Lead d lines e → e.place ≡ places.End → rest ≡ [] → read_lines n d lines rest ≡ Ok (scenario_of e)
lead_answered [] n d rest e fits h p r =
    elim (finish_cases n d rest) [
      | inl a ↦ read_none n d rest ∙ a.0 ∙ ap (λ (x : Draft). answered (scenario_of x)) (sym h)
      | inr b ↦ absurd (b.1 (ap (λ (x : Draft). x.place) (sym h) ∙ p, r))
    ]
lead_answered (l ∷ lines) n d rest e fits h p r =
    let s = of_goes d l h.1 fits h.0 h.2 in
    read_step n d l lines rest (Ok h.1) s ∙ lead_answered lines (n + 1) h.1 rest e (step_fits d l h.1 fits s) h.3 p r

abbrev pub LedTo : Draft → List (List ℕ) → List ℕ → Scenario → Type 0
LedTo d lines rest sc = (rest ≡ []) × (e : Draft) × Lead d lines e × (e.place ≡ places.End) × (sc ≡ scenario_of e)

lead_step : (l : List ℕ) (lines : List (List ℕ)) (n : ℕ) (d : Draft) (rest : List ℕ) (sc : Scenario) → IsFitting d → IsOpen d → (r : Result Draft Why) → step_of d l ≡ r → goes_on n lines rest r ≡ Ok sc
    → ((x : Draft) → IsFitting x → read_lines (n + 1) x lines rest ≡ Ok sc → LedTo x lines rest sc) → LedTo d (l ∷ lines) rest sc
lead_step l lines n d rest sc fits o (Ok x) s e more =
    let m = more x (step_fits d l x fits s) e in (m.0, m.1, (o, x, goes_of d l x fits o s, m.2), m.3, m.4)
lead_step l lines n d rest sc fits o (Err w) s e more = absurd cc

pub answer_lead : (lines : List (List ℕ)) (n : ℕ) (d : Draft) (rest : List ℕ) (sc : Scenario) → IsFitting d → read_lines n d lines rest ≡ Ok sc → LedTo d lines rest sc
answer_lead [] n d rest sc fits e =
    elim (finish_cases n d rest) [
      | inl a ↦ (a.2, d, refl, a.1, same_answer sc (scenario_of d) (sym e ∙ read_none n d rest ∙ a.0))
      | inr b ↦ let x = read_none n d rest in let y = b.0 in absurd cc
    ]
answer_lead (l ∷ lines) n d rest sc fits e =
    elim (place_cases d.place) [
      | inl p ↦ let x = read_step n d l lines rest (Err Ending) (step_ended d l p) in absurd cc
      | inr o ↦ lead_step l lines n d rest sc fits o (step_of d l) refl (sym (read_step n d l lines rest (step_of d l) refl) ∙ e) (λ x f g. answer_lead lines (n + 1) x rest sc f g)
    ]

-- ---- what the reader returned

pub found_by : (text : List ℕ) (r : Result Scenario ScenarioFault) → Reads r (read_of text) → IfOk r (λ sc. Read.IsRead text sc)
unfolding read_of
found_by text (Ok sc) h = answer_lead (split_of text).0 1 nothing (split_of text).1 sc refl h
found_by text (Err e) h = tt

abbrev out : ScenarioFault → Result Scenario ScenarioFault
out e = Err e

abbrev full : Scenario → Result Scenario ScenarioFault
full sc = Ok sc

unless_ok : (r : Result Scenario ScenarioFault) (sc : Scenario) → Reads r (Ok sc) → Read.IsUnlessMemory r (Ok sc)
unless_ok (Ok a) sc h = inl (ap (λ (x : Scenario). full x) (sym (same_answer sc a h)))
unless_ok (Err (faults.NoMemory cause)) sc h = inr tt
unless_ok (Err (faults.At line why)) sc h = absurd cc

unless_err : (r : Result Scenario ScenarioFault) (line : ℕ) (why : Why) → Reads r (Err (at_line line why)) → Read.IsUnlessMemory r (Err (faults.At line why))
unless_err (Ok a) line why h = absurd cc
unless_err (Err (faults.NoMemory cause)) line why h = inr tt
unless_err (Err (faults.At n w)) line why h = let s = same_fault line n why w h in inl (let a = s.0 in let b = s.1 in cc)

pub only_by : (text : List ℕ) (r : Result Scenario ScenarioFault) (sc : Scenario) → Reads r (read_of text) → Read.IsRead text sc → Read.IsUnlessMemory r (Ok sc)
unfolding read_of
only_by text r sc h i =
    unless_ok r sc
    (subst (λ (x : Result Scenario At). Reads r x) (lead_answered (split_of text).0 1 nothing (split_of text).1 i.1 refl i.2 i.3 i.0 ∙ ap (λ (x : Scenario). answered x) (sym i.4)) h)

told_fault : (text : List ℕ) (r : Result Scenario ScenarioFault) (line : ℕ) (why : Why) → Reads r (read_of text) → r ≡ Err (faults.At line why) → read_of text ≡ Err (at_line line why)
told_fault text r line why h e = subst (λ (x : Result Scenario ScenarioFault). Reads x (read_of text)) e h

pub fault_by : (text : List ℕ) (r : Result Scenario ScenarioFault) (line : ℕ) (why : Why) → Reads r (read_of text) → r ≡ Err (faults.At line why) → IsFault text line why
unfolding read_of
fault_by text r line why h e = answer_fault (split_of text).0 1 nothing (split_of text).1 line why refl (told_fault text r line why h e)

pub fault_only_by : (text : List ℕ) (r : Result Scenario ScenarioFault) (line : ℕ) (why : Why) → Reads r (read_of text) → IsFault text line why → Read.IsUnlessMemory r (Err (faults.At line why))
unfolding read_of
fault_only_by text r line why h i =
    unless_err r line why
    (subst (λ (x : Result Scenario At). Reads r x) (fault_answered (split_of text).0 1 nothing (split_of text).1 line why refl i) h)
