-- A report with a flaw is not whole.
use Rattle.std.proofs.Common.{◌≡◌, ◌⊎◌, inl, inr, ℕ, zero, suc, ◌+◌, ◌-◌, ◌≤◌, ◌<◌, Bool, true, false, ◌==◌, ◌&&◌, if◌then◌else◌, List, [], ◌∷◌, ◌++◌, refl, sym, ap, ◌∙◌, subst, arith, length, reverse, take, drop, slice_get, Some}
use Rattle.std.specs.List.{list_all}
use Rattle.std.proofs.lemmas.List.{take-append-drop, reverse-append}
use Rattle.vch_model.specs.After.{store_of}
use Rattle.vch_model.specs.Legal.{LegalPast, EachTask, IsUnheld, find_made}
use Rattle.vch_model.specs.Lines.{is_task, calls_in, lines_of}
use Rattle.vch_model.specs.Store.{Store, Alive, is_held}
use Rattle.vch_model.specs.Text.{totals_of}
use Rattle.vch_model.specs.declared.entry.Entry.{Entry}
use Rattle.vch_model.specs.declared.lists.Scenario.{Scenario}
use Rattle.vch_legal.proofs.CallerLemmas.{task_range}
use Rattle.vch_report.specs.declared.report.Report.{Report}
use Rattle.vch_certify.specs.Verdicts.{IsVerdict, IsFlaw, past_of, history_of}
use Rattle.vch_certify.specs.declared.verdict.Flaw.{Flaw}
use Rattle.vch_certify.specs.declared.verdict.Flaw.TheVariants as flaws
use Rattle.vch_certify.specs.declared.verdict.Verdict.TheVariants as verdicts

legal_behind : (sc : Scenario) (xs past : List Entry) → LegalPast sc (xs ++ past) → LegalPast sc past
legal_behind sc [] past l = l
legal_behind sc (x ∷ xs) past l = legal_behind sc xs past l.0

-- what a legal history begins with is legal
legal_start : (sc : Scenario) (history : List Entry) (n : ℕ) → LegalPast sc (reverse history) → LegalPast sc (reverse (take n history))
legal_start sc history n l = legal_behind sc (reverse (drop n history)) (reverse (take n history))
    (subst (LegalPast sc) (ap reverse (sym (take-append-drop n history)) ∙ reverse-append (take n history) (drop n history)) l)

last_or : (t n : ℕ) → t ≤ suc n → (t ≤ n) ⊎ (t ≡ suc n)
last_or t n h = grind arith

each_at : (P : ℕ → Type 0) (n t : ℕ) → EachTask n P → 0 < t → t ≤ n → P t
each_at P zero t h a b = absurd (omega (arith, a, b))
each_at P (suc n) t h a b = by_place (λ l. each_at P n t h.0 a l) (last_or t n b)
  where
    by_place : (t ≤ n → P t) → (t ≤ n) ⊎ (t ≡ suc n) → P t
    by_place more (inl l) = more l
    by_place more (inr e) = subst P (sym e) h.1

unlike : false ≡ true → ⊥
unlike e = cc

both : (a b : Bool) → (a && b) ≡ true → (a ≡ true) × (b ≡ true)
both true b e = (refl, e)
both false b e = absurd (unlike e)

held_among : (s : Store) (live : List Alive) (e : ℕ) → list_all (λ (l : Alive). is_held s l.key l.value) live ≡ true
    → IsUnheld s (find_made live e) → ⊥
held_among s [] e h u = u
held_among s (l ∷ live) e h u =
    let b : (is_held s l.key l.value ≡ true) × (list_all (λ (l : Alive). is_held s l.key l.value) live ≡ true) =
    both (is_held s l.key l.value) (list_all (λ (l : Alive). is_held s l.key l.value) live) h in
    by_made b.0 (λ v. held_among s live e b.1 v) (l.made == e) u
  where
    by_made : is_held s l.key l.value ≡ true → (IsUnheld s (find_made live e) → ⊥) → (c : Bool)
        → IsUnheld s (if c then Some l else find_made live e) → ⊥
    by_made g more true u = unlike (sym u ∙ g)
    by_made g more false u = more u

fewer : (a b : ℕ) → a < b → a ≡ b → ⊥
fewer a b l e = omega (arith, l, e)

pub flawed_not_whole : (sc : Scenario) (report : Report) (flaw : Flaw) → IsVerdict sc report (verdicts.Not flaw)
    → IsVerdict sc report verdicts.Whole → ⊥
flawed_not_whole sc report flaws.Version f w = f w.1.version
flawed_not_whole sc report (flaws.Entry number) f w = f.1.here (legal_start sc (history_of report) number w.0.legal)
flawed_not_whole sc report (flaws.Call task number) f w =
    let r = task_range sc task f.2.there in
    fewer (calls_in (past_of report) task) (length (lines_of sc task)) f.2.fewer
    (each_at (λ t. calls_in (past_of report) t ≡ length (lines_of sc t)) (length sc.flags) task w.0.ended.calls r.0 r.1)
flawed_not_whole sc report (flaws.Phase phase) f w = fewer _ _ f.3.fewer w.0.ended.phases
flawed_not_whole sc report (flaws.Left made) f w =
    held_among (store_of sc (past_of report)) (store_of sc (past_of report)).live made w.0.ended.held f.4.here
flawed_not_whole sc report (flaws.Total task) f w = f.2.here (ap (λ totals. slice_get totals (task - 1)) w.1.totals)
flawed_not_whole sc report flaws.Count f w = f.3 (w.1.vouchers, w.1.values)
