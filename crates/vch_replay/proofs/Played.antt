-- What a run to the end tells: its history is whole, and its report's text is that of the history.
use Rattle.std.proofs.Common.{◌≡◌, ℕ, ◌*◌, ◌≤◌, nat_lt, false, not, List, arith, sym, ap, ◌∙◌, length, reverse, subst, refl, Some, Result, Ok, Err, IfOk}
use Rattle.std.specs.Global.{Vec}
use Rattle.std.proofs.lemmas.List.{reverse-reverse, length-reverse}
use Rattle.std.proofs.lemmas.Grind.{common_steps}
use Rattle.vch_base.specs.declared.fault.NoMemory.{NoMemory}
use Rattle.vch_model.specs.declared.entry.Entry.{Entry}
use Rattle.vch_model.specs.declared.lists.Scenario.{Scenario}
use Rattle.vch_model.specs.declared.total.Total.{Total}
use Rattle.vch_model.specs.Legal.{Whole}
use Rattle.vch_model.specs.Lines.{phases_in}
use Rattle.vch_model.specs.Scenarios.{IsLimited}
use Rattle.vch_model.specs.Text.{Text, totals_of}
use Rattle.vch_machine.specs.State.{Machine, start}
use Rattle.vch_machine.specs.Schedules.{Move, in_turn, by_seed}
use Rattle.vch_machine.specs.EndedRuns.{EndsWith}
use Rattle.vch_machine.specs.PlainRuns.{TellNoWant, IsPlainRun}
use Rattle.vch_machine.proofs.CallerLemmas.{without_want}
use Rattle.vch_legal.proofs.CallerLemmas.{run_whole}
use Rattle.vch_generate.specs.Generated.{generated}
use Rattle.vch_parts.specs.declared.parts.Parts.{Parts}
use Rattle.vch_parts.specs.Reached.{Stands}
use Rattle.vch_whole.proofs.CallerLemmas.{from_state}
use Rattle.vch_runs.specs.Runs.{RunsTo, EndsInTurn, EndsBySeed}
use Rattle.vch_report.specs.declared.report.Report.{Report}
use Rattle.vch_report.specs.Items.{text_of}
use Rattle.vch_report.specs.OfCore.{Tells}
use Rattle.vch_replay.specs.Loads.{IsSummary, credited, summary_text}
use Rattle.vch_replay.specs.Reports.{IsInTurnReport, IsBySeedReport}
use Rattle.vch_replay.specs.Run.{IsTurnReport, IsSeedReport}
use Rattle.vch_replay.proofs.Loading.{credited_few}

-- the end of a core is the end of its run
ends_with : (sc : Scenario) (moves : List Move) (p : Parts) → p.scenario ≡ sc → length sc.phases ≤ p.phase → RunsTo sc moves (start sc) p → EndsWith sc moves p.history.entries
ends_with sc moves p same over r =
    let s = (from_state p r.0 r.2).0 in
    record {
      m = r.0;
      run = r.1;
      ended =
          let e : p.phase ≡ phases_in r.0.past = s.phase in
          let t : nat_lt (phases_in r.0.past) (length sc.phases) ≡ false = grind (arith, common_steps) in
          ap not t;
      history_is = s.history;
    }

whole_of : (sc : Scenario) (moves : List Move) (history : List Entry) → EndsWith sc moves history → Whole history sc
whole_of sc moves history e = subst (λ h. Whole h sc) (sym e.history_is) (run_whole sc moves e.m e.run e.ended)

module _ (sc : Scenario) (p q : Parts) (report : Report) (same : p.scenario ≡ sc) (stands : Stands p (start sc)) (told : Tells q.scenario q.history.entries report) where
  -- the report tells of its own history, which is that of the core
  tells_own : q.scenario ≡ sc → Tells sc report.history.entries report
  tells_own e = subst (λ h. Tells sc h report) (sym told.entries) (subst (λ x. Tells x q.history.entries report) e told)

  ends_own : (moves : List Move) → EndsWith sc moves q.history.entries → EndsWith sc moves report.history.entries
  ends_own moves w = subst (EndsWith sc moves) (sym told.entries) w

  pub turn_report : EndsInTurn p q → IsInTurnReport sc report
  turn_report f =
      let moves : List Move = in_turn f.bound f.wants sc (Some (start sc)) in
      let r : RunsTo sc moves (start sc) q = subst (λ (x : Scenario). RunsTo x (in_turn f.bound f.wants x (Some (start sc))) (start sc) q) same (f.run (start sc) stands) in
      let over : length sc.phases ≤ q.phase = subst (λ (x : Scenario). length x.phases ≤ q.phase) same f.ended in
      let w : EndsWith sc moves report.history.entries = ends_own moves (ends_with sc moves q (f.scenario ∙ same) over r) in
      record {
        tells = tells_own (f.scenario ∙ same);
        whole = whole_of sc moves report.history.entries w;
        in_turn = record { bound = f.bound; wants = f.wants; run = w };
        plain = λ none. subst (IsPlainRun sc) (sym w.history_is) (without_want sc f.wants f.bound w.m w.run w.ended (subst TellNoWant (ap reverse w.history_is ∙ reverse-reverse w.m.past) none));
      }

  pub seed_report : (seed : ℕ) → EndsBySeed seed p q → IsBySeedReport seed sc report
  seed_report seed f =
      let moves : List Move = by_seed f.bound seed f.wants sc (Some (start sc)) in
      let r : RunsTo sc moves (start sc) q = subst (λ (x : Scenario). RunsTo x (by_seed f.bound seed f.wants x (Some (start sc))) (start sc) q) same (f.run (start sc) stands) in
      let over : length sc.phases ≤ q.phase = subst (λ (x : Scenario). length x.phases ≤ q.phase) same f.ended in
      let w : EndsWith sc moves report.history.entries = ends_own moves (ends_with sc moves q (f.scenario ∙ same) over r) in
      record {
        tells = tells_own (f.scenario ∙ same);
        whole = whole_of sc moves report.history.entries w;
        by_seed = record { bound = f.bound; wants = f.wants; run = w };
      }

-- Where the report was made.

pub turn_made : (sc : Scenario) (p q : Parts) (result : Result Report NoMemory) → p.scenario ≡ sc → Stands p (start sc) → EndsInTurn p q
    → IfOk result (λ report. Tells q.scenario q.history.entries report) → IfOk result (λ report. IsInTurnReport sc report)
turn_made sc p q (Ok report) same s f t = turn_report sc p q report same s t f
turn_made sc p q (Err fault) same s f t = tt

pub seed_made : (seed : ℕ) (sc : Scenario) (p q : Parts) (result : Result Report NoMemory) → p.scenario ≡ sc → Stands p (start sc) → EndsBySeed seed p q
    → IfOk result (λ report. Tells q.scenario q.history.entries report) → IfOk result (λ report. IsBySeedReport seed sc report)
seed_made seed sc p q (Ok report) same s f t = seed_report sc p q report same s t seed f
seed_made seed sc p q (Err fault) same s f t = tt

-- The text of a report.

text_is : (sc : Scenario) (report : Report) (text : List ℕ) → Tells sc report.history.entries report → text ≡ text_of report → text ≡ Text report.history.entries sc
text_is sc report text t e = e ∙ rw (t.version, t.totals, t.vouchers, t.values) refl

pub turn_text : (sc : Scenario) (report : Report) (result : Result (Vec ℕ) NoMemory) → IsInTurnReport sc report
    → IfOk result (λ text. text.items ≡ text_of report) → IfOk result (λ text. IsTurnReport sc text.items)
turn_text sc report (Err fault) r e = tt
turn_text sc report (Ok text) r e = record {
  history = report.history.entries;
  report = record { whole = r.whole; text_is = text_is sc report text.items r.tells e };
  in_turn = r.in_turn;
  plain = r.plain;
}

pub seed_text : (seed : ℕ) (sc : Scenario) (report : Report) (result : Result (Vec ℕ) NoMemory) → IsBySeedReport seed sc report
    → IfOk result (λ text. text.items ≡ text_of report) → IfOk result (λ text. IsSeedReport seed sc text.items)
seed_text seed sc report (Err fault) r e = tt
seed_text seed sc report (Ok text) r e = record {
  history = report.history.entries;
  report = record { whole = r.whole; text_is = text_is sc report text.items r.tells e };
  by_seed = r.by_seed;
}

-- The summary of a generated scenario.

pub load_fits : (sc : Scenario) (report : Report) → IsLimited sc → IsInTurnReport sc report → credited report.totals ≤ length report.history.entries * 4294967295
load_fits sc report limited r =
    let past : List Entry = reverse report.history.entries in
    let few : credited (totals_of sc past) ≤ length past * 4294967295 = credited_few sc limited past r.whole.legal in
    let long : length past ≡ length report.history.entries = length-reverse report.history.entries in
    subst (λ (x : List Total). credited x ≤ length report.history.entries * 4294967295) (sym r.tells.totals)
    (subst (λ n. credited (totals_of sc past) ≤ n * 4294967295) long few)

pub load_made : (n : ℕ) (sc : Scenario) (report : Report) (result : Result (Vec ℕ) NoMemory) → sc ≡ generated n → IsInTurnReport sc report
    → IfOk result (λ text. text.items ≡ summary_text n report.history.entries report.totals report.vouchers report.values) → IfOk result (λ text. IsSummary n text.items)
load_made n sc report (Err fault) same r e = tt
load_made n sc report (Ok text) same r e =
    let here : IsInTurnReport (generated n) report = subst (λ (x : Scenario). IsInTurnReport x report) same r in
    record {
      history = report.history.entries;
      whole = here.whole;
      in_turn = here.in_turn;
      text_is = e ∙ rw (here.tells.totals, here.tells.vouchers, here.tells.values) refl;
    }
