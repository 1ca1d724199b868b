-- The report of a core tells of its history, and is well formed.
use Rattle.std.proofs.Common.{◌≡◌, ℕ, ◌^◌, ◌<◌, sym, ap, ◌∙◌, subst, length, reverse}
use Rattle.std.specs.List.{AllByRecursion}
use Rattle.std.proofs.lemmas.List.{reverse-reverse, length-reverse}
use Rattle.vch_model.specs.Canonical.{IsWritable}
use Rattle.vch_model.specs.After.{store_of}
use Rattle.vch_model.specs.Legal.{LegalPast, Legal}
use Rattle.vch_model.specs.Text.{totals_of, vouchers_in, values_in}
use Rattle.vch_machine.specs.State.{Machine}
use Rattle.vch_legal.specs.Reports.{IsByteEntry}
use Rattle.vch_legal.proofs.CallerLemmas.{reached_stands, all_reversed}
use Rattle.vch_parts.specs.declared.parts.Parts.{Parts}
use Rattle.vch_parts.specs.Reached.{Reached, Stands}
use Rattle.vch_parts.proofs.CallerLemmas.{numbers_of}
use Rattle.vch_whole.proofs.CallerLemmas.{Reach, reach}
use Rattle.vch_report.specs.declared.report.Report.{Report}
use Rattle.vch_report.specs.OfCore.{HasTask, Tells}
use Rattle.vch_report.specs.WellFormed.{Making, IsWellFormed}
use Rattle.vch_report.proofs.from_core.Histories.{tasks_made, legal_report}

module _ (p : Parts) (reached : Reached p) (writable : IsWritable p.scenario) where
  -- its entries, the newest first
  past_is : (x : Reach p) → x.m.past ≡ reverse p.history.entries
  past_is x = sym (ap reverse x.stands.history ∙ reverse-reverse x.m.past)

  run_legal : Legal p.history.entries p.scenario
  run_legal = let x = reach p reached in subst (LegalPast p.scenario) (past_is x) (reached_stands p.scenario x.moves x.m x.run).legal

  run_few : length p.history.entries < 2 ^ 32
  run_few = numbers_of p _ reached (λ m s ties n. few (length p.history.entries) (length m.past) (ap length s.history ∙ length-reverse m.past) n.past)
    where
      few : (a b : ℕ) → a ≡ b → b < 2 ^ 32 → a < 2 ^ 32
      few a b e l = subst (λ k. k < 2 ^ 32) (sym e) l

  -- its entries can be copied
  pub run_copied : AllByRecursion (Making HasTask) p.history.entries
  run_copied = subst (AllByRecursion (Making HasTask)) (reverse-reverse p.history.entries) (all_reversed (Making HasTask) (reverse p.history.entries) (tasks_made p.scenario (reverse p.history.entries) run_legal))

  module _ (report : Report) (version : report.version ≡ p.scenario.version) (entries : report.history.entries ≡ p.history.entries)
      (totals : (m : Machine) → Stands p m → report.totals ≡ totals_of p.scenario m.past)
      (vouchers : (m : Machine) → Stands p m → report.vouchers ≡ vouchers_in (store_of p.scenario m.past))
      (values : (m : Machine) → Stands p m → report.values ≡ values_in (store_of p.scenario m.past)) where
    pub run_tells : Tells p.scenario p.history.entries report
    run_tells =
        let x = reach p reached in
        record {
          version = version;
          entries = entries;
          totals = subst (λ past. report.totals ≡ totals_of p.scenario past) (past_is x) (totals x.m x.state);
          vouchers = subst (λ past. report.vouchers ≡ vouchers_in (store_of p.scenario past)) (past_is x) (vouchers x.m x.state);
          values = subst (λ past. report.values ≡ values_in (store_of p.scenario past)) (past_is x) (values x.m x.state);
        }

    pub run_formed : AllByRecursion IsByteEntry report.history.entries → IsWellFormed report
    run_formed bytes = legal_report p.scenario p.history.entries report writable.limited run_few (subst (AllByRecursion IsByteEntry) entries bytes) run_legal run_tells
