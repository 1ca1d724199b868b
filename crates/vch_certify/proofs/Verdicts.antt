-- The verdict on a report of a legal history.
use Rattle.std.proofs.Common.{◌≡◌, ℕ, List, refl, sym, ap, ◌∙◌, subst, arith, length, reverse, take, Option, Some, None}
use Rattle.std.proofs.lemmas.List.{take_all}
use Rattle.vch_model.specs.After.{store_of}
use Rattle.vch_model.specs.Legal.{LegalPast, Ended}
use Rattle.vch_model.specs.Text.{totals_of, vouchers_in, values_in}
use Rattle.vch_model.specs.declared.entry.Entry.{Entry}
use Rattle.vch_model.specs.declared.lists.Scenario.{Scenario}
use Rattle.vch_report.specs.declared.report.Report.{Report}
use Rattle.vch_books.specs.Audits.{Audit, past_at, past_of}
use Rattle.vch_judge.specs.Judged.{whole_audit}
use Rattle.vch_certify.specs.Endings.{IsEnding}
use Rattle.vch_certify.specs.Verdicts as verdict
use Rattle.vch_certify.specs.Verdicts.{IsVerdict, IsFlaw, IsOfVersion, IsFirstOther, SameCounts, Not, history_of}
use Rattle.vch_certify.specs.declared.verdict.Flaw.{Flaw}
use Rattle.vch_certify.specs.declared.verdict.Flaw.TheVariants as flaws
use Rattle.vch_certify.specs.declared.verdict.Verdict.TheVariants as verdicts

-- all entries were taken
pub all_taken : (a : Audit) (history : List Entry) → a ≡ whole_audit a.scenario history → past_at a ≡ reverse history
all_taken a history e = ap past_at e ∙ ap reverse (take_all (length history) history (omega arith))

module _ (sc : Scenario) (past : List Entry) (report : Report) (all : past ≡ verdict.past_of report) (same : IsOfVersion sc report) (legal : LegalPast sc past) where
  legal_here : LegalPast sc (verdict.past_of report)
  legal_here = subst (LegalPast sc) all legal

  -- something is not over
  pub ending_flaw : (flaw : Flaw) → IsEnding sc past (Some flaw) → IsFlaw sc report flaw
  ending_flaw flaw h = by_flaw flaw (subst (λ p. IsEnding sc p (Some flaw)) all h)
    where
      by_flaw : (flaw : Flaw) → IsEnding sc (verdict.past_of report) (Some flaw) → IsFlaw sc report flaw
      by_flaw (flaws.Call task number) h = (same, legal_here, h)
      by_flaw (flaws.Phase phase) h = (same, legal_here, h.0, h.1)
      by_flaw (flaws.Left made) h = (same, legal_here, h.0, h.1, h.2)
      by_flaw flaws.Version h = absurd h
      by_flaw (flaws.Entry number) h = absurd h
      by_flaw (flaws.Total task) h = absurd h
      by_flaw flaws.Count h = absurd h

  pub total_flaw : (task : ℕ) → Ended sc past → IsFirstOther report.totals (totals_of sc past) task → IsFlaw sc report (flaws.Total task)
  total_flaw task ended h = (
    same,
    record { legal = legal_here; ended = subst (Ended sc) all ended },
    subst (λ p. IsFirstOther report.totals (totals_of sc p) task) all h,
  )

  pub count_flaw : Ended sc past → report.totals ≡ totals_of sc past
      → Not ((report.vouchers ≡ vouchers_in (store_of sc past)) × (report.values ≡ values_in (store_of sc past)))
      → IsFlaw sc report flaws.Count
  count_flaw ended totals h = (
    same,
    record { legal = legal_here; ended = subst (Ended sc) all ended },
    subst (λ p. report.totals ≡ totals_of sc p) all totals,
    subst (λ p. Not ((report.vouchers ≡ vouchers_in (store_of sc p)) × (report.values ≡ values_in (store_of sc p)))) all h,
  )

  pub is_whole : Ended sc past → report.totals ≡ totals_of sc past → report.vouchers ≡ vouchers_in (store_of sc past)
      → report.values ≡ values_in (store_of sc past) → IsVerdict sc report verdicts.Whole
  is_whole ended totals vouchers values = (
    record { legal = legal_here; ended = subst (Ended sc) all ended },
    record {
      version = same;
      entries = refl;
      totals = subst (λ p. report.totals ≡ totals_of sc p) all totals;
      vouchers = subst (λ p. report.vouchers ≡ vouchers_in (store_of sc p)) all vouchers;
      values = subst (λ p. report.values ≡ values_in (store_of sc p)) all values;
    },
  )
