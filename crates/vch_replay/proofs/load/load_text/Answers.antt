use Rattle.std.proofs.Common.{sym, subst}
use Rattle.vch_model.specs.declared.lists.Scenario.{Scenario}
use Rattle.vch_model.specs.Scenarios.{IsLimited}
use Rattle.vch_replay.proofs.Played.{load_fits, load_made}
use Rattle.vch_replay.proofs.load.load_text.Goals as goal

pub summary-requires-clause-fits : goal.summary-requires-clause-fits
summary-requires-clause-fits c =
    load_fits c.in_ok-scenario.scenario c.in_ok-report.report (subst (λ (x : Scenario). IsLimited x) (sym c.in_ok-scenario.ensures) (c.generated_is_writable.ensures c.args.n).limited) c.in_ok-report.ensures.ran

pub returns : goal.returns
returns c = load_made c.args.n c.in_ok-scenario.scenario c.in_ok-report.report c.summary.result c.in_ok-scenario.ensures c.in_ok-report.ensures.ran c.summary.ensures
