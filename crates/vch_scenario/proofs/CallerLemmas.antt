-- What other crates cite of the lemmas of this one.
pub use Rattle.vch_scenario.proofs.wholes.OneAnswer.{never_both, one_scenario}
pub use Rattle.vch_scenario.proofs.wholes.Writables.{scenario_writable}
