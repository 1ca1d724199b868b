-- What other crates cite of the lemmas of this one.
pub use Rattle.vch_report.proofs.from_core.Histories.{run_report}
pub use Rattle.vch_report.proofs.words.Belows.{below_again, below_none}
pub use Rattle.vch_report.proofs.wholes.Wholes.{never_both}
