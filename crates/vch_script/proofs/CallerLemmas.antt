-- What other crates cite of the lemmas of this one.
pub use Rattle.vch_script.proofs.finding.OfTasks.{of_tasks, item_of}
pub use Rattle.vch_script.proofs.finding.Loops.{take_next, one_longer}
pub use Rattle.vch_script.proofs.finding.CallsFound.{no_more}
