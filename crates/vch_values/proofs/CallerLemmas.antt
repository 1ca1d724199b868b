-- What other crates cite of the lemmas of this one.
pub use Rattle.vch_values.proofs.Keys.{every, key_cases, same_key_refl, of_with, of_other, stays, each_key}
pub use Rattle.vch_values.proofs.Rules.{makes_rules, asked_rules, counts_rules, charged_rules, answers_own}
pub use Rattle.vch_values.proofs.Sums.{over_keys, few_live}
pub use Rattle.vch_values.proofs.Starts.{new_depicted}
pub use Rattle.vch_values.proofs.Records.{answers_record, received_alike}
