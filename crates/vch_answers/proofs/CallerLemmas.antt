-- What other crates cite of the lemmas of this one.
pub use Rattle.vch_answers.proofs.answered.Begun.{begun_few, begun_then}
pub use Rattle.vch_answers.proofs.answered.Answered.{Moment, moment, begin_follows, answer_room, answer_follows}
pub use Rattle.vch_answers.proofs.named.Named.{named_is, entry_named, live_voucher}
