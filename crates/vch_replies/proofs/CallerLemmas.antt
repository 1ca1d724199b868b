-- What other crates cite of the lemmas of this one.
pub use Rattle.vch_replies.proofs.named.Begun.{begins}
pub use Rattle.vch_replies.proofs.named.Named.{named_here, values_here, value_here, at_table, map_at, task_here, inside}
pub use Rattle.vch_replies.proofs.calls.Named.{ledger_reply, extract_reply, recipes_reply}
pub use Rattle.vch_replies.proofs.calls.Asserted.{assertions_reply}
pub use Rattle.vch_replies.proofs.calls.Alive.{live_reply}
pub use Rattle.vch_replies.proofs.calls.Counted.{extern_reply}
pub use Rattle.vch_replies.proofs.calls.Charged.{charge_reply}
pub use Rattle.vch_replies.proofs.calls.Sent.{drop_reply, send_reply, recv_reply, create_none, create_many}
pub use Rattle.vch_replies.proofs.left.Recounted.{extern_left}
pub use Rattle.vch_replies.proofs.left.Paid.{charge_left}
pub use Rattle.vch_replies.proofs.calls.Alive.{values_live}
