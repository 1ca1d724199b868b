-- The reply of a change of a count.
use Rattle.std.specs.Prelude.{Result, Ok, Err}
use Rattle.vch_base.specs.declared.fault.Code.{Code}
use Rattle.vch_model.specs.Replies.{refused}
use Rattle.vch_model.specs.declared.entry.Reply.{Reply}
use Rattle.vch_model.specs.declared.entry.Reply.TheVariants as replies

abbrev pub reply_of : {A : Type 0} → Result A Code → Reply
reply_of (Ok x) = replies.Done
reply_of (Err code) = refused code.number
