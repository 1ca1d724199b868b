use Rattle.std.proofs.Common.{sym, ◌∙◌}
use Rattle.vch_header.proofs.HeaderDigits.{header_spelled, form_refused, unknown_spelled}
use Rattle.vch_header.proofs.message.header_in.Goals as goal

pub returns-in_default-clause-refused : goal.returns-in_default-clause-refused
returns-in_default-clause-refused c = form_refused c.args.digits.now c.from_hex.result c.in_default.field-0 c.from_hex.ensures c.in_default.is

pub returns-in-Ok-decode-clause-found : goal.returns-in-Ok-decode-clause-found
returns-in-Ok-decode-clause-found c = header_spelled c.args.digits.now c.in-Ok.bytes c.in-Ok-decode.header (sym c.from_hex.ensures ∙ c.in-Ok.is) c.in-Ok-decode.ensures.found

pub returns-in-Err-clause-refused : goal.returns-in-Err-clause-refused
returns-in-Err-clause-refused c = unknown_spelled c.args.digits.now c.in-Ok.bytes c.decode.result c.in-Err.field-0 (sym c.from_hex.ensures ∙ c.in-Ok.is) c.in-Err.is c.decode.ensures.short c.decode.ensures.disposition
