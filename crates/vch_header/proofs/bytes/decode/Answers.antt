use Rattle.std.proofs.Common.{◌∙◌, arith}
use Rattle.vch_header.proofs.Decoding.{found, only, short, disposition}
use Rattle.vch_header.proofs.bytes.decode.Goals as goal

pub returns-clause-found : goal.returns-clause-found
returns-clause-found c = found c.args.bytes.now c.decode_first.result (λ i. omega (arith, c.type_inv.bytes i)) c.decode_first.ensures

pub returns-clause-only : goal.returns-clause-only
returns-clause-only c h is b = c.decode_first.ensures ∙ only c.args.bytes.now h is b

pub returns-clause-short : goal.returns-clause-short
returns-clause-short c = short c.args.bytes.now c.decode_first.result c.decode_first.ensures

pub returns-clause-disposition : goal.returns-clause-disposition
returns-clause-disposition c = disposition c.args.bytes.now c.decode_first.result (λ i. omega (arith, c.type_inv.bytes i)) c.decode_first.ensures
