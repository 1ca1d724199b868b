use Rattle.vch_header.proofs.Lines.{found, only, fault, fault_only}
use Rattle.vch_header.proofs.translation.translate.Goals as goal

pub returns : goal.returns
returns c =
    let r = c.translate_lines.result in
    let text = c.args.text.now in
    let t = c.translate_lines.ensures in
    record { found = found text r t; only = only text r t; fault = fault text r t; fault_only = fault_only text r t }
