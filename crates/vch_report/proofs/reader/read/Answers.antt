use Rattle.vch_report.proofs.wholes.Loops.{found_by, only_by, fault_by, fault_only_by}
use Rattle.vch_report.proofs.reader.read.Goals as goal

pub returns : goal.returns
returns c =
    let b = c.args.bytes.now in
    let r = c.read_lines.result in
    let h = c.read_lines.ensures in
    record {
      found = found_by b r h;
      only = λ report g. only_by b r report h g;
      fault = fault_by b r h;
      fault_only = λ line g. fault_only_by b r line h g;
    }
