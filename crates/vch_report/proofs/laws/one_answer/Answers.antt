use Rattle.vch_report.proofs.wholes.Wholes as wholes
use Rattle.vch_report.proofs.laws.one_answer.Goals as goal

pub returns : goal.returns
returns c = record {
  some = wholes.some_answer;
  never_both = wholes.never_both;
  one_report = wholes.one_report;
  one_line = wholes.one_fault;
}
