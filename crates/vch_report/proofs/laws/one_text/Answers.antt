use Rattle.std.proofs.Common.{refl}
use Rattle.vch_report.specs.Items.{text_of}
use Rattle.vch_report.proofs.wholes.Wholes.{one_report}
use Rattle.vch_report.proofs.laws.one_text.Goals as goal

pub returns : goal.returns
returns c = record {
  injective = λ a b h g e. one_report (text_of a) a b (h, refl) (g, e);
  again = λ report h. (h, refl);
}
