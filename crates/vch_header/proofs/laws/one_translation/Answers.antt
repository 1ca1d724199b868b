use Rattle.vch_header.proofs.Translations.{text_answer, one_translation, apart, one_fault}
use Rattle.vch_header.proofs.laws.one_translation.Goals as goal

pub returns : goal.returns
returns c = record { some = text_answer; one = one_translation; apart = apart; one_fault = one_fault }
