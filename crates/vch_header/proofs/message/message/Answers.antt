use Rattle.vch_header.proofs.MessageWords.{found_by, none_by}
use Rattle.vch_header.proofs.message.message.Goals as goal

pub returns-clause-found : goal.returns-clause-found
returns-clause-found c = found_by (λ m. (m.0.now, m.1.now)) c.args.line.now c.message_words.result c.message_words.ensures

pub returns-clause-none : goal.returns-clause-none
returns-clause-none c = none_by (λ m. (m.0.now, m.1.now)) c.args.line.now c.message_words.result c.message_words.ensures
