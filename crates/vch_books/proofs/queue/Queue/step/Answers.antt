use Rattle.std.proofs.Common.{List, ap, ◌∙◌}
use Rattle.vch_books.specs.declared.rows.Message.{Message}
use Rattle.vch_books.specs.Audits.{rest_of}
use Rattle.vch_books.proofs.Queues.{one_on}
use Rattle.vch_books.proofs.queue.Queue.step.Goals as goal

pub returns : goal.returns
returns c = one_on c.self.inside.messages.items c.self.inside.gone ∙ ap (λ (q : List Message). rest_of q) c.self.view_is
