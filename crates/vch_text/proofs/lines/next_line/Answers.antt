use Rattle.vch_text.proofs.Splits.{split_none, split_some}
use Rattle.vch_text.proofs.lines.next_line.Goals as goal

pub returns-in-empty-clause-none : goal.returns-in-empty-clause-none
returns-in-empty-clause-none c = split_none c.args.text.now c.front.result.0.now c.front.result.1.now c.front.ensures c.in-empty.len_below

pub returns-in-len1-up-clause-found : goal.returns-in-len1-up-clause-found
returns-in-len1-up-clause-found c = (split_some c.args.text.now c.front.result.0.now c.front.result.1.now c.front.ensures c.in-len1-up.len_at_least).0

pub returns-in-len1-up-clause-shorter : goal.returns-in-len1-up-clause-shorter
returns-in-len1-up-clause-shorter c = (split_some c.args.text.now c.front.result.0.now c.front.result.1.now c.front.ensures c.in-len1-up.len_at_least).1
