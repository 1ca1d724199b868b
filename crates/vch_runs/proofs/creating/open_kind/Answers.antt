use Rattle.vch_runs.proofs.Framed.{is_true}
use Rattle.vch_runs.proofs.Calling.{none_next, opened_at}
use Rattle.vch_runs.proofs.OwnCalls.{is_create}
use Rattle.vch_runs.proofs.creating.open_kind.Goals as goal

pub unreachable-requires : goal.unreachable-requires
unreachable-requires c = none_next c.args.parts.now c.args.task c.requires.reached c.requires.next c.in-None.ensures

pub returns-clause-carries : goal.returns-clause-carries
returns-clause-carries c = (opened_at c.args.parts.now c.args.task c.in-Some.kind c.requires.reached (is_true _ c.requires.task) c.requires.under_way c.requires.idle c.in-Some.ensures).kind_is

pub returns-clause-create : goal.returns-clause-create
returns-clause-create c = is_create c.args.parts.now c.args.task c.in-Some.kind c.requires.under_way c.requires.word
    (opened_at c.args.parts.now c.args.task c.in-Some.kind c.requires.reached (is_true _ c.requires.task) c.requires.under_way c.requires.idle c.in-Some.ensures)
