use Rattle.vch_judge.proofs.FormedVouchers.{formed_none}
use Rattle.vch_judge.proofs.Creating.{comes_first}
use Rattle.vch_judge.proofs.create.evaluate_all.Goals as goal

pub loop-more-init : goal.loop-more-init
loop-more-init c = comes_first c.args.books.now c.args.task c.args.bytes.now c.empty-formed.result c.requires.some
    (formed_none c.args.books.now c.empty-formed.result c.empty-formed.ensures)
