use Rattle.vch_judge.proofs.Creating.{created_voucher, created_refused}
use Rattle.vch_judge.proofs.create.created.Goals as goal

pub returns-in-Ok : goal.returns-in-Ok
returns-in-Ok c = created_voucher c.args.books.now c.args.task c.args.bytes.now c.in_ok-formed.field-0 c.in-Ok.formed c.voucher_of.result
    c.requires.some c.requires.few c.in_ok-formed.ensures c.in-Ok.is c.voucher_of.ensures

pub returns-in-Err : goal.returns-in-Err
returns-in-Err c = created_refused c.args.books.now c.args.task c.args.bytes.now c.in_ok-formed.field-0 c.in-Err.code
    c.requires.some c.requires.few c.in_ok-formed.ensures c.in-Err.is
