use Rattle.vch_judge.specs.declared.effect.Effect.TheVariants as effects
use Rattle.vch_judge.proofs.Carrying.{leaves_by}
use Rattle.vch_judge.proofs.carry.carry_out.Goals as goal

pub pass-requires : goal.pass-requires
pass-requires c = record { next = leaves_by c.args.books c.args.task c.args.effect effects.Stay c.in-Stay.is c.requires.next (λ call reply u. u) }

pub give-requires-clause-next : goal.give-requires-clause-next
give-requires-clause-next c = leaves_by c.args.books c.args.task c.args.effect (effects.Give c.in-Give.voucher) c.in-Give.is c.requires.next (λ call reply u. u)

pub let_go-requires : goal.let_go-requires
let_go-requires c = record { next = leaves_by c.args.books c.args.task c.args.effect (effects.LetGo c.in-LetGo.name) c.in-LetGo.is c.requires.next (λ call reply u. u) }

pub send-requires-clause-next : goal.send-requires-clause-next
send-requires-clause-next c = leaves_by c.args.books c.args.task c.args.effect (effects.Send c.in-Send.to c.in-Send.message) c.in-Send.is c.requires.next (λ call reply u. u)

pub send_moved-requires-clause-next : goal.send_moved-requires-clause-next
send_moved-requires-clause-next c = leaves_by c.args.books c.args.task c.args.effect (effects.SendMoved c.in-SendMoved.to c.in-SendMoved.message c.in-SendMoved.name) c.in-SendMoved.is c.requires.next (λ call reply u. u)

pub receive-requires : goal.receive-requires
receive-requires c = record { next = leaves_by c.args.books c.args.task c.args.effect effects.Receive c.in-Receive.is c.requires.next (λ call reply u. u) }

pub receive_voucher-requires-clause-next : goal.receive_voucher-requires-clause-next
receive_voucher-requires-clause-next c = leaves_by c.args.books c.args.task c.args.effect (effects.ReceiveVoucher c.in-ReceiveVoucher.voucher) c.in-ReceiveVoucher.is c.requires.next (λ call reply u. u)
