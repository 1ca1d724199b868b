use Rattle.std.proofs.Common.{◌∙◌, sym, refl}
use Rattle.vch_parts.proofs.follows.Follow.{recheck_follows}
use Rattle.vch_parts.proofs.follows.Needs.{recheck_releasing, recheck_within}
use Rattle.vch_parts.proofs.recheck.recheck.Goals as goal

pub recheck-claim-requires-clause-releasing : goal.recheck-claim-requires-clause-releasing
recheck-claim-requires-clause-releasing c = recheck_releasing c.args.parts.now c.args.task c.in-Some.frame c.requires.reached c.requires.task (sym c.take.ensures.frame ∙ c.in-Some.is) c.in-Answered.key c.in-Answered.asked c.requires.next (sym c.replace.ensures.value ∙ c.in-Answered.is) (c.know.ensures.apart c.in-Answered.key)

pub recheck-claim-requires-clause-within : goal.recheck-claim-requires-clause-within
recheck-claim-requires-clause-within c = recheck_within c.args.parts.now c.args.task c.in-Some.frame c.requires.reached c.requires.task (sym c.take.ensures.frame ∙ c.in-Some.is) c.in-Answered.key c.in-Answered.asked c.requires.next (sym c.replace.ensures.value ∙ c.in-Answered.is) (c.know.ensures.apart c.in-Answered.key)

pub returns : goal.returns
returns c =
    recheck_follows c.args.parts.now c.args.task c.in-Some.frame c.requires.reached c.requires.task (sym c.take.ensures.frame ∙ c.in-Some.is) c.in-Answered.key c.in-Answered.asked c.requires.next (sym c.replace.ensures.value ∙ c.in-Answered.is) (c.know.ensures.apart c.in-Answered.key)
    c.recheck-claim.new.self c.recheck-claim.ensures.others c.recheck-claim.ensures.kept c.recheck-claim.ensures.numbers
    c.recheck-claim.result c.recheck-claim.ensures.call c.recheck-claim.ensures.stands c.recheck-claim.ensures.row
    c.put.new.self (c.put.ensures ∙ rw (c.take.ensures.gone, c.closed.ensures, c.claiming-frame.ensures) refl)
