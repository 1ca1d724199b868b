use Rattle.std.proofs.Common.{◌∙◌, sym, refl}
use Rattle.vch_parts.proofs.counts.Few.{claims_few}
use Rattle.vch_parts.proofs.follows.Follow.{let_go_follows}
use Rattle.vch_parts.proofs.follows.Needs.{let_go_there, let_go_counts}
use Rattle.vch_parts.proofs.let_go.let_go.Goals as goal

pub let_go-claim-requires-clause-there : goal.let_go-claim-requires-clause-there
let_go-claim-requires-clause-there c =
    let_go_there c.args.parts.now c.args.task c.in-Some.frame c.requires.reached c.requires.task (sym c.take.ensures.frame ∙ c.in-Some.is)
    c.in-Some-take_first.first c.take_first.new.self c.requires.next c.in-Some-take_first.ensures.first

pub let_go-claim-requires-clause-counts : goal.let_go-claim-requires-clause-counts
let_go-claim-requires-clause-counts c =
    let_go_counts c.args.parts.now c.args.task c.in-Some.frame c.requires.reached c.requires.task (sym c.take.ensures.frame ∙ c.in-Some.is)
    c.in-Some-take_first.first c.take_first.new.self c.requires.next c.in-Some-take_first.ensures.first (c.know.ensures.apart c.in-Some-take_first.first.key)

pub count_claim-requires : goal.count_claim-requires
count_claim-requires c = claims_few c.args.parts.now c.requires.reached

pub returns : goal.returns
returns c =
    let_go_follows c.args.parts.now c.args.task c.in-Some.frame c.requires.reached c.requires.task (sym c.take.ensures.frame ∙ c.in-Some.is)
    c.in-Some-take_first.first c.take_first.new.self c.requires.next c.in-Some-take_first.ensures.first
    c.let_go-claim.new.self c.let_go-claim.ensures.others c.let_go-claim.ensures.kept c.let_go-claim.ensures.numbers
    c.let_go-claim.result c.let_go-claim.ensures.call c.let_go-claim.ensures.stands c.let_go-claim.ensures.row c.put.new.self c.count_claim.new.tally
    (c.put.ensures ∙ rw (c.take.ensures.gone, c.closed.ensures, c.claiming-frame.ensures) refl) c.count_claim.ensures
