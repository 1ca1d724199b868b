use Rattle.std.proofs.Common.{◌∙◌, sym}
use Rattle.std.proofs.lemmas.Result.{on_ok_weaker}
use Rattle.vch_sums.proofs.Following.{released_follows, released_there}
use Rattle.vch_sums.proofs.sums.Sums.released.Goals as goal

pub returns-in-Some : goal.returns-in-Some
returns-in-Some c = on_ok_weaker c.settle.result
    (λ s sc past h is. released_follows sc past c.args.number h c.in-Some.row c.args.self.now c.settle.new.self (sym c.row.ensures ∙ c.in-Some.is) s is)
    c.settle.ensures

pub returns-in-None : goal.returns-in-None
returns-in-None c = λ sc past h is. absurd (released_there sc past c.args.number h c.args.self.now (sym c.row.ensures ∙ c.in-None.is) is)
