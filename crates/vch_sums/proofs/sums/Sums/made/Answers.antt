use Rattle.std.proofs.Common.{◌∙◌, ap, subst}
use Rattle.std.proofs.lemmas.Result.{on_ok_weaker}
use Rattle.vch_sums.specs.Steps.{Gains, share_weight}
use Rattle.vch_sums.specs.declared.row.Share.{Share}
use Rattle.vch_sums.proofs.Following.{made_follows}
use Rattle.vch_sums.proofs.sums.Sums.made.Goals as goal

pub returns : goal.returns
returns c = on_ok_weaker c.put_more.result
    (λ g past key number h is. made_follows c.args.scenario.now past key c.args.value.now h c.args.number c.in_ok-gained.gained c.args.self.now c.put_more.new.self
    number
    (c.in_ok-gained.ensures ∙ ap (λ (s : Share). share_weight s 0) c.share_of-share.ensures)
    (subst (λ (s : Share). Gains c.args.number (record { share = s; amount = 0 }) c.in_ok-gained.gained c.args.self.now c.put_more.new.self)
    c.share_of-share.ensures g) is)
    c.put_more.ensures
