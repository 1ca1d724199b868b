use Rattle.vch_plain.proofs.Leading.{keeps_of}
use Rattle.vch_plain.proofs.Outcomes.{if_ok}
use Rattle.vch_plain.proofs.Starting.{same_plain}
use Rattle.vch_plain.proofs.play.play_plain.Goals as goal

pub tell-requires : goal.tell-requires
tell-requires c = record { keeps = keeps_of c.args.scenario.now c.finish.new.run c.in_ok-finish.ensures.going }

pub returns-clause-history : goal.returns-clause-history
returns-clause-history c =
    if_ok c.tell.result c.tell.ensures.history (λ p e. same_plain c.args.scenario.now p.history.entries c.finish.new.run.machine.past e c.in_ok-finish.ensures.plain)
