use Rattle.std.proofs.Common.{ap, ◌∙◌, ◌+◌, List}
use Rattle.vch_machine.specs.State.{Tasked}
use Rattle.vch_plain.specs.Counted.{all_handles, different_handles}
use Rattle.vch_plain.proofs.SeenReplies.{living_seen}
use Rattle.vch_plain.proofs.reply.living.Goals as goal

pub returns : goal.returns
returns c = living_seen c.args.scenario.now c.args.machine.now c.args.task c.in_ok-vouchers.vouchers c.in_ok-values.values
    c.requires.keeps.ties.fits c.requires.keeps.ties.same_store
    (c.in_ok-vouchers.ensures ∙ ap (λ (xs : List Tasked). different_handles (all_handles xs)) c.tasks_of.ensures)
    (c.in_ok-values.ensures ∙ ap (λ n. n + 1) (c.live.ensures.live c.args.scenario.now c.args.machine.now.past c.requires.keeps.summed))
