use Rattle.std.proofs.Common.{◌≡◌, sym, ap, ◌∙◌, subst, List}
use Rattle.vch_machine.specs.State.{Living, Machine, value_at}
use Rattle.vch_plain.specs.Answers.{HaveTask}
use Rattle.vch_plain.proofs.asking.live_value.Goals as goal

pub returns-clause-have : goal.returns-clause-have
returns-clause-have c =
    let live : c.as_slice.result.now ≡ c.args.machine.now.live = c.as_slice.ensures.value ∙ ap (λ (m : Machine). m.live) c.machine.view_is in
    subst HaveTask (sym (c.value_at.ensures ∙ ap (λ (l : List Living). value_at l c.args.key c.args.handle) live)) (c.requires.have c.args.key c.args.handle)
