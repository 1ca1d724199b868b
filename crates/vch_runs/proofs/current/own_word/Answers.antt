use Rattle.std.proofs.Common.{◌≡◌, sym, subst, None}
use Rattle.vch_machine.specs.Next.{nth_call}
use Rattle.vch_runs.proofs.Framed.{is_true}
use Rattle.vch_runs.proofs.OwnCalls.{own_there}
use Rattle.vch_runs.proofs.current.own_word.Goals as goal

pub unreachable-requires : goal.unreachable-requires
unreachable-requires c =
    own_there c.args.parts.now c.args.task c.requires.reached (is_true _ c.requires.task) c.requires.idle c.requires.next
    (subst (λ n. nth_call c.args.parts.now.scenario c.args.task n ≡ None) c.own_number.ensures (sym c.in-None.ensures))
