use Rattle.std.proofs.Common.{ap, ◌∙◌, Option, List}
use Rattle.vch_machine.specs.State.{Handles, Named, valued_option}
use Rattle.vch_machine.specs.Naming.{handles_of}
use Rattle.vch_plain.proofs.SeenReplies.{named_seen}
use Rattle.vch_plain.proofs.reply.seen.named.Goals as goal

pub returns : goal.returns
returns c = ap (λ (v : Option Handles). valued_option c.args.machine.now.live v)
    (c.handles_of.ensures ∙ ap (λ (names : List Named). handles_of names c.args.name) c.names_of.ensures)
    ∙ named_seen c.args.machine.now c.args.task c.args.name
