use Rattle.std.proofs.Common.{◌∙◌, sym, ap, refl}
use Rattle.std.specs.Option.{option_copied}
use Rattle.vch_machine.specs.Next.{nth_call}
use Rattle.vch_parts.specs.declared.frames.Working.{Working}
use Rattle.vch_parts.proofs.CallerLemmas.{task_inside}
use Rattle.vch_making.proofs.refusals.Refuses.{refuse_is}
use Rattle.vch_making.proofs.refusing.end_with.Goals as goal

pub at-requires : goal.at-requires
at-requires c = record { task = task_inside c.args.parts.now c.args.task c.requires.reached c.requires.task }

pub take-requires : goal.take-requires
take-requires c = record { task = task_inside c.args.parts.now c.args.task c.requires.reached c.requires.task }

pub returns : goal.returns
returns c = refuse_is c.args.parts.now c.args.task c.requires.reached c.requires.task c.in-Some.frame c.in-Some-call.call.now c.args.code
    (sym c.take.ensures.frame ∙ c.in-Some.is)
    (ap (λ (w : Working). nth_call c.args.parts.now.scenario c.args.task w.begun) (sym c.at.ensures) ∙ sym c.call.ensures ∙ ap option_copied c.in-Some-call.is)
    c.put.new.self c.push.new.self
    (c.put.ensures ∙ rw (c.take.ensures.gone, c.closed.ensures, c.end_frame.ensures) refl)
    (c.push.ensures.entries ∙ rw (c.word_of-word.ensures, c.at.ensures) refl)
    c.push.ensures.spare
