use Rattle.std.proofs.Common.{◌∙◌, ◌≤◌, sym, ap, subst, refl}
use Rattle.std.specs.Option.{option_copied}
use Rattle.vch_machine.specs.Next.{nth_call}
use Rattle.vch_parts.specs.declared.frames.Working.{Working}
use Rattle.vch_parts.specs.Moves.{moved_on}
use Rattle.vch_parts.proofs.CallerLemmas.{task_inside}
use Rattle.vch_making.proofs.questions.Loses.{lose_keys, lose_lets, lose_inside, lose_is}
use Rattle.vch_making.proofs.losing.lose.Goals as goal

pub at-requires : goal.at-requires
at-requires c = record { task = task_inside c.args.parts.now c.args.task c.requires.reached c.requires.task }

pub take-requires : goal.take-requires
take-requires c = record { task = task_inside c.args.parts.now c.args.task c.requires.reached c.requires.task }

pub put_index-requires-clause-keys : goal.put_index-requires-clause-keys
put_index-requires-clause-keys c = lose_keys c.args.parts.now c.args.task c.args.question c.requires.reached c.requires.task c.requires.next c.requires.asked c.in-Some.frame (sym c.take.ensures.frame ∙ c.in-Some.is)

pub put_index-requires-clause-lets : goal.put_index-requires-clause-lets
put_index-requires-clause-lets c = lose_lets c.args.parts.now c.args.task c.args.question c.requires.reached c.requires.task c.requires.next c.requires.asked c.in-Some.frame (sym c.take.ensures.frame ∙ c.in-Some.is)

pub move_on-requires : goal.move_on-requires
move_on-requires c = lose_inside c.args.parts.now c.args.task c.args.question c.requires.reached c.requires.task c.requires.next c.requires.asked c.in-Some.frame (sym c.take.ensures.frame ∙ c.in-Some.is) c.put_index.new.frame c.in-Some-call.call.now
    (ap (λ (w : Working). nth_call c.args.parts.now.scenario c.args.task w.begun) (sym c.at.ensures) ∙ sym c.call.ensures ∙ ap option_copied c.in-Some-call.is) c.put_index.ensures

pub returns : goal.returns
returns c = lose_is c.args.parts.now c.args.task c.args.question c.requires.reached c.requires.task c.requires.next c.requires.asked c.in-Some.frame (sym c.take.ensures.frame ∙ c.in-Some.is) c.put_index.new.frame c.move_on.new.self c.in-Some-call.call.now c.put.new.self
    (ap (λ (w : Working). nth_call c.args.parts.now.scenario c.args.task w.begun) (sym c.at.ensures) ∙ sym c.call.ensures ∙ ap option_copied c.in-Some-call.is) c.put_index.ensures
    (c.move_on.ensures ∙ ap (λ n. moved_on n c.in-Some-call.call.now c.put_index.new.frame) c.version.ensures.version)
    (c.put.ensures ∙ rw c.take.ensures.gone refl)

pub put-requires : goal.put-requires
put-requires c =
    let n = task_inside c.args.parts.now c.args.task c.requires.reached c.requires.task in
    record { task = (n.0, subst (λ k. c.args.task ≤ k) (sym c.take.ensures.many) n.1) }
