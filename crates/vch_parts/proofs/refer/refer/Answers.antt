use Rattle.std.proofs.Common.{◌∙◌, ◌≤◌, sym, ap, subst, refl}
use Rattle.std.specs.Option.{option_copied}
use Rattle.vch_machine.specs.Next.{nth_call}
use Rattle.vch_parts.specs.declared.frames.Working.{Working}
use Rattle.vch_parts.specs.Moves.{moved_on}
use Rattle.vch_parts.proofs.counts.Few.{refers_few}
use Rattle.vch_parts.proofs.follows.Follow.{refer_follows}
use Rattle.vch_parts.proofs.follows.Needs.{refer_call, refer_inside, refer_room, refer_keys, refer_lets}
use Rattle.vch_parts.proofs.framing.OfParts.{task_inside}
use Rattle.vch_parts.proofs.refers.RefersNeeds.{refer_counts}
use Rattle.vch_parts.proofs.refer.refer.Goals as goal

pub returns-in_default-call : goal.returns-in_default-call
returns-in_default-call c = absurd (refer_call c.args.parts.now c.args.task c.in-Some.frame c.requires.reached c.requires.task (sym c.take.ensures.frame ∙ c.in-Some.is) c.in-Some-take.taken (sym c.take-2.ensures.value ∙ c.in-Some-take.is)
    (ap (λ (w : Working). nth_call c.args.parts.now.scenario c.args.task w.begun) (sym c.at.ensures) ∙ sym c.call.ensures ∙ ap option_copied c.in_default-call.is))

pub refer-index-requires-clause-room : goal.refer-index-requires-clause-room
refer-index-requires-clause-room c = refer_room c.args.parts.now c.args.task c.in-Some.frame c.requires.reached c.requires.task (sym c.take.ensures.frame ∙ c.in-Some.is) c.in-Some-take.taken (sym c.take-2.ensures.value ∙ c.in-Some-take.is)

pub refer-index-requires-clause-counts : goal.refer-index-requires-clause-counts
refer-index-requires-clause-counts c = refer_counts c.args.parts.now c.in-Some-take.taken.key c.in-Some-take.taken.receipt.handle c.requires.reached (c.know.ensures.apart c.in-Some-take.taken.key)

pub count_refer-requires : goal.count_refer-requires
count_refer-requires c = refers_few c.args.parts.now c.requires.reached

pub put_index-requires-clause-keys : goal.put_index-requires-clause-keys
put_index-requires-clause-keys c = refer_keys c.args.parts.now c.args.task c.in-Some.frame c.requires.reached c.requires.task (sym c.take.ensures.frame ∙ c.in-Some.is) c.in-Some-take.taken (sym c.take-2.ensures.value ∙ c.in-Some-take.is)

pub put_index-requires-clause-lets : goal.put_index-requires-clause-lets
put_index-requires-clause-lets c = refer_lets c.args.parts.now c.args.task c.in-Some.frame c.requires.reached c.requires.task (sym c.take.ensures.frame ∙ c.in-Some.is) c.in-Some-take.taken (sym c.take-2.ensures.value ∙ c.in-Some-take.is)

pub move_on-requires : goal.move_on-requires
move_on-requires c = refer_inside c.args.parts.now c.args.task c.in-Some.frame c.requires.reached c.requires.task (sym c.take.ensures.frame ∙ c.in-Some.is) c.in-Some-take.taken (sym c.take-2.ensures.value ∙ c.in-Some-take.is)
    c.in-Some-call.call.now c.refer-index.result c.put_index.new.frame (ap (λ (w : Working). nth_call c.args.parts.now.scenario c.args.task w.begun) (sym c.at.ensures) ∙ sym c.call.ensures ∙ ap option_copied c.in-Some-call.is) (rw c.take-2.ensures.after at c.put_index.ensures)

pub put-requires : goal.put-requires
put-requires c =
    let n = task_inside c.args.parts.now c.args.task c.requires.reached c.requires.task in
    record { task = (n.0, subst (λ k. c.args.task ≤ k) (sym c.take.ensures.many) n.1) }

pub returns : goal.returns
returns c = refer_follows c.args.parts.now c.args.task c.in-Some.frame c.requires.reached c.requires.task (sym c.take.ensures.frame ∙ c.in-Some.is) c.in-Some-take.taken (sym c.take-2.ensures.value ∙ c.in-Some-take.is)
    c.refer-index.new.self c.refer-index.ensures.others c.refer-index.ensures.kept c.refer-index.ensures.numbers
    c.refer-index.result c.put_index.new.frame c.move_on.new.self c.in-Some-call.call.now
    (ap (λ (w : Working). nth_call c.args.parts.now.scenario c.args.task w.begun) (sym c.at.ensures) ∙ sym c.call.ensures ∙ ap option_copied c.in-Some-call.is)
    c.refer-index.ensures.call c.refer-index.ensures.stands (rw c.take-2.ensures.after at c.put_index.ensures)
    (c.move_on.ensures ∙ ap (λ n. moved_on n c.in-Some-call.call.now c.put_index.new.frame) c.version.ensures.version)
    c.put.new.self c.count_refer.new.tally (c.put.ensures ∙ rw c.take.ensures.gone refl) c.count_refer.ensures
