use Rattle.std.proofs.Common.{arith, ◌≤◌, ◌∙◌, sym, ap, subst, refl, length, take}
use Rattle.vch_base.specs.Keyed.{of_key}
use Rattle.vch_base.specs.Managers as managers
use Rattle.vch_base.specs.Managers.{answer}
use Rattle.vch_value.specs.Calls.{Makes, previous_handle}
use Rattle.vch_model.specs.declared.lists.Scenario.{Scenario}
use Rattle.vch_machine.specs.Next.{nth_call}
use Rattle.vch_parts.specs.declared.frames.Working.{Working}
use Rattle.vch_parts.specs.Pictures.{picture_of}
use Rattle.vch_parts.specs.Reached.{plain_of}
use Rattle.vch_parts.proofs.CallerLemmas.{task_inside}
use Rattle.vch_moves.proofs.CallerLemmas.{from_state, stands_of, ties_of}
use Rattle.vch_making.specs.Asked.{content_by}
use Rattle.vch_making.specs.Answers.{receipts_in, place_of}
use Rattle.vch_making.proofs.questions.Bounds.{tasks_few, tasks_there, slots_few, counts_few, flying_few, flights_are, knows_task}
use Rattle.vch_making.proofs.questions.Previous.{previous_there, previous_is_live}
use Rattle.vch_making.proofs.asking.ask.Goals as goal

pub flying-flying-requires-clause-few : goal.flying-flying-requires-clause-few
flying-flying-requires-clause-few c = subst (λ n. n ≤ 64) (sym (c.len-tasks.ensures ∙ ap (λ (s : Scenario). length s.flags) c.scenario.ensures)) (tasks_few c.args.parts.now c.requires.reached)

pub flying-flying-requires-clause-there : goal.flying-flying-requires-clause-there
flying-flying-requires-clause-there c = subst (λ n. n ≤ length c.args.parts.now.frames) (sym (c.len-tasks.ensures ∙ ap (λ (s : Scenario). length s.flags) c.scenario.ensures)) (tasks_there c.args.parts.now c.requires.reached)

pub at-working-requires : goal.at-working-requires
at-working-requires c = record { task = task_inside c.args.parts.now c.args.task c.requires.reached c.requires.task }

pub make-requires-clause-flying : goal.make-requires-clause-flying
make-requires-clause-flying c = subst (λ n. n ≤ 64) (sym (c.flying-flying.ensures ∙ ap (λ n. length (receipts_in c.args.question.key (take n c.args.parts.now.frames))) (c.len-tasks.ensures ∙ ap (λ (s : Scenario). length s.flags) c.scenario.ensures))) (flying_few c.args.parts.now c.requires.reached c.args.question.key)

pub make-requires-clause-known : goal.make-requires-clause-known
make-requires-clause-known c = knows_task c.args.parts.now c.args.task c.args.question.key c.requires.reached c.requires.task

pub make-requires-clause-there : goal.make-requires-clause-there
make-requires-clause-there c = from_state c.args.parts.now _ c.requires.reached (λ m st. previous_there c.args.parts.now c.args.task c.args.question c.requires.reached c.requires.task c.requires.next c.requires.asked m st)

pub make-requires-clause-live : goal.make-requires-clause-live
make-requires-clause-live c = from_state c.args.parts.now _ c.requires.reached (λ m st. previous_is_live c.args.parts.now c.args.task c.args.question c.requires.reached c.requires.task c.requires.next c.requires.asked m st)

pub make-requires-clause-handles : goal.make-requires-clause-handles
make-requires-clause-handles c = let a = slots_few c.args.parts.now c.requires.reached c.args.question.key in omega (arith, a)

pub make-requires-clause-counts : goal.make-requires-clause-counts
make-requires-clause-counts c = counts_few c.args.parts.now c.requires.reached c.args.question.key

pub returns : goal.returns
returns c = record {
  others = refl;
  keyed = c.make.ensures.others;
  slots = c.make.ensures.entries.0;
  places = c.make.ensures.entries.1;
  numbers = c.make.ensures.numbers;
  call = subst (λ content. Makes (of_key c.args.question.key c.args.parts.now.values).kept (answer (of_key c.args.question.key c.args.parts.now.values).kept.rules c.args.task c.args.question.command
      (managers.previous_of (of_key c.args.question.key c.args.parts.now.values).kept.slots (previous_handle (of_key c.args.question.key c.args.parts.now.values).entries.slots c.args.question.previous)) content) c.make.result (of_key c.args.question.key c.make.new.self).kept)
      (c.content_at-content.ensures
      ∙ ap (λ n. content_by n (nth_call c.args.parts.now.scenario c.args.task c.at-working.result.now.begun)) c.place-at.ensures
      ∙ ap (λ (w : Working). content_by (place_of w.frame) (nth_call c.args.parts.now.scenario c.args.task w.begun)) c.at-working.ensures)
      c.make.ensures.call;
  stands = λ m st. c.make.ensures.stands (picture_of c.args.question.key (plain_of c.args.parts.now) m)
      (flights_are c.args.parts.now c.requires.reached c.args.question.key m (stands_of _ _ m st) (ties_of _ _ m st)
      ∙ sym (c.flying-flying.ensures ∙ ap (λ n. length (receipts_in c.args.question.key (take n c.args.parts.now.frames))) (c.len-tasks.ensures ∙ ap (λ (s : Scenario). length s.flags) c.scenario.ensures)))
      ((stands_of _ _ m st).keyed c.args.question.key).counts;
}
