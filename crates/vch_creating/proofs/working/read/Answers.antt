use Rattle.std.proofs.Common.{ℕ, ◌≤◌, List, length, Some, ◌∙◌, sym, ap, subst}
use Rattle.std.specs.Option.{option_copied}
use Rattle.vch_machine.specs.Next.{nth_call}
use Rattle.vch_parts.specs.declared.frames.Working.{Working}
use Rattle.vch_parts.proofs.CallerLemmas.{desk_inside, task_inside}
use Rattle.vch_creating.proofs.forming.Codes.{own_code_of}
use Rattle.vch_creating.proofs.forming.Next.{inside}
use Rattle.vch_creating.proofs.working.read.Goals as goal

pub at-working-requires : goal.at-working-requires
at-working-requires c = record { task = task_inside c.args.parts.now c.args.task c.requires.reached c.requires.task }

pub read_record-requires-clause-task : goal.read_record-requires-clause-task
read_record-requires-clause-task c = desk_inside c.args.parts.now c.args.task c.requires.reached c.requires.task

pub read_record-requires-clause-inside : goal.read_record-requires-clause-inside
read_record-requires-clause-inside c =
    subst (λ (bytes : List ℕ). c.in-Some.frame.at ≤ length bytes) (sym c.as_slice.ensures)
    (inside c.args.parts.now c.args.task c.requires.reached c.requires.task c.requires.next c.in-Some-Create.bytes
    (sym (ap (λ (w : Working). nth_call c.args.parts.now.scenario c.args.task w.begun) c.at-working.ensures) ∙ (sym c.call.ensures ∙ (ap option_copied c.in-Some-Create.is ∙ ap Some c.in-Some-Create.field-0-is)))
    c.in-Some.frame (sym (ap (λ (w : Working). w.frame) c.at-working.ensures) ∙ c.in-Some.is))

pub returns-clause-other : goal.returns-clause-other
returns-clause-other c = own_code_of _ _ _ _ c.read_record.result c.read_record.ensures
