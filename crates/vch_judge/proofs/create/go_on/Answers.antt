use Rattle.std.proofs.Common.{◌≡◌, Ok, Err, subst, sym, drop, length}
use Rattle.vch_recipe.specs.Recipes.{first_of}
use Rattle.vch_model.specs.Eval.{eval}
use Rattle.vch_judge.specs.Creates.{names_at, IsGoing}
use Rattle.vch_judge.specs.Formed.{IsResult}
use Rattle.vch_judge.proofs.Reading.{Read, read_one, read_end, read_cut}
use Rattle.vch_judge.proofs.Creating.{steps_on, steps_refused, steps_end, steps_cut}
use Rattle.vch_judge.proofs.create.go_on.Goals as goal

pub returns-in-Ok : goal.returns-in-Ok
returns-in-Ok c = λ map h.
    let x : Read (first_of (drop c.args.at c.args.bytes.now)) (length c.args.bytes.now) (record { key = c.in-One.key; command = c.in-One.command; previous = c.in-One.previous; content = c.in-One.content.now }) c.in-One.next =
    read_one _ _ c.next_recipe.result _ _ _ _ _ c.next_recipe.ensures c.in-One.is in
    steps_on c.args.books.now c.args.task c.args.bytes.now c.args.at map _ x.rest c.in-One.next c.in-Ok.formed c.asks_manager-asked.result c.requires.inside x.first x.place
    c.asks_manager-asked.ensures (subst (λ o. IsResult c.args.books.now o (eval c.args.books.now.scenario.version (names_at c.args.books.now c.args.task) c.args.task (record { key = c.in-One.key; command = c.in-One.command; previous = c.in-One.previous; content = c.in-One.content.now }) map)) c.in-Ok.is (c.in_ok-formed-in-One.ensures map h))

pub returns-in-Err : goal.returns-in-Err
returns-in-Err c = λ map h.
    let x : Read (first_of (drop c.args.at c.args.bytes.now)) (length c.args.bytes.now) (record { key = c.in-One.key; command = c.in-One.command; previous = c.in-One.previous; content = c.in-One.content.now }) c.in-One.next =
    read_one _ _ c.next_recipe.result _ _ _ _ _ c.next_recipe.ensures c.in-One.is in
    steps_refused c.args.books.now c.args.task c.args.bytes.now c.args.at map _ x.rest c.in-Err.code c.asks_manager-asked.result x.first
    c.asks_manager-asked.ensures (subst (λ o. IsResult c.args.books.now o (eval c.args.books.now.scenario.version (names_at c.args.books.now c.args.task) c.args.task (record { key = c.in-One.key; command = c.in-One.command; previous = c.in-One.previous; content = c.in-One.content.now }) map)) c.in-Err.is (c.in_ok-formed-in-One.ensures map h))

pub returns-in-End : goal.returns-in-End
returns-in-End c = λ map h. steps_end c.args.books.now c.args.task (drop c.args.at c.args.bytes.now) map c.args.formed
    (read_end _ _ c.next_recipe.result c.next_recipe.ensures c.in-End.is) h

pub returns-in_default : goal.returns-in_default
returns-in_default c = λ map h. subst (IsGoing c.args.books.now c.args.task c.args.bytes.now c.args.at map) (sym c.cut.ensures)
    (steps_cut c.args.books.now c.args.task (drop c.args.at c.args.bytes.now) map
    (read_cut _ _ c.next_recipe.result c.next_recipe.ensures (λ key command previous content next e. c.in_default.not-One key command previous content next e) c.in_default.not-End))
