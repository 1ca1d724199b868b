use Rattle.std.proofs.Common.{◌≤◌, ap, sym, subst, length}
use Rattle.vch_books.specs.Audits.{Audit}
use Rattle.vch_books.specs.Kept.{Lists, Keeps}
use Rattle.std.specs.Prelude.{List, MatchOption}
use Rattle.std.specs.List.{AllByRecursion}
use Rattle.vch_base.specs.Tasks.{at_task}
use Rattle.vch_model.specs.Legal.{EachTask}
use Rattle.vch_script.specs.Places.{spots_of}
use Rattle.vch_books.specs.Desks.{Desk, empty_desk}
use Rattle.vch_books.specs.Turns.{IsShort}
use Rattle.vch_books.specs.declared.turns.Uncalled.{Uncalled}
use Rattle.vch_books.proofs.Ends.{all_few, match_uncalled}
use Rattle.vch_books.proofs.books.Books.first_uncalled.Goals as goal

pub first_short-requires-clause-small : goal.first_short-requires-clause-small
first_short-requires-clause-small c =
    let s = c.self.inside in
    let a = c.args.self.now in
    let l : Lists = record { tasks = s.tasks; live = s.live.value.numbers; phases = s.phases; places = s.places; sums = s.sums.value } in
    let k : Keeps a l = subst (λ (x : Audit). Keeps x l) c.self.view_is c.self.invariant in
    let own = ap (λ (x : Audit). x.history) c.self.view_is in
    all_few a l k

pub returns : goal.returns
returns c =
    let s = c.self.inside in
    let a = c.args.self.now in
    let l : Lists = record { tasks = s.tasks; live = s.live.value.numbers; phases = s.phases; places = s.places; sums = s.sums.value } in
    let k : Keeps a l = subst (λ (x : Audit). Keeps x l) c.self.view_is c.self.invariant in
    let own = ap (λ (x : Audit). x.history) c.self.view_is in
    match_uncalled a l c.first_short.result k c.first_short.ensures
