use Rattle.std.proofs.Common.{sym, ◌∙◌}
use Rattle.vch_books.specs.Living.{found}
use Rattle.vch_books.proofs.Indexing.{number_is}
use Rattle.vch_books.proofs.live.Live.find.Goals as goal

pub returns : goal.returns
returns c =
    let s = c.self.inside in
    rw (← c.self.view_is) (c.copied.ensures ∙ (c.get.ensures.value ∙ sym (number_is (found s.index) s.history.now.entries s.numbers.keys c.args.key c.args.value.now c.self.invariant.finds)))
