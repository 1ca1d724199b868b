use Rattle.vch_books.proofs.Naming.{named_less}
use Rattle.vch_books.proofs.names.Names.one_less.Goals as goal

pub invariant_of-self : goal.invariant_of-self
invariant_of-self c =
    let s = c.self.inside in
    named_less s.index c.forget.new.index s.rows.items c.one_less-gone.new.names.items c.args.name c.one_less-gone.result c.self.invariant c.one_less-gone.ensures.less c.one_less-gone.ensures.gone c.forget.ensures
