use Rattle.vch_books.proofs.Naming.{named_without}
use Rattle.vch_books.proofs.names.Names.without.Goals as goal

pub invariant_of-self : goal.invariant_of-self
invariant_of-self c =
    let s = c.self.inside in
    named_without s.index c.forget.new.index s.rows.items c.without-gone.new.names.items c.args.name c.without-gone.result c.self.invariant c.without-gone.ensures.less c.without-gone.ensures.gone c.forget.ensures
