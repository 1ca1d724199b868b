use Rattle.std.proofs.Common.{List, sym, subst}
use Rattle.vch_books.specs.declared.rows.Named.{Named}
use Rattle.vch_books.specs.Naming.{IsNamed}
use Rattle.vch_books.proofs.Naming.{named_more}
use Rattle.vch_books.proofs.names.Names.one_more.Goals as goal

pub invariant_of-self : goal.invariant_of-self
invariant_of-self c = subst (λ (l : List Named). IsNamed c.self.inside.index l) (sym c.in_err-one_more.ensures.kept) c.self.invariant

pub invariant_of-self-2 : goal.invariant_of-self-2
invariant_of-self-2 c = named_more c.self.inside.index c.self.inside.rows.items c.one_more.new.names.items c.args.name c.self.invariant c.in_ok-one_more.ensures.more
