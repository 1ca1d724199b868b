use Rattle.std.proofs.Common.{◌≡◌, ℕ, List, Some, None, cond, ap, sym, ◌∙◌, subst}
use Rattle.std.specs.Map.{lookup}
use Rattle.vch_books.specs.declared.numbers.Numbers.{Numbers}
use Rattle.vch_books.specs.declared.rows.Named.{Named}
use Rattle.vch_books.specs.Desks.{same_numbers, name_with}
use Rattle.vch_books.proofs.Naming.{named_end}
use Rattle.vch_books.proofs.names.Names.push.Goals as goal

pub invariant_of-self-2 : goal.invariant_of-self-2
invariant_of-self-2 c =
    let s = c.self.inside in
    let n : Named = c.args.named in
    let none : name_with s.rows.items n.voucher ≡ None = subst (λ (l : List Named). name_with l n.voucher ≡ None) (sym c.self.view_is) c.requires in
    let u = rw c.unwrap.ensures at c.insert.ensures.updates in
    named_end s.index c.insert.new.self s.rows.items c.push_back.new.self.items n c.self.invariant none c.in_ok-push_back.ensures.items
    (λ q. u.0 q ∙ ap (λ (es : List (Numbers × ℕ)). cond (same_numbers n.voucher q) (Some n.name) (lookup (same_numbers q) es)) c.in_ok-reserve.ensures.entries)
