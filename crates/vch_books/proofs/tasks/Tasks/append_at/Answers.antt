use Rattle.std.proofs.Common.{◌≡◌, ◌<◌, ◌≤◌, ◌-◌, ◌∙◌, List, length, arith, sym, ap, refl, subst}
use Rattle.std.specs.Prelude.{slice_set, not}
use Rattle.vch_books.specs.Desks.{Desk, name_with}
use Rattle.vch_books.specs.Holding.{AreHeld, all_numbers}
use Rattle.vch_books.proofs.Holdings.{held_more, held_same}
use Rattle.vch_books.proofs.Tallies.{append_comes, append_stays}
use Rattle.vch_books.specs.declared.holders.Holders.{Holders}
use Rattle.vch_books.proofs.tasks.Tasks.append_at.Goals as goal

pub invariant_of-self : goal.invariant_of-self
invariant_of-self c =
    let s = c.self.inside in
    let w : (1 ≤ c.args.task) × (c.args.task ≤ length s.members.items) = subst (λ (ts : List Desk). (1 ≤ c.args.task) × (c.args.task ≤ length ts)) (sym c.self.view_is) c.requires in
    let i : c.args.task - 1 < length s.members.items = omega (arith, w.0, w.1) in
    subst (λ (d : Desk). AreHeld c.add.new.self (all_numbers (slice_set s.members.items (c.args.task - 1) d))) (sym c.in_ok-append.ensures)
    (held_more c.deref_mut.result.now c.add.new.self s.members.items (c.args.task - 1) c.in-Some.voucher c.index_mut.result.now _ i c.index_mut.ensures.value
    (append_comes c.index_mut.result.now c.args.message c.in-Some.voucher c.in-Some.is) (subst (λ (h : Holders). AreHeld h (all_numbers s.members.items)) (sym c.deref_mut.ensures.value) c.self.invariant) c.in_ok-add.ensures)

pub invariant_of-self-in_default : goal.invariant_of-self-in_default
invariant_of-self-in_default c =
    let s = c.self.inside in
    subst (λ (d : Desk). AreHeld s.holders.value (all_numbers (slice_set s.members.items (c.args.task - 1) d))) (sym c.in_ok-append.ensures)
    (held_same s.holders.value s.members.items (c.args.task - 1) c.index_mut.result.now _ c.index_mut.ensures.value
    (append_stays c.index_mut.result.now c.args.message c.in_default.is) c.self.invariant)
