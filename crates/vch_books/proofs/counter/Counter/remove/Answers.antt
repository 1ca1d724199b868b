use Rattle.std.proofs.Common.{◌≡◌, ◌+◌, ◌++◌, ◌∷◌, ℕ, ◌-◌, ap, arith, refl, sym, ◌∙◌, subst, cond, Option, Some}
use Rattle.std.specs.Prelude.{is_some, IsSome, if◌then◌else◌}
use Rattle.std.specs.Map.{count_at}
use Rattle.std.specs.Option.{unwrap_or}
use Rattle.indexmap.specs.IndexMap.{get, index_map_len}
use Rattle.vch_books.specs.Counts.{Counts}
use Rattle.vch_books.proofs.CountLists.{removed_last, removed_one, unwritten}
use Rattle.vch_books.proofs.counter.Counter.remove.Goals.{in-Some+else-count-gt1, in_default}
use Rattle.vch_books.proofs.counter.Counter.remove.Goals as goal

pub returns-then-count-gt1-clause-counted : goal.returns-then-count-gt1-clause-counted
returns-then-count-gt1-clause-counted g c = λ front back k.
    let n = c.in-Some.count.now in
    let w = c.get_mut.follows.holds (n - 1) in
    removed_one g.T.PartialEq.eq g.met.T.Eq.laws c.args.self.now.counts (c.get_mut.follows.lender (n - 1)) front back c.args.item.now n k
    (ap (λ (o : Option ℕ). unwrap_or o 0) c.in-Some.ensures.value) (omega (arith, c.if-count-gt1.true)) (λ s q. (w.3 s).0 q) w.2

pub returns-clause-counted : goal.returns-clause-counted
returns-clause-counted g c = λ front back k.
    let eq = g.T.PartialEq.eq in
    let laws = g.met.T.Eq.laws in
    let m = c.args.self.now.counts in
    let m1 = c.match-get_mut.self.counts in
    let x = c.args.item.now in
    let length = ap (λ (o : Option ℕ). index_map_len c.swap_remove.new.self + (if is_some o then 1 else 0)) (sym c.swap_remove.ensures.value) ∙ c.swap_remove.ensures.len in
    elim c.match-get_mut.branch [
      | in-Some+else-count-gt1 w ↦
          let n = w.in-Some.count.now in
          let is : Some n ≡ get eq m x = w.in-Some.ensures.value in
          let h = c.get_mut.follows.holds n in
          let there : IsSome (get eq m x) = subst (λ (o : Option ℕ). IsSome o) is refl in
          let counts : Counts eq m1 (front ++ x ∷ back) =
          subst (λ l. Counts eq l (front ++ x ∷ back)) (sym (ap (λ s. s.counts) w.self-is))
          (unwritten eq laws m (c.get_mut.follows.lender n) (front ++ x ∷ back) x n k is (λ q. (h.3 there).0 q) h.2) in
          let at : get eq m1 x ≡ Some n =
          ap (λ l. get eq l x) (ap (λ s. s.counts) w.self-is)
          ∙ ((h.3 there).0 x ∙ ap (λ b. cond b (Some n) (get eq m x)) (laws.refl x)) in
          removed_last eq laws m1 c.swap_remove.new.self front back x n counts
          (ap (λ (o : Option ℕ). unwrap_or o 0) (sym at)) (omega (arith, w.if-count-gt1.false)) (λ q. c.swap_remove.ensures.updates.0 q) length
      | in_default w ↦
          let same : m1 ≡ m = ap (λ s. s.counts) w.self-is ∙ c.get_mut.follows.holds-at-none in
          let counts : Counts eq m1 (front ++ x ∷ back) = subst (λ l. Counts eq l (front ++ x ∷ back)) (sym same) k in
          let none : 0 ≡ count_at (get eq m1) x = ap (λ (o : Option ℕ). unwrap_or o 0) (w.in_default.ensures.value ∙ ap (λ l. get eq l x) (sym same)) in
          removed_last eq laws m1 c.swap_remove.new.self front back x 0 counts none (omega arith) (λ q. c.swap_remove.ensures.updates.0 q) length
    ]
