use Rattle.std.proofs.Common.{◌≡◌, ℕ, ◌+◌, ap, arith, refl, sym, ◌∙◌, subst, cond, Option, Some}
use Rattle.std.specs.Prelude.{is_some, IsSome, if◌then◌else◌}
use Rattle.std.specs.Option.{unwrap_or}
use Rattle.indexmap.specs.IndexMap.{get, index_map_len}
use Rattle.vch_books.proofs.CountLists.{added}
use Rattle.vch_books.proofs.counter.Counter.add.Goals as goal

alone : (a b c : ℕ) → a ≡ b → c ≡ 0 → a ≡ b + c
alone a b c e z = omega (arith, e, z)

pub returns-in-Some-clause-counted : goal.returns-in-Some-clause-counted
returns-in-Some-clause-counted g c = λ front back k.
    let m = c.args.self.now.counts in
    let n = c.in_ok-count.field-0 in
    let w = c.get_mut.follows.holds n in
    let is = c.in-Some.ensures.value in
    let there : IsSome (get g.T.PartialEq.eq m c.args.item) = subst (λ (o : Option ℕ). IsSome o) is refl in
    added g.T.PartialEq.eq g.met.T.Eq.laws m (c.get_mut.follows.lender n) front back c.args.item n k
    (c.in_ok-count.ensures ∙ ap (λ (o : Option ℕ). unwrap_or o 0 + 1) is)
    (λ q. (w.3 there).0 q)
    (alone _ _ _ w.2 (ap (λ (o : Option ℕ). if is_some o then 0 else 1) (sym is)))

pub returns-clause-counted : goal.returns-clause-counted
returns-clause-counted g c = λ front back k.
    let eq = g.T.PartialEq.eq in
    let x = c.args.item in
    let kept = c.get_mut.follows.holds-at-none in
    added eq g.met.T.Eq.laws c.args.self.now.counts c.insert.new.self front back x 1 k
    (ap (λ (o : Option ℕ). unwrap_or o 0 + 1) c.in_default.ensures.value)
    (λ q. c.in_ok-insert.ensures.updates.0 q ∙ ap (λ l. cond (eq x q) (Some 1) (get eq l q)) kept)
    (c.in_ok-insert.ensures.len ∙ (ap (λ (o : Option ℕ). index_map_len c.get_mut.follows.lender-at-none + (if is_some o then 0 else 1)) c.in_ok-insert.ensures.old
    ∙ ap (λ l. index_map_len l + (if is_some (get eq l x) then 0 else 1)) kept))
