use Rattle.std.proofs.Common.{arith, ◌≡◌, ◌<◌, ◌+◌, length, ap, ◌∙◌, set}
use Rattle.std.proofs.lemmas.Grind.{common_steps}
use Rattle.vch_books.specs.Desks as desks
use Rattle.vch_books.specs.declared.rows.Named.{Named}
use Rattle.vch_books.proofs.NameRows.{more_at_place}
use Rattle.vch_books.proofs.names.one_more.Goals as goal

pub returns-then-index-name : goal.returns-then-index-name
returns-then-index-name c =
    let inside : c.loop-i.i < length c.loop-i.names.items = omega (arith, ap length c.loop-i.invariant.same) in
    let same : c.index_mut.result.now ≡ c.index.result.now = grind (arith, common_steps) in
    let counted : c.in_ok-refs.refs ≡ c.index_mut.result.now.refs + 1 = grind (arith, common_steps) in
    record {
      more = ap (λ k. set c.loop-i.names.items c.loop-i.i (record (c.index_mut.result.now) { refs = k })) counted
          ∙ more_at_place c.loop-i.names.items c.loop-i.i c.args.name c.index_mut.result.now inside c.index_mut.ensures.value
          (ap (λ (n : Named). n.name) same ∙ c.if-index-name.true)
          c.loop-i.invariant.rest
          ∙ ap (λ l. desks.one_more l c.args.name) c.loop-i.invariant.same;
      kept = tt;
    }
