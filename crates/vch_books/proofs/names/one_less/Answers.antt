use Rattle.std.proofs.Common.{arith, ◌≡◌, ◌<◌, length, ap, sym, ◌∙◌, get_or, inl, inr}
use Rattle.std.proofs.lemmas.Grind.{common_steps}
use Rattle.vch_books.specs.Desks as desks
use Rattle.vch_books.specs.declared.rows.Named.{Named}
use Rattle.vch_books.proofs.NameRows.{less_at_place, less_at_gone, stays_at_place, gone_at_place}
use Rattle.vch_books.proofs.names.one_less.Goals as goal

pub returns-then-index-name : goal.returns-then-index-name
returns-then-index-name c =
    let inside : c.loop-i.i < length c.loop-i.names.items = omega (arith, ap length c.loop-i.invariant.same) in
    let n : Named = c.lessen.ensures.0 in
    let is : n ≡ get_or c.loop-i.names.items c.loop-i.i n = c.lessen.ensures.1 in
    let same : n ≡ c.index.result.now = grind (arith, common_steps) in
    let named = ap (λ (x : Named). x.name) same ∙ c.if-index-name.true in
    let last = ap (λ l. desks.one_less l c.args.name) c.loop-i.invariant.same in
    let start = c.loop-i.invariant.gone in
    elim c.lessen.ensures.2 [
      | inl p ↦ record {
        less = p.1 ∙ less_at_place c.loop-i.names.items c.loop-i.i c.args.name n inside is named p.0 c.loop-i.invariant.rest ∙ last;
        gone = p.2 ∙ sym (stays_at_place c.loop-i.names.items c.loop-i.i c.args.name n inside is named p.0) ∙ start;
      }
      | inr p ↦ record {
        less = p.1 ∙ less_at_gone c.loop-i.names.items c.loop-i.i c.args.name n inside is named p.0 c.loop-i.invariant.rest ∙ last;
        gone = p.2 ∙ sym (gone_at_place c.loop-i.names.items c.loop-i.i c.args.name n inside is named p.0) ∙ start;
      }
    ]
