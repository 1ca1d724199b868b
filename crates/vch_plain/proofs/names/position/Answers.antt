use Rattle.std.proofs.Common.{◌<◌, length, arith, sym, ap, ◌∙◌}
use Rattle.vch_machine.specs.State.{Named}
use Rattle.vch_plain.proofs.NamePlaces.{searched_first, found_here, searched_next}
use Rattle.vch_plain.proofs.names.position.Goals as goal

pub loop-i-init : goal.loop-i-init
loop-i-init c = searched_first c.args.names.now c.args.name

pub returns-then-named-name : goal.returns-then-named-name
returns-then-named-name c =
    let inside : c.loop-i.i < length c.args.names.now = omega arith in
    (inside, found_here c.args.names.now c.args.name c.loop-i.i c.index-names-i.result inside c.index-names-i.is (sym (ap (λ (n : Named). n.name) c.named.view_is) ∙ c.if-named-name.true) c.loop-i.invariant)

pub loop-i-preserved : goal.loop-i-preserved
loop-i-preserved c =
    let inside : c.loop-i.i < length c.args.names.now = omega arith in
    searched_next c.args.names.now c.args.name c.loop-i.i c.index-names-i.result inside c.index-names-i.is (λ e. c.if-named-name.false (ap (λ (n : Named). n.name) c.named.view_is ∙ e)) c.loop-i.invariant
