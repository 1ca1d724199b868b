use Rattle.std.proofs.Common.{◌≡◌, true, false, sym, arith}
use Rattle.std.specs.Prelude.{◌==◌}
use Rattle.std.proofs.lemmas.Grind.{common_steps}
use Rattle.vch_plain.proofs.Planning.{unnamed, with_named}
use Rattle.vch_plain.proofs.plans.named_work.Goals as goal

pub returns-then-previous-eq0 : goal.returns-then-previous-eq0
returns-then-previous-eq0 c = λ rest.
    let z : (c.args.previous == 0) ≡ true = let t = c.if-previous-eq0.true in grind (arith, common_steps) in
    unnamed c.args.version c.args.names.now (record { key = c.args.key; command = c.args.command; previous = c.args.previous; content = c.args.content.now }) rest c.args.map.now _ z (c.worked.ensures c.args.previous)

pub returns-in-Some : goal.returns-in-Some
returns-in-Some c = λ rest.
    let z : (c.args.previous == 0) ≡ false = let t = c.if-previous-eq0.false in grind (arith, common_steps) in
    with_named c.args.version c.args.names.now (record { key = c.args.key; command = c.args.command; previous = c.args.previous; content = c.args.content.now }) rest c.args.map.now c.in-Some.given _ z (sym c.in-Some.ensures) (c.worked-in-Some.ensures c.args.previous)
