use Rattle.vch_generate.proofs.Groups.{group_then, all_groups, at_start}
use Rattle.vch_generate.proofs.generator.lines.Goals as goal

pub loop-number-init : goal.loop-number-init
loop-number-init c = at_start c.args.n c.new-lines.result c.new-lines.ensures

pub loop-number-preserved : goal.loop-number-preserved
loop-number-preserved c =
    let drawn = c.group-drawn.ensures in
    group_then c.args.n c.loop-number.number c.loop-number.drawing.draws.seed c.group-drawn.new.self.draws.seed c.loop-number.drawing.names
    c.group-drawn.new.self.names c.loop-number.lines c.push_group.new.lines c.group-drawn.result c.loop-number-test.true
    c.loop-number.invariant
    (record {
      number = drawn.number;
      maker = drawn.maker;
      taker = drawn.taker;
      content = drawn.content;
      made_name = drawn.made;
      taken_name = drawn.taken;
      names_are = drawn.names;
    }) drawn.few drawn.seed (c.in_ok-push_group.ensures)

pub returns : goal.returns
returns c =
    all_groups c.args.n c.loop-number.number c.loop-number.drawing.draws.seed c.loop-number.drawing.names c.loop-number.lines
    c.loop-number-test.false c.loop-number.invariant
