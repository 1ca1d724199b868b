use Rattle.std.proofs.Common.{◌∙◌, ap, subst}
use Rattle.vch_values.specs.Parts.{live_in}
use Rattle.vch_parts.specs.declared.parts.Parts.{Parts}
use Rattle.vch_replies.specs.Known.{AreApart}
use Rattle.vch_whole.proofs.Reading.{values_are, live_few}
use Rattle.vch_whole.proofs.state.Core.values.Goals as goal

pub live-requires : goal.live-requires
live-requires c = live_few c.self.inside.parts c.self.invariant

pub returns : goal.returns
returns c = values_are c.args.self.now c.live.result c.requires.some_task (subst (λ (p : Parts). AreApart p.values) c.self.view_is c.know.ensures.apart)
    (c.live.ensures ∙ ap (λ (p : Parts). live_in p.values) c.self.view_is)
