use Rattle.std.proofs.Common.{rules, ◌∙◌, not}
use Rattle.std.proofs.lemmas.Fn.{filter_same}
use Rattle.vch_machine.specs.State.{Living, same_place}
use Rattle.vch_plain.proofs.LiveRows.{without}
use Rattle.vch_plain.proofs.values.remove.Goals as goal

pub returns : goal.returns
returns c = filter_same _ (λ (l : Living). not (same_place l.place c.args.place.now)) _ (λ x b f' k. search rules) _ _ c.retain.ensures.filtered ∙ without c.args.live.now.items c.args.place.now
