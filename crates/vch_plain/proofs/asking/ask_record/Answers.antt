use Rattle.std.proofs.Common.{◌≡◌, ap, ◌∙◌, subst, List, Option}
use Rattle.std.specs.Prelude.{◌==◌, if◌then◌else◌}
use Rattle.vch_base.specs.declared.key.Key.{Key}
use Rattle.vch_base.specs.declared.key.TheConstants.{ALL_KEYS}
use Rattle.vch_base.specs.Keys.{key_of}
use Rattle.vch_recipe.specs.declared.recipe.Recipe.{Recipe}
use Rattle.vch_recipe.specs.declared.step.Step.{Step}
use Rattle.vch_machine.specs.Making.{asked_record, head_key, keys_left}
use Rattle.vch_machine.specs.State.{Frame, tasked}
use Rattle.vch_plain.specs.Reading.{Reads}
use Rattle.vch_plain.proofs.AskedRecords.{asks_first}
use Rattle.vch_plain.proofs.asking.ask_record.Goals as goal

pub returns-clause-same : goal.returns-clause-same
returns-clause-same c = λ at first h.
    let keys : c.as_slice.result.now ≡ c.args.frame.now.keys = c.as_slice.ensures.value ∙ ap (λ (f : Frame). f.keys) c.frame.view_is in
    let r : Recipe = record { key = c.in-One.key; command = c.in-One.command; previous = c.in-One.previous; content = c.in-One.content.now } in
    let asked = c.in-Some.ensures ∙ ap (λ (ks : List Key). if c.in-One.key == ALL_KEYS then head_key (keys_left c.args.version ks) else key_of c.args.version c.in-One.key) keys in
    asks_first c.args.version c.args.machine.now.live (tasked c.args.machine.now c.args.task).names c.args.task c.args.frame.now.keys c.args.map.now at c.in-One.key c.in-One.command c.in-One.previous c.in-One.next c.in-One.content first _
    (c.in_ok-answer.ensures.same c.in-One.key ∙ ap (λ (k : Option Key). asked_record c.args.machine.now.live (tasked c.args.machine.now c.args.task).names c.args.task c.args.map.now r k) asked)
    (subst (λ (s : Step). Reads at first s) c.in-One.is h)
