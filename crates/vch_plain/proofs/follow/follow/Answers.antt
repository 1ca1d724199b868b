use Rattle.std.proofs.Common.{◌∙◌, ◌-◌, sym, ap}
use Rattle.std.specs.Prelude.{slice_get}
use Rattle.std.proofs.lemmas.Result.{on_ok_weaker}
use Rattle.vch_plain.proofs.SeenFollowing.{one_new}
use Rattle.vch_plain.proofs.follow.follow.Goals as goal

pub returns : goal.returns
returns c = on_ok_weaker c.follow_entry.result
    (λ h past was goes ties summed. one_new c.args.scenario.now c.args.machine.now c.history_of-history.result.now.entries past c.args.had c.at.result.now
    c.args.sums.now c.follow_entry.new.sums c.history_of-history.ensures
    (ap (λ n. slice_get c.history_of-history.result.now.entries (n - 1)) (sym c.len-count.ensures) ∙ c.at.ensures)
    (λ e. c.if-count-had.false (c.len-count.ensures ∙ e)) was h goes ties summed)
    c.follow_entry.ensures
