use Rattle.std.proofs.Common.{◌∙◌, ap, sym, List}
use Rattle.vch_machine.specs.State.{Tasked}
use Rattle.vch_model.specs.Text.{vouchers_in}
use Rattle.vch_plain.specs.Counted.{all_handles, different_handles}
use Rattle.vch_plain.proofs.Outcomes.{if_ok}
use Rattle.vch_plain.proofs.SeenVouchers.{vouchers_seen}
use Rattle.vch_plain.proofs.told.count_vouchers.Goals as goal

pub returns : goal.returns
returns c = if_ok c.vouchers.result c.vouchers.ensures
    (λ n e. e ∙ (ap (λ (xs : List Tasked). different_handles (all_handles xs)) c.tasks_of.ensures
    ∙ (sym (vouchers_seen c.args.scenario.now c.args.machine.now c.requires.keeps.ties.fits) ∙ ap vouchers_in c.requires.keeps.ties.same_store)))
