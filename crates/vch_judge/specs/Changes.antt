-- What a command that asks no manager does at a key.
use Rattle.std.specs.Prelude.{Option}
use Rattle.vch_base.specs.declared.key.Key.{Key}
use Rattle.vch_model.specs.Eval as eval
use Rattle.vch_model.specs.Voucher.{Voucher}
use Rattle.vch_judge.specs.declared.change.Change.{Change}
use Rattle.vch_judge.specs.declared.change.Change.TheVariants as changes

abbrev pub change_by : Change → Option Voucher → Key → Voucher → Voucher
change_by changes.Take previous key map = eval.takes key previous map
change_by changes.Lose previous key map = eval.loses key previous map
change_by changes.Redeem previous key map = eval.redeemed key previous map
