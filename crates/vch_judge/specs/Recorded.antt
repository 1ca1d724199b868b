-- A record that is lent from the bytes of a create.
use Rattle.std.specs.Prelude.{ℕ, ◌==◌, ◌&&◌, if◌then◌else◌, length, Option, Result, Ok, Err, ℤ}
use Rattle.vch_base.specs.Keys.{managed}
use Rattle.vch_base.specs.declared.codes.TheConstants.{KERN_INVALID_ARGUMENT}
use Rattle.vch_base.specs.declared.commands.TheConstants as commands
use Rattle.vch_recipe.specs.declared.recipe.Recipe.{Recipe}
use Rattle.vch_model.specs.Eval.{each_key, redeemed}
use Rattle.vch_model.specs.Voucher.{Voucher}
use Rattle.vch_judge.specs.declared.record.Record.{Record}

abbrev pub recipe_of : Record → Recipe
recipe_of r = record { key = r.key; command = r.command; previous = r.previous; content = r.content.now }

-- what a record of all keys that is given to managers makes of a map: it may redeem them
abbrev pub redeemed_all : ℕ → Recipe → Option Voucher → Voucher → Result Voucher ℤ
redeemed_all version r previous map =
    if (r.command == commands.REDEEM) && (length r.content == 0) then Ok (each_key (λ key. redeemed key previous) (managed version) map)
    else Err KERN_INVALID_ARGUMENT
