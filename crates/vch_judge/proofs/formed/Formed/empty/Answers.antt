use Rattle.std.proofs.Common.{◌≡◌, refl}
use Rattle.vch_books.specs.Numbered.{no_numbers, at_key}
use Rattle.vch_judge.specs.Formed.{slot_at, slot_of_number}
use Rattle.vch_judge.proofs.Keys.{by_key}
use Rattle.vch_judge.proofs.formed.Formed.empty.Goals as goal

pub returns : goal.returns
returns c = by_key _ refl refl refl refl
