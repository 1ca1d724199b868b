-- What becomes of a claim on a place.
use Rattle.vch_machine.specs.Making.{race_claim, back_claim}
use Rattle.vch_machine.specs.State.{Claim, Place}
use Rattle.vch_plain.specs.declared.claims.Mark.{Mark}
use Rattle.vch_plain.specs.declared.claims.Mark.TheVariants as mark

abbrev pub marked : Mark → Place → Claim → Claim
marked mark.Raced p c = race_claim p c
marked mark.Back p c = back_claim p c
