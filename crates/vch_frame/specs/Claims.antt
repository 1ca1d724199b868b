-- What a frame has in hand of a claim.
use Rattle.std.specs.Prelude.{ℕ, Bool, true, false, List, Option, Some, None}
use Rattle.vch_base.specs.declared.key.Key.{Key}
use Rattle.vch_base.specs.declared.kind.Kind.{Kind}
use Rattle.vch_base.specs.declared.kind.Kind.TheVariants as kinds
use Rattle.vch_value.specs.Flight.{Claim}
use Rattle.vch_value.specs.Picture.{Claimed}
use Rattle.vch_machine.specs.State as machine
use Rattle.vch_frame.specs.declared.frame.Claiming.{Claiming}
use Rattle.vch_frame.specs.declared.frame.KeyIndex.{KeyIndex}
use Rattle.vch_frame.specs.Releases.{lets_kind}

-- the claim that was taken, or none
abbrev pub claiming : Key → Option Claim → Claiming
claiming k None = Claiming.Nothing
claiming k (Some x) = Claiming.Claimed k x

-- nothing is claimed
abbrev pub is_nothing : Claiming → Bool
is_nothing Claiming.Nothing = true
is_nothing (Claiming.Claimed key claim) = false
is_nothing (Claiming.Answered key asked) = false

-- the made count that the claim was taken at
abbrev pub sync_of : Claiming → ℕ
sync_of Claiming.Nothing = 0
sync_of (Claiming.Claimed k x) = x.sync
sync_of (Claiming.Answered k x) = x.sync

-- a claim of the machine in the picture
abbrev pub claimed : ℕ → machine.Claim → Claimed
claimed sync y = record { handle = y.place.handle; sync = sync; raced = y.raced; back = y.back; answered = y.answer }

-- the kind of the next event of a frame without a receipt, where that is one of a value
abbrev pub claim_kind : List KeyIndex → Claiming → Option Kind
claim_kind lets Claiming.Nothing = lets_kind lets
claim_kind lets (Claiming.Claimed key claim) = Some kinds.Ask
claim_kind lets (Claiming.Answered key asked) = Some kinds.Recheck
