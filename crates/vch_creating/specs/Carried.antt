-- When a Work of a create is next, and what is carried out then.
use Rattle.std.specs.Prelude.{◌≡◌, ℕ, List, [], Option, Some, None, Result}
use Rattle.vch_base.specs.declared.fault.Code.{Code}
use Rattle.vch_base.specs.declared.key.Key.{Key}
use Rattle.vch_base.specs.Keyed.{Keyed}
use Rattle.vch_model.specs.declared.call.Call.{Call}
use Rattle.vch_model.specs.declared.call.Call.TheVariants as calls
use Rattle.vch_machine.specs.Next.{nth_call}
use Rattle.vch_values.specs.Parts.{KeyParts}
use Rattle.vch_parts.specs.declared.frame.Frame.{Frame}
use Rattle.vch_parts.specs.declared.parts.Parts.{Parts}
use Rattle.vch_parts.specs.Framed.{frame_of, begun_of}
use Rattle.vch_parts.specs.Plain.{Indices}
use Rattle.vch_creating.specs.declared.change.Change.{Change}
use Rattle.vch_creating.specs.declared.record.Record.{Record}
use Rattle.vch_creating.specs.Changing.{MayDoAll, becomes, keys_in}
use Rattle.vch_creating.specs.Reading.{Reads, named_by}

-- the call is a create
abbrev pub IsCreate : Option Call → Type 0
IsCreate (Some (calls.Create bytes)) = Unit {0}
IsCreate call = ⊥

-- the answer is what is read at the place of the task's create
abbrev pub ReadsNext : Parts → ℕ → Result Record Code → Type 0
ReadsNext p t result = (f : Frame) (bytes : List ℕ) → frame_of p.frames t ≡ Some f → nth_call p.scenario t (begun_of p.frames t) ≡ Some (calls.Create bytes)
    → Reads p.scenario.version (named_by p t) bytes f.at result

-- the keys that a change is about, and what becomes of each; none where nothing is changed
abbrev pub keys_of : ℕ → Option Change → List Key
keys_of version None = []
keys_of version (Some x) = keys_in version x.keys

abbrev pub becoming : Option Change → Indices → Key → Option (Option ℕ)
becoming None map k = None
becoming (Some x) map k = becomes x.deed map k

-- the references that it takes may be taken
abbrev pub MayChange : Keyed KeyParts → Option Change → Type 0
MayChange x None = Unit {0}
MayChange x (Some change) = MayDoAll x change.deed
