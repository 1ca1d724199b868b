-- What can be told of a voucher, where each of its values is live.
use Rattle.std.specs.Prelude.{IfSome, IsSome}
use Rattle.vch_base.specs.declared.key.Key.{Key}
use Rattle.vch_base.specs.Keyed.{Keyed, of_key}
use Rattle.vch_base.specs.Managers.{live_at}
use Rattle.vch_entry.specs.Entries.{entry_at, handle_at}
use Rattle.vch_frame.specs.Indices.{index_of}
use Rattle.vch_values.specs.Parts.{KeyParts}
use Rattle.vch_parts.specs.Plain.{Indices}

-- what a voucher has at a key has an entry, and its handle has a live value
abbrev pub IsLiveAt : Keyed KeyParts → Indices → Key → Type 0
IsLiveAt x v k = IfSome (index_of k v) (λ i. IsSome (entry_at (of_key k x).entries.slots i) × IfSome (handle_at (of_key k x).entries.slots i) (λ h. IsSome (live_at (of_key k x).kept.slots h)))

-- so at each key
abbrev pub AreLive : Keyed KeyParts → Indices → Type 0
AreLive x v = (k : Key) → IsLiveAt x v k
