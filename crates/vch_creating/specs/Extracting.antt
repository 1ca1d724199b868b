-- What can be told of the value that a voucher has at a key.
use Rattle.std.specs.Prelude.{IfSome, IsSome}
use Rattle.vch_base.specs.declared.key.Key.{Key}
use Rattle.vch_base.specs.Keyed.{Keyed, of_key}
use Rattle.vch_base.specs.Managers.{live_at}
use Rattle.vch_entry.specs.Entries.{entry_at}
use Rattle.vch_frame.specs.Indices.{index_of}
use Rattle.vch_values.specs.Parts.{KeyParts}
use Rattle.vch_parts.specs.Plain.{Indices}
use Rattle.vch_replies.specs.Told.{handle_in}

-- the index that a voucher has at a key is that of an entry, and the handle of the entry that of a live value
pub record IsTellable (x : Keyed KeyParts) (v : Indices) (k : Key) : Type 0 where
  pub there : IfSome (index_of k v) (λ i. IsSome (entry_at (of_key k x).entries.slots i))
  pub live : IfSome (handle_in (of_key k x) (index_of k v)) (λ h. IsSome (live_at (of_key k x).kept.slots h))
