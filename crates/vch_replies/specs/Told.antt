-- What the parts of a core tell of a voucher that a task names.
use Rattle.std.specs.Prelude.{ℕ, Option, Some, None}
use Rattle.std.specs.Option.{option_map}
use Rattle.vch_base.specs.declared.key.Key.{Key}
use Rattle.vch_base.specs.declared.places.Live.{Live}
use Rattle.vch_base.specs.Keyed.{Keyed, of_key, tabled}
use Rattle.vch_base.specs.Managers.{live_at, value_of}
use Rattle.vch_entry.specs.Entries.{handle_at}
use Rattle.vch_model.specs.Voucher as model
use Rattle.vch_frame.specs.Indices.{index_of}
use Rattle.vch_values.specs.Parts.{KeyParts}
use Rattle.vch_vouchers.specs.Desks.{Voucher, voucher_of}
use Rattle.vch_parts.specs.Plain.{Plain, part_of}

-- the voucher that a task names
abbrev pub named_by : Plain → ℕ → ℕ → Option Voucher
named_by c t name = voucher_of (part_of c t).names name

-- the handle of the entry at an index that may be none
abbrev pub handle_in : KeyParts → Option ℕ → Option ℕ
handle_in p None = None
handle_in p (Some i) = handle_at p.entries.slots i

-- the live value at a handle that may be none
abbrev pub live_in : KeyParts → Option ℕ → Option Live
live_in p None = None
live_in p (Some h) = live_at p.kept.slots h

-- the live value that a voucher has at a key
abbrev pub live_of : Keyed KeyParts → Key → Voucher → Option Live
live_of x k v = live_in (of_key k x) (handle_in (of_key k x) (index_of k v))

-- the values that a voucher has
abbrev pub values_of : Keyed KeyParts → Voucher → model.Voucher
values_of x v = tabled (λ k. value_of (live_of x k v))

-- the values of the voucher that a task names
abbrev pub values_by : Plain → ℕ → ℕ → Option model.Voucher
values_by c t name = option_map (values_of c.keyed) (named_by c t name)
