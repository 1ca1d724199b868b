-- What a header carries, and the header of a `send`.
use Rattle.std.specs.Prelude.{◌==◌, if◌then◌else◌}
use Rattle.vch_header.specs.Dispositions.{move_send, voucher_bits}
use Rattle.vch_header.specs.Fields.{Fields}
use Rattle.vch_header.specs.declared.carried.Carried.{Carried}

-- the voucher moves at one disposition alone, and at 0 there is none
abbrev pub carried_by : Fields → Carried
carried_by h = record {
  to = h.remote;
  moving = voucher_bits h.bits == move_send;
  name = if voucher_bits h.bits == 0 then 0 else h.voucher;
  id = h.id;
}

-- a header without a body and a reply port, whose remote port is copied (19 in the lowest byte)
abbrev pub header_of : Carried → Fields
header_of c = record {
  bits = if c.moving then 0x00110013 else 0x00130013;
  size = 24;
  remote = c.to;
  local = 0;
  voucher = c.name;
  id = c.id;
}
