-- Each by computation.
use Rattle.std.proofs.Common.{refl}
use Rattle.vch_model.specs.Managed.{AreManaged}

pub are_managed : AreManaged
are_managed = record {
  own_task = refl;
  other_task = refl;
  merchant = refl;
  holder = refl;
  other_merchant = refl;
  default = refl;
  nothing = refl;
  sent_default = refl;
  sent_task = refl;
  sent_account = refl;
  received_default = refl;
  received_own = refl;
  received_task = refl;
  received_account = refl;
  joined = refl;
  no_receiver = refl;
  last_again = refl;
  first_again = refl;
  of_seven = refl;
  of_eight = refl;
  self = refl;
}
