-- What is left to do, each by what can't be.
use Rattle.std.proofs.Common.{lit≤, refl, inl}
use Rattle.vch_model.specs.Unended.{AreUnended}
use Rattle.vch_model.proofs.illegal.IllegalHistories.{unlike, no_call, no_second}

pub are_unended : AreUnended
are_unended = record {
  call_left_out = ((tt, (refl, (refl, inl (refl, refl, refl)))), λ e. no_second e.calls.1);
  phase_left_out = ((tt, (refl, (refl, inl (refl, refl, refl)))), λ e. no_call e.phases);
  made_behind = ((((tt, (refl, (refl, inl (refl, refl, refl)))), (lit≤ tt, refl, (tt, refl))), (tt, refl, refl)), λ e. unlike e.held);
}
