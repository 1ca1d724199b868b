-- What other crates cite of the lemmas of this one.
pub use Rattle.vch_value.proofs.Claims.{only}
pub use Rattle.vch_value.proofs.Entry.{entry_is}
pub use Rattle.vch_value.proofs.Lists.{count_in, test_other, count_out, claims_here, test_same, count_not, count_out_other, claims_not, claims_there}
pub use Rattle.vch_value.proofs.Rows.{stands_alike}
pub use Rattle.vch_value.proofs.Starts.{starts}
