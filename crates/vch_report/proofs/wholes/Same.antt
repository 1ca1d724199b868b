-- What equal results hold is equal.
use Rattle.std.proofs.Common.{◌≡◌, ℕ, Option, Some, Result, Ok, Err, subst}
use Rattle.vch_report.specs.Reading.{Read}

abbrev pub found : Read → Option Read
found d = Some d

pub found_is : (d e : Read) → found d ≡ found e → d ≡ e
found_is d e s = cc

pub found_at : (P : Read → Type 0) (d e : Read) → found d ≡ found e → P d → P e
found_at P d e s p = subst P (found_is d e s) p

abbrev pub right : Read → Result Read ℕ
right d = Ok d

pub right_is : (d e : Read) → right d ≡ right e → d ≡ e
right_is d e h = cc

abbrev pub wrong : ℕ → Result Read ℕ
wrong n = Err n

pub wrong_is : (n k : ℕ) → wrong n ≡ wrong k → n ≡ k
wrong_is n k h = cc
