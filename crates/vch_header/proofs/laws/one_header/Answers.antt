use Rattle.std.proofs.Common.{◌≡◌, ◌++◌, ℕ, List, take, sym, ◌∙◌}
use Rattle.std.proofs.lemmas.List.{take_at}
use Rattle.vch_header.specs.Fields.{Fields, Fits, spelling}
use Rattle.vch_header.specs.Headers.{StartsWithHeader}
use Rattle.vch_header.proofs.Numbers.{spelling_long}
use Rattle.vch_header.proofs.Decoding.{fields_are}
use Rattle.vch_header.proofs.laws.one_header.Goals as goal

begins_again : (h : Fields) (rest : List ℕ) → Fits h → StartsWithHeader (spelling h ++ rest) h
begins_again h rest f = record { fits = f; spelled = take_at (spelling h) rest 24 (spelling_long h) }

same : (bytes : List ℕ) (g h : Fields) → StartsWithHeader bytes g → StartsWithHeader bytes h → g ≡ h
same bytes g h a b = sym (fields_are bytes g a) ∙ fields_are bytes h b

first : (bytes : List ℕ) (h : Fields) → StartsWithHeader bytes h → spelling h ≡ take 24 bytes
first bytes h b = sym b.spelled

pub returns : goal.returns
returns c = record { again = begins_again; first = first; one = same }
