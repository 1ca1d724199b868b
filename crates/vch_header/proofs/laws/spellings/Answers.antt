use Rattle.std.proofs.Common.{◌≡◌, ◌++◌, [], ◌∷◌, ℕ, List, length, take, refl, sym, ap, ◌∙◌, arith, length-append}
use Rattle.std.proofs.lemmas.List.{take_at, take_all}
use Rattle.vch_header.specs.Fields.{Fields, Fits, spelling}
use Rattle.vch_header.specs.Headers.{fields_in}
use Rattle.vch_header.proofs.Numbers.{spelling_long, fields_again}
use Rattle.vch_header.proofs.laws.spellings.Goals as goal

no_rest : (a rest : List ℕ) → length (a ++ rest) ≡ length a → rest ≡ []
no_rest a [] e = refl
no_rest a (x ∷ rest) e = absurd (omega (arith, length-append a (x ∷ rest)))

begins_none : (g h : Fields) (rest : List ℕ) → Fits g → Fits h → spelling h ≡ spelling g ++ rest → (g ≡ h) × (rest ≡ [])
begins_none g h rest f i e =
    let first : spelling g ≡ spelling h = sym (take_at (spelling g) rest 24 (spelling_long g)) ∙ ap (λ l. take 24 l) (sym e) ∙ take_all 24 (spelling h) (omega (arith, spelling_long h)) in
    (sym (fields_again g f) ∙ ap fields_in first ∙ fields_again h i, no_rest (spelling g) rest (sym (ap length e) ∙ spelling_long h ∙ sym (spelling_long g)))

pub returns : goal.returns
returns c = begins_none
