-- What was put in the place of the lines that were gone over.
use Rattle.std.proofs.Common.{◌≡◌, ◌+◌, ℕ, List, [], ◌∷◌, ◌++◌, length, Result, Ok, Err, IfOk, refl, sym, ap, ◌∙◌, arith, inl, inr, subst, append_assoc, append-nil, length-append}
use Rattle.std.specs.List.{flat_map}
use Rattle.std.specs.Global.{Vec}
use Rattle.vch_model.specs.Text.{newline}
use Rattle.vch_model.specs.TextLines.{split_of, with_line_before}
use Rattle.vch_header.specs.Messages.{Becomes, IsRefused, Become, IsTranslation, FirstRefused, IsRefusedAt}
use Rattle.vch_header.specs.Translating.{Appended, Translates, GivesText, GivesFault, StopsAt}
use Rattle.vch_header.specs.declared.fault.MessageFault.{MessageFault}
use Rattle.vch_header.specs.declared.fault.TranslationFault.{TranslationFault}
use Rattle.vch_header.specs.declared.fault.TranslationFault.TheVariants as faults
use Rattle.vch_header.proofs.Translations.{one_translation, apart, one_fault}

-- lines, each with its line feed
abbrev pub fed : List (List ℕ) → List ℕ
fed lines = flat_map (λ l. l ++ 10 ∷ []) lines

-- the lines that were gone over, and what was put in their places
pub record IsDone (text rest out : List ℕ) (number : ℕ) : Type 0 where
  pub before : List (List ℕ)
  pub outs : List (List ℕ)
  pub become : Become before outs
  pub lines : (split_of text).0 ≡ before ++ (split_of rest).0
  pub behind : (split_of text).1 ≡ (split_of rest).1
  pub out_is : out ≡ fed outs
  pub number_is : number ≡ 1 + length before

pub none_done : (text out : List ℕ) → out ≡ [] → IsDone text text out 1
none_done text out e = record { before = []; outs = []; become = tt; lines = refl; behind = refl; out_is = e; number_is = refl }

become_more : (lines outs : List (List ℕ)) (l o : List ℕ) → Become lines outs → Becomes l o → Become (lines ++ l ∷ []) (outs ++ o ∷ [])
become_more [] [] l o p q = (q, tt)
become_more [] (y ∷ outs) l o p q = absurd p
become_more (x ∷ lines) [] l o p q = absurd p
become_more (x ∷ lines) (y ∷ outs) l o p q = (p.0, become_more lines outs l o p.1 q)

fed_more : (outs : List (List ℕ)) (o : List ℕ) → fed (outs ++ o ∷ []) ≡ fed outs ++ (o ++ newline)
fed_more [] o = append-nil (o ++ newline)
fed_more (x ∷ outs) o = ap (λ l. (x ++ newline) ++ l) (fed_more outs o) ∙ sym (append_assoc (x ++ newline) (fed outs) (o ++ newline))

pub one_done : (text rest more line old new : List ℕ) (number : ℕ) → IsDone text rest old number → split_of rest ≡ with_line_before line (split_of more)
    → Appended line old new → IsDone text more new (number + 1)
one_done text rest more line old new number d e a = record {
  before = d.before ++ line ∷ [];
  outs = d.outs ++ a.out ∷ [];
  become = become_more d.before d.outs line a.out d.become a.becomes;
  lines = d.lines ∙ ap (λ (p : List (List ℕ) × List ℕ). d.before ++ p.0) e ∙ sym (append_assoc d.before (line ∷ []) (split_of more).0);
  behind = d.behind ∙ ap (λ (p : List (List ℕ) × List ℕ). p.1) e;
  out_is = a.appended ∙ ap (λ l. l ++ (a.out ++ newline)) d.out_is ∙ sym (fed_more d.outs a.out);
  number_is = omega (arith, d.number_is, length-append d.before (line ∷ []));
}

pub all_done : (text rest old new : List ℕ) (number : ℕ) → IsDone text rest old number → split_of rest ≡ ([], rest) → new ≡ old ++ rest → IsTranslation text new
all_done text rest old new number d e a =
    let lines : (split_of text).0 ≡ d.before = d.lines ∙ ap (λ (p : List (List ℕ) × List ℕ). d.before ++ p.0) e ∙ append-nil d.before in
    let behind : (split_of text).1 ≡ rest = d.behind ∙ ap (λ (p : List (List ℕ) × List ℕ). p.1) e in
    record {
      lines = d.outs;
      each = subst (λ ls. Become ls d.outs) (sym lines) d.become;
      whole = a ∙ ap (λ l. l ++ rest) d.out_is ∙ ap (λ l. fed d.outs ++ l) (sym behind);
    }

first_refused : (n : ℕ) (before outs lines : List (List ℕ)) (line : List ℕ) (at : ℕ) (why : MessageFault) → Become before outs → IsRefused line why → at ≡ n + length before
    → FirstRefused n (before ++ (line ∷ lines)) at why
first_refused n [] outs lines line at why b r e = inl (r, omega arith)
first_refused n (x ∷ before) [] lines line at why b r e = absurd b
first_refused n (x ∷ before) (y ∷ outs) lines line at why b r e = inr (y, b.0, first_refused (n + 1) before outs lines line at why b.1 r (omega arith))

stopped_at : (text rest more line old : List ℕ) (number at : ℕ) (why : MessageFault) → IsDone text rest old number → split_of rest ≡ with_line_before line (split_of more)
    → at ≡ number → IsRefused line why → IsRefusedAt text at why
stopped_at text rest more line old number at why d e same r =
    let lines : (split_of text).0 ≡ d.before ++ (line ∷ (split_of more).0) = d.lines ∙ ap (λ (p : List (List ℕ) × List ℕ). d.before ++ p.0) e in
    subst (λ ls. FirstRefused 1 ls at why) (sym lines) (first_refused 1 d.before d.outs (split_of more).0 line at why d.become r (same ∙ d.number_is))

pub stopped : (text rest more line old : List ℕ) (number : ℕ) (fault : TranslationFault) → IsDone text rest old number → split_of rest ≡ with_line_before line (split_of more)
    → StopsAt number line fault → Translates text (Err fault)
stopped text rest more line old number (faults.At at why) d e s = stopped_at text rest more line old number at why d e s.0 s.1
stopped text rest more line old number (faults.NoMemory cause) d e s = tt

-- ---- what is returned

pub found : (text : List ℕ) (r : Result (Vec ℕ) TranslationFault) → Translates text r → IfOk r (λ out. IsTranslation text out.items)
found text (Ok out) t = t
found text (Err fault) t = tt

pub only : (text : List ℕ) (r : Result (Vec ℕ) TranslationFault) → Translates text r → (out : List ℕ) → IsTranslation text out → GivesText out r
only text (Ok v) t out is = one_translation text v.items out t is
only text (Err (faults.At line why)) t out is = apart text out line why is t
only text (Err (faults.NoMemory cause)) t out is = tt

pub fault : (text : List ℕ) (r : Result (Vec ℕ) TranslationFault) → Translates text r → (line : ℕ) (why : MessageFault) → r ≡ Err (faults.At line why) → IsRefusedAt text line why
fault text r t line why e = subst (λ (x : Result (Vec ℕ) TranslationFault). Translates text x) e t

pub fault_only : (text : List ℕ) (r : Result (Vec ℕ) TranslationFault) → Translates text r → (line : ℕ) (why : MessageFault) → IsRefusedAt text line why → GivesFault line why r
fault_only text (Ok v) t line why is = apart text v.items line why t is
fault_only text (Err (faults.At at told)) t line why is = one_fault text at line told why t is
fault_only text (Err (faults.NoMemory cause)) t line why is = tt
