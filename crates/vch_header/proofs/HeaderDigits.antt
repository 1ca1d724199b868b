-- The header that digits spell.
use Rattle.vch_header.proofs.Decoding.{some_known, known_some, begins_in}
use Rattle.vch_header.specs.declared.disposition.Disposition.{Disposition}
use Rattle.std.proofs.Common.{◌≡◌, ◌↔◌, ◌<◌, ℕ, List, length, Result, Ok, Err, IsOk, refl, sym, ap, ◌∙◌, arith, subst, ◌⊎◌, Option, Some, None, inl, inr, take}
use Rattle.std.proofs.lemmas.List.{take_all}
use Rattle.hex.specs.Hex.{decode_of, decode_sized}
use Rattle.hex.specs.declared.error.FromHexError.{FromHexError}
use Rattle.hex.proofs.HexLemmas.{decode_of-ok, decode_of-same, decode_sized-ok, decode_sized-twice, IsOk-decode_sized}
use Rattle.vch_header.specs.Dispositions.{IsKnown, voucher_bits, disposition_of}
use Rattle.vch_header.specs.Fields.{Fields, Fits, spelling}
use Rattle.vch_header.specs.Headers.{IsHeader, StartsWithHeader, HasUnknown, fields_in}
use Rattle.vch_header.specs.Messages.{AreDigits, SpellsHeader, SpellsUnknown, HasFault}
use Rattle.vch_header.specs.declared.fault.HeaderFault.{HeaderFault}
use Rattle.vch_header.specs.declared.fault.HeaderFault.TheVariants as header_faults
use Rattle.vch_header.specs.declared.fault.MessageFault.{MessageFault}
use Rattle.vch_header.specs.declared.fault.MessageFault.TheVariants as faults
use Rattle.vch_header.proofs.Numbers.{fields_again, spelling_long}

-- ---- what is read of digits

bytes_long : (digits bytes : List ℕ) → decode_sized digits 24 ≡ Ok bytes → length bytes ≡ 24
bytes_long digits bytes e =
    let twice = decode_sized-ok digits 24 bytes e in
    let d = decode_of-ok digits bytes (sym (decode_sized-twice digits 24 twice) ∙ e) in
    omega (arith, d.2)

spelled_digits : (digits bytes : List ℕ) (h : Fields) → decode_sized digits 24 ≡ Ok bytes → StartsWithHeader bytes h → decode_of digits ≡ Ok (spelling h)
spelled_digits digits bytes h e b =
    let long = bytes_long digits bytes e in
    sym (decode_sized-twice digits 24 (decode_sized-ok digits 24 bytes e)) ∙ e ∙ ap (λ l. Ok l) (sym (take_all 24 bytes (omega arith)) ∙ b.spelled)

pub header_spelled : (digits bytes : List ℕ) (h : Fields) → decode_sized digits 24 ≡ Ok bytes → IsHeader h × StartsWithHeader bytes h → SpellsHeader digits h
header_spelled digits bytes h e b = record { header = b.0; bytes = spelled_digits digits bytes h e b.1 }

not_ok : (r : Result (List ℕ) FromHexError) (fault : FromHexError) → r ≡ Err fault → IsOk r → ⊥
not_ok (Ok bytes) fault e ok = cc
not_ok (Err other) fault e ok = cc ok

pub form_refused : (digits : List ℕ) (r : Result (List ℕ) FromHexError) (fault : FromHexError) → r ≡ decode_sized digits 24 → r ≡ Err fault → AreDigits digits → ⊥
form_refused digits r fault e f d = not_ok (decode_sized digits 24) fault (sym e ∙ f) ((IsOk-decode_sized digits 24).1 d)

pub unknown_spelled : (digits bytes : List ℕ) (r : Result Fields HeaderFault) (fault : HeaderFault) → decode_sized digits 24 ≡ Ok bytes → r ≡ Err fault
    → ((have : ℕ) → (r ≡ Err (header_faults.Short have)) ↔ ((length bytes < 24) × (have ≡ length bytes)))
    → ((number : ℕ) → (r ≡ Err (header_faults.Disposition number)) ↔ HasUnknown bytes number)
    → SpellsUnknown digits
unknown_spelled digits bytes r (header_faults.Short have) e f short unknown = absurd (let long = bytes_long digits bytes e in let lt : length bytes < 24 = ((short have).0 f).0 in omega arith)
unknown_spelled digits bytes r (header_faults.Disposition n) e f short unknown =
    let u = (unknown n).0 f in
    record {
      fields = u.fields;
      fits = u.begins.fits;
      bytes = spelled_digits digits bytes u.fields e u.begins;
      unknown = λ k. u.unknown (subst IsKnown (sym u.number_is) k);
    }

-- ---- digits spell one header, or have one fault

same_fields : (digits : List ℕ) (g h : Fields) → Fits g → Fits h → decode_of digits ≡ Ok (spelling g) → decode_of digits ≡ Ok (spelling h) → g ≡ h
same_fields digits g h f i a b = sym (fields_again g f) ∙ ap fields_in (decode_of-same digits (spelling g) (spelling h) a b) ∙ fields_again h i

pub one_header : (digits : List ℕ) (g h : Fields) → SpellsHeader digits g → SpellsHeader digits h → g ≡ h
one_header digits g h a b = same_fields digits g h a.header.fits b.header.fits a.bytes b.bytes

are_digits : (digits : List ℕ) (h : Fields) → decode_of digits ≡ Ok (spelling h) → AreDigits digits
are_digits digits h e = let d = decode_of-ok digits (spelling h) e in (omega (arith, d.2, spelling_long h), d.1)

pub header_apart : (digits : List ℕ) (h : Fields) (why : MessageFault) → SpellsHeader digits h → HasFault digits why → ⊥
header_apart digits h faults.Form s f = f (are_digits digits h s.bytes)
header_apart digits h faults.Disposition s f = f.unknown (subst (λ (x : Fields). IsKnown (voucher_bits x.bits)) (same_fields digits h f.fields s.header.fits f.fits s.bytes f.bytes) s.header.known)

pub one_fault : (digits : List ℕ) (a b : MessageFault) → HasFault digits a → HasFault digits b → a ≡ b
one_fault digits faults.Form faults.Form f g = refl
one_fault digits faults.Form faults.Disposition f g = absurd (f (are_digits digits g.fields g.bytes))
one_fault digits faults.Disposition faults.Form f g = absurd (g (are_digits digits f.fields f.bytes))
one_fault digits faults.Disposition faults.Disposition f g = refl

-- ---- digits spell a header or have a fault

abbrev pub DigitsAnswer : List ℕ → Type 0
DigitsAnswer digits = ((h : Fields) × SpellsHeader digits h) ⊎ ((why : MessageFault) × HasFault digits why)

by_disposition : (digits : List ℕ) (f : Fields) → Fits f → decode_of digits ≡ Ok (spelling f) → (o : Option Disposition) → disposition_of (voucher_bits f.bits) ≡ o → DigitsAnswer digits
by_disposition digits f fits e (Some d) o = inl (f, record { header = record { fits = fits; known = some_known (voucher_bits f.bits) d o }; bytes = e })
by_disposition digits f fits e None o = inr (faults.Disposition, record { fields = f; fits = fits; bytes = e; unknown = λ k. known_some (voucher_bits f.bits) k o })

by_bytes : (digits : List ℕ) (r : Result (List ℕ) FromHexError) → decode_sized digits 24 ≡ r → DigitsAnswer digits
by_bytes digits (Err fault) e = inr (faults.Form, form_refused digits (Err fault) fault (sym e) refl)
by_bytes digits (Ok bytes) e =
    let d = decode_of-ok digits bytes (sym (decode_sized-twice digits 24 (decode_sized-ok digits 24 bytes e)) ∙ e) in
    let long = bytes_long digits bytes e in
    let f : Fields = fields_in (take 24 bytes) in
    let b = begins_in bytes (omega arith) d.3 in
    by_disposition digits f b.fits (spelled_digits digits bytes f e b) (disposition_of (voucher_bits f.bits)) refl

pub digits_answer : (digits : List ℕ) → DigitsAnswer digits
digits_answer digits = by_bytes digits (decode_sized digits 24) refl
