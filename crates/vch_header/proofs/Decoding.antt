-- What the first bytes decode to, by what they spell.
use Rattle.std.proofs.Common.{◌≡◌, ◌↔◌, ◌≤◌, ◌<◌, ℕ, nat_lt, get_or, true, false, List, length, take, Option, Some, None, Result, Ok, Err, IfOk, refl, sym, ap, ◌∙◌, arith, inl, inr, subst}
use Rattle.std.proofs.lemmas.Grind.{common_steps}
use Rattle.std.proofs.lemmas.Bool.{cases_lt}
use Rattle.std.proofs.lemmas.List.{length-take-le, get_or-take, length-take}
use Rattle.vch_recipe.proofs.CallerLemmas.{AreBytes}
use Rattle.vch_header.specs.Dispositions.{IsKnown, disposition_of, voucher_bits}
use Rattle.vch_header.specs.Fields.{Fields}
use Rattle.vch_header.specs.Headers.{IsHeader, StartsWithHeader, HasUnknown, made_by, made, fields_in, decoded}
use Rattle.vch_header.specs.declared.disposition.Disposition.{Disposition}
use Rattle.vch_header.specs.declared.fault.HeaderFault.{HeaderFault}
use Rattle.vch_header.specs.declared.fault.HeaderFault.TheVariants as faults
use Rattle.vch_header.proofs.Numbers.{spelled_by, bytes_fit, fields_again, spelling_long}

-- ---- dispositions

pub known_some : (n : ℕ) → IsKnown n → disposition_of n ≡ None → ⊥
known_some n k e = grind (arith, common_steps)

pub some_known : (n : ℕ) (d : Disposition) → disposition_of n ≡ Some d → IsKnown n
some_known n d e = grind (arith, common_steps)

by_ok : (f h : Fields) (o : Option Disposition) → made_by f o ≡ Ok h → (f ≡ h) × (d : Disposition) × (o ≡ Some d)
by_ok f h (Some d) e = (cc, d, refl)
by_ok f h None e = absurd (cc)

pub made_ok : (f h : Fields) → made f ≡ Ok h → (f ≡ h) × IsKnown (voucher_bits h.bits)
made_ok f h e =
    let b = by_ok f h (disposition_of (voucher_bits f.bits)) e in
    (b.0, subst (λ (x : Fields). IsKnown (voucher_bits x.bits)) b.0 (some_known (voucher_bits f.bits) b.1 b.2))

by_fault : (f : Fields) (n : ℕ) (o : Option Disposition) → made_by f o ≡ Err (faults.Disposition n) → (o ≡ None) × (n ≡ voucher_bits f.bits)
by_fault f n (Some d) e = absurd (cc)
by_fault f n None e = (refl, cc)

by_short : (f : Fields) (n : ℕ) (o : Option Disposition) → made_by f o ≡ Err (faults.Short n) → ⊥
by_short f n (Some d) e = cc
by_short f n None e = cc

known_made : (h : Fields) → IsKnown (voucher_bits h.bits) → (o : Option Disposition) → disposition_of (voucher_bits h.bits) ≡ o → made_by h o ≡ Ok h
known_made h k (Some d) e = refl
known_made h k None e = absurd (known_some (voucher_bits h.bits) k e)

unknown_made : (h : Fields) → (IsKnown (voucher_bits h.bits) → ⊥) → (o : Option Disposition) → disposition_of (voucher_bits h.bits) ≡ o → made_by h o ≡ Err (faults.Disposition (voucher_bits h.bits))
unknown_made h never (Some d) e = absurd (never (some_known (voucher_bits h.bits) d e))
unknown_made h never None e = refl

none_unknown : (n : ℕ) → disposition_of n ≡ None → IsKnown n → ⊥
none_unknown n e k = known_some n k e

-- ---- bytes

first_small : (n : ℕ) (bytes : List ℕ) → AreBytes bytes → AreBytes (take n bytes)
first_small n bytes small i =
    elim (cases_lt i n) [
      | inl lt ↦ let e : get_or (take n bytes) i 0 ≡ get_or bytes i 0 = get_or-take n bytes i 0 lt in let s = small i in omega arith
      | inr ge ↦ let e : get_or (take n bytes) i 0 ≡ 0 = grind (arith, common_steps) in omega arith
    ]

pub begins_in : (bytes : List ℕ) → 24 ≤ length bytes → AreBytes bytes → StartsWithHeader bytes (fields_in (take 24 bytes))
begins_in bytes long small =
    let l : length (take 24 bytes) ≡ 24 = length-take-le 24 bytes long in
    record {
      fits = bytes_fit (take 24 bytes) l (first_small 24 bytes small);
      spelled = spelled_by (take 24 bytes) l (first_small 24 bytes small);
    }

pub fields_are : (bytes : List ℕ) (h : Fields) → StartsWithHeader bytes h → fields_in (take 24 bytes) ≡ h
fields_are bytes h b = ap fields_in b.spelled ∙ fields_again h b.fits

pub begins_long : (bytes : List ℕ) (h : Fields) → StartsWithHeader bytes h → 24 ≤ length bytes
begins_long bytes h b = omega (arith, length-take 24 bytes, ap length b.spelled, spelling_long h)

decoded_short : (bytes : List ℕ) → length bytes < 24 → decoded bytes ≡ Err (faults.Short (length bytes))
unfolding decoded
decoded_short bytes lt = let t : nat_lt (length bytes) 24 ≡ true = grind (arith, common_steps) in rw t refl

decoded_long : (bytes : List ℕ) → 24 ≤ length bytes → decoded bytes ≡ made (fields_in (take 24 bytes))
unfolding decoded
decoded_long bytes ge = let t : nat_lt (length bytes) 24 ≡ false = grind (arith, common_steps) in rw t refl

-- ---- the answers

pub found : (bytes : List ℕ) (r : Result Fields HeaderFault) → AreBytes bytes → r ≡ decoded bytes → IfOk r (λ h. IsHeader h × StartsWithHeader bytes h)
found bytes (Ok h) small e =
    elim (cases_lt (length bytes) 24) [
      | inl lt ↦ absurd (let s = decoded_short bytes lt in cc)
      | inr ge ↦
          let m = made_ok (fields_in (take 24 bytes)) h (sym (e ∙ decoded_long bytes ge)) in
          let b : StartsWithHeader bytes h = subst (λ f. StartsWithHeader bytes f) m.0 (begins_in bytes ge small) in
          (record { fits = b.fits; known = m.1 }, b)
    ]
found bytes (Err fault) small e = tt

pub only : (bytes : List ℕ) (h : Fields) → IsHeader h → StartsWithHeader bytes h → decoded bytes ≡ Ok h
only bytes h is b =
    let long : 24 ≤ length bytes = begins_long bytes h b in
    decoded_long bytes long ∙ ap made (fields_are bytes h b) ∙ known_made h is.known (disposition_of (voucher_bits h.bits)) refl

pub short : (bytes : List ℕ) (r : Result Fields HeaderFault) → r ≡ decoded bytes → (have : ℕ) → (r ≡ Err (faults.Short have)) ↔ ((length bytes < 24) × (have ≡ length bytes))
short bytes r e have = (to, λ p. e ∙ decoded_short bytes p.0 ∙ ap (λ n. Err (faults.Short n)) (sym p.1))
  where
    to : r ≡ Err (faults.Short have) → (length bytes < 24) × (have ≡ length bytes)
    to f =
        elim (cases_lt (length bytes) 24) [
          | inl lt ↦ (lt, let s = decoded_short bytes lt in cc)
          | inr ge ↦ absurd (by_short (fields_in (take 24 bytes)) have (disposition_of (voucher_bits (fields_in (take 24 bytes)).bits)) (sym (decoded_long bytes ge) ∙ sym e ∙ f))
        ]

pub disposition : (bytes : List ℕ) (r : Result Fields HeaderFault) → AreBytes bytes → r ≡ decoded bytes → (n : ℕ) → (r ≡ Err (faults.Disposition n)) ↔ HasUnknown bytes n
disposition bytes r small e n = (to, back)
  where
    to : r ≡ Err (faults.Disposition n) → HasUnknown bytes n
    to f =
        elim (cases_lt (length bytes) 24) [
          | inl lt ↦ absurd (let s = decoded_short bytes lt in cc)
          | inr ge ↦
              let b = by_fault (fields_in (take 24 bytes)) n (disposition_of (voucher_bits (fields_in (take 24 bytes)).bits)) (sym (decoded_long bytes ge) ∙ sym e ∙ f) in
              record {
                fields = fields_in (take 24 bytes);
                begins = begins_in bytes ge small;
                number_is = b.1;
                unknown = λ k. none_unknown (voucher_bits (fields_in (take 24 bytes)).bits) b.0 (subst IsKnown b.1 k);
              }
        ]

    back : HasUnknown bytes n → r ≡ Err (faults.Disposition n)
    back u =
        e ∙ decoded_long bytes (begins_long bytes u.fields u.begins) ∙ ap made (fields_are bytes u.fields u.begins)
        ∙ unknown_made u.fields (λ k. u.unknown (subst IsKnown (sym u.number_is) k)) (disposition_of (voucher_bits u.fields.bits)) refl
        ∙ ap (λ m. Err (faults.Disposition m)) (sym u.number_is)
