-- A word that spells a list of tasks, both ways.
use Rattle.std.proofs.Common.{◌≡◌, ℕ, ◌-◌, ◌<◌, ◌≤◌, Bool, true, false, cond, eqb, leb, List, [], ◌∷◌, ◌++◌, length, length-append, length-take, take, drop, append_assoc, append-nil, Option, Some, None, refl, sym, ap, ◌∙◌, arith}
use Rattle.std.proofs.lemmas.Grind.{common_steps}
use Rattle.std.proofs.lemmas.Bool.{le-leb}
use Rattle.std.specs.List.{onto_first}
use Rattle.vch_text.specs.Reading.{◌>>=◌}
use Rattle.vch_text.specs.Words.{front_of, in_front}
use Rattle.vch_text.proofs.CallerLemmas.{front_whole}
use Rattle.vch_report.specs.Numerals.{ordinal}
use Rattle.vch_report.specs.Values.{parts_of, ordinals, chain_of}

-- ---- the parts of a word

abbrev pub tail_parts : List ℕ → List (List ℕ)
tail_parts [] = []
tail_parts (c ∷ cs) = parts_of cs

abbrev front_parts : List ℕ × List ℕ → List (List ℕ)
front_parts p = p.0 ∷ tail_parts p.1

one_more : (b : Bool) (c : ℕ) (cs : List ℕ) → parts_of cs ≡ front_parts (front_of 44 cs)
    → cond b ([] ∷ parts_of cs) (onto_first c (parts_of cs)) ≡ front_parts (cond b (
      [],
      c ∷ cs,
    ) (in_front c (front_of 44 cs)))
one_more true c cs h = refl
one_more false c cs h = ap (onto_first c) h

pub parts_front : (w : List ℕ) → parts_of w ≡ front_parts (front_of 44 w)
unfolding front_of
parts_front [] = refl
parts_front (c ∷ cs) = one_more (eqb c 44) c cs (parts_front cs)

abbrev pub cut : List ℕ → List ℕ → List ℕ × List ℕ
cut a b = (a, b)

parts_cut : (w first rest : List ℕ) → front_of 44 w ≡ cut first rest → parts_of w ≡ first ∷ tail_parts rest
parts_cut w first rest e = parts_front w ∙ ap (λ (p : List ℕ × List ℕ). front_parts p) e

tail_more : (rest : List ℕ) → 1 ≤ length rest → tail_parts rest ≡ parts_of (take (length rest - 1) (drop 1 rest))
tail_more [] some = absurd (omega arith)
tail_more (c ∷ cs) some = let same : take (length (c ∷ cs) - 1) (drop 1 (c ∷ cs)) ≡ cs = grind (
  arith,
  common_steps,
) in rw same refl

-- ---- the loop

abbrev behind : List ℕ → Option (List ℕ) → Option (List ℕ)
behind list r = r >>= λ ts. Some (list ++ ts)

-- what was read of the word is this list, and the rest is still to be read
abbrev pub IsLed : List ℕ → List ℕ → List ℕ → Type 0
IsLed w list rest = ordinals (parts_of w) ≡ behind list (ordinals (tail_parts rest))

abbrev limited : Option (List ℕ) → Option (List ℕ)
limited r = r >>= λ ts. cond (leb (length ts) 8) (Some ts) None

chain_is : (w : List ℕ) (r : Option (List ℕ)) → ordinals (parts_of w) ≡ r → chain_of w ≡ limited r
unfolding chain_of
chain_is w r e = ap limited e

none : Option (List ℕ)
none = None

pub first_none : (w first rest : List ℕ) → front_of 44 w ≡ cut first rest → ordinal first ≡ None → chain_of w ≡ None
first_none w first rest e o = chain_is w None (ap ordinals (parts_cut w first rest e)
    ∙ ap (λ (r : Option ℕ). r >>= λ t. ordinals (tail_parts rest) >>= λ ts. Some (t ∷ ts)) o)

pub first_some : (w first rest : List ℕ) (t : ℕ) → front_of 44 w ≡ cut first rest → ordinal first ≡ Some t
    → IsLed w (t ∷ []) rest
first_some w first rest t e o = ap ordinals (parts_cut w first rest e)
    ∙ ap (λ (r : Option ℕ). r >>= λ t. ordinals (tail_parts rest) >>= λ ts. Some (t ∷ ts)) o

module _ (w list rest next left : List ℕ) (led : IsLed w list rest) (some : 1 ≤ length rest) (e : front_of 44 (take
    (length rest - 1) (drop 1 rest)) ≡ cut next left) where
  led_next : ordinals (parts_of w) ≡ behind list (ordinals (next ∷ tail_parts left))
  led_next = led ∙ ap (λ (ps : List (List ℕ)). behind list (ordinals ps)) (tail_more rest some
      ∙ parts_cut (take (length rest - 1) (drop 1 rest)) next left e)

  pub next_none : ordinal next ≡ None → chain_of w ≡ None
  next_none o = chain_is w None (led_next
      ∙ ap (λ (r : Option ℕ). behind list (r >>= λ t. ordinals (tail_parts left) >>= λ ts. Some (t ∷ ts))) o)

  pub next_some : (t : ℕ) → ordinal next ≡ Some t → IsLed w (list ++ t ∷ []) left
  next_some t o = led_next
      ∙ ap (λ (r : Option ℕ). behind list (r >>= λ t. ordinals (tail_parts left) >>= λ ts. Some (t ∷ ts))) o
      ∙ moved (ordinals (tail_parts left))
    where
      moved : (r : Option (List ℕ)) → behind list (r >>= λ ts. Some (t ∷ ts)) ≡ behind (list ++ t ∷ []) r
      moved (Some ts) = ap Some (sym (append_assoc list (t ∷ []) ts))
      moved None = refl

  pub next_many : (t : ℕ) → ordinal next ≡ Some t → length list ≡ 8 → chain_of w ≡ None
  next_many t o full = chain_is w (behind (list ++ t ∷ []) (ordinals (tail_parts left))) (next_some t o)
      ∙ over (ordinals (tail_parts left))
    where
      over : (r : Option (List ℕ)) → limited (behind (list ++ t ∷ []) r) ≡ None
      over (Some ts) = let n = length-append (list ++ t ∷ []) ts in let m = length-append list (t ∷ []) in
          let no : leb (length ((list ++ t ∷ []) ++ ts)) 8 ≡ false = grind (arith, common_steps) in rw no refl
      over None = refl

pub no_more : (w list rest : List ℕ) → IsLed w list rest → length rest < 1 → length list ≤ 8 → chain_of w ≡ Some list
no_more w list [] led lt few = let same : behind list (ordinals []) ≡ Some list = ap Some (append-nil list) in
    chain_is w (Some list) (led ∙ same) ∙ (rw (le-leb (length list) 8 few) refl)
no_more w list (c ∷ cs) led lt few = absurd (omega arith)

pub left_shorter : (rest next left : List ℕ) → 1 ≤ length rest
    → front_of 44 (take (length rest - 1) (drop 1 rest)) ≡ cut next left → length left < length rest
left_shorter rest next left some e =
    let whole : next ++ left ≡ take (length rest - 1) (drop 1 rest) = ap
    (λ (p : List ℕ × List ℕ). p.0 ++ p.1) (sym e) ∙ front_whole 44 (take (length rest - 1) (drop 1 rest)) in
    omega (arith, length-append next left, ap length whole, length-take (length rest - 1) (drop 1 rest))
