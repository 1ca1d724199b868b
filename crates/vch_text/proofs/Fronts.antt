-- The word before the first space.
use Rattle.std.proofs.Common.{◌≡◌, ◌≢◌, ◌+◌, ◌<◌, ◌≤◌, ℕ, zero, suc, List, [], ◌∷◌, ◌++◌, length, get_or, take, drop, refl, sym, ap, ◌∙◌, arith, true, false, eqb, append_assoc, append-nil, add-one, subst}
use Rattle.std.proofs.lemmas.Grind.{common_steps}
use Rattle.std.proofs.lemmas.List.{at_drop_more, at_drop_all, take_more, take_all}
use Rattle.vch_text.specs.Words.{front_of, in_front}

abbrev pub behind : List ℕ → List ℕ × List ℕ → List ℕ × List ℕ
behind w parts = (w ++ parts.0, parts.1)

pub front_other : (s c : ℕ) (cs : List ℕ) → c ≢ s → front_of s (c ∷ cs) ≡ in_front c (front_of s cs)
unfolding front_of
front_other s c cs ne = let no : eqb c s ≡ false = grind (arith, common_steps) in rw no refl

pub front_sep : (s : ℕ) (cs : List ℕ) → front_of s (s ∷ cs) ≡ ([], s ∷ cs)
unfolding front_of
front_sep s cs = let yes : eqb s s ≡ true = grind (arith, common_steps) in rw yes refl

pub front_none : (s : ℕ) → front_of s [] ≡ ([], [])
unfolding front_of
front_none s = refl

behind_push : (w : List ℕ) (c : ℕ) (p : List ℕ × List ℕ) → behind w (in_front c p) ≡ behind (w ++ c ∷ []) p
behind_push w c p = ap (λ (l : List ℕ). (l, p.1)) (sym (append_assoc w (c ∷ []) p.0))

pub front_more : (s : ℕ) (bs : List ℕ) (i : ℕ) → i < length bs → get_or bs i 0 ≢ s → front_of s bs ≡ behind (take i bs) (front_of s (drop i bs)) → front_of s bs ≡ behind (take (i + 1) bs) (front_of s (drop (i + 1) bs))
front_more s bs i lt ne h =
    let split : front_of s (drop i bs) ≡ front_of s (get_or bs i 0 ∷ drop (i + 1) bs) = at_drop_more (front_of s) bs i 0 lt in
    h ∙ ap (behind (take i bs)) (split ∙ front_other s (get_or bs i 0) (drop (i + 1) bs) ne) ∙ behind_push (take i bs) (get_or bs i 0) (front_of s (drop (i + 1) bs))
    ∙ ap (λ (l : List ℕ). behind l (front_of s (drop (i + 1) bs))) (sym (take_more bs i 0 lt))

pub front_here : (s : ℕ) (bs : List ℕ) (i : ℕ) → i < length bs → get_or bs i 0 ≡ s → front_of s bs ≡ behind (take i bs) (front_of s (drop i bs)) → front_of s bs ≡ (take i bs, drop i bs)
front_here s bs i lt e h =
    let d : drop i bs ≡ get_or bs i 0 ∷ drop (i + 1) bs = at_drop_more (λ l. l) bs i 0 lt in
    let f : front_of s (drop i bs) ≡ ([], drop i bs) = ap (front_of s) d ∙ ap (λ c. front_of s (c ∷ drop (i + 1) bs)) e ∙ front_sep s (drop (i + 1) bs) ∙ ap (λ (c : ℕ). ([], c ∷ drop (i + 1) bs)) (sym e) ∙ ap (λ (l : List ℕ). ([], l)) (sym d) in
    h ∙ ap (behind (take i bs)) f ∙ ap (λ (l : List ℕ). (l, drop i bs)) (append-nil (take i bs))

pub front_end : (s : ℕ) (bs : List ℕ) (i : ℕ) → length bs ≤ i → front_of s bs ≡ behind (take i bs) (front_of s (drop i bs)) → front_of s bs ≡ (bs, [])
front_end s bs i le h =
    h ∙ ap (behind (take i bs)) (at_drop_all (front_of s) bs i le ∙ front_none s) ∙ ap (λ (l : List ℕ). (l, [])) (append-nil (take i bs) ∙ take_all i bs le)

pub parts_are : (s : ℕ) (bs : List ℕ) (p q x y : List ℕ) → front_of s bs ≡ (x, y) → p ≡ x → q ≡ y → front_of s bs ≡ (p, q)
parts_are s bs p q x y h a b = h ∙ ap (λ (l : List ℕ). (l, y)) (sym a) ∙ ap (λ (l : List ℕ). (p, l)) (sym b)

-- no separator stands before a place
pub fronts_to : (s : ℕ) (bs : List ℕ) (i : ℕ) → i ≤ length bs → ((k : ℕ) → k < i → eqb (get_or bs k 0) s ≡ true → ⊥) → front_of s bs ≡ behind (take i bs) (front_of s (drop i bs))
fronts_to s bs zero le none = refl
fronts_to s bs (suc i) le none =
    let ne : get_or bs i 0 ≢ s = λ e. none i (omega arith) (grind (arith, common_steps)) in
    subst (λ j. front_of s bs ≡ behind (take j bs) (front_of s (drop j bs))) (add-one i)
    (front_more s bs i (omega arith) ne (fronts_to s bs i (omega arith) (λ k l. none k (omega arith))))
