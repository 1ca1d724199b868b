-- What is written by one write after another.
use Rattle.std.proofs.Common.{◌≡◌, ◌+◌, ◌-◌, ◌≤◌, ℕ, zero, suc, List, [], ◌∷◌, ◌++◌, length, take, drop, sym, ap, ◌∙◌, arith, append_assoc, subst, length-drop, Option, Some, None}
use Rattle.std.proofs.lemmas.Grind.{common_steps}
use Rattle.std.proofs.lemmas.List.{take_all}
use Rattle.vch_base.specs.Stream.{Extends}

take_both : (text : List ℕ) (at n : ℕ) → take (at + n) text ≡ take at text ++ take n (drop at text)
take_both text zero n = grind (arith, common_steps)
take_both [] (suc at) n = grind (arith, common_steps)
take_both (x ∷ text) (suc at) n = let e : suc at + n ≡ suc (at + n) = omega arith in rw e (ap (λ l. x ∷ l) (take_both text at n))

pub appends_more : (a b c : Option (List ℕ)) (text : List ℕ) (at n : ℕ)
    → Extends a b (take at text) → Extends b c (take n (drop at text)) → Extends a c (take (at + n) text)
appends_more a b None text at n p q = tt
appends_more a None (Some z) text at n p q = absurd q
appends_more None (Some y) (Some z) text at n p q = absurd p
appends_more (Some x) (Some y) (Some z) text at n p q =
    q ∙ ap (λ l. l ++ take n (drop at text)) p ∙ append_assoc x (take at text) (take n (drop at text)) ∙ ap (λ l. x ++ l) (sym (take_both text at n))

-- the same for a slice to the end
pub appends_slice : (a b c : Option (List ℕ)) (text : List ℕ) (at n : ℕ)
    → Extends a b (take at text) → Extends b c (take n (take (length text - at) (drop at text))) → Extends a c (take (at + n) text)
appends_slice a b c text at n p q =
    let room : length (drop at text) ≤ length text - at = omega (arith, length-drop at text) in
    appends_more a b c text at n p (subst (λ (l : List ℕ). Extends b c (take n l)) (take_all (length text - at) (drop at text) room) q)
