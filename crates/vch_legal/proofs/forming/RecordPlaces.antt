-- A record that a create is at: what the place behind it is, and what is behind it.
use Rattle.std.proofs.Common.{◌≡◌, ℕ, ◌+◌, ◌-◌, ◌≤◌, ◌==◌, nat_lt, List, ◌∷◌, arith, ap, ◌∙◌, length, take, drop}
use Rattle.std.proofs.lemmas.Grind.{common_steps}
use Rattle.std.proofs.lemmas.List.{length-drop}
use Rattle.vch_recipe.specs.Recipes.{One, End, HeaderCut, ContentCut, first_of, content_of, word_at}
use Rattle.vch_recipe.specs.declared.recipe.Recipe.{Recipe}
use Rattle.vch_legal.proofs.forming.Creates.{behind}
use Rattle.vch_legal.proofs.facts.Choices.{cases_bool}
use Rattle.vch_legal.proofs.forming.Forming.{rest_of}

-- a whole record has a header
one_long : (b : List ℕ) (r : Recipe) (rest : List ℕ) → first_of b ≡ One r rest → 16 ≤ length b
one_long b r rest e = cases_bool (length b == 0) (16 ≤ length b)
    (λ z. let k : End ≡ One r rest = rw z at e in cc)
    (λ some. cases_bool (nat_lt (length b) 16) (16 ≤ length b) (λ z. let k : HeaderCut (length b) ≡ One r rest =
    rw (some, z) at e in cc) (λ z. grind (arith, common_steps)))

-- and its content
content_few : (b : List ℕ) (r : Recipe) (rest : List ℕ) → first_of b ≡ One r rest → 16 + length r.content ≤ length b
content_few b r rest e = cases_bool (length b == 0) (16 + length r.content ≤ length b)
    (λ z. let k : End ≡ One r rest = rw z at e in cc)
    (λ some. cases_bool (nat_lt (length b) 16) (16 + length r.content ≤ length b) (λ z. let k : HeaderCut (length b)
    ≡ One r rest = rw (some, z) at e in cc)
    (λ z. let l : 16 ≤ length b =
    grind (arith, common_steps) in
    by_content l (word_at 0 b) (word_at 4 b) (word_at 8 b) (word_at 12 b) (rw (some, z) at e)))
  where
    by_content : 16 ≤ length b → (key command previous wanted : ℕ)
        → content_of key command previous wanted (drop 16 b) ≡ One r rest → 16 + length r.content ≤ length b
    by_content l key command previous wanted e =
        cases_bool (nat_lt (length (drop 16 b)) wanted) (16 + length r.content ≤ length b)
        (λ z. let k : ContentCut wanted (length (drop 16 b)) ≡ One r rest = rw z at e in cc)
        (λ z.
        let k : One (record {
          key = key;
          command = command;
          previous = previous;
          content =
              take wanted (drop 16 b);
        }) (drop wanted (drop 16 b)) ≡ One r rest = rw z at e in
        let q : take wanted (drop 16 b) ≡ r.content = cc in
        let n : length (take wanted (drop 16 b)) ≡ length r.content = ap length q in
        let i : length (take wanted (drop 16 b)) ≤ length (drop 16 b) = grind (arith, common_steps) in
        let j : length (drop 16 b) ≡ length b - 16 = length-drop 16 b in
        omega (arith, n, i, j, l))

-- what is behind it is there
pub record_place : (bytes : List ℕ) (at next : ℕ) (r : Recipe) (rest : List ℕ) → at ≤ length bytes
    → first_of (drop at bytes) ≡ One r rest → next + length rest ≡ length bytes → next ≡ at + (16 + length r.content)
record_place bytes at next r rest l e q =
    let a : length rest ≡ length (drop at bytes) - (16 + length r.content) =
    ap length (rest_of (drop at bytes) r rest e).rest_is ∙ length-drop (16 + length r.content) (drop at bytes) in
    let b : 16 + length r.content ≤ length (drop at bytes) = content_few (drop at bytes) r rest e in
    let d : length (drop at bytes) ≡ length bytes - at = length-drop at bytes in
    omega (arith, a, b, d, l, q)

-- the place behind it is sixteen bytes further at least
pub record_long : (bytes : List ℕ) (at : ℕ) (r : Recipe) (rest : List ℕ) → first_of (drop at bytes) ≡ One r rest
    → length (drop (at + (16 + length r.content)) bytes) + 16 ≤ length (drop at bytes)
record_long bytes at r rest e =
    let a : length (drop (at + (16 + length r.content)) bytes) ≡ length rest = ap length (behind at bytes r rest e) in
    let b : length rest ≡ length (drop at bytes) - (16 + length r.content) =
    ap length (rest_of (drop at bytes) r rest e).rest_is ∙ length-drop (16 + length r.content) (drop at bytes) in
    let d : 16 ≤ length (drop at bytes) = one_long (drop at bytes) r rest e in
    omega (arith, a, b, d)

-- and the array has it
pub record_inside : (bytes : List ℕ) (at : ℕ) (r : Recipe) (rest : List ℕ) → first_of (drop at bytes) ≡ One r rest
    → at ≤ length bytes
record_inside bytes at r rest e =
    let a : 16 ≤ length (drop at bytes) = one_long (drop at bytes) r rest e in
    let b : length (drop at bytes) ≡ length bytes - at = length-drop at bytes in
    omega (arith, a, b)

-- the bytes behind it
pub record_rest : (bytes : List ℕ) (at : ℕ) (r : Recipe) (rest : List ℕ) → first_of (drop at bytes) ≡ One r rest
    → drop (at + (16 + length r.content)) bytes ≡ rest
record_rest bytes at r rest e = behind at bytes r rest e
