-- The call of a task by its number, and whether it has another one, by the places of its lines.
use Rattle.std.proofs.Common.{◌≡◌, ℕ, zero, suc, ◌+◌, ◌-◌, ◌<◌, ◌≤◌, Bool, true, false, List, [], ◌∷◌, refl, arith, sym, ap, ◌∙◌, subst, length, map, get_or, Option, Some, None, ◌⊎◌, inl, inr, ◌↔◌, IsTrue, nat_le}
use Rattle.std.specs.Prelude.{slice_get}
use Rattle.std.specs.List.{filter}
use Rattle.std.specs.Option.{option_map}
use Rattle.std.proofs.lemmas.Option.{slice_get-map, slice_get_within, slice_get-get_or}
use Rattle.std.proofs.lemmas.Grind.{common_steps}
use Rattle.vch_model.specs.declared.call.Line.{Line}
use Rattle.vch_model.specs.declared.lists.Scenario.{Scenario}
use Rattle.vch_model.specs.Lines.{lines_from, lines_of, line_at, lines_until}
use Rattle.vch_machine.specs.Next.{call_in, nth_call}
use Rattle.vch_legal.proofs.CallerLemmas.{phase_of_line, all_lines, no_lines}
use Rattle.vch_script.specs.declared.places.Spot.{Spot}
use Rattle.vch_script.specs.Places.{numbered, line_at_spot, spots_of, Placed}

abbrev Numbered : Type 0
Numbered = ℕ × Line

some_equal : {A : Type 0} (x y : A) → Some x ≡ Some y → x ≡ y
some_equal x y e = cc

-- the line that stands at a spot
pub record Stood (phases : List (List Line)) (s : Spot) (l : Numbered) : Type 0 where
  pub lines : List Line
  pub phase : slice_get phases s.phase ≡ Some lines
  pub line : slice_get lines s.line ≡ Some l.1
  pub number : l.0 ≡ s.phase + 1

stood : (phases : List (List Line)) (s : Spot) (l : Numbered) → line_at_spot phases s ≡ Some l → Stood phases s l
stood phases s l e = by (slice_get (get_or phases s.phase []) s.line) refl e
  where
    none : (xs : List Line) (i : ℕ) (x : Line) → slice_get xs i ≡ Some x → xs ≡ [] → ⊥
    none [] i x e q = cc
    none (y ∷ xs) i x e q = cc

    here : (n : ℕ) (y : Line) → slice_get (get_or phases s.phase []) s.line ≡ Some y → Some (n, y) ≡ Some l → n ≡ s.phase + 1 → Stood phases s l
    here n y f e m =
        let q : (n, y) ≡ l = some_equal (n, y) l e in
        let a : n ≡ l.0 = ap (λ (x : Numbered). x.0) q in
        let b : y ≡ l.1 = ap (λ (x : Numbered). x.1) q in
        record {
          lines = get_or phases s.phase [];
          phase = slice_get-get_or phases s.phase [] (inside y f);
          line = f ∙ ap (λ (x : Line). Some x) b;
          number = sym a ∙ m;
        }
      where
        past : (xs : List (List Line)) (i : ℕ) → length xs ≤ i → get_or xs i [] ≡ []
        past [] i l = refl
        past (x ∷ xs) zero l = absurd (omega arith)
        past (x ∷ xs) (suc i) l = past xs i (omega (arith, l))

        within : (a b : ℕ) → (b ≤ a → ⊥) → a < b
        within a b h = grind arith

        inside : (y : Line) → slice_get (get_or phases s.phase []) s.line ≡ Some y → s.phase < length phases
        inside y f = within s.phase (length phases) (λ q. none (get_or phases s.phase []) s.line y f (past phases s.phase q))

    by : (o : Option Line) → slice_get (get_or phases s.phase []) s.line ≡ o → numbered (s.phase + 1) o ≡ Some l → Stood phases s l
    by None f e = absurd (cc)
    by (Some y) f e = here (s.phase + 1) y f e refl

mapped_get : (f : Spot → Option Numbered) (xs : List Spot) (ls : List Numbered) (i : ℕ) → map f xs ≡ map (λ l. Some l) ls → option_map f (slice_get xs i) ≡ option_map (λ l. Some l) (slice_get ls i)
mapped_get f xs ls i e = sym (slice_get-map f xs i) ∙ (ap (λ os. slice_get os i) e ∙ slice_get-map (λ l. Some l) ls i)

-- a task's line by its number from 0, where there is a spot for it, and where there is none
pub record Found (sc : Scenario) (t i : ℕ) (s : Spot) : Type 0 where
  pub line : Numbered
  pub there : slice_get (lines_of sc t) i ≡ Some line
  pub stands : Stood sc.phases s line

pub found_line : (sc : Scenario) (tasks : ℕ) (places : List (List Spot)) (t i : ℕ) (s : Spot) → Placed tasks sc.phases (lines_from 1 sc.phases) places → slice_get (spots_of places t) i ≡ Some s → Found sc t i s
found_line sc tasks places t i s placed e = by (slice_get (lines_of sc t) i) refl (sym (ap (option_map (line_at_spot sc.phases)) e) ∙ mapped_get (line_at_spot sc.phases) (spots_of places t) (lines_of sc t) i (placed.each t))
  where
    by : (o : Option Numbered) → slice_get (lines_of sc t) i ≡ o → Some (line_at_spot sc.phases s) ≡ option_map (λ l. Some l) o → Found sc t i s
    by None q f = absurd (cc)
    by (Some l) q f = record { line = l; there = q; stands = stood sc.phases s l (some_equal (line_at_spot sc.phases s) (Some l) f) }

pub no_line : (sc : Scenario) (tasks : ℕ) (places : List (List Spot)) (t i : ℕ) → Placed tasks sc.phases (lines_from 1 sc.phases) places → slice_get (spots_of places t) i ≡ None → slice_get (lines_of sc t) i ≡ None
no_line sc tasks places t i placed e = by (slice_get (lines_of sc t) i) refl (sym (ap (option_map (line_at_spot sc.phases)) e) ∙ mapped_get (line_at_spot sc.phases) (spots_of places t) (lines_of sc t) i (placed.each t))
  where
    by : (o : Option Numbered) → slice_get (lines_of sc t) i ≡ o → None ≡ option_map (λ l. Some l) o → slice_get (lines_of sc t) i ≡ None
    by None q f = q
    by (Some l) q f = absurd (cc)

-- The call.

pub phase_inside : (sc : Scenario) (tasks : ℕ) (places : List (List Spot)) (t i : ℕ) (s : Spot) → Placed tasks sc.phases (lines_from 1 sc.phases) places → slice_get (spots_of places t) i ≡ Some s → s.phase < length sc.phases
phase_inside sc tasks places t i s placed e = let f = found_line sc tasks places t i s placed e in slice_get_within sc.phases s.phase f.stands.lines f.stands.phase

pub line_inside : (sc : Scenario) (tasks : ℕ) (places : List (List Spot)) (t i : ℕ) (s : Spot) (lines : List Line) → Placed tasks sc.phases (lines_from 1 sc.phases) places → slice_get (spots_of places t) i ≡ Some s → slice_get sc.phases s.phase ≡ Some lines
    → s.line < length lines
line_inside sc tasks places t i s lines placed e q =
    let f = found_line sc tasks places t i s placed e in
    let g : f.stands.lines ≡ lines = some_equal f.stands.lines lines (sym f.stands.phase ∙ q) in
    subst (λ (ls : List Line). s.line < length ls) g (slice_get_within f.stands.lines s.line f.line.1 f.stands.line)

pub call_found : (sc : Scenario) (tasks : ℕ) (places : List (List Spot)) (t n i : ℕ) (s : Spot) (lines : List Line) (l : Line) → Placed tasks sc.phases (lines_from 1 sc.phases) places → i ≡ n - 1 → slice_get (spots_of places t) i ≡ Some s → slice_get sc.phases s.phase ≡ Some lines
    → slice_get lines s.line ≡ Some l → Some l.call ≡ nth_call sc t n
call_found sc tasks places t n i s lines l placed m e q r =
    let f = found_line sc tasks places t i s placed e in
    let g : f.stands.lines ≡ lines = some_equal f.stands.lines lines (sym f.stands.phase ∙ q) in
    let h : f.line.1 ≡ l = some_equal f.line.1 l (sym f.stands.line ∙ (ap (λ (ls : List Line). slice_get ls s.line) g ∙ r)) in
    sym (ap call_in (ap (slice_get (lines_of sc t)) (sym m) ∙ f.there) ∙ ap (λ (x : Line). Some x.call) h)

-- Another call.

filter_few : {A : Type 0} (f : A → Bool) (xs : List A) → length (filter f xs) ≤ length xs
filter_few f [] = omega arith
filter_few f (x ∷ xs) = by (f x) refl (filter_few f xs)
  where
    by : (b : Bool) → f x ≡ b → length (filter f xs) ≤ length xs → length (filter f (x ∷ xs)) ≤ suc (length xs)
    by true e h = rw e (omega (arith, h))
    by false e h = rw e (omega (arith, h))

there_is : {A : Type 0} (xs : List A) (i : ℕ) → i < length xs → slice_get xs i ≡ None → ⊥
there_is [] i l e = absurd (omega arith)
there_is (x ∷ xs) zero l e = cc
there_is (x ∷ xs) (suc i) l e = there_is xs i (omega (arith, l)) e

inside_of : {A : Type 0} (xs : List A) (i : ℕ) (x : A) → slice_get xs i ≡ Some x → i < length xs
inside_of xs i x e = slice_get_within xs i x e

-- where no line has this number no call is left
pub no_more : (sc : Scenario) (t i p : ℕ) → slice_get (lines_of sc t) i ≡ None → i < lines_until sc p t → ⊥
no_more sc t i p e l = let few : lines_until sc p t ≤ length (lines_of sc t) = filter_few (λ x. nat_le x.0 p) (lines_of sc t) in there_is (lines_of sc t) i (omega (arith, few, l)) e

at_number : (i : ℕ) → i ≡ (i + 1) - 1
at_number i = omega arith

found_at : (sc : Scenario) (t i : ℕ) (l : Numbered) → slice_get (lines_of sc t) i ≡ Some l → line_at sc t (i + 1) ≡ Some l
found_at sc t i l e = ap (slice_get (lines_of sc t)) (sym (at_number i)) ∙ e

-- a line that is counted is of these phases
pub early : (sc : Scenario) (t i p : ℕ) (l : Numbered) → slice_get (lines_of sc t) i ≡ Some l → i < lines_until sc p t → l.0 ≤ p
early sc t i zero l e h = let z : lines_until sc 0 t ≡ 0 = no_lines sc t in absurd (omega (arith, z, h))
early sc t i (suc p) l e h = by (split i (lines_until sc p t)) (early sc t i p l e)
  where
    split : (a b : ℕ) → (a < b) ⊎ (b < a + 1)
    split a b = grind arith

    next : suc p ≡ p + 1
    next = omega arith

    by : (i < lines_until sc p t) ⊎ (lines_until sc p t < i + 1) → (i < lines_until sc p t → l.0 ≤ p) → l.0 ≤ suc p
    by (inl a) rec = let b : l.0 ≤ p = rec a in omega (arith, b)
    by (inr a) rec =
        let k : i < lines_until sc (p + 1) t = subst (λ q. i < lines_until sc q t) next h in
        let b : l.0 ≡ p + 1 = phase_of_line sc t (i + 1) p l (found_at sc t i l e) a (omega (arith, k)) in omega (arith, b)

-- and one that is not is of a later one
late_by : (sc : Scenario) (t i n p : ℕ) (l : Numbered) → slice_get (lines_of sc t) i ≡ Some l → length sc.phases ≤ p + n → lines_until sc p t ≤ i → p < l.0
late_by sc t i zero p l e m h =
    let a : lines_until sc p t ≡ length (lines_of sc t) = all_lines sc t p (omega (arith, m)) in
    let b : i < length (lines_of sc t) = inside_of (lines_of sc t) i l e in absurd (omega (arith, a, b, h))
late_by sc t i (suc n) p l e m h = by (split i (lines_until sc (p + 1) t)) (late_by sc t i n (p + 1) l e (omega (arith, m)))
  where
    split : (a b : ℕ) → (a < b) ⊎ (b ≤ a)
    split a b = grind arith

    by : (i < lines_until sc (p + 1) t) ⊎ (lines_until sc (p + 1) t ≤ i) → (lines_until sc (p + 1) t ≤ i → p + 1 < l.0) → p < l.0
    by (inl a) rec = let b : l.0 ≡ p + 1 = phase_of_line sc t (i + 1) p l (found_at sc t i l e) (omega (arith, h)) (omega (arith, a)) in omega (arith, b)
    by (inr a) rec = let b : p + 1 < l.0 = rec a in omega (arith, b)

pub late : (sc : Scenario) (t i p : ℕ) (l : Numbered) → slice_get (lines_of sc t) i ≡ Some l → lines_until sc p t ≤ i → p < l.0
late sc t i p l e h = late_by sc t i (length sc.phases) p l e (omega arith) h

pub has_more : (sc : Scenario) (tasks : ℕ) (places : List (List Spot)) (t i p : ℕ) (s : Spot) → Placed tasks sc.phases (lines_from 1 sc.phases) places → slice_get (spots_of places t) i ≡ Some s → IsTrue (nat_le s.phase p) ↔ (i < lines_until sc (p + 1) t)
has_more sc tasks places t i p s placed e =
    let f = found_line sc tasks places t i s placed e in
    let n : f.line.0 ≡ s.phase + 1 = f.stands.number in (
      λ a. below i (lines_until sc (p + 1) t) (λ b. let q : p + 1 < f.line.0 = late sc t i (p + 1) f.line f.there b in let r : s.phase ≤ p = le_of s.phase p a in absurd (omega (arith, n, q, r))),
      λ a. let q : f.line.0 ≤ p + 1 = early sc t i (p + 1) f.line f.there a in of_le s.phase p (omega (arith, n, q)),
    )
  where
    below : (a b : ℕ) → (b ≤ a → ⊥) → a < b
    below a b h = grind arith

    le_of : (a b : ℕ) → IsTrue (nat_le a b) → a ≤ b
    le_of a b h = grind (arith, common_steps)

    of_le : (a b : ℕ) → a ≤ b → IsTrue (nat_le a b)
    of_le a b h = grind (arith, common_steps)

pub has_no_more : (sc : Scenario) (tasks : ℕ) (places : List (List Spot)) (t i p : ℕ) → Placed tasks sc.phases (lines_from 1 sc.phases) places → slice_get (spots_of places t) i ≡ None → IsTrue false ↔ (i < lines_until sc (p + 1) t)
has_no_more sc tasks places t i p placed e = (λ a. let no : false ≡ true = a in cc, λ a. absurd (no_more sc t i (p + 1) (no_line sc tasks places t i placed e) a))
