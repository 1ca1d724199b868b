-- One more item of a history or a list that is copied.
use Rattle.std.proofs.Common.{◌≡◌, ℕ, zero, suc, ◌+◌, ◌≤◌, List, [], ◌∷◌, ◌++◌, refl, arith, sym, ap, ◌∙◌, subst, length, take, Some}
use Rattle.std.specs.Prelude.{slice_get}
use Rattle.std.specs.List.{AllByRecursion}
use Rattle.vch_model.specs.Rows.{Entries}
use Rattle.vch_model.specs.declared.entry.Entry.{Entry}
use Rattle.vch_legal.specs.Reports.{IsByteEntry}

-- so many entries were copied, and there is room for the others
pub record Copied (entries : List Entry) (i : ℕ) (made : Entries) : Type 0 where
  pub same : made.entries ≡ take i entries
  pub bytes : AllByRecursion IsByteEntry made.entries
  pub room : length entries ≤ made.spare + i

one_more : (i : ℕ) → suc i ≡ i + 1
one_more i = omega arith

take_suc : {A : Type 0} (xs : List A) (i : ℕ) (x : A) → slice_get xs i ≡ Some x → take (suc i) xs ≡ take i xs ++ x ∷ []
take_suc [] i x e = absurd (cc)
take_suc (y ∷ xs) zero x e = let q : y ≡ x = cc in rw q refl
take_suc (y ∷ xs) (suc i) x e = ap (λ t. y ∷ t) (take_suc xs i x e)

pub all_at : (p : Entry → Type 0) (xs : List Entry) (i : ℕ) (x : Entry) → AllByRecursion p xs → slice_get xs i ≡ Some x → p x
all_at p [] i x a e = absurd (cc)
all_at p (y ∷ xs) zero x a e = let q : y ≡ x = cc in subst p q a.0
all_at p (y ∷ xs) (suc i) x a e = all_at p xs i x a.1 e

all_more : (p : Entry → Type 0) (xs : List Entry) (x : Entry) → AllByRecursion p xs → p x → AllByRecursion p (xs ++ x ∷ [])
all_more p [] x a b = (b, tt)
all_more p (y ∷ xs) x a b = (a.0, all_more p xs x a.1 b)

pub copied_next : (entries : List Entry) (i : ℕ) (made new : Entries) (x y : Entry) → Copied entries i made → slice_get entries i ≡ Some x → y ≡ x → IsByteEntry y
    → new.entries ≡ made.entries ++ y ∷ [] → new.spare + 1 ≡ made.spare → Copied entries (i + 1) new
copied_next entries i made new x y c e same bytes q room = record {
  same = q ∙ rw (c.same, same) (sym (take_suc entries i x e)) ∙ ap (λ n. take n entries) (one_more i);
  bytes = subst (AllByRecursion IsByteEntry) (sym q) (all_more IsByteEntry made.entries y c.bytes bytes);
  room = let r : length entries ≤ made.spare + i = c.room in omega (arith, r, room);
}
