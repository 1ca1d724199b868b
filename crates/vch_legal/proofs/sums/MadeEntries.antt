-- A live value's number leads to its Made entry.
use Rattle.std.proofs.Common.{◌≡◌, ℕ, zero, suc, ◌+◌, ◌-◌, Bool, List, [], ◌∷◌, ◌++◌, refl, true, false, arith, sym, ap, ◌∙◌, subst, length, reverse, Some}
use Rattle.std.specs.Prelude.{if◌then◌else◌, ◌==◌, slice_get}
use Rattle.std.specs.List.{AllByRecursion}
use Rattle.std.proofs.lemmas.List.{length-reverse, reverse-append}
use Rattle.vch_base.specs.declared.value.Value.{Value}
use Rattle.vch_model.specs.declared.entry.Entry.{Entry}
use Rattle.vch_model.specs.declared.entry.Entry.TheVariants as entries
use Rattle.vch_model.specs.declared.lists.Scenario.{Scenario}
use Rattle.vch_model.specs.Store.{Store, Message, Alive, member}
use Rattle.vch_model.specs.Lines.{line_at}
use Rattle.vch_model.specs.After.{store_of, without_made, is_want, lost}
use Rattle.vch_model.specs.Totals.{with_made}
use Rattle.vch_legal.proofs.facts.Choices.{number_eq}
use Rattle.vch_legal.proofs.store.StoreLegal.{call_live}

abbrev IsMadeThere : List Entry → Alive → Type 0
IsMadeThere past l = slice_get (reverse past) (l.made - 1) ≡ Some (entries.Made l.key l.value)

abbrev AllMade : List Entry → List Alive → Type 0
AllMade past live = AllByRecursion (IsMadeThere past) live

in_front : {A : Type 0} (xs ys : List A) (i : ℕ) (x : A) → slice_get xs i ≡ Some x → slice_get (xs ++ ys) i ≡ Some x
in_front [] ys i x e = cc
in_front (y ∷ xs) ys zero x e = e
in_front (y ∷ xs) ys (suc i) x e = in_front xs ys i x e

at_end : {A : Type 0} (xs : List A) (y : A) → slice_get (xs ++ y ∷ []) (length xs) ≡ Some y
at_end [] y = refl
at_end (x ∷ xs) y = at_end xs y

still_made : (past : List Entry) (entry : Entry) (live : List Alive) → AllMade past live → AllMade (entry ∷ past) live
still_made past entry [] h = tt
still_made past entry (l ∷ live) h = (
  ap (λ (xs : List Entry). slice_get xs (l.made - 1)) (reverse-append (entry ∷ []) past)
      ∙ in_front (reverse past) (entry ∷ []) (l.made - 1) (entries.Made l.key l.value) h.0,
  still_made past entry live h.1,
)

made_more : (past : List Entry) (k : ℕ) (x : Value) (live : List Alive) → AllMade (entries.Made k x ∷ past) live
    → AllMade (entries.Made k x ∷ past) (live ++ record { key = k; value = x; made = length past + 1 } ∷ [])
made_more past k x [] h = (
  ap (λ (xs : List Entry). slice_get xs (length past + 1 - 1)) (reverse-append (entries.Made k x ∷ []) past) ∙ here,
  tt,
)
  where
    here : slice_get (reverse past ++ entries.Made k x ∷ []) (length past + 1 - 1) ≡ Some (entries.Made k x)
    here = ap (λ i. slice_get (reverse past ++ entries.Made k x ∷ []) i) (same (length past) (length (reverse past)) (length-reverse past))
        ∙ at_end (reverse past) (entries.Made k x)
      where
        same : (a b : ℕ) → b ≡ a → a + 1 - 1 ≡ b
        same a b e = omega (arith, e)
made_more past k x (l ∷ live) h = (h.0, made_more past k x live h.1)

made_fewer : (past : List Entry) (live : List Alive) (e : ℕ) → AllMade past live → AllMade past (without_made live e)
made_fewer past [] e h = tt
made_fewer past (l ∷ live) e h = by_test (l.made == e) (made_fewer past live e h.1)
  where
    by_test : (b : Bool) → AllMade past (without_made live e) → AllMade past (if b then live else l ∷ without_made live e)
    by_test true later = h.1
    by_test false later = (h.0, later)

lost_live : (s : Store) (t : ℕ) (queue : List Message) → (lost s t queue).live ≡ s.live
lost_live s t [] = refl
lost_live s t (q ∷ queue) = refl

all_made : (sc : Scenario) (past : List Entry) → AllMade past (store_of sc past).live
all_made sc [] = tt
all_made sc (entries.Call t n word reply ∷ past) =
    subst (λ (live : List Alive). AllMade (entries.Call t n word reply ∷ past) live)
    (sym (call_live sc (store_of sc past) t (line_at sc t n) (is_want reply)))
    (still_made past (entries.Call t n word reply) (store_of sc past).live (all_made sc past))
all_made sc (entries.Made k x ∷ past) =
    made_more past k x (store_of sc past).live (still_made past (entries.Made k x) (store_of sc past).live (all_made sc past))
all_made sc (entries.Released e ∷ past) =
    made_fewer (entries.Released e ∷ past) (store_of sc past).live e
    (still_made past (entries.Released e) (store_of sc past).live (all_made sc past))
all_made sc (entries.Gone t name ∷ past) =
    still_made past (entries.Gone t name) (store_of sc past).live (all_made sc past)
all_made sc (entries.Lost t ∷ past) =
    subst (λ (live : List Alive). AllMade (entries.Lost t ∷ past) live)
    (sym (lost_live (store_of sc past) t (member (store_of sc past) t).queue))
    (still_made past (entries.Lost t) (store_of sc past).live (all_made sc past))
all_made sc (entries.Phase ∷ past) =
    still_made past entries.Phase (store_of sc past).live (all_made sc past)

-- the value of a number
pub made_value : (sc : Scenario) (past : List Entry) (e : ℕ) (x : Value) → with_made (store_of sc past).live e ≡ Some x
    → (k : ℕ) × (slice_get (reverse past) (e - 1) ≡ Some (entries.Made k x))
made_value sc past e x f = found (store_of sc past).live (all_made sc past) f
  where
    some_value : {a b : Value} → Some a ≡ Some b → a ≡ b
    some_value g = cc

    found : (live : List Alive) → AllMade past live → with_made live e ≡ Some x
        → (k : ℕ) × (slice_get (reverse past) (e - 1) ≡ Some (entries.Made k x))
    found [] h g = cc
    found (l ∷ live) h g = by_test (l.made == e) refl (found live h.1) g
      where
        by_test : (b : Bool) → (l.made == e) ≡ b
            → (with_made live e ≡ Some x → (k : ℕ) × (slice_get (reverse past) (e - 1) ≡ Some (entries.Made k x)))
            → (if b then Some l.value else with_made live e) ≡ Some x
            → (k : ℕ) × (slice_get (reverse past) (e - 1) ≡ Some (entries.Made k x))
        by_test true same later g = (
          l.key,
          ap (λ n. slice_get (reverse past) (n - 1)) (sym (number_eq l.made e same))
              ∙ (h.0 ∙ ap (λ (y : Value). Some (entries.Made l.key y)) (some_value g)),
        )
        by_test false same later g = later g
