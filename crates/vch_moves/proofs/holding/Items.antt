-- The indices of a map as what is to be let go of: they are the handles of the machine's map, and hold what the map held.
use Rattle.std.proofs.Common.{◌≡◌, ℕ, Bool, true, false, cond, List, [], ◌∷◌, ◌++◌, refl, ap, ◌∙◌, Option, Some, None}
use Rattle.std.specs.List.{flat_map}
use Rattle.vch_base.specs.declared.key.Key.{Key}
use Rattle.vch_base.specs.declared.key.Key.TheVariants as keys
use Rattle.vch_base.specs.Keys.{every_key, same_key}
use Rattle.vch_base.specs.Keyed.{Keyed, of_key}
use Rattle.vch_machine.specs.State.{Handles, Place}
use Rattle.vch_machine.specs.Naming.{item, places, option_places}
use Rattle.vch_frame.specs.Pairs.{Pairwise, Optional}
use Rattle.vch_frame.specs.Indices.{listed, index_of}
use Rattle.vch_frame.specs.Releases.{let_at}
use Rattle.vch_values.specs.Parts.{KeyParts}
use Rattle.vch_parts.specs.Plain.{Indices}
use Rattle.vch_parts.specs.Shape.{IsIndexOf, AreIndices, IsMap, IsLet}
use Rattle.vch_parts.specs.Pictures.{let_holds, forming_holds}
use Rattle.vch_moves.specs.Desks.{items, option_items}

pub pairwise_append : {A B : Type 0} (r : A → B → Type 0) (xs : List A) (us : List B) (ys : List A) (vs : List B) → Pairwise r xs us → Pairwise r ys vs → Pairwise r (xs ++ ys) (us ++ vs)
pairwise_append r [] [] ys vs p q = q
pairwise_append r (x ∷ xs) (u ∷ us) ys vs p q = (p.0, pairwise_append r xs us ys vs p.1 q)
pairwise_append r [] (u ∷ us) ys vs p q = absurd p
pairwise_append r (x ∷ xs) [] ys vs p q = absurd p

module _ (x : Keyed KeyParts) where
  pub item_lets : (k : Key) (i h : Option ℕ) → Optional (IsIndexOf x k) i h → Pairwise (IsLet x) (let_at k i) (item k h)
  item_lets k None None p = tt
  item_lets k (Some i) (Some h) p = ((refl, p), tt)
  item_lets k None (Some h) p = absurd p
  item_lets k (Some i) None p = absurd p

  each_lets : (ks : List Key) (v : Indices) (w : Handles) → AreIndices x ks v w → Pairwise (IsLet x) (flat_map (λ k. let_at k (index_of k v)) ks) (flat_map (λ k. item k (of_key k w)) ks)
  each_lets [] v w p = tt
  each_lets (k ∷ ks) v w p = pairwise_append (IsLet x) _ _ _ _ (item_lets k (index_of k v) (of_key k w) p.0) (each_lets ks v w p.1)

  -- the indices of a map are those of its handles
  pub items_lets : (v : Indices) (w : Handles) → IsMap x v w → Pairwise (IsLet x) (items v) (places w)
  items_lets v w p = each_lets every_key v w p.0

  pub option_lets : (v : Option Indices) (w : Option Handles) → Optional (IsMap x) v w → Pairwise (IsLet x) (option_items v) (option_places w)
  option_lets None None p = tt
  option_lets (Some v) (Some w) p = items_lets v w p
  option_lets None (Some w) p = absurd p
  option_lets (Some v) None p = absurd p

nil_right : (xs : List ℕ) → xs ++ [] ≡ xs
nil_right [] = refl
nil_right (x ∷ xs) = ap (λ ys. x ∷ ys) (nil_right xs)

-- one key's handle as an item holds it at that key alone
hold_one : (k q : Key) (o : Option ℕ) (rest : List Place) → flat_map (let_holds k) (item q o ++ rest) ≡ cond (same_key q k) (listed o) [] ++ flat_map (let_holds k) rest
hold_one k q None rest = by (same_key q k)
  where
    by : (b : Bool) → flat_map (let_holds k) rest ≡ cond b [] [] ++ flat_map (let_holds k) rest
    by true = refl
    by false = refl
hold_one k q (Some h) rest = by (same_key q k)
  where
    by : (b : Bool) → cond b (h ∷ []) [] ++ flat_map (let_holds k) rest ≡ cond b (listed (Some h)) [] ++ flat_map (let_holds k) rest
    by true = refl
    by false = refl

-- the handles of a map as items hold what the map held
pub places_hold : (k : Key) (w : Handles) → flat_map (let_holds k) (places w) ≡ listed (of_key k w)
places_hold keys.Importance w = hold_one keys.Importance keys.Importance w.importance _
    ∙ (ap (λ xs. listed w.importance ++ xs) (hold_one keys.Importance keys.Bank w.bank _ ∙ (hold_one keys.Importance keys.User w.user _ ∙ hold_one keys.Importance keys.Test w.test [])) ∙ nil_right (listed w.importance))
places_hold keys.Bank w = hold_one keys.Bank keys.Importance w.importance _ ∙ (hold_one keys.Bank keys.Bank w.bank _
    ∙ (ap (λ xs. listed w.bank ++ xs) (hold_one keys.Bank keys.User w.user _ ∙ hold_one keys.Bank keys.Test w.test []) ∙ nil_right (listed w.bank)))
places_hold keys.User w = hold_one keys.User keys.Importance w.importance _ ∙ (hold_one keys.User keys.Bank w.bank _ ∙ (hold_one keys.User keys.User w.user _
    ∙ (ap (λ xs. listed w.user ++ xs) (hold_one keys.User keys.Test w.test []) ∙ nil_right (listed w.user))))
places_hold keys.Test w = hold_one keys.Test keys.Importance w.importance _ ∙ (hold_one keys.Test keys.Bank w.bank _ ∙ (hold_one keys.Test keys.User w.user _
    ∙ (hold_one keys.Test keys.Test w.test [] ∙ nil_right (listed w.test))))

pub option_hold : (k : Key) (w : Option Handles) → flat_map (let_holds k) (option_places w) ≡ forming_holds k w
option_hold k None = refl
option_hold k (Some w) = places_hold k w
