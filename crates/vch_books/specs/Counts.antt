-- How often each item is in a list, without the order.
use Rattle.std.specs.Prelude.{◌≡◌, ℕ, ◌+◌, ◌<◌, Bool, if◌then◌else◌, List, [], ◌∷◌, Some}
use Rattle.std.specs.List.{list_any, count_by}
use Rattle.std.specs.Map.{count_at}
use Rattle.indexmap.specs.IndexMap.{IndexMap, get, index_map_len}

-- how many different ones a list has
abbrev pub different_by : {A : Type 0} → (A → A → Bool) → List A → ℕ
different_by eq [] = 0
different_by eq (x ∷ xs) = (if list_any (eq x) xs then 0 else 1) + different_by eq xs

-- each item has the count of its places in the list, and there is no count of 0
pub record Counts {A S : Type 0} (eq : A → A → Bool) (counts : IndexMap A ℕ S) (xs : List A) : Type 0 where
  pub times : (x : A) → count_at (get eq counts) x ≡ count_by (eq x) xs
  pub some : (x : A) (n : ℕ) → get eq counts x ≡ Some n → 0 < n
  pub many : index_map_len counts ≡ different_by eq xs

-- a list has each of these items once, and no other
abbrev pub HasEachOnce : {A : Type 0} → (A → A → Bool) → List A → List A → Type 0
HasEachOnce {A} eq each xs = (x : A) → count_by (eq x) each ≡ (if list_any (eq x) xs then 1 else 0)
