-- Live values in a list.
use Rattle.std.proofs.Common.{◌≡◌, List, [], ◌∷◌, refl, ap, Bool, true, false, not, cond}
use Rattle.std.specs.List.{filter}
use Rattle.vch_machine.specs.State.{Living, Place, same_place, without_place}

-- the value at a place is gone
pub without : (live : List Living) (p : Place) → filter (λ (l : Living). not (same_place l.place p)) live ≡ without_place live p
without [] p = refl
without (l ∷ live) p = by (same_place l.place p) (without live p)
  where
    by : (b : Bool) → filter (λ (x : Living). not (same_place x.place p)) live ≡ without_place live p
        → cond (not b) (l ∷ filter (λ (x : Living). not (same_place x.place p)) live) (filter (λ (x : Living). not (same_place x.place p)) live)
        ≡ cond b (without_place live p) (l ∷ without_place live p)
    by true e = e
    by false e = ap (λ xs. l ∷ xs) e
