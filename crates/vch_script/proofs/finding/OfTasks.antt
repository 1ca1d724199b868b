-- Each line of a scenario is of one of its tasks.
use Rattle.std.proofs.Common.{◌≡◌, ℕ, zero, suc, List, [], ◌∷◌, subst, Some}
use Rattle.std.specs.Prelude.{slice_get}
use Rattle.std.specs.List.{AllByRecursion}
use Rattle.vch_model.specs.declared.call.Line.{Line}
use Rattle.vch_model.specs.Scenarios.{IsIn}
use Rattle.vch_script.specs.Places.{IsOfTask, AreOfTasks}

lines_of_task : (version tasks : ℕ) (lines : List Line) → AllByRecursion (λ l. IsIn version tasks l) lines → AllByRecursion (IsOfTask tasks) lines
lines_of_task version tasks [] h = tt
lines_of_task version tasks (l ∷ lines) h = ((h.0.0, h.0.1), lines_of_task version tasks lines h.1)

-- what a scenario within the limits has
pub of_tasks : (version tasks : ℕ) (phases : List (List Line)) → AllByRecursion (λ p. AllByRecursion (λ l. IsIn version tasks l) p) phases → AreOfTasks tasks phases
of_tasks version tasks [] h = tt
of_tasks version tasks (p ∷ phases) h = (lines_of_task version tasks p h.0, of_tasks version tasks phases h.1)

pub item_of : {A : Type 0} (P : A → Type 0) (xs : List A) (i : ℕ) (x : A) → AllByRecursion P xs → slice_get xs i ≡ Some x → P x
item_of P [] i x h e = absurd (cc)
item_of P (y ∷ xs) zero x h e = let q : y ≡ x = cc in subst P q h.0
item_of P (y ∷ xs) (suc i) x h e = item_of P xs i x h.1 e

-- the n-th line of a phase
pub line_of_task : (tasks : ℕ) (phases : List (List Line)) (p i : ℕ) (lines : List Line) (l : Line) → AreOfTasks tasks phases → slice_get phases p ≡ Some lines → slice_get lines i ≡ Some l → IsOfTask tasks l
line_of_task tasks phases p i lines l h e f = item_of (IsOfTask tasks) lines i l (item_of (λ ls. AllByRecursion (IsOfTask tasks) ls) phases p lines h e) f
