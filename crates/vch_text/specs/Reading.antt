-- What a step of reading finds, or that it finds nothing.
use Rattle.std.specs.Prelude.{◌≡◌, Option, Some, None}

infixl 10 ◌>>=◌
abbrev pub ◌>>=◌ : {A B : Type 0} → Option A → (A → Option B) → Option B
(Some x) >>= f = f x
None >>= f = None

-- what a function returned, seen by view, is what there is to be found
abbrev pub Finds : {X Y : Type 0} → (X → Y) → Option X → Option Y → Type 0
Finds view (Some x) read = read ≡ Some (view x)
Finds view None read = read ≡ None
