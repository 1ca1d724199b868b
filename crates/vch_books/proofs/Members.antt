-- What a task has in the store, from what the books have.
use Rattle.std.proofs.Common.{◌≡◌, ℕ, Bool, List, [], ◌∷◌, refl, true, false, ap, ◌∙◌, map, Some, Option, cond}
use Rattle.std.specs.Prelude.{◌==◌}
use Rattle.std.specs.List.{AllByRecursion}
use Rattle.vch_base.specs.Tasks.{at_task}
use Rattle.vch_model.specs.declared.entry.Entry.{Entry}
use Rattle.vch_model.specs.Store as store
use Rattle.vch_model.specs.Store.{Alive, is_empty}
use Rattle.vch_books.specs.declared.rows.Named.{Named}
use Rattle.vch_books.specs.declared.rows.Message.{Message}
use Rattle.vch_books.specs.Desks as desks
use Rattle.vch_books.specs.Desks.{Desk, empty_desk, numbers_at}
use Rattle.vch_books.specs.Numbered.{Stands, OptionStands, numbered_voucher, option_voucher, option_message, names_of, queue_of, member_of, store_of_lists}
use Rattle.vch_books.specs.Audits.{first_of}
use Rattle.vch_books.specs.Kept.{DeskStands}
use Rattle.vch_books.proofs.Lists.{at_map, all_at}

pub member_is : (h : List Entry) (tasks : List Desk) (live : List ℕ) (t : ℕ)
    → store.member (store_of_lists h tasks live) t ≡ member_of h (at_task tasks t empty_desk)
member_is h tasks live t = at_map (member_of h) tasks t empty_desk

pub voucher_is : (h : List Entry) (names : List Named) (name : ℕ)
    → option_voucher h (numbers_at names name) ≡ store.voucher_of (names_of h names) name
voucher_is h [] name = refl
voucher_is h (n ∷ names) name = by (n.name == name) (voucher_is h names name)
  where
    by : (b : Bool) → option_voucher h (numbers_at names name) ≡ store.voucher_of (names_of h names) name
        → option_voucher h (cond b (Some n.voucher) (numbers_at names name))
        ≡ cond b (Some (numbered_voucher h n.voucher)) (store.voucher_of (names_of h names) name)
    by true e = refl
    by false e = e

pub lowest_is : (h : List Entry) (names : List Named) → desks.lowest names ≡ store.lowest (names_of h names)
lowest_is h [] = refl
lowest_is h (n ∷ names) = ap (λ o. Some (store.lower n.name o)) (lower_same (desks.lowest names)) ∙ ap (λ o. Some (store.lower n.name o)) (lowest_is h names)
  where
    lower_same : (o : Option ℕ) → o ≡ o
    lower_same o = refl

pub first_is : (h : List Entry) (queue : List Message) → option_message h (first_of queue) ≡ first_of (queue_of h queue)
first_is h [] = refl
first_is h (q ∷ queue) = refl

pub empty_is : {A B : Type 0} (f : A → B) (xs : List A) → is_empty xs ≡ is_empty (map f xs)
empty_is f [] = refl
empty_is f (x ∷ xs) = refl

-- the voucher of a name stands where each does
pub voucher_stands : (h : List Entry) (live : List Alive) (names : List Named) (name : ℕ)
    → AllByRecursion (λ n. Stands h live n.voucher) names → OptionStands h live (numbers_at names name)
voucher_stands h live [] name s = tt
voucher_stands h live (n ∷ names) name s = by (n.name == name) (voucher_stands h live names name s.1)
  where
    by : (b : Bool) → OptionStands h live (numbers_at names name) → OptionStands h live (cond b (Some n.voucher) (numbers_at names name))
    by true e = s.0
    by false e = e

pub desk_stands : (h : List Entry) (live : List Alive) (tasks : List Desk) (t : ℕ) → AllByRecursion (DeskStands h live) tasks
    → DeskStands h live (at_task tasks t empty_desk)
desk_stands h live tasks t s = all_at (DeskStands h live) tasks t empty_desk (tt, tt) s
