-- What a change of what a task has makes of the store.
use Rattle.std.proofs.Common.{◌≡◌, ◌≢◌, ℕ, ◌+◌, ◌-◌, ◌≤◌, Bool, List, [], ◌∷◌, ◌++◌, refl, true, false, arith, ap, sym, ◌∙◌, subst, length, Some, None, Option, cond, nat_lt, inl, inr}
use Rattle.std.specs.Prelude.{◌==◌, ◌⊎◌}
use Rattle.std.proofs.lemmas.List.{map-append}
use Rattle.std.specs.List.{AllByRecursion}
use Rattle.vch_base.specs.Tasks.{at_task, set_task}
use Rattle.vch_base.proofs.CallerLemmas.{own_item, other_items, as_long}
use Rattle.vch_model.specs.declared.entry.Entry.{Entry}
use Rattle.vch_model.specs.Store as store
use Rattle.vch_model.specs.Store.{Store, Alive}
use Rattle.vch_model.specs.After as after
use Rattle.vch_books.specs.declared.numbers.Numbers.{Numbers}
use Rattle.vch_books.specs.declared.rows.Named.{Named}
use Rattle.vch_books.specs.declared.rows.Message.{Message}
use Rattle.vch_books.specs.Desks as desks
use Rattle.vch_books.specs.Desks.{Desk, empty_desk, name_with, same_numbers}
use Rattle.vch_books.specs.Numbered.{Stands, OptionStands, numbered_voucher, named_of, names_of, message_of, queue_of, member_of, live_of, store_of_lists}
use Rattle.vch_books.specs.Audits.{rest_of}
use Rattle.vch_books.specs.Kept.{DeskStands, IsMade, AreApart}
use Rattle.vch_books.specs.Going.{Goes}
use Rattle.vch_books.proofs.Lists.{map_set, all_set, all_append}
use Rattle.vch_books.proofs.Members.{member_is, desk_stands}
use Rattle.vch_books.proofs.Alike.{name_is}

-- Of names.

pub more_is : (h : List Entry) (names : List Named) (name : ℕ) → store.one_more (names_of h names) name ≡ names_of h (desks.one_more names name)
more_is h [] name = refl
more_is h (n ∷ names) name = by (n.name == name) (more_is h names name)
  where
    by : (b : Bool) → store.one_more (names_of h names) name ≡ names_of h (desks.one_more names name)
        → cond b (record (named_of h n) { refs = n.refs + 1 } ∷ names_of h names) (named_of h n ∷ store.one_more (names_of h names) name)
        ≡ names_of h (cond b (record n { refs = n.refs + 1 } ∷ names) (n ∷ desks.one_more names name))
    by true e = refl
    by false e = ap (λ xs. named_of h n ∷ xs) e

pub less_is : (h : List Entry) (names : List Named) (name : ℕ) → store.one_less (names_of h names) name ≡ names_of h (desks.one_less names name)
less_is h [] name = refl
less_is h (n ∷ names) name = by (n.name == name) (nat_lt 1 n.refs) (less_is h names name)
  where
    by : (b d : Bool) → store.one_less (names_of h names) name ≡ names_of h (desks.one_less names name)
        → cond b (cond d (record (named_of h n) { refs = n.refs - 1 } ∷ names_of h names) (names_of h names)) (named_of h n ∷ store.one_less (names_of h names) name)
        ≡ names_of h (cond b (cond d (record n { refs = n.refs - 1 } ∷ names) names) (n ∷ desks.one_less names name))
    by true true e = refl
    by true false e = refl
    by false d e = ap (λ xs. named_of h n ∷ xs) e

pub without_is : (h : List Entry) (names : List Named) (name : ℕ) → store.without_name (names_of h names) name ≡ names_of h (desks.without_name names name)
without_is h [] name = refl
without_is h (n ∷ names) name = by (n.name == name) (without_is h names name)
  where
    by : (b : Bool) → store.without_name (names_of h names) name ≡ names_of h (desks.without_name names name)
        → cond b (names_of h names) (named_of h n ∷ store.without_name (names_of h names) name)
        ≡ names_of h (cond b names (n ∷ desks.without_name names name))
    by true e = refl
    by false e = ap (λ xs. named_of h n ∷ xs) e

abbrev NamesStand : List Entry → List Alive → List Named → Type 0
NamesStand h live names = AllByRecursion (λ (n : Named). Stands h live n.voucher) names

more_stands : (h : List Entry) (live : List Alive) (names : List Named) (name : ℕ) → NamesStand h live names → NamesStand h live (desks.one_more names name)
more_stands h live [] name s = tt
more_stands h live (n ∷ names) name s = by (n.name == name) (more_stands h live names name s.1)
  where
    by : (b : Bool) → NamesStand h live (desks.one_more names name) → NamesStand h live (cond b (record n { refs = n.refs + 1 } ∷ names) (n ∷ desks.one_more names name))
    by true e = s
    by false e = (s.0, e)

less_stands : (h : List Entry) (live : List Alive) (names : List Named) (name : ℕ) → NamesStand h live names → NamesStand h live (desks.one_less names name)
less_stands h live [] name s = tt
less_stands h live (n ∷ names) name s = by (n.name == name) (nat_lt 1 n.refs) (less_stands h live names name s.1)
  where
    by : (b d : Bool) → NamesStand h live (desks.one_less names name)
        → NamesStand h live (cond b (cond d (record n { refs = n.refs - 1 } ∷ names) names) (n ∷ desks.one_less names name))
    by true true e = s
    by true false e = s.1
    by false d e = (s.0, e)

without_stands : (h : List Entry) (live : List Alive) (names : List Named) (name : ℕ) → NamesStand h live names → NamesStand h live (desks.without_name names name)
without_stands h live [] name s = tt
without_stands h live (n ∷ names) name s = by (n.name == name) (without_stands h live names name s.1)
  where
    by : (b : Bool) → NamesStand h live (desks.without_name names name) → NamesStand h live (cond b names (n ∷ desks.without_name names name))
    by true e = s.1
    by false e = (s.0, e)

-- Of a task.

pub with_name_is : (h : List Entry) (d : Desk) (v : Numbers) (o : Option ℕ)
    → store.with_name (member_of h d) (numbered_voucher h v) o ≡ member_of h (desks.with_name d v o)
with_name_is h d v None =
    ap (λ xs. member_with xs (d.next + 1)) (sym (map-append (named_of h) d.names (record { name = d.next; voucher = v; refs = 1 } ∷ [])))
  where
    member_with : List store.Named → ℕ → store.Member
    member_with xs n = record { names = xs; next = n; queue = queue_of h d.queue }
with_name_is h d v (Some name) = ap (λ xs. member_with xs) (more_is h d.names name)
  where
    member_with : List store.Named → store.Member
    member_with xs = record { names = xs; next = d.next; queue = queue_of h d.queue }

with_name_stands : (h : List Entry) (live : List Alive) (d : Desk) (v : Numbers) (o : Option ℕ) → Stands h live v → DeskStands h live d → DeskStands h live (desks.with_name d v o)
with_name_stands h live d v None s p = (all_append (λ (n : Named). Stands h live n.voucher) d.names (record { name = d.next; voucher = v; refs = 1 }) p.0 s, p.1)
with_name_stands h live d v (Some name) s p = (more_stands h live d.names name p.0, p.1)

with_name_begun : (d : Desk) (v : Numbers) (o : Option ℕ) → (desks.with_name d v o).begun ≡ d.begun
with_name_begun d v None = refl
with_name_begun d v (Some name) = refl

-- Of one of the tasks.

pub set_is : (h : List Entry) (tasks : List Desk) (live : List ℕ) (t : ℕ) (m : store.Member) (d : Desk) → m ≡ member_of h d
    → store.set_member (store_of_lists h tasks live) t m ≡ store_of_lists h (set_task tasks t d) live
set_is h tasks live t m d e =
    ap (λ x. store.set_member (store_of_lists h tasks live) t x) e ∙ ap (λ xs. store_with xs) (sym (map_set (member_of h) tasks t d))
  where
    store_with : List store.Member → Store
    store_with xs = record { tasks = xs; live = live_of h live }

pub goes_set : (h : List Entry) (live : List ℕ) (tasks : List Desk) (t : ℕ) (d : Desk) → d.begun ≡ (at_task tasks t empty_desk).begun
    → (DeskStands h (live_of h live) (at_task tasks t empty_desk) → DeskStands h (live_of h live) d) → (1 ≤ t) × (t ≤ length tasks)
    → Goes h live tasks (set_task tasks t d)
goes_set h live tasks t d same s w = record {
  long = as_long tasks t d;
  begun = λ u. by u (split u t);
  stands = λ p. all_set (DeskStands h (live_of h live)) tasks t d (s (desk_stands h (live_of h live) tasks t p)) p;
}
  where
    split : (a b : ℕ) → (a ≡ b) ⊎ (a ≢ b)
    split a b = grind arith

    by : (u : ℕ) → (u ≡ t) ⊎ (u ≢ t) → (at_task (set_task tasks t d) u empty_desk).begun ≡ (at_task tasks u empty_desk).begun
    by u (inl e) = subst (λ v. (at_task (set_task tasks t d) v empty_desk).begun ≡ (at_task tasks v empty_desk).begun) (sym e) (ap (λ (x : Desk). x.begun) (own_item tasks t d empty_desk w.0 w.1) ∙ same)
    by u (inr n) = ap (λ (x : Desk). x.begun) (other_items tasks t u d empty_desk n)

pub goes_same : (h : List Entry) (live : List ℕ) (tasks : List Desk) → Goes h live tasks tasks
goes_same h live tasks = record { long = refl; begun = λ t. refl; stands = λ p. p }

pub goes_twice : (h : List Entry) (live : List ℕ) (a b d : List Desk) → Goes h live a b → Goes h live b d → Goes h live a d
goes_twice h live a b d p q = record {
  long = q.long ∙ p.long;
  begun = λ t. q.begun t ∙ p.begun t;
  stands = λ s. q.stands (p.stands s);
}

-- A voucher is given.

pub give_goes : (h : List Entry) (live : List ℕ) (tasks : List Desk) (t : ℕ) (v : Numbers) → (1 ≤ t) × (t ≤ length tasks) → Stands h (live_of h live) v
    → Goes h live tasks (set_task tasks t (desks.given (at_task tasks t empty_desk) v))
give_goes h live tasks t v w s =
    let d = at_task tasks t empty_desk in
    goes_set h live tasks t (desks.given d v) (with_name_begun d v (name_with d.names v)) (with_name_stands h (live_of h live) d v (name_with d.names v) s) w

pub give_is : (h : List Entry) (n : ℕ) (live : List ℕ) (tasks : List Desk) (t : ℕ) (v : Numbers) → AreApart h live → AllByRecursion (IsMade h n) live
    → AllByRecursion (DeskStands h (live_of h live)) tasks → Stands h (live_of h live) v
    → store.given (store_of_lists h tasks live) t (numbered_voucher h v) ≡ store_of_lists h (set_task tasks t (desks.given (at_task tasks t empty_desk) v)) live
give_is h n live tasks t v apart made stands s =
    let d = at_task tasks t empty_desk in
    let w = numbered_voucher h v in
    let named : name_with d.names v ≡ store.name_of (names_of h d.names) w = name_is h n live apart made d.names v (desk_stands h (live_of h live) tasks t stands).0 s in
    set_is h tasks live t (store.with_name (store.member (store_of_lists h tasks live) t) w (store.name_of (store.member (store_of_lists h tasks live) t).names w)) (desks.given d v)
    (ap (λ (m : store.Member). store.with_name m w (store.name_of m.names w)) (member_is h tasks live t)
    ∙ (ap (λ o. store.with_name (member_of h d) w o) (sym named) ∙ with_name_is h d v (name_with d.names v)))

-- A name loses a reference, or goes.

pub let_go_goes : (h : List Entry) (live : List ℕ) (tasks : List Desk) (t name : ℕ) → (1 ≤ t) × (t ≤ length tasks)
    → Goes h live tasks (set_task tasks t (record (at_task tasks t empty_desk) { names = desks.one_less (at_task tasks t empty_desk).names name }))
let_go_goes h live tasks t name w =
    let d = at_task tasks t empty_desk in
    goes_set h live tasks t (record d { names = desks.one_less d.names name }) refl (λ p. (less_stands h (live_of h live) d.names name p.0, p.1)) w

pub let_go_is : (h : List Entry) (live : List ℕ) (tasks : List Desk) (t name : ℕ)
    → after.let_go (store_of_lists h tasks live) t name ≡ store_of_lists h (set_task tasks t (record (at_task tasks t empty_desk) { names = desks.one_less (at_task tasks t empty_desk).names name })) live
let_go_is h live tasks t name =
    let d = at_task tasks t empty_desk in
    set_is h tasks live t (record (store.member (store_of_lists h tasks live) t) { names = store.one_less (store.member (store_of_lists h tasks live) t).names name }) (record d { names = desks.one_less d.names name })
    (ap (λ (m : store.Member). less m) (member_is h tasks live t) ∙ ap (λ xs. with_names d xs) (less_is h d.names name))
  where
    less : store.Member → store.Member
    less m = record m { names = store.one_less m.names name }

    with_names : Desk → List store.Named → store.Member
    with_names d xs = record (member_of h d) { names = xs }

pub gone_goes : (h : List Entry) (live : List ℕ) (tasks : List Desk) (t name : ℕ) → (1 ≤ t) × (t ≤ length tasks)
    → Goes h live tasks (set_task tasks t (record (at_task tasks t empty_desk) { names = desks.without_name (at_task tasks t empty_desk).names name }))
gone_goes h live tasks t name w =
    let d = at_task tasks t empty_desk in
    goes_set h live tasks t (record d { names = desks.without_name d.names name }) refl (λ p. (without_stands h (live_of h live) d.names name p.0, p.1)) w

pub gone_is : (h : List Entry) (live : List ℕ) (tasks : List Desk) (t name : ℕ)
    → after.gone (store_of_lists h tasks live) t name ≡ store_of_lists h (set_task tasks t (record (at_task tasks t empty_desk) { names = desks.without_name (at_task tasks t empty_desk).names name })) live
gone_is h live tasks t name =
    let d = at_task tasks t empty_desk in
    set_is h tasks live t (record (store.member (store_of_lists h tasks live) t) { names = store.without_name (store.member (store_of_lists h tasks live) t).names name }) (record d { names = desks.without_name d.names name })
    (ap (λ (m : store.Member). without m) (member_is h tasks live t) ∙ ap (λ xs. with_names d xs) (without_is h d.names name))
  where
    without : store.Member → store.Member
    without m = record m { names = store.without_name m.names name }

    with_names : Desk → List store.Named → store.Member
    with_names d xs = record (member_of h d) { names = xs }

-- A message is appended, or taken.

pub append_goes : (h : List Entry) (live : List ℕ) (tasks : List Desk) (t : ℕ) (q : Message) → (1 ≤ t) × (t ≤ length tasks) → OptionStands h (live_of h live) q.voucher
    → Goes h live tasks (set_task tasks t (record (at_task tasks t empty_desk) { queue = (at_task tasks t empty_desk).queue ++ q ∷ [] }))
append_goes h live tasks t q w s =
    let d = at_task tasks t empty_desk in
    goes_set h live tasks t (record d { queue = d.queue ++ q ∷ [] }) refl (λ p. (p.0, all_append (λ (x : Message). OptionStands h (live_of h live) x.voucher) d.queue q p.1 s)) w

pub append_is : (h : List Entry) (live : List ℕ) (tasks : List Desk) (t : ℕ) (q : Message)
    → after.appended (store_of_lists h tasks live) t (message_of h q) ≡ store_of_lists h (set_task tasks t (record (at_task tasks t empty_desk) { queue = (at_task tasks t empty_desk).queue ++ q ∷ [] })) live
append_is h live tasks t q =
    let d = at_task tasks t empty_desk in
    set_is h tasks live t (record (store.member (store_of_lists h tasks live) t) { queue = (store.member (store_of_lists h tasks live) t).queue ++ message_of h q ∷ [] }) (record d { queue = d.queue ++ q ∷ [] })
    (ap (λ (m : store.Member). more m) (member_is h tasks live t) ∙ ap (λ xs. with_queue d xs) (sym (map-append (message_of h) d.queue (q ∷ []))))
  where
    more : store.Member → store.Member
    more m = record m { queue = m.queue ++ message_of h q ∷ [] }

    with_queue : Desk → List store.Message → store.Member
    with_queue d xs = record (member_of h d) { queue = xs }

rest_stands : (h : List Entry) (live : List Alive) (queue : List Message) → AllByRecursion (λ (x : Message). OptionStands h live x.voucher) queue → AllByRecursion (λ (x : Message). OptionStands h live x.voucher) (rest_of queue)
rest_stands h live [] p = tt
rest_stands h live (q ∷ queue) p = p.1

rest_is : (h : List Entry) (queue : List Message) → rest_of (queue_of h queue) ≡ queue_of h (rest_of queue)
rest_is h [] = refl
rest_is h (q ∷ queue) = refl

pub take_goes : (h : List Entry) (live : List ℕ) (tasks : List Desk) (t : ℕ) → (1 ≤ t) × (t ≤ length tasks)
    → Goes h live tasks (set_task tasks t (record (at_task tasks t empty_desk) { queue = rest_of (at_task tasks t empty_desk).queue }))
take_goes h live tasks t w =
    let d = at_task tasks t empty_desk in
    goes_set h live tasks t (record d { queue = rest_of d.queue }) refl (λ p. (p.0, rest_stands h (live_of h live) d.queue p.1)) w

pub take_is : (h : List Entry) (live : List ℕ) (tasks : List Desk) (t : ℕ)
    → after.taken_first (store_of_lists h tasks live) t (rest_of (store.member (store_of_lists h tasks live) t).queue)
    ≡ store_of_lists h (set_task tasks t (record (at_task tasks t empty_desk) { queue = rest_of (at_task tasks t empty_desk).queue })) live
take_is h live tasks t =
    let d = at_task tasks t empty_desk in
    set_is h tasks live t (record (store.member (store_of_lists h tasks live) t) { queue = rest_of (store.member (store_of_lists h tasks live) t).queue }) (record d { queue = rest_of d.queue })
    (ap (λ (m : store.Member). less m) (member_is h tasks live t) ∙ ap (λ xs. with_queue d xs) (rest_is h d.queue))
  where
    less : store.Member → store.Member
    less m = record m { queue = rest_of m.queue }

    with_queue : Desk → List store.Message → store.Member
    with_queue d xs = record (member_of h d) { queue = xs }
