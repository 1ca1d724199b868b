-- The vouchers that tasks have, when a name or a message comes or goes.
use Rattle.std.proofs.Common.{◌≡◌, ℕ, zero, suc, ◌<◌, ◌≤◌, Bool, List, [], ◌∷◌, ◌++◌, refl, true, false, arith, ap, sym, ◌∙◌, subst, length, get_or, set, Some, None, Option, cond}
use Rattle.std.specs.Prelude.{◌==◌, nat_lt, ◌-◌, ◌+◌}
use Rattle.std.proofs.lemmas.Grind.{common_steps}
use Rattle.std.proofs.lemmas.List.{append_assoc}
use Rattle.std.specs.List.{flat_map}
use Rattle.vch_books.specs.declared.numbers.Numbers.{Numbers}
use Rattle.vch_books.specs.declared.rows.Named.{Named}
use Rattle.vch_books.specs.declared.rows.Message.{Message}
use Rattle.vch_books.specs.Audits.{first_of, rest_of}
use Rattle.vch_books.specs.Desks as desks
use Rattle.vch_books.specs.Desks.{Desk, empty_desk, numbers_at, name_with, with_name, gone_with, first_voucher, without_name}
use Rattle.vch_books.specs.Holding.{numbers_of, desk_numbers, all_numbers}

-- the second list has one item more, somewhere
pub record IsOneMore {A : Type 0} (x : A) (less more : List A) : Type 0 where
  pub front : List A
  pub back : List A
  pub without : less ≡ front ++ back
  pub with : more ≡ front ++ x ∷ back

module _ {A : Type 0} where
  more_behind : (x y : A) (less more : List A) → IsOneMore x less more → IsOneMore x (y ∷ less) (y ∷ more)
  more_behind x y less more m = record { front = y ∷ m.front; back = m.back; without = ap (λ l. y ∷ l) m.without; with = ap (λ l. y ∷ l) m.with }

  more_right : (x : A) (less more rest : List A) → IsOneMore x less more → IsOneMore x (less ++ rest) (more ++ rest)
  more_right x less more rest m = record {
    front = m.front;
    back = m.back ++ rest;
    without = ap (λ l. l ++ rest) m.without ∙ append_assoc m.front m.back rest;
    with = ap (λ l. l ++ rest) m.with ∙ append_assoc m.front (x ∷ m.back) rest;
  }

  more_left : (x : A) (less more before : List A) → IsOneMore x less more → IsOneMore x (before ++ less) (before ++ more)
  more_left x less more [] m = m
  more_left x less more (y ∷ before) m = more_behind x y (before ++ less) (before ++ more) (more_left x less more before m)

  more_front : (x : A) (rest : List A) → IsOneMore x rest (x ∷ rest)
  more_front x rest = record { front = []; back = rest; without = refl; with = refl }

-- Of one task.

abbrev named_numbers : List Named → List Numbers
named_numbers names = flat_map (λ (n : Named). n.voucher ∷ []) names

abbrev queue_numbers : List Message → List Numbers
queue_numbers queue = flat_map numbers_of queue

with_named : (names : List Named) (n : Named) → IsOneMore n.voucher (named_numbers names) (named_numbers (names ++ n ∷ []))
with_named [] n = more_front n.voucher []
with_named (x ∷ names) n = more_behind n.voucher x.voucher _ _ (with_named names n)

one_more_same : (names : List Named) (name : ℕ) → named_numbers (desks.one_more names name) ≡ named_numbers names
one_more_same [] name = refl
one_more_same (n ∷ names) name = by (n.name == name) (one_more_same names name)
  where
    by : (b : Bool) → named_numbers (desks.one_more names name) ≡ named_numbers names
        → named_numbers (cond b (record n { refs = n.refs + 1 } ∷ names) (n ∷ desks.one_more names name)) ≡ n.voucher ∷ named_numbers names
    by true e = refl
    by false e = ap (λ l. n.voucher ∷ l) e

less_gone : (names : List Named) (name : ℕ) (v : Numbers) → gone_with names name ≡ Some v → IsOneMore v (named_numbers (desks.one_less names name)) (named_numbers names)
less_gone [] name v e = absurd (cc)
less_gone (n ∷ names) name v e = by (n.name == name) (nat_lt 1 n.refs) e (λ q. less_gone names name v q)
  where
    some_eq : (a b : Numbers) → Some a ≡ Some b → a ≡ b
    some_eq a b r = cc

    by : (b c : Bool) → cond b (cond c None (Some n.voucher)) (gone_with names name) ≡ Some v → (gone_with names name ≡ Some v → IsOneMore v (named_numbers (desks.one_less names name)) (named_numbers names))
        → IsOneMore v (named_numbers (cond b (cond c (record n { refs = n.refs - 1 } ∷ names) names) (n ∷ desks.one_less names name))) (n.voucher ∷ named_numbers names)
    by true true e f = absurd (cc)
    by true false e f = subst (λ w. IsOneMore v (named_numbers names) (w ∷ named_numbers names)) (sym (some_eq n.voucher v e)) (more_front v (named_numbers names))
    by false c e f = more_behind v n.voucher _ _ (f e)

less_stays : (names : List Named) (name : ℕ) → gone_with names name ≡ None → named_numbers (desks.one_less names name) ≡ named_numbers names
less_stays [] name e = refl
less_stays (n ∷ names) name e = by (n.name == name) (nat_lt 1 n.refs) e (λ q. less_stays names name q)
  where
    by : (b c : Bool) → cond b (cond c None (Some n.voucher)) (gone_with names name) ≡ None → (gone_with names name ≡ None → named_numbers (desks.one_less names name) ≡ named_numbers names)
        → named_numbers (cond b (cond c (record n { refs = n.refs - 1 } ∷ names) names) (n ∷ desks.one_less names name)) ≡ n.voucher ∷ named_numbers names
    by true true e f = refl
    by true false e f = absurd (cc)
    by false c e f = ap (λ l. n.voucher ∷ l) (f e)

without_gone : (names : List Named) (name : ℕ) (v : Numbers) → numbers_at names name ≡ Some v → IsOneMore v (named_numbers (without_name names name)) (named_numbers names)
without_gone [] name v e = absurd (cc)
without_gone (n ∷ names) name v e = by (n.name == name) e (λ q. without_gone names name v q)
  where
    some_eq : (a b : Numbers) → Some a ≡ Some b → a ≡ b
    some_eq a b r = cc

    by : (b : Bool) → cond b (Some n.voucher) (numbers_at names name) ≡ Some v → (numbers_at names name ≡ Some v → IsOneMore v (named_numbers (without_name names name)) (named_numbers names))
        → IsOneMore v (named_numbers (cond b names (n ∷ without_name names name))) (n.voucher ∷ named_numbers names)
    by true e f = subst (λ w. IsOneMore v (named_numbers names) (w ∷ named_numbers names)) (sym (some_eq n.voucher v e)) (more_front v (named_numbers names))
    by false e f = more_behind v n.voucher _ _ (f e)

without_stays : (names : List Named) (name : ℕ) → numbers_at names name ≡ None → named_numbers (without_name names name) ≡ named_numbers names
without_stays [] name e = refl
without_stays (n ∷ names) name e = by (n.name == name) e (λ q. without_stays names name q)
  where
    by : (b : Bool) → cond b (Some n.voucher) (numbers_at names name) ≡ None → (numbers_at names name ≡ None → named_numbers (without_name names name) ≡ named_numbers names)
        → named_numbers (cond b names (n ∷ without_name names name)) ≡ n.voucher ∷ named_numbers names
    by true e f = absurd (cc)
    by false e f = ap (λ l. n.voucher ∷ l) (f e)

with_message : (queue : List Message) (q : Message) (v : Numbers) → q.voucher ≡ Some v → IsOneMore v (queue_numbers queue) (queue_numbers (queue ++ q ∷ []))
with_message [] q v e = rw e (more_front v [])
with_message (x ∷ queue) q v e = more_left v _ _ (numbers_of x) (with_message queue q v e)

with_plain : (queue : List Message) (q : Message) → q.voucher ≡ None → queue_numbers (queue ++ q ∷ []) ≡ queue_numbers queue
with_plain [] q e = rw e refl
with_plain (x ∷ queue) q e = ap (λ l. numbers_of x ++ l) (with_plain queue q e)

-- what a change of one task's vouchers is to those of all
abbrev pub Comes : Numbers → Desk → Desk → Type 0
Comes v old new = IsOneMore v (desk_numbers old) (desk_numbers new)

abbrev pub Stays : Desk → Desk → Type 0
Stays old new = desk_numbers new ≡ desk_numbers old

pub given_comes : (d : Desk) (v : Numbers) → name_with d.names v ≡ None → Comes v d (desks.given d v)
given_comes d v e = rw e (more_right v _ _ (queue_numbers d.queue) (with_named d.names (record { name = d.next; voucher = v; refs = 1 })))

pub given_stays : (d : Desk) (v : Numbers) (name : ℕ) → name_with d.names v ≡ Some name → Stays d (desks.given d v)
given_stays d v name e = rw e (ap (λ l. l ++ queue_numbers d.queue) (one_more_same d.names name))

pub let_go_goes : (d : Desk) (name : ℕ) (v : Numbers) → gone_with d.names name ≡ Some v → Comes v (record d { names = desks.one_less d.names name }) d
let_go_goes d name v e = more_right v _ _ (queue_numbers d.queue) (less_gone d.names name v e)

pub let_go_stays : (d : Desk) (name : ℕ) → gone_with d.names name ≡ None → Stays d (record d { names = desks.one_less d.names name })
let_go_stays d name e = ap (λ l. l ++ queue_numbers d.queue) (less_stays d.names name e)

pub give_up_goes : (d : Desk) (name : ℕ) (v : Numbers) → numbers_at d.names name ≡ Some v → Comes v (record d { names = without_name d.names name }) d
give_up_goes d name v e = more_right v _ _ (queue_numbers d.queue) (without_gone d.names name v e)

pub give_up_stays : (d : Desk) (name : ℕ) → numbers_at d.names name ≡ None → Stays d (record d { names = without_name d.names name })
give_up_stays d name e = ap (λ l. l ++ queue_numbers d.queue) (without_stays d.names name e)

pub append_comes : (d : Desk) (q : Message) (v : Numbers) → q.voucher ≡ Some v → Comes v d (record d { queue = d.queue ++ q ∷ [] })
append_comes d q v e = more_left v _ _ (named_numbers d.names) (with_message d.queue q v e)

pub append_stays : (d : Desk) (q : Message) → q.voucher ≡ None → Stays d (record d { queue = d.queue ++ q ∷ [] })
append_stays d q e = ap (λ l. named_numbers d.names ++ l) (with_plain d.queue q e)

pub take_goes : (d : Desk) (v : Numbers) → first_voucher d.queue ≡ Some v → Comes v (record d { queue = rest_of d.queue }) d
take_goes d v e = more_left v _ _ (named_numbers d.names) (by d.queue e)
  where
    by : (queue : List Message) → first_voucher queue ≡ Some v → IsOneMore v (queue_numbers (rest_of queue)) (queue_numbers queue)
    by [] e = absurd (cc)
    by (q ∷ queue) e = rw e (more_front v (queue_numbers queue))

pub take_stays : (d : Desk) → first_voucher d.queue ≡ None → Stays d (record d { queue = rest_of d.queue })
take_stays d e = ap (λ l. named_numbers d.names ++ l) (by d.queue e)
  where
    by : (queue : List Message) → first_voucher queue ≡ None → queue_numbers (rest_of queue) ≡ queue_numbers queue
    by [] e = refl
    by (q ∷ queue) e = rw e refl

-- Of all tasks.

none : (i : ℕ) → i < 0 → ⊥
none i w = omega (arith, w)

down : (i n : ℕ) → suc i < suc n → i < n
down i n w = omega (arith, w)

pub all_come : (tasks : List Desk) (i : ℕ) (v : Numbers) (old new : Desk) → i < length tasks → old ≡ get_or tasks i old → Comes v old new → IsOneMore v (all_numbers tasks) (all_numbers (set tasks i new))
all_come [] i v old new w e m = absurd (none i w)
all_come (x ∷ tasks) zero v old new w e m = more_right v _ _ (all_numbers tasks) (subst (λ y. Comes v y new) e m)
all_come (x ∷ tasks) (suc i) v old new w e m = more_left v _ _ (desk_numbers x) (all_come tasks i v old new (down i (length tasks) w) e m)

pub all_go : (tasks : List Desk) (i : ℕ) (v : Numbers) (old new : Desk) → i < length tasks → old ≡ get_or tasks i old → Comes v new old → IsOneMore v (all_numbers (set tasks i new)) (all_numbers tasks)
all_go [] i v old new w e m = absurd (none i w)
all_go (x ∷ tasks) zero v old new w e m = more_right v _ _ (all_numbers tasks) (subst (λ y. Comes v new y) e m)
all_go (x ∷ tasks) (suc i) v old new w e m = more_left v _ _ (desk_numbers x) (all_go tasks i v old new (down i (length tasks) w) e m)

pub all_stay : (tasks : List Desk) (i : ℕ) (old new : Desk) → old ≡ get_or tasks i old → Stays old new → all_numbers (set tasks i new) ≡ all_numbers tasks
all_stay [] i old new e m = refl
all_stay (x ∷ tasks) zero old new e m = ap (λ l. l ++ all_numbers tasks) (subst (λ y. Stays y new) e m)
all_stay (x ∷ tasks) (suc i) old new e m = ap (λ l. desk_numbers x ++ l) (all_stay tasks i old new e m)
