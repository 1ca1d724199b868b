-- What the store sees where a voucher is given to a task or queued, a reference is given up, or a message is taken.
use Rattle.std.proofs.Common.{◌≡◌, ℕ, ◌-◌, Bool, List, [], ◌∷◌, ◌++◌, refl, true, false, sym, ap, ◌∙◌, length, map, Some, None, Option}
use Rattle.std.proofs.lemmas.List.{length-map, map-append}
use Rattle.std.specs.Prelude.{if◌then◌else◌, ◌==◌, nat_lt, not}
use Rattle.vch_model.specs.Store as store
use Rattle.vch_model.specs.declared.lists.Scenario.{Scenario}
use Rattle.vch_model.specs.Store.{Store, Member, member, set_member, given, gives_name, limit_of}
use Rattle.vch_model.specs.After.{appended, let_go, gone, lost, taken_first}
use Rattle.vch_machine.specs.State.{Handles, Living, Named, Message, Tasked, Machine, tasked, with_tasked, seen, valued, named_of, message_of, member_of}
use Rattle.vch_machine.specs.Beginning.{enqueued, is_full}
use Rattle.vch_machine.specs.Naming.{name_of, name_for, one_less, without_name, lowest, with_name}
use Rattle.vch_legal.specs.Facts.{Different}
use Rattle.vch_legal.proofs.seen.SeenNames.{LiveAll, AllLive, name_same, given_same}
use Rattle.vch_legal.proofs.seen.SeenTasks.{member_seen, seen_task}
use Rattle.vch_base.proofs.CallerLemmas.{set_twice}

-- the name that a voucher gets
pub name_seen : (live : List Living) (x : Tasked) (v : Handles) → Different live → AllLive live x.names
    → LiveAll live v
    → store.name_for (member_of live x) (store.name_of (member_of live x).names (valued live v))
    ≡ name_for x (name_of x.names v)
name_seen live x v d ln lv = ap (store.name_for (member_of live x)) (name_same live x.names v d ln lv)
    ∙ by_name (name_of x.names v)
  where
    by_name : (o : Option ℕ) → store.name_for (member_of live x) o ≡ name_for x o
    by_name None = refl
    by_name (Some name) = refl

-- a task with a name for a voucher
pub named_seen : (live : List Living) (x : Tasked) (v : Handles) → Different live → AllLive live x.names
    → LiveAll live v
    → member_of live (with_name x v (name_of x.names v)) ≡ store.with_name (member_of live x) (valued live v)
    (store.name_of (member_of live x).names (valued live v))
named_seen live x v d ln lv =
    given_same live x v (name_of x.names v) ∙ ap (store.with_name (member_of live x) (valued live v))
    (sym (name_same live x.names v d ln lv))

-- a voucher is given to a task
pub seen_given : (m : Machine) (t : ℕ) (v : Handles) → Different m.live → AllLive m.live (tasked m t).names
    → LiveAll m.live v
    → seen (with_tasked m t (with_name (tasked m t) v (name_of (tasked m t).names v)))
    ≡ given (seen m) t (valued m.live v)
seen_given m t v d ln lv =
    seen_task m t (with_name (tasked m t) v (name_of (tasked m t).names v))
    ∙ (ap (set_member (seen m) t) (named_seen m.live (tasked m t) v d ln lv)
    ∙ ap (λ (x : Member). set_member (seen m) t (store.with_name x (valued m.live v)
    (store.name_of x.names (valued m.live v)))) (sym (member_seen m t)))

pub gives_seen : (m : Machine) (t : ℕ) (v : Handles) → Different m.live → AllLive m.live (tasked m t).names
    → LiveAll m.live v
    → gives_name (seen m) t (valued m.live v) ≡ name_for (tasked m t) (name_of (tasked m t).names v)
gives_seen m t v d ln lv =
    ap (λ (x : Member). store.name_for x (store.name_of x.names (valued m.live v))) (member_seen m t)
    ∙ name_seen m.live (tasked m t) v d ln lv

-- a user reference is given up
less_seen : (live : List Living) (names : List Named) (name : ℕ) → map (named_of live) (one_less names name)
    ≡ store.one_less (map (named_of live) names) name
less_seen live [] name = refl
less_seen live (n ∷ names) name = by_test (n.name == name) (nat_lt 1 n.refs) (less_seen live names name)
  where
    by_test : (b c : Bool) → map (named_of live) (one_less names name)
        ≡ store.one_less (map (named_of live) names) name
        → map (named_of live) (if b then (if c then record n { refs = n.refs - 1 } ∷ names else names) else n ∷
        one_less names name)
        ≡ (if b then (if c then record (named_of live n) { refs = n.refs - 1 } ∷ map (named_of live) names else map
        (named_of live) names) else named_of live n ∷ store.one_less (map (named_of live) names) name)
    by_test true true i = refl
    by_test true false i = refl
    by_test false c i = ap (λ xs. named_of live n ∷ xs) i

pub seen_less : (m : Machine) (t name : ℕ) → seen
    (with_tasked m t (record (tasked m t) { names = one_less (tasked m t).names name })) ≡ let_go (seen m) t name
seen_less m t name =
    seen_task m t (record (tasked m t) { names = one_less (tasked m t).names name })
    ∙ (ap (λ names. set_member (seen m) t (record (member_of m.live (tasked m t)) { names = names }))
    (less_seen m.live (tasked m t).names name)
    ∙ ap (λ (x : Member). set_member (seen m) t (record x { names = store.one_less x.names name }))
    (sym (member_seen m t)))

-- a name is given up with all its references
without_seen : (live : List Living) (names : List Named) (name : ℕ) → map (named_of live) (without_name names name)
    ≡ store.without_name (map (named_of live) names) name
without_seen live [] name = refl
without_seen live (n ∷ names) name = by_test (n.name == name) (without_seen live names name)
  where
    by_test : (b : Bool) → map (named_of live) (without_name names name)
        ≡ store.without_name (map (named_of live) names) name
        → map (named_of live) (if b then names else n ∷ without_name names name)
        ≡ (if b then map (named_of live) names else named_of live n ∷
        store.without_name (map (named_of live) names) name)
    by_test true i = refl
    by_test false i = ap (λ xs. named_of live n ∷ xs) i

pub seen_gone : (m : Machine) (t name : ℕ) → seen
    (with_tasked m t (record (tasked m t) { names = without_name (tasked m t).names name })) ≡ gone (seen m) t name
seen_gone m t name =
    seen_task m t (record (tasked m t) { names = without_name (tasked m t).names name })
    ∙ (ap (λ names. set_member (seen m) t (record (member_of m.live (tasked m t)) { names = names }))
    (without_seen m.live (tasked m t).names name)
    ∙ ap (λ (x : Member). set_member (seen m) t (record x { names = store.without_name x.names name }))
    (sym (member_seen m t)))

-- the lowest name is the same
pub lowest_seen : (live : List Living) (names : List Named) → store.lowest (map (named_of live) names) ≡ lowest names
lowest_seen live [] = refl
lowest_seen live (n ∷ names) = ap (λ o. Some (store.lower n.name o)) (lowest_seen live names)

-- a queue is full
pub full_seen : (sc : Scenario) (m : Machine) (to : ℕ) → store.is_full sc (seen m) to ≡ is_full sc m to
full_seen sc m to = ap (λ (x : Member). not (nat_lt (length x.queue) (limit_of sc to))) (member_seen m to)
    ∙ ap (λ n. not (nat_lt n (limit_of sc to))) (length-map (tasked m to).queue (message_of m.live))

-- a message is queued
pub seen_queued : (m : Machine) (to : ℕ) (q : Message) → seen (enqueued m to q)
    ≡ appended (seen m) to (message_of m.live q)
seen_queued m to q =
    seen_task m to (record (tasked m to) { queue = (tasked m to).queue ++ q ∷ [] })
    ∙ (ap (λ queue. set_member (seen m) to (record (member_of m.live (tasked m to)) { queue = queue }))
    (map-append (message_of m.live) (tasked m to).queue (q ∷ []))
    ∙ ap (λ (x : Member). set_member (seen m) to (record x { queue = x.queue ++ message_of m.live q ∷ [] }))
    (sym (member_seen m to)))

-- the first message is taken
pub seen_taken : (m : Machine) (t : ℕ) (queue : List Message)
    → seen (with_tasked m t (record (tasked m t) { queue = queue }))
    ≡ taken_first (seen m) t (map (message_of m.live) queue)
seen_taken m t queue =
    seen_task m t (record (tasked m t) { queue = queue })
    ∙ ap (λ (x : Member). set_member (seen m) t (record x { queue = map (message_of m.live) queue }))
    (sym (member_seen m t))

-- a message is thrown away
pub seen_lost : (m : Machine) (t : ℕ) (q : Message) (queue : List Message) → (tasked m t).queue ≡ q ∷ queue
    → seen (with_tasked m t (record (tasked m t) { queue = queue })) ≡ lost (seen m) t (member (seen m) t).queue
seen_lost m t q queue e =
    seen_taken m t queue ∙ sym (ap (λ (x : Member). lost (seen m) t x.queue) (member_seen m t)
    ∙ ap (λ xs. lost (seen m) t (map (message_of m.live) xs)) e)

-- a task that is replaced twice
pub replaced : (m : Machine) (t : ℕ) (x y : Tasked) → with_tasked (with_tasked m t x) t y ≡ with_tasked m t y
replaced m t x y = ap (λ tasks. record m { tasks = tasks }) (set_twice m.tasks t x y)
