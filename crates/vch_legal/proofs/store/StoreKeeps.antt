-- Facts of the sequential store after every legal history: its live values belong to their keys, name tasks of the
-- scenario and are different, and what a name or a message has is live.
use Rattle.std.proofs.Common.{◌≡◌, ℕ, ◌-◌, Bool, List, [], ◌∷◌, ◌++◌, refl, true, false, ◌||◌, arith, sym, ◌∙◌, subst, Some, None, Option, Ok, Err, Result, inl, inr}
use Rattle.std.proofs.lemmas.List.Folds.{list_any-append}
use Rattle.std.specs.Prelude.{◌⊎◌, if◌then◌else◌, ◌==◌, nat_lt, ℤ}
use Rattle.std.specs.List.{list_any}
use Rattle.vch_base.specs.declared.key.Key.{Key}
use Rattle.vch_base.specs.declared.value.Value.{Value}
use Rattle.vch_model.specs.declared.lists.Scenario.{Scenario}
use Rattle.vch_model.specs.Voucher.{Voucher}
use Rattle.vch_model.specs.Store.{Store, Member, Named, Message, nobody, member, set_member, name_of, one_more, one_less, with_name, without_name, is_full, given, has_value, message_has, is_held_at}
use Rattle.vch_model.specs.Transfer.{before, after}
use Rattle.vch_model.specs.After.{placed, appended, queued, let_go, gone, lost, sent, taken_first, received}
use Rattle.vch_model.specs.Legal.{voucher_made, voucher_received}
use Rattle.vch_legal.proofs.facts.Choices.{cases_bool, or_case, or_left, or_right}
use Rattle.vch_legal.proofs.tasks.TaskItems.{any_set_task}

-- what a name or a message of a task has
abbrev pub member_has : Key → Value → Member → Bool
member_has k x m = list_any (λ (n : Named). has_value k x n.voucher) m.names || list_any
    (λ (q : Message). message_has k x q.voucher) m.queue

abbrev pub names_have : Key → Value → List Named → Bool
names_have k x names = list_any (λ (n : Named). has_value k x n.voucher) names

abbrev pub queue_has : Key → Value → List Message → Bool
queue_has k x queue = list_any (λ (q : Message). message_has k x q.voucher) queue

-- a step of the store that gives a voucher to a name or a message, or none
pub record Gives (v : Option Voucher) (s o : Store) : Type 0 where
  pub live : o.live ≡ s.live
  pub held : (k : Key) (x : Value) → is_held_at o k x ≡ true → (is_held_at s k x ≡ true) ⊎ (message_has k x v ≡ true)

pub gives_self : (v : Option Voucher) (s : Store) → Gives v s s
gives_self v s = record { live = refl; held = λ k x h. inl h }

gives_then : (v : Option Voucher) (s o p : Store) → Gives v s o → Gives v o p → Gives v s p
gives_then v s o p a b = record {
  live = b.live ∙ a.live;
  held = λ k x h. elim (b.held k x h) as (λ _. (is_held_at s k x ≡ true) ⊎ (message_has k x v ≡ true)) [
    | inl old ↦ a.held k x old
    | inr new ↦ inr new
  ];
}

gives_set : (v : Option Voucher) (s : Store) (t : ℕ) (m : Member)
    → ((k : Key) (x : Value) → member_has k x m ≡ true → (member_has k x (member s t) ≡ true) ⊎
    (message_has k x v ≡ true)) → Gives v s (set_member s t m)
gives_set v s t m f = record {
  live = refl;
  held = λ k x h. any_set_task (member_has k x) s.tasks t m nobody
      (message_has k x v ≡ true) refl (f k x) h;
}

pub gives_if : (v : Option Voucher) (s a b : Store) (c : Bool) → Gives v s a → Gives v s b
    → Gives v s (if c then a else b)
gives_if v s a b true x y = x
gives_if v s a b false x y = y

-- names and queues

more_has : (k : Key) (x : Value) (names : List Named) (name : ℕ)
    → names_have k x (one_more names name) ≡ names_have k x names
more_has k x [] name = refl
more_has k x (n ∷ names) name =
    cases_bool (n.name == name) (names_have k x (one_more (n ∷ names) name) ≡ names_have k x (n ∷ names))
    (λ here. rw here)
    (λ other. rw (other, more_has k x names name))

less_has : (k : Key) (x : Value) (names : List Named) (name : ℕ) → names_have k x (one_less names name) ≡ true
    → names_have k x names ≡ true
less_has k x [] name h = h
less_has k x (n ∷ names) name h = by_name (n.name == name) (nat_lt 1 n.refs) (less_has k x names name) h
  where
    by_name : (b c : Bool) → (names_have k x (one_less names name) ≡ true → names_have k x names ≡ true)
        → names_have k x (if b then (if c then record n { refs = n.refs - 1 } ∷ names else names) else n ∷ one_less
        names name) ≡ true → names_have k x (n ∷ names) ≡ true
    by_name true true later g = g
    by_name true false later g = or_right (has_value k x n.voucher) (names_have k x names) g
    by_name false c later g = elim (or_case (has_value k x n.voucher) (names_have k x (one_less names name)) g) as
        (λ _. names_have k x (n ∷ names) ≡ true) [
          | inl here ↦ or_left (has_value k x n.voucher) (names_have k x names) here
          | inr there ↦ or_right (has_value k x n.voucher) (names_have k x names) (later there)
        ]

or_drop : (a : Bool) → (a || false) ≡ true → a ≡ true
or_drop a e = grind arith

named_has : (k : Key) (x : Value) (m : Member) (v : Voucher) (found : Option ℕ)
    → member_has k x (with_name m v found) ≡ true → (member_has k x m ≡ true) ⊎ (has_value k x v ≡ true)
named_has k x m v (Some name) h = inl (subst (λ b. (b || queue_has k x m.queue) ≡ true) (more_has k x m.names name) h)
named_has k x m v None h =
    elim (or_case (names_have k x (m.names ++ record { name = m.next; voucher = v; refs = 1 } ∷ []))
    (queue_has k x m.queue) h) as (λ _. (member_has k x m ≡ true) ⊎ (has_value k x v ≡ true)) [
      | inl names ↦ elim (or_case (names_have k x m.names) (has_value k x v || false)
          (sym (list_any-append (λ (n : Named). has_value k x n.voucher) m.names
          (record { name = m.next; voucher = v; refs = 1 } ∷ [])) ∙ names)) as
          (λ _. (member_has k x m ≡ true) ⊎ (has_value k x v ≡ true)) [
            | inl old ↦ inl (or_left (names_have k x m.names) (queue_has k x m.queue) old)
            | inr new ↦ inr (or_drop (has_value k x v) new)
          ]
      | inr queue ↦ inl (or_right (names_have k x m.names) (queue_has k x m.queue) queue)
    ]

pub given_gives : (s : Store) (t : ℕ) (v : Voucher) → Gives (Some v) s (given s t v)
given_gives s t v = gives_set (Some v) s t (with_name (member s t) v (name_of (member s t).names v))
    (λ k x h. named_has k x (member s t) v (name_of (member s t).names v) h)

pub let_go_gives : (v : Option Voucher) (s : Store) (t name : ℕ) → Gives v s (let_go s t name)
let_go_gives v s t name =
    gives_set v s t (record (member s t) { names = one_less (member s t).names name })
    (λ k x h. inl (fewer k x h))
  where
    fewer : (k : Key) (x : Value) → (names_have k x (one_less (member s t).names name) || queue_has k x
        (member s t).queue) ≡ true → member_has k x (member s t) ≡ true
    fewer k x h = elim (or_case (names_have k x (one_less (member s t).names name))
        (queue_has k x (member s t).queue) h) as (λ _. member_has k x (member s t) ≡ true) [
          | inl names ↦ or_left (names_have k x (member s t).names) (queue_has k x (member s t).queue)
              (less_has k x (member s t).names name names)
          | inr queue ↦ or_right (names_have k x (member s t).names) (queue_has k x (member s t).queue) queue
        ]

pub appended_gives : (v : Option Voucher) (s : Store) (to : ℕ) (q : Message)
    → ((k : Key) (x : Value) → message_has k x q.voucher ≡ true → message_has k x v ≡ true)
    → Gives v s (appended s to q)
appended_gives v s to q f = gives_set v s to (record (member s to) { queue = (member s to).queue ++ q ∷ [] }) more
  where
    more : (k : Key) (x : Value) → (names_have k x (member s to).names || queue_has k x
        ((member s to).queue ++ q ∷ [])) ≡ true → (member_has k x (member s to) ≡ true) ⊎ (message_has k x v ≡ true)
    more k x h = elim (or_case (names_have k x (member s to).names) (queue_has k x ((member s to).queue ++ q ∷ [])) h)
        as (λ _. (member_has k x (member s to) ≡ true) ⊎ (message_has k x v ≡ true)) [
          | inl names ↦ inl (or_left (names_have k x (member s to).names) (queue_has k x (member s to).queue) names)
          | inr queue ↦ elim (or_case (queue_has k x (member s to).queue) (message_has k x q.voucher || false)
              (sym (list_any-append (λ (r : Message). message_has k x r.voucher) (member s to).queue (q ∷ []))
              ∙ queue))
              as (λ _. (member_has k x (member s to) ≡ true) ⊎ (message_has k x v ≡ true)) [
                | inl old ↦ inl (or_right (names_have k x (member s to).names) (queue_has k x (member s to).queue) old)
                | inr new ↦ inr (f k x (or_drop (message_has k x q.voucher) new))
              ]
        ]

pub queued_gives : (v : Option Voucher) (sc : Scenario) (s : Store) (to : ℕ) (q : Message)
    → ((k : Key) (x : Value) → message_has k x q.voucher ≡ true → message_has k x v ≡ true)
    → Gives v s (queued sc s to q)
queued_gives v sc s to q f =
    gives_if v s s (appended s to q) (is_full sc s to) (gives_self v s) (appended_gives v s to q f)

-- what an exit gives up

without_has : (k : Key) (x : Value) (names : List Named) (name : ℕ) → names_have k x (without_name names name) ≡ true
    → names_have k x names ≡ true
without_has k x [] name h = h
without_has k x (n ∷ names) name h = by_test (n.name == name) (without_has k x names name) h
  where
    by_test : (b : Bool) → (names_have k x (without_name names name) ≡ true → names_have k x names ≡ true)
        → names_have k x (if b then names else n ∷ without_name names name) ≡ true
        → names_have k x (n ∷ names) ≡ true
    by_test true later g = or_right (has_value k x n.voucher) (names_have k x names) g
    by_test false later g = elim (or_case (has_value k x n.voucher) (names_have k x (without_name names name)) g) as
        (λ _. names_have k x (n ∷ names) ≡ true) [
          | inl here ↦ or_left (has_value k x n.voucher) (names_have k x names) here
          | inr there ↦ or_right (has_value k x n.voucher) (names_have k x names) (later there)
        ]

pub gone_gives : (v : Option Voucher) (s : Store) (t name : ℕ) → Gives v s (gone s t name)
gone_gives v s t name =
    gives_set v s t (record (member s t) { names = without_name (member s t).names name }) (λ k x h. inl (fewer k x h))
  where
    fewer : (k : Key) (x : Value) → (names_have k x (without_name (member s t).names name) || queue_has k x
        (member s t).queue) ≡ true → member_has k x (member s t) ≡ true
    fewer k x h = elim (or_case (names_have k x (without_name (member s t).names name))
        (queue_has k x (member s t).queue) h) as (λ _. member_has k x (member s t) ≡ true) [
          | inl names ↦ or_left (names_have k x (member s t).names) (queue_has k x (member s t).queue)
              (without_has k x (member s t).names name names)
          | inr queue ↦ or_right (names_have k x (member s t).names) (queue_has k x (member s t).queue) queue
        ]

-- a call

pub placed_gives : (s : Store) (t : ℕ) (r : Result (Option Voucher) ℤ) → Gives (voucher_made r) s (placed s t r)
placed_gives s t (Ok (Some v)) = given_gives s t v
placed_gives s t (Ok None) = gives_self None s
placed_gives s t (Err code) = gives_self None s

taken_gives : (v : Option Voucher) (s : Store) (t : ℕ) (q : Message) (queue : List Message)
    → (member s t).queue ≡ q ∷ queue → Gives v s (taken_first s t queue)
taken_gives v s t q queue e = gives_set v s t (record (member s t) { queue = queue }) (λ k x h. inl (fewer k x h))
  where
    fewer : (k : Key) (x : Value) → (names_have k x (member s t).names || queue_has k x queue) ≡ true
        → member_has k x (member s t) ≡ true
    fewer k x h = elim (or_case (names_have k x (member s t).names) (queue_has k x queue) h) as
        (λ _. member_has k x (member s t) ≡ true) [
          | inl names ↦ or_left (names_have k x (member s t).names) (queue_has k x (member s t).queue) names
          | inr later ↦ or_right (names_have k x (member s t).names) (queue_has k x (member s t).queue)
              (subst (λ (xs : List Message). queue_has k x xs ≡ true) (sym e)
              (or_right (message_has k x q.voucher) (queue_has k x queue) later))
        ]

pub lost_gives : (v : Option Voucher) (s : Store) (t : ℕ) (queue : List Message) → (member s t).queue ≡ queue
    → Gives v s (lost s t queue)
lost_gives v s t [] e = gives_self v s
lost_gives v s t (q ∷ queue) e = taken_gives v s t q queue e

pub received_gives : (sc : Scenario) (s : Store) (t : ℕ) (queue : List Message) → (member s t).queue ≡ queue
    → Gives (voucher_received sc t queue) s (received sc s t queue)
received_gives sc s t [] e = gives_self None s
received_gives sc s t (q ∷ queue) e = by_voucher q.voucher
  where
    by_voucher : (v : Option Voucher) → Gives (elim v [ None ↦ None | Some w ↦ Some (after sc t w) ]) s
        (elim v [ None ↦ taken_first s t queue | Some w ↦ given (taken_first s t queue) t (after sc t w) ])
    by_voucher None = taken_gives None s t q queue e
    by_voucher (Some w) = gives_then (Some (after sc t w)) s (taken_first s t queue) _
        (taken_gives (Some (after sc t w)) s t q queue e) (given_gives (taken_first s t queue) t (after sc t w))

pub sent_gives : (sc : Scenario) (s : Store) (t to : ℕ) (moving : Bool) (name id : ℕ) (v : Voucher)
    → Gives (Some (before t v)) s (sent sc s t to moving name id (Some v))
sent_gives sc s t to moving name id v =
    gives_if g s s _ (is_full sc s to) (gives_self g s)
    (gives_if g s _ mid moving (gives_then g s mid _ queued_ (let_go_gives g mid t name)) queued_)
  where
    g : Option Voucher
    g = Some (before t v)

    mid : Store
    mid = appended s to (record { sender = t; id = id; voucher = Some (before t v) })

    queued_ : Gives g s mid
    queued_ = appended_gives g s to (record { sender = t; id = id; voucher = Some (before t v) }) (λ k x h. h)
