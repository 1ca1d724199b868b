-- How large a store is after a history of so many entries: names and messages of each task, their numbers, and live values.
use Rattle.std.proofs.Common.{◌≡◌, ℕ, zero, suc, ◌+◌, ◌-◌, ◌<◌, ◌≤◌, ◌==◌, nat_lt, Bool, true, false, List, [], ◌∷◌, ◌++◌, refl, arith, ap, subst, length, length-append, Some, None, Option}
use Rattle.std.specs.Prelude.{◌^◌, if◌then◌else◌, slice_index_or, slice_set, min}
use Rattle.std.specs.List.{AllByRecursion}
use Rattle.vch_base.specs.Tasks.{at_task, set_task}
use Rattle.vch_model.specs.declared.lists.Scenario.{Scenario}
use Rattle.vch_model.specs.Voucher.{Voucher, equal_vouchers}
use Rattle.vch_model.specs.Store.{Store, Member, Named, Message, Alive, nobody, name_of, name_for, one_more, one_less, with_name, lower, lowest, without_name}
use Rattle.vch_legal.proofs.facts.Choices.{some_eq}
use Rattle.vch_legal.proofs.lines.EachLine.{all_joined}

-- a name is between 1 and the next one
abbrev pub NameFits : ℕ → Named → Type 0
NameFits next n = (1 ≤ n.name) × (n.name < next)

abbrev pub MessageFits : Message → Type 0
MessageFits q = (q.sender < 2 ^ 32) × (q.id < 2 ^ 32)

-- the number of a Made entry, after so many entries
abbrev pub MadeWithin : ℕ → Alive → Type 0
MadeWithin n l = (1 ≤ l.made) × (l.made ≤ n)

pub record MemberSmall (n : ℕ) (m : Member) : Type 0 where
  pub names : AllByRecursion (NameFits m.next) m.names
  pub first : 1 ≤ m.next
  pub next : m.next ≤ n + 1
  pub few_names : length m.names ≤ n
  pub messages : AllByRecursion MessageFits m.queue
  pub few_messages : length m.queue ≤ n

pub record StoreSmall (sc : Scenario) (n : ℕ) (s : Store) : Type 0 where
  pub tasks : AllByRecursion (MemberSmall n) s.tasks
  pub as_many : length s.tasks ≡ length sc.flags
  pub made : AllByRecursion (MadeWithin n) s.live
  pub few_live : length s.live ≤ n

-- Lists.

pub all_mapped : {A : Type 0} (P Q : A → Type 0) → ((x : A) → P x → Q x) → (xs : List A) → AllByRecursion P xs → AllByRecursion Q xs
all_mapped P Q f [] p = tt
all_mapped P Q f (x ∷ xs) p = (f x p.0, all_mapped P Q f xs p.1)

all_at : {A : Type 0} (P : A → Type 0) (xs : List A) (i : ℕ) (d : A) → AllByRecursion P xs → P d → P (slice_index_or xs i d)
all_at P [] i d p q = q
all_at P (x ∷ xs) zero d p q = p.0
all_at P (x ∷ xs) (suc i) d p q = all_at P xs i d p.1 q

all_set : {A : Type 0} (P : A → Type 0) (xs : List A) (i : ℕ) (x : A) → AllByRecursion P xs → P x → AllByRecursion P (slice_set xs i x)
all_set P [] i x p q = tt
all_set P (y ∷ ys) zero x p q = (q, p.1)
all_set P (y ∷ ys) (suc i) x p q = (p.0, all_set P ys i x p.1 q)

pub of_task : {A : Type 0} (P : A → Type 0) (xs : List A) (t : ℕ) (d : A) → AllByRecursion P xs → P d → P (at_task xs t d)
of_task P xs zero d p q = q
of_task P xs (suc t) d p q = all_at P xs t d p q

pub with_task : {A : Type 0} (P : A → Type 0) (xs : List A) (t : ℕ) (x : A) → AllByRecursion P xs → P x → AllByRecursion P (set_task xs t x)
with_task P xs zero x p q = p
with_task P xs (suc t) x p q = all_set P xs t x p q

-- Names.

later_names : (a b : ℕ) (names : List Named) → a ≤ b → AllByRecursion (NameFits a) names → AllByRecursion (NameFits b) names
later_names a b names l = all_mapped (NameFits a) (NameFits b) (λ n p. (p.0, omega (arith, l, p.1))) names

one_more_fits : (a name : ℕ) (names : List Named) → AllByRecursion (NameFits a) names → AllByRecursion (NameFits a) (one_more names name)
one_more_fits a name [] h = tt
one_more_fits a name (n ∷ names) h = by_test (n.name == name) (one_more_fits a name names h.1)
  where
    by_test : (b : Bool) → AllByRecursion (NameFits a) (one_more names name)
        → AllByRecursion (NameFits a) (if b then record n { refs = n.refs + 1 } ∷ names else n ∷ one_more names name)
    by_test true r = h
    by_test false r = (h.0, r)

one_more_long : (name : ℕ) (names : List Named) → length (one_more names name) ≡ length names
one_more_long name [] = refl
one_more_long name (n ∷ names) = by_test (n.name == name) (one_more_long name names)
  where
    by_test : (b : Bool) → length (one_more names name) ≡ length names
        → length (if b then record n { refs = n.refs + 1 } ∷ names else n ∷ one_more names name) ≡ suc (length names)
    by_test true r = refl
    by_test false r = ap suc r

one_less_fits : (a name : ℕ) (names : List Named) → AllByRecursion (NameFits a) names → AllByRecursion (NameFits a) (one_less names name)
one_less_fits a name [] h = tt
one_less_fits a name (n ∷ names) h = by_test (n.name == name) (nat_lt 1 n.refs) (one_less_fits a name names h.1)
  where
    by_test : (b d : Bool) → AllByRecursion (NameFits a) (one_less names name)
        → AllByRecursion (NameFits a) (if b then (if d then record n { refs = n.refs - 1 } ∷ names else names) else n ∷ one_less names name)
    by_test true true r = h
    by_test true false r = h.1
    by_test false d r = (h.0, r)

one_less_long : (name : ℕ) (names : List Named) → length (one_less names name) ≤ length names
one_less_long name [] = omega arith
one_less_long name (n ∷ names) = by_test (n.name == name) (nat_lt 1 n.refs) (one_less_long name names)
  where
    by_test : (b d : Bool) → length (one_less names name) ≤ length names
        → length (if b then (if d then record n { refs = n.refs - 1 } ∷ names else names) else n ∷ one_less names name) ≤ suc (length names)
    by_test true true r = omega arith
    by_test true false r = omega arith
    by_test false d r = omega (arith, r)

without_fits : (a name : ℕ) (names : List Named) → AllByRecursion (NameFits a) names → AllByRecursion (NameFits a) (without_name names name)
without_fits a name [] h = tt
without_fits a name (n ∷ names) h = by_test (n.name == name) (without_fits a name names h.1)
  where
    by_test : (b : Bool) → AllByRecursion (NameFits a) (without_name names name)
        → AllByRecursion (NameFits a) (if b then names else n ∷ without_name names name)
    by_test true r = h.1
    by_test false r = (h.0, r)

without_long : (name : ℕ) (names : List Named) → length (without_name names name) ≤ length names
without_long name [] = omega arith
without_long name (n ∷ names) = by_test (n.name == name) (without_long name names)
  where
    by_test : (b : Bool) → length (without_name names name) ≤ length names
        → length (if b then names else n ∷ without_name names name) ≤ suc (length names)
    by_test true r = omega arith
    by_test false r = omega (arith, r)

-- a voucher's name
found_fits : (a : ℕ) (names : List Named) (v : Voucher) (name : ℕ) → AllByRecursion (NameFits a) names → name_of names v ≡ Some name
    → (1 ≤ name) × (name < a)
found_fits a [] v name h e = absurd (cc)
found_fits a (n ∷ names) v name h e = by_test (equal_vouchers n.voucher v) e (found_fits a names v name h.1)
  where
    by_test : (b : Bool) → (if b then Some n.name else name_of names v) ≡ Some name
        → (name_of names v ≡ Some name → (1 ≤ name) × (name < a)) → (1 ≤ name) × (name < a)
    by_test true e r = subst (λ i. (1 ≤ i) × (i < a)) (some_eq n.name name e) h.0
    by_test false e r = r e

-- the name that a task's voucher has or gets
pub given_small : (n : ℕ) (m : Member) (v : Voucher) → MemberSmall n m → name_for m (name_of m.names v) ≤ n + 1
given_small n m v h = by_found (name_of m.names v) refl
  where
    by_found : (o : Option ℕ) → name_of m.names v ≡ o → name_for m o ≤ n + 1
    by_found None e = h.next
    by_found (Some name) e = let l = found_fits m.next m.names v name h.names e in omega (arith, l.1, h.next)

-- the lowest name
pub lowest_fits : (a : ℕ) (names : List Named) (name : ℕ) → AllByRecursion (NameFits a) names → lowest names ≡ Some name
    → (1 ≤ name) × (name < a)
lowest_fits a [] name h e = absurd (cc)
lowest_fits a (n ∷ names) name h e =
    by_rest (λ other. lowest_fits a names other h.1) (lowest names) refl (some_eq (lower n.name (lowest names)) name e)
  where
    least : (x y low top : ℕ) → low ≤ x → x < top → low ≤ y → y < top → (low ≤ min x y) × (min x y < top)
    least x y low top p q r s = (grind arith, grind arith)

    by_rest : ((other : ℕ) → lowest names ≡ Some other → (1 ≤ other) × (other < a)) → (o : Option ℕ) → lowest names ≡ o
        → lower n.name o ≡ name → (1 ≤ name) × (name < a)
    by_rest later None f g = subst (λ i. (1 ≤ i) × (i < a)) g h.0
    by_rest later (Some other) f g =
        let r : (1 ≤ other) × (other < a) = later other f in
        subst (λ i. (1 ≤ i) × (i < a)) g (least n.name other 1 a h.0.0 h.0.1 r.0 r.1)

-- Members.

pub later_member : (n k : ℕ) (m : Member) → n ≤ k → MemberSmall n m → MemberSmall k m
later_member n k m l h = record {
  names = h.names;
  first = h.first;
  next = omega (arith, l, h.next);
  few_names = omega (arith, l, h.few_names);
  messages = h.messages;
  few_messages = omega (arith, l, h.few_messages);
}

pub named_small : (n : ℕ) (m : Member) (v : Voucher) (o : Option ℕ) → MemberSmall n m → MemberSmall (n + 1) (with_name m v o)
named_small n m v None h = record {
  names = all_joined (NameFits (m.next + 1)) m.names _ (later_names m.next (m.next + 1) m.names (omega arith) h.names)
      ((h.first, omega arith), tt);
  first = omega arith;
  next = omega (arith, h.next);
  few_names = let e = length-append m.names (record { name = m.next; voucher = v; refs = 1 } ∷ []) in omega (arith, e, h.few_names);
  messages = h.messages;
  few_messages = omega (arith, h.few_messages);
}
named_small n m v (Some name) h = record {
  names = one_more_fits m.next name m.names h.names;
  first = h.first;
  next = omega (arith, h.next);
  few_names = let e = one_more_long name m.names in omega (arith, e, h.few_names);
  messages = h.messages;
  few_messages = omega (arith, h.few_messages);
}

pub less_small : (n name : ℕ) (m : Member) → MemberSmall n m → MemberSmall n (record m { names = one_less m.names name })
less_small n name m h = record {
  names = one_less_fits m.next name m.names h.names;
  first = h.first;
  next = h.next;
  few_names = let e = one_less_long name m.names in omega (arith, e, h.few_names);
  messages = h.messages;
  few_messages = h.few_messages;
}

pub gone_small : (n name : ℕ) (m : Member) → MemberSmall n m → MemberSmall n (record m { names = without_name m.names name })
gone_small n name m h = record {
  names = without_fits m.next name m.names h.names;
  first = h.first;
  next = h.next;
  few_names = let e = without_long name m.names in omega (arith, e, h.few_names);
  messages = h.messages;
  few_messages = h.few_messages;
}

pub queued_small : (n : ℕ) (m : Member) (q : Message) → MemberSmall n m → MessageFits q
    → MemberSmall (n + 1) (record m { queue = m.queue ++ q ∷ [] })
queued_small n m q h f = record {
  names = h.names;
  first = h.first;
  next = omega (arith, h.next);
  few_names = omega (arith, h.few_names);
  messages = all_joined MessageFits m.queue (q ∷ []) h.messages (f, tt);
  few_messages = let e = length-append m.queue (q ∷ []) in omega (arith, e, h.few_messages);
}

pub taken_small : (n : ℕ) (m : Member) (q : Message) (queue : List Message) → m.queue ≡ q ∷ queue → MemberSmall n m
    → MemberSmall n (record m { queue = queue })
taken_small n m q queue e h = record {
  names = h.names;
  first = h.first;
  next = h.next;
  few_names = h.few_names;
  messages = (subst (AllByRecursion MessageFits) e h.messages).1;
  few_messages = let l : length m.queue ≡ suc (length queue) = ap length e in omega (arith, l, h.few_messages);
}

pub nobody_small : (n : ℕ) → MemberSmall n nobody
nobody_small n = record {
  names = tt;
  first = omega arith;
  next = omega arith;
  few_names = omega arith;
  messages = tt;
  few_messages = omega arith;
}
