-- The vouchers of a task's names and messages through each change of them.
use Rattle.std.proofs.Common.{◌≡◌, ℕ, ◌+◌, ◌-◌, ◌||◌, ◌==◌, nat_lt, Bool, true, false, cond, List, [], ◌∷◌, ◌++◌, refl, arith, sym, ap, ◌∙◌, append_assoc, append-nil, map, subst, Option, Some, None}
use Rattle.std.specs.List.{list_any, flat_map}
use Rattle.std.proofs.lemmas.List.Folds.{list_any-append}
use Rattle.vch_machine.specs.Naming.{same_handles, handles_of, name_of, one_more, one_less, without_name, with_name, option_same, task_knows, is_known}
use Rattle.vch_machine.specs.State.{Handles, Named, Message, Tasked, Machine}
use Rattle.vch_frame.proofs.CallerLemmas.{cases_of}
use Rattle.vch_parts.specs.Pictures.{task_vouchers, option_handles}
use Rattle.vch_moves.specs.Known.{is_among, vouchers_in}
use Rattle.vch_moves.proofs.holding.Different.{OneMore, same_self, same_turned}

-- one more voucher where there is one
abbrev pub MoreBy : Option Handles → List Handles → List Handles → Type 0
MoreBy None old new = new ≡ old
MoreBy (Some v) old new = OneMore v old new

-- Names.

abbrev pub named_in : List Named → List Handles
named_in names = map (λ (n : Named). n.voucher) names

abbrev pub queued_in : List Message → List Handles
queued_in queue = flat_map (λ (q : Message). option_handles q.voucher) queue

named_more : (names : List Named) (name : ℕ) → named_in (one_more names name) ≡ named_in names
named_more [] name = refl
named_more (n ∷ names) name = by (n.name == name) (named_more names name)
  where
    by : (b : Bool) → named_in (one_more names name) ≡ named_in names → named_in (cond b (record n { refs = n.refs + 1 } ∷ names) (n ∷ one_more names name)) ≡ n.voucher ∷ named_in names
    by true e = refl
    by false e = ap (λ vs. n.voucher ∷ vs) e

-- a voucher before all others
more_cons : (u v : Handles) (old new : List Handles) → OneMore v old new → OneMore v (u ∷ old) (u ∷ new)
more_cons u v old new (OneMore.Inserted a b p q) = OneMore.Inserted (u ∷ a) b (ap (λ vs. u ∷ vs) p) (ap (λ vs. u ∷ vs) q)
more_cons u v old new (OneMore.Known p q) = OneMore.Known (ap (λ vs. u ∷ vs) p) (rw q (grind arith))

first_among : (v : Handles) (vs : List Handles) → is_among v (v ∷ vs) ≡ true
first_among v vs = rw (same_self v) refl

-- a name that was found has the voucher
found_among : (names : List Named) (v : Handles) (name : ℕ) → name_of names v ≡ Some name → is_among v (named_in names) ≡ true
found_among [] v name e = absurd (cc)
found_among (n ∷ names) v name e = cases_of (same_handles n.voucher v) (is_among v (n.voucher ∷ named_in names) ≡ true)
    (λ yes_. rw (same_turned v n.voucher ∙ yes_) refl)
    (λ no_. let z : name_of names v ≡ Some name = rw no_ at e in let r : is_among v (named_in names) ≡ true = found_among names v name z in rw r (grind arith))

pub named_less : (names : List Named) (name : ℕ) → MoreBy (handles_of names name) (named_in (one_less names name)) (named_in names)
named_less [] name = refl
named_less (n ∷ names) name = by (n.name == name) (named_less names name)
  where
    some : (b : Bool) → OneMore n.voucher (named_in (cond b (record n { refs = n.refs - 1 } ∷ names) names)) (n.voucher ∷ named_in names)
    some true = OneMore.Known refl (first_among n.voucher (named_in names))
    some false = OneMore.Inserted [] (named_in names) refl refl

    later : (o : Option Handles) → MoreBy o (named_in (one_less names name)) (named_in names) → MoreBy o (n.voucher ∷ named_in (one_less names name)) (n.voucher ∷ named_in names)
    later None e = ap (λ vs. n.voucher ∷ vs) e
    later (Some v) e = more_cons n.voucher v _ _ e

    by : (b : Bool) → MoreBy (handles_of names name) (named_in (one_less names name)) (named_in names)
        → MoreBy (cond b (Some n.voucher) (handles_of names name)) (named_in (cond b (cond (nat_lt 1 n.refs) (record n { refs = n.refs - 1 } ∷ names) names) (n ∷ one_less names name))) (n.voucher ∷ named_in names)
    by true e = some (nat_lt 1 n.refs)
    by false e = later (handles_of names name) e

pub named_without : (names : List Named) (name : ℕ) → MoreBy (handles_of names name) (named_in (without_name names name)) (named_in names)
named_without [] name = refl
named_without (n ∷ names) name = by (n.name == name) (named_without names name)
  where
    later : (o : Option Handles) → MoreBy o (named_in (without_name names name)) (named_in names) → MoreBy o (n.voucher ∷ named_in (without_name names name)) (n.voucher ∷ named_in names)
    later None e = ap (λ vs. n.voucher ∷ vs) e
    later (Some v) e = more_cons n.voucher v _ _ e

    by : (b : Bool) → MoreBy (handles_of names name) (named_in (without_name names name)) (named_in names)
        → MoreBy (cond b (Some n.voucher) (handles_of names name)) (named_in (cond b names (n ∷ without_name names name))) (n.voucher ∷ named_in names)
    by true e = OneMore.Inserted [] (named_in names) refl refl
    by false e = later (handles_of names name) e

-- Of a task.

-- more vouchers behind those of a list
more_behind : (o : Option Handles) (old new rest : List Handles) → MoreBy o old new → MoreBy o (old ++ rest) (new ++ rest)
more_behind None old new rest e = ap (λ vs. vs ++ rest) e
more_behind (Some v) old new rest (OneMore.Inserted a b p q) = OneMore.Inserted a (b ++ rest) (rw p (simp append_assoc)) (rw q (simp append_assoc))
more_behind (Some v) old new rest (OneMore.Known p q) = OneMore.Known (ap (λ vs. vs ++ rest) p) (list_any-append (same_handles v) old rest ∙ rw q refl)

-- a voucher is given to the task
pub task_given : (x : Tasked) (v : Handles) → OneMore v (task_vouchers x) (task_vouchers (with_name x v (name_of x.names v)))
task_given x v = by (name_of x.names v) refl
  where
    by : (o : Option ℕ) → name_of x.names v ≡ o → OneMore v (task_vouchers x) (task_vouchers (with_name x v o))
    by None e = OneMore.Inserted (named_in x.names) (queued_in x.queue) refl (ap (λ vs. vs ++ queued_in x.queue) (named_last x.names) ∙ simp append_assoc)
      where
        named_last : (names : List Named) → named_in (names ++ record { name = x.next; voucher = v; refs = 1 } ∷ []) ≡ named_in names ++ v ∷ []
        named_last [] = refl
        named_last (n ∷ names) = ap (λ vs. n.voucher ∷ vs) (named_last names)
    by (Some name) e = OneMore.Known (ap (λ vs. vs ++ queued_in x.queue) (named_more x.names name))
        (list_any-append (same_handles v) (named_in x.names) (queued_in x.queue) ∙ rw (found_among x.names v name e) refl)

-- a user reference is given up, or a name with all of them
pub task_less : (x : Tasked) (name : ℕ) → MoreBy (handles_of x.names name) (task_vouchers (record x { names = one_less x.names name })) (task_vouchers x)
task_less x name = more_behind (handles_of x.names name) _ _ (queued_in x.queue) (named_less x.names name)

pub task_without : (x : Tasked) (name : ℕ) → MoreBy (handles_of x.names name) (task_vouchers (record x { names = without_name x.names name })) (task_vouchers x)
task_without x name = more_behind (handles_of x.names name) _ _ (queued_in x.queue) (named_without x.names name)

-- a message is queued, or the first is taken
pub task_queued : (x : Tasked) (q : Message) → MoreBy q.voucher (task_vouchers x) (task_vouchers (record x { queue = x.queue ++ q ∷ [] }))
task_queued x q = by q.voucher refl
  where
    queued_last : (queue : List Message) → queued_in (queue ++ q ∷ []) ≡ queued_in queue ++ option_handles q.voucher
    queued_last [] = simp append-nil
    queued_last (a ∷ queue) = ap (λ vs. option_handles a.voucher ++ vs) (queued_last queue) ∙ simp append_assoc

    by : (o : Option Handles) → q.voucher ≡ o → MoreBy o (task_vouchers x) (task_vouchers (record x { queue = x.queue ++ q ∷ [] }))
    by None e = ap (λ vs. named_in x.names ++ vs) (queued_last x.queue ∙ ap (λ o. queued_in x.queue ++ option_handles o) e ∙ simp append-nil)
    by (Some v) e = OneMore.Inserted (task_vouchers x) [] (simp append-nil) (ap (λ vs. named_in x.names ++ vs) (queued_last x.queue ∙ ap (λ o. queued_in x.queue ++ option_handles o) e) ∙ simp append_assoc)

pub task_taken : (x : Tasked) (q : Message) (queue : List Message) → x.queue ≡ q ∷ queue → MoreBy q.voucher (task_vouchers (record x { queue = queue })) (task_vouchers x)
task_taken x q queue e = subst (λ qs. MoreBy q.voucher (task_vouchers (record x { queue = queue })) (named_in x.names ++ queued_in qs)) (sym e) (by q.voucher)
  where
    by : (o : Option Handles) → MoreBy o (named_in x.names ++ queued_in queue) (named_in x.names ++ (option_handles o ++ queued_in queue))
    by None = refl
    by (Some v) = OneMore.Inserted (named_in x.names) (queued_in queue) refl refl

-- Who knows a voucher.

any_flat : {X Y : Type 0} (p : Y → Bool) (f : X → List Y) (xs : List X) → list_any p (flat_map f xs) ≡ list_any (λ x. list_any p (f x)) xs
any_flat p f [] = refl
any_flat p f (x ∷ xs) = list_any-append p (f x) (flat_map f xs) ∙ ap (λ b. list_any p (f x) || b) (any_flat p f xs)

names_among : (v : Handles) (names : List Named) → list_any (λ (n : Named). same_handles n.voucher v) names ≡ is_among v (named_in names)
names_among v [] = refl
names_among v (n ∷ names) = let a = same_turned n.voucher v in let b = names_among v names in rw (a, b) refl

queue_among : (v : Handles) (queue : List Message) → list_any (λ (q : Message). option_same q.voucher v) queue ≡ is_among v (queued_in queue)
queue_among v [] = refl
queue_among v (q ∷ queue) = by q.voucher (queue_among v queue) ∙ sym (list_any-append (same_handles v) (option_handles q.voucher) (queued_in queue))
  where
    by : (o : Option Handles) → list_any (λ (q : Message). option_same q.voucher v) queue ≡ is_among v (queued_in queue)
        → (option_same o v || list_any (λ (q : Message). option_same q.voucher v) queue) ≡ (is_among v (option_handles o) || is_among v (queued_in queue))
    by None rest = rest
    by (Some w) rest = let a = same_turned w v in rw (a, rest) (grind arith)

pub known_among : (m : Machine) (v : Handles) → is_known m v ≡ is_among v (vouchers_in m.tasks)
known_among m v = all_ m.tasks ∙ sym (any_flat (same_handles v) task_vouchers m.tasks)
  where
    one : (x : Tasked) → task_knows v x ≡ is_among v (task_vouchers x)
    one x = let a = names_among v x.names in let b = queue_among v x.queue in rw (a, b) (sym (list_any-append (same_handles v) (named_in x.names) (queued_in x.queue)))

    all_ : (xs : List Tasked) → list_any (task_knows v) xs ≡ list_any (λ x. is_among v (task_vouchers x)) xs
    all_ [] = refl
    all_ (x ∷ xs) = let a = one x in let b = all_ xs in rw (a, b) refl

-- a name's voucher is among those of the names
pub named_among : (names : List Named) (name : ℕ) (v : Handles) → handles_of names name ≡ Some v → is_among v (named_in names) ≡ true
named_among [] name v e = absurd (cc)
named_among (n ∷ names) name v e = by (n.name == name) e (named_among names name v)
  where
    by : (b : Bool) → cond b (Some n.voucher) (handles_of names name) ≡ Some v → (handles_of names name ≡ Some v → is_among v (named_in names) ≡ true) → is_among v (n.voucher ∷ named_in names) ≡ true
    by true e next = let z : n.voucher ≡ v = cc in rw (z, same_self v) refl
    by false e next = let r : is_among v (named_in names) ≡ true = next e in rw r (grind arith)
