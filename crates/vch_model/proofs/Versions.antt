-- No voucher gets a value at a key that its version doesn't manage.
use Rattle.std.proofs.Common.{◌≡◌, refl, ℕ, zero, suc, ◌+◌, ◌-◌, Bool, true, false, Option, Some, None, List, [], ◌∷◌, ◌++◌, length, map}
use Rattle.std.specs.Prelude.{◌==◌, nat_lt, ◌&&◌, not, if◌then◌else◌, slice_index_or, slice_set, Result, Ok, Err, ℤ}
use Rattle.std.specs.List.{AllByRecursion}
use Rattle.vch_base.specs.declared.key.Key.{Key}
use Rattle.vch_base.specs.declared.key.Key.TheVariants as keys
use Rattle.vch_base.specs.declared.key.TheConstants.{ALL_KEYS}
use Rattle.vch_base.specs.declared.flags.Flags.{Flags}
use Rattle.vch_base.specs.declared.value.Value.{Value}
use Rattle.vch_base.specs.declared.codes.TheConstants.{KERN_NO_ACCESS, KERN_INVALID_ARGUMENT, MIG_ARRAY_TOO_LARGE}
use Rattle.vch_base.specs.declared.commands.TheConstants as commands
use Rattle.vch_base.specs.declared.limits.TheConstants.{ARRAY_BYTES}
use Rattle.vch_base.specs.Keyed.{of_key, with_key}
use Rattle.vch_base.specs.Keys.{key_of, key_among, managed}
use Rattle.vch_base.specs.Tasks.{at_task, set_task}
use Rattle.vch_recipe.specs.Recipes.{First, One, first_of}
use Rattle.vch_recipe.specs.declared.recipe.Recipe.{Recipe}
use Rattle.vch_model.specs.declared.call.Call.{Call}
use Rattle.vch_model.specs.declared.call.Call.TheVariants as calls
use Rattle.vch_model.specs.declared.call.Line.{Line}
use Rattle.vch_model.specs.declared.entry.Entry.{Entry}
use Rattle.vch_model.specs.declared.entry.Entry.TheVariants as entries
use Rattle.vch_model.specs.declared.lists.Scenario.{Scenario}
use Rattle.vch_model.specs.Eval.{answer_to, put_answer, previous_value, ask_at, loses, takes, redeemed, each_key, at_key, changes, copied, is_core_command, is_plain_command, carried, with_previous, eval, eval_all, made_of, create}
use Rattle.vch_model.specs.Voucher.{Voucher, nothing, equal_options, IsOfVersion}
use Rattle.vch_model.specs.After.{store_of, store_after, store_after_call, store_after_line, placed, appended, let_go, sent, taken_first, received, lost, gone, queued, is_want}
use Rattle.vch_model.specs.Lines.{line_at, is_task}
use Rattle.vch_model.specs.Store.{Store, Member, Named, Message, nobody, member, set_member, voucher_of, name_of, one_more, one_less, with_name, given, is_full, without_name}
use Rattle.vch_model.specs.Transfer.{before, after}
use Rattle.vch_model.specs.Versions.{MayBe, OfMember, OfStore, KeepVersion}
use Rattle.vch_model.proofs.Again.{after_eval, after_first, unfolded}

-- without a value at the key of tests, where that has no manager
abbrev Of : Bool → Voucher → Type 0
Of c v = c ≡ false → v.test ≡ None

abbrev OfResult : Bool → Result Voucher ℤ → Type 0
OfResult c (Ok v) = Of c v
OfResult c (Err code) = Unit {0}

none_some : {A : Type 0} → {a : A} → Some a ≡ None → ⊥
none_some e = cc

pub of_version : (version : ℕ) (v : Voucher) → Of (version == 2) v → IsOfVersion version v
of_version version v f keys.Importance n = absurd (none_some n)
of_version version v f keys.Bank n = absurd (none_some n)
of_version version v f keys.User n = absurd (none_some n)
of_version version v f keys.Test n = by_version (version == 2) n f
  where
    by_version : (c : Bool) → key_among (if c then keys.Test ∷ [] else []) 8 ≡ None → Of c v → v.test ≡ None
    by_version true n f = absurd (none_some n)
    by_version false n f = f refl

-- Records.

result_if : (c b : Bool) (x y : Result Voucher ℤ) → OfResult c x → OfResult c y → OfResult c (if b then x else y)
result_if c true x y p q = p
result_if c false x y p q = q

takes_of : (c : Bool) (k : Key) (o : Option Voucher) (map : Voucher) → MayBe (Of c) o → Of c map → Of c (takes k o map)
takes_of c k None map p q = q
takes_of c keys.Importance (Some v) map p q = q
takes_of c keys.Bank (Some v) map p q = q
takes_of c keys.User (Some v) map p q = q
takes_of c keys.Test (Some v) map p q = p

without_of : (c : Bool) (k : Key) (map : Voucher) → Of c map → Of c (with_key k None map)
without_of c keys.Importance map q = q
without_of c keys.Bank map q = q
without_of c keys.User map q = q
without_of c keys.Test map q = λ e. refl

loses_of : (c : Bool) (k : Key) (o : Option Voucher) (map : Voucher) → Of c map → Of c (loses k o map)
loses_of c k None map q = without_of c k map q
loses_of c k (Some v) map q = by_equal (equal_options (of_key k v) (of_key k map))
  where
    by_equal : (b : Bool) → Of c (if b then with_key k None map else map)
    by_equal true = without_of c k map q
    by_equal false = q

redeemed_of : (c : Bool) (k : Key) (o : Option Voucher) (map : Voucher) → MayBe (Of c) o → Of c map → Of c (redeemed k o map)
redeemed_of c keys.Importance o map p q = q
redeemed_of c keys.Bank o map p q = q
redeemed_of c keys.User o map p q = q
redeemed_of c keys.Test None map p q = q
redeemed_of c keys.Test (Some v) map p q = p

each_of : (c : Bool) (f : Key → Voucher → Voucher) → ((k : Key) (map : Voucher) → Of c map → Of c (f k map))
    → (ks : List Key) (map : Voucher) → Of c map → Of c (each_key f ks map)
each_of c f g [] map q = q
each_of c f g (k ∷ ks) map q = each_of c f g ks (f k map) (g k map q)

changes_of : (c : Bool) (version : ℕ) (f : Key → Voucher → Voucher) → ((k : Key) (map : Voucher) → Of c map → Of c (f k map))
    → (key : ℕ) (map : Voucher) → Of c map → OfResult c (changes version f key map)
changes_of c version f g key map q =
    result_if c (key == ALL_KEYS) (Ok (each_key f (managed version) map)) (at_key f (key_of version key) map)
    (each_of c f g (managed version) map q) (at_of (key_of version key))
  where
    at_of : (o : Option Key) → OfResult c (at_key f o map)
    at_of None = tt
    at_of (Some k) = g k map q

not_first : (b : Bool) (k : Key) (o : Option Key) → (Some k ≡ Some keys.Test → ⊥) → (if b then Some k else o) ≡ Some keys.Test → o ≡ Some keys.Test
not_first true k o n e = absurd (n e)
not_first false k o n e = e

test_managed : (c : Bool) (n : ℕ) → key_among (keys.Importance ∷ keys.Bank ∷ keys.User ∷ (if c then keys.Test ∷ [] else [])) n ≡ Some keys.Test
    → c ≡ false → ⊥
test_managed true n e f = cc
test_managed false n e f =
    none (not_first (n == 7) keys.User _ no_user (not_first (n == 3) keys.Bank _ no_bank (not_first (n == 2) keys.Importance _ no_importance e)))
  where
    none : key_among [] n ≡ Some keys.Test → ⊥
    none e = cc

    no_user : Some keys.User ≡ Some keys.Test → ⊥
    no_user e = cc

    no_bank : Some keys.Bank ≡ Some keys.Test → ⊥
    no_bank e = cc

    no_importance : Some keys.Importance ≡ Some keys.Test → ⊥
    no_importance e = cc

put_of : (version n : ℕ) (k : Key) (map : Voucher) (x : Result (Option Value) ℤ) → key_of version n ≡ Some k → Of (version == 2) map
    → OfResult (version == 2) (put_answer k map x)
put_of version n k map (Err code) e q = tt
put_of version n keys.Importance map (Ok x) e q = q
put_of version n keys.Bank map (Ok x) e q = q
put_of version n keys.User map (Ok x) e q = q
put_of version n keys.Test map (Ok x) e q = λ f. absurd (test_managed (version == 2) n e f)

ask_of : (version n task : ℕ) (r : Recipe) (previous : Option Voucher) (map : Voucher) (o : Option Key) → key_of version n ≡ o
    → Of (version == 2) map → OfResult (version == 2) (ask_at o task r previous map)
ask_of version n task r previous map None e q = tt
ask_of version n task r previous map (Some k) e q =
    put_of version n k map (answer_to k task r.command (previous_value k previous map) r.content) e q

copied_of : (c : Bool) (version : ℕ) (o : Option Voucher) (key : ℕ) (map : Voucher) → MayBe (Of c) o → Of c map
    → OfResult c (copied version o key map)
copied_of c version None key map p q = q
copied_of c version (Some v) key map p q = changes_of c version (λ k. takes k (Some v)) (λ k m g. takes_of c k (Some v) m p g) key map q

carried_of : (version task : ℕ) (r : Recipe) (o : Option Voucher) (map : Voucher) → MayBe (Of (version == 2)) o → Of (version == 2) map
    → OfResult (version == 2) (carried version task r o map)
carried_of version task r o map p q =
    result_if c (is_core_command r.command) (Err KERN_NO_ACCESS) _ tt
    (result_if c (is_plain_command r.command) _ _
    (result_if c (not (length r.content == 0)) (Err KERN_INVALID_ARGUMENT) _ tt
    (result_if c (r.command == commands.NOOP) (Ok map) _ q
    (result_if c (r.command == commands.COPY) (copied version o r.key map) (changes version (λ key. loses key o) r.key map)
    (copied_of c version o r.key map p q) (changes_of c version (λ key. loses key o) (λ k m g. loses_of c k o m g) r.key map q))))
    (result_if c (r.key == ALL_KEYS) _ _
    (result_if c ((r.command == commands.REDEEM) && (length r.content == 0)) (Ok (each_key (λ key. redeemed key o) (managed version) map)) (Err KERN_INVALID_ARGUMENT)
    (each_of c (λ key. redeemed key o) (λ k m g. redeemed_of c k o m p g) (managed version) map q) tt)
    (ask_of version r.key task r o map (key_of version r.key) refl q)))
  where
    c : Bool
    c = version == 2

eval_of : (version : ℕ) (names : ℕ → Option Voucher) (task : ℕ) (r : Recipe) (map : Voucher)
    → ((n : ℕ) → MayBe (Of (version == 2)) (names n)) → Of (version == 2) map → OfResult (version == 2) (eval version names task r map)
eval_of version names task r map f q =
    result_if (version == 2) (r.previous == 0) (carried version task r None map) (with_previous version task r (names r.previous) map)
    (carried_of version task r None map tt q) (by_previous (names r.previous) (f r.previous))
  where
    by_previous : (o : Option Voucher) → MayBe (Of (version == 2)) o → OfResult (version == 2) (with_previous version task r o map)
    by_previous None p = tt
    by_previous (Some v) p = carried_of version task r (Some v) map p q

abbrev Later : ℕ → ℕ → (ℕ → Option Voucher) → ℕ → Type 0
Later version b names task =
    (next : Voucher) (rest : List ℕ) → Of (version == 2) next → OfResult (version == 2) (eval_all version b names task next rest)

fold_of : (version b : ℕ) (names : ℕ → Option Voucher) (task : ℕ) (map : Voucher) (bytes : List ℕ)
    → ((n : ℕ) → MayBe (Of (version == 2)) (names n)) → Of (version == 2) map → OfResult (version == 2) (eval_all version b names task map bytes)
unfolding eval_all
fold_of version zero names task map bytes f q = tt
fold_of version (suc b) names task map bytes f q =
    rw (unfolded version task b names map bytes)
    (by_first (λ next rest p. fold_of version b names task next rest f p) (first_of bytes))
  where
    by_eval : Later version b names task → (rest : List ℕ) (g : Result Voucher ℤ) → OfResult (version == 2) g → OfResult (version == 2) (after_eval version b names task rest g)
    by_eval later rest (Ok next) p = later next rest p
    by_eval later rest (Err code) p = tt

    by_first : Later version b names task → (x : First) → OfResult (version == 2) (after_first version b names task map x)
    by_first later (One r rest) = by_eval later rest (eval version names task r map) (eval_of version names task r map f q)
    by_first later First.End = q
    by_first later (First.HeaderCut left) = tt
    by_first later (First.ContentCut wanted left) = tt

-- A created voucher.

OfMade : Bool → Result (Option Voucher) ℤ → Type 0
OfMade c (Ok o) = MayBe (Of c) o
OfMade c (Err code) = Unit {0}

made_if : (c b : Bool) (x y : Result (Option Voucher) ℤ) → OfMade c x → OfMade c y → OfMade c (if b then x else y)
made_if c true x y p q = p
made_if c false x y p q = q

create_of : (version : ℕ) (names : ℕ → Option Voucher) (task : ℕ) (bytes : List ℕ)
    → ((n : ℕ) → MayBe (Of (version == 2)) (names n)) → OfMade (version == 2) (create version names task bytes)
unfolding create OfMade
create_of version names task bytes f =
    made_if (version == 2) (nat_lt ARRAY_BYTES (length bytes)) (Err MIG_ARRAY_TOO_LARGE) _ tt
    (made_if (version == 2) (length bytes == 0) (Ok None) _ tt
    (by_map (eval_all version (length bytes) names task nothing bytes)
    (fold_of version (length bytes) names task nothing bytes f (λ e. refl))))
  where
    by_map : (g : Result Voucher ℤ) → OfResult (version == 2) g → OfMade (version == 2) (made_of g)
    by_map (Ok v) p = p
    by_map (Err code) p = tt

-- Lists.

all_append : {A : Type 0} → (P : A → Type 0) (xs : List A) (x : A) → AllByRecursion P xs → P x → AllByRecursion P (xs ++ x ∷ [])
all_append P [] x p q = (q, tt)
all_append P (y ∷ ys) x p q = (p.0, all_append P ys x p.1 q)

all_at : {A : Type 0} → (P : A → Type 0) (xs : List A) (i : ℕ) (d : A) → AllByRecursion P xs → P d → P (slice_index_or xs i d)
all_at P [] i d p q = q
all_at P (x ∷ xs) zero d p q = p.0
all_at P (x ∷ xs) (suc i) d p q = all_at P xs i d p.1 q

all_set : {A : Type 0} → (P : A → Type 0) (xs : List A) (i : ℕ) (x : A) → AllByRecursion P xs → P x → AllByRecursion P (slice_set xs i x)
all_set P [] i x p q = tt
all_set P (y ∷ ys) zero x p q = (q, p.1)
all_set P (y ∷ ys) (suc i) x p q = (p.0, all_set P ys i x p.1 q)

at_of : {A : Type 0} → (P : A → Type 0) (xs : List A) (t : ℕ) (d : A) → AllByRecursion P xs → P d → P (at_task xs t d)
at_of P xs zero d p q = q
at_of P xs (suc t) d p q = all_at P xs t d p q

set_of : {A : Type 0} → (P : A → Type 0) (xs : List A) (t : ℕ) (x : A) → AllByRecursion P xs → P x → AllByRecursion P (set_task xs t x)
set_of P xs zero x p q = p
set_of P xs (suc t) x p q = all_set P xs t x p q

-- The store.

voucher_in : (P : Voucher → Type 0) (names : List Named) (name : ℕ) → AllByRecursion (λ (n : Named). P n.voucher) names → MayBe P (voucher_of names name)
voucher_in P [] name p = tt
voucher_in P (n ∷ names) name p = by_test (n.name == name) (voucher_in P names name p.1)
  where
    by_test : (b : Bool) → MayBe P (voucher_of names name) → MayBe P (if b then Some n.voucher else voucher_of names name)
    by_test true r = p.0
    by_test false r = r

more_of : (P : Voucher → Type 0) (names : List Named) (name : ℕ) → AllByRecursion (λ (n : Named). P n.voucher) names
    → AllByRecursion (λ (n : Named). P n.voucher) (one_more names name)
more_of P [] name p = tt
more_of P (n ∷ names) name p = by_test (n.name == name) (more_of P names name p.1)
  where
    by_test : (b : Bool) → AllByRecursion (λ (n : Named). P n.voucher) (one_more names name)
        → AllByRecursion (λ (n : Named). P n.voucher) (if b then record n { refs = n.refs + 1 } ∷ names else n ∷ one_more names name)
    by_test true r = p
    by_test false r = (p.0, r)

less_of : (P : Voucher → Type 0) (names : List Named) (name : ℕ) → AllByRecursion (λ (n : Named). P n.voucher) names
    → AllByRecursion (λ (n : Named). P n.voucher) (one_less names name)
less_of P [] name p = tt
less_of P (n ∷ names) name p = by_test (n.name == name) (nat_lt 1 n.refs) (less_of P names name p.1)
  where
    by_test : (b d : Bool) → AllByRecursion (λ (n : Named). P n.voucher) (one_less names name)
        → AllByRecursion (λ (n : Named). P n.voucher)
        (if b then (if d then record n { refs = n.refs - 1 } ∷ names else names) else n ∷ one_less names name)
    by_test true true r = p
    by_test true false r = p.1
    by_test false d r = (p.0, r)

member_of : (P : Voucher → Type 0) (s : Store) (t : ℕ) → OfStore P s → OfMember P (member s t)
member_of P s t p = at_of (λ (m : Member). OfMember P m) s.tasks t nobody p (tt, tt)

with_member : (P : Voucher → Type 0) (s : Store) (t : ℕ) (m : Member) → OfStore P s → OfMember P m → OfStore P (set_member s t m)
with_member P s t m p q = set_of (λ (m : Member). OfMember P m) s.tasks t m p q

named_of : (P : Voucher → Type 0) (m : Member) (v : Voucher) (o : Option ℕ) → OfMember P m → P v → OfMember P (with_name m v o)
named_of P m v None p q = (all_append (λ (n : Named). P n.voucher) m.names _ p.0 q, p.1)
named_of P m v (Some name) p q = (more_of P m.names name p.0, p.1)

given_of : (P : Voucher → Type 0) (s : Store) (t : ℕ) (v : Voucher) → OfStore P s → P v → OfStore P (given s t v)
given_of P s t v p q = with_member P s t _ p (named_of P (member s t) v (name_of (member s t).names v) (member_of P s t p) q)

let_go_of : (P : Voucher → Type 0) (s : Store) (t name : ℕ) → OfStore P s → OfStore P (let_go s t name)
let_go_of P s t name p =
    let m : OfMember P (member s t) = member_of P s t p in with_member P s t _ p (less_of P (member s t).names name m.0, m.1)

appended_of : (P : Voucher → Type 0) (s : Store) (to : ℕ) (q : Message) → OfStore P s → MayBe P q.voucher → OfStore P (appended s to q)
appended_of P s to q p r =
    let m : OfMember P (member s to) = member_of P s to p in
    with_member P s to _ p (m.0, all_append (λ (q : Message). MayBe P q.voucher) (member s to).queue q m.1 r)

store_if : (P : Voucher → Type 0) (b : Bool) (x y : Store) → OfStore P x → OfStore P y → OfStore P (if b then x else y)
store_if P true x y p q = p
store_if P false x y p q = q

sent_of : (P : Voucher → Type 0) (sc : Scenario) (s : Store) (t to : ℕ) (moving : Bool) (name id : ℕ) (o : Option Voucher)
    → ((v : Voucher) → P v → P (before t v)) → OfStore P s → MayBe P o → OfStore P (sent sc s t to moving name id o)
sent_of P sc s t to moving name id None f p q = p
sent_of P sc s t to moving name id (Some v) f p q =
    let mid : Store = appended s to (record { sender = t; id = id; voucher = Some (before t v) }) in
    let r : OfStore P mid = appended_of P s to (record { sender = t; id = id; voucher = Some (before t v) }) p (f v q) in
    store_if P (is_full sc s to) s (if moving then let_go mid t name else mid) p
    (store_if P moving (let_go mid t name) mid (let_go_of P mid t name r) r)

taken_of : (P : Voucher → Type 0) (s : Store) (t : ℕ) (queue : List Message) → OfStore P s
    → AllByRecursion (λ (q : Message). MayBe P q.voucher) queue → OfStore P (taken_first s t queue)
taken_of P s t queue p q = let m : OfMember P (member s t) = member_of P s t p in with_member P s t _ p (m.0, q)

received_of : (P : Voucher → Type 0) (sc : Scenario) (s : Store) (t : ℕ) (queue : List Message)
    → ((v : Voucher) → P v → P (after sc t v)) → OfStore P s → AllByRecursion (λ (q : Message). MayBe P q.voucher) queue
    → OfStore P (received sc s t queue)
received_of P sc s t [] f p q = p
received_of P sc s t (message ∷ queue) f p q = by_voucher message.voucher q.0
  where
    by_voucher : (o : Option Voucher) → MayBe P o
        → OfStore P (elim o [ None ↦ taken_first s t queue | Some v ↦ given (taken_first s t queue) t (after sc t v) ])
    by_voucher None r = taken_of P s t queue p q.1
    by_voucher (Some v) r = given_of P (taken_first s t queue) t (after sc t v) (taken_of P s t queue p q.1) (f v r)

lost_of : (P : Voucher → Type 0) (s : Store) (t : ℕ) (queue : List Message) → OfStore P s
    → AllByRecursion (λ (q : Message). MayBe P q.voucher) queue → OfStore P (lost s t queue)
lost_of P s t [] p q = p
lost_of P s t (message ∷ queue) p q = taken_of P s t queue p q.1

all_without : (P : Voucher → Type 0) (names : List Named) (name : ℕ) → AllByRecursion (λ (n : Named). P n.voucher) names
    → AllByRecursion (λ (n : Named). P n.voucher) (without_name names name)
all_without P [] name p = tt
all_without P (n ∷ names) name p = by_test (all_without P names name p.1) (n.name == name)
  where
    by_test : AllByRecursion (λ (n : Named). P n.voucher) (without_name names name) → (b : Bool)
        → AllByRecursion (λ (n : Named). P n.voucher) (if b then names else n ∷ without_name names name)
    by_test rest true = p.1
    by_test rest false = (p.0, rest)

gone_of : (P : Voucher → Type 0) (s : Store) (t name : ℕ) → OfStore P s → OfStore P (gone s t name)
gone_of P s t name p =
    let m : OfMember P (member s t) = member_of P s t p in
    with_member P s t (record (member s t) { names = without_name (member s t).names name }) p
    (all_without P (member s t).names name m.0, m.1)

-- Each call and each entry.

before_of : (c : Bool) (t : ℕ) (v : Voucher) → Of c v → Of c (before t v)
before_of c t v p = p

after_of : (c : Bool) (sc : Scenario) (t : ℕ) (v : Voucher) → Of c v → Of c (after sc t v)
after_of c sc t v p = p

placed_of : (c : Bool) (s : Store) (t : ℕ) (r : Result (Option Voucher) ℤ) → OfStore (Of c) s → OfMade c r → OfStore (Of c) (placed s t r)
unfolding OfMade
placed_of c s t (Ok (Some v)) p q = given_of (Of c) s t v p q
placed_of c s t (Ok None) p q = p
placed_of c s t (Err code) p q = p

call_of : (sc : Scenario) (s : Store) (t : ℕ) (call : Call) → OfStore (Of (sc.version == 2)) s
    → OfStore (Of (sc.version == 2)) (store_after_call sc s t call)
call_of sc s t (calls.Create bytes) p =
    placed_of (sc.version == 2) s t (create sc.version (voucher_of (member s t).names) t bytes) p
    (create_of sc.version (voucher_of (member s t).names) t bytes
    (λ n. voucher_in (Of (sc.version == 2)) (member s t).names n (member_of (Of (sc.version == 2)) s t p).0))
call_of sc s t (calls.GiveUp name) p = let_go_of (Of (sc.version == 2)) s t name p
call_of sc s t (calls.Extract name key) p = p
call_of sc s t (calls.Recipes name) p = p
call_of sc s t (calls.Send to moving name id) p =
    store_if P (not (is_task sc to)) s _ p
    (store_if P (name == 0) (queued sc s to empty) (sent sc s t to moving name id (voucher_of (member s t).names name))
    (store_if P (is_full sc s to) s (appended s to empty) p (appended_of P s to empty p tt))
    (sent_of P sc s t to moving name id (voucher_of (member s t).names name) (before_of (sc.version == 2) t) p
    (voucher_in P (member s t).names name (member_of P s t p).0)))
  where
    P : Voucher → Type 0
    P = Of (sc.version == 2)

    empty : Message
    empty = record { sender = t; id = id; voucher = None }
call_of sc s t calls.Recv p =
    received_of (Of (sc.version == 2)) sc s t (member s t).queue (after_of (sc.version == 2) sc t) p (member_of (Of (sc.version == 2)) s t p).1
call_of sc s t (calls.Extern name adding n) p = p
call_of sc s t (calls.Charge name n) p = p
call_of sc s t calls.Ledger p = p
call_of sc s t calls.Assertions p = p
call_of sc s t calls.Live p = p
call_of sc s t calls.Exit p = p

entry_of : (sc : Scenario) (count : ℕ) (s : Store) (entry : Entry) → OfStore (Of (sc.version == 2)) s
    → OfStore (Of (sc.version == 2)) (store_after sc count s entry)
entry_of sc count s (entries.Call t n w reply) p =
    store_if (Of (sc.version == 2)) (is_want reply) s (store_after_line sc s t (line_at sc t n)) p (by_line (line_at sc t n))
  where
    by_line : (l : Option (ℕ × Line)) → OfStore (Of (sc.version == 2)) (store_after_line sc s t l)
    by_line None = p
    by_line (Some l) = call_of sc s t l.1.call p
entry_of sc count s (entries.Made k x) p = p
entry_of sc count s (entries.Released e) p = p
entry_of sc count s (entries.Gone t name) p = gone_of (Of (sc.version == 2)) s t name p
entry_of sc count s (entries.Lost t) p =
    lost_of (Of (sc.version == 2)) s t (member s t).queue p (member_of (Of (sc.version == 2)) s t p).1
entry_of sc count s entries.Phase p = p

start_of : (P : Voucher → Type 0) (flags : List Flags) → AllByRecursion (λ (m : Member). OfMember P m) (map (λ (f : Flags). nobody) flags)
start_of P [] = tt
start_of P (f ∷ flags) = ((tt, tt), start_of P flags)

past_of : (sc : Scenario) (past : List Entry) → OfStore (Of (sc.version == 2)) (store_of sc past)
past_of sc [] = start_of (Of (sc.version == 2)) sc.flags
past_of sc (entry ∷ past) = entry_of sc (length past) (store_of sc past) entry (past_of sc past)

all_mapped : {A : Type 0} → (P Q : A → Type 0) → ((x : A) → P x → Q x) → (xs : List A) → AllByRecursion P xs → AllByRecursion Q xs
all_mapped P Q f [] p = tt
all_mapped P Q f (x ∷ xs) p = (f x p.0, all_mapped P Q f xs p.1)

may_be : (P Q : Voucher → Type 0) → ((v : Voucher) → P v → Q v) → (o : Option Voucher) → MayBe P o → MayBe Q o
may_be P Q f None p = tt
may_be P Q f (Some v) p = f v p

pub keep_version : KeepVersion
keep_version sc past =
    all_mapped (λ (m : Member). OfMember (Of (sc.version == 2)) m) (λ (m : Member). OfMember (λ v. IsOfVersion sc.version v) m)
    (λ m p. (
      all_mapped _ _ (λ n q. of_version sc.version n.voucher q) m.names p.0,
      all_mapped _ _ (λ q r. may_be (Of (sc.version == 2)) (λ v. IsOfVersion sc.version v) (λ v e. of_version sc.version v e) q.voucher r) m.queue p.1,
    ))
    (store_of sc past).tasks (past_of sc past)
