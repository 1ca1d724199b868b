-- What an event does to its own task, where it is not the machine's values that change.
use Rattle.std.proofs.Common.{◌≡◌, ℕ, zero, suc, ◌+◌, ◌≤◌, Bool, List, [], ◌∷◌, ◌++◌, refl, true, false, arith, sym, ap, ◌∙◌, subst, length, length-append, get_or, Some, None, Option, Ok, Err, Result}
use Rattle.std.proofs.Math.ListN.{set}
use Rattle.std.specs.List.{flat_map}
use Rattle.std.specs.Prelude.{if◌then◌else◌, ◌==◌, ℤ, not}
use Rattle.vch_base.specs.declared.key.Key.{Key}
use Rattle.vch_base.specs.declared.key.Key.TheVariants as keys
use Rattle.vch_base.specs.Keys.{every_key, managed, key_of}
use Rattle.vch_base.specs.Keyed.{of_key}
use Rattle.vch_base.specs.Tasks.{at_task, set_task}
use Rattle.vch_base.specs.declared.commands.TheConstants as commands
use Rattle.vch_base.specs.declared.key.TheConstants.{ALL_KEYS}
use Rattle.vch_base.proofs.CallerLemmas.{as_long}
use Rattle.vch_recipe.specs.Recipes.{First, One}
use Rattle.vch_recipe.specs.declared.recipe.Recipe.{Recipe}
use Rattle.vch_model.specs.declared.call.Call.{Call}
use Rattle.vch_model.specs.declared.call.Call.TheVariants as calls
use Rattle.vch_model.specs.declared.entry.Entry.{Entry}
use Rattle.vch_model.specs.declared.entry.Reply.{Reply}
use Rattle.vch_model.specs.declared.lists.Scenario.{Scenario}
use Rattle.vch_model.specs.Eval.{is_core_command, is_plain_command}
use Rattle.vch_model.specs.Lines.{is_task}
use Rattle.vch_machine.specs.State.{Handles, Place, Frame, Tasked, Machine, Message, idle, tasked, with_tasked, Named}
use Rattle.vch_machine.specs.Beginning.{enqueued}
use Rattle.vch_machine.specs.Frames.{with_frame, noted, replied}
use Rattle.vch_machine.specs.Naming.{item, places, option_places, is_known, orphaned, doubled, with_name, handles_of}
use Rattle.vch_machine.specs.Next.{current, nth_call}
use Rattle.vch_machine.specs.Working.{WorkDone, changed, changed_at, changed_each, changed_keys, copied, copies, removes, worked, worked_with, work_first}
use Rattle.vch_legal.specs.Facts.{SendsToTasks, most_lets}

-- a property of a task, where a task of the list is replaced
pub set_keeps : (Q : Tasked → Type 0) (xs : List Tasked) (t u : ℕ) (x : Tasked) → (t ≡ u → Q x) → Q (at_task xs u idle)
    → Q (at_task (set_task xs t x) u idle)
set_keeps Q xs zero u x h k = k
set_keeps Q xs (suc i) zero x h k = k
set_keeps Q xs (suc i) (suc j) x h k = from_place xs i j (λ e. h (ap suc e)) k
  where
    from_place : (xs : List Tasked) (i j : ℕ) → (i ≡ j → Q x) → Q (get_or xs j idle) → Q (get_or (set xs i x) j idle)
    from_place [] i j h k = k
    from_place (y ∷ xs) zero zero h k = h refl
    from_place (y ∷ xs) zero (suc j) h k = k
    from_place (y ∷ xs) (suc i) zero h k = k
    from_place (y ∷ xs) (suc i) (suc j) h k = from_place xs i j (λ e. h (ap suc e)) k

-- a step that leaves the values, the handles and the tally, and begins no call
pub record Near (t : ℕ) (m n : Machine) : Type 0 where
  pub live : n.live ≡ m.live
  pub pools : n.pools ≡ m.pools
  pub tally : n.tally ≡ m.tally
  pub older : length m.past ≤ length n.past
  pub tasks : length n.tasks ≡ length m.tasks
  pub begun : (tasked n t).begun ≡ (tasked m t).begun

same_length : (n : ℕ) → n ≤ n
same_length n = omega arith

pub near_self : (t : ℕ) (m : Machine) → Near t m m
near_self t m = record {
  live = refl;
  pools = refl;
  tally = refl;
  older = same_length
      (length m.past);
  tasks = refl;
  begun = refl;
}

pub near_then : (t : ℕ) (m n o : Machine) → Near t m n → Near t n o → Near t m o
near_then t m n o a b =
    record {
      live = b.live ∙ a.live;
      pools = b.pools ∙ a.pools;
      tally = b.tally
          ∙ a.tally;
      older = le_trans a.older b.older;
      tasks = b.tasks ∙ a.tasks;
      begun = b.begun ∙ a.begun;
    }
  where
    le_trans : {a b c : ℕ} → a ≤ b → b ≤ c → a ≤ c
    le_trans h k = omega arith

pub near_task : (t u : ℕ) (m : Machine) (x : Tasked) → (u ≡ t → x.begun ≡ (tasked m t).begun)
    → Near t m (with_tasked m u x)
near_task t u m x h = record {
  live = refl;
  pools = refl;
  tally = refl;
  older = same_length (length m.past);
  tasks = as_long m.tasks u x;
  begun = set_keeps (λ y. y.begun ≡ (tasked m t).begun) m.tasks u t x h refl;
}

pub near_own : (t : ℕ) (m : Machine) (x : Tasked) → x.begun ≡ (tasked m t).begun → Near t m (with_tasked m t x)
near_own t m x h = near_task t t m x (λ _. h)

pub near_framed : (t : ℕ) (m n : Machine) (g : Option Frame) → Near t m n → Near t m (with_frame n t g)
near_framed t m n g a = near_then t m n (with_frame n t g) a (near_own t n (record (tasked n t) { frame = g }) refl)

pub near_noted : (t : ℕ) (m n : Machine) (e : Entry) → Near t m n → Near t m (noted n e)
near_noted t m n e a = record {
  live = a.live;
  pools = a.pools;
  tally = a.tally;
  older = more (length m.past)
      (length n.past) a.older;
  tasks = a.tasks;
  begun = a.begun;
}
  where
    more : (a b : ℕ) → a ≤ b → a ≤ suc b
    more a b h = omega arith

pub near_replied : (t : ℕ) (m n : Machine) (call : Call) (r : Reply) → Near t m n → Near t m (replied n t call r)
near_replied t m n call r a = near_noted t m n _ a

pub near_queued : (t to : ℕ) (m : Machine) (q : Message) → Near t m (enqueued m to q)
near_queued t to m q = near_task t to m (record (tasked m to) { queue = (tasked m to).queue ++ q ∷ [] })
    (λ e. ap (λ i. (at_task m.tasks i idle).begun) e)

pub near_either : (t : ℕ) (m n o : Machine) (b : Bool) → Near t m n → Near t m o → Near t m (if b then n else o)
near_either t m n o true x y = x
near_either t m n o false x y = y

pub named_begun : (x : Tasked) (v : Handles) (name : Option ℕ) → (with_name x v name).begun ≡ x.begun
named_begun x v None = refl
named_begun x v (Some name) = refl

-- a send that is under way at a task is to a task of the scenario
abbrev pub SentTo : Scenario → ℕ → Machine → Type 0
SentTo sc t n = (f : Frame) (to : ℕ) (moving : Bool) (name id : ℕ) → (tasked n t).frame ≡ Some f
    → current sc n t ≡ Some (calls.Send to moving name id) → is_task sc to ≡ true

-- where a frame was there before
pub sent_begun : (sc : Scenario) (t : ℕ) (m n : Machine) (f : Frame) → SendsToTasks sc m → is_task sc t ≡ true
    → (tasked m t).frame ≡ Some f → (tasked n t).begun ≡ (tasked m t).begun → SentTo sc t n
sent_begun sc t m n f sends task e begun g to moving name id frame call =
    sends t f to moving name id task e (sym (ap (λ k. nth_call sc t k) begun) ∙ call)

pub sent_near : (sc : Scenario) (t : ℕ) (m n : Machine) (f : Frame) → SendsToTasks sc m → is_task sc t ≡ true
    → (tasked m t).frame ≡ Some f → Near t m n → SentTo sc t n
sent_near sc t m n f sends task e near = sent_begun sc t m n f sends task e near.begun

-- Few handles to let go.

item_few : (k : Key) (x : Option ℕ) → length (item k x) ≤ 1
item_few k None = omega arith
item_few k (Some h) = omega arith

pub item_fits : (lets : List Place) (k : Key) (x : Option ℕ) → lets ≡ [] → length (lets ++ item k x) ≤ most_lets
item_fits lets k x e = rw e (let h : length (item k x) ≤ 1 = item_few k x in omega arith)

some_few : (v : Handles) (ks : List Key) → length (flat_map (λ k. item k (of_key k v)) ks) ≤ length ks
some_few v [] = omega arith
some_few v (k ∷ ks) =
    rw (length-append (item k (of_key k v)) (flat_map (λ j. item j (of_key j v)) ks))
    (let a : length (item k (of_key k v)) ≤ 1 = item_few k (of_key k v) in
    let b : length (flat_map (λ j. item j (of_key j v)) ks) ≤ length ks = some_few v ks in omega arith)

-- a voucher has at most a handle of each key
pub places_few : (v : Handles) → length (places v) ≤ length every_key
places_few v = some_few v every_key

if_few : (b : Bool) (n : ℕ) (xs ys : List Place) → length xs ≤ n → length ys ≤ n → length (if b then xs else ys) ≤ n
if_few true n xs ys x y = x
if_few false n xs ys x y = y

none_few : (n : ℕ) → 0 ≤ n
none_few n = omega arith

pub option_few : (v : Option Handles) → length (option_places v) ≤ length every_key
option_few None = none_few (length every_key)
option_few (Some v) = places_few v

pub orphaned_few : (m : Machine) (v : Option Handles) → length (orphaned m v) ≤ length every_key
orphaned_few m None = none_few (length every_key)
orphaned_few m (Some v) = if_few (is_known m v) (length every_key) [] (places v) (none_few (length every_key))
    (places_few v)

pub doubled_few : (m : Machine) (v : Handles) → length (doubled m v) ≤ length every_key
doubled_few m v = if_few (is_known m v) (length every_key) (places v) [] (places_few v) (none_few (length every_key))

-- what is let go by Work
abbrev LeftFew : ℕ → Result WorkDone ℤ → Type 0
LeftFew n (Ok w) = length w.left ≤ n
LeftFew n (Err code) = Unit {0}

changed_few : (k : Key) (x : Option (Option ℕ)) (w : WorkDone) → length (changed k x w).left ≤ length w.left + 1
changed_few k None w = omega arith
changed_few k (Some x) w =
    rw (length-append w.left (item k (of_key k w.forming))) (let i : length
    (item k (of_key k w.forming)) ≤ 1 = item_few k (of_key k w.forming) in omega arith)

each_few : (f : Key → Option (Option ℕ)) (ks : List Key) (w : WorkDone)
    → length (changed_each f ks w).left ≤ length w.left + length ks
each_few f [] w = omega arith
each_few f (k ∷ ks) w =
    let a : length (changed_each f ks (changed k (f k) w)).left ≤ length (changed k (f k) w).left + length ks =
    each_few f ks (changed k (f k) w) in
    let b : length (changed k (f k) w).left ≤ length w.left + 1 = changed_few k (f k) w in omega arith

managed_few : (version : ℕ) → length (managed version) ≤ length every_key
managed_few version = by_test (version == 2)
  where
    by_test : (b : Bool)
        → length (keys.Importance ∷ keys.Bank ∷ keys.User ∷ (if b then keys.Test ∷ [] else [])) ≤ length
        every_key
    by_test true = omega arith
    by_test false = omega arith

left_if : (b : Bool) (n : ℕ) (x y : Result WorkDone ℤ) → LeftFew n x → LeftFew n y → LeftFew n (if b then x else y)
left_if true n x y h k = h
left_if false n x y h k = k

at_few : (f : Key → Option (Option ℕ)) (k : Option Key) (w : WorkDone) → length w.left ≤ 0
    → LeftFew (length every_key) (changed_at f k w)
at_few f None w h = tt
at_few f (Some k) w h = let i : length (changed k (f k) w).left ≤ length w.left + 1 = changed_few k (f k) w in
    omega arith

keys_few : (version : ℕ) (f : Key → Option (Option ℕ)) (key : ℕ) (w : WorkDone) → length w.left ≤ 0
    → LeftFew (length every_key) (changed_keys version f key w)
keys_few version f key w h =
    left_if (key == ALL_KEYS) (length every_key) _ _
    (joined (length (changed_each f (managed version) w).left) (length w.left) (length (managed version))
    (length every_key) (each_few f (managed version) w) h (managed_few version))
    (at_few f (key_of version key) w h)
  where
    joined : (a b c d : ℕ) → a ≤ b + c → b ≤ 0 → c ≤ d → a ≤ d
    joined a b c d x y z = omega arith

none_left : (w : WorkDone) → length w.left ≤ 0 → length w.left ≤ length every_key
none_left w h = omega arith

copied_few : (version : ℕ) (previous : Option Handles) (key : ℕ) (w : WorkDone) → length w.left ≤ 0
    → LeftFew (length every_key) (copied version previous key w)
copied_few version None key w h = none_left w h
copied_few version (Some v) key w h = keys_few version (copies (Some v) w.forming) key w h

worked_few : (version : ℕ) (r : Recipe) (previous : Option Handles) (w : WorkDone) → length w.left ≤ 0
    → LeftFew (length every_key) (worked version r previous w)
worked_few version r previous w h =
    left_if (is_core_command r.command) (length every_key) _ _ tt
    (left_if (is_plain_command r.command) (length every_key) _ _
    (left_if (not (length r.content == 0)) (length every_key) _ _ tt
    (left_if (r.command == commands.NOOP) (length every_key) _ _ (none_left w h)
    (left_if (r.command == commands.COPY) (length every_key) _ _ (copied_few version previous r.key w h)
    (keys_few version (removes previous w.forming) r.key w h))))
    tt)

with_few : (version : ℕ) (r : Recipe) (previous : Option Handles) (w : WorkDone) → length w.left ≤ 0
    → LeftFew (length every_key) (worked_with version r previous w)
with_few version r None w h = tt
with_few version r (Some v) w h = worked_few version r (Some v) w h

pub first_few : (version : ℕ) (names : List Named) (first : First) (map : Handles)
    → LeftFew (length every_key) (work_first version names first map)
first_few version names (One r rest) map =
    left_if (r.previous == 0) (length every_key) _ _
    (worked_few version r None (record { forming = map; left = [] }) (none_few 0))
    (with_few version r (handles_of names r.previous) (record { forming = map; left = [] }) (none_few 0))
first_few version names First.End map = tt
first_few version names (First.HeaderCut left) map = tt
first_few version names (First.ContentCut wanted left) map = tt

pub one_few : (lets a : List Place) → lets ≡ [] → length a ≤ length every_key → length (lets ++ a) ≤ most_lets
one_few lets a e h = rw e (omega arith)

pub work_few : (version : ℕ) (names : List Named) (first : First) (map : Handles) (lets : List Place) (w : WorkDone)
    → work_first version names first map ≡ Ok w → lets ≡ [] → length (lets ++ w.left) ≤ most_lets
work_few version names first map lets w e empty = one_few lets w.left empty
    (subst (LeftFew (length every_key)) e (first_few version names first map))

pub refuse_few : (lets : List Place) (v : Option Handles) → lets ≡ [] → length (lets ++ option_places v) ≤ most_lets
refuse_few lets v e = one_few lets (option_places v) e (option_few v)

pub two_few : (lets a b : List Place) → lets ≡ [] → length a ≤ length every_key → length b ≤ length every_key
    → length (lets ++ (a ++ b)) ≤ most_lets
two_few lets a b e h k = rw (e, length-append a b) (omega arith)
