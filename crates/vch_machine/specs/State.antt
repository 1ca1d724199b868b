-- The state of the event machine: values at handles, names, queues, frames, the tally and the history. All of it is this
-- project's own. Holders are found by looking at all of them: there are no counts and no slots.
use Rattle.std.specs.Prelude.{ℕ, Bool, true, false, ◌==◌, nat_lt, ◌&&◌, ◌||◌, if◌then◌else◌, List, [], ◌∷◌, map, Option, Some, None}
use Rattle.std.specs.List.{list_any, flat_map}
use Rattle.vch_base.specs.declared.key.Key.{Key}
use Rattle.vch_base.specs.declared.key.Key.TheVariants as keys
use Rattle.vch_base.specs.Keys.{number_of}
use Rattle.vch_base.specs.Keyed.{Keyed, of_key, with_key, everywhere, tabled}
use Rattle.vch_base.specs.Tasks.{at_task, set_task}
use Rattle.vch_base.specs.declared.value.Value.{Value}
use Rattle.vch_base.specs.declared.value.Value.TheVariants as values
use Rattle.vch_model.specs.declared.entry.Entry.{Entry}
use Rattle.vch_model.specs.declared.lists.Scenario.{Scenario}
use Rattle.vch_model.specs.Voucher.{Voucher}
use Rattle.vch_base.specs.Values.{equal_values}
use Rattle.vch_model.specs.Store as store

-- a voucher here: a handle, or none, at each key
abbrev pub Handles : Type 0
Handles = Keyed (Option ℕ)

-- the voucher without a value
abbrev pub no_handles : Handles
no_handles = everywhere None

-- a place: a handle of a key
pub record Place : Type 0 where
  pub key : Key
  pub handle : ℕ

-- the two places are one
abbrev pub same_place : Place → Place → Bool
same_place p q = (number_of p.key == number_of q.key) && (p.handle == q.handle)

-- a live value at its handle, and the number of its Made entry; Default has none, written 0
pub record Living : Type 0 where
  pub place : Place
  pub value : Value
  pub made : ℕ

-- the free handles of a key, the one released last first, and how many were ever used
pub record Pool : Type 0 where
  pub free : List ℕ
  pub used : ℕ

-- a name of a task: the voucher that it names, and its user references
pub record Named : Type 0 where
  pub name : ℕ
  pub voucher : Handles
  pub refs : ℕ

-- a queued message: who sent it, its id, and the voucher in it or none
pub record Message : Type 0 where
  pub sender : ℕ
  pub id : ℕ
  pub voucher : Option Handles

-- the right and the duty to ask a manager to take a value back. It is raced where the value was given out again before
-- the question, and back where a reference was taken since the claim began; the answer is there once it was asked
pub record Claim : Type 0 where
  pub place : Place
  pub raced : Bool
  pub back : Bool
  pub answer : Option Bool

-- what one call still has to do. `forming` is the voucher that it makes: nothing once it is answered, and always nothing
-- for an exit. `answered` tells whether its reply was given. `at_byte` is the place of the next record of a create. `keys`
-- are the keys still to be asked: of a send or recv, or of a record that redeems all keys and is under way. `receipt` is a
-- reference that a manager gave and that was not taken yet. `lets` are the references still to be let go
pub record Frame : Type 0 where
  pub forming : Option Handles
  pub answered : Bool
  pub at_byte : ℕ
  pub keys : List Key
  pub receipt : Option Place
  pub lets : List Place
  pub claim : Option Claim

-- a task: its names, the next name, its queue, how many of its calls were begun, and its frame while a call is under way
pub record Tasked : Type 0 where
  pub names : List Named
  pub next : ℕ
  pub queue : List Message
  pub begun : ℕ
  pub frame : Option Frame

-- how many claims were taken by a LetGo, references by a Refer, and questions asked by an Ask
pub record Tally : Type 0 where
  pub claims : ℕ
  pub refers : ℕ
  pub asks : ℕ

-- the whole state; the history has its newest entry first, and the phase is the number of Phase entries in it
pub record Machine : Type 0 where
  pub live : List Living
  pub pools : Keyed Pool
  pub tasks : List Tasked
  pub past : List Entry
  pub tally : Tally

-- a task that has done nothing
abbrev pub idle : Tasked
idle = record { names = []; next = 1; queue = []; begun = 0; frame = None }

-- Default is live from the start, at handle 0 of the bank
abbrev pub default_place : Place
default_place = record { key = keys.Bank; handle = 0 }

abbrev pub default_living : Living
default_living = record { place = default_place; value = values.Default; made = 0 }

abbrev pub no_tally : Tally
no_tally = record { claims = 0; refers = 0; asks = 0 }

-- the state at the start
abbrev pub start : Scenario → Machine
start sc = record {
  live = default_living ∷ [];
  pools = with_key keys.Bank (record { free = []; used = 1 }) (everywhere (record { free = []; used = 0 }));
  tasks = map (λ _. idle) sc.flags;
  past = [];
  tally = no_tally;
}

-- a task by its number, from 1
abbrev pub tasked : Machine → ℕ → Tasked
tasked m t = at_task m.tasks t idle

-- with another state of a task
abbrev pub with_tasked : Machine → ℕ → Tasked → Machine
with_tasked m t x = record m { tasks = set_task m.tasks t x }

-- the live value at a place
abbrev pub living_at : List Living → Place → Option Living
living_at [] p = None
living_at (l ∷ live) p = if same_place l.place p then Some l else living_at live p

-- the live values without the one at a place
abbrev pub without_place : List Living → Place → List Living
without_place [] p = []
without_place (l ∷ live) p = if same_place l.place p then without_place live p else l ∷ without_place live p

-- the handle of a value at a key
abbrev pub handle_of : List Living → Key → Value → Option ℕ
handle_of [] k x = None
handle_of (l ∷ live) k x = if (number_of l.place.key == number_of k) && equal_values l.value x then Some
    l.place.handle else handle_of live k x

-- the value that was found
abbrev pub value_of : Option Living → Option Value
value_of None = None
value_of (Some l) = Some l.value

-- the value at a handle of a key, or none
abbrev pub value_at : List Living → Key → Option ℕ → Option Value
value_at live k None = None
value_at live k (Some h) = value_of (living_at live (record { key = k; handle = h }))

-- the voucher of the sequential store that handles stand for
abbrev pub valued : List Living → Handles → Voucher
valued live v = tabled (λ k. value_at live k (of_key k v))

-- the same where there may be none
abbrev pub valued_option : List Living → Option Handles → Option Voucher
valued_option live None = None
valued_option live (Some v) = Some (valued live v)

-- the same live value in the sequential store, which does not list Default
abbrev pub alive_of : Living → List store.Alive
alive_of l = if nat_lt 0 l.made then record { key = number_of l.place.key; value = l.value; made = l.made } ∷ [] else []

-- a name, a message and a task in the sequential store
abbrev pub named_of : List Living → Named → store.Named
named_of live n = record { name = n.name; voucher = valued live n.voucher; refs = n.refs }

abbrev pub message_of : List Living → Message → store.Message
message_of live q = record { sender = q.sender; id = q.id; voucher = valued_option live q.voucher }

abbrev pub member_of : List Living → Tasked → store.Member
member_of live t = record { names = map (named_of live) t.names; next = t.next; queue = map (message_of live) t.queue }

-- the sequential store that a state stands for
abbrev pub seen : Machine → store.Store
seen m = record { tasks = map (member_of m.live) m.tasks; live = flat_map alive_of m.live }

-- the handle is this one
abbrev pub is_handle : Option ℕ → ℕ → Bool
is_handle None h = false
is_handle (Some g) h = g == h

-- the voucher has the value at a place
abbrev pub has_place : Handles → Place → Bool
has_place v p = is_handle (of_key p.key v) p.handle

-- the same where there may be none
abbrev pub option_has : Option Handles → Place → Bool
option_has None p = false
option_has (Some v) p = has_place v p

-- the frame holds a place: it is forming a voucher with it, or has still to let it go
abbrev pub frame_holds : Option Frame → Place → Bool
frame_holds None p = false
frame_holds (Some f) p = option_has f.forming p || list_any (λ q. same_place q p) f.lets

-- a name, a queued message or the frame of the task holds the place
abbrev pub task_holds : Place → Tasked → Bool
task_holds p t =
    list_any (λ (n : Named). has_place n.voucher p) t.names
    || (list_any (λ (q : Message). option_has q.voucher p) t.queue || frame_holds t.frame p)

-- some task holds the place
abbrev pub is_held : Machine → Place → Bool
is_held m p = list_any (task_holds p) m.tasks

-- a place that may be none is this one
abbrev pub is_place : Option Place → Place → Bool
is_place None p = false
is_place (Some q) p = same_place q p

-- the frame has a receipt for the place
abbrev pub frame_expects : Option Frame → Place → Bool
frame_expects None p = false
frame_expects (Some f) p = is_place f.receipt p

-- some frame has a receipt for the place
abbrev pub is_expected : Machine → Place → Bool
is_expected m p = list_any (λ (t : Tasked). frame_expects t.frame p) m.tasks

-- a claim that may be none, where it is on the place
abbrev pub claim_at : Option Claim → Place → List Claim
claim_at None p = []
claim_at (Some c) p = if same_place c.place p then c ∷ [] else []

-- the claim of a frame, where it is on the place
abbrev pub frame_claims : Option Frame → Place → List Claim
frame_claims None p = []
frame_claims (Some f) p = claim_at f.claim p

-- the claims on the place, of all tasks in order
abbrev pub claims_on : Machine → Place → List Claim
claims_on m p = flat_map (λ (t : Tasked). frame_claims t.frame p) m.tasks

-- the list has no element
abbrev pub is_empty : {A : Type 0} → List A → Bool
is_empty [] = true
is_empty (x ∷ xs) = false
