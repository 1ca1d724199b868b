-- Make asks the manager of a key for a value; Refer takes the reference that the answer gave. Between the two, other
-- tasks may go on, which is why a Make races the claims on its handle.
use Rattle.std.specs.Prelude.{ℕ, ◌+◌, Bool, true, ◌==◌, ◌&&◌, not, if◌then◌else◌, List, [], ◌∷◌, ◌++◌, length, map, drop, Option, Some, None, is_some, Result, Ok, Err, ℤ}
use Rattle.vch_base.specs.declared.codes.TheConstants.{KERN_RESOURCE_SHORTAGE}
use Rattle.vch_base.specs.declared.key.TheConstants.{ALL_KEYS}
use Rattle.vch_base.specs.Keyed.{of_key, with_key}
use Rattle.vch_base.specs.Keys.{number_of, managed, key_of}
use Rattle.vch_base.specs.Managers.{preprocessed, mapped}
use Rattle.vch_base.specs.declared.key.Key.{Key}
use Rattle.vch_base.specs.declared.value.Value.{Value}
use Rattle.vch_recipe.specs.Recipes.{First, One, first_of}
use Rattle.vch_recipe.specs.declared.recipe.Recipe.{Recipe}
use Rattle.vch_model.specs.Eval.{answer_to}
use Rattle.vch_model.specs.Transfer.{received_value}
use Rattle.vch_model.specs.declared.call.Call.{Call}
use Rattle.vch_model.specs.declared.lists.Scenario.{Scenario}
use Rattle.vch_machine.specs.Frames.{refuse, tallied, closed, with_frame}
use Rattle.vch_machine.specs.Naming.{handles_of, item}
use Rattle.vch_machine.specs.State.{Handles, Place, same_place, Living, Pool, Named, Claim, Frame, Tasked, Machine, tasked, handle_of, value_at, is_empty, Tally}
use Rattle.vch_model.specs.declared.call.Call.TheVariants as calls
use Rattle.vch_model.specs.declared.entry.Entry.TheVariants as entries

-- a key that is asked, and what its manager answers: a value, none, or a code
pub record Asked : Type 0 where
  pub key : Key
  pub reply : Result (Option Value) ℤ

-- the keys that a record which redeems all keys has still to ask: all managed ones, where it is not under way
abbrev pub keys_left : ℕ → List Key → List Key
keys_left version [] = managed version
keys_left version (k ∷ ks) = k ∷ ks

-- the key that is asked next, and those that are asked then
abbrev pub head_key : List Key → Option Key
head_key [] = None
head_key (k ∷ ks) = Some k

abbrev pub tail_keys : List Key → List Key
tail_keys [] = []
tail_keys (k ∷ ks) = ks

-- the voucher that was found, else the map itself
abbrev pub or_map : Option Handles → Handles → Handles
or_map None map = map
or_map (Some v) map = v

-- where the previous value is taken from: the named previous voucher, else the map that is being formed
abbrev pub previous_of : List Named → Handles → ℕ → Handles
previous_of names map name = if name == 0 then map else or_map (handles_of names name) map

-- what a record asks of the manager of a key, if the key has one
abbrev pub asked_record : List Living → List Named → ℕ → Handles → Recipe → Option Key → Option Asked
asked_record live names t map r None = None
asked_record live names t map r (Some k) =
    Some (record {
      key = k;
      reply = answer_to k t r.command (value_at live k
          (of_key k (previous_of names map r.previous))) r.content;
    })

-- what the first record of what is left of the bytes asks
abbrev pub asked_first : ℕ → List Living → List Named → ℕ → List Key → Handles → First → Option Asked
asked_first version live names t ks map (One r rest) =
    asked_record live names t map r (if r.key == ALL_KEYS then head_key (keys_left version ks) else key_of version r.key)
asked_first version live names t ks map First.End = None
asked_first version live names t ks map (First.HeaderCut left) = None
asked_first version live names t ks map (First.ContentCut wanted left) = None

-- what sending or receiving asks at the next of its keys; g is what the manager makes of the value there
abbrev pub asked_transfer : List Living → (Value → Value) → List Key → Handles → Option Asked
asked_transfer live g [] map = None
asked_transfer live g (k ∷ ks) map = Some (record { key = k; reply = Ok (mapped g (value_at live k (of_key k map))) })

-- what a call asks
abbrev pub asked_by : Scenario → Machine → ℕ → Frame → Handles → Call → Option Asked
asked_by sc m t f v (calls.Create bytes) = asked_first sc.version m.live (tasked m t).names t f.keys v
    (first_of (drop f.at_byte bytes))
asked_by sc m t f v (calls.Send to moving name id) = asked_transfer m.live (preprocessed t) f.keys v
asked_by sc m t f v calls.Recv = asked_transfer m.live (received_value sc t) f.keys v
asked_by sc m t f v call = None

-- a record's key is done: the next of all keys, or the next record
abbrev pub moved_first : ℕ → Frame → First → Frame
moved_first version f (One r rest) =
    if (r.key == ALL_KEYS) && not (is_empty (tail_keys (keys_left version f.keys))) then
    record f { keys = tail_keys (keys_left version f.keys) }
    else record f { keys = []; at_byte = f.at_byte + (16 + length r.content) }
moved_first version f First.End = f
moved_first version f (First.HeaderCut left) = f
moved_first version f (First.ContentCut wanted left) = f

-- the call's key is done
abbrev pub moved : ℕ → Call → Frame → Frame
moved version (calls.Create bytes) f = moved_first version f (first_of (drop f.at_byte bytes))
moved version call f = record f { keys = tail_keys f.keys }

-- the handle of a new value: the one released last, else one that was never used
abbrev pub fresh_handle : Pool → ℕ
fresh_handle p = elim p.free [ [] ↦ p.used | h ∷ free ↦ h ]

-- the handles of a key once that handle is taken
abbrev pub fewer_free : Pool → Pool
fewer_free p = elim p.free [
  | [] ↦ record { free = []; used = p.used + 1 }
  | h ∷ free ↦ record { free = free; used = p.used }
]

-- a value is made live at a new handle, and a Made entry is appended
abbrev pub minted : Machine → Key → Value → Machine
minted m k x = record m {
  live = m.live ++ record {
    place = record { key = k; handle = fresh_handle (of_key k m.pools) };
    value = x;
    made =
        length m.past + 1;
  } ∷ [];
  pools = with_key k (fewer_free (of_key k m.pools)) m.pools;
  past = entries.Made (number_of k) x ∷ m.past;
}

-- a claim on the place that was not asked is raced
abbrev pub race_claim : Place → Claim → Claim
race_claim p c = if same_place c.place p && not (is_some c.answer) then record c { raced = true } else c

-- a claim on the place is back
abbrev pub back_claim : Place → Claim → Claim
back_claim p c = if same_place c.place p then record c { back = true } else c

-- a change of every claim, of a frame, of a task and of the machine
abbrev pub on_claim : (Claim → Claim) → Option Claim → Option Claim
on_claim g None = None
on_claim g (Some c) = Some (g c)

abbrev pub on_frame : (Claim → Claim) → Option Frame → Option Frame
on_frame g None = None
on_frame g (Some f) = Some (record f { claim = on_claim g f.claim })

abbrev pub on_task : (Claim → Claim) → Tasked → Tasked
on_task g x = record x { frame = on_frame g x.frame }

abbrev pub on_claims : (Claim → Claim) → Machine → Machine
on_claims g m = record m { tasks = map (on_task g) m.tasks }

-- the frame gets the receipt for a place, and the claims there are raced
abbrev pub given_receipt : Machine → ℕ → Frame → Place → Machine
given_receipt m t f p = on_claims (race_claim p) (with_frame m t (Some (record f { receipt = Some p })))

-- the receipt for the value's handle, or for a new one where the value is not live
abbrev pub made_at : Machine → ℕ → Frame → Key → Value → Option ℕ → Machine
made_at m t f k x (Some h) = given_receipt m t f (record { key = k; handle = h })
made_at m t f k x None = given_receipt (minted m k x) t f (record { key = k; handle = fresh_handle (of_key k m.pools) })

-- a refusal answers the call; without a value the map loses the key; a value gives a receipt
abbrev pub make_done : ℕ → Machine → ℕ → Frame → Handles → Call → Key → Result (Option Value) ℤ → Machine
make_done version m t f v call k (Err code) = refuse m t f call code
make_done version m t f v call k (Ok None) =
    with_frame m t (Some (moved version call (record f {
      forming = Some (with_key k None v);
      lets = f.lets ++ item k
          (of_key k v);
    })))
make_done version m t f v call k (Ok (Some x)) = made_at m t f k x (handle_of m.live k x)

-- what is asked may be nothing
abbrev pub make_asked : ℕ → Machine → ℕ → Frame → Handles → Call → Option Asked → Option Machine
make_asked version m t f v call None = None
make_asked version m t f v call (Some a) = Some (make_done version m t f v call a.key a.reply)

-- the event Make, out of memory or not
abbrev pub do_make : Scenario → Bool → Machine → ℕ → Frame → Handles → Call → Option Machine
do_make sc want m t f v call =
    if want then Some (refuse m t f call KERN_RESOURCE_SHORTAGE) else make_asked sc.version m t f v call (asked_by sc m t f v call)

-- one reference more was taken
abbrev pub one_refer : Tally → Tally
one_refer n = record n { refers = n.refers + 1 }

-- the event Refer: the receipt's handle stands at its key, the one that was there is let go, also where it is the same
-- one, and the claims of other frames on it are back
abbrev pub do_refer : ℕ → Machine → ℕ → Frame → Handles → Call → Place → Machine
do_refer version m t f v call p =
    tallied one_refer (with_frame (on_claims (back_claim p) m) t (closed (moved version call (record f {
      forming = Some (with_key p.key (Some p.handle) v);
      lets = f.lets ++ item p.key (of_key p.key v);
      receipt = None;
    }))))
