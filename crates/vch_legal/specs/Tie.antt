-- What ties the machine to the sequential store, and what a frame is forming: what the call makes from here on, with its
-- receipt taken, is what the whole call makes in the store.
use Rattle.std.specs.Prelude.{◌≡◌, ℕ, zero, suc, ◌+◌, ◌≤◌, Bool, true, false, ◌==◌, nat_lt, ◌&&◌, ◌||◌, not, if◌then◌else◌, List, [], ◌∷◌, ◌++◌, length, drop, Option, Some, None, Result, Ok, Err, ℤ, is_some}
use Rattle.std.specs.List.{list_any}
use Rattle.vch_base.specs.declared.key.Key.{Key}
use Rattle.vch_base.specs.declared.key.Key.TheVariants.{Importance, Bank}
use Rattle.vch_base.specs.declared.key.TheConstants.{ALL_KEYS}
use Rattle.vch_base.specs.declared.codes.TheConstants.{KERN_INVALID_ARGUMENT}
use Rattle.vch_base.specs.declared.limits.TheConstants.{ARRAY_BYTES}
use Rattle.vch_base.specs.Keys.{number_of, managed, key_among, key_of}
use Rattle.vch_base.specs.Keyed.{of_key, with_key}
use Rattle.vch_base.specs.declared.value.Value.{Value}
use Rattle.vch_base.specs.Managers.{preprocessed, mapped}
use Rattle.vch_recipe.specs.Recipes.{First, One, first_of}
use Rattle.vch_model.specs.declared.call.Call.{Call}
use Rattle.vch_model.specs.declared.call.Call.TheVariants as calls
use Rattle.vch_model.specs.declared.entry.Entry.{Entry}
use Rattle.vch_model.specs.declared.lists.Scenario.{Scenario}
use Rattle.vch_model.specs.Voucher.{Voucher, nothing}
use Rattle.vch_model.specs.Store.{Member, Message, voucher_of}
use Rattle.vch_model.specs.Eval.{eval, eval_all, redeemed, answer_to, previous_value}
use Rattle.vch_model.specs.Transfer.{received_value, before, after}
use Rattle.vch_model.specs.After.{store_of}
use Rattle.vch_model.specs.Lines.{calls_in, phases_in, is_task, lines_until}
use Rattle.vch_model.specs.Legal.{LegalPast, asks, reaches}
use Rattle.vch_machine.specs.State.{Handles, Place, Living, Frame, Tasked, Machine, tasked, seen, valued, member_of, is_empty, value_at}
use Rattle.vch_machine.specs.Making.{keys_left, tail_keys, head_key}
use Rattle.vch_machine.specs.Next.{nth_call}
use Rattle.vch_legal.specs.Facts.{Fits, bit}

-- the keys that are left of a record that redeems all keys
abbrev pub redeem_keys : List Key → Option Voucher → Voucher → Voucher
redeem_keys [] previous map = map
redeem_keys (k ∷ ks) previous map = redeem_keys ks previous (redeemed k previous map)

-- the previous voucher that a record names, or none
abbrev pub previous_in : (ℕ → Option Voucher) → ℕ → Option Voucher
previous_in names n = if n == 0 then None else names n

abbrev pub ahead_first : ℕ → (ℕ → Option Voucher) → ℕ → ℕ → List Key → Voucher → First → Result Voucher ℤ
ahead_first version names t n ks map (One r rest) = eval_all version n names t (redeem_keys ks (previous_in names r.previous) map) rest
ahead_first version names t n ks map First.End = Ok map
ahead_first version names t n ks map (First.HeaderCut left) = Err KERN_INVALID_ARGUMENT
ahead_first version names t n ks map (First.ContentCut wanted left) = Err KERN_INVALID_ARGUMENT

-- what a create makes of a map from a place on, with the keys that are left of the record there
abbrev pub ahead_create : ℕ → (ℕ → Option Voucher) → ℕ → List Key → Voucher → List ℕ → Result Voucher ℤ
ahead_create version names t [] map rest = eval_all version (suc (length rest)) names t map rest
ahead_create version names t (k ∷ ks) map rest = ahead_first version names t (length rest) (k ∷ ks) map (first_of rest)

-- whether a create reaches its end or a record that asks a manager, from a place on; a record that is under way asks one
abbrev pub reaches_on : ℕ → (ℕ → Option Voucher) → ℕ → List Key → Voucher → List ℕ → Bool
reaches_on version names t [] map rest = reaches version (suc (length rest)) names t map rest
reaches_on version names t (k ∷ ks) map rest = true

-- where keys are left, the record at the place redeems all keys
abbrev pub KeysFit : ℕ → (ℕ → Option Voucher) → List Key → First → Type 0
KeysFit version names [] first = Unit {0}
KeysFit version names (k ∷ ks) (One r rest) = ((r.key == ALL_KEYS) ≡ true) × (asks version names r ≡ true)
KeysFit version names (k ∷ ks) First.End = ⊥
KeysFit version names (k ∷ ks) (First.HeaderCut left) = ⊥
KeysFit version names (k ∷ ks) (First.ContentCut wanted left) = ⊥

-- each key of the second list is found among the first by its number
abbrev pub AllAmong : List Key → List Key → Type 0
AllAmong all [] = Unit {0}
AllAmong all (k ∷ ks) = (key_among all (number_of k) ≡ Some k) × AllAmong all ks

-- The other way round: what was evaluated up to a place.

-- the place behind a record and the map that it makes, where it has no code
abbrev pub behind_result : ℕ → Result Voucher ℤ → Option (ℕ × Voucher)
behind_result place (Ok next) = Some (place, next)
behind_result place (Err code) = None

abbrev pub behind_record : ℕ → (ℕ → Option Voucher) → ℕ → ℕ → Voucher → First → Option (ℕ × Voucher)
behind_record version names t place map (One r rest) =
    behind_result (place + (16 + length r.content)) (eval version names t r map)
behind_record version names t place map First.End = None
behind_record version names t place map (First.HeaderCut left) = None
behind_record version names t place map (First.ContentCut wanted left) = None

abbrev pub one_further : ℕ → (ℕ → Option Voucher) → ℕ → List ℕ → Option (ℕ × Voucher) → Option (ℕ × Voucher)
one_further version names t bytes None = None
one_further version names t bytes (Some (place, map)) =
    behind_record version names t place map (first_of (drop place bytes))

-- the place behind the first records of some bytes, so many of them, and what they make of the empty map
abbrev pub after_records : ℕ → (ℕ → Option Voucher) → ℕ → List ℕ → ℕ → Option (ℕ × Voucher)
after_records version names t bytes zero = Some (0, nothing)
after_records version names t bytes (suc n) = one_further version names t bytes (after_records version names t bytes n)

-- where keys are left of the record at the place, which redeems all keys, those before them are redeemed
abbrev pub KeysDone : ℕ → (ℕ → Option Voucher) → List Key → First → Voucher → Voucher → Type 0
KeysDone version names [] first before map = map ≡ before
KeysDone version names (k ∷ ks) (One r rest) before map =
    (done : List Key) × (done ++ k ∷ ks ≡ managed version) × (map ≡ redeem_keys done (previous_in names r.previous) before)
KeysDone version names (k ∷ ks) First.End before map = ⊥
KeysDone version names (k ∷ ks) (First.HeaderCut left) before map = ⊥
KeysDone version names (k ∷ ks) (First.ContentCut wanted left) before map = ⊥

-- the map is what the records before the place make, with the keys redeemed that are done
pub record IsEvaluated (version : ℕ) (names : ℕ → Option Voucher) (t : ℕ) (bytes : List ℕ) (place : ℕ) (keys : List Key) (map : Voucher) : Type 0 where
  pub number : ℕ
  pub before : Voucher
  pub records : after_records version names t bytes number ≡ Some (place, before)
  pub done : KeysDone version names keys (first_of (drop place bytes)) before map

-- a create that has come so far: at a place of its bytes, with keys left of the record there, and with this map
pub record FormsCreate (version : ℕ) (names : ℕ → Option Voucher) (t : ℕ) (bytes : List ℕ) (place : ℕ) (keys : List Key) (map : Voucher) : Type 0 where
  pub some : (length bytes == 0) ≡ false
  pub few : nat_lt ARRAY_BYTES (length bytes) ≡ false
  pub made : ahead_create version names t keys map (drop place bytes) ≡ eval_all version (length bytes) names t nothing bytes
  pub may : reaches_on version names t keys map (drop place bytes) ≡ true → reaches version (length bytes) names t nothing bytes ≡ true
  pub evaluated : IsEvaluated version names t bytes place keys map
  pub fit : KeysFit version names keys (first_of (drop place bytes))
  pub keys_managed : AllAmong (managed version) keys

-- what asking for some keys makes of a voucher
abbrev pub transfer_keys : (Value → Value) → List Key → Voucher → Voucher
transfer_keys g [] map = map
transfer_keys g (k ∷ ks) map = transfer_keys g ks (with_key k (mapped g (of_key k map)) map)

-- the keys of a list at which a voucher has a value
abbrev pub keys_there : List Key → Voucher → List Key
keys_there [] v = []
keys_there (k ∷ ks) v = if is_some (of_key k v) then k ∷ keys_there ks v else keys_there ks v

-- the map is what asking for the keys before those that are left made of a voucher
abbrev pub WasTransferred : (Value → Value) → List Key → Voucher → List Key → Voucher → Type 0
WasTransferred g all voucher left map =
    (done : List Key) × (done ++ left ≡ keys_there all voucher) × (map ≡ transfer_keys g done voucher)

-- the keys that a send asks, and those that a recv asks
abbrev pub sent_keys : List Key
sent_keys = Bank ∷ []

abbrev pub received_keys : List Key
received_keys = Importance ∷ Bank ∷ []

-- a send that has come so far
pub record FormsSend (sc : Scenario) (names : ℕ → Option Voucher) (t to name : ℕ) (keys : List Key) (map : Voucher) : Type 0 where
  pub to_task : is_task sc to ≡ true
  pub is_named : (name == 0) ≡ false
  pub voucher : Voucher
  pub known : names name ≡ Some voucher
  pub made : transfer_keys (preprocessed t) keys map ≡ before t voucher
  pub evaluated : WasTransferred (preprocessed t) sent_keys voucher keys map
  pub asked : is_empty keys ≡ false → is_some voucher.bank ≡ true
  pub keys_managed : AllAmong (managed sc.version) keys

-- the voucher of the first message of a queue
abbrev pub first_in : List Message → Option Voucher
first_in [] = None
first_in (q ∷ queue) = q.voucher

-- a recv that has come so far
pub record FormsRecv (sc : Scenario) (queue : List Message) (t : ℕ) (keys : List Key) (map : Voucher) : Type 0 where
  pub voucher : Voucher
  pub first : first_in queue ≡ Some voucher
  pub made : transfer_keys (received_value sc t) keys map ≡ after sc t voucher
  pub evaluated : WasTransferred (received_value sc t) received_keys voucher keys map
  pub keys_managed : AllAmong (managed sc.version) keys

-- a call that has come so far, and no other call forms a voucher
abbrev pub Forms : Scenario → Member → ℕ → Call → ℕ → List Key → Voucher → Type 0
Forms sc x t (calls.Create bytes) place keys map = FormsCreate sc.version (voucher_of x.names) t bytes place keys map
Forms sc x t (calls.Send to moving name id) place keys map = FormsSend sc (voucher_of x.names) t to name keys map
Forms sc x t calls.Recv place keys map = FormsRecv sc x.queue t keys map
Forms sc x t call place keys map = ⊥

-- the keys that are left, and the place, once the next key of a create is done
abbrev pub moved_keys_first : ℕ → List Key → First → List Key
moved_keys_first version ks (One r rest) =
    if (r.key == ALL_KEYS) && not (is_empty (tail_keys (keys_left version ks))) then tail_keys (keys_left version ks) else []
moved_keys_first version ks First.End = ks
moved_keys_first version ks (First.HeaderCut left) = ks
moved_keys_first version ks (First.ContentCut wanted left) = ks

abbrev pub moved_place_first : ℕ → List Key → ℕ → First → ℕ
moved_place_first version ks place (One r rest) =
    if (r.key == ALL_KEYS) && not (is_empty (tail_keys (keys_left version ks))) then place
    else place + (16 + length r.content)
moved_place_first version ks place First.End = place
moved_place_first version ks place (First.HeaderCut left) = place
moved_place_first version ks place (First.ContentCut wanted left) = place

-- the same of any call
abbrev pub moved_keys : ℕ → Call → ℕ → List Key → List Key
moved_keys version (calls.Create bytes) place ks = moved_keys_first version ks (first_of (drop place bytes))
moved_keys version call place ks = tail_keys ks

abbrev pub moved_place : ℕ → Call → ℕ → List Key → ℕ
moved_place version (calls.Create bytes) place ks = moved_place_first version ks place (first_of (drop place bytes))
moved_place version call place ks = place

-- what a receipt that is taken does to the place, the keys and the map
abbrev pub place_with : ℕ → Call → ℕ → List Key → Option Place → ℕ
place_with version call place ks None = place
place_with version call place ks (Some q) = moved_place version call place ks

abbrev pub keys_with : ℕ → Call → ℕ → List Key → Option Place → List Key
keys_with version call place ks None = ks
keys_with version call place ks (Some q) = moved_keys version call place ks

abbrev pub map_with : Handles → Option Place → Handles
map_with v None = v
map_with v (Some q) = with_key q.key (Some q.handle) v

-- what a record asks, by the names of the task: the key, and the value that its manager answers
abbrev pub AsksFirst : ℕ → (ℕ → Option Voucher) → ℕ → List Key → Voucher → First → Key → Value → Type 0
AsksFirst version names t ks map (One r rest) k y =
    ((if r.key == ALL_KEYS then head_key (keys_left version ks) else key_of version r.key) ≡ Some k)
    × (answer_to k t r.command (previous_value k (previous_in names r.previous) map) r.content ≡ Ok (Some y))
AsksFirst version names t ks map First.End k y = ⊥
AsksFirst version names t ks map (First.HeaderCut left) k y = ⊥
AsksFirst version names t ks map (First.ContentCut wanted left) k y = ⊥

-- the next key of a transfer, and the value that its manager answers
abbrev pub AsksKey : (Value → Value) → List Key → Voucher → Key → Value → Type 0
AsksKey g ks map k y = (head_key ks ≡ Some k) × (mapped g (of_key k map) ≡ Some y)

-- so of any call
abbrev pub AsksAt : Scenario → Member → ℕ → Call → ℕ → List Key → Voucher → Key → Value → Type 0
AsksAt sc x t (calls.Create bytes) place ks map k y =
    AsksFirst sc.version (voucher_of x.names) t ks map (first_of (drop place bytes)) k y
AsksAt sc x t (calls.Send to moving name id) place ks map k y = AsksKey (preprocessed t) ks map k y
AsksAt sc x t calls.Recv place ks map k y = AsksKey (received_value sc t) ks map k y
AsksAt sc x t call place ks map k y = ⊥

-- a receipt is for the key that is asked at the place, and its handle has the value that the manager answers there. Until it is
-- taken, what is formed is what it was
pub record IsAwaited (sc : Scenario) (live : List Living) (x : Member) (t : ℕ) (call : Call) (place : ℕ) (ks : List Key) (v : Handles) (q : Place) : Type 0 where
  pub value : Value
  pub there : value_at live q.key (Some q.handle) ≡ Some value
  pub forms : Forms sc x t call place ks (valued live v)
  pub asked : AsksAt sc x t call place ks (valued live v) q.key value

abbrev pub Awaits : Scenario → List Living → Member → ℕ → Call → ℕ → List Key → Handles → Option Place → Type 0
Awaits sc live x t call place ks v None = Unit {0}
Awaits sc live x t call place ks v (Some q) = IsAwaited sc live x t call place ks v q

-- what forms no voucher is answered, or an exit
abbrev pub FormsNothing : Bool → Option Call → Type 0
FormsNothing true call = Unit {0}
FormsNothing false call = call ≡ Some calls.Exit

-- the map that a frame is forming is what the store makes, as far as it has come
abbrev pub FrameForms : Scenario → List Living → Member → ℕ → ℕ → List Key → Option Place → Bool → Option Handles
    → Option Call → Type 0
FrameForms sc live x t place ks r answered None call = FormsNothing answered call
FrameForms sc live x t place ks r answered (Some v) None = ⊥
FrameForms sc live x t place ks r answered (Some v) (Some call) =
    Forms sc x t call (place_with sc.version call place ks r) (keys_with sc.version call place ks r) (valued live (map_with v r))
    × Awaits sc live x t call place ks v r

abbrev pub IsForming : Scenario → List Living → Member → ℕ → ℕ → Option Frame → Type 0
IsForming sc live x t begun None = Unit {0}
IsForming sc live x t begun (Some f) = FrameForms sc live x t f.at_byte f.keys f.receipt f.answered f.forming
    (nth_call sc t begun)

-- a call is under way that is not answered
abbrev pub is_answering : Option Frame → Bool
is_answering None = false
is_answering (Some f) = not f.answered

-- a frame that is there has something left to do
abbrev pub is_open : Frame → Bool
is_open f = not f.answered || (is_some f.receipt || (is_some f.claim || not (is_empty f.lets)))

abbrev pub IsOpen : Option Frame → Type 0
IsOpen None = Unit {0}
IsOpen (Some f) = is_open f ≡ true

-- what is kept of one task: its calls begun are those answered and one that is under way, all of the phases that ended are
-- answered, none of a phase to come was begun, and what its frame forms
pub record TaskStands (sc : Scenario) (past : List Entry) (live : List Living) (t : ℕ) (x : Tasked) : Type 0 where
  pub counted : x.begun ≡ calls_in past t + bit (is_answering x.frame)
  pub begun : x.begun ≤ lines_until sc (phases_in past + 1) t
  pub answered : lines_until sc (phases_in past) t ≤ calls_in past t
  pub forming : IsForming sc live (member_of live x) t x.begun x.frame
  pub open_frame : IsOpen x.frame

abbrev pub any_frame : List Tasked → Bool
any_frame xs = list_any (λ (x : Tasked). is_some x.frame) xs

-- all that every move of a run keeps
pub record Ties (sc : Scenario) (m : Machine) : Type 0 where
  pub fits : Fits sc m
  pub same_store : seen m ≡ store_of sc m.past
  pub tasks : (t : ℕ) → is_task sc t ≡ true → TaskStands sc m.past m.live t (tasked m t)
  pub phases : phases_in m.past ≤ length sc.phases
  pub rest : nat_lt (phases_in m.past) (length sc.phases) ≡ false → any_frame m.tasks ≡ false
  pub legal : LegalPast sc m.past
