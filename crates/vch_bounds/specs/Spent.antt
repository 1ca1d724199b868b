-- What a state of a run has spent: its references and claims are paid for by the calls that were begun.
use Rattle.std.specs.Prelude.{ℕ, ◌+◌, ◌-◌, ◌*◌, ◌≤◌, Bool, true, false, List, [], ◌∷◌, length, drop, Option, Some, None, is_some}
use Rattle.vch_base.specs.declared.key.Key.{Key}
use Rattle.vch_base.specs.declared.limits.TheConstants.{ARRAY_BYTES}
use Rattle.vch_base.specs.Keyed.{of_key}
use Rattle.vch_base.specs.Keys.{every_key}
use Rattle.vch_model.specs.declared.call.Call.{Call}
use Rattle.vch_model.specs.declared.call.Call.TheVariants as calls
use Rattle.vch_model.specs.declared.lists.Scenario.{Scenario}
use Rattle.vch_machine.specs.State.{Place, Frame, Tasked, Machine}
use Rattle.vch_machine.specs.Next.{nth_call}
use Rattle.vch_legal.specs.Facts.{bit, most_lets}
use Rattle.vch_legal.specs.Tie.{place_with, keys_with}
use Rattle.vch_bounds.specs.Rooms.{made_in, given_up_in}
use Rattle.vch_bounds.specs.Sums.{sum_tasks}

-- References and handles are counted four times here: a record of a create has sixteen bytes or more and asks four keys at most,
-- so each of its bytes counts for one.

-- the references that a call may still ask for, at a place and with these keys; with keys left, the record at the place is under
-- way, and asks no more than these
abbrev pub asks_left : Call → ℕ → List Key → ℕ
asks_left (calls.Create bytes) place [] = length (drop place bytes)
asks_left (calls.Create bytes) place (k ∷ ks) = length (drop place bytes) + 4 * length (k ∷ ks) - 16
asks_left call place ks = 4 * length ks

-- the same where its receipt is seen as taken
abbrev pub asks_with : ℕ → Option Call → ℕ → List Key → Option Place → ℕ
asks_with version None place ks r = 0
asks_with version (Some call) place ks r = asks_left call (place_with version call place ks r) (keys_with version call place ks r)

-- nothing of a call that is answered
abbrev pub unless : Bool → ℕ → ℕ
unless true n = 0
unless false n = n

-- the references that a frame may still take; a receipt is one of them
abbrev pub takes_of : ℕ → Option Call → Option Frame → ℕ
takes_of version call None = 0
takes_of version call (Some f) =
    unless f.answered (asks_with version call f.at_byte f.keys f.receipt) + 4 * bit (is_some f.receipt)

-- the handles that a frame may still let go: those of its list, one for each reference that it may take, and those of two
-- vouchers when its call is answered
abbrev pub lets_of : ℕ → Option Call → Option Frame → ℕ
lets_of version call None = 0
lets_of version call (Some f) = 4 * length f.lets + unless f.answered (4 * most_lets) + takes_of version call (Some f)

-- what a call brings at its begin: a recipe array has 5,120 bytes at most
abbrev pub call_takes : ℕ
call_takes = ARRAY_BYTES

abbrev pub call_lets : ℕ
call_lets = ARRAY_BYTES + 4 * most_lets

-- what a name or a message brings that an exit gives up: the handles of its voucher
abbrev pub given_lets : ℕ
given_lets = 4 * length every_key

-- of a task with its number

abbrev pub takes_in : Scenario → ℕ → Tasked → ℕ
takes_in sc t x = takes_of sc.version (nth_call sc t x.begun) x.frame

abbrev pub lets_in : Scenario → ℕ → Tasked → ℕ
lets_in sc t x = lets_of sc.version (nth_call sc t x.begun) x.frame

abbrev pub begun_in : ℕ → Tasked → ℕ
begun_in t x = x.begun

-- 1 where a receipt is in flight
abbrev pub flying_of : Option Frame → ℕ
flying_of None = 0
flying_of (Some f) = bit (is_some f.receipt)

abbrev pub flying_in : ℕ → Tasked → ℕ
flying_in t x = flying_of x.frame

-- over all tasks
abbrev pub in_all : (ℕ → Tasked → ℕ) → Machine → ℕ
in_all f m = sum_tasks f 1 m.tasks

-- what was taken and claimed, and what may still be without another call, is paid for by the calls that were begun and by what
-- exits gave up. A value is made for a reference, and a handle is first used where a value is made, but for Default's
pub record Spent (sc : Scenario) (m : Machine) : Type 0 where
  pub refers : 4 * m.tally.refers + in_all (takes_in sc) m ≤ call_takes * in_all begun_in m
  pub claims : 4 * m.tally.claims + in_all (lets_in sc) m ≤ call_lets * in_all begun_in m + given_lets * given_up_in m.past
  pub made : made_in m.past ≤ m.tally.refers + in_all flying_in m
  pub used : (k : Key) → (of_key k m.pools).used ≤ made_in m.past + 1
