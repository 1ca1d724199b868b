-- A call that is not answered: what its frame counts for, and that it goes on or is refused.
use Rattle.std.proofs.Common.{◌≡◌, ℕ, ◌+◌, ◌*◌, ◌≤◌, Bool, [], ◌++◌, refl, true, false, arith, length, Some, None, Option}
use Rattle.std.specs.Prelude.{if◌then◌else◌, is_some, ℤ}
use Rattle.vch_model.specs.declared.call.Call.{Call}
use Rattle.vch_model.specs.declared.lists.Scenario.{Scenario}
use Rattle.vch_model.specs.Replies.{refused}
use Rattle.vch_machine.specs.State.{Place, Frame, Machine, tasked}
use Rattle.vch_machine.specs.Frames.{refuse}
use Rattle.vch_machine.specs.Naming.{option_places}
use Rattle.vch_machine.specs.Next.{nth_call}
use Rattle.vch_legal.specs.Facts.{bit, most_lets}
use Rattle.vch_legal.specs.Tie.{place_with, keys_with}
use Rattle.vch_legal.proofs.CallerLemmas.{IsAmong, option_few, near_self}
use Rattle.vch_bounds.specs.Spent.{asks_left, takes_of, lets_of}
use Rattle.vch_bounds.proofs.events.Paid.{Pays, Costs, answered_pays}

pub takes_at : (version : ℕ) (o : Option Call) (g : Frame) (call : Call) (r : Option Place) → g.answered ≡ false → o ≡ Some call
    → g.receipt ≡ r → takes_of version o (Some g)
    ≡ asks_left call (place_with version call g.at_byte g.keys r) (keys_with version call g.at_byte g.keys r) + 4 * bit (is_some r)
takes_at version o g call r a e q = rw (a, e, q) refl

pub lets_at : (version : ℕ) (o : Option Call) (g : Frame) → g.answered ≡ false
    → lets_of version o (Some g) ≡ 4 * length g.lets + 4 * most_lets + takes_of version o (Some g)
lets_at version o g a = rw a refl

-- a call that is under way at a task
pub record Calls (sc : Scenario) (t : ℕ) (m : Machine) (f : Frame) (call : Call) : Type 0 where
  pub among : IsAmong t m.tasks
  pub frame : (tasked m t).frame ≡ Some f
  pub unanswered : f.answered ≡ false
  pub there : nth_call sc t (tasked m t).begun ≡ Some call

-- the call goes on without a receipt: n handles more at most are to be let go, and it may ask n fewer
pub on_costs : (version : ℕ) (o : Option Call) (f g : Frame) (call : Call) (n : ℕ) → o ≡ Some call → f.answered ≡ false
    → g.answered ≡ false → f.receipt ≡ None → g.receipt ≡ None
    → asks_left call g.at_byte g.keys + 4 * n ≤ asks_left call f.at_byte f.keys → length g.lets ≤ length f.lets + n
    → Costs version o (Some f) (Some g) 0 0 0
on_costs version o f g call n there open_ still none gone fewer few =
    let a : takes_of version o (Some f) ≡ asks_left call f.at_byte f.keys + 4 * 0 = takes_at version o f call None open_ there none in
    let b : takes_of version o (Some g) ≡ asks_left call g.at_byte g.keys + 4 * 0 = takes_at version o g call None still there gone in
    let c = lets_at version o f open_ in
    let d = lets_at version o g still in
    record { takes = omega (arith, a, b, fewer); lets = omega (arith, a, b, c, d, fewer, few) }

pub refuse_pays : (sc : Scenario) (t : ℕ) (m : Machine) (f : Frame) (call : Call) (code : ℤ) → IsAmong t m.tasks
    → (tasked m t).frame ≡ Some f → f.answered ≡ false → Pays sc t m (refuse m t f call code)
refuse_pays sc t m f call code among frame open_ =
    answered_pays sc t m m f (record f { forming = None; answered = true; keys = []; lets = f.lets ++ option_places f.forming }) call
    (refused code) (option_places f.forming) frame open_ among (near_self t m) refl refl refl refl
    (let a = option_few f.forming in omega (arith, a))

-- where there is a next state
abbrev pub MayPay : Scenario → ℕ → Machine → Option Machine → Type 0
MayPay sc t m None = Unit {0}
MayPay sc t m (Some n) = Pays sc t m n

pub pay_if : (sc : Scenario) (t : ℕ) (m : Machine) (b : Bool) (x y : Option Machine) → MayPay sc t m x → MayPay sc t m y
    → MayPay sc t m (if b then x else y)
pay_if sc t m true x y h k = h
pay_if sc t m false x y h k = k
