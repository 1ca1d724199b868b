-- What every event keeps, seen from one handle.
use Rattle.std.specs.Prelude.{◌≡◌, ℕ, ◌+◌, ◌*◌, ◌≤◌, Bool, true, false, ◌==◌, nat_lt, ◌&&◌, ◌||◌, not, if◌then◌else◌, List, [], ◌∷◌, length, Option, Some, None, is_some}
use Rattle.std.specs.List.{list_any}
use Rattle.vch_base.specs.declared.key.Key.{Key}
use Rattle.vch_base.specs.Keys.{every_key}
use Rattle.vch_base.specs.Keyed.{of_key}
use Rattle.vch_base.specs.declared.value.Value.{Value}
use Rattle.vch_base.specs.Values.{Belongs, task_numbers}
use Rattle.vch_model.specs.declared.call.Call.TheVariants as calls
use Rattle.vch_model.specs.declared.lists.Scenario.{Scenario}
use Rattle.vch_model.specs.Lines.{is_task}
use Rattle.vch_model.specs.Legal.{all_tasks}
use Rattle.vch_machine.specs.State.{Place, same_place, Living, Claim, Frame, Machine, tasked, living_at, handle_of, is_held, is_expected, claims_on, default_living, default_place}
use Rattle.vch_machine.specs.Next.{current}
use Rattle.vch_machine.specs.Leaving.{is_fixed}

-- one handle of a key: whether it is live and Default's, held, expected by a receipt, and the claims on it
pub record Spot : Type 0 where
  pub live : Bool
  pub fixed : Bool
  pub held : Bool
  pub expected : Bool
  pub claims : List Claim

abbrev pub spot : Machine → Place → Spot
spot m p = record {
  live = is_some (living_at m.live p);
  fixed = is_fixed m p;
  held = is_held m p;
  expected = is_expected m p;
  claims = claims_on m p;
}

abbrev pub implies : Bool → Bool → Bool
implies a b = not a || b

abbrev pub asked : Claim → Bool
asked c = is_some c.answer

-- a claim that is not back has an unheld handle
abbrev pub unheld : Spot → Claim → Bool
unheld s c = implies (not c.back) (not s.held)

-- one that is not raced and was not asked has no receipt for its handle
abbrev pub unexpected : Spot → Claim → Bool
unexpected s c = implies (not c.raced && not (asked c)) (not s.expected)

-- one that was not asked has a live handle
abbrev pub unasked_live : Spot → Claim → Bool
unasked_live s c = implies (not (asked c)) s.live

-- a raced one that is not back has a receipt for its handle
abbrev pub raced_expected : Spot → Claim → Bool
raced_expected s c = implies (c.raced && not c.back) s.expected

-- one that is back has a live handle, and is raced where it was not asked
abbrev pub back_live : Spot → Claim → Bool
back_live s c = implies c.back (s.live && implies (not (asked c)) c.raced)

abbrev pub claim_fits : Spot → Claim → Bool
claim_fits s c = unheld s c && (unexpected s c && (unasked_live s c &&
    (raced_expected s c && (back_live s c && not s.fixed))))

-- a claim for which a live value stays
abbrev pub keeps : Claim → Bool
keeps c = not (asked c) || c.back

-- a handle with a holder or a receipt is live
abbrev pub holder_live : Spot → Bool
holder_live s = implies (s.held || s.expected) s.live

-- a live value but Default has a holder, a receipt, or a claim for which it stays
abbrev pub kept_by : Spot → Bool → Bool
kept_by s claimed = implies (s.live && not s.fixed) (s.held || (s.expected || claimed))

-- no handle has two claims
abbrev pub claims_fit : Spot → List Claim → Bool
claims_fit s [] = kept_by s false
claims_fit s (c ∷ []) = claim_fits s c && kept_by s (keeps c)
claims_fit s (c ∷ d ∷ cs) = false

abbrev pub spot_fits : Spot → Bool
spot_fits s = holder_live s && (implies s.fixed s.live && claims_fit s s.claims)

-- the handles of two vouchers
abbrev pub most_lets : ℕ
most_lets = 2 * length every_key

-- a frame with a receipt has no claim and nothing to let go, and its call is not answered. Nothing is formed once the call
-- is answered. At most the handles of two vouchers are to be let go at any time
pub record FrameFits (f : Frame) : Type 0 where
  pub claim : is_some f.receipt ≡ true → f.claim ≡ None
  pub lets : is_some f.receipt ≡ true → f.lets ≡ []
  pub forming : is_some f.receipt ≡ true → is_some f.forming ≡ true
  pub answered : f.answered ≡ true → f.forming ≡ None
  pub few : length f.lets ≤ most_lets

abbrev pub OptionFits : Option Frame → Type 0
OptionFits None = Unit {0}
OptionFits (Some f) = FrameFits f

-- the sends that are under way are to tasks of the scenario
abbrev pub SendsToTasks : Scenario → Machine → Type 0
SendsToTasks sc m = (t : ℕ) (f : Frame) (to : ℕ) (moving : Bool) (name id : ℕ) → is_task sc t ≡ true
    → (tasked m t).frame ≡ Some f
    → current sc m t ≡ Some (calls.Send to moving name id) → is_task sc to ≡ true

-- the frame of an exit forms nothing
abbrev pub ExitsFormNothing : Scenario → Machine → Type 0
ExitsFormNothing sc m = (t : ℕ) (f : Frame) → is_task sc t ≡ true → (tasked m t).frame ≡ Some f
    → current sc m t ≡ Some calls.Exit → f.forming ≡ None

abbrev pub bit : Bool → ℕ
bit b = if b then 1 else 0

-- how many elements pass
abbrev pub times : {X : Type 0} → (X → Bool) → List X → ℕ
times p [] = 0
times p (x ∷ xs) = bit (p x) + times p xs

-- the live and the free handles of a key are the handles ever used, each once
abbrev pub EachOnce : Machine → Type 0
EachOnce m = (p : Place) →
    times (λ (l : Living). same_place l.place p) m.live + times (λ h. h == p.handle) (of_key p.key m.pools).free
    ≡ bit (nat_lt p.handle (of_key p.key m.pools).used)

-- each live value is the only one at its key that is equal to it: it is found at its own handle
abbrev pub Different : List Living → Type 0
Different live = (p : Place) (a : Living) → living_at live p ≡ Some a → handle_of live p.key a.value ≡ Some p.handle

-- a live value belongs to its key, and names only tasks of the scenario
pub record ValueFits (sc : Scenario) (k : Key) (x : Value) : Type 0 where
  pub belongs : Belongs k x
  pub tasks : all_tasks sc (task_numbers x) ≡ true

abbrev pub ValuesFit : Scenario → List Living → Type 0
ValuesFit sc live = (p : Place) (a : Living) → living_at live p ≡ Some a → ValueFits sc p.key a.value

-- the numbers of the Made entries of live values: each is within the history and at least 1 but for Default, and no two
-- are the same
pub record NumbersFit (n : ℕ) (live : List Living) : Type 0 where
  pub within : (p : Place) (a : Living) → living_at live p ≡ Some a → a.made ≤ n
  pub counted : (p : Place) (a : Living) → living_at live p ≡ Some a → same_place p default_place ≡ false → 1 ≤ a.made
  pub once : (p q : Place) (a b : Living) → living_at live p ≡ Some a → living_at live q ≡ Some b → a.made ≡ b.made
      → p ≡ q

-- what a handle has still to be paid for by a question: a claim that was not asked, and one more where the handle is held
-- or has a claim that is back. Default's is never asked for
abbrev pub burden : Spot → ℕ
burden s = if s.fixed then 0 else times (λ c. not (asked c)) s.claims + bit
    (s.held || list_any (λ (c : Claim). c.back) s.claims)

-- a sum over the places of live values
abbrev pub total : (Place → ℕ) → List Living → ℕ
total b [] = 0
total b (l ∷ live) = b l.place + total b live

-- the questions asked, and those that are still to come at most, are no more than the references that were taken
abbrev pub IsCounted : Machine → Type 0
IsCounted m = m.tally.asks + total (λ p. burden (spot m p)) m.live ≤ m.tally.refers

-- what every event keeps, of any state
pub record Fits (sc : Scenario) (m : Machine) : Type 0 where
  pub spots : (p : Place) → spot_fits (spot m p) ≡ true
  pub frames : (t : ℕ) → OptionFits (tasked m t).frame
  pub sends : SendsToTasks sc m
  pub exits : ExitsFormNothing sc m
  pub tasks : length m.tasks ≡ length sc.flags
  pub each_once : EachOnce m
  pub different : Different m.live
  pub default_live : living_at m.live default_place ≡ Some default_living
  pub values : ValuesFit sc m.live
  pub numbers : NumbersFit (length m.past) m.live
  pub counted : IsCounted m
