-- The facts that every event keeps, apart from what their proof keeps beside them. `Fits` is exactly both.
use Rattle.std.specs.Prelude.{◌≡◌, ℕ, ◌≤◌, true, false, [], length, Option, Some, None, is_some}
use Rattle.vch_model.specs.declared.lists.Scenario.{Scenario}
use Rattle.vch_machine.specs.State.{Place, Frame, Machine, tasked, living_at, claims_on, default_living, default_place}
use Rattle.vch_legal.specs.Facts.{spot, spot_fits, most_lets, SendsToTasks, ExitsFormNothing, EachOnce, Different, ValuesFit, NumbersFit, IsCounted}

-- a frame with a receipt has no claim, and its call is not answered
pub record ReceiptAlone (f : Frame) : Type 0 where
  pub claim : is_some f.receipt ≡ true → f.claim ≡ None
  pub unanswered : is_some f.receipt ≡ true → f.answered ≡ false

abbrev pub OptionAlone : Option Frame → Type 0
OptionAlone None = Unit {0}
OptionAlone (Some f) = ReceiptAlone f

-- The facts: of each handle what its holders, receipts and claims say; a receipt stands alone; the live and the free handles
-- of a key are those ever used, each once; live values differ; Default is live at handle 0, and no one claims it
pub record Facts (m : Machine) : Type 0 where
  pub spots : (p : Place) → spot_fits (spot m p) ≡ true
  pub frames : (t : ℕ) → OptionAlone (tasked m t).frame
  pub each_once : EachOnce m
  pub different : Different m.live
  pub default_live : living_at m.live default_place ≡ Some default_living
  pub default_kept : claims_on m default_place ≡ []

-- beside them, of a frame: with a receipt it has nothing to let go and forms a voucher, nothing is formed once the call is
-- answered, and at most the handles of two vouchers are to be let go
pub record FrameBeside (f : Frame) : Type 0 where
  pub lets : is_some f.receipt ≡ true → f.lets ≡ []
  pub forming : is_some f.receipt ≡ true → is_some f.forming ≡ true
  pub answered : f.answered ≡ true → f.forming ≡ None
  pub few : length f.lets ≤ most_lets

abbrev pub OptionBeside : Option Frame → Type 0
OptionBeside None = Unit {0}
OptionBeside (Some f) = FrameBeside f

pub record Beside (sc : Scenario) (m : Machine) : Type 0 where
  pub frames : (t : ℕ) → OptionBeside (tasked m t).frame
  pub sends : SendsToTasks sc m
  pub exits : ExitsFormNothing sc m
  pub tasks : length m.tasks ≡ length sc.flags
  pub values : ValuesFit sc m.live
  pub numbers : NumbersFit (length m.past) m.live
  pub counted : IsCounted m
