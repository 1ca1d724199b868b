-- What managers answer to the commands of records, and to a receiver.
use Rattle.std.proofs.Common.{◌≡◌, ◌≢◌, ℕ, ◌==◌, List, Option, None, Bool, false, refl, arith}
use Rattle.std.proofs.lemmas.Grind.{common_steps}
use Rattle.vch_base.specs.declared.commands.TheConstants as commands
use Rattle.vch_base.specs.declared.flags.Flags.{Flags}
use Rattle.vch_base.specs.declared.key.Key.{Key}
use Rattle.vch_base.specs.declared.key.Key.TheVariants as keys
use Rattle.vch_base.specs.declared.value.Value.{Value}
use Rattle.vch_base.specs.declared.value.Value.TheVariants as values
use Rattle.vch_base.specs.Managers.{answer, received}
use Rattle.vch_base.specs.Values.{Belongs}
use Rattle.vch_values.specs.Parts.{rules_at}

differs : (a b : ℕ) → a ≢ b → (a == b) ≡ false
differs a b n = grind (arith, common_steps)

-- a command other than AUTO_REDEEM is answered without a look at tasks and flags
pub answers_record : (k : Key) (flags : List Flags) (t command : ℕ) (previous : Option Value) (content : List ℕ) → command ≢ commands.AUTO_REDEEM
    → answer (rules_at k flags) t command previous content ≡ answer (record { row = k; tasks = None }) t command previous content
answers_record keys.Importance flags t command previous content n = rw (differs command commands.AUTO_REDEEM n) refl
answers_record keys.Bank flags t command previous content n = rw (differs command commands.AUTO_REDEEM n) refl
answers_record keys.User flags t command previous content n = refl
answers_record keys.Test flags t command previous content n = refl

-- whether a task is a receiver of importance is nothing to a bank value
pub received_alike : (a b : Bool) (t : ℕ) (x : Value) → Belongs keys.Bank x → received a t x ≡ received b t x
received_alike a b t (values.User bytes) s = absurd s
received_alike a b t (values.Chain list) s = absurd s
received_alike a b t values.Default s = refl
received_alike a b t (values.Task holder) s = refl
received_alike a b t (values.Account holder merchant) s = refl
