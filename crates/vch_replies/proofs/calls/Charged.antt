-- The reply to a charge, by what it falls on.
use Rattle.std.proofs.Common.{◌≡◌, ℕ, Bool, true, false, refl, ap, ◌∙◌, Option, Some, None}
use Rattle.std.specs.Prelude.{◌==◌, if◌then◌else◌}
use Rattle.std.specs.Option.{option_map}
use Rattle.vch_base.specs.declared.codes.TheConstants.{KERN_INVALID_ARGUMENT}
use Rattle.vch_base.specs.declared.value.Value.{Value}
use Rattle.vch_base.specs.declared.value.Value.TheVariants as values
use Rattle.vch_base.specs.Keyed.{Keyed}
use Rattle.vch_bank.specs.Bank.{payer_in}
use Rattle.vch_bank.specs.declared.payer.Payer.TheVariants as payers
use Rattle.vch_model.specs.declared.call.Call.TheVariants as calls
use Rattle.vch_model.specs.declared.entry.Reply.TheVariants as replies
use Rattle.vch_model.specs.declared.lists.Scenario.{Scenario}
use Rattle.vch_model.specs.Replies.{refused, may_charge, charge_of}
use Rattle.vch_machine.specs.Beginning.{store_reply}
use Rattle.vch_machine.specs.State.{Machine}
use Rattle.vch_values.specs.Parts.{KeyParts}
use Rattle.vch_vouchers.specs.Desks.{Voucher}
use Rattle.vch_parts.specs.Plain.{Plain}
use Rattle.vch_replies.specs.Begins.{Begins}
use Rattle.vch_replies.specs.Told.{named_by, values_of}
use Rattle.vch_replies.specs.Replied.{paid_by, charge_told}
use Rattle.vch_replies.proofs.named.Named.{named_here}

-- a task may charge where somebody pays
payer_pays : (t : ℕ) (o : Option Value) → (if may_charge t o then replies.Done else refused KERN_INVALID_ARGUMENT) ≡ paid_by (payer_in o t)
payer_pays t None = refl
payer_pays t (Some (values.User bytes)) = refl
payer_pays t (Some (values.Chain list)) = refl
payer_pays t (Some values.Default) = refl
payer_pays t (Some (values.Task u)) = by_test (u == t)
  where
    by_test : (b : Bool) → (if b then replies.Done else refused KERN_INVALID_ARGUMENT) ≡ paid_by (if b then payers.Ledger else payers.Nobody)
    by_test true = refl
    by_test false = refl
payer_pays t (Some (values.Account holder merchant)) = by_test (merchant == t)
  where
    by_test : (b : Bool) → (if b then replies.Done else refused KERN_INVALID_ARGUMENT) ≡ paid_by (if b then payers.Due else payers.Nobody)
    by_test true = refl
    by_test false = refl

of_voucher : (x : Keyed KeyParts) (t : ℕ) (o : Option Voucher) → charge_of t (option_map (values_of x) o) ≡ charge_told x t o
of_voucher x t None = refl
of_voucher x t (Some v) = payer_pays t (values_of x v).bank

pub charge_reply : (sc : Scenario) (c : Plain) (m : Machine) (t name n : ℕ) → Begins sc c m t
    → store_reply sc m t (calls.Charge name n) ≡ charge_told c.keyed t (named_by c t name)
charge_reply sc c m t name n b = ap (charge_of t) (named_here sc c m t name b) ∙ of_voucher c.keyed t (named_by c t name)
