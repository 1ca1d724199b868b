-- No call that begins is refused for being out of memory: the codes of what it looks at are others.
use Rattle.std.proofs.Common.{◌≡◌, ◌≢◌, ℕ, ◌+◌, ◌-◌, nat_le, ◌==◌, not, Bool, true, false, sym, subst, Option, Some, None, Result, Ok, Err, ℤ}
use Rattle.std.specs.Prelude.{IfErr, IfSome, is_some, if◌then◌else◌}
use Rattle.vch_base.specs.declared.codes.TheConstants.{KERN_FAILURE, KERN_INVALID_ARGUMENT, KERN_RESOURCE_SHORTAGE, MACH_SEND_INVALID_DEST, MACH_SEND_INVALID_VOUCHER, MACH_SEND_TIMED_OUT}
use Rattle.vch_base.specs.declared.fault.Code.{Code}
use Rattle.vch_base.specs.declared.key.Key.{Key}
use Rattle.vch_base.specs.declared.limits.TheConstants.{LAST_WORD}
use Rattle.vch_base.specs.declared.places.Live.{Live}
use Rattle.vch_base.specs.Keyed.{Keyed, of_key}
use Rattle.vch_importance.specs.Assertions.{counted_by, is_own}
use Rattle.vch_bank.specs.declared.payer.Payer.{Payer}
use Rattle.vch_bank.specs.declared.payer.Payer.TheVariants as payers
use Rattle.vch_model.specs.Lines.{is_task}
use Rattle.vch_model.specs.declared.entry.Reply.{Reply}
use Rattle.vch_model.specs.declared.lists.Scenario.{Scenario}
use Rattle.vch_frame.specs.Indices.{index_of}
use Rattle.vch_values.specs.Parts.{KeyParts}
use Rattle.vch_vouchers.specs.Desks.{Voucher}
use Rattle.vch_parts.specs.Plain.{Plain}
use Rattle.vch_replies.specs.Replied.{changed, done_or, is_full, paid_by}
use Rattle.vch_replies.specs.Told.{handle_in, named_by}
use Rattle.vch_answers.specs.Answered.{IsOtherReply}
use Rattle.vch_carry.specs.Amounts.{handle_of, handle_or}
use Rattle.vch_carry.specs.Carried.{send_refusal}

abbrev IsOther : ℤ → Type 0
IsOther code = code ≢ KERN_RESOURCE_SHORTAGE

-- A named voucher without a value.

err_eq : (a b : ℤ) → ◌≡◌ {A = Result ℕ ℤ} (Err a) (Err b) → a ≡ b
err_eq a b e = cc

without : (o : Option ℕ) (code : ℤ) → handle_or o ≡ Err code → IsOther code
without None code e = subst IsOther (err_eq _ code e) (λ q. cc)
without (Some h) code e = absurd (cc)

pub handle_other : (x : Keyed KeyParts) (k : Key) (o : Option Voucher) (code : ℤ) → handle_of x k o ≡ Err code → IsOther code
handle_other x k None code e = subst IsOther (err_eq _ code e) (λ q. cc)
handle_other x k (Some v) code e = without (handle_in (of_key k x) (index_of k v)) code e

-- A manager that lets no count change, and no charge.

picked : (b : Bool) (due : ℕ) (code : ℤ) → IsOther code → IfErr (if b then Ok due else Err code) IsOther
picked true due code other = tt
picked false due code other = other

changed_other : (adding : Bool) (due n : ℕ) → IfErr (changed adding due n) IsOther
changed_other true due n = picked (nat_le (due + n) LAST_WORD) (due + n) KERN_FAILURE (λ q. cc)
changed_other false due n = picked (nat_le n due) (due - n) KERN_FAILURE (λ q. cc)

owned : (b : Bool) (r : Result ℕ ℤ) → IfErr r IsOther → IfErr (if b then r else Err KERN_INVALID_ARGUMENT) IsOther
owned true r other = other
owned false r other = λ q. cc

counted_other : (adding : Bool) (o : Option Live) (t n : ℕ) → IfErr (counted_by (changed adding) o t n) IsOther
counted_other adding None t n = λ q. cc
counted_other adding (Some l) t n = owned (is_own l.value t) (changed adding l.due n) (changed_other adding l.due n)

done_other : (r : Result ℕ ℤ) → IfErr r IsOther → IsOtherReply (done_or r)
done_other (Ok due) other = tt
done_other (Err code) other = other

pub count_other : (adding : Bool) (o : Option Live) (t n : ℕ) (reply : Reply) → reply ≡ done_or (counted_by (changed adding) o t n) → IsOtherReply reply
count_other adding o t n reply e = subst IsOtherReply (sym e) (done_other (counted_by (changed adding) o t n) (counted_other adding o t n))

paid_other : (payer : Payer) → IsOtherReply (paid_by payer)
paid_other payers.Ledger = tt
paid_other payers.Due = tt
paid_other payers.Nobody = λ q. cc

pub charge_other : (payer : Payer) (reply : Reply) → reply ≡ paid_by payer → IsOtherReply reply
charge_other payer reply e = subst IsOtherReply (sym e) (paid_other payer)

-- A send that is refused as it begins.

abbrev HasOther : Option Code → Type 0
HasOther o = IfSome o (λ code. IsOther code.number)

chosen : (a b c d : Bool) → HasOther (if a then Some (record { number = MACH_SEND_INVALID_DEST }) else if b then (if c then Some (record { number = MACH_SEND_TIMED_OUT }) else None) else if d then None else Some (record { number = MACH_SEND_INVALID_VOUCHER }))
chosen true b c d = λ q. cc
chosen false true true d = λ q. cc
chosen false true false d = tt
chosen false false c true = tt
chosen false false c false = λ q. cc

pub send_other : (sc : Scenario) (x : Plain) (t to name : ℕ) (code : Code) → send_refusal sc x t to name ≡ Some code → IsOther code.number
send_other sc x t to name code e = subst HasOther e (chosen (not (is_task sc to)) (name == 0) (is_full x to) (is_some (named_by x t name)))
