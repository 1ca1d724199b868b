-- A charge, as its call begins.
use Rattle.std.proofs.Common.{◌≡◌, ◌≢◌, ℕ, ◌+◌, ◌≤◌, true, false, refl, sym, ap, ◌∙◌, subst, Option, Some, None, Result, Ok, Err, ℤ}
use Rattle.std.specs.Prelude.{IsSome}
use Rattle.vch_base.specs.declared.key.Key.{Key}
use Rattle.vch_base.specs.declared.key.Key.TheVariants as keys
use Rattle.vch_base.specs.declared.kind.Kind.TheVariants as kinds
use Rattle.vch_base.specs.Keyed.{Keyed, of_key}
use Rattle.vch_base.specs.declared.codes.TheConstants.{KERN_INVALID_ARGUMENT}
use Rattle.vch_base.specs.Managers.{live_at, value_of, due_at}
use Rattle.vch_bank.specs.Bank.{payer_at, payer_in}
use Rattle.vch_bank.specs.declared.payer.Payer.{Payer}
use Rattle.vch_bank.specs.declared.payer.Payer.TheVariants as payers
use Rattle.vch_model.specs.Lines.{is_task}
use Rattle.vch_model.specs.Replies.{refused}
use Rattle.vch_model.specs.declared.call.Call.{Call}
use Rattle.vch_model.specs.declared.call.Call.TheVariants as calls
use Rattle.vch_model.specs.declared.call.Word.TheVariants as words
use Rattle.vch_model.specs.declared.entry.Reply.TheVariants as replies
use Rattle.vch_machine.specs.Beginning.{begin_call, store_reply}
use Rattle.vch_machine.specs.Frames.{replied}
use Rattle.vch_machine.specs.State.{Machine}
use Rattle.vch_frame.specs.Indices.{index_of}
use Rattle.vch_values.specs.Parts.{KeyParts}
use Rattle.vch_vouchers.specs.Desks.{Voucher, desk, voucher_of}
use Rattle.vch_parts.specs.declared.parts.Parts.{Parts}
use Rattle.vch_parts.specs.Plain.{part_of}
use Rattle.vch_parts.specs.Reached.{plain_of, Reached, MayFollow}
use Rattle.vch_parts.specs.Stands.{StandsFor}
use Rattle.vch_moves.specs.Steps.{machine_begun, answered_first}
use Rattle.vch_replies.specs.Left.{paid}
use Rattle.vch_replies.specs.Replied.{paid_by, charge_told}
use Rattle.vch_replies.specs.Told.{handle_in, live_in}
use Rattle.vch_replies.proofs.CallerLemmas.{charge_reply, charge_left}
use Rattle.vch_answers.specs.Answered.{Answers, Begins}
use Rattle.vch_answers.proofs.CallerLemmas.{Moment, begin_follows, answer_room, named_is}
use Rattle.vch_carry.specs.Amounts.{Notes, handle_of, handle_or, named_handle}
use Rattle.vch_carry.proofs.amounts.Told.{calls_here}
use Rattle.vch_carry.proofs.amounts.Named.{Found, found}
use Rattle.vch_carry.proofs.amounts.Noted.{SameButDues}
use Rattle.vch_carry.proofs.amounts.Counted.{same_live, same_key_parts, due_same}
use Rattle.vch_carry.proofs.amounts.Begun.{due_answered}
use Rattle.vch_carry.proofs.amounts.Noting.{noted_scenario, noted_plain, refused_follows}

-- What a charge leaves.

paid_same : (x : Keyed KeyParts) (h t n : ℕ) (payer : Payer) → IsSome (live_at x.bank.kept.slots h) → (k : Key) → SameButDues (of_key k x) (of_key k (paid x h t n payer))
paid_same x h t n payers.Ledger some keys.Bank = record { entries = refl; numbers = refl; free = refl; long = refl; rules = refl; asked = refl; live = λ j. same_live (live_at x.bank.kept.slots j) }
paid_same x h t n payers.Due some keys.Bank = due_same x.bank h (due_at x.bank.kept.slots h + n) some
paid_same x h t n payers.Nobody some keys.Bank = same_key_parts x.bank
paid_same x h t n payer some keys.Importance = same_key_parts x.importance
paid_same x h t n payer some keys.User = same_key_parts x.user
paid_same x h t n payer some keys.Test = same_key_parts x.test

module _ (p : Parts) (t name n : ℕ) (reached : Reached p) (task : is_task p.scenario t ≡ true) (begins : Begins p t (calls.Charge name n)) where
  abbrev call : Call
  call = calls.Charge name n

  told : (o : Option Voucher) → voucher_of (desk p.vouchers t).names name ≡ o → (m : Machine) → Moment p t call m
      → begin_call p.scenario false (machine_begun m t) t call (store_reply p.scenario m t call) ≡ replied (machine_begun m t) t call (charge_told p.values t o)
  told o e m x = ap (replied (machine_begun m t) t call)
      (charge_reply p.scenario (plain_of p) m t name n (calls_here p t task call m x) ∙ ap (charge_told p.values t) (named_is p t reached task name o e))

  -- without a list
  pub refused_told : (code : ℤ) → named_handle p t name keys.Bank ≡ Err code → (m : Machine) → Moment p t call m
      → begin_call p.scenario false (machine_begun m t) t call (store_reply p.scenario m t call) ≡ replied (machine_begun m t) t call (refused code)
  refused_told code e m x = by (voucher_of (desk p.vouchers t).names name) refl e
    where
      err_eq : (a b : ℤ) → ◌≡◌ {A = Result ℕ ℤ} (Err a) (Err b) → a ≡ b
      err_eq a b e = cc

      without : (v : Voucher) (o : Option ℕ) → handle_or o ≡ Err code → paid_by (payer_in (value_of (live_in p.values.bank o)) t) ≡ refused code
      without v None e = ap refused (err_eq _ code e)
      without v (Some h) e = absurd (cc)

      by : (o : Option Voucher) → voucher_of (desk p.vouchers t).names name ≡ o → handle_of p.values keys.Bank o ≡ Err code
          → begin_call p.scenario false (machine_begun m t) t call (store_reply p.scenario m t call) ≡ replied (machine_begun m t) t call (refused code)
      by None q e = told None q m x ∙ ap (λ c. replied (machine_begun m t) t call (refused c)) (err_eq _ code e)
      by (Some v) q e = told (Some v) q m x ∙ ap (replied (machine_begun m t) t call) (without v (handle_in p.values.bank (index_of keys.Bank v)) e)

  pub refusal_follows : (code : ℤ) (new : Parts) → named_handle p t name keys.Bank ≡ Err code → Answers t words.Charge (refused code) p new → MayFollow kinds.Begin t p new
  refusal_follows code new e done = refused_follows p t reached task call begins code (refused_told code e) new _ done.scenario (done.plain call refl) refl

  -- with one
  module _ (h : ℕ) (there : named_handle p t name keys.Bank ≡ Ok h) where
    abbrev change : Payer
    change = payer_at p.values.bank.kept h t

    at : Found p t reached task name keys.Bank h
    at = found p t reached task name keys.Bank h there

    pub charge_told_at : (m : Machine) → Moment p t call m → begin_call p.scenario false (machine_begun m t) t call (store_reply p.scenario m t call) ≡ replied (machine_begun m t) t call (paid_by change)
    charge_told_at m x = ap (replied (machine_begun m t) t call)
        (charge_reply p.scenario (plain_of p) m t name n (calls_here p t task call m x) ∙ ap (charge_told p.values t) at.named
        ∙ ap (λ o. paid_by (payer_in (value_of (live_in p.values.bank o)) t)) at.handle)

    pub charge_room : 1 ≤ p.history.spare
    charge_room = answer_room p t call reached task begins false (paid_by change) charge_told_at

    accepted : (payer : Payer) → change ≡ payer → payer ≢ payers.Nobody → (m : Machine) → Moment p t call m
        → StandsFor p.scenario (record (answered_first (plain_of p) t call replies.Done) { keyed = paid p.values h t n payer }) (replied (machine_begun m t) t call replies.Done)
    accepted payer e some m x = due_answered p.scenario (plain_of p) m t x.free (paid p.values h t n payer) call replies.Done (paid_same p.values h t n payer at.live)
        (charge_left p.scenario (plain_of p) m t ((part_of (plain_of p) t).begun + 1) name n h words.Charge at.voucher (calls_here p t task call m x) x.there at.named at.handle payer e some) charge_room

    pub charge_follows : (mid new : Parts) → mid ≡ record p { values = paid p.values h t n change } → Notes t words.Charge (paid_by change) mid new → MayFollow kinds.Begin t p new
    charge_follows mid new same notes = by change refl same notes
      where
        taken : (payer : Payer) → change ≡ payer → payer ≢ payers.Nobody → paid_by payer ≡ replies.Done → mid ≡ record p { values = paid p.values h t n payer } → Notes t words.Charge replies.Done mid new → MayFollow kinds.Begin t p new
        taken payer e some done same notes = begin_follows p t call reached task begins new false (record (answered_first (plain_of p) t call replies.Done) { keyed = paid p.values h t n payer })
            (noted_scenario p t reached task (paid p.values h t n payer) mid same words.Charge replies.Done new notes)
            (noted_plain p t reached task (paid p.values h t n payer) mid same words.Charge replies.Done new notes call refl)
            (λ m x. subst (StandsFor p.scenario (record (answered_first (plain_of p) t call replies.Done) { keyed = paid p.values h t n payer }))
            (sym (charge_told_at m x ∙ ap (λ r. replied (machine_begun m t) t call (paid_by r)) e ∙ ap (replied (machine_begun m t) t call) done)) (accepted payer e some m x))

        by : (r : Payer) → change ≡ r → mid ≡ record p { values = paid p.values h t n r } → Notes t words.Charge (paid_by r) mid new → MayFollow kinds.Begin t p new
        by payers.Ledger e same notes = taken payers.Ledger e (λ q. cc) refl same notes
        by payers.Due e same notes = taken payers.Due e (λ q. cc) refl same notes
        by payers.Nobody e same notes = refused_follows p t reached task call begins KERN_INVALID_ARGUMENT (λ m x. charge_told_at m x ∙ ap (λ r. replied (machine_begun m t) t call (paid_by r)) e) new _
            (noted_scenario p t reached task p.values mid same words.Charge (refused KERN_INVALID_ARGUMENT) new notes)
            (noted_plain p t reached task p.values mid same words.Charge (refused KERN_INVALID_ARGUMENT) new notes call refl) refl
