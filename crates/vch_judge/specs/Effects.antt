-- What a call with a reply does to the store, where it may be answered so.
use Rattle.std.specs.Prelude.{◌≡◌, ◌⊎◌, ℕ, Bool, true, false, if◌then◌else◌, Option, Some, None}
use Rattle.vch_model.specs.declared.call.Call.{Call}
use Rattle.vch_model.specs.declared.call.Call.TheVariants as calls
use Rattle.vch_model.specs.declared.entry.Reply.{Reply}
use Rattle.vch_model.specs.declared.entry.Reply.TheVariants as replies
use Rattle.vch_model.specs.After as after
use Rattle.vch_model.specs.After.{is_want, store_after_call}
use Rattle.vch_model.specs.Legal.{IsReplied, IsAnswer}
use Rattle.vch_model.specs.Lines.{is_task}
use Rattle.vch_model.specs.Store.{Store, member, given}
use Rattle.vch_model.specs.Totals.{is_done, named_voucher}
use Rattle.vch_model.specs.Voucher.{value_in}
use Rattle.vch_base.specs.declared.key.Key.{Key}
use Rattle.vch_base.specs.declared.key.Key.TheVariants as keys
use Rattle.vch_legal.specs.ValueAmounts.{is_counting}
use Rattle.vch_books.specs.Audits.{Audit, IsGood, IsGoodOption, store_at, past_at, meant, rest_of}
use Rattle.vch_books.specs.Numbered.{message_of, numbered_value, StandsAt}
use Rattle.vch_judge.specs.declared.effect.Effect.{Effect}
use Rattle.vch_judge.specs.declared.effect.Effect.TheVariants as effects

-- the store without the first message of a task
abbrev pub received_at : Audit → ℕ → Store
received_at a t = after.taken_first (store_at a) t (rest_of (member (store_at a) t).queue)

-- the store after it
abbrev pub changed_at : Audit → ℕ → Effect → Store
changed_at a t effects.Stay = store_at a
changed_at a t (effects.Count name number adding n) = store_at a
changed_at a t (effects.Charge name number n) = store_at a
changed_at a t (effects.Give v) = given (store_at a) t (meant a v)
changed_at a t (effects.LetGo name) = after.let_go (store_at a) t name
changed_at a t (effects.Send to message) = after.appended (store_at a) to (message_of a.history message)
changed_at a t (effects.SendMoved to message name) =
    after.let_go (after.appended (store_at a) to (message_of a.history message)) t name
changed_at a t effects.Receive = received_at a t
changed_at a t (effects.ReceiveVoucher v) = given (received_at a t) t (meant a v)

-- the voucher of a name has the live value of a number at a key
abbrev pub HasNumber : Audit → Key → ℕ → ℕ → ℕ → Type 0
HasNumber a key t name number =
    (value_in key (named_voucher (store_at a) t name) ≡ Some (numbered_value a.history number))
    × StandsAt a.history (store_at a).live key (Some number)

-- the vouchers that it gives are good, it sends to a task, and a number is that of the value
abbrev pub Fits : Audit → ℕ → Effect → Type 0
Fits a t effects.Stay = Unit {0}
Fits a t (effects.Count name number adding n) = HasNumber a keys.Importance t name number
Fits a t (effects.Charge name number n) = HasNumber a keys.Bank t name number
Fits a t (effects.Give v) = IsGood a v
Fits a t (effects.LetGo name) = Unit {0}
Fits a t (effects.Send to message) = (is_task a.scenario to ≡ true) × IsGoodOption a message.voucher
Fits a t (effects.SendMoved to message name) = (is_task a.scenario to ≡ true) × IsGoodOption a message.voucher
Fits a t effects.Receive = Unit {0}
Fits a t (effects.ReceiveVoucher v) = IsGood a v

-- the call is no extern and no charge, or it is refused
abbrev pub IsUncountedCall : Call → Reply → Type 0
IsUncountedCall call reply = (is_counting call ≡ false) ⊎ (is_done reply ≡ false)

-- it is an accepted extern or charge where the effect says so, and else none
abbrev pub IsCounted : Call → Reply → Effect → Type 0
IsCounted call reply (effects.Count name number adding n) = (call ≡ calls.Extern name adding n) × (reply ≡ replies.Done)
IsCounted call reply (effects.Charge name number n) = (call ≡ calls.Charge name n) × (reply ≡ replies.Done)
IsCounted call reply effects.Stay = IsUncountedCall call reply
IsCounted call reply (effects.Give v) = IsUncountedCall call reply
IsCounted call reply (effects.LetGo name) = IsUncountedCall call reply
IsCounted call reply (effects.Send to message) = IsUncountedCall call reply
IsCounted call reply (effects.SendMoved to message name) = IsUncountedCall call reply
IsCounted call reply effects.Receive = IsUncountedCall call reply
IsCounted call reply (effects.ReceiveVoucher v) = IsUncountedCall call reply

-- what the reply leaves of the store
abbrev pub left_at : Audit → ℕ → Call → Reply → Store
left_at a t call reply = if is_want reply then store_at a else store_after_call a.scenario (store_at a) t call

-- the call may be answered so, and does this
pub record Does (a : Audit) (t : ℕ) (call : Call) (reply : Reply) (effect : Effect) : Type 0 where
  pub answer : IsAnswer a.scenario (past_at a) (store_at a) t call reply
  pub leaves : left_at a t call reply ≡ changed_at a t effect
  pub fits : Fits a t effect
  pub counted : IsCounted call reply effect

abbrev pub Replied : Audit → ℕ → Call → Reply → Type 0
Replied a t call reply = IsReplied a.scenario (past_at a) (store_at a) t call reply

-- what a reply does that is the store's own; none where it isn't
abbrev pub IsOwn : Audit → ℕ → Call → Reply → Option Effect → Type 0
IsOwn a t call reply None = Replied a t call reply → ⊥
IsOwn a t call reply (Some effect) = Does a t call reply effect

-- what any reply does; none where the call may not be answered so
abbrev pub IsJudged : Audit → ℕ → Call → Reply → Option Effect → Type 0
IsJudged a t call reply None = IsAnswer a.scenario (past_at a) (store_at a) t call reply → ⊥
IsJudged a t call reply (Some effect) = Does a t call reply effect
