-- Vouchers that are formed, by the numbers of their live values.
use Rattle.std.specs.Prelude.{◌≡◌, ℕ, false, Option, Some, None, Result, Ok, Err, ℤ}
use Rattle.vch_base.specs.Keyed.{of_key}
use Rattle.vch_base.specs.Keys.{number_of}
use Rattle.vch_base.specs.declared.fault.Code.{Code}
use Rattle.vch_base.specs.declared.key.Key.{Key}
use Rattle.vch_base.specs.declared.key.Key.TheVariants as keys
use Rattle.vch_base.specs.declared.value.Value.{Value}
use Rattle.vch_model.specs.Store.{is_live, all_live}
use Rattle.vch_model.specs.Voucher.{Voucher}
use Rattle.vch_books.specs.Audits.{Audit, IsGood, store_at, meant}
use Rattle.vch_books.specs.Numbered.{numbered_value, StandsAt, at_key}
use Rattle.vch_books.specs.declared.numbers.Numbers.{Numbers}
use Rattle.vch_judge.specs.declared.formed.Formed.{Formed}
use Rattle.vch_judge.specs.declared.formed.Slot.{Slot}
use Rattle.vch_judge.specs.declared.formed.Slot.TheVariants as slots

abbrev pub slot_at : Key → Formed → Slot
slot_at keys.Importance f = f.importance
slot_at keys.Bank f = f.bank
slot_at keys.User f = f.user
slot_at keys.Test f = f.test

abbrev pub with_slot : Key → Slot → Formed → Formed
with_slot keys.Importance x f = record f { importance = x }
with_slot keys.Bank x f = record f { bank = x }
with_slot keys.User x f = record f { user = x }
with_slot keys.Test x f = record f { test = x }

abbrev pub slot_of_number : Option ℕ → Slot
slot_of_number None = slots.Empty
slot_of_number (Some n) = slots.Live n

-- the slot stands for what a voucher has at the key: no value, the live value of its number, or one that is not live
abbrev pub IsSlot : Audit → Key → Slot → Option Value → Type 0
IsSlot a k slots.Empty x = x ≡ None
IsSlot a k (slots.Live n) x = (x ≡ Some (numbered_value a.history n)) × StandsAt a.history (store_at a).live k (Some n)
IsSlot a k slots.Dead x = (y : Value) × (x ≡ Some y) × (is_live (store_at a) (number_of k) y ≡ false)

-- so at each key
unfoldable pub IsFormed : Audit → Formed → Voucher → Type 0
IsFormed a f map = (k : Key) → IsSlot a k (slot_at k f) (of_key k map)

-- each slot is that of a number
abbrev pub HasNumbers : Formed → Numbers → Type 0
HasNumbers f v = (k : Key) → slot_at k f ≡ slot_of_number (at_key k v)

-- one of them has a value that is not live
abbrev pub HasDead : Formed → Type 0
HasDead f = (k : Key) × (slot_at k f ≡ slots.Dead)

-- what stands at a key, or a code
abbrev pub IsAnswered : Audit → Key → Result Slot Code → Result (Option Value) ℤ → Type 0
IsAnswered a k (Ok slot) (Ok x) = IsSlot a k slot x
IsAnswered a k (Err c) (Err code) = c.number ≡ code
IsAnswered a k (Ok slot) (Err code) = ⊥
IsAnswered a k (Err c) (Ok x) = ⊥

-- a voucher, or a code
abbrev pub IsResult : Audit → Result Formed Code → Result Voucher ℤ → Type 0
IsResult a (Ok f) (Ok map) = IsFormed a f map
IsResult a (Err c) (Err code) = c.number ≡ code
IsResult a (Ok f) (Err code) = ⊥
IsResult a (Err c) (Ok map) = ⊥

-- the numbers of a voucher, or none where one of its values is not live
abbrev pub IsVoucher : Audit → Voucher → Option Numbers → Type 0
IsVoucher a map None = all_live (store_at a) map ≡ false
IsVoucher a map (Some v) = IsGood a v × (meant a v ≡ map)
