-- What a task sends and receives.
use Rattle.std.proofs.Common.{◌≡◌, ℕ, sym, subst}
use Rattle.vch_base.specs.Managers.{mapped, preprocessed}
use Rattle.vch_base.specs.declared.key.Key.TheVariants as keys
use Rattle.vch_model.specs.Transfer.{before, after, received_value}
use Rattle.vch_books.specs.Audits.{Audit, IsGood, meant}
use Rattle.vch_books.specs.Numbered.{numbered_option}
use Rattle.vch_books.specs.declared.numbers.Numbers.{Numbers}
use Rattle.vch_judge.specs.declared.formed.Formed.{Formed}
use Rattle.vch_judge.specs.declared.formed.Slot.{Slot}
use Rattle.vch_judge.specs.Formed.{IsFormed, IsSlot, HasNumbers, with_slot}
use Rattle.vch_judge.proofs.FormedVouchers.{formed_with, formed_of}

pub sent_formed : (a : Audit) (sender : ℕ) (v : Numbers) (s : Slot) (f r : Formed) → HasNumbers f v → IsGood a v
    → IsSlot a keys.Bank s (mapped (preprocessed sender) (numbered_option a.history v.bank)) → r ≡ with_slot keys.Bank s f
    → IsFormed a r (before sender (meant a v))
sent_formed a sender v s f r h g slot q = subst (λ r. IsFormed a r (before sender (meant a v))) (sym q)
    (formed_with a keys.Bank s (mapped (preprocessed sender) (numbered_option a.history v.bank)) f (meant a v) slot (formed_of a f v h g))

pub received_formed : (a : Audit) (task : ℕ) (v : Numbers) (s b : Slot) (f m r : Formed) → HasNumbers f v → IsGood a v
    → IsSlot a keys.Importance s (mapped (received_value a.scenario task) (numbered_option a.history v.importance))
    → IsSlot a keys.Bank b (mapped (received_value a.scenario task) (numbered_option a.history v.bank))
    → m ≡ with_slot keys.Importance s f → r ≡ with_slot keys.Bank b m → IsFormed a r (after a.scenario task (meant a v))
received_formed a task v s b f m r h g slot bank q p = subst (λ r. IsFormed a r (after a.scenario task (meant a v))) (sym p)
    (formed_with a keys.Bank b (mapped (received_value a.scenario task) (numbered_option a.history v.bank)) m _ bank
    (subst (λ m. IsFormed a m (record (meant a v) { importance = mapped (received_value a.scenario task) (numbered_option a.history v.importance) })) (sym q)
    (formed_with a keys.Importance s (mapped (received_value a.scenario task) (numbered_option a.history v.importance)) f (meant a v) slot (formed_of a f v h g))))
