-- How the sums follow a history.
use Rattle.std.specs.Prelude.{◌≡◌, ◌⊎◌, ℕ, false, List, ◌∷◌, Some}
use Rattle.vch_base.specs.Values.{is_default}
use Rattle.vch_base.specs.declared.key.Key.{Key}
use Rattle.vch_base.specs.declared.value.Value.{Value}
use Rattle.vch_model.specs.declared.call.Call.{Call}
use Rattle.vch_model.specs.declared.call.Word.{Word}
use Rattle.vch_model.specs.declared.entry.Entry.{Entry}
use Rattle.vch_model.specs.declared.lists.Scenario.{Scenario}
use Rattle.vch_model.specs.Voucher.{value_in}
use Rattle.vch_model.specs.After.{store_of}
use Rattle.vch_model.specs.Totals.{named_voucher, with_made}
use Rattle.vch_machine.specs.Next.{nth_call}
use Rattle.vch_machine.specs.State.{Machine, seen}
use Rattle.vch_legal.specs.Tie.{Ties}
use Rattle.vch_sums.specs.Summed.{Summed, IsSummed, accepted}

-- the history is as it was, or has one entry more
abbrev pub Continues : List Entry → List Entry → Type 0
Continues past new = (new ≡ past) ⊎ ((entry : Entry) × (new ≡ entry ∷ past))

-- the number is that of the Made entry of the value at a key of a task's name, where it has one that is not Default
abbrev pub IsNumberOf : Machine → ℕ → ℕ → Key → ℕ → Type 0
IsNumberOf m t name key number =
    (sc : Scenario) (x : Value) → Ties sc m → value_in key (named_voucher (seen m) t name) ≡ Some x → is_default x ≡ false
    → with_made (store_of sc m.past).live number ≡ Some x

-- the sums follow the entry that the history has last
abbrev pub FollowsLast : Scenario → Machine → Entry → Summed → Summed → Type 0
FollowsLast sc m entry old new =
    (past : List Entry) → m.past ≡ entry ∷ past → Ties sc m → IsSummed sc past old → IsSummed sc m.past new

-- where it is a call that was accepted
abbrev pub FollowsCall : Machine → ℕ → Call → Summed → Summed → Type 0
FollowsCall m t call old new =
    (sc : Scenario) (n : ℕ) (word : Word) → nth_call sc t n ≡ Some call → FollowsLast sc m (accepted t n word) old new
