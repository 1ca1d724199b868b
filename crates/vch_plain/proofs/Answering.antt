-- Calls that only ask, count or charge are answered as they begin.
use Rattle.std.proofs.Common.{◌≡◌, ℕ, List, Bool, true, false, refl}
use Rattle.vch_model.specs.declared.call.Call.{Call}
use Rattle.vch_model.specs.declared.call.Call.TheVariants as calls
use Rattle.vch_model.specs.declared.entry.Reply.{Reply}
use Rattle.vch_model.specs.declared.lists.Scenario.{Scenario}
use Rattle.vch_machine.specs.Beginning.{begin_call}
use Rattle.vch_machine.specs.Frames.{replied}
use Rattle.vch_machine.specs.State.{Machine}
use Rattle.vch_plain.specs.Begun.{IsOther}
use Rattle.vch_plain.specs.Replied.{is_replied}

pub others_replied : (m : Machine) (t : ℕ) (call : Call) → IsOther call → is_replied m t call ≡ true
others_replied m t (calls.Create bytes) o = absurd o
others_replied m t (calls.GiveUp name) o = absurd o
others_replied m t (calls.Extract name key) o = refl
others_replied m t (calls.Recipes name) o = refl
others_replied m t (calls.Send to moving name id) o = absurd o
others_replied m t calls.Recv o = absurd o
others_replied m t (calls.Extern name adding n) o = refl
others_replied m t (calls.Charge name n) o = refl
others_replied m t calls.Ledger o = refl
others_replied m t calls.Assertions o = refl
others_replied m t calls.Live o = refl
others_replied m t calls.Exit o = absurd o

pub others_begin : (sc : Scenario) (m : Machine) (t : ℕ) (call : Call) (reply : Reply) → IsOther call → replied m t call reply ≡ begin_call sc false m t call reply
others_begin sc m t (calls.Create bytes) reply o = absurd o
others_begin sc m t (calls.GiveUp name) reply o = absurd o
others_begin sc m t (calls.Extract name key) reply o = refl
others_begin sc m t (calls.Recipes name) reply o = refl
others_begin sc m t (calls.Send to moving name id) reply o = absurd o
others_begin sc m t calls.Recv reply o = absurd o
others_begin sc m t (calls.Extern name adding n) reply o = refl
others_begin sc m t (calls.Charge name n) reply o = refl
others_begin sc m t calls.Ledger reply o = refl
others_begin sc m t calls.Assertions reply o = refl
others_begin sc m t calls.Live reply o = refl
others_begin sc m t calls.Exit reply o = absurd o

pub is_other : (call : Call) → ((bytes : List ℕ) → call ≡ calls.Create bytes → ⊥) → ((name : ℕ) → call ≡ calls.GiveUp name → ⊥) → ((to : ℕ) (moving : Bool) (name id : ℕ) → call ≡ calls.Send to moving name id → ⊥)
    → (call ≡ calls.Recv → ⊥) → (call ≡ calls.Exit → ⊥) → IsOther call
is_other (calls.Create bytes) a b c d e = a bytes refl
is_other (calls.GiveUp name) a b c d e = b name refl
is_other (calls.Extract name key) a b c d e = tt
is_other (calls.Recipes name) a b c d e = tt
is_other (calls.Send to moving name id) a b c d e = c to moving name id refl
is_other calls.Recv a b c d e = d refl
is_other (calls.Extern name adding n) a b c d e = tt
is_other (calls.Charge name n) a b c d e = tt
is_other calls.Ledger a b c d e = tt
is_other calls.Assertions a b c d e = tt
is_other calls.Live a b c d e = tt
is_other calls.Exit a b c d e = e refl
