-- No call changes a manager's rules, and the managers answer as their keys do.
use Rattle.std.proofs.Common.{◌≡◌, ℕ, List, Option, Some, None, Result, Ok, Err, ℤ, Bool, true, false, IsSome, length, refl, ap, ◌∙◌}
use Rattle.std.specs.Prelude.{IfSome}
use Rattle.vch_base.specs.declared.flags.Flags.{Flags}
use Rattle.vch_base.specs.declared.fault.Code.{Code}
use Rattle.vch_base.specs.declared.key.Key.{Key}
use Rattle.vch_base.specs.declared.key.Key.TheVariants as keys
use Rattle.vch_base.specs.declared.value.Value.{Value}
use Rattle.vch_base.specs.Keyed.{Keyed, of_key}
use Rattle.vch_base.specs.declared.manager.Got.{Got}
use Rattle.vch_base.specs.declared.manager.Got.TheVariants as got
use Rattle.vch_base.specs.declared.manager.GetFault.{GetFault}
use Rattle.vch_base.specs.declared.manager.GetFault.TheVariants as fault
use Rattle.vch_base.specs.Managers.{Kept, Rules, Gets, after_release, answer, previous_of}
use Rattle.vch_entry.specs.declared.table.Entry.{Entry}
use Rattle.vch_entry.specs.Entries.{Entries, handle_of}
use Rattle.vch_value.specs.declared.flight.Made.{Made}
use Rattle.vch_value.specs.Calls.{Makes, got_of, previous_handle}
use Rattle.vch_importance.specs.Assertions.{Counts, new_importance}
use Rattle.vch_bank.specs.declared.payer.Payer.{Payer}
use Rattle.vch_bank.specs.declared.payer.Payer.TheVariants as payers
use Rattle.vch_bank.specs.Bank.{charged, new_bank}
use Rattle.vch_values.specs.Parts.{KeyParts, AreRuled, rules_at, tasks_at, flags_of, new_user}

the_rules : Kept → Rules
the_rules k = k.rules

gets_rules : (old : Kept) (a : Result (Option Value) ℤ) (r : Result Got GetFault) (new : Kept) → Gets old a r new → new.rules ≡ old.rules
unfolding the_rules
gets_rules old (Err code) (Err (fault.Refused c)) new s = ap the_rules s.1
gets_rules old (Err code) (Err (fault.NoMemory c)) new s = absurd s
gets_rules old (Err code) (Ok g) new s = absurd s
gets_rules old (Ok None) (Ok got.Nothing) new s = ap the_rules s
gets_rules old (Ok None) (Ok (got.Value h fresh persist)) new s = absurd s
gets_rules old (Ok None) (Err e) new s = absurd s
gets_rules old (Ok (Some x)) r new s = ap the_rules s.1

-- a command leaves them
pub makes_rules : (old : Kept) (a : Result (Option Value) ℤ) (r : Result Made GetFault) (new : Kept) → Makes old a r new → new.rules ≡ old.rules
unfolding the_rules
makes_rules old a (Err (fault.NoMemory c)) new s = ap the_rules s
makes_rules old a (Err (fault.Refused c)) new s = gets_rules old a (Err (fault.Refused c)) new s
makes_rules old a (Ok m) new s = gets_rules old a (got_of (Ok m)) new s

pub made_rules : (entries : Entries) (old new : Kept) (t command : ℕ) (previous : Option ℕ) (content : List ℕ) (r : Result Made GetFault)
    → Makes old (answer old.rules t command (previous_of old.slots (previous_handle entries.slots previous)) content) r new → new.rules ≡ old.rules
made_rules entries old new t command previous content r s = makes_rules old (answer old.rules t command (previous_of old.slots (previous_handle entries.slots previous)) content) r new s

release_rules : (k : Kept) (h : ℕ) (b : Bool) → (after_release k h b).rules ≡ k.rules
release_rules k h true = refl
release_rules k h false = refl

-- a question leaves them
pub asked_rules : (o : Option Entry) (old new : Kept) (b : Bool) → IsSome o → IfSome (handle_of o) (λ h. new ≡ after_release old h b) → new.rules ≡ old.rules
unfolding the_rules
asked_rules None old new b there s = absurd (cc)
asked_rules (Some e) old new b there s = ap the_rules s ∙ release_rules old e.handle b

-- a change of an external count leaves them
pub counts_rules : {T : Type 0} (old : Kept) (h : ℕ) (change : Result ℕ ℤ) (r : Result T Code) (new : Kept) → Counts old h change r new → new.rules ≡ old.rules
unfolding the_rules
counts_rules old h (Ok due) (Ok done) new s = ap the_rules s
counts_rules old h (Ok due) (Err c) new s = absurd s
counts_rules old h (Err code) (Ok done) new s = absurd s
counts_rules old h (Err code) (Err c) new s = ap the_rules s.1

-- a charge leaves them
pub charged_rules : (k : Kept) (h t n : ℕ) (p : Payer) → (charged k h t n p).rules ≡ k.rules
charged_rules k h t n payers.Ledger = refl
charged_rules k h t n payers.Due = refl
charged_rules k h t n payers.Nobody = refl

-- a manager with the rules of a key answers as the key does
pub answers_own : (k : Key) (flags : List Flags) (t command : ℕ) (previous : Option Value) (content : List ℕ)
    → answer (rules_at k flags) t command previous content ≡ answer (record { row = k; tasks = tasks_at k flags }) t command previous content
answers_own keys.Importance flags t command previous content = refl
answers_own keys.Bank flags t command previous content = refl
answers_own keys.User flags t command previous content = refl
answers_own keys.Test flags t command previous content = refl

-- the rules of each key where the four managers are ruled
pub rules_of_key : (x : Keyed KeyParts) → AreRuled (record { importance = x.importance.kept.rules; bank = x.bank.kept.rules; user = x.user.kept.rules; test = x.test.kept.rules })
    → (k : Key) → (of_key k x).kept.rules ≡ rules_at k (flags_of x)
rules_of_key x ruled keys.Importance = ruled keys.Importance
rules_of_key x ruled keys.Bank = ruled keys.Bank
rules_of_key x ruled keys.User = ruled keys.User
rules_of_key x ruled keys.Test = ruled keys.Test

-- at the start
pub new_ruled : (flags : List Flags) (i b u t : Kept) → i ≡ new_importance flags → b ≡ new_bank (length flags) → u ≡ new_user → t ≡ new_user
    → AreRuled (record { importance = i.rules; bank = b.rules; user = u.rules; test = t.rules })
new_ruled flags i b u t p q r s keys.Importance = rw p refl
new_ruled flags i b u t p q r s keys.Bank = rw (p, q) refl
new_ruled flags i b u t p q r s keys.User = rw r refl
new_ruled flags i b u t p q r s keys.Test = rw s refl
