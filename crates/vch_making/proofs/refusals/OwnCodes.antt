-- A manager refuses with one code, which is not that of being out of memory.
use Rattle.std.proofs.Common.{◌≡◌, ℕ, ◌==◌, Bool, true, false, List, length, refl, sym, ◌∙◌, subst, Option}
use Rattle.std.specs.Prelude.{if◌then◌else◌, Result, Err, ℤ, IfErr}
use Rattle.vch_base.specs.declared.codes.TheConstants.{KERN_INVALID_ARGUMENT, KERN_RESOURCE_SHORTAGE}
use Rattle.vch_base.specs.declared.commands.TheConstants as commands
use Rattle.vch_base.specs.declared.fault.Code.{Code}
use Rattle.vch_base.specs.declared.flags.Flags.{Flags}
use Rattle.vch_base.specs.declared.key.Key.{Key}
use Rattle.vch_base.specs.declared.key.Key.TheVariants as keys
use Rattle.vch_base.specs.declared.value.Value.{Value}
use Rattle.vch_base.specs.Keyed.{of_key}
use Rattle.vch_base.specs.Managers as managers
use Rattle.vch_base.specs.Managers.{Rules, answer, bare, own_answer}
use Rattle.vch_value.specs.Calls.{previous_handle}
use Rattle.vch_parts.specs.declared.parts.Parts.{Parts}
use Rattle.vch_making.specs.declared.question.Question.{Question}
use Rattle.vch_making.specs.Refused.{IsOther}
use Rattle.vch_making.specs.Answers.{reply_to, content_of}

-- what holds of each error of two results holds of the chosen one's
if_err : {X E : Type 0} (P : E → Type 0) (b : Bool) (x y : Result X E) → IfErr x P → IfErr y P → IfErr (if b then x else y) P
if_err P true x y f g = f
if_err P false x y f g = g

abbrev IsInvalid : ℤ → Type 0
IsInvalid n = n ≡ KERN_INVALID_ARGUMENT

bare_code : (content : List ℕ) (x : Option Value) → IfErr (bare content x) IsInvalid
bare_code content x = if_err IsInvalid (length content == 0) _ _ tt refl

own_code : (k : Key) (tasks : Option (List Flags)) (by command : ℕ) (previous : Option Value) (content : List ℕ) → IfErr (own_answer k tasks by command previous content) IsInvalid
own_code keys.User tasks by command previous content = if_err IsInvalid (command == commands.USER_DATA_STORE) _ _ tt refl
own_code keys.Test tasks by command previous content = if_err IsInvalid (command == commands.USER_DATA_STORE) _ _ tt refl
own_code keys.Importance tasks by command previous content =
    if_err IsInvalid (command == commands.IMPORTANCE_SELF) _ _ (bare_code content _) (if_err IsInvalid (command == commands.AUTO_REDEEM) _ _ (bare_code content _) refl)
own_code keys.Bank tasks by command previous content =
    if_err IsInvalid (command == commands.BANK_CREATE) _ _ (bare_code content _) (if_err IsInvalid (command == commands.AUTO_REDEEM) _ _ (bare_code content _)
    (if_err IsInvalid (command == commands.SEND_PREPROCESS) _ _ (bare_code content _) refl))

answer_code : (rules : Rules) (by command : ℕ) (previous : Option Value) (content : List ℕ) → IfErr (answer rules by command previous content) IsInvalid
answer_code rules by command previous content = if_err IsInvalid (command == commands.REDEEM) _ _ (bare_code content previous) (own_code rules.row rules.tasks by command previous content)

pub other_code : (p : Parts) (t : ℕ) (q : Question) (c : Code) → reply_to p t q ≡ Err c.number → IsOther c
other_code p t q c e z =
    let a : c.number ≡ KERN_INVALID_ARGUMENT = subst (λ (r : Result (Option Value) ℤ). IfErr r IsInvalid) e
    (answer_code (of_key q.key p.values).kept.rules t q.command (managers.previous_of (of_key q.key p.values).kept.slots (previous_handle (of_key q.key p.values).entries.slots q.previous)) (content_of p t)) in
    let b : KERN_INVALID_ARGUMENT ≡ KERN_RESOURCE_SHORTAGE = sym a ∙ z in
    cc
