-- What is known of an external count or a charge that was accepted.
use Rattle.std.proofs.Common.{◌≡◌, ℕ, suc, ◌+◌, ◌≤◌, Bool, List, [], ◌∷◌, refl, true, false, arith, sym, ap, ◌∙◌, subst, length, Some, None, Option, inl, inr}
use Rattle.std.specs.Prelude.{◌⊎◌, if◌then◌else◌, nat_lt, nat_le}
use Rattle.vch_base.specs.declared.codes.TheConstants.{KERN_INVALID_ARGUMENT, KERN_FAILURE}
use Rattle.vch_base.specs.declared.key.Key.TheVariants as keys
use Rattle.vch_base.specs.declared.limits.TheConstants.{LAST_WORD}
use Rattle.vch_base.specs.declared.value.Value.{Value}
use Rattle.vch_base.specs.declared.value.Value.TheVariants as values
use Rattle.vch_model.specs.declared.call.Call.{Call}
use Rattle.vch_model.specs.declared.call.Call.TheVariants as calls
use Rattle.vch_model.specs.declared.call.Line.{Line}
use Rattle.vch_model.specs.declared.call.Word.{Word}
use Rattle.vch_model.specs.declared.entry.Entry.{Entry}
use Rattle.vch_model.specs.declared.entry.Entry.TheVariants as entries
use Rattle.vch_model.specs.declared.entry.Reply.TheVariants as replies
use Rattle.vch_model.specs.declared.lists.Scenario.{Scenario}
use Rattle.vch_model.specs.Voucher.{Voucher, value_in}
use Rattle.vch_model.specs.Lines.{line_at}
use Rattle.vch_model.specs.After.{store_of}
use Rattle.vch_model.specs.Totals.{is_done, named_voucher, external, last_is, tasks_of}
use Rattle.vch_model.specs.Replies.{refused, counting, extern_of, may_charge, charge_of}
use Rattle.vch_model.specs.Legal.{LegalPast, IsAnswer}
use Rattle.vch_machine.specs.Next.{call_in, nth_call}
use Rattle.vch_legal.proofs.facts.Choices.{number_eq}
use Rattle.vch_legal.proofs.store.StoreLegal.{answered_line}

-- a call that is done is the store's reply, where the call is no exit
done_reply : (sc : Scenario) (past : List Entry) (t n : ℕ) (word : Word) (call : Call) → nth_call sc t n ≡ Some call
    → LegalPast sc (entries.Call t n word replies.Done ∷ past) → IsAnswer sc past (store_of sc past) t call replies.Done
done_reply sc past t n word call there h = of_line (answered_line sc past t n (store_of sc past) word replies.Done h.1.0 h.1.1)
  where
    some_call : {c d : Call} → Some c ≡ Some d → c ≡ d
    some_call g = cc

    of_line : (l : ℕ × Line) × (line_at sc t n ≡ Some l) × IsAnswer sc past (store_of sc past) t l.1.call replies.Done
        → IsAnswer sc past (store_of sc past) t call replies.Done
    of_line (l, g, a) = subst (λ (c : Call). IsAnswer sc past (store_of sc past) t c replies.Done)
        (some_call (sym (ap call_in g) ∙ there)) a

-- the list whose count changes, of two tasks at least, and that the count stays within its bounds
pub record IsExtern (sc : Scenario) (past : List Entry) (t name n : ℕ) (adding : Bool) : Type 0 where
  pub list : List ℕ
  pub there : value_in keys.Importance (named_voucher (store_of sc past) t name) ≡ Some (values.Chain list)
  pub long : 2 ≤ length list
  pub most : adding ≡ true → external sc past (values.Chain list) + n ≤ LAST_WORD
  pub least : adding ≡ false → n ≤ external sc past (values.Chain list)

at_least : (a b : ℕ) → nat_le a b ≡ true → a ≤ b
at_least a b e = grind (arith, e)

more_than : (a b : ℕ) → nat_lt a b ≡ true → suc a ≤ b
more_than a b e = grind (arith, e)

pub extern_done : (sc : Scenario) (past : List Entry) (t n : ℕ) (word : Word) (name k : ℕ) (adding : Bool)
    → nth_call sc t n ≡ Some (calls.Extern name adding k) → LegalPast sc (entries.Call t n word replies.Done ∷ past)
    → IsExtern sc past t name k adding
extern_done sc past t n word name k adding there h =
    elim (done_reply sc past t n word (calls.Extern name adding k) there h) as (λ _. IsExtern sc past t name k adding) [
      | inl own ↦ of_voucher (named_voucher (store_of sc past) t name) refl own.1
      | inr other ↦ elim other as (λ _. IsExtern sc past t name k adding) [
        | inl want ↦ let e : true ≡ false = ap is_done want.0 in cc
        | inr leaving ↦ let e : false ≡ true = leaving.0 in cc
      ]
    ]
  where
    long : (list : List ℕ) (b : Bool) → nat_lt 1 (length list) ≡ b → last_is t (if b then list else []) ≡ true → 2 ≤ length list
    long list true e g = more_than 1 (length list) e
    long list false e g = cc

    unlike : {b : Bool} → b ≡ true → b ≡ false → ⊥
    unlike p q = let e : true ≡ false = sym p ∙ q in cc

    yes_test : (b : Bool) → replies.Done ≡ (if b then replies.Done else refused KERN_FAILURE) → b ≡ true
    yes_test true e = refl
    yes_test false e = let g : true ≡ false = ap is_done e in cc

    of_list : (list : List ℕ) → value_in keys.Importance (named_voucher (store_of sc past) t name) ≡ Some (values.Chain list)
        → 2 ≤ length list → (b : Bool) → adding ≡ b
        → replies.Done ≡ (if b
        then (if nat_le (external sc past (values.Chain list) + k) LAST_WORD then replies.Done else refused KERN_FAILURE)
        else (if nat_le k (external sc past (values.Chain list)) then replies.Done else refused KERN_FAILURE))
        → IsExtern sc past t name k adding
    of_list list e two true add g = record {
      list = list;
      there = e;
      long = two;
      most = λ _. at_least _ _ (yes_test _ g);
      least = λ no_. absurd (unlike add no_);
    }
    of_list list e two false add g = record {
      list = list;
      there = e;
      long = two;
      most = λ yes_. absurd (unlike yes_ add);
      least = λ _. at_least _ _ (yes_test _ g);
    }

    of_last : (list : List ℕ) → value_in keys.Importance (named_voucher (store_of sc past) t name) ≡ Some (values.Chain list)
        → (b : Bool) → last_is t (tasks_of (values.Chain list)) ≡ b
        → replies.Done ≡ (if b then (if adding
        then (if nat_le (external sc past (values.Chain list) + k) LAST_WORD then replies.Done else refused KERN_FAILURE)
        else (if nat_le k (external sc past (values.Chain list)) then replies.Done else refused KERN_FAILURE))
        else refused KERN_INVALID_ARGUMENT)
        → IsExtern sc past t name k adding
    of_last list e true last g = of_list list e (long list (nat_lt 1 (length list)) refl last) adding refl g
    of_last list e false last g = let i : true ≡ false = ap is_done g in cc

    of_value : (x : Option Value) → value_in keys.Importance (named_voucher (store_of sc past) t name) ≡ x
        → replies.Done ≡ counting sc past t adding k x → IsExtern sc past t name k adding
    of_value None e g = let i : true ≡ false = ap is_done g in cc
    of_value (Some (values.Chain list)) e g = of_last list e (last_is t (tasks_of (values.Chain list))) refl g
    of_value (Some (values.User bytes)) e g = let i : true ≡ false = ap is_done g in cc
    of_value (Some values.Default) e g = let i : true ≡ false = ap is_done g in cc
    of_value (Some (values.Task u)) e g = let i : true ≡ false = ap is_done g in cc
    of_value (Some (values.Account a b)) e g = let i : true ≡ false = ap is_done g in cc

    of_voucher : (o : Option Voucher) → named_voucher (store_of sc past) t name ≡ o
        → replies.Done ≡ extern_of sc past t adding k o → IsExtern sc past t name k adding
    of_voucher None e g = let i : true ≡ false = ap is_done g in cc
    of_voucher (Some v) e g = of_value v.importance (ap (value_in keys.Importance) e) g

-- an accepted charge is on the task's own value, or on an account of which it is the merchant
abbrev pub IsCharge : Scenario → List Entry → ℕ → ℕ → Type 0
IsCharge sc past t name =
    (value_in keys.Bank (named_voucher (store_of sc past) t name) ≡ Some (values.Task t))
    ⊎ ((holder : ℕ) × (value_in keys.Bank (named_voucher (store_of sc past) t name) ≡ Some (values.Account holder t)))

pub charge_done : (sc : Scenario) (past : List Entry) (t n : ℕ) (word : Word) (name k : ℕ)
    → nth_call sc t n ≡ Some (calls.Charge name k) → LegalPast sc (entries.Call t n word replies.Done ∷ past)
    → IsCharge sc past t name
charge_done sc past t n word name k there h =
    elim (done_reply sc past t n word (calls.Charge name k) there h) as (λ _. IsCharge sc past t name) [
      | inl own ↦ of_voucher (named_voucher (store_of sc past) t name) refl own.1
      | inr other ↦ elim other as (λ _. IsCharge sc past t name) [
        | inl want ↦ let e : true ≡ false = ap is_done want.0 in cc
        | inr leaving ↦ let e : false ≡ true = leaving.0 in cc
      ]
    ]
  where
    yes_test : (b : Bool) → replies.Done ≡ (if b then replies.Done else refused KERN_INVALID_ARGUMENT) → b ≡ true
    yes_test true e = refl
    yes_test false e = let g : true ≡ false = ap is_done e in cc

    of_value : (x : Option Value) → value_in keys.Bank (named_voucher (store_of sc past) t name) ≡ x
        → may_charge t x ≡ true → IsCharge sc past t name
    of_value (Some (values.Task u)) e g = inl (e ∙ ap (λ v. Some (values.Task v)) (number_eq u t g))
    of_value (Some (values.Account a b)) e g = inr (a, e ∙ ap (λ v. Some (values.Account a v)) (number_eq b t g))
    of_value (Some (values.User bytes)) e g = cc
    of_value (Some (values.Chain list)) e g = cc
    of_value (Some values.Default) e g = cc
    of_value None e g = cc

    of_voucher : (o : Option Voucher) → named_voucher (store_of sc past) t name ≡ o
        → replies.Done ≡ charge_of t o → IsCharge sc past t name
    of_voucher None e g = let i : true ≡ false = ap is_done g in cc
    of_voucher (Some v) e g = of_value v.bank (ap (value_in keys.Bank) e) (yes_test (may_charge t v.bank) g)
