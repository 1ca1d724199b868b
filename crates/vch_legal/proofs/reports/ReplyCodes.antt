-- The codes of a create: each is one that a report may have.
use Rattle.std.proofs.Common.{ℕ, zero, suc, ◌==◌, nat_lt, ◌&&◌, Bool, true, false, not, List, length, refl, Option, Some, None, Result, Ok, Err, inl, inr}
use Rattle.std.specs.Prelude.{ℤ, if◌then◌else◌}
use Rattle.vch_base.specs.declared.key.Key.{Key}
use Rattle.vch_base.specs.declared.key.Key.TheVariants as keys
use Rattle.vch_base.specs.declared.key.TheConstants.{ALL_KEYS}
use Rattle.vch_base.specs.declared.commands.TheConstants as commands
use Rattle.vch_base.specs.declared.limits.TheConstants.{ARRAY_BYTES}
use Rattle.vch_base.specs.declared.codes.TheConstants.{KERN_INVALID_ARGUMENT, KERN_FAILURE, KERN_RESOURCE_SHORTAGE, KERN_NO_ACCESS, KERN_INVALID_NAME, KERN_INVALID_CAPABILITY, MIG_ARRAY_TOO_LARGE, MACH_SEND_INVALID_DEST, MACH_SEND_TIMED_OUT, MACH_SEND_INVALID_VOUCHER, MACH_RCV_TIMED_OUT}
use Rattle.vch_base.specs.declared.value.Value.{Value}
use Rattle.vch_base.specs.declared.flags.Flags.{Flags}
use Rattle.vch_base.specs.Keys.{key_of}
use Rattle.vch_base.specs.Managers.{own_answer, bare, stored}
use Rattle.vch_recipe.specs.Recipes.{First, One, End, HeaderCut, ContentCut, first_of}
use Rattle.vch_recipe.specs.declared.recipe.Recipe.{Recipe}
use Rattle.vch_model.specs.Voucher.{Voucher, nothing}
use Rattle.vch_model.specs.Eval.{answer_to, put_answer, previous_value, ask_at, at_key, changes, copied, takes, loses, is_core_command, is_plain_command, carried, with_previous, eval, eval_all, made_of, create}
use Rattle.vch_model.specs.WellFormed.{IsRefusal}

-- a result whose code a report may have
abbrev pub Coded : {A : Type 0} → Result A ℤ → Type 0
Coded (Ok x) = Unit {0}
Coded (Err code) = IsRefusal code

either : {A : Type 0} (b : Bool) (x y : Result A ℤ) → Coded x → Coded y → Coded (if b then x else y)
either true x y p q = p
either false x y p q = q

pub invalid_argument : IsRefusal KERN_INVALID_ARGUMENT
invalid_argument = inl refl

pub failure : IsRefusal KERN_FAILURE
failure = inr (inl refl)

pub out_of_memory : IsRefusal KERN_RESOURCE_SHORTAGE
out_of_memory = inr (inr (inl refl))

no_access : IsRefusal KERN_NO_ACCESS
no_access = inr (inr (inr (inl refl)))

pub invalid_name : IsRefusal KERN_INVALID_NAME
invalid_name = inr (inr (inr (inr (inl refl))))

pub invalid_capability : IsRefusal KERN_INVALID_CAPABILITY
invalid_capability = inr (inr (inr (inr (inr (inl refl)))))

too_large : IsRefusal MIG_ARRAY_TOO_LARGE
too_large = inr (inr (inr (inr (inr (inr (inl refl))))))

pub invalid_dest : IsRefusal MACH_SEND_INVALID_DEST
invalid_dest = inr (inr (inr (inr (inr (inr (inr (inl refl)))))))

pub queue_full : IsRefusal MACH_SEND_TIMED_OUT
queue_full = inr (inr (inr (inr (inr (inr (inr (inr (inl refl))))))))

pub invalid_voucher : IsRefusal MACH_SEND_INVALID_VOUCHER
invalid_voucher = inr (inr (inr (inr (inr (inr (inr (inr (inr (inl refl)))))))))

pub queue_empty : IsRefusal MACH_RCV_TIMED_OUT
queue_empty = inr (inr (inr (inr (inr (inr (inr (inr (inr (inr (inl refl))))))))))

bare_coded : (content : List ℕ) (x : Option Value) → Coded (bare content x)
bare_coded content x = either (length content == 0) _ _ tt invalid_argument

stored_coded : (command : ℕ) (content : List ℕ) → Coded (stored command content)
stored_coded command content = either (command == commands.USER_DATA_STORE) _ _ tt invalid_argument

own_coded : (key : Key) (tasks : Option (List Flags)) (by command : ℕ) (previous : Option Value) (content : List ℕ)
    → Coded (own_answer key tasks by command previous content)
own_coded keys.User tasks by command previous content = stored_coded command content
own_coded keys.Test tasks by command previous content = stored_coded command content
own_coded keys.Importance tasks by command previous content =
    either (command == commands.IMPORTANCE_SELF) _ _ (bare_coded content _)
    (either (command == commands.AUTO_REDEEM) _ _ (bare_coded content _) invalid_argument)
own_coded keys.Bank tasks by command previous content =
    either (command == commands.BANK_CREATE) _ _ (bare_coded content _)
    (either (command == commands.AUTO_REDEEM) _ _ (bare_coded content _)
    (either (command == commands.SEND_PREPROCESS) _ _ (bare_coded content _) invalid_argument))

answer_coded : (key : Key) (by command : ℕ) (previous : Option Value) (content : List ℕ)
    → Coded (answer_to key by command previous content)
answer_coded key by command previous content =
    either (command == commands.REDEEM) _ _ (bare_coded content previous) (own_coded key None by command previous content)

put_coded : (key : Key) (map : Voucher) (x : Result (Option Value) ℤ) → Coded x → Coded (put_answer key map x)
put_coded key map (Ok x) p = tt
put_coded key map (Err code) p = p

asked_coded : (k : Option Key) (task : ℕ) (r : Recipe) (previous : Option Voucher) (map : Voucher)
    → Coded (ask_at k task r previous map)
asked_coded None task r previous map = invalid_argument
asked_coded (Some key) task r previous map =
    put_coded key map (answer_to key task r.command (previous_value key previous map) r.content)
    (answer_coded key task r.command (previous_value key previous map) r.content)

at_coded : (f : Key → Voucher → Voucher) (k : Option Key) (map : Voucher) → Coded (at_key f k map)
at_coded f None map = invalid_argument
at_coded f (Some key) map = tt

changes_coded : (version : ℕ) (f : Key → Voucher → Voucher) (key : ℕ) (map : Voucher) → Coded (changes version f key map)
changes_coded version f key map = either (key == ALL_KEYS) _ _ tt (at_coded f (key_of version key) map)

copied_coded : (version : ℕ) (previous : Option Voucher) (key : ℕ) (map : Voucher) → Coded (copied version previous key map)
copied_coded version None key map = tt
copied_coded version (Some v) key map = changes_coded version (λ k. takes k (Some v)) key map

carried_coded : (version task : ℕ) (r : Recipe) (previous : Option Voucher) (map : Voucher)
    → Coded (carried version task r previous map)
carried_coded version task r previous map =
    either (is_core_command r.command) _ _ no_access
    (either (is_plain_command r.command) _ _
    (either (not (length r.content == 0)) _ _ invalid_argument
    (either (r.command == commands.NOOP) _ _ tt
    (either (r.command == commands.COPY) _ _ (copied_coded version previous r.key map)
    (changes_coded version (λ key. loses key previous) r.key map))))
    (either (r.key == ALL_KEYS) _ _
    (either ((r.command == commands.REDEEM) && (length r.content == 0)) _ _ tt invalid_argument)
    (asked_coded (key_of version r.key) task r previous map)))

named_coded : (version task : ℕ) (r : Recipe) (previous : Option Voucher) (map : Voucher)
    → Coded (with_previous version task r previous map)
named_coded version task r None map = invalid_capability
named_coded version task r (Some v) map = carried_coded version task r (Some v) map

eval_coded : (version : ℕ) (names : ℕ → Option Voucher) (task : ℕ) (r : Recipe) (map : Voucher)
    → Coded (eval version names task r map)
eval_coded version names task r map =
    either (r.previous == 0) _ _ (carried_coded version task r None map) (named_coded version task r (names r.previous) map)

all_coded : (version bound : ℕ) (names : ℕ → Option Voucher) (task : ℕ) (map : Voucher) (bytes : List ℕ)
    → Coded (eval_all version bound names task map bytes)
unfolding eval_all
all_coded version zero names task map bytes = invalid_argument
all_coded version (suc bound) names task map bytes = by_first (λ next rest. all_coded version bound names task next rest) (first_of bytes)
  where
    by_next : (rest : List ℕ) → ((next : Voucher) → Coded (eval_all version bound names task next rest)) → (x : Result Voucher ℤ)
        → Coded x → Coded (elim x [ Ok next ↦ eval_all version bound names task next rest | Err code ↦ Err code ])
    by_next rest f (Ok next) p = f next
    by_next rest f (Err code) p = p

    by_first : ((next : Voucher) (rest : List ℕ) → Coded (eval_all version bound names task next rest)) → (first : First)
        → Coded (elim first [
          | One r rest ↦ elim (eval version names task r map) [ Ok next ↦ eval_all version bound names task next rest | Err code ↦ Err code ]
          | End ↦ Ok map
          | HeaderCut left ↦ Err KERN_INVALID_ARGUMENT
          | ContentCut wanted left ↦ Err KERN_INVALID_ARGUMENT
        ])
    by_first f (One r rest) = by_next rest (λ next. f next rest) (eval version names task r map) (eval_coded version names task r map)
    by_first f First.End = tt
    by_first f (First.HeaderCut left) = invalid_argument
    by_first f (First.ContentCut wanted left) = invalid_argument

made_coded : (x : Result Voucher ℤ) → Coded x → Coded (made_of x)
made_coded (Ok map) p = tt
made_coded (Err code) p = p

pub create_coded : (version : ℕ) (names : ℕ → Option Voucher) (task : ℕ) (bytes : List ℕ)
    → Coded (create version names task bytes)
unfolding create
create_coded version names task bytes =
    either (nat_lt ARRAY_BYTES (length bytes)) _ _ too_large
    (either (length bytes == 0) _ _ tt
    (made_coded (eval_all version (length bytes) names task nothing bytes) (all_coded version (length bytes) names task nothing bytes)))
