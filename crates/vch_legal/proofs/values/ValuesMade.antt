-- What a manager makes belongs to its key, and names only tasks of the scenario.
use Rattle.std.proofs.Common.{◌≡◌, ℕ, ◌+◌, ◌-◌, ◌≤◌, Bool, List, [], ◌∷◌, ◌++◌, refl, true, false, not, ◌&&◌, arith, subst, length, length-append, drop, Some, None, Option, Ok, Err, Result}
use Rattle.std.specs.Prelude.{if◌then◌else◌, ◌==◌, nat_lt, ℤ, slice_index}
use Rattle.std.specs.List.{list_all}
use Rattle.vch_base.specs.declared.key.Key.{Key}
use Rattle.vch_base.specs.declared.key.Key.TheVariants as keys
use Rattle.vch_base.specs.Keys.{key_of}
use Rattle.vch_base.specs.Keyed.{of_key}
use Rattle.vch_base.specs.Values.{Belongs}
use Rattle.vch_base.specs.declared.commands.TheConstants as commands
use Rattle.vch_base.specs.declared.key.TheConstants.{ALL_KEYS}
use Rattle.vch_base.specs.declared.limits.TheConstants.{CHAIN_TASKS}
use Rattle.vch_base.specs.declared.value.Value.{Value}
use Rattle.vch_base.specs.declared.value.Value.TheVariants as values
use Rattle.vch_base.specs.declared.flags.Flags.{Flags}
use Rattle.vch_base.specs.Managers.{preprocessed, received, mapped, bare, stored, own_answer, flags_in}
use Rattle.vch_recipe.specs.Recipes.{First, One, first_of}
use Rattle.vch_recipe.specs.declared.recipe.Recipe.{Recipe}
use Rattle.vch_model.specs.declared.call.Call.{Call}
use Rattle.vch_model.specs.declared.call.Call.TheVariants as calls
use Rattle.vch_model.specs.declared.lists.Scenario.{Scenario}
use Rattle.vch_model.specs.Eval.{answer_to}
use Rattle.vch_model.specs.Lines.{is_task}
use Rattle.vch_model.specs.Transfer.{received_value, flags_of}
use Rattle.vch_machine.specs.State.{Handles, Place, Frame, Machine, Living, Named, living_at, value_at, value_of, tasked}
use Rattle.vch_machine.specs.Making.{asked_by, asked_first, asked_record, asked_transfer, Asked, keys_left, head_key, previous_of}
use Rattle.vch_legal.specs.Facts.{ValueFits, ValuesFit}
use Rattle.vch_legal.proofs.facts.Choices.{and_left, and_right}

-- what a manager gives, where it gives a value
abbrev pub OptionGood : Scenario → Key → Option Value → Type 0
OptionGood sc k None = Unit {0}
OptionGood sc k (Some x) = ValueFits sc k x

abbrev pub AnswerGood : Scenario → Key → Result (Option Value) ℤ → Type 0
AnswerGood sc k (Ok x) = OptionGood sc k x
AnswerGood sc k (Err code) = Unit {0}

both : (a b : Bool) → a ≡ true → b ≡ true → (a && b) ≡ true
both a b x y = grind arith

sent_good : (sc : Scenario) (k : Key) (s : ℕ) (x : Value) → is_task sc s ≡ true → ValueFits sc k x
    → ValueFits sc k (preprocessed s x)
sent_good sc k s (values.User bytes) task h = h
sent_good sc k s (values.Chain list) task h = h
sent_good sc k s (values.Task t) task h = h
sent_good sc keys.Bank s values.Default task h = record { belongs = tt; tasks = both _ _ task refl }
sent_good sc keys.Importance s values.Default task h = absurd h.belongs
sent_good sc keys.User s values.Default task h = absurd h.belongs
sent_good sc keys.Test s values.Default task h = absurd h.belongs
sent_good sc keys.Bank s (values.Account holder merchant) task h =
    record { belongs = tt; tasks = both _ _ (and_left (is_task sc holder) _ h.tasks) refl }
sent_good sc keys.Importance s (values.Account holder merchant) task h = absurd h.belongs
sent_good sc keys.User s (values.Account holder merchant) task h = absurd h.belongs
sent_good sc keys.Test s (values.Account holder merchant) task h = absurd h.belongs

if_good : (sc : Scenario) (k : Key) (b : Bool) (x y : Value) → ValueFits sc k x → ValueFits sc k y
    → ValueFits sc k (if b then x else y)
if_good sc k true x y h g = h
if_good sc k false x y h g = g

all_more : (sc : Scenario) (list : List ℕ) (r : ℕ) → list_all (is_task sc) list ≡ true → is_task sc r ≡ true
    → list_all (is_task sc) (list ++ r ∷ []) ≡ true
all_more sc [] r h task = both _ _ task refl
all_more sc (x ∷ list) r h task = both (is_task sc x) _ (and_left (is_task sc x) _ h)
    (all_more sc list r (and_right (is_task sc x) _ h) task)

more_chain : (sc : Scenario) (list : List ℕ) (r : ℕ) (b c : Bool) → is_task sc r ≡ true
    → ValueFits sc keys.Importance (values.Chain list)
    → ValueFits sc keys.Importance (if b && (nat_lt (length list) CHAIN_TASKS && c) then values.Chain
    (list ++ r ∷ []) else values.Chain list)
more_chain sc list r false c task h = h
more_chain sc list r true c task h = by_length (nat_lt (length list) CHAIN_TASKS) c refl
  where
    longer : (n limit : ℕ) → nat_lt n limit ≡ true → n + 1 ≤ limit
    longer n limit e = grind arith

    by_length : (a c : Bool) → nat_lt (length list) CHAIN_TASKS ≡ a → ValueFits sc keys.Importance
        (if a && c then values.Chain (list ++ r ∷ []) else values.Chain list)
    by_length true true e = record {
      belongs = rw (length-append list (r ∷ [])) (one_at_least (length list), longer (length list) CHAIN_TASKS e);
      tasks = all_more sc list r h.tasks task;
    }
      where
        one_at_least : (n : ℕ) → 1 ≤ n + 1
        one_at_least n = omega arith
    by_length true false e = h
    by_length false c e = h

received_good : (sc : Scenario) (k : Key) (b : Bool) (r : ℕ) (x : Value) → is_task sc r ≡ true → ValueFits sc k x
    → ValueFits sc k (received b r x)
received_good sc k b r (values.User bytes) task h = h
received_good sc keys.Importance b r (values.Chain list) task h =
    more_chain sc list r b (not (slice_index list (length list - 1) == r)) task h
received_good sc keys.Bank b r (values.Chain list) task h = absurd h.belongs
received_good sc keys.User b r (values.Chain list) task h = absurd h.belongs
received_good sc keys.Test b r (values.Chain list) task h = absurd h.belongs
received_good sc k b r values.Default task h = h
received_good sc keys.Bank b r (values.Task holder) task h =
    if_good sc keys.Bank (holder == r) (values.Task holder) (values.Account holder r) h
    (record { belongs = tt; tasks = both _ _ (and_left (is_task sc holder) true h.tasks) (both _ _ task refl) })
received_good sc keys.Importance b r (values.Task holder) task h = absurd h.belongs
received_good sc keys.User b r (values.Task holder) task h = absurd h.belongs
received_good sc keys.Test b r (values.Task holder) task h = absurd h.belongs
received_good sc k b r (values.Account holder merchant) task h = h

mapped_good : (sc : Scenario) (k : Key) (g : Value → Value) (x : Option Value)
    → ((y : Value) → ValueFits sc k y → ValueFits sc k (g y)) → OptionGood sc k x → OptionGood sc k (mapped g x)
mapped_good sc k g None f h = tt
mapped_good sc k g (Some x) f h = f x h

answer_if : (sc : Scenario) (k : Key) (b : Bool) (x y : Result (Option Value) ℤ) → AnswerGood sc k x
    → AnswerGood sc k y → AnswerGood sc k (if b then x else y)
answer_if sc k true x y h g = h
answer_if sc k false x y h g = g

bare_good : (sc : Scenario) (k : Key) (content : List ℕ) (x : Option Value) → OptionGood sc k x
    → AnswerGood sc k (bare content x)
bare_good sc k content x h = answer_if sc k (length content == 0) (Ok x) _ h tt

stored_good : (sc : Scenario) (k : Key) (command : ℕ) (content : List ℕ) → Belongs k (values.User content)
    → AnswerGood sc k (stored command content)
stored_good sc k command content h =
    answer_if sc k (command == commands.USER_DATA_STORE) _ _ (record { belongs = h; tasks = refl }) tt

own_good : (sc : Scenario) (k : Key) (tasks : Option (List Flags)) (by command : ℕ) (previous : Option Value)
    (content : List ℕ) → is_task sc by ≡ true → OptionGood sc k previous
    → AnswerGood sc k (own_answer k tasks by command previous content)
own_good sc keys.User tasks by command previous content task h = stored_good sc keys.User command content tt
own_good sc keys.Test tasks by command previous content task h = stored_good sc keys.Test command content tt
own_good sc keys.Importance tasks by command previous content task h =
    answer_if sc keys.Importance (command == commands.IMPORTANCE_SELF) _ _ (bare_good sc keys.Importance content
    (Some (values.Chain (by ∷ []))) (record { belongs = one_task; tasks = both _ _ task refl }))
    (answer_if sc keys.Importance (command == commands.AUTO_REDEEM) _ _
    (bare_good sc keys.Importance content _ (mapped_good sc keys.Importance
    (received (flags_in tasks by).receiver by) previous (λ y g. received_good sc keys.Importance
    (flags_in tasks by).receiver by y task g) h)) tt)
  where
    one_task : (1 ≤ 1) × (1 ≤ CHAIN_TASKS)
    one_task = (omega arith, omega arith)
own_good sc keys.Bank tasks by command previous content task h =
    answer_if sc keys.Bank (command == commands.BANK_CREATE) _ _ (bare_good sc keys.Bank content (Some values.Default)
    (record { belongs = tt; tasks = refl }))
    (answer_if sc keys.Bank (command == commands.AUTO_REDEEM) _ _
    (bare_good sc keys.Bank content _ (mapped_good sc keys.Bank (received (flags_in tasks by).receiver by) previous
    (λ y g. received_good sc keys.Bank (flags_in tasks by).receiver by y task g) h))
    (answer_if sc keys.Bank (command == commands.SEND_PREPROCESS) _ _
    (bare_good sc keys.Bank content _ (mapped_good sc keys.Bank (preprocessed by) previous
    (λ y g. sent_good sc keys.Bank by y task g) h)) tt))

pub answer_good : (sc : Scenario) (k : Key) (t command : ℕ) (previous : Option Value) (content : List ℕ)
    → is_task sc t ≡ true → OptionGood sc k previous
    → AnswerGood sc k (answer_to k t command previous content)
answer_good sc k t command previous content task h = answer_if sc k (command == commands.REDEEM) _ _
    (bare_good sc k content previous h) (own_good sc k None t command previous content task h)

-- a value that is found live
living_good : (sc : Scenario) (live : List Living) (p : Place) (a : Option Living) → ValuesFit sc live
    → living_at live p ≡ a → OptionGood sc p.key (value_of a)
living_good sc live p None fits e = tt
living_good sc live p (Some a) fits e = fits p a e

pub found_good : (sc : Scenario) (live : List Living) (k : Key) (h : Option ℕ) → ValuesFit sc live
    → OptionGood sc k (value_at live k h)
found_good sc live k None fits = tt
found_good sc live k (Some h) fits = living_good sc live (record { key = k; handle = h })
    (living_at live (record { key = k; handle = h })) fits refl

-- what is asked
abbrev pub AskedGood : Scenario → Option Asked → Type 0
AskedGood sc None = Unit {0}
AskedGood sc (Some a) = AnswerGood sc a.key a.reply

record_good : (sc : Scenario) (live : List Living) (names : List Named) (t : ℕ) (map : Handles) (r : Recipe)
    (k : Option Key) → is_task sc t ≡ true → ValuesFit sc live → AskedGood sc (asked_record live names t map r k)
record_good sc live names t map r None task fits = tt
record_good sc live names t map r (Some k) task fits = answer_good sc k t r.command _ r.content task
    (found_good sc live k (of_key k (previous_of names map r.previous)) fits)

first_good : (version : ℕ) (sc : Scenario) (live : List Living) (names : List Named) (t : ℕ) (ks : List Key)
    (map : Handles) (first : First) → is_task sc t ≡ true → ValuesFit sc live
    → AskedGood sc (asked_first version live names t ks map first)
first_good version sc live names t ks map (One r rest) task fits = record_good sc live names t map r
    (if r.key == ALL_KEYS then head_key (keys_left version ks) else key_of version r.key) task fits
first_good version sc live names t ks map First.End task fits = tt
first_good version sc live names t ks map (First.HeaderCut left) task fits = tt
first_good version sc live names t ks map (First.ContentCut wanted left) task fits = tt

transfer_good : (sc : Scenario) (live : List Living) (g : Value → Value) (ks : List Key) (map : Handles)
    → ((k : Key) (y : Value) → ValueFits sc k y → ValueFits sc k (g y)) → ValuesFit sc live
    → AskedGood sc (asked_transfer live g ks map)
transfer_good sc live g [] map f fits = tt
transfer_good sc live g (k ∷ ks) map f fits = mapped_good sc k g (value_at live k (of_key k map)) (f k)
    (found_good sc live k (of_key k map) fits)

by_good : (sc : Scenario) (m : Machine) (t : ℕ) (f : Frame) (v : Handles) (call : Call) → is_task sc t ≡ true
    → ValuesFit sc m.live → AskedGood sc (asked_by sc m t f v call)
by_good sc m t f v (calls.Create bytes) task fits = first_good sc.version sc m.live (tasked m t).names t f.keys v
    (first_of (drop f.at_byte bytes)) task fits
by_good sc m t f v (calls.Send to moving name id) task fits =
    transfer_good sc m.live (preprocessed t) f.keys v (λ k y h. sent_good sc k t y task h) fits
by_good sc m t f v calls.Recv task fits = transfer_good sc m.live (received_value sc t) f.keys v
    (λ k y h. received_good sc k (flags_of sc t).receiver t y task h) fits
by_good sc m t f v (calls.GiveUp name) task fits = tt
by_good sc m t f v (calls.Extract name key) task fits = tt
by_good sc m t f v (calls.Recipes name) task fits = tt
by_good sc m t f v (calls.Extern name adding n) task fits = tt
by_good sc m t f v (calls.Charge name n) task fits = tt
by_good sc m t f v calls.Ledger task fits = tt
by_good sc m t f v calls.Assertions task fits = tt
by_good sc m t f v calls.Live task fits = tt
by_good sc m t f v calls.Exit task fits = tt

-- the value that a Make asks for belongs to its key, and names tasks of the scenario
pub asked_value : (sc : Scenario) (m : Machine) (t : ℕ) (f : Frame) (v : Handles) (call : Call) (k : Key) (x : Value)
    → is_task sc t ≡ true → ValuesFit sc m.live
    → asked_by sc m t f v call ≡ Some (record { key = k; reply = Ok (Some x) }) → ValueFits sc k x
asked_value sc m t f v call k x task fits e = subst (λ a. AskedGood sc a) e (by_good sc m t f v call task fits)
