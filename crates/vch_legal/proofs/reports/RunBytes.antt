-- What the runs of a scenario with a text make: user data of bytes alone, and no more entries than moves.
use Rattle.std.proofs.Common.{◌≡◌, ℕ, zero, suc, Bool, true, false, List, [], ◌∷◌, ◌++◌, refl, arith, sym, subst, length, take, drop, Some, None, Option, Ok, Err, Result}
use Rattle.std.specs.Prelude.{◌==◌, if◌then◌else◌, nat_lt, ℤ}
use Rattle.std.specs.List.{AllByRecursion}
use Rattle.hex.specs.Hex.{IsBytes}
use Rattle.vch_base.specs.declared.commands.TheConstants as commands
use Rattle.vch_base.specs.declared.flags.Flags.{Flags}
use Rattle.vch_base.specs.declared.key.Key.{Key}
use Rattle.vch_base.specs.declared.key.Key.TheVariants as keys
use Rattle.vch_base.specs.declared.key.TheConstants.{ALL_KEYS}
use Rattle.vch_base.specs.Keyed.{of_key}
use Rattle.vch_base.specs.Keys.{key_of}
use Rattle.vch_base.specs.declared.value.Value.{Value}
use Rattle.vch_base.specs.declared.value.Value.TheVariants as values
use Rattle.vch_base.specs.Managers.{preprocessed, received, mapped, bare, stored, own_answer, flags_in}
use Rattle.vch_recipe.specs.Recipes.{First, One, End, HeaderCut, ContentCut, first_of, word_at}
use Rattle.vch_recipe.specs.declared.recipe.Recipe.{Recipe}
use Rattle.vch_model.specs.declared.call.Call.{Call}
use Rattle.vch_model.specs.declared.call.Call.TheVariants as calls
use Rattle.vch_model.specs.declared.call.Line.{Line}
use Rattle.vch_model.specs.declared.lists.Scenario.{Scenario}
use Rattle.vch_model.specs.Canonical.{HasBytes, IsWritable}
use Rattle.vch_model.specs.Eval.{answer_to}
use Rattle.vch_model.specs.Lines.{line_at}
use Rattle.vch_model.specs.Transfer.{received_value, flags_of}
use Rattle.vch_machine.specs.State.{Handles, Place, same_place, Living, Named, Claim, Frame, Machine, tasked, living_at, without_place, handle_of, value_of, value_at}
use Rattle.vch_machine.specs.Frames.{with_frame, tallied}
use Rattle.vch_machine.specs.Leaving.{released, with_answer, one_ask}
use Rattle.vch_machine.specs.Making.{Asked, asked_by, asked_first, asked_record, asked_transfer, keys_left, head_key, previous_of, made_at}
use Rattle.vch_machine.specs.Next.{nth_call, call_in}
use Rattle.vch_legal.specs.Reports.{IsByteValue}
use Rattle.vch_legal.proofs.facts.Cases.{Cases}
use Rattle.vch_legal.proofs.lines.EachLine.{line_has, all_joined}

-- Some of the bytes.

dropped : (n : ℕ) (xs : List ℕ) → IsBytes xs → IsBytes (drop n xs)
dropped zero xs h = h
dropped (suc n) [] h = h
dropped (suc n) (x ∷ xs) h = dropped n xs (λ i. h (suc i))

taken : (n : ℕ) (xs : List ℕ) → IsBytes xs → IsBytes (take n xs)
taken zero xs h i = omega arith
taken (suc n) [] h i = omega arith
taken (suc n) (x ∷ xs) h zero = h zero
taken (suc n) (x ∷ xs) h (suc i) = taken n xs (λ j. h (suc j)) i

-- the content of a record
FirstBytes : First → Type 0
FirstBytes (One r rest) = IsBytes r.content
FirstBytes First.End = Unit {0}
FirstBytes (First.HeaderCut left) = Unit {0}
FirstBytes (First.ContentCut wanted left) = Unit {0}

first_if : (b : Bool) (x y : First) → FirstBytes x → FirstBytes y → FirstBytes (if b then x else y)
first_if true x y p q = p
first_if false x y p q = q

first_bytes : (bytes : List ℕ) → IsBytes bytes → FirstBytes (first_of bytes)
unfolding FirstBytes
first_bytes bytes h =
    first_if (length bytes == 0) End _ tt
    (first_if (nat_lt (length bytes) 16) (HeaderCut (length bytes)) _ tt
    (first_if (nat_lt (length (drop 16 bytes)) (word_at 12 bytes)) (ContentCut (word_at 12 bytes) (length (drop 16 bytes))) _ tt
    (taken (word_at 12 bytes) (drop 16 bytes) (dropped 16 bytes h))))

-- A value that is asked for.

abbrev OptionBytes : Option Value → Type 0
OptionBytes None = Unit {0}
OptionBytes (Some x) = IsByteValue x

abbrev AnswerBytes : Result (Option Value) ℤ → Type 0
AnswerBytes (Ok x) = OptionBytes x
AnswerBytes (Err code) = Unit {0}

sent_bytes : (t : ℕ) (x : Value) → IsByteValue x → IsByteValue (preprocessed t x)
sent_bytes t (values.User bytes) h = h
sent_bytes t (values.Chain list) h = tt
sent_bytes t values.Default h = tt
sent_bytes t (values.Task u) h = tt
sent_bytes t (values.Account holder merchant) h = tt

value_if : (b : Bool) (x y : Value) → IsByteValue x → IsByteValue y → IsByteValue (if b then x else y)
value_if true x y p q = p
value_if false x y p q = q

received_bytes : (b : Bool) (t : ℕ) (x : Value) → IsByteValue x → IsByteValue (received b t x)
received_bytes b t (values.User bytes) h = h
received_bytes b t (values.Chain list) h = value_if _ (values.Chain (list ++ t ∷ [])) (values.Chain list) tt tt
received_bytes b t values.Default h = tt
received_bytes b t (values.Task holder) h = value_if (holder == t) (values.Task holder) (values.Account holder t) tt tt
received_bytes b t (values.Account holder merchant) h = tt

mapped_bytes : (g : Value → Value) (x : Option Value) → ((y : Value) → IsByteValue y → IsByteValue (g y)) → OptionBytes x
    → OptionBytes (mapped g x)
mapped_bytes g None f h = tt
mapped_bytes g (Some x) f h = f x h

answer_if : (b : Bool) (x y : Result (Option Value) ℤ) → AnswerBytes x → AnswerBytes y → AnswerBytes (if b then x else y)
answer_if true x y p q = p
answer_if false x y p q = q

bare_bytes : (content : List ℕ) (x : Option Value) → OptionBytes x → AnswerBytes (bare content x)
bare_bytes content x h = answer_if (length content == 0) (Ok x) _ h tt

stored_bytes : (command : ℕ) (content : List ℕ) → IsBytes content → AnswerBytes (stored command content)
stored_bytes command content h = answer_if (command == commands.USER_DATA_STORE) _ _ h tt

own_bytes : (k : Key) (tasks : Option (List Flags)) (by command : ℕ) (previous : Option Value) (content : List ℕ)
    → OptionBytes previous → IsBytes content → AnswerBytes (own_answer k tasks by command previous content)
own_bytes keys.User tasks by command previous content h c = stored_bytes command content c
own_bytes keys.Test tasks by command previous content h c = stored_bytes command content c
own_bytes keys.Importance tasks by command previous content h c =
    answer_if (command == commands.IMPORTANCE_SELF) _ _ (bare_bytes content _ tt)
    (answer_if (command == commands.AUTO_REDEEM) _ _
    (bare_bytes content _ (mapped_bytes (received (flags_in tasks by).receiver by) previous
    (λ y g. received_bytes (flags_in tasks by).receiver by y g) h)) tt)
own_bytes keys.Bank tasks by command previous content h c =
    answer_if (command == commands.BANK_CREATE) _ _ (bare_bytes content (Some values.Default) tt)
    (answer_if (command == commands.AUTO_REDEEM) _ _
    (bare_bytes content _ (mapped_bytes (received (flags_in tasks by).receiver by) previous
    (λ y g. received_bytes (flags_in tasks by).receiver by y g) h))
    (answer_if (command == commands.SEND_PREPROCESS) _ _
    (bare_bytes content _ (mapped_bytes (preprocessed by) previous (λ y g. sent_bytes by y g) h)) tt))

answer_bytes : (k : Key) (t command : ℕ) (previous : Option Value) (content : List ℕ) → OptionBytes previous → IsBytes content
    → AnswerBytes (answer_to k t command previous content)
answer_bytes k t command previous content h c =
    answer_if (command == commands.REDEEM) _ _ (bare_bytes content previous h) (own_bytes k None t command previous content h c)

-- Live values.

abbrev pub LivingBytes : Living → Type 0
LivingBytes l = IsByteValue l.value

living_bytes : (live : List Living) (p : Place) → AllByRecursion LivingBytes live → OptionBytes (value_of (living_at live p))
living_bytes [] p h = tt
living_bytes (l ∷ live) p h = by_test (same_place l.place p) (living_bytes live p h.1)
  where
    by_test : (b : Bool) → OptionBytes (value_of (living_at live p))
        → OptionBytes (value_of (if b then Some l else living_at live p))
    by_test true r = h.0
    by_test false r = r

found_bytes : (live : List Living) (k : Key) (h : Option ℕ) → AllByRecursion LivingBytes live → OptionBytes (value_at live k h)
found_bytes live k None a = tt
found_bytes live k (Some h) a = living_bytes live (record { key = k; handle = h }) a

abbrev AskedBytes : Option Asked → Type 0
AskedBytes None = Unit {0}
AskedBytes (Some a) = AnswerBytes a.reply

record_bytes : (live : List Living) (names : List Named) (t : ℕ) (map : Handles) (r : Recipe) (k : Option Key)
    → AllByRecursion LivingBytes live → IsBytes r.content → AskedBytes (asked_record live names t map r k)
record_bytes live names t map r None a c = tt
record_bytes live names t map r (Some k) a c =
    answer_bytes k t r.command _ r.content (found_bytes live k (of_key k (previous_of names map r.previous)) a) c

asked_first_bytes : (version : ℕ) (live : List Living) (names : List Named) (t : ℕ) (ks : List Key) (map : Handles) (first : First)
    → AllByRecursion LivingBytes live → FirstBytes first → AskedBytes (asked_first version live names t ks map first)
unfolding FirstBytes
asked_first_bytes version live names t ks map (One r rest) a c =
    record_bytes live names t map r (if r.key == ALL_KEYS then head_key (keys_left version ks) else key_of version r.key) a c
asked_first_bytes version live names t ks map First.End a c = tt
asked_first_bytes version live names t ks map (First.HeaderCut left) a c = tt
asked_first_bytes version live names t ks map (First.ContentCut wanted left) a c = tt

transfer_bytes : (live : List Living) (g : Value → Value) (ks : List Key) (map : Handles)
    → ((y : Value) → IsByteValue y → IsByteValue (g y)) → AllByRecursion LivingBytes live → AskedBytes (asked_transfer live g ks map)
transfer_bytes live g [] map f a = tt
transfer_bytes live g (k ∷ ks) map f a = mapped_bytes g (value_at live k (of_key k map)) f (found_bytes live k (of_key k map) a)

by_bytes : (sc : Scenario) (m : Machine) (t : ℕ) (f : Frame) (v : Handles) (call : Call) → HasBytes call
    → AllByRecursion LivingBytes m.live → AskedBytes (asked_by sc m t f v call)
by_bytes sc m t f v (calls.Create bytes) h a =
    asked_first_bytes sc.version m.live (tasked m t).names t f.keys v (first_of (drop f.at_byte bytes)) a
    (first_bytes (drop f.at_byte bytes) (dropped f.at_byte bytes h))
by_bytes sc m t f v (calls.Send to moving name id) h a = transfer_bytes m.live (preprocessed t) f.keys v (λ y g. sent_bytes t y g) a
by_bytes sc m t f v calls.Recv h a =
    transfer_bytes m.live (received_value sc t) f.keys v (λ y g. received_bytes (flags_of sc t).receiver t y g) a
by_bytes sc m t f v (calls.GiveUp name) h a = tt
by_bytes sc m t f v (calls.Extract name key) h a = tt
by_bytes sc m t f v (calls.Recipes name) h a = tt
by_bytes sc m t f v (calls.Extern name adding n) h a = tt
by_bytes sc m t f v (calls.Charge name n) h a = tt
by_bytes sc m t f v calls.Ledger h a = tt
by_bytes sc m t f v calls.Assertions h a = tt
by_bytes sc m t f v calls.Live h a = tt
by_bytes sc m t f v calls.Exit h a = tt

nth_bytes : (sc : Scenario) (t n : ℕ) (call : Call) → IsWritable sc → nth_call sc t n ≡ Some call → HasBytes call
nth_bytes sc t n call w e = by_line (line_at sc t n) refl e
  where
    some_eq : {a b : Call} → Some a ≡ Some b → a ≡ b
    some_eq h = cc

    by_line : (o : Option (ℕ × Line)) → line_at sc t n ≡ o → call_in o ≡ Some call → HasBytes call
    by_line None h g = absurd (cc)
    by_line (Some l) h g = subst HasBytes (some_eq g) (line_has (λ (x : Line). HasBytes x.call) sc t n l w.bytes h)

-- Each event keeps the bytes of live values.

without_bytes : (live : List Living) (q : Place) → AllByRecursion LivingBytes live → AllByRecursion LivingBytes (without_place live q)
without_bytes [] q h = tt
without_bytes (l ∷ live) q h = by_test (same_place l.place q) (without_bytes live q h.1)
  where
    by_test : (b : Bool) → AllByRecursion LivingBytes (without_place live q)
        → AllByRecursion LivingBytes (if b then without_place live q else l ∷ without_place live q)
    by_test true r = r
    by_test false r = (h.0, r)

made_bytes : (m : Machine) (t : ℕ) (f : Frame) (k : Key) (x : Value) (found : Option ℕ) → IsByteValue x
    → AllByRecursion LivingBytes m.live → AllByRecursion LivingBytes (made_at m t f k x found).live
made_bytes m t f k x (Some h) b a = a
made_bytes m t f k x None b a = all_joined LivingBytes m.live _ a (b, tt)

ask_bytes : (m : Machine) (t : ℕ) (f : Frame) (c : Claim) (b : Bool) → AllByRecursion LivingBytes m.live
    → AllByRecursion LivingBytes (tallied one_ask (if b then with_frame m t (with_answer f c false)
    else with_frame (released m c.place) t (with_answer f c true))).live
ask_bytes m t f c true a = a
ask_bytes m t f c false a = without_bytes m.live c.place a

pub byte_cases : (sc : Scenario) (t : ℕ) (m : Machine) → IsWritable sc → AllByRecursion LivingBytes m.live
    → Cases sc t m (λ n. AllByRecursion LivingBytes n.live)
byte_cases sc t m w a = record {
  plain = λ n p. subst (AllByRecursion LivingBytes) (sym p.live) a;
  make = λ f v call k x e forming now receipt claim lets eq. made_bytes m t f k x (handle_of m.live k x)
      (subst AskedBytes eq (by_bytes sc m t f v call (nth_bytes sc t (tasked m t).begun call w now) a)) a;
  refer = λ f v call q e forming now receipt. a;
  let_go = λ f q rest e lets receipt claim. a;
  ask = λ f c e claim u. ask_bytes m t f c c.raced a;
  recheck = λ f c e claim u. a;
}
