-- What a legal history gives to replies has bytes, where what is made has.
use Rattle.std.proofs.Common.{◌≡◌, ℕ, zero, suc, ◌<◌, ◌==◌, Bool, true, false, List, [], ◌∷◌, ◌++◌, refl, arith, sym, ap, ◌∙◌, subst, length, Some, None, Option, inl, inr}
use Rattle.std.specs.Prelude.{if◌then◌else◌}
use Rattle.std.specs.List.{AllByRecursion, list_any, flat_map}
use Rattle.hex.specs.Hex.{IsBytes}
use Rattle.vch_base.specs.declared.commands.TheConstants as commands
use Rattle.vch_base.specs.declared.key.Key.{Key}
use Rattle.vch_base.specs.declared.key.TheConstants.{ALL_KEYS}
use Rattle.vch_base.specs.Keys.{every_key, number_of}
use Rattle.vch_base.specs.Keyed.{of_key}
use Rattle.vch_base.specs.Words.{word, words}
use Rattle.vch_base.specs.Contents.{content_of}
use Rattle.vch_base.specs.Values.{is_default}
use Rattle.vch_base.specs.declared.value.Value.{Value}
use Rattle.vch_base.specs.declared.value.Value.TheVariants as values
use Rattle.vch_recipe.specs.Recipes.{spelling}
use Rattle.vch_recipe.specs.declared.recipe.Recipe.{Recipe}
use Rattle.vch_model.specs.declared.entry.Entry.{Entry}
use Rattle.vch_model.specs.declared.entry.Entry.TheVariants as entries
use Rattle.vch_model.specs.declared.lists.Scenario.{Scenario}
use Rattle.vch_model.specs.Voucher.{Voucher, nothing, equal_options, equal_vouchers}
use Rattle.vch_model.specs.Store.{Store, Message, Alive, member, is_live, is_alive}
use Rattle.vch_model.specs.Lines.{line_at}
use Rattle.vch_model.specs.After.{is_want, lost, without_made, store_of}
use Rattle.vch_model.specs.Totals.{named_voucher}
use Rattle.vch_model.specs.Replies.{spelled, spelled_at, clear, recipe_bytes}
use Rattle.vch_legal.specs.Reports.{IsByteValue, IsByteEntry}
use Rattle.vch_legal.proofs.facts.Choices.{and_right, or_case}
use Rattle.vch_legal.proofs.lines.EachLine.{all_joined}
use Rattle.vch_legal.proofs.seen.SeenHeld.{values_refl, values_eq}
use Rattle.vch_legal.proofs.store.StoreLegal.{call_live, named_live}
use Rattle.vch_legal.proofs.store.StoreSteps.{StoreFits}

-- Bytes.

pub no_bytes : IsBytes []
no_bytes i = omega arith

one_byte : (b : ℕ) (bytes : List ℕ) → b < 256 → IsBytes bytes → IsBytes (b ∷ bytes)
one_byte b bytes l h zero = l
one_byte b bytes l h (suc i) = h i

pub bytes_joined : (a b : List ℕ) → IsBytes a → IsBytes b → IsBytes (a ++ b)
bytes_joined [] b p q = q
bytes_joined (x ∷ a) b p q = one_byte x (a ++ b) (p zero) (bytes_joined a b (λ i. p (suc i)) q)

pub word_bytes : (n : ℕ) → IsBytes (word n)
unfolding word
word_bytes n zero = omega arith
word_bytes n (suc zero) = omega arith
word_bytes n (suc (suc zero)) = omega arith
word_bytes n (suc (suc (suc zero))) = omega arith
word_bytes n (suc (suc (suc (suc i)))) = omega arith

words_bytes : (ns : List ℕ) → IsBytes (words ns)
words_bytes [] = no_bytes
words_bytes (n ∷ ns) = bytes_joined (word n) (words ns) (word_bytes n) (words_bytes ns)

pub spelling_bytes : (r : Recipe) → IsBytes r.content → IsBytes (spelling r)
spelling_bytes r h =
    bytes_joined (word r.key ++ word r.command ++ word r.previous ++ word (length r.content)) r.content
    (bytes_joined (word r.key ++ word r.command ++ word r.previous) (word (length r.content))
    (bytes_joined (word r.key ++ word r.command) (word r.previous)
    (bytes_joined (word r.key) (word r.command) (word_bytes r.key) (word_bytes r.command)) (word_bytes r.previous))
    (word_bytes (length r.content))) h

-- a value, or none, of which user data has bytes
abbrev pub OptionBytes : Option Value → Type 0
OptionBytes None = Unit {0}
OptionBytes (Some x) = IsByteValue x

pub content_bytes : (x : Option Value) → OptionBytes x → IsBytes (content_of x)
content_bytes None h = no_bytes
content_bytes (Some (values.User bytes)) h = h
content_bytes (Some (values.Chain list)) h = words_bytes list
content_bytes (Some values.Default) h = no_bytes
content_bytes (Some (values.Task t)) h = word_bytes t
content_bytes (Some (values.Account holder merchant)) h = bytes_joined (word holder) (word merchant) (word_bytes holder) (word_bytes merchant)

-- a voucher of such values
abbrev pub VoucherBytes : Voucher → Type 0
VoucherBytes v = (k : Key) → OptionBytes (of_key k v)

spelled_bytes : (t : ℕ) (key : Key) (x : Option Value) → OptionBytes x → IsBytes (spelled_at t key x)
spelled_bytes t key None h = no_bytes
spelled_bytes t key (Some (values.Chain [])) h = no_bytes
spelled_bytes t key (Some (values.Chain (x ∷ []))) h = by_test (x == t)
  where
    r : Recipe
    r = record { key = number_of key; command = commands.IMPORTANCE_SELF; previous = 0; content = [] }

    by_test : (b : Bool) → IsBytes (spelled (if b then Some r else None))
    by_test true = spelling_bytes r no_bytes
    by_test false = no_bytes
spelled_bytes t key (Some (values.Chain (x ∷ y ∷ list))) h = no_bytes
spelled_bytes t key (Some values.Default) h =
    spelling_bytes (record { key = number_of key; command = commands.BANK_CREATE; previous = 0; content = [] }) no_bytes
spelled_bytes t key (Some (values.User bytes)) h =
    spelling_bytes (record { key = number_of key; command = commands.USER_DATA_STORE; previous = 0; content = bytes }) h
spelled_bytes t key (Some (values.Task u)) h = no_bytes
spelled_bytes t key (Some (values.Account holder merchant)) h = no_bytes

pub recipe_is_bytes : (t : ℕ) (v : Voucher) → VoucherBytes v → IsBytes (recipe_bytes t v)
recipe_is_bytes t v h = by_test (equal_vouchers v nothing)
  where
    each : (ks : List Key) → IsBytes (flat_map (λ k. spelled_at t k (of_key k v)) ks)
    each [] = no_bytes
    each (k ∷ ks) = bytes_joined _ _ (spelled_bytes t k (of_key k v) (h k)) (each ks)

    by_test : (b : Bool) → IsBytes (if b then clear else flat_map (λ k. spelled_at t k (of_key k v)) every_key)
    by_test true = spelling_bytes (record { key = ALL_KEYS; command = commands.REMOVE; previous = 0; content = [] }) no_bytes
    by_test false = each every_key

-- Live values have bytes.

abbrev pub AliveBytes : Alive → Type 0
AliveBytes l = IsByteValue l.value

without_bytes : (e : ℕ) (live : List Alive) → AllByRecursion AliveBytes live → AllByRecursion AliveBytes (without_made live e)
without_bytes e [] h = tt
without_bytes e (l ∷ live) h = by_test (l.made == e) (without_bytes e live h.1)
  where
    by_test : (b : Bool) → AllByRecursion AliveBytes (without_made live e)
        → AllByRecursion AliveBytes (if b then live else l ∷ without_made live e)
    by_test true r = h.1
    by_test false r = (h.0, r)

pub live_bytes : (sc : Scenario) (past : List Entry) → AllByRecursion IsByteEntry past → AllByRecursion AliveBytes (store_of sc past).live
live_bytes sc [] h = tt
live_bytes sc (entries.Call t n w reply ∷ past) h =
    subst (AllByRecursion AliveBytes) (sym (call_live sc (store_of sc past) t (line_at sc t n) (is_want reply))) (live_bytes sc past h.1)
live_bytes sc (entries.Made k x ∷ past) h = all_joined AliveBytes (store_of sc past).live _ (live_bytes sc past h.1) (h.0, tt)
live_bytes sc (entries.Released e ∷ past) h = without_bytes e (store_of sc past).live (live_bytes sc past h.1)
live_bytes sc (entries.Gone t name ∷ past) h = live_bytes sc past h.1
live_bytes sc (entries.Lost t ∷ past) h = lost_bytes (live_bytes sc past h.1) (member (store_of sc past) t).queue
  where
    lost_bytes : AllByRecursion AliveBytes (store_of sc past).live → (queue : List Message)
        → AllByRecursion AliveBytes (lost (store_of sc past) t queue).live
    lost_bytes r [] = r
    lost_bytes r (q ∷ queue) = r
live_bytes sc (entries.Phase ∷ past) h = live_bytes sc past h.1

alive_bytes : (k : ℕ) (x : Value) (live : List Alive) → AllByRecursion AliveBytes live → list_any (is_alive k x) live ≡ true
    → IsByteValue x
alive_bytes k x [] h e = absurd (cc)
alive_bytes k x (l ∷ live) h e =
    elim (or_case (is_alive k x l) (list_any (is_alive k x) live) e) as (λ _. IsByteValue x) [
      | inl here ↦ subst IsByteValue (values_eq l.value x (and_right (l.key == k) _ here)) h.0
      | inr there ↦ alive_bytes k x live h.1 there
    ]

is_live_bytes : (s : Store) (k : ℕ) (x : Value) → AllByRecursion AliveBytes s.live → is_live s k x ≡ true → IsByteValue x
is_live_bytes s k x h e =
    elim (or_case (is_default x) (list_any (is_alive k x) s.live) e) as (λ _. IsByteValue x) [
      | inl default ↦ of_default x default
      | inr live ↦ alive_bytes k x s.live h live
    ]
  where
    of_default : (x : Value) → is_default x ≡ true → IsByteValue x
    of_default (values.User bytes) e = absurd (cc)
    of_default (values.Chain list) e = tt
    of_default values.Default e = tt
    of_default (values.Task t) e = tt
    of_default (values.Account holder merchant) e = tt

-- the voucher of a name has values that are live
pub named_bytes : (sc : Scenario) (s : Store) (t name : ℕ) (v : Voucher) → StoreFits sc s → AllByRecursion AliveBytes s.live
    → named_voucher s t name ≡ Some v → VoucherBytes v
named_bytes sc s t name v fits h e k = by_value (of_key k v) refl
  where
    by_value : (o : Option Value) → of_key k v ≡ o → OptionBytes o
    by_value None g = tt
    by_value (Some x) g =
        is_live_bytes s (number_of k) x h
        (named_live sc s t name v k x fits e (ap (λ o. equal_options o (Some x)) g ∙ values_refl x))
