-- One record in the machine, on handles, and in the sequential store, on values.
use Rattle.std.proofs.Common.{◌≡◌, ℕ, Bool, List, [], ◌∷◌, refl, true, false, not, ◌&&◌, ◌||◌, arith, sym, ap, ◌∙◌, length, map, Some, None, Option, Ok, Err, Result}
use Rattle.std.specs.Prelude.{if◌then◌else◌, ◌==◌, is_some, ℤ}
use Rattle.vch_base.specs.declared.key.Key.{Key}
use Rattle.vch_base.specs.declared.key.Key.TheVariants as keys
use Rattle.vch_base.specs.declared.key.TheConstants.{ALL_KEYS}
use Rattle.vch_base.specs.declared.codes.TheConstants.{KERN_INVALID_ARGUMENT}
use Rattle.vch_base.specs.declared.commands.TheConstants as commands
use Rattle.vch_base.specs.Keyed.{of_key}
use Rattle.vch_base.specs.Keys.{managed, key_among, key_of}
use Rattle.vch_recipe.specs.declared.recipe.Recipe.{Recipe}
use Rattle.vch_model.specs.Voucher.{Voucher, nothing}
use Rattle.vch_model.specs.Store.{voucher_of}
use Rattle.vch_model.specs.Eval.{answer_to, put_answer, previous_value, ask_at, each_key, redeemed, is_core_command, is_plain_command, carried, with_previous, eval}
use Rattle.vch_model.specs.Legal.{is_managers, asks}
use Rattle.vch_machine.specs.State.{Handles, Living, Named, value_at, valued, valued_option, named_of}
use Rattle.vch_machine.specs.Making.{or_map, previous_of}
use Rattle.vch_machine.specs.Naming.{handles_of}
use Rattle.vch_machine.specs.Next.{known_name}
use Rattle.vch_machine.specs.Working.{worked, worked_with}
use Rattle.vch_legal.specs.Facts.{Different}
use Rattle.vch_legal.specs.Tie.{previous_in}
use Rattle.vch_legal.proofs.facts.Choices.{cases_bool, and_left, and_right, number_eq, or_left, or_right}
use Rattle.vch_legal.proofs.seen.SeenHeld.{value_at_key}
use Rattle.vch_legal.proofs.seen.SeenNames.{LiveAll, AllLive}
use Rattle.vch_legal.proofs.forming.RecordChanges.{valued_result, fresh_work, if_alike, copied_alike, LiveOption, removed_alike}

-- the vouchers of names, as the store sees them
abbrev pub seen_names : List Living → List Named → ℕ → Option Voucher
seen_names live names = voucher_of (map (named_of live) names)

pub voucher_seen : (live : List Living) (names : List Named) (name : ℕ) → seen_names live names name
    ≡ valued_option live (handles_of names name)
voucher_seen live [] name = refl
voucher_seen live (n ∷ names) name = by_test (n.name == name) (voucher_seen live names name)
  where
    by_test : (b : Bool) → seen_names live names name ≡ valued_option live (handles_of names name)
        → (if b then Some (valued live n.voucher) else seen_names live names name)
        ≡ valued_option live (if b then Some n.voucher else handles_of names name)
    by_test true i = refl
    by_test false i = i

known_seen : (live : List Living) (names : List Named) (name : ℕ) → is_some (known_name names name)
    ≡ is_some (seen_names live names name)
known_seen live names name = of_handles (handles_of names name) ∙ sym (ap is_some (voucher_seen live names name))
  where
    of_handles : (o : Option Handles) → is_some {T = Voucher}
        (elim o [ None ↦ None | Some v ↦ Some nothing ])
        ≡ is_some (valued_option live o)
    of_handles None = refl
    of_handles (Some v) = refl

-- what a record asks of a manager, where its previous voucher is there
abbrev Managed : ℕ → Recipe → Bool
Managed version r = (is_managers r.command && is_some (key_of version r.key)) ||
    ((r.command == commands.REDEEM) && ((r.key == ALL_KEYS) && (length r.content == 0)))

-- a record asks by the names of the machine where it asks by those of the store
pub asks_same : (version : ℕ) (live : List Living) (names : List Named) (r : Recipe) → asks version (known_name names) r
    ≡ asks version (seen_names live names) r
asks_same version live names r =
    ap (λ b. ((r.previous == 0) || b) && Managed version r) (known_seen live names r.previous)

-- what a record does that asks no manager

managers_own : (a b : Bool) → a ≡ false → b ≡ false → not (a || b) ≡ true
managers_own a b e g = grind arith

not_cores : (a b : Bool) → not (a || b) ≡ true → a ≡ false
not_cores a b e = grind arith

not_plain : (a b : Bool) → not (a || b) ≡ true → b ≡ false
not_plain a b e = grind arith

neither : (version : ℕ) (r : Recipe) (t : ℕ) (p : Option Voucher) (map : Voucher) → is_managers r.command ≡ true
    → Managed version r ≡ false
    → ◌≡◌ {A = Result Voucher ℤ} (Err KERN_INVALID_ARGUMENT) (if r.key == ALL_KEYS then
    (if (r.command == commands.REDEEM) && (length r.content == 0)
    then Ok (each_key (λ key. redeemed key p) (managed version) map) else Err KERN_INVALID_ARGUMENT)
    else ask_at (key_of version r.key) t r p map)
neither version r t p map above it_does_not =
    cases_bool (r.key == ALL_KEYS) _
    (λ all. let e : ((r.command == commands.REDEEM) && (length r.content == 0))
    ≡ false = first_part (is_managers r.command && is_some (key_of version r.key)) (r.command == commands.REDEEM)
    (r.key == ALL_KEYS) (length r.content == 0) all it_does_not in rw (all, e) refl)
    (λ one. let e : is_some (key_of version r.key) ≡ false = second_part (is_managers r.command)
    (is_some (key_of version r.key)) _ above it_does_not in rw one (of_key_none (key_of version r.key) e))
  where
    first_part : (a c k n : Bool) → k ≡ true → (a || (c && (k && n))) ≡ false → (c && n) ≡ false
    first_part a c k n h e = grind arith

    second_part : (a b c : Bool) → a ≡ true → ((a && b) || c) ≡ false → b ≡ false
    second_part a b c h e = grind arith

    of_key_none : (k : Option Key) → is_some k ≡ false → Err KERN_INVALID_ARGUMENT ≡ ask_at k t r p map
    of_key_none None e = refl
    of_key_none (Some k) e = cc

carried_alike : (version : ℕ) (live : List Living) (t : ℕ) (r : Recipe) (p : Option Handles) (map : Handles)
    → Different live → LiveOption live p → LiveAll live map → Managed version r ≡ false
    → valued_result live (worked version r p (fresh_work map))
    ≡ carried version t r (valued_option live p) (valued live map)
carried_alike version live t r p map d lp lm it_does_not =
    if_alike live (is_core_command r.command) _ _ _ _ (λ _. refl)
    (λ a. if_alike live (is_plain_command r.command) _ _ _ _
    (λ _. if_alike live (not (length r.content == 0)) _ _ _ _ (λ _. refl)
    (λ _. if_alike live (r.command == commands.NOOP) _ _ _ _ (λ _. refl)
    (λ _. if_alike live (r.command == commands.COPY) _ _ _ _ (λ _. copied_alike live p map version r.key)
    (λ _. removed_alike live p map version r.key d lp lm))))
    (λ b. neither version r t (valued_option live p) (valued live map)
    (managers_own (is_core_command r.command) (is_plain_command r.command) a b) it_does_not))

with_alike : (version : ℕ) (live : List Living) (t : ℕ) (r : Recipe) (p : Option Handles) (map : Handles)
    → Different live → LiveOption live p → LiveAll live map → (is_some p ≡ true → Managed version r ≡ false)
    → valued_result live (worked_with version r p (fresh_work map))
    ≡ with_previous version t r (valued_option live p) (valued live map)
with_alike version live t r None map d lp lm it_does_not = refl
with_alike version live t r (Some p) map d lp lm it_does_not =
    carried_alike version live t r (Some p) map d lp lm (it_does_not refl)

pub named_live : (live : List Living) (names : List Named) (name : ℕ) → AllLive live names
    → LiveOption live (handles_of names name)
named_live live [] name h = tt
named_live live (n ∷ names) name h = by_test (n.name == name) (named_live live names name h.1)
  where
    by_test : (b : Bool) → LiveOption live (handles_of names name)
        → LiveOption live (if b then Some n.voucher else handles_of names name)
    by_test true i = h.0
    by_test false i = i

-- a record that asks no manager gives the same in the machine and in the store
pub record_alike : (version : ℕ) (live : List Living) (names : List Named) (t : ℕ) (r : Recipe) (map : Handles)
    → Different live → AllLive live names → LiveAll live map → asks version (seen_names live names) r ≡ false
    → valued_result live (if r.previous == 0 then worked version r None (fresh_work map) else worked_with version r
    (handles_of names r.previous) (fresh_work map)) ≡ eval version (seen_names live names) t r (valued live map)
record_alike version live names t r map d ln lm it_does_not =
    if_alike live (r.previous == 0) _ _ _ _
    (λ zero. carried_alike version live t r None map d tt lm
    (not_managed (r.previous == 0) (is_some (seen_names live names r.previous)) (Managed version r)
    (or_left (r.previous == 0) _ zero) it_does_not))
    (λ some. with_alike version live t r (handles_of names r.previous) map d (named_live live names r.previous ln) lm
    (λ known. not_managed (r.previous == 0) (is_some (seen_names live names r.previous)) (Managed version r)
    (or_right (r.previous == 0) _ (ap is_some (voucher_seen live names r.previous)
    ∙ of_some (handles_of names r.previous) known)) it_does_not)
    ∙ ap (λ o. with_previous version t r o (valued live map)) (sym (voucher_seen live names r.previous)))
  where
    not_managed : (a b c : Bool) → (a || b) ≡ true → ((a || b) && c) ≡ false → c ≡ false
    not_managed a b c h e = grind arith

    of_some : (o : Option Handles) → is_some o ≡ true → is_some (valued_option live o) ≡ true
    of_some None h = cc
    of_some (Some v) h = refl

-- the value that a manager's command begins with
pub previous_alike : (live : List Living) (names : List Named) (map : Handles) (name : ℕ) (k : Key)
    → value_at live k (of_key k (previous_of names map name)) ≡ previous_value k
    (previous_in (seen_names live names) name) (valued live map)
previous_alike live names map name k =
    by_test (name == 0) ∙ ap (λ o. previous_value k (if name == 0 then None else o) (valued live map))
    (sym (voucher_seen live names name))
  where
    by_handles : (o : Option Handles) → value_at live k (of_key k (or_map o map))
        ≡ previous_value k (valued_option live o) (valued live map)
    by_handles None = sym (value_at_key live k map)
    by_handles (Some v) = sym (value_at_key live k v)

    by_test : (b : Bool) → value_at live k (of_key k (if b then map else or_map (handles_of names name) map))
        ≡ previous_value k (if b then None else valued_option live (handles_of names name)) (valued live map)
    by_test true = sym (value_at_key live k map)
    by_test false = by_handles (handles_of names name)

-- a record that asks a manager, with its previous voucher
pub eval_asked : (version : ℕ) (names : ℕ → Option Voucher) (t : ℕ) (r : Recipe) (map : Voucher)
    → asks version names r ≡ true → eval version names t r map ≡ carried version t r (previous_in names r.previous) map
eval_asked version names t r map it_asks = by_test (r.previous == 0)
    (and_left ((r.previous == 0) || is_some (names r.previous)) (Managed version r) it_asks)
  where
    of_names : (o : Option Voucher) → is_some o ≡ true → with_previous version t r o map ≡ carried version t r o map
    of_names None h = cc
    of_names (Some v) h = refl

    by_test : (b : Bool) → (b || is_some (names r.previous)) ≡ true
        → (if b then carried version t r None map else with_previous version t r (names r.previous) map)
        ≡ carried version t r (if b then None else names r.previous) map
    by_test true h = refl
    by_test false h = of_names (names r.previous) h

asks_managed : (version : ℕ) (names : ℕ → Option Voucher) (r : Recipe) → asks version names r ≡ true
    → Managed version r ≡ true
asks_managed version names r it_asks =
    and_right ((r.previous == 0) || is_some (names r.previous)) (Managed version r) it_asks

-- a record at one key
pub carried_one : (version : ℕ) (names : ℕ → Option Voucher) (t : ℕ) (r : Recipe) (p : Option Voucher) (map : Voucher)
    (k : Key) → asks version names r ≡ true → (r.key == ALL_KEYS) ≡ false → key_of version r.key ≡ Some k
    → carried version t r p map ≡ put_answer k map (answer_to k t r.command (previous_value k p map) r.content)
carried_one version names t r p map k it_asks one e =
    let a : is_managers r.command ≡ true = command (is_managers r.command) (is_some (key_of version r.key))
    (r.command == commands.REDEEM) (r.key == ALL_KEYS) (length r.content == 0) one
    (asks_managed version names r it_asks) in
    let b : is_core_command r.command ≡ false = not_cores (is_core_command r.command) (is_plain_command r.command) a in
    let c : is_plain_command r.command ≡ false = not_plain (is_core_command r.command) (is_plain_command r.command) a in
    rw (b, c, one) (ap (λ o. ask_at o t r p map) e)
  where
    command : (a b c d f : Bool) → d ≡ false → ((a && b) || (c && (d && f))) ≡ true → a ≡ true
    command a b c d f h e = grind arith

all_is_none : (version n : ℕ) → (n == ALL_KEYS) ≡ true → is_some (key_of version n) ≡ false
all_is_none version n e = ap (λ k. is_some (key_of version k)) (number_eq n ALL_KEYS e) ∙ by_test (version == 2)
  where
    by_test : (b : Bool)
        → is_some (key_among (keys.Importance ∷ keys.Bank ∷ keys.User ∷ (if b then keys.Test ∷ [] else []))
        ALL_KEYS) ≡ false
    by_test true = refl
    by_test false = refl

-- a record that redeems all keys: its command and its content
pub redeems : (version : ℕ) (names : ℕ → Option Voucher) (r : Recipe) → asks version names r ≡ true
    → (r.key == ALL_KEYS) ≡ true → ((r.command == commands.REDEEM) ≡ true) × ((length r.content == 0) ≡ true)
redeems version names r it_asks all =
    let m : Managed version r ≡ true = asks_managed version names r it_asks in
    let n : is_some (key_of version r.key) ≡ false = all_is_none version r.key all in (
      ten (is_managers r.command) (is_some (key_of version r.key)) (r.command == commands.REDEEM) (r.key == ALL_KEYS)
          (length r.content == 0) n m,
      bare (is_managers r.command) (is_some (key_of version r.key)) (r.command == commands.REDEEM) (r.key == ALL_KEYS)
          (length r.content == 0) n m,
    )
  where
    ten : (a b c d f : Bool) → b ≡ false → ((a && b) || (c && (d && f))) ≡ true → c ≡ true
    ten a b c d f h e = grind arith

    bare : (a b c d f : Bool) → b ≡ false → ((a && b) || (c && (d && f))) ≡ true → f ≡ true
    bare a b c d f h e = grind arith

pub carried_all : (version : ℕ) (names : ℕ → Option Voucher) (t : ℕ) (r : Recipe) (p : Option Voucher) (map : Voucher)
    → asks version names r ≡ true → (r.key == ALL_KEYS) ≡ true
    → carried version t r p map ≡ Ok (each_key (λ key. redeemed key p) (managed version) map)
carried_all version names t r p map it_asks all =
    let c : (r.command == commands.REDEEM) ≡ true = (redeems version names r it_asks all).0 in
    let n : (length r.content == 0) ≡ true = (redeems version names r it_asks all).1 in
    let i : r.command ≡ commands.REDEEM = number_eq r.command commands.REDEEM c in
    let a : is_core_command r.command ≡ false = ap is_core_command i in
    let b : is_plain_command r.command ≡ false = ap is_plain_command i in
    rw (a, b, all, c, n) refl
