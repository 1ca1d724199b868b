-- A whole recipe makes its voucher again: each record puts its value at its key, one after the other.
use Rattle.std.proofs.Common.{lit≤, ◌≡◌, refl, sym, ap, subst, ◌∙◌, ℕ, zero, suc, ◌+◌, ◌≤◌, Bool, true, false, Option, Some, None, List, [], ◌∷◌, ◌++◌, length, arith, length-append}
use Rattle.std.specs.Prelude.{◌==◌, nat_lt, nat_le, ◌&&◌, if◌then◌else◌, Result, Ok, Err, ℤ, pos, is_some}
use Rattle.std.specs.List.{list_all, flat_map}
use Rattle.vch_base.specs.declared.key.Key.{Key}
use Rattle.vch_base.specs.declared.key.Key.TheVariants as keys
use Rattle.vch_base.specs.declared.value.Value.{Value}
use Rattle.vch_base.specs.declared.value.Value.TheVariants as values
use Rattle.vch_base.specs.Keyed.{of_key, with_key}
use Rattle.vch_base.specs.Keys.{key_of, key_among, number_of, every_key}
use Rattle.vch_base.specs.Values.{Belongs}
use Rattle.vch_base.specs.Words.{word}
use Rattle.vch_recipe.specs.Recipes.{Fits, First, One, first_of, spelling, word_at}
use Rattle.vch_recipe.specs.declared.recipe.Recipe.{Recipe}
use Rattle.vch_recipe.proofs.CallerLemmas.{first_spelled}
use Rattle.vch_model.specs.Eval.{eval, eval_all, create, each_key, loses}
use Rattle.vch_model.specs.Replies.{clear, record_for, spelled, spelled_at, is_kept}
use Rattle.vch_model.specs.Voucher.{Voucher, nothing, IsOfVersion, equal_vouchers}
use Rattle.vch_model.specs.Again.{AllBelong, MakeAgain}

-- the record of a value puts it at its key
Puts : ℕ → ℕ → (ℕ → Option Voucher) → Voucher → Key → Value → Recipe → Type 0
Puts version t names map k x r = eval version names t r map ≡ Ok (with_key k (Some x) map)

same_list : (x t : ℕ) → (x == t) ≡ true → values.Chain (t ∷ []) ≡ values.Chain (x ∷ [])
same_list x t e = let f : x ≡ t = grind (arith, e) in ap (λ n. values.Chain (n ∷ [])) (sym f)

unlike : false ≡ true → ⊥
unlike e = cc

none_some : {A : Type 0} → {a : A} → None ≡ Some a → ⊥
none_some e = cc

some_equal : {A : Type 0} → {a b : A} → Some a ≡ Some b → a ≡ b
some_equal e = cc

puts_same : (version t : ℕ) (names : ℕ → Option Voucher) (map : Voucher) (k : Key) (x : Value) (q r : Recipe)
    → Some q ≡ Some r → Puts version t names map k x q → Puts version t names map k x r
puts_same version t names map k x q r e p = subst (λ u. Puts version t names map k x u) (some_equal e) p

puts_list : (version t x : ℕ) (names : ℕ → Option Voucher) (map : Voucher) (r : Recipe) (c : Bool) → (x == t) ≡ c
    → (if c then Some (record { key = 2; command = 200; previous = 0; content = [] }) else None) ≡ Some r
    → Puts version t names map keys.Importance (values.Chain (x ∷ [])) r
unfolding Puts
puts_list version t x names map r false c e = absurd (none_some e)
puts_list version t x names map r true c e =
    puts_same version t names map keys.Importance (values.Chain (x ∷ [])) (record { key = 2; command = 200; previous = 0; content = [] }) r e
    (ap (λ y. Ok (with_key keys.Importance (Some y) map)) (same_list x t c))

puts : (version t : ℕ) (names : ℕ → Option Voucher) (map : Voucher) (k : Key) (x : Value) (r : Recipe)
    → key_of version (number_of k) ≡ Some k → Belongs k x → record_for t k x ≡ Some r → Puts version t names map k x r
unfolding Puts
puts version t names map keys.Importance (values.User bytes) r m b e = absurd b
puts version t names map keys.Importance (values.Chain []) r m b e = absurd (none_some e)
puts version t names map keys.Importance (values.Chain (x ∷ [])) r m b e = puts_list version t x names map r (x == t) refl e
puts version t names map keys.Importance (values.Chain (x ∷ y ∷ list)) r m b e = absurd (none_some e)
puts version t names map keys.Importance values.Default r m b e = absurd b
puts version t names map keys.Importance (values.Task n) r m b e = absurd b
puts version t names map keys.Importance (values.Account n o) r m b e = absurd b
puts version t names map keys.Bank (values.User bytes) r m b e = absurd b
puts version t names map keys.Bank (values.Chain list) r m b e = absurd b
puts version t names map keys.Bank values.Default r m b e =
    puts_same version t names map keys.Bank values.Default (record { key = 3; command = 610; previous = 0; content = [] }) r e refl
puts version t names map keys.Bank (values.Task n) r m b e = absurd (none_some e)
puts version t names map keys.Bank (values.Account n o) r m b e = absurd (none_some e)
puts version t names map keys.User (values.User bytes) r m b e =
    puts_same version t names map keys.User (values.User bytes) (record { key = 7; command = 211; previous = 0; content = bytes }) r e refl
puts version t names map keys.User (values.Chain list) r m b e = absurd b
puts version t names map keys.User values.Default r m b e = absurd b
puts version t names map keys.User (values.Task n) r m b e = absurd b
puts version t names map keys.User (values.Account n o) r m b e = absurd b
puts version t names map keys.Test (values.User bytes) r m b e =
    puts_same version t names map keys.Test (values.User bytes) (record { key = 8; command = 211; previous = 0; content = bytes }) r e (rw m refl)
puts version t names map keys.Test (values.Chain list) r m b e = absurd b
puts version t names map keys.Test values.Default r m b e = absurd b
puts version t names map keys.Test (values.Task n) r m b e = absurd b
puts version t names map keys.Test (values.Account n o) r m b e = absurd b

-- what is put at each key, one after the other
abbrev put : Key → Option Value → Voucher → Voucher
put k None map = map
put k (Some x) map = with_key k (Some x) map

abbrev filled : List Key → Voucher → Voucher → Voucher
filled [] v map = map
filled (k ∷ ks) v map = filled ks v (put k (of_key k v) map)

fill : (a b c d : Option Value)
    → filled every_key (record { importance = a; bank = b; user = c; test = d }) nothing ≡ record { importance = a; bank = b; user = c; test = d }
fill None None None None = refl
fill None None None (Some z) = refl
fill None None (Some y) None = refl
fill None None (Some y) (Some z) = refl
fill None (Some x) None None = refl
fill None (Some x) None (Some z) = refl
fill None (Some x) (Some y) None = refl
fill None (Some x) (Some y) (Some z) = refl
fill (Some w) None None None = refl
fill (Some w) None None (Some z) = refl
fill (Some w) None (Some y) None = refl
fill (Some w) None (Some y) (Some z) = refl
fill (Some w) (Some x) None None = refl
fill (Some w) (Some x) None (Some z) = refl
fill (Some w) (Some x) (Some y) None = refl
fill (Some w) (Some x) (Some y) (Some z) = refl

-- Records of values fit, and are spelled in sixteen bytes and their content.

record Shaped (k : Key) (r : Recipe) : Type 0 where
  key : r.key ≡ number_of k
  command : r.command ≤ 610
  previous : r.previous ≡ 0

shaped_as : (k : Key) (q r : Recipe) → Some q ≡ Some r → Shaped k q → Shaped k r
shaped_as k q r e s = subst (λ u. Shaped k u) (some_equal e) s

shaped_list : (t x : ℕ) (k : Key) (r : Recipe) (c : Bool)
    → (if c then Some (record { key = number_of k; command = 200; previous = 0; content = [] }) else None) ≡ Some r → Shaped k r
shaped_list t x k r false e = absurd (none_some e)
shaped_list t x k r true e = shaped_as k _ r e (record { key = refl; command = lit≤ tt; previous = refl })

shaped : (t : ℕ) (k : Key) (x : Value) (r : Recipe) → record_for t k x ≡ Some r → Shaped k r
shaped t k (values.User bytes) r e = shaped_as k _ r e (record { key = refl; command = lit≤ tt; previous = refl })
shaped t k (values.Chain []) r e = absurd (none_some e)
shaped t k (values.Chain (x ∷ [])) r e = shaped_list t x k r (x == t) e
shaped t k (values.Chain (x ∷ y ∷ list)) r e = absurd (none_some e)
shaped t k values.Default r e = shaped_as k _ r e (record { key = refl; command = lit≤ tt; previous = refl })
shaped t k (values.Task n) r e = absurd (none_some e)
shaped t k (values.Account n o) r e = absurd (none_some e)

small_key : (k : Key) → number_of k ≤ 8
small_key keys.Importance = lit≤ tt
small_key keys.Bank = lit≤ tt
small_key keys.User = lit≤ tt
small_key keys.Test = lit≤ tt

length_spelling : (r : Recipe) → length (spelling r) ≡ 16 + length r.content
unfolding word
length_spelling r = omega arith

fits : (k : Key) (r : Recipe) → Shaped k r → length (spelling r) ≤ 5120 → Fits r
fits k r s e =
    let small : number_of k ≤ 8 = small_key k in
    let size : length (spelling r) ≡ 16 + length r.content = length_spelling r in
    record {
      key = omega (arith, s.key, small);
      command = omega (arith, s.command);
      previous = omega (arith, s.previous);
      content = omega (arith, size, e);
    }

-- The fold.

abbrev all_bytes : ℕ → Voucher → List Key → List ℕ
all_bytes t v ks = flat_map (λ k. spelled_at t k (of_key k v)) ks

abbrev all_kept : ℕ → Voucher → List Key → Bool
all_kept t v ks = list_all (λ k. is_kept t k (of_key k v)) ks

AllManaged : ℕ → Voucher → Type 0
AllManaged version v = (k : Key) (x : Value) → of_key k v ≡ Some x → key_of version (number_of k) ≡ Some k

-- what a fold does with a first record, and then
abbrev pub after_eval : ℕ → ℕ → (ℕ → Option Voucher) → ℕ → List ℕ → Result Voucher ℤ → Result Voucher ℤ
after_eval version b names t rest (Ok next) = eval_all version b names t next rest
after_eval version b names t rest (Err code) = Err code

abbrev pub after_first : ℕ → ℕ → (ℕ → Option Voucher) → ℕ → Voucher → First → Result Voucher ℤ
after_first version b names t map (One r rest) = after_eval version b names t rest (eval version names t r map)
after_first version b names t map First.End = Ok map
after_first version b names t map (First.HeaderCut left) = Err (pos 4)
after_first version b names t map (First.ContentCut wanted left) = Err (pos 4)

pub unfolded : (version t b : ℕ) (names : ℕ → Option Voucher) (map : Voucher) (bytes : List ℕ)
    → eval_all version (suc b) names t map bytes ≡ after_first version b names t map (first_of bytes)
unfolding eval_all
unfolded version t b names map bytes = by_first (first_of bytes)
  where
    by_first : (f : First) → (elim f [
      | One r rest ↦ elim (eval version names t r map) [ Ok next ↦ eval_all version b names t next rest | Err code ↦ Err code ]
      | First.End ↦ Ok map
      | First.HeaderCut left ↦ Err (pos 4)
      | First.ContentCut wanted left ↦ Err (pos 4)
    ]) ≡ after_first version b names t map f
    by_first (One r rest) = by_eval (eval version names t r map)
      where
        by_eval : (g : Result Voucher ℤ) → (elim g [ Ok next ↦ eval_all version b names t next rest | Err code ↦ Err code ])
            ≡ after_eval version b names t rest g
        by_eval (Ok next) = refl
        by_eval (Err code) = refl
    by_first First.End = refl
    by_first (First.HeaderCut left) = refl
    by_first (First.ContentCut wanted left) = refl

-- one record of a value, and what follows
record_first : (version t b : ℕ) (names : ℕ → Option Voucher) (map : Voucher) (k : Key) (x : Value) (r : Recipe) (rest : List ℕ)
    → Fits r → Puts version t names map k x r
    → eval_all version (suc b) names t map (spelling r ++ rest) ≡ eval_all version b names t (with_key k (Some x) map) rest
unfolding Puts
record_first version t b names map k x r rest f p =
    unfolded version t b names map (spelling r ++ rest)
    ∙ (ap (λ g. after_first version b names t map g) (first_spelled r rest f)
    ∙ ap (λ g. after_eval version b names t rest g) p)

and_left : (a b : Bool) → (a && b) ≡ true → a ≡ true
and_left true b e = refl
and_left false b e = e

and_right : (a b : Bool) → (a && b) ≡ true → b ≡ true
and_right true b e = e
and_right false b e = absurd (unlike e)

-- what follows a key
Next : ℕ → ℕ → (ℕ → Option Voucher) → Voucher → List Key → Type 0
Next version t names v ks =
    (b : ℕ) (map : Voucher) → length (all_bytes t v ks) ≤ b → 1 ≤ b → eval_all version b names t map (all_bytes t v ks) ≡ Ok (filled ks v map)

by_record : (version t b : ℕ) (names : ℕ → Option Voucher) (v map : Voucher) (k : Key) (ks : List Key) (x : Value) (q : Option Recipe)
    → Next version t names v ks → key_of version (number_of k) ≡ Some k → Belongs k x → record_for t k x ≡ q → is_some q ≡ true
    → length (spelled q ++ all_bytes t v ks) ≤ suc b → length (spelled q ++ all_bytes t v ks) ≤ 5120
    → eval_all version (suc b) names t map (spelled q ++ all_bytes t v ks) ≡ Ok (filled ks v (with_key k (Some x) map))
unfolding Next
by_record version t b names v map k ks x None next m l e some fit few = absurd (unlike some)
by_record version t b names v map k ks x (Some r) next m l e some fit few =
    let size : length (spelling r) ≡ 16 + length r.content = length_spelling r in
    let total : length (spelling r ++ all_bytes t v ks) ≡ length (spelling r) + length (all_bytes t v ks) = length-append (spelling r) (all_bytes t v ks) in
    record_first version t b names map k x r (all_bytes t v ks) (fits k r (shaped t k x r e) (omega (arith, total, few))) (puts version t names map k x r m l e)
    ∙ next b (with_key k (Some x) map) (omega (arith, total, size, fit)) (omega (arith, total, size, fit))

by_value : (version t b : ℕ) (names : ℕ → Option Voucher) (v map : Voucher) (k : Key) (ks : List Key) (o : Option Value)
    → Next version t names v ks → AllManaged version v → AllBelong v → of_key k v ≡ o → is_kept t k o ≡ true
    → length (spelled_at t k o ++ all_bytes t v ks) ≤ suc b → length (spelled_at t k o ++ all_bytes t v ks) ≤ 5120
    → eval_all version (suc b) names t map (spelled_at t k o ++ all_bytes t v ks) ≡ Ok (filled ks v (put k o map))
unfolding Next AllManaged
by_value version t b names v map k ks None next m l e kept fit few = next (suc b) map fit (omega arith)
by_value version t b names v map k ks (Some x) next m l e kept fit few =
    by_record version t b names v map k ks x (record_for t k x) next (m k x e) (l k x e) refl kept fit few

-- the fold over some keys puts each value at its key
folded : (version t : ℕ) (names : ℕ → Option Voucher) (v : Voucher) (ks : List Key) → AllManaged version v → AllBelong v
    → all_kept t v ks ≡ true → length (all_bytes t v ks) ≤ 5120 → Next version t names v ks
unfolding Next
folded version t names v [] m l kept few zero map fit some = absurd (none some)
  where
    none : 1 ≤ 0 → ⊥
    none e = omega arith
folded version t names v [] m l kept few (suc b) map fit some = unfolded version t b names map []
folded version t names v (k ∷ ks) m l kept few zero map fit some = absurd (none some)
  where
    none : 1 ≤ 0 → ⊥
    none e = omega arith
folded version t names v (k ∷ ks) m l kept few (suc b) map fit some =
    by_value version t b names v map k ks (of_key k v)
    (folded version t names v ks m l (and_right (is_kept t k (of_key k v)) (all_kept t v ks) kept) (shorter (spelled_at t k (of_key k v)) (all_bytes t v ks) few))
    m l refl (and_left (is_kept t k (of_key k v)) (all_kept t v ks) kept) fit few
  where
    shorter : (xs ys : List ℕ) → length (xs ++ ys) ≤ 5120 → length ys ≤ 5120
    shorter xs ys e = omega (arith, length-append xs ys)

-- The law.

managed_at : (version : ℕ) (k : Key) → (key_of version (number_of k) ≡ None → ⊥) → key_of version (number_of k) ≡ Some k
managed_at version keys.Importance e = refl
managed_at version keys.Bank e = refl
managed_at version keys.User e = refl
managed_at version keys.Test e = by_version (version == 2) e
  where
    by_version : (c : Bool) → (key_among (if c then keys.Test ∷ [] else []) 8 ≡ None → ⊥) → key_among (if c then keys.Test ∷ [] else []) 8 ≡ Some keys.Test
    by_version true e = refl
    by_version false e = absurd (e refl)

all_managed : (version : ℕ) (v : Voucher) → IsOfVersion version v → AllManaged version v
unfolding AllManaged
all_managed version v of k x e = managed_at version k (λ n. none_some (sym (of k n) ∙ e))

-- Without any value.

emptied_of : (a b c d : Option Value) → equal_vouchers (record { importance = a; bank = b; user = c; test = d }) nothing ≡ true
    → record { importance = a; bank = b; user = c; test = d } ≡ nothing
emptied_of None None None None e = refl
emptied_of None None None (Some z) e = absurd (unlike e)
emptied_of None None (Some y) d e = absurd (unlike e)
emptied_of None (Some x) c d e = absurd (unlike e)
emptied_of (Some w) b c d e = absurd (unlike e)

emptied : (v : Voucher) → equal_vouchers v nothing ≡ true → v ≡ nothing
emptied v e = emptied_of v.importance v.bank v.user v.test e

abbrev made : Voucher → Result (Option Voucher) ℤ
made v = Ok (Some v)

cleared_by : (c : Bool)
    → made (each_key (λ key. loses key None) (keys.Importance ∷ keys.Bank ∷ keys.User ∷ (if c then keys.Test ∷ [] else [])) nothing) ≡ made nothing
cleared_by true = refl
cleared_by false = refl

cleared : (version t : ℕ) (names : ℕ → Option Voucher) → create version names t clear ≡ Ok (Some nothing)
unfolding create eval_all word_at word
cleared version t names = cleared_by (version == 2)

-- With some value.

kept_empty : (t : ℕ) (k : Key) (o : Option Value) → is_kept t k o ≡ true → length (spelled_at t k o) ≡ 0 → o ≡ None
kept_empty t k None e n = refl
kept_empty t k (Some x) e n = by_record_of (record_for t k x) e n
  where
    by_record_of : (q : Option Recipe) → is_some q ≡ true → length (spelled q) ≡ 0 → Some x ≡ None
    by_record_of None e n = absurd (unlike e)
    by_record_of (Some r) e n = absurd (long (length (spelling r)) (length r.content) (length_spelling r) n)
      where
        long : (a c : ℕ) → a ≡ 16 + c → a ≡ 0 → ⊥
        long a c e f = omega arith

abbrev size_at : ℕ → Voucher → Key → ℕ
size_at t v k = length (spelled_at t k (of_key k v))

sizes : (t : ℕ) (v : Voucher)
    → length (all_bytes t v every_key) ≡ size_at t v keys.Importance + (size_at t v keys.Bank + (size_at t v keys.User + (size_at t v keys.Test + 0)))
sizes t v = four (spelled_at t keys.Importance (of_key keys.Importance v)) (spelled_at t keys.Bank (of_key keys.Bank v))
    (spelled_at t keys.User (of_key keys.User v)) (spelled_at t keys.Test (of_key keys.Test v))
  where
    four : (a b c d : List ℕ) → length (a ++ (b ++ (c ++ (d ++ [])))) ≡ length a + (length b + (length c + (length d + 0)))
    four a b c d = rw (length-append a (b ++ (c ++ (d ++ []))), length-append b (c ++ (d ++ [])), length-append c (d ++ []), length-append d []) refl

no_bytes : (t : ℕ) (v : Voucher) → all_kept t v every_key ≡ true → length (all_bytes t v every_key) ≡ 0 → equal_vouchers v nothing ≡ true
no_bytes t v kept n =
    let s : length (all_bytes t v every_key) ≡ size_at t v keys.Importance + (size_at t v keys.Bank + (size_at t v keys.User + (size_at t v keys.Test + 0))) = sizes t v in
    let k2 : all_kept t v (keys.Bank ∷ keys.User ∷ keys.Test ∷ []) ≡ true = and_right (is_kept t keys.Importance (of_key keys.Importance v)) _ kept in
    let k3 : all_kept t v (keys.User ∷ keys.Test ∷ []) ≡ true = and_right (is_kept t keys.Bank (of_key keys.Bank v)) _ k2 in
    let k4 : all_kept t v (keys.Test ∷ []) ≡ true = and_right (is_kept t keys.User (of_key keys.User v)) _ k3 in
    let a : v.importance ≡ None = kept_empty t keys.Importance v.importance (and_left _ _ kept) (omega (arith, s, n)) in
    let b : v.bank ≡ None = kept_empty t keys.Bank v.bank (and_left _ _ k2) (omega (arith, s, n)) in
    let c : v.user ≡ None = kept_empty t keys.User v.user (and_left _ _ k3) (omega (arith, s, n)) in
    let d : v.test ≡ None = kept_empty t keys.Test v.test (and_left _ _ k4) (omega (arith, s, n)) in
    rw (a, b, c, d) refl

created : (version t : ℕ) (names : ℕ → Option Voucher) (bytes : List ℕ) (map : Voucher)
    → nat_lt 5120 (length bytes) ≡ false → (length bytes == 0) ≡ false
    → eval_all version (length bytes) names t nothing bytes ≡ Ok map → create version names t bytes ≡ Ok (Some map)
unfolding create
created version t names bytes map few some e = rw (few, some, e) refl

filled_all : (v : Voucher) → filled every_key v nothing ≡ v
filled_all v = fill v.importance v.bank v.user v.test

with_values : (version t : ℕ) (names : ℕ → Option Voucher) (v : Voucher) → IsOfVersion version v → AllBelong v
    → all_kept t v every_key ≡ true → nat_le (length (all_bytes t v every_key)) 5120 ≡ true → equal_vouchers v nothing ≡ false
    → create version names t (all_bytes t v every_key) ≡ Ok (Some v)
unfolding Next
with_values version t names v of l kept few e = by_size (length (all_bytes t v every_key) == 0) refl
  where
    by_size : (c : Bool) → (length (all_bytes t v every_key) == 0) ≡ c → create version names t (all_bytes t v every_key) ≡ Ok (Some v)
    by_size true f = absurd (unlike (sym e ∙ no_bytes t v kept (zero_size (length (all_bytes t v every_key)) f)))
      where
        zero_size : (n : ℕ) → (n == 0) ≡ true → n ≡ 0
        zero_size n f = grind (arith, f)
    by_size false f =
        created version t names (all_bytes t v every_key) v (not_above (length (all_bytes t v every_key)) few) f
        (folded version t names v every_key (all_managed version v of) l kept (at_most (length (all_bytes t v every_key)) few)
        (length (all_bytes t v every_key)) nothing (itself (length (all_bytes t v every_key))) (some_bytes (length (all_bytes t v every_key)) f)
        ∙ ap (λ (u : Voucher). Ok u) (filled_all v))
      where
        not_above : (n : ℕ) → nat_le n 5120 ≡ true → nat_lt 5120 n ≡ false
        not_above n f = grind (arith, f)

        at_most : (n : ℕ) → nat_le n 5120 ≡ true → n ≤ 5120
        at_most n f = grind (arith, f)

        itself : (n : ℕ) → n ≤ n
        itself n = omega arith

        some_bytes : (n : ℕ) → (n == 0) ≡ false → 1 ≤ n
        some_bytes n f = grind (arith, f)

pub make_again : MakeAgain
make_again version t names v of l whole = by_values (equal_vouchers v nothing) refl whole
  where
    by_values : (c : Bool) → equal_vouchers v nothing ≡ c
        → (all_kept t v every_key && nat_le (length (if c then clear else all_bytes t v every_key)) 5120) ≡ true
        → create version names t (if c then clear else all_bytes t v every_key) ≡ Ok (Some v)
    by_values true e w = cleared version t names ∙ ap (λ (u : Voucher). Ok (Some u)) (sym (emptied v e))
    by_values false e w = with_values version t names v of l (and_left _ _ w) (and_right _ _ w) e
