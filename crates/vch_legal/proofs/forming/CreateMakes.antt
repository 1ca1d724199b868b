-- What a create has formed, where a manager answers.
use Rattle.std.proofs.Common.{◌≡◌, ℕ, suc, ◌+◌, Bool, List, [], ◌∷◌, refl, true, false, sym, ap, ◌∙◌, subst, length, drop, Some, None, Option, Ok, Err, Result}
use Rattle.std.specs.Prelude.{◌==◌, ℤ, if◌then◌else◌, not, ◌&&◌}
use Rattle.vch_base.specs.declared.key.Key.{Key}
use Rattle.vch_base.specs.declared.key.Key.TheVariants as keys
use Rattle.vch_base.specs.declared.key.TheConstants.{ALL_KEYS}
use Rattle.vch_base.specs.declared.commands.TheConstants as commands
use Rattle.vch_base.specs.Keyed.{of_key, with_key}
use Rattle.vch_base.specs.Keys.{managed, key_of}
use Rattle.vch_base.specs.declared.value.Value.{Value}
use Rattle.vch_recipe.specs.Recipes.{First, One, first_of}
use Rattle.vch_recipe.specs.declared.recipe.Recipe.{Recipe}
use Rattle.vch_model.specs.Voucher.{Voucher, nothing}
use Rattle.vch_model.specs.Eval.{answer_to, put_answer, previous_value, redeemed, each_key, eval, eval_all}
use Rattle.vch_model.specs.Legal.{asks, reaches}
use Rattle.vch_machine.specs.State.{is_empty, Handles, Living, Named, value_at, valued}
use Rattle.vch_machine.specs.Making.{Asked, keys_left, head_key, tail_keys, previous_of, asked_record, asked_first}
use Rattle.vch_legal.specs.Tie.{previous_in, redeem_keys, ahead_create, ahead_first, KeysFit, AllAmong, FormsCreate, moved_keys_first, moved_place_first, IsEvaluated}
use Rattle.vch_legal.proofs.forming.Evaluated.{record_evaluated, all_evaluated}
use Rattle.vch_legal.proofs.facts.Choices.{cases_bool, some_eq}
use Rattle.vch_legal.proofs.forming.Forming.{eval_bound}
use Rattle.vch_legal.proofs.forming.Records.{seen_names, previous_alike, eval_asked, carried_one, carried_all, redeems}
use Rattle.vch_legal.proofs.forming.Creates.{Names, behind_enough, one_above, then_eval, eval_step, reaches_asking, behind, refused_forms}

-- redeeming the keys that are left is a change at each of them
redeem_each : (p : Option Voucher) (ks : List Key) (map : Voucher)
    → redeem_keys ks p map ≡ each_key (λ k. redeemed k p) ks map
redeem_each p [] map = refl
redeem_each p (k ∷ ks) map = redeem_each p ks (redeemed k p map)

-- what is ahead of a record that redeems all keys
all_before : (version : ℕ) (names : Names) (t : ℕ) (b : List ℕ) (ks : List Key) (map : Voucher) (r : Recipe)
    (rest : List ℕ) → first_of b ≡ One r rest → asks version names r ≡ true → (r.key == ALL_KEYS) ≡ true
    → ahead_create version names t ks map b
    ≡ eval_all version (suc (length rest)) names t
    (redeem_keys (keys_left version ks) (previous_in names r.previous) map) rest
all_before version names t b [] map r rest e it_asks all =
    eval_step version names t map b r rest e
    ∙ (ap (then_eval version (suc (length rest)) names t rest) (eval_asked version names t r map it_asks
    ∙ carried_all version names t r (previous_in names r.previous) map it_asks all)
    ∙ ap (λ next. eval_all version (suc (length rest)) names t next rest)
    (sym (redeem_each (previous_in names r.previous) (managed version) map)))
all_before version names t b (k ∷ ks) map r rest e it_asks all =
    ap (λ (x : First). ahead_first version names t (length b) (k ∷ ks) map x) e
    ∙ eval_bound version (length b) (suc (length rest)) names t
    (redeem_keys (k ∷ ks) (previous_in names r.previous) map) rest (behind_enough b r rest e) (one_above rest)

-- the keys, and the place, once the first of the keys that are left is done
abbrev keys_then : Recipe → List Key → List Key
keys_then r left = if (r.key == ALL_KEYS) && not (is_empty (tail_keys left)) then tail_keys left else []

abbrev place_then : Recipe → List Key → ℕ → ℕ
place_then r left place =
    if (r.key == ALL_KEYS) && not (is_empty (tail_keys left)) then place else place + (16 + length r.content)

all_behind : (version : ℕ) (names : Names) (t : ℕ) (bytes : List ℕ) (place : ℕ) (k : Key) (ks : List Key)
    (map : Voucher)
    (r : Recipe) (rest : List ℕ) → first_of (drop place bytes) ≡ One r rest → (r.key == ALL_KEYS) ≡ true
    → eval_all version (suc (length rest)) names t (redeem_keys ks (previous_in names r.previous) map) rest
    ≡ ahead_create version names t (keys_then r (k ∷ ks)) map (drop (place_then r (k ∷ ks) place) bytes)
all_behind version names t bytes place k [] map r rest e all =
    rw all (sym (ap (λ b. eval_all version (suc (length b)) names t map b) (behind place bytes r rest e)))
all_behind version names t bytes place k (g ∷ ks) map r rest e all =
    rw all (eval_bound version (suc (length rest)) (length (drop place bytes)) names t
    (redeem_keys (g ∷ ks) (previous_in names r.previous) map) rest (one_above rest)
    (behind_enough (drop place bytes) r rest e)
    ∙ sym (ap (λ (x : First). ahead_first version names t (length (drop place bytes)) (g ∷ ks) map x) e))

-- what is ahead of it is what is ahead once its next key is done
all_ahead : (version : ℕ) (names : Names) (t : ℕ) (bytes : List ℕ) (place : ℕ) (ks : List Key) (k : Key) (map : Voucher)
    (r : Recipe) (rest : List ℕ) → first_of (drop place bytes) ≡ One r rest → asks version names r ≡ true
    → (r.key == ALL_KEYS) ≡ true → head_key (keys_left version ks) ≡ Some k
    → ahead_create version names t ks map (drop place bytes)
    ≡ ahead_create version names t (moved_keys_first version ks (One r rest))
    (redeemed k (previous_in names r.previous) map) (drop (moved_place_first version ks place (One r rest)) bytes)
all_ahead version names t bytes place [] k map r rest e it_asks all head =
    subst (λ g. ahead_create version names t [] map (drop place bytes)
    ≡ ahead_create version names t (moved_keys_first version [] (One r rest))
    (redeemed g (previous_in names r.previous) map) (drop (moved_place_first version [] place (One r rest)) bytes))
    (some_eq keys.Importance k head)
    (all_before version names t (drop place bytes) [] map r rest e it_asks all
    ∙ all_behind version names t bytes place keys.Importance (tail_keys (managed version))
    (redeemed keys.Importance (previous_in names r.previous) map) r rest e all)
all_ahead version names t bytes place (h ∷ ks) k map r rest e it_asks all head =
    subst (λ g. ahead_create version names t (h ∷ ks) map (drop place bytes)
    ≡ ahead_create version names t (moved_keys_first version (h ∷ ks) (One r rest))
    (redeemed g (previous_in names r.previous) map) (drop (moved_place_first version (h ∷ ks) place (One r rest))
    bytes))
    (some_eq h k head)
    (all_before version names t (drop place bytes) (h ∷ ks) map r rest e it_asks all
    ∙ all_behind version names t bytes place h ks (redeemed h (previous_in names r.previous) map) r rest e all)

then_fit : (version : ℕ) (names : Names) (bytes : List ℕ) (place : ℕ) (k : Key) (ks : List Key) (r : Recipe)
    (rest : List ℕ) → first_of (drop place bytes) ≡ One r rest → asks version names r ≡ true
    → (r.key == ALL_KEYS) ≡ true
    → KeysFit version names (keys_then r (k ∷ ks)) (first_of (drop (place_then r (k ∷ ks) place) bytes))
then_fit version names bytes place k [] r rest e it_asks all = rw all tt
then_fit version names bytes place k (g ∷ ks) r rest e it_asks all = rw (all, e) (all, it_asks)

keys_fit : (version : ℕ) (names : Names) (bytes : List ℕ) (place : ℕ) (ks : List Key) (r : Recipe) (rest : List ℕ)
    → first_of (drop place bytes) ≡ One r rest → asks version names r ≡ true → (r.key == ALL_KEYS) ≡ true
    → KeysFit version names (moved_keys_first version ks (One r rest))
    (first_of (drop (moved_place_first version ks place (One r rest)) bytes))
keys_fit version names bytes place [] r rest e it_asks all =
    then_fit version names bytes place keys.Importance (tail_keys (managed version)) r rest e it_asks all
keys_fit version names bytes place (k ∷ ks) r rest e it_asks all =
    then_fit version names bytes place k ks r rest e it_asks all

-- the managed keys are found among themselves
pub managed_among : (version : ℕ) → AllAmong (managed version) (managed version)
managed_among version = by_test (version == 2)
  where
    by_test : (b : Bool) → AllAmong (keys.Importance ∷ keys.Bank ∷ keys.User ∷ (if b then keys.Test ∷ [] else []))
        (keys.Importance ∷ keys.Bank ∷ keys.User ∷ (if b then keys.Test ∷ [] else []))
    by_test true = (refl, (refl, (refl, (refl, tt))))
    by_test false = (refl, (refl, (refl, tt)))

then_among : (all : List Key) (k : Key) (ks : List Key) (b : Bool) → AllAmong all (k ∷ ks)
    → AllAmong all (if b then ks else [])
then_among all k ks true h = h.1
then_among all k ks false h = tt

pub moved_among : (version : ℕ) (ks : List Key) (r : Recipe) (rest : List ℕ) → AllAmong (managed version) ks
    → AllAmong (managed version) (moved_keys_first version ks (One r rest))
moved_among version [] r rest h =
    then_among (managed version) keys.Importance (tail_keys (managed version)) _ (managed_among version)
moved_among version (k ∷ ks) r rest h = then_among (managed version) k ks _ h

-- the whole create reaches a record that asks
pub reaches_whole : (version : ℕ) (names : Names) (t : ℕ) (bytes : List ℕ) (place : ℕ) (ks : List Key) (map : Voucher)
    (r : Recipe) (rest : List ℕ) → FormsCreate version names t bytes place ks map
    → first_of (drop place bytes) ≡ One r rest → asks version names r ≡ true
    → reaches version (length bytes) names t nothing bytes ≡ true
reaches_whole version names t bytes place ks map r rest f e it_asks = f.may
    (reaches_asking version names t ks map (drop place bytes) r rest e it_asks)

-- what an answer does: a code is that of the whole create, and a value or none is put into the map
abbrev pub CreateGoes : ℕ → Names → ℕ → List ℕ → ℕ → List Key → Voucher → First → Key → Result (Option Value) ℤ → Type 0
CreateGoes version names t bytes place ks map first k (Err code) =
    eval_all version (length bytes) names t nothing bytes ≡ Err code
CreateGoes version names t bytes place ks map first k (Ok y) = FormsCreate version names t bytes
    (moved_place_first version ks place first) (moved_keys_first version ks first) (with_key k y map)

all_goes : (version : ℕ) (names : Names) (t : ℕ) (bytes : List ℕ) (place : ℕ) (ks : List Key) (k : Key) (map : Voucher)
    (r : Recipe) (rest : List ℕ) (y : Option Value) → FormsCreate version names t bytes place ks map
    → first_of (drop place bytes) ≡ One r rest → asks version names r ≡ true → (r.key == ALL_KEYS) ≡ true
    → head_key (keys_left version ks) ≡ Some k → y ≡ previous_value k (previous_in names r.previous) map
    → CreateGoes version names t bytes place ks map (One r rest) k (answer_to k t r.command y r.content)
all_goes version names t bytes place ks k map r rest y f e it_asks all head same =
    let c : (r.command == commands.REDEEM) ≡ true = (redeems version names r it_asks all).0 in
    let n : (length r.content == 0) ≡ true = (redeems version names r it_asks all).1 in
    subst (λ (x : Result (Option Value) ℤ). CreateGoes version names t bytes place ks map (One r rest) k x)
    (sym (bare c n))
    (record {
      some = f.some;
      few = f.few;
      made = ap (λ x. ahead_create version names t (moved_keys_first version ks (One r rest)) (with_key k x map)
          (drop (moved_place_first version ks place (One r rest)) bytes)) same
          ∙ (sym (all_ahead version names t bytes place ks k map r rest e it_asks all head) ∙ f.made);
      may = λ _. reaches_whole version names t bytes place ks map r rest f e it_asks;
      evaluated = subst (λ (z : Option Value). IsEvaluated version names t bytes (moved_place_first version ks place (One r rest))
          (moved_keys_first version ks (One r rest)) (with_key k z map)) (sym same)
          (all_evaluated version names t bytes place ks k map r rest f.evaluated e it_asks all head);
      fit = keys_fit version names bytes place ks r rest e it_asks all;
      keys_managed = moved_among version ks r rest f.keys_managed;
    })
  where
    bare : (r.command == commands.REDEEM) ≡ true → (length r.content == 0) ≡ true
        → answer_to k t r.command y r.content ≡ Ok y
    bare c n = rw (c, n) refl

-- where a record at one key is, no keys are left
no_keys : (version : ℕ) (names : Names) (ks : List Key) (r : Recipe) (rest : List ℕ)
    → KeysFit version names ks (One r rest) → (r.key == ALL_KEYS) ≡ false → ks ≡ []
no_keys version names [] r rest fit one = refl
no_keys version names (k ∷ ks) r rest fit one = let h : (r.key == ALL_KEYS) ≡ true = fit.0 in cc

one_goes : (version : ℕ) (names : Names) (t : ℕ) (bytes : List ℕ) (place : ℕ) (map : Voucher) (r : Recipe)
    (rest : List ℕ) (k : Key) (reply : Result (Option Value) ℤ) → FormsCreate version names t bytes place [] map
    → first_of (drop place bytes) ≡ One r rest → asks version names r ≡ true → (r.key == ALL_KEYS) ≡ false
    → eval version names t r map ≡ put_answer k map reply
    → CreateGoes version names t bytes place [] map (One r rest) k reply
one_goes version names t bytes place map r rest k (Err code) f e it_asks one g =
    refused_forms version names t bytes place map r rest code f e g
one_goes version names t bytes place map r rest k (Ok y) f e it_asks one g = rw one (record {
  some = f.some;
  few = f.few;
  made = ap (λ b. eval_all version (suc (length b)) names t (with_key k y map) b) (behind place bytes r rest e)
      ∙ (sym (eval_step version names t map (drop place bytes) r rest e
      ∙ ap (then_eval version (suc (length rest)) names t rest) g)
      ∙ f.made);
  may = λ _. reaches_whole version names t bytes place [] map r rest f e it_asks;
  evaluated = record_evaluated version names t bytes place map (with_key k y map) r rest f.evaluated e g;
  fit = tt;
  keys_managed = tt;
})

-- what the manager answers to a record of a create
pub asked_forms : (version : ℕ) (live : List Living) (named : List Named) (t : ℕ) (bytes : List ℕ) (place : ℕ)
    (ks : List Key) (v : Handles) (r : Recipe) (rest : List ℕ) (a : Asked)
    → FormsCreate version (seen_names live named) t bytes place ks (valued live v)
    → first_of (drop place bytes) ≡ One r rest → asks version (seen_names live named) r ≡ true
    → asked_first version live named t ks v (One r rest) ≡ Some a
    → CreateGoes version (seen_names live named) t bytes place ks (valued live v) (One r rest) a.key a.reply
asked_forms version live named t bytes place ks v r rest a f e it_asks g =
    cases_bool (r.key == ALL_KEYS) (CreateGoes version (seen_names live named) t bytes place ks (valued live v)
    (One r rest) a.key a.reply)
    (λ all. let h : asked_record live named t v r (head_key (keys_left version ks)) ≡ Some a = rw all at g in
    of_all all (head_key (keys_left version ks)) refl h)
    (λ one. of_one one (key_of version r.key) refl (rw one at g))
  where
    names : Names
    names = seen_names live named

    of_all : (r.key == ALL_KEYS) ≡ true → (o : Option Key) → head_key (keys_left version ks) ≡ o
        → asked_record live named t v r o ≡ Some a
        → CreateGoes version names t bytes place ks (valued live v) (One r rest) a.key a.reply
    of_all all None same h = cc
    of_all all (Some k) same h =
        subst (λ (x : Asked). CreateGoes version (seen_names live named) t bytes place ks (valued live v) (One r rest)
        x.key x.reply) (some_eq _ a h)
        (all_goes version (seen_names live named) t bytes place ks k (valued live v) r rest
        (value_at live k (of_key k (previous_of named v r.previous))) f e it_asks all same
        (previous_alike live named v r.previous k))

    of_one : (r.key == ALL_KEYS) ≡ false → (o : Option Key) → key_of version r.key ≡ o
        → asked_record live named t v r o ≡ Some a
        → CreateGoes version names t bytes place ks (valued live v) (One r rest) a.key a.reply
    of_one one None i h = cc
    of_one one (Some k) i h =
        subst (λ (x : Asked). CreateGoes version (seen_names live named) t bytes place ks (valued live v) (One r rest)
        x.key x.reply) (some_eq _ a h)
        (subst (λ (xs : List Key). CreateGoes version (seen_names live named) t bytes place xs (valued live v)
        (One r rest) k
        (answer_to k t r.command (value_at live k (of_key k (previous_of named v r.previous))) r.content)) (sym empty)
        (one_goes version (seen_names live named) t bytes place (valued live v) r rest k _
        (subst (λ (xs : List Key). FormsCreate version (seen_names live named) t bytes place xs (valued live v))
        empty f)
        e it_asks one
        (eval_asked version (seen_names live named) t r (valued live v) it_asks
        ∙ (carried_one version (seen_names live named) t r (previous_in (seen_names live named) r.previous)
        (valued live v) k it_asks one i
        ∙ ap (λ x. put_answer k (valued live v) (answer_to k t r.command x r.content))
        (sym (previous_alike live named v r.previous k))))))
      where
        empty : ks ≡ []
        empty = no_keys version (seen_names live named) ks r rest
            (subst (KeysFit version (seen_names live named) ks) e f.fit) one
