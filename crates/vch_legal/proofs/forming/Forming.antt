-- What a frame forms, step by step.
use Rattle.std.proofs.Common.{◌≡◌, ℕ, zero, suc, ◌+◌, ◌-◌, ◌<◌, ◌≤◌, List, refl, true, false, arith, sym, ap, ◌∙◌, length, map, take, drop, Some, None, Option, Ok, Err, Result, length-drop}
use Rattle.std.specs.Prelude.{is_some, ◌==◌, nat_lt, ℤ}
use Rattle.std.proofs.lemmas.Grind.{common_steps}
use Rattle.std.proofs.Math.Seq.{drop-drop}
use Rattle.vch_base.specs.declared.key.Key.{Key}
use Rattle.vch_base.specs.declared.key.Key.TheVariants as keys
use Rattle.vch_base.specs.declared.codes.TheConstants.{KERN_INVALID_ARGUMENT}
use Rattle.vch_recipe.specs.Recipes.{First, One, End, HeaderCut, ContentCut, first_of, content_of, word_at}
use Rattle.vch_recipe.specs.declared.recipe.Recipe.{Recipe}
use Rattle.vch_model.specs.Voucher.{Voucher, equal_options}
use Rattle.vch_model.specs.Eval.{eval, eval_all}
use Rattle.vch_base.specs.Keyed.{with_key}
use Rattle.vch_machine.specs.State.{Handles, Living, living_at, value_of, value_at, valued, is_handle}
use Rattle.vch_machine.specs.Naming.{same_handle}
use Rattle.vch_legal.specs.Facts.{Different}
use Rattle.vch_legal.proofs.facts.Choices.{cases_bool}
use Rattle.vch_legal.proofs.seen.SeenHeld.{option_value}

-- a handle put into a map is its value put into the voucher
pub valued_with : (live : List Living) (k : Key) (x : Option ℕ) (v : Handles) → valued live (with_key k x v)
    ≡ with_key k (value_at live k x) (valued live v)
valued_with live keys.Importance x v = refl
valued_with live keys.Bank x v = refl
valued_with live keys.User x v = refl
valued_with live keys.Test x v = refl

-- handles at one key, of which each is live, are the same where their values are equal
abbrev pub LiveAt : List Living → Key → Option ℕ → Type 0
LiveAt live k None = Unit {0}
LiveAt live k (Some h) = is_some (living_at live (record { key = k; handle = h })) ≡ true

some_value : (live : List Living) (k : Key) (a : Option ℕ) (h : ℕ) (o : Option Living) → Different live
    → living_at live (record { key = k; handle = h }) ≡ o → is_some o ≡ true
    → equal_options (value_at live k a) (value_of o) ≡ is_handle a h
some_value live k a h None d e g = cc
some_value live k a h (Some l) d e g = option_value live k a h l d e

none_value : (o : Option Living) → is_some o ≡ true → equal_options (value_of o) None ≡ false
none_value None g = cc
none_value (Some l) g = refl

pub same_values : (live : List Living) (k : Key) (a b : Option ℕ) → Different live → LiveAt live k a → LiveAt live k b
    → equal_options (value_at live k a) (value_at live k b) ≡ same_handle a b
same_values live k a (Some h) d x y = some_value live k a h (living_at live (record { key = k; handle = h })) d refl y
    ∙ by_a a
  where
    by_a : (a : Option ℕ) → is_handle a h ≡ same_handle a (Some h)
    by_a None = refl
    by_a (Some g) = refl
same_values live k None None d x y = refl
same_values live k (Some g) None d x y = none_value (living_at live (record { key = k; handle = g })) x

-- a record that is there, and what follows it
pub record After (b : List ℕ) (r : Recipe) (rest : List ℕ) : Type 0 where
  pub rest_is : rest ≡ drop (16 + length r.content) b
  pub shorter : length rest < length b
  pub header : length rest + 16 ≤ length b

cut_rest : (b : List ℕ) (w : ℕ) (r : Recipe) (rest : List ℕ) (long : 16 ≤ length b) → (key command previous : ℕ)
    → content_of key command previous w (drop 16 b) ≡ One r rest → After b r rest
cut_rest b w r rest long key command previous e =
    cases_bool (nat_lt (length (drop 16 b)) w) (After b r rest)
    (λ short. let k : ContentCut w (length (drop 16 b)) ≡ One r rest = rw short at e in cc)
    (λ enough. let k : One (record {
      key = key;
      command = command;
      previous = previous;
      content = take w (drop 16 b);
    }) (drop w (drop 16 b)) ≡ One r rest = rw enough at e in
    let c : take w (drop 16 b) ≡ r.content = cc in
    let d : drop w (drop 16 b) ≡ rest = cc in
    let n : length (take w (drop 16 b)) ≡ w = grind (arith, common_steps) in
    let m : length r.content ≡ w = ap length (sym c) ∙ n in
    record {
      rest_is = sym d ∙ (drop-drop-at w b ∙ ap (λ i. drop (16 + i) b) (sym m));
      shorter = let i : length rest + 16 ≤ length b = shorter d in omega arith;
      header = shorter d;
    })
  where
    drop-drop-at : (w : ℕ) (b : List ℕ) → drop w (drop 16 b) ≡ drop (16 + w) b
    drop-drop-at w b = drop-drop w 16 b

    shorter : drop w (drop 16 b) ≡ rest → length rest + 16 ≤ length b
    shorter d = let i : length rest ≡ length (drop w (drop 16 b)) = ap length (sym d) in
        let j : length (drop w (drop 16 b)) ≡ length b - 16 - w = length-drop w (drop 16 b)
        ∙ ap (λ x. x - w) (length-drop 16 b) in omega arith

pub rest_of : (b : List ℕ) (r : Recipe) (rest : List ℕ) → first_of b ≡ One r rest → After b r rest
rest_of b r rest e =
    cases_bool (length b == 0) (After b r rest)
    (λ empty. let k : End ≡ One r rest = rw empty at e in cc)
    (λ some. cases_bool (nat_lt (length b) 16) (After b r rest)
    (λ short. let k : HeaderCut (length b) ≡ One r rest = rw (some, short) at e in cc)
    (λ long. cut_rest b (word_at 12 b) r rest (sixteen (length b) long) (word_at 0 b) (word_at 4 b) (word_at 8 b)
    (rw (some, long) at e)))
  where
    sixteen : (n : ℕ) → nat_lt n 16 ≡ false → 16 ≤ n
    sixteen n h = grind arith

-- one step of the fold
step_bound : (version n k : ℕ) (names : ℕ → Option Voucher) (t : ℕ) (first : First) (map : Voucher)
    → ((r : Recipe) (rest : List ℕ) (next : Voucher) → first ≡ One r rest → eval_all version n names t next rest
    ≡ eval_all version k names t next rest)
    → ◌≡◌ {A = Result Voucher ℤ} (elim first [
      | One r rest ↦ elim (eval version names t r map)
          [ Ok next ↦ eval_all version n names t next rest | Err code ↦ Err code ]
      | End ↦ Ok map
      | HeaderCut left
          ↦ Err KERN_INVALID_ARGUMENT
      | ContentCut wanted left ↦ Err KERN_INVALID_ARGUMENT
    ])
    (elim first [
      | One r rest ↦ elim (eval version names t r map)
          [ Ok next ↦ eval_all version k names t next rest | Err code ↦ Err code ]
      | End ↦ Ok map
      | HeaderCut left
          ↦ Err KERN_INVALID_ARGUMENT
      | ContentCut wanted left ↦ Err KERN_INVALID_ARGUMENT
    ])
step_bound version n k names t (One r rest) map h = of_result (eval version names t r map)
  where
    of_result : (x : Result Voucher ℤ) → ◌≡◌ {A = Result Voucher ℤ}
        (elim x [ Ok next ↦ eval_all version n names t next rest | Err code ↦ Err code ])
        (elim x [ Ok next ↦ eval_all version k names t next rest | Err code ↦ Err code ])
    of_result (Ok next) = h r rest next refl
    of_result (Err code) = refl
step_bound version n k names t End map h = refl
step_bound version n k names t (HeaderCut left) map h = refl
step_bound version n k names t (ContentCut wanted left) map h = refl

-- a bound that is never reached
pub record Enough (b : List ℕ) (n : ℕ) : Type 0 where
  pub least : 1 ≤ n
  pub all : length b ≤ n

-- the bound of the fold does not matter once it is large enough
pub eval_bound : (version n k : ℕ) (names : ℕ → Option Voucher) (t : ℕ) (map : Voucher) (b : List ℕ) → Enough b n
    → Enough b k → eval_all version n names t map b ≡ eval_all version k names t map b
unfolding eval_all
eval_bound version zero k names t map b l m = let i : 1 ≤ 0 = l.least in absurd (omega arith)
eval_bound version (suc n) zero names t map b l m = let i : 1 ≤ 0 = m.least in absurd (omega arith)
eval_bound version (suc n) (suc k) names t map b l m =
    step_bound version n k names t (first_of b) map (λ r rest next e. let s : length rest + 16 ≤ length b =
    (rest_of b r rest e).header in
    let i : length b ≤ suc n = l.all in let j : length b ≤ suc k = m.all in
    eval_bound version n k names t next rest (record { least = omega arith; all = omega arith })
    (record { least = omega arith; all = omega arith }))
