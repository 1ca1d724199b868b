-- What a create has formed, through Work and Make, and at its end.
use Rattle.std.proofs.Common.{◌≡◌, ℕ, zero, suc, ◌+◌, ◌≤◌, Bool, List, [], ◌∷◌, refl, true, false, ◌||◌, arith, sym, ap, ◌∙◌, subst, length, drop, Option, Ok, Err, Result}
use Rattle.std.proofs.Math.Seq.{drop-drop}
use Rattle.std.specs.Prelude.{ℤ, ◌==◌}
use Rattle.vch_base.specs.declared.key.Key.{Key}
use Rattle.vch_base.specs.declared.codes.TheConstants.{KERN_INVALID_ARGUMENT}
use Rattle.vch_recipe.specs.Recipes.{First, One, End, HeaderCut, ContentCut, first_of}
use Rattle.vch_recipe.specs.declared.recipe.Recipe.{Recipe}
use Rattle.vch_model.specs.Voucher.{Voucher, nothing}
use Rattle.vch_model.specs.Eval.{eval, eval_all}
use Rattle.vch_model.specs.Legal.{asks, reaches}
use Rattle.vch_legal.specs.Tie.{reaches_on, FormsCreate}
use Rattle.vch_legal.proofs.forming.Evaluated.{record_evaluated}
use Rattle.vch_legal.proofs.forming.Forming.{Enough, rest_of, eval_bound}

abbrev pub Names : Type 0
Names = ℕ → Option Voucher

-- the bytes of a record are enough for what is behind it
pub behind_enough : (b : List ℕ) (r : Recipe) (rest : List ℕ) → first_of b ≡ One r rest → Enough rest (length b)
behind_enough b r rest e = let s : length rest + 16 ≤ length b = (rest_of b r rest e).header in
    record { least = omega arith; all = omega arith }

pub one_above : (b : List ℕ) → Enough b (suc (length b))
one_above b = record { least = omega arith; all = omega arith }

pub there_enough : (b : List ℕ) → (length b == 0) ≡ false → Enough b (length b)
there_enough b e = record { least = positive (length b) e; all = omega arith }
  where
    positive : (n : ℕ) → (n == 0) ≡ false → 1 ≤ n
    positive n e = grind arith

-- what follows a record
abbrev pub then_eval : ℕ → ℕ → Names → ℕ → List ℕ → Result Voucher ℤ → Result Voucher ℤ
then_eval version n names t rest (Ok next) = eval_all version n names t next rest
then_eval version n names t rest (Err code) = Err code

abbrev pub then_reaches : ℕ → ℕ → Names → ℕ → List ℕ → Result Voucher ℤ → Bool
then_reaches version n names t rest (Ok next) = reaches version n names t next rest
then_reaches version n names t rest (Err code) = false

eval_one : (version n : ℕ) (names : Names) (t : ℕ) (map : Voucher) (b : List ℕ) (r : Recipe) (rest : List ℕ)
    → first_of b
    ≡ One r rest
    → eval_all version (suc n) names t map b ≡ then_eval version n names t rest (eval version names t r map)
unfolding eval_all
eval_one version n names t map b r rest e =
    subst (λ (x : First). ◌≡◌ {A = Result Voucher ℤ}
    (elim x [
      | One r rest ↦ elim (eval version names t r map) [
        | Ok next ↦ eval_all version n names t next rest
        | Err code ↦
            Err code
      ]
      | End ↦ Ok map
      | HeaderCut left ↦ Err KERN_INVALID_ARGUMENT
      | ContentCut wanted left ↦ Err KERN_INVALID_ARGUMENT
    ])
    (then_eval version n names t rest (eval version names t r map))) (sym e) (by_result (eval version names t r map))
  where
    by_result : (x : Result Voucher ℤ) → ◌≡◌ {A = Result Voucher ℤ}
        (elim x [ Ok next ↦ eval_all version n names t next rest | Err code ↦ Err code ])
        (then_eval version n names t rest x)
    by_result (Ok next) = refl
    by_result (Err code) = refl

reaches_one : (version n : ℕ) (names : Names) (t : ℕ) (map : Voucher) (b : List ℕ) (r : Recipe) (rest : List ℕ)
    → first_of b
    ≡ One r rest
    → reaches version (suc n) names t map b
    ≡ (asks version names r || then_reaches version n names t rest (eval version names t r map))
unfolding reaches
reaches_one version n names t map b r rest e =
    subst (λ (x : First). (elim x [
      | One r rest ↦ asks version names r ||
          (elim (eval version names t r map) [ Ok next ↦ reaches version n names t next rest | Err code ↦ false ])
      | End
          ↦ true
      | HeaderCut left ↦ false
      | ContentCut wanted left ↦ false
    ])
    ≡ (asks version names r || then_reaches version n names t rest (eval version names t r map))) (sym e)
    (ap (λ b. asks version names r || b) (by_result (eval version names t r map)))
  where
    by_result : (x : Result Voucher ℤ) → (elim x [ Ok next ↦ reaches version n names t next rest | Err code ↦ false ])
        ≡ then_reaches version n names t rest x
    by_result (Ok next) = refl
    by_result (Err code) = refl

pub eval_other : (version n : ℕ) (names : Names) (t : ℕ) (map : Voucher) (b : List ℕ) (first : First) (x : Result Voucher ℤ)
    → first_of b ≡ first
    → ◌≡◌ {A = Result Voucher ℤ} (elim first [
      | One r rest ↦ elim (eval version names t r map)
          [ Ok next ↦ eval_all version n names t next rest | Err code ↦ Err code ]
      | End ↦ Ok map
      | HeaderCut left
          ↦ Err KERN_INVALID_ARGUMENT
      | ContentCut wanted left ↦ Err KERN_INVALID_ARGUMENT
    ]) x
    → eval_all version (suc n) names t map b ≡ x
unfolding eval_all
eval_other version n names t map b first x e h =
    subst (λ (y : First). ◌≡◌ {A = Result Voucher ℤ}
    (elim y [
      | One r rest ↦ elim (eval version names t r map) [
        | Ok next ↦ eval_all version n names t next rest
        | Err code ↦
            Err code
      ]
      | End ↦ Ok map
      | HeaderCut left ↦ Err KERN_INVALID_ARGUMENT
      | ContentCut wanted left ↦ Err KERN_INVALID_ARGUMENT
    ]) x) (sym e) h

-- bytes that begin with no whole record reach nothing but their end
pub reaches_other : (version n : ℕ) (names : Names) (t : ℕ) (map : Voucher) (b : List ℕ) (first : First) (x : Bool)
    → first_of b ≡ first
    → ◌≡◌ {A = Bool} (elim first [
      | One r rest ↦ asks version names r ||
          (elim (eval version names t r map) [ Ok next ↦ reaches version n names t next rest | Err code ↦ false ])
      | End
          ↦ true
      | HeaderCut left ↦ false
      | ContentCut wanted left ↦ false
    ]) x
    → reaches version (suc n) names t map b ≡ x
unfolding reaches
reaches_other version n names t map b first x e h =
    subst (λ (y : First). ◌≡◌ {A = Bool}
    (elim y [
      | One r rest ↦ asks version names r ||
          (elim (eval version names t r map) [ Ok next ↦ reaches version n names t next rest | Err code ↦ false ])
      | End
          ↦ true
      | HeaderCut left ↦ false
      | ContentCut wanted left ↦ false
    ]) x) (sym e) h

-- the fold over some bytes is one over what follows their first record
pub eval_step : (version : ℕ) (names : Names) (t : ℕ) (map : Voucher) (b : List ℕ) (r : Recipe) (rest : List ℕ)
    → first_of b ≡ One r rest → eval_all version (suc (length b)) names t map b
    ≡ then_eval version (suc (length rest)) names t rest (eval version names t r map)
eval_step version names t map b r rest e =
    eval_one version (length b) names t map b r rest e ∙ by_result (eval version names t r map)
  where
    by_result : (x : Result Voucher ℤ) → then_eval version (length b) names t rest x
        ≡ then_eval version (suc (length rest)) names t rest x
    by_result (Ok next) = eval_bound version (length b) (suc (length rest)) names t next rest
        (behind_enough b r rest e) (one_above rest)
    by_result (Err code) = refl

-- one step of whether the end is reached
pub reaches_bound : (version n k : ℕ) (names : Names) (t : ℕ) (map : Voucher) (b : List ℕ) → Enough b n → Enough b k
    → reaches version n names t map b ≡ reaches version k names t map b
unfolding reaches
reaches_bound version zero k names t map b l m = let i : 1 ≤ 0 = l.least in absurd (omega arith)
reaches_bound version (suc n) zero names t map b l m = let i : 1 ≤ 0 = m.least in absurd (omega arith)
reaches_bound version (suc n) (suc k) names t map b l m =
    by_first (first_of b) (λ r rest next e. let s : length rest + 16 ≤ length b = (rest_of b r rest e).header in
    let i : length b ≤ suc n = l.all in let j : length b ≤ suc k = m.all in
    reaches_bound version n k names t next rest (record { least = omega arith; all = omega arith })
    (record { least = omega arith; all = omega arith }))
  where
    by_first : (first : First) → ((r : Recipe) (rest : List ℕ) (next : Voucher) → first ≡ One r rest
        → reaches version n names t next rest ≡ reaches version k names t next rest)
        → ◌≡◌ {A = Bool} (elim first [
          | One r rest ↦ asks version names r ||
              (elim (eval version names t r map) [ Ok next ↦ reaches version n names t next rest | Err code ↦ false ])
          | End
              ↦ true
          | HeaderCut left ↦ false
          | ContentCut wanted left ↦ false
        ])
        (elim first [
          | One r rest ↦ asks version names r || (elim (eval version names t r map)
              [ Ok next ↦ reaches version k names t next rest | Err code ↦ false ])
          | End ↦ true
          | HeaderCut left
              ↦ false
          | ContentCut wanted left ↦ false
        ])
    by_first (One r rest) h = ap (λ b. asks version names r || b) (of_result (eval version names t r map))
      where
        of_result : (x : Result Voucher ℤ) → ◌≡◌ {A = Bool}
            (elim x [ Ok next ↦ reaches version n names t next rest | Err code ↦ false ])
            (elim x [ Ok next ↦ reaches version k names t next rest | Err code ↦ false ])
        of_result (Ok next) = h r rest next refl
        of_result (Err code) = refl
    by_first End h = refl
    by_first (HeaderCut left) h = refl
    by_first (ContentCut wanted left) h = refl

pub reaches_step : (version : ℕ) (names : Names) (t : ℕ) (map : Voucher) (b : List ℕ) (r : Recipe) (rest : List ℕ)
    → first_of b ≡ One r rest → reaches version (suc (length b)) names t map b
    ≡ (asks version names r || then_reaches version (suc (length rest)) names t rest (eval version names t r map))
reaches_step version names t map b r rest e =
    reaches_one version (length b) names t map b r rest e
    ∙ ap (λ x. asks version names r || x) (by_result (eval version names t r map))
  where
    by_result : (x : Result Voucher ℤ) → then_reaches version (length b) names t rest x
        ≡ then_reaches version (suc (length rest)) names t rest x
    by_result (Ok next) = reaches_bound version (length b) (suc (length rest)) names t next rest
        (behind_enough b r rest e) (one_above rest)
    by_result (Err code) = refl

-- where the first record asks a manager, the fold reaches it
pub reaches_asking : (version : ℕ) (names : Names) (t : ℕ) (ks : List Key) (map : Voucher) (b : List ℕ) (r : Recipe)
    (rest : List ℕ)
    → first_of b ≡ One r rest → asks version names r ≡ true → reaches_on version names t ks map b ≡ true
reaches_asking version names t [] map b r rest e a = reaches_step version names t map b r rest e
    ∙ ap (λ x. x || then_reaches version (suc (length rest)) names t rest (eval version names t r map)) a
reaches_asking version names t (k ∷ ks) map b r rest e a = refl

-- the bytes behind a record
pub behind : (place : ℕ) (bytes : List ℕ) (r : Recipe) (rest : List ℕ) → first_of (drop place bytes) ≡ One r rest
    → drop (place + (16 + length r.content)) bytes ≡ rest
behind place bytes r rest e = sym (drop-drop (16 + length r.content) place bytes)
    ∙ sym ((rest_of (drop place bytes) r rest e).rest_is)

-- a record that asks no manager is done
pub worked_forms : (version : ℕ) (names : Names) (t : ℕ) (bytes : List ℕ) (place : ℕ) (map next : Voucher) (r : Recipe)
    (rest : List ℕ) → FormsCreate version names t bytes place [] map
    → first_of (drop place bytes) ≡ One r rest → asks version names r ≡ false → eval version names t r map ≡ Ok next
    → FormsCreate version names t bytes (place + (16 + length r.content)) [] next
worked_forms version names t bytes place map next r rest f e a g = record {
  some = f.some;
  few = f.few;
  made = ap (λ b. eval_all version (suc (length b)) names t next b) (behind place bytes r rest e)
      ∙ (sym (eval_step version names t map (drop place bytes) r rest e
      ∙ ap (then_eval version (suc (length rest)) names t rest) g)
      ∙ f.made);
  may = λ h. f.may (reaches_step version names t map (drop place bytes) r rest e
      ∙ (ap (λ x. x || then_reaches version (suc (length rest)) names t rest (eval version names t r map)) a
      ∙ (ap (then_reaches version (suc (length rest)) names t rest) g
      ∙ (sym (ap (λ b. reaches version (suc (length b)) names t next b) (behind place bytes r rest e)) ∙ h))));
  evaluated = record_evaluated version names t bytes place map next r rest f.evaluated e g;
  fit = tt;
  keys_managed = tt;
}

-- a record that is refused gives its code
pub refused_forms : (version : ℕ) (names : Names) (t : ℕ) (bytes : List ℕ) (place : ℕ) (map : Voucher) (r : Recipe)
    (rest : List ℕ)
    (code : ℤ) → FormsCreate version names t bytes place [] map
    → first_of (drop place bytes) ≡ One r rest → eval version names t r map ≡ Err code
    → eval_all version (length bytes) names t nothing bytes ≡ Err code
refused_forms version names t bytes place map r rest code f e g = sym f.made
    ∙ (eval_step version names t map (drop place bytes) r rest e
    ∙ ap (then_eval version (suc (length rest)) names t rest) g)

-- bytes that are cut give code 4
abbrev pub Cut : First → Type 0
Cut (One r rest) = ⊥
Cut End = ⊥
Cut (HeaderCut left) = Unit {0}
Cut (ContentCut wanted left) = Unit {0}

pub cut_forms : (version : ℕ) (names : Names) (t : ℕ) (bytes : List ℕ) (place : ℕ) (map : Voucher) (first : First)
    → FormsCreate version names t bytes place [] map → first_of (drop place bytes) ≡ first → Cut first
    → eval_all version (length bytes) names t nothing bytes ≡ Err KERN_INVALID_ARGUMENT
cut_forms version names t bytes place map first f e cut = sym f.made ∙ by_bytes (drop place bytes) first e cut
  where
    by_bytes : (b : List ℕ) (first : First) → first_of b ≡ first → Cut first
        → eval_all version (suc (length b)) names t map b
        ≡ Err KERN_INVALID_ARGUMENT
    by_bytes b (HeaderCut left) e cut = eval_other version (length b) names t map b (HeaderCut left)
        (Err KERN_INVALID_ARGUMENT) e refl
    by_bytes b (ContentCut wanted left) e cut = eval_other version (length b) names t map b
        (ContentCut wanted left) (Err KERN_INVALID_ARGUMENT) e refl
    by_bytes b (One r rest) e cut = absurd cut
    by_bytes b End e cut = absurd cut

-- at the end of the bytes the map is the one that the whole create makes, and the end is reached
pub ended_forms : (version : ℕ) (names : Names) (t : ℕ) (bytes : List ℕ) (place : ℕ) (map : Voucher)
    → FormsCreate version names t bytes place [] map → first_of (drop place bytes) ≡ End
    → (eval_all version (length bytes) names t nothing bytes
    ≡ Ok map) × (reaches version (length bytes) names t nothing bytes ≡ true)
unfolding eval_all reaches
ended_forms version names t bytes place map f e = (
  sym f.made ∙ by_bytes (drop place bytes) e,
  f.may
      (reached (drop place bytes) e),
)
  where
    by_bytes : (b : List ℕ) → first_of b ≡ End → eval_all version (suc (length b)) names t map b ≡ Ok map
    by_bytes b e = eval_other version (length b) names t map b End (Ok map) e refl

    reached : (b : List ℕ) → first_of b ≡ End → reaches version (suc (length b)) names t map b ≡ true
    reached b e = subst (λ (y : First). (elim y [
      | One r rest ↦ asks version names r || (elim (eval version names t r map)
          [ Ok next ↦ reaches version (length b) names t next rest | Err code ↦ false ])
      | End ↦ true
      | HeaderCut left
          ↦ false
      | ContentCut wanted left ↦ false
    ]) ≡ true) (sym e) refl
