-- How a create goes on by its next record, and what all records make.
use Rattle.std.proofs.Common.{◌≡◌, ℕ, suc, ◌+◌, ◌<◌, ◌≤◌, Bool, true, false, ◌||◌, List, refl, sym, ap, ◌∙◌, subst, arith, length, drop, nat_lt, Option, Some, None, Result, Ok, Err}
use Rattle.std.specs.Prelude.{ℤ, ◌==◌}
use Rattle.vch_base.specs.declared.codes.TheConstants.{KERN_INVALID_ARGUMENT, MIG_ARRAY_TOO_LARGE}
use Rattle.vch_base.specs.declared.limits.TheConstants.{ARRAY_BYTES}
use Rattle.vch_books.specs.declared.numbers.Numbers.{Numbers}
use Rattle.vch_base.specs.declared.fault.Code.{Code}
use Rattle.vch_recipe.specs.Recipes.{First, One, End, HeaderCut, ContentCut, first_of}
use Rattle.vch_recipe.specs.declared.recipe.Recipe.{Recipe}
use Rattle.vch_model.specs.Eval.{eval, eval_all, create}
use Rattle.vch_model.specs.Eval as evals
use Rattle.vch_model.specs.Legal.{asks, reaches}
use Rattle.vch_model.specs.Voucher.{Voucher, nothing}
use Rattle.vch_legal.proofs.CallerLemmas.{eval_step, reaches_step, then_eval, then_reaches, eval_other, reaches_other, eval_bound, reaches_bound, one_above, there_enough, record_place, record_rest, record_long}
use Rattle.vch_books.specs.Audits.{Audit}
use Rattle.vch_judge.specs.Creates.{names_at, made_of, reached_of, is_formed, GoesOn, IsOver, IsEvaluated, IsCreated}
use Rattle.vch_judge.specs.Formed.{IsFormed, IsResult, IsVoucher}
use Rattle.vch_judge.specs.declared.create.Evaluation.{Evaluation}
use Rattle.vch_judge.specs.declared.formed.Formed.{Formed}
use Rattle.vch_judge.proofs.Reading.{IsCut}

module _ (a : Audit) (t : ℕ) (bytes : List ℕ) (at : ℕ) (map : Voucher) where
  version : ℕ
  version = a.scenario.version

  pub steps_on : (r : Recipe) (rest : List ℕ) (next : ℕ) (f : Formed) (asked : Bool) → at ≤ length bytes
      → first_of (drop at bytes) ≡ One r rest → next + length rest ≡ length bytes → asked ≡ asks a.scenario.version (names_at a t) r
      → IsResult a (Ok f) (eval a.scenario.version (names_at a t) t r map) → GoesOn a t bytes at map f asked next
  steps_on r rest next f asked inside first place q h = by_result (eval a.scenario.version (names_at a t) t r map) refl h
    where
      next_is : next ≡ at + (16 + length r.content)
      next_is = record_place bytes at next r rest inside first place

      behind_is : drop next bytes ≡ rest
      behind_is = ap (λ n. drop n bytes) next_is ∙ record_rest bytes at r rest first

      by_result : (o : Result Voucher ℤ) → eval a.scenario.version (names_at a t) t r map ≡ o → IsResult a (Ok f) o
          → GoesOn a t bytes at map f asked next
      by_result (Ok m) e h = record {
        then_map = m;
        formed = h;
        further = omega (arith, next_is);
        inside = omega (arith, place);
        made = eval_step a.scenario.version (names_at a t) t map (drop at bytes) r rest first
            ∙ (ap (then_eval a.scenario.version (suc (length rest)) (names_at a t) t rest) e ∙ ap (made_of a t m) (sym behind_is));
        reached = reaches_step a.scenario.version (names_at a t) t map (drop at bytes) r rest first
            ∙ (ap (λ x. asks a.scenario.version (names_at a t) r || x)
            (ap (then_reaches a.scenario.version (suc (length rest)) (names_at a t) t rest) e ∙ ap (reached_of a t m) (sym behind_is))
            ∙ ap (λ x. x || reached_of a t m (drop next bytes)) (sym q));
      }
      by_result (Err code) e h = absurd h

  pub steps_refused : (r : Recipe) (rest : List ℕ) (c : Code) (asked : Bool) → first_of (drop at bytes) ≡ One r rest
      → asked ≡ asks a.scenario.version (names_at a t) r → IsResult a (Err c) (eval a.scenario.version (names_at a t) t r map)
      → IsOver a t (drop at bytes) map (record { outcome = Err c; asked = asked })
  steps_refused r rest c asked first q h = by_result (eval a.scenario.version (names_at a t) t r map) refl h
    where
      by_result : (o : Result Voucher ℤ) → eval a.scenario.version (names_at a t) t r map ≡ o → IsResult a (Err c) o
          → IsOver a t (drop at bytes) map (record { outcome = Err c; asked = asked })
      by_result (Ok m) e h = absurd h
      by_result (Err code) e h = record {
        made = subst (IsResult a (Err c)) (sym (eval_step a.scenario.version (names_at a t) t map (drop at bytes) r rest first
            ∙ ap (then_eval a.scenario.version (suc (length rest)) (names_at a t) t rest) e)) h;
        reached = reaches_step a.scenario.version (names_at a t) t map (drop at bytes) r rest first
            ∙ (ap (λ x. asks a.scenario.version (names_at a t) r || x) (ap (then_reaches a.scenario.version (suc (length rest)) (names_at a t) t rest) e)
            ∙ ap (λ x. x || false) (sym q));
      }

pub steps_end : (a : Audit) (t : ℕ) (b : List ℕ) (map : Voucher) (f : Formed) → first_of b ≡ End → IsFormed a f map
    → IsOver a t b map (record { outcome = Ok f; asked = false })
steps_end a t b map f e h = record {
  made = subst (IsResult a (Ok f)) (sym (eval_other a.scenario.version (length b) (names_at a t) t map b End (Ok map) e refl)) h;
  reached = reaches_other a.scenario.version (length b) (names_at a t) t map b End true e refl;
}

pub steps_cut : (a : Audit) (t : ℕ) (b : List ℕ) (map : Voucher) → IsCut (first_of b)
    → IsOver a t b map (record { outcome = Err (record { number = KERN_INVALID_ARGUMENT }); asked = false })
steps_cut a t b map h = by_first (first_of b) refl h
  where
    cut : (first : First) → first_of b ≡ first → eval_all a.scenario.version (suc (length b)) (names_at a t) t map b ≡ Err KERN_INVALID_ARGUMENT
        → reaches a.scenario.version (suc (length b)) (names_at a t) t map b ≡ false
        → IsOver a t b map (record { outcome = Err (record { number = KERN_INVALID_ARGUMENT }); asked = false })
    cut first e m r = record { made = subst (IsResult a (Err (record { number = KERN_INVALID_ARGUMENT }))) (sym m) refl; reached = r }

    by_first : (first : First) → first_of b ≡ first → IsCut first
        → IsOver a t b map (record { outcome = Err (record { number = KERN_INVALID_ARGUMENT }); asked = false })
    by_first (One r rest) e h = absurd h
    by_first End e h = absurd h
    by_first (HeaderCut left) e h = cut (HeaderCut left) e
        (eval_other a.scenario.version (length b) (names_at a t) t map b (HeaderCut left) (Err KERN_INVALID_ARGUMENT) e refl)
        (reaches_other a.scenario.version (length b) (names_at a t) t map b (HeaderCut left) false e refl)
    by_first (ContentCut wanted left) e h = cut (ContentCut wanted left) e
        (eval_other a.scenario.version (length b) (names_at a t) t map b (ContentCut wanted left) (Err KERN_INVALID_ARGUMENT) e refl)
        (reaches_other a.scenario.version (length b) (names_at a t) t map b (ContentCut wanted left) false e refl)

-- a create that has come so far
pub record Comes (a : Audit) (t : ℕ) (bytes : List ℕ) (at : ℕ) (f : Formed) (asked : Bool) : Type 0 where
  pub map : Voucher
  pub formed : IsFormed a f map
  pub inside : at ≤ length bytes
  pub made : made_of a t map (drop at bytes) ≡ eval_all a.scenario.version (length bytes) (names_at a t) t nothing bytes
  pub reached : reaches a.scenario.version (length bytes) (names_at a t) t nothing bytes ≡ (asked || reached_of a t map (drop at bytes))

some_bytes : (n : ℕ) → 0 < n → (n == 0) ≡ false
some_bytes n h = grind arith

pub comes_first : (a : Audit) (t : ℕ) (bytes : List ℕ) (f : Formed) → 0 < length bytes → IsFormed a f nothing → Comes a t bytes 0 f false
comes_first a t bytes f some h = record {
  map = nothing;
  formed = h;
  inside = omega arith;
  made = eval_bound a.scenario.version (suc (length bytes)) (length bytes) (names_at a t) t nothing bytes (one_above bytes) (there_enough bytes (some_bytes (length bytes) some));
  reached = sym (reaches_bound a.scenario.version (suc (length bytes)) (length bytes) (names_at a t) t nothing bytes (one_above bytes) (there_enough bytes (some_bytes (length bytes) some)));
}

or_assoc : (x y z : Bool) → (x || (y || z)) ≡ ((x || y) || z)
or_assoc true y z = refl
or_assoc false y z = refl

pub comes_on : (a : Audit) (t : ℕ) (bytes : List ℕ) (at next : ℕ) (f g : Formed) (asked asks_ : Bool) → (i : Comes a t bytes at f asked)
    → GoesOn a t bytes at i.map g asks_ next → Comes a t bytes next g (asked || asks_)
comes_on a t bytes at next f g asked asks_ i o = record {
  map = o.then_map;
  formed = o.formed;
  inside = o.inside;
  made = sym o.made ∙ i.made;
  reached = i.reached ∙ (ap (λ x. asked || x) o.reached ∙ or_assoc asked asks_ (reached_of a t o.then_map (drop next bytes)));
}

pub comes_over : (a : Audit) (t : ℕ) (bytes : List ℕ) (at : ℕ) (f : Formed) (asked : Bool) (e : Evaluation) → (i : Comes a t bytes at f asked)
    → IsOver a t (drop at bytes) i.map e → IsEvaluated a t bytes (record { outcome = e.outcome; asked = asked || e.asked })
comes_over a t bytes at f asked e i o = record {
  made = subst (IsResult a e.outcome) i.made o.made;
  reached = i.reached ∙ (ap (λ x. asked || x) o.reached ∙ or_assoc asked e.asked (is_formed e.outcome));
}

few_bytes : (n : ℕ) → n ≤ ARRAY_BYTES → nat_lt ARRAY_BYTES n ≡ false
few_bytes n h = grind arith

many_bytes : (n : ℕ) → ARRAY_BYTES < n → nat_lt ARRAY_BYTES n ≡ true
many_bytes n h = grind arith

-- a create of too many bytes, of none, and of some
pub create_long : (v : ℕ) (names : ℕ → Option Voucher) (t : ℕ) (bytes : List ℕ) → ARRAY_BYTES < length bytes
    → create v names t bytes ≡ Err MIG_ARRAY_TOO_LARGE
unfolding create
create_long v names t bytes l = let e = many_bytes (length bytes) l in rw e refl

pub create_none : (v : ℕ) (names : ℕ → Option Voucher) (t : ℕ) (bytes : List ℕ) → length bytes ≤ ARRAY_BYTES
    → (length bytes == 0) ≡ true → create v names t bytes ≡ Ok None
unfolding create
create_none v names t bytes l z = let e = few_bytes (length bytes) l in rw (e, z) refl

pub create_some : (v : ℕ) (names : ℕ → Option Voucher) (t : ℕ) (bytes : List ℕ) → nat_lt ARRAY_BYTES (length bytes) ≡ false
    → (length bytes == 0) ≡ false → create v names t bytes ≡ evals.made_of (eval_all v (length bytes) names t nothing bytes)
unfolding create
create_some v names t bytes e z = rw (e, z) refl

created_of : (a : Audit) (t : ℕ) (bytes : List ℕ) (o : Result Voucher ℤ) → 0 < length bytes → length bytes ≤ ARRAY_BYTES
    → eval_all a.scenario.version (length bytes) (names_at a t) t nothing bytes ≡ o
    → create a.scenario.version (names_at a t) t bytes ≡ evals.made_of o
created_of a t bytes o some few e =
    create_some a.scenario.version (names_at a t) t bytes (few_bytes (length bytes) few) (some_bytes (length bytes) some) ∙ ap evals.made_of e

pub created_voucher : (a : Audit) (t : ℕ) (bytes : List ℕ) (e : Evaluation) (f : Formed) (o : Option Numbers) → 0 < length bytes
    → length bytes ≤ ARRAY_BYTES → IsEvaluated a t bytes e → e.outcome ≡ Ok f
    → ((map : Voucher) → IsFormed a f map → IsVoucher a map o) → IsCreated a t bytes (Ok o)
created_voucher a t bytes e f o some few i q h =
    by_result (eval_all a.scenario.version (length bytes) (names_at a t) t nothing bytes) refl (subst (λ x. IsResult a x (eval_all a.scenario.version (length bytes) (names_at a t) t nothing bytes)) q i.made)
  where
    by_result : (r : Result Voucher ℤ) → eval_all a.scenario.version (length bytes) (names_at a t) t nothing bytes ≡ r
        → IsResult a (Ok f) r → IsCreated a t bytes (Ok o)
    by_result (Ok map) p g = (map, created_of a t bytes (Ok map) some few p, h map g)
    by_result (Err code) p g = absurd g

pub created_refused : (a : Audit) (t : ℕ) (bytes : List ℕ) (e : Evaluation) (c : Code) → 0 < length bytes
    → length bytes ≤ ARRAY_BYTES → IsEvaluated a t bytes e → e.outcome ≡ Err c → IsCreated a t bytes (Err c)
created_refused a t bytes e c some few i q =
    by_result (eval_all a.scenario.version (length bytes) (names_at a t) t nothing bytes) refl (subst (λ x. IsResult a x (eval_all a.scenario.version (length bytes) (names_at a t) t nothing bytes)) q i.made)
  where
    by_result : (r : Result Voucher ℤ) → eval_all a.scenario.version (length bytes) (names_at a t) t nothing bytes ≡ r
        → IsResult a (Err c) r → IsCreated a t bytes (Err c)
    by_result (Ok map) p g = absurd g
    by_result (Err code) p g = created_of a t bytes (Err code) some few p ∙ ap Err (sym g)
