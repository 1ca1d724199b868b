-- What was evaluated up to a place of a create, record by record and key by key.
use Rattle.std.proofs.Common.{◌≡◌, ℕ, suc, ◌+◌, List, [], ◌∷◌, ◌++◌, refl, true, not, ◌&&◌, sym, ap, ◌∙◌, subst, length, drop, Some, Option, Ok, append_assoc}
use Rattle.std.specs.Prelude.{if◌then◌else◌, ◌==◌}
use Rattle.vch_base.specs.declared.key.Key.{Key}
use Rattle.vch_base.specs.declared.key.Key.TheVariants as keys
use Rattle.vch_base.specs.declared.key.TheConstants.{ALL_KEYS}
use Rattle.vch_base.specs.Keys.{managed}
use Rattle.vch_recipe.specs.Recipes.{First, One, first_of}
use Rattle.vch_recipe.specs.declared.recipe.Recipe.{Recipe}
use Rattle.vch_model.specs.Voucher.{Voucher}
use Rattle.vch_model.specs.Eval.{eval, redeemed, each_key}
use Rattle.vch_model.specs.Legal.{asks}
use Rattle.vch_machine.specs.Making.{keys_left, tail_keys, head_key}
use Rattle.vch_machine.specs.State.{is_empty}
use Rattle.vch_legal.specs.Tie.{redeem_keys, previous_in, behind_result, behind_record, one_further, after_records, KeysDone, IsEvaluated, moved_keys_first, moved_place_first}
use Rattle.vch_legal.proofs.forming.Records.{eval_asked, carried_all}

abbrev Names : Type 0
Names = ℕ → Option Voucher

-- a record more
further : (version : ℕ) (names : Names) (t : ℕ) (bytes : List ℕ) (place n : ℕ) (before next : Voucher) (r : Recipe) (rest : List ℕ)
    → after_records version names t bytes n ≡ Some (place, before) → first_of (drop place bytes) ≡ One r rest
    → eval version names t r before ≡ Ok next
    → after_records version names t bytes (suc n) ≡ Some (place + (16 + length r.content), next)
further version names t bytes place n before next r rest a e g =
    ap (one_further version names t bytes) a
    ∙ (ap (behind_record version names t place before) e ∙ ap (behind_result (place + (16 + length r.content))) g)

pub record_evaluated : (version : ℕ) (names : Names) (t : ℕ) (bytes : List ℕ) (place : ℕ) (map next : Voucher) (r : Recipe) (rest : List ℕ)
    → IsEvaluated version names t bytes place [] map → first_of (drop place bytes) ≡ One r rest → eval version names t r map ≡ Ok next
    → IsEvaluated version names t bytes (place + (16 + length r.content)) [] next
record_evaluated version names t bytes place map next r rest f e g = record {
  number = suc f.number;
  before = next;
  records = further version names t bytes place f.number f.before next r rest f.records e
      (ap (eval version names t r) (sym f.done) ∙ g);
  done = refl;
}

redeem_more : (p : Option Voucher) (done : List Key) (k : Key) (map : Voucher)
    → redeem_keys (done ++ k ∷ []) p map ≡ redeemed k p (redeem_keys done p map)
redeem_more p [] k map = refl
redeem_more p (d ∷ done) k map = redeem_more p done k (redeemed d p map)

redeem_each : (p : Option Voucher) (ks : List Key) (map : Voucher) → redeem_keys ks p map ≡ each_key (λ k. redeemed k p) ks map
redeem_each p [] map = refl
redeem_each p (k ∷ ks) map = redeem_each p ks (redeemed k p map)

-- the next key of a record that redeems all keys, where those that are done are known
key_evaluated : (version : ℕ) (names : Names) (t : ℕ) (bytes : List ℕ) (place n : ℕ) (before : Voucher) (done ks : List Key) (k : Key)
    (r : Recipe) (rest : List ℕ) → after_records version names t bytes n ≡ Some (place, before)
    → first_of (drop place bytes) ≡ One r rest → asks version names r ≡ true → (r.key == ALL_KEYS) ≡ true
    → done ++ k ∷ ks ≡ managed version
    → IsEvaluated version names t bytes
    (if (r.key == ALL_KEYS) && not (is_empty ks) then place else place + (16 + length r.content))
    (if (r.key == ALL_KEYS) && not (is_empty ks) then ks else [])
    (redeemed k (previous_in names r.previous) (redeem_keys done (previous_in names r.previous) before))
key_evaluated version names t bytes place n before done [] k r rest a e it_asks all split =
    rw all (record {
      number = suc n;
      before = redeemed k (previous_in names r.previous) (redeem_keys done (previous_in names r.previous) before);
      records = further version names t bytes place n before _ r rest a e
          (eval_asked version names t r before it_asks
          ∙ (carried_all version names t r (previous_in names r.previous) before it_asks all
          ∙ ap Ok (sym (redeem_each (previous_in names r.previous) (managed version) before)
          ∙ (ap (λ ks. redeem_keys ks (previous_in names r.previous) before) (sym split)
          ∙ redeem_more (previous_in names r.previous) done k before))));
      done = refl;
    })
key_evaluated version names t bytes place n before done (g ∷ ks) k r rest a e it_asks all split =
    rw all (record {
      number = n;
      before = before;
      records = a;
      done = subst (λ (first : First). KeysDone version names (g ∷ ks) first before
          (redeemed k (previous_in names r.previous) (redeem_keys done (previous_in names r.previous) before))) (sym e) (
            done ++ k ∷ [],
            append_assoc done (k ∷ []) (g ∷ ks) ∙ split,
            sym (redeem_more (previous_in names r.previous) done k before),
          );
    })

key_eq : {a b : Key} → Some a ≡ Some b → a ≡ b
key_eq h = cc

-- the next key of such a record
pub all_evaluated : (version : ℕ) (names : Names) (t : ℕ) (bytes : List ℕ) (place : ℕ) (ks : List Key) (k : Key) (map : Voucher)
    (r : Recipe) (rest : List ℕ) → IsEvaluated version names t bytes place ks map → first_of (drop place bytes) ≡ One r rest
    → asks version names r ≡ true → (r.key == ALL_KEYS) ≡ true → head_key (keys_left version ks) ≡ Some k
    → IsEvaluated version names t bytes (moved_place_first version ks place (One r rest))
    (moved_keys_first version ks (One r rest)) (redeemed k (previous_in names r.previous) map)
all_evaluated version names t bytes place [] k map r rest f e it_asks all head =
    subst (λ (g : Key). IsEvaluated version names t bytes (moved_place_first version [] place (One r rest))
    (moved_keys_first version [] (One r rest)) (redeemed g (previous_in names r.previous) map)) (key_eq head)
    (subst (λ (x : Voucher). IsEvaluated version names t bytes (moved_place_first version [] place (One r rest))
    (moved_keys_first version [] (One r rest)) (redeemed keys.Importance (previous_in names r.previous) x)) (sym f.done)
    (key_evaluated version names t bytes place f.number f.before [] (tail_keys (managed version)) keys.Importance r rest
    f.records e it_asks all refl))
all_evaluated version names t bytes place (h ∷ ks) k map r rest f e it_asks all head =
    let d : KeysDone version names (h ∷ ks) (One r rest) f.before map =
    subst (λ (first : First). KeysDone version names (h ∷ ks) first f.before map) e f.done in
    subst (λ (g : Key). IsEvaluated version names t bytes (moved_place_first version (h ∷ ks) place (One r rest))
    (moved_keys_first version (h ∷ ks) (One r rest)) (redeemed g (previous_in names r.previous) map)) (key_eq head)
    (subst (λ (x : Voucher). IsEvaluated version names t bytes (moved_place_first version (h ∷ ks) place (One r rest))
    (moved_keys_first version (h ∷ ks) (One r rest)) (redeemed h (previous_in names r.previous) x)) (sym d.2)
    (key_evaluated version names t bytes place f.number f.before d.0 ks h r rest f.records e it_asks all d.1))
