-- What a handle has still to be paid for by a question, through the events of one handle, and sums over live values.
use Rattle.std.proofs.Common.{◌≡◌, ℕ, ◌+◌, ◌≤◌, Bool, List, [], ◌∷◌, ◌++◌, true, false, not, ◌&&◌, ◌||◌, arith, map, ◌∙◌, sym, Some}
use Rattle.std.specs.Prelude.{is_some, if◌then◌else◌}
use Rattle.vch_machine.specs.State.{Place, same_place, Living, Claim, living_at, without_place, is_empty}
use Rattle.vch_legal.specs.Facts.{spot_fits, burden, total, bit, times}
use Rattle.vch_legal.proofs.facts.Choices.{cases_bool}
use Rattle.vch_legal.proofs.spots.SpotSteps.{one, fresh, raced_now, back_now}
use Rattle.vch_legal.proofs.spots.Places.{same_place_eq, same_place_refl, same_place_comm}

-- a Make of a live value
pub made_burden : (live fixed held expected now : Bool) (cs : List Claim)
    → spot_fits (one live fixed held expected cs) ≡ true
    → burden (one live fixed held now (map raced_now cs)) ≤ burden (one live fixed held expected cs)
made_burden live fixed held expected now [] h = grind arith
made_burden live fixed held expected now (c ∷ []) h = grind arith
made_burden live fixed held expected now (c ∷ d ∷ cs) h = grind arith

-- a Make of a new value
pub new_burden : (fixed held expected now : Bool) (cs : List Claim)
    → spot_fits (one false fixed held expected cs) ≡ true
    → burden (one true false held now (map raced_now cs)) ≡ 0
new_burden fixed held expected now [] h = grind arith
new_burden fixed held expected now (c ∷ []) h = grind arith
new_burden fixed held expected now (c ∷ d ∷ cs) h = grind arith

pub refer_burden : (live fixed held expected now : Bool) (cs : List Claim)
    → spot_fits (one live fixed held expected cs) ≡ true
    → burden (one live fixed true now (map back_now cs)) ≤ burden (one live fixed held expected cs) + 1
refer_burden live fixed held expected now [] h = grind arith
refer_burden live fixed held expected now (c ∷ []) h = grind arith
refer_burden live fixed held expected now (c ∷ d ∷ cs) h = grind arith

pub let_go_burden : (q : Place) (live fixed held expected : Bool) (xs ys : List Claim)
    → spot_fits (one live fixed true expected (xs ++ ys)) ≡ true
    → burden (one live fixed held expected (xs ++ ((if fixed ||
    (held || not (is_empty (xs ++ ys))) then [] else fresh q expected ∷ []) ++ ys)))
    ≤ burden (one live fixed true expected (xs ++ ys))
let_go_burden q live fixed held expected [] [] h = grind arith
let_go_burden q live fixed held expected [] (c ∷ []) h = grind arith
let_go_burden q live fixed held expected [] (c ∷ d ∷ ys) h = grind arith
let_go_burden q live fixed held expected (c ∷ []) [] h = grind arith
let_go_burden q live fixed held expected (c ∷ []) (d ∷ ys) h = grind arith
let_go_burden q live fixed held expected (c ∷ d ∷ xs) ys h = grind arith

pub agreed_burden : (c : Claim) (live fixed held expected : Bool) (xs ys : List Claim) → is_some c.answer ≡ false
    → spot_fits (one live fixed held expected (xs ++ (c ∷ ys))) ≡ true
    → 1 ≤ burden (one live fixed held expected (xs ++ (c ∷ ys)))
agreed_burden c live fixed held expected [] [] a h = grind arith
agreed_burden c live fixed held expected [] (d ∷ ys) a h = grind arith
agreed_burden c live fixed held expected (d ∷ []) ys a h = grind arith
agreed_burden c live fixed held expected (d ∷ e ∷ xs) ys a h = grind arith

pub refused_burden : (c : Claim) (live fixed held expected : Bool) (xs ys : List Claim) → is_some c.answer ≡ false
    → spot_fits (one live fixed held expected (xs ++ (c ∷ ys))) ≡ true
    → burden (one live fixed held expected (xs ++ (record c { answer = Some false } ∷ ys))) + 1 ≤ burden
    (one live fixed held expected (xs ++ (c ∷ ys)))
refused_burden c live fixed held expected [] [] a h = grind arith
refused_burden c live fixed held expected [] (d ∷ ys) a h = grind arith
refused_burden c live fixed held expected (d ∷ []) ys a h = grind arith
refused_burden c live fixed held expected (d ∷ e ∷ xs) ys a h = grind arith

pub recheck_burden : (c : Claim) (live fixed held expected : Bool) (xs ys : List Claim) → is_some c.answer ≡ true
    → spot_fits (one live fixed held expected (xs ++ (c ∷ ys))) ≡ true
    → burden (one live fixed held expected (xs ++ ((if c.back && not held then fresh c.place expected ∷ [] else []) ++
    ys)))
    ≤ burden (one live fixed held expected (xs ++ (c ∷ ys)))
recheck_burden c live fixed held expected [] [] a h = grind arith
recheck_burden c live fixed held expected [] (d ∷ ys) a h = grind arith
recheck_burden c live fixed held expected (d ∷ []) ys a h = grind arith
recheck_burden c live fixed held expected (d ∷ e ∷ xs) ys a h = grind arith

-- Sums.

pub total_less : (b a : Place → ℕ) (live : List Living) → ((p : Place) → b p ≤ a p) → total b live ≤ total a live
total_less b a [] h = omega arith
total_less b a (l ∷ live) h = let i : total b live ≤ total a live =
    total_less b a live h in let k : b l.place ≤ a l.place = h l.place in omega arith

pub total_append : (b : Place → ℕ) (live : List Living) (l : Living)
    → total b (live ++ l ∷ []) ≡ total b live + b l.place
total_append b [] l = omega arith
total_append b (x ∷ live) l = let i : total b (live ++ l ∷ []) ≡ total b live + b l.place =
    total_append b live l in rw i (omega arith)

-- one place has one more
pub total_more : (b a : Place → ℕ) (q : Place) (live : List Living)
    → ((p : Place) → same_place q p ≡ false → b p ≤ a p) → b q ≤ a q + 1
    → total b live ≤ total a live + times (λ (l : Living). same_place l.place q) live
total_more b a q [] h k = omega arith
total_more b a q (l ∷ live) h k =
    let i : total b live ≤ total a live + times (λ (l : Living). same_place l.place q) live =
    total_more b a q live h k in
    cases_bool (same_place q l.place) (total b (l ∷ live) ≤ total a (l ∷ live) + times
    (λ (l : Living). same_place l.place q) (l ∷ live))
    (λ here. let e : q ≡ l.place = same_place_eq q l.place here in
    let g : b l.place ≤ a l.place + 1 = subst_place e in
    let r : same_place l.place q ≡ true = rw e (same_place_refl l.place) in rw r (omega arith))
    (λ other. let g : b l.place ≤ a l.place = h l.place other
    in later (b l.place) (a l.place) (total b live) (total a live) (bit (same_place l.place q))
    (times (λ (l : Living). same_place l.place q) live) g i)
  where
    subst_place : {r : Place} → q ≡ r → b r ≤ a r + 1
    subst_place e = rw (sym e) k

    later : (x y z w c n : ℕ) → x ≤ y → z ≤ w + n → x + z ≤ y + w + (c + n)
    later x y z w c n g i = omega arith

-- a live place has one less
pub total_lost : (b a : Place → ℕ) (q : Place) (l : Living) (live : List Living) → living_at live q ≡ Some l
    → ((p : Place) → same_place q p ≡ false → b p ≤ a p) → b q + 1 ≤ a q
    → total b live + 1 ≤ total a live
total_lost b a q l [] e h k = cc
total_lost b a q l (x ∷ live) e h k =
    cases_bool (same_place x.place q) (total b (x ∷ live) + 1 ≤ total a (x ∷ live))
    (λ here. let g : x.place ≡ q = same_place_eq x.place q here in let i : b x.place + 1 ≤ a x.place = rw g k in
    let j : total b live ≤ total a live = total_less b a live each in omega arith)
    (λ other. let f : living_at live q ≡ Some l = rw other at e
    in let j : total b live + 1 ≤ total a live = total_lost b a q l live f h k in
    let i : b x.place ≤ a x.place = each x.place in omega arith)
  where
    each : (p : Place) → b p ≤ a p
    each p = cases_bool (same_place q p) (b p ≤ a p)
        (λ here. let g : q ≡ p = same_place_eq q p here in let i : b p + 1 ≤ a p = rw (sym g) k in omega arith)
        (λ other. h p other)

-- a live place is gone
pub total_without : (b a : Place → ℕ) (q : Place) (l : Living) (live : List Living) → living_at live q ≡ Some l
    → ((p : Place) → same_place q p ≡ false → b p ≤ a p) → 1 ≤ a q
    → total b (without_place live q) + 1 ≤ total a live
total_without b a q l [] e h k = cc
total_without b a q l (x ∷ live) e h k =
    cases_bool (same_place x.place q) (total b (without_place (x ∷ live) q) + 1 ≤ total a (x ∷ live))
    (λ here. let g : x.place ≡ q = same_place_eq x.place q here in let i : 1 ≤ a x.place = rw g k in
    let j : total b (without_place live q) ≤ total a live = fewer live in rw here (omega arith))
    (λ other. let f : living_at live q ≡ Some l = rw other at e
    in let j : total b (without_place live q) + 1 ≤ total a live = total_without b a q l live f h k in
    let i : b x.place ≤ a x.place = h x.place (turned x.place other) in rw other (omega arith))
  where
    turned : (p : Place) → same_place p q ≡ false → same_place q p ≡ false
    turned p o = same_place_comm q p ∙ o

    fewer : (live : List Living) → total b (without_place live q) ≤ total a live
    fewer [] = omega arith
    fewer (y ∷ live) =
        cases_bool (same_place y.place q) (total b (without_place (y ∷ live) q) ≤ total a (y ∷ live))
        (λ here. let j : total b (without_place live q) ≤ total a live = fewer live in rw here (omega arith))
        (λ other. let j : total b (without_place live q) ≤ total a live = fewer live
        in let i : b y.place ≤ a y.place = h y.place (turned y.place other) in rw other (omega arith))
