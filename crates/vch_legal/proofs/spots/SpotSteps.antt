-- The events of one handle keep what holds of it: a check of all cases.
use Rattle.std.proofs.Common.{◌≡◌, Bool, List, [], ◌∷◌, ◌++◌, Some, None, true, false, not, ◌&&◌, ◌||◌, arith, map}
use Rattle.std.specs.Prelude.{is_some, if◌then◌else◌}
use Rattle.vch_machine.specs.State.{Place, Claim, is_empty}
use Rattle.vch_legal.specs.Facts.{Spot, spot_fits}

abbrev pub fresh : Place → Bool → Claim
fresh p raced = record { place = p; raced = raced; back = false; answer = None }

abbrev pub raced_now : Claim → Claim
raced_now c = if not (is_some c.answer) then record c { raced = true } else c

abbrev pub back_now : Claim → Claim
back_now c = record c { back = true }

abbrev pub one : Bool → Bool → Bool → Bool → List Claim → Spot
one live fixed held expected claims = record {
  live = live;
  fixed = fixed;
  held = held;
  expected = expected;
  claims =
      claims;
}

pub make_old : (fixed held expected : Bool) (cs : List Claim)
    → spot_fits (one true fixed held expected cs) ≡ true → spot_fits (one true fixed held true (map raced_now cs))
    ≡ true
make_old fixed held expected [] h = grind arith
make_old fixed held expected (c ∷ []) h = grind arith
make_old fixed held expected (c ∷ d ∷ cs) h = grind arith

pub make_new : (fixed held expected : Bool) (cs : List Claim)
    → spot_fits (one false fixed held expected cs) ≡ true → spot_fits (one true false held true (map raced_now cs))
    ≡ true
make_new fixed held expected [] h = grind arith
make_new fixed held expected (c ∷ []) h = grind arith
make_new fixed held expected (c ∷ d ∷ cs) h = grind arith

pub refer_keeps : (live fixed held after : Bool) (cs : List Claim)
    → spot_fits (one live fixed held true cs) ≡ true → spot_fits (one live fixed true after (map back_now cs)) ≡ true
refer_keeps live fixed held after [] h = grind arith
refer_keeps live fixed held after (c ∷ []) h = grind arith
refer_keeps live fixed held after (c ∷ d ∷ cs) h = grind arith

pub let_go_old : (live fixed held expected : Bool) (c : Claim) (cs : List Claim)
    → spot_fits (one live fixed true expected (c ∷ cs)) ≡ true
    → spot_fits (one live fixed held expected (c ∷ cs)) ≡ true
let_go_old live fixed held expected c [] h = grind arith
let_go_old live fixed held expected c (d ∷ cs) h = grind arith

pub ask_agreed : (live fixed held expected : Bool) (c : Claim) (cs : List Claim)
    → is_some c.answer ≡ false → c.raced ≡ false
    → spot_fits (one live fixed held expected (c ∷ cs)) ≡ true
    → spot_fits (one false false held expected (record c { answer = Some true } ∷ cs)) ≡ true
ask_agreed live fixed held expected c [] u r h = grind arith
ask_agreed live fixed held expected c (d ∷ cs) u r h = grind arith

pub ask_refused : (live fixed held expected : Bool) (c : Claim) (cs : List Claim)
    → is_some c.answer ≡ false → c.raced ≡ true
    → spot_fits (one live fixed held expected (c ∷ cs)) ≡ true
    → spot_fits (one live fixed held expected (record c { answer = Some false } ∷ cs)) ≡ true
ask_refused live fixed held expected c [] u r h = grind arith
ask_refused live fixed held expected c (d ∷ cs) u r h = grind arith

pub recheck_again : (live fixed held expected : Bool) (c : Claim) (cs : List Claim)
    → (c.back && not held) ≡ true
    → spot_fits (one live fixed held expected (c ∷ cs)) ≡ true
    → spot_fits (one live fixed held expected (fresh c.place expected ∷ cs)) ≡ true
recheck_again live fixed held expected c [] u h = grind arith
recheck_again live fixed held expected c (d ∷ cs) u h = grind arith

pub recheck_ends : (live fixed held expected : Bool) (c : Claim) (cs : List Claim)
    → is_some c.answer ≡ true → (c.back && not held) ≡ false
    → spot_fits (one live fixed held expected (c ∷ cs)) ≡ true
    → spot_fits (one live fixed held expected cs) ≡ true
recheck_ends live fixed held expected c [] a u h = grind arith
recheck_ends live fixed held expected c (d ∷ cs) a u h = grind arith

-- the same with other claims before and behind
pub let_go_at : (q : Place) (live fixed held expected : Bool) (xs ys : List Claim)
    → spot_fits (one live fixed true expected (xs ++ ys)) ≡ true
    → spot_fits (one live fixed held expected (xs ++ ((if fixed ||
    (held || not (is_empty (xs ++ ys))) then [] else fresh q expected ∷ []) ++ ys))) ≡ true
let_go_at q live fixed held expected [] [] h = grind arith
let_go_at q live fixed held expected [] (c ∷ []) h = grind arith
let_go_at q live fixed held expected [] (c ∷ d ∷ ys) h = grind arith
let_go_at q live fixed held expected (c ∷ []) [] h = grind arith
let_go_at q live fixed held expected (c ∷ []) (d ∷ ys) h = grind arith
let_go_at q live fixed held expected (c ∷ d ∷ xs) ys h = grind arith

pub recheck_at : (c : Claim) (live fixed held expected : Bool) (xs ys : List Claim) → is_some c.answer ≡ true
    → spot_fits (one live fixed held expected (xs ++ (c ∷ ys))) ≡ true
    → spot_fits (one live fixed held expected (xs ++ ((if c.back && not held then fresh c.place expected ∷ [] else [])
    ++ ys))) ≡ true
recheck_at c live fixed held expected [] [] a h = grind arith
recheck_at c live fixed held expected [] (d ∷ ys) a h = grind arith
recheck_at c live fixed held expected (d ∷ []) ys a h = grind arith
recheck_at c live fixed held expected (d ∷ e ∷ xs) ys a h = grind arith

pub agreed_at : (c : Claim) (live fixed held expected : Bool) (xs ys : List Claim) → is_some c.answer ≡ false
    → c.raced ≡ false
    → spot_fits (one live fixed held expected (xs ++ (c ∷ ys))) ≡ true
    → spot_fits (one false false held expected (xs ++ (record c { answer = Some true } ∷ ys))) ≡ true
agreed_at c live fixed held expected [] [] a r h = grind arith
agreed_at c live fixed held expected [] (d ∷ ys) a r h = grind arith
agreed_at c live fixed held expected (d ∷ []) ys a r h = grind arith
agreed_at c live fixed held expected (d ∷ e ∷ xs) ys a r h = grind arith

pub refused_at : (c : Claim) (live fixed held expected : Bool) (xs ys : List Claim) → is_some c.answer ≡ false
    → c.raced ≡ true
    → spot_fits (one live fixed held expected (xs ++ (c ∷ ys))) ≡ true
    → spot_fits (one live fixed held expected (xs ++ (record c { answer = Some false } ∷ ys))) ≡ true
refused_at c live fixed held expected [] [] a r h = grind arith
refused_at c live fixed held expected [] (d ∷ ys) a r h = grind arith
refused_at c live fixed held expected (d ∷ []) ys a r h = grind arith
refused_at c live fixed held expected (d ∷ e ∷ xs) ys a r h = grind arith
