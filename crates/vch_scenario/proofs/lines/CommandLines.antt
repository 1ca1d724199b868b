-- What stands behind the word of each call, both ways.
use Rattle.std.proofs.Common.{◌≡◌, ℕ, ◌<◌, ◌≤◌, min, Bool, true, false, cond, ltb, List, [], ◌∷◌, Result, Ok, Err, refl, ap, subst, arith, ◌⊎◌, inl, inr, codes}
use Rattle.std.proofs.lemmas.Grind.{common_steps}
use Rattle.std.proofs.lemmas.Bool.{lt-ltb}
use Rattle.vch_model.specs.declared.call.Call.{Call}
use Rattle.vch_model.specs.declared.call.Call.TheVariants as calls
use Rattle.vch_model.specs.declared.call.Word.{Word}
use Rattle.vch_model.specs.declared.call.Word.TheVariants as words
use Rattle.vch_scenario.specs.declared.fault.Why.{Why}
use Rattle.vch_scenario.specs.declared.fault.Why.TheVariants.{Form, Range}
use Rattle.vch_scenario.specs.Reading.{◌>>=◌, formed}
use Rattle.vch_text.specs.Words.{is_word, word_at, end_of}
use Rattle.vch_text.specs.Numbers.{number_at, one_of, two_of}
use Rattle.vch_text.specs.Digits.{bytes_of}
use Rattle.vch_text.proofs.CallerLemmas.{word_true, spelled_follows, NumberAt, OneRead, TwoRead}
use Rattle.vch_model.specs.Grammar.{top, Text, Number, StartsWithLine, AreSpelled, call_pieces, IsSmall, IsHex, IsNumeral, behind_word}
use Rattle.vch_scenario.specs.Calls.{fit, either_of, give_up_of, extract_of, recipes_of, send_of, extern_of, charge_of, bare_of, create_of}
use Rattle.vch_model.specs.Words.{word_of}
use Rattle.vch_scenario.proofs.drafts.Told.{Told, told_bind, told_test}
use Rattle.vch_scenario.proofs.drafts.Formed.{word_told, word_again, end_told, end_again, number_at_told, number_at_again, one_told, one_again, two_told, two_again, hex_told, hex_again}

-- ---- ranges

pub fit_told : (Q : Why → Type 0) (k n : ℕ) → k ≡ min n top → ((n < top → ⊥) → Q Range) → Told Q (λ x. (x ≡ n) × (n < top)) (fit k)
unfolding fit
fit_told Q k n e range =
    told_test Q (λ x. (x ≡ n) × (n < top)) (ltb k top) (Ok k) (Err Range)
    (λ t. let lt : k < top = grind (arith, common_steps) in (omega arith, omega arith))
    (λ f. let ge : top ≤ k = grind (arith, common_steps) in range (λ lt. omega arith))

pub fit_small : (n : ℕ) → n < top → fit (min n top) ≡ Ok n
unfolding fit
fit_small n lt = let e : min n top ≡ n = omega arith in rw (e, lt-ltb n top lt) refl

pub fit_large : (n : ℕ) → (n < top → ⊥) → fit (min n top) ≡ Err Range
unfolding fit
fit_large n large = let e : min n top ≡ top = omega arith in rw e refl

-- ---- calls

abbrev pub IsCall : List ℕ → Call → Type 0
IsCall rest c = AreSpelled rest (call_pieces c)

abbrev pub IsBehind : List ℕ → Call → Type 0
IsBehind rest c = AreSpelled rest (behind_word c)

-- why there is no call: out of range only where one is spelled whose numbers aren't small
abbrev pub NoCall : Word → List ℕ → Why → Type 0
NoCall v rest why = (why ≡ Form) ⊎ ((why ≡ Range) × (c : Call) × (word_of c ≡ v) × IsBehind rest c × (IsSmall c → ⊥))

abbrev pub IsGood : Word → List ℕ → Call → Type 0
IsGood v rest c = (word_of c ≡ v) × IsBehind rest c × IsSmall c

abbrev pub CallTold : Word → List ℕ → Result Call Why → Type 0
CallTold v rest r = Told (NoCall v rest) (IsGood v rest) r

form : (v : Word) (rest : List ℕ) → NoCall v rest Form
form v rest = inl refl

pub give_up_told : (rest : List ℕ) → CallTold words.GiveUp rest (give_up_of rest)
unfolding give_up_of
give_up_told rest =
    let Q : Why → Type 0 = NoCall words.GiveUp rest in
    let S : Call → Type 0 = IsGood words.GiveUp rest in
    told_bind Q (λ k. OneRead top rest k) S (formed (one_of top rest)) (λ a. fit a >>= λ name. Ok (calls.GiveUp name)) (one_told Q (form words.GiveUp rest) rest)
    (λ a h. told_bind Q (λ x. (x ≡ h.n) × (h.n < top)) S (fit a) (λ name. Ok (calls.GiveUp name)) (fit_told Q a h.n h.read (λ large. inr (refl, calls.GiveUp h.n, refl, h.spelled, large)))
    (λ x f. rw f.0 (refl, h.spelled, f.1)))

pub recipes_told : (rest : List ℕ) → CallTold words.Recipes rest (recipes_of rest)
unfolding recipes_of
recipes_told rest =
    let Q : Why → Type 0 = NoCall words.Recipes rest in
    let S : Call → Type 0 = IsGood words.Recipes rest in
    told_bind Q (λ k. OneRead top rest k) S (formed (one_of top rest)) (λ a. fit a >>= λ name. Ok (calls.Recipes name)) (one_told Q (form words.Recipes rest) rest)
    (λ a h. told_bind Q (λ x. (x ≡ h.n) × (h.n < top)) S (fit a) (λ name. Ok (calls.Recipes name)) (fit_told Q a h.n h.read (λ large. inr (refl, calls.Recipes h.n, refl, h.spelled, large)))
    (λ x f. rw f.0 (refl, h.spelled, f.1)))

pub extract_told : (rest : List ℕ) → CallTold words.Extract rest (extract_of rest)
unfolding extract_of
extract_told rest =
    let Q : Why → Type 0 = NoCall words.Extract rest in
    let S : Call → Type 0 = IsGood words.Extract rest in
    told_bind Q (λ x. TwoRead top rest x.0 x.1) S (formed (two_of top rest)) (λ a. fit a.0 >>= λ x. fit a.1 >>= λ y. Ok (calls.Extract x y)) (two_told Q (form words.Extract rest) rest)
    (λ a h. told_bind Q (λ x. (x ≡ h.n) × (h.n < top)) S (fit a.0) (λ x. fit a.1 >>= λ y. Ok (calls.Extract x y)) (fit_told Q a.0 h.n h.first (λ large. inr (refl, calls.Extract h.n h.m, refl, h.spelled, λ s. large s.0)))
    (λ x f. told_bind Q (λ y. (y ≡ h.m) × (h.m < top)) S (fit a.1) (λ y. Ok (calls.Extract x y)) (fit_told Q a.1 h.m h.second (λ large. inr (refl, calls.Extract h.n h.m, refl, h.spelled, λ s. large s.1)))
    (λ y g. rw (f.0, g.0) (refl, h.spelled, (f.1, g.1)))))

pub charge_told : (rest : List ℕ) → CallTold words.Charge rest (charge_of rest)
unfolding charge_of
charge_told rest =
    let Q : Why → Type 0 = NoCall words.Charge rest in
    let S : Call → Type 0 = IsGood words.Charge rest in
    told_bind Q (λ x. TwoRead top rest x.0 x.1) S (formed (two_of top rest)) (λ a. fit a.0 >>= λ x. fit a.1 >>= λ y. Ok (calls.Charge x y)) (two_told Q (form words.Charge rest) rest)
    (λ a h. told_bind Q (λ x. (x ≡ h.n) × (h.n < top)) S (fit a.0) (λ x. fit a.1 >>= λ y. Ok (calls.Charge x y)) (fit_told Q a.0 h.n h.first (λ large. inr (refl, calls.Charge h.n h.m, refl, h.spelled, λ s. large s.0)))
    (λ x f. told_bind Q (λ y. (y ≡ h.m) × (h.m < top)) S (fit a.1) (λ y. Ok (calls.Charge x y)) (fit_told Q a.1 h.m h.second (λ large. inr (refl, calls.Charge h.n h.m, refl, h.spelled, λ s. large s.1)))
    (λ y g. rw (f.0, g.0) (refl, h.spelled, (f.1, g.1)))))

abbrev Picks : Bool → List ℕ → List ℕ → List ℕ → Type 0
Picks true a b w = w ≡ a
Picks false a b w = w ≡ b

either_told : (Q : Why → Type 0) → Q Form → (a b w : List ℕ) → Told Q (λ x. Picks x a b w) (either_of a b w)
unfolding either_of
either_told Q f a b w =
    told_test Q (λ x. Picks x a b w) (is_word w a) (Ok true) (cond (is_word w b) (Ok false) (Err Form)) (λ t. word_true w a t)
    (λ n. told_test Q (λ x. Picks x a b w) (is_word w b) (Ok false) (Err Form) (λ t. word_true w b t) (λ m. f))

send_spelled : (rest a0 a1 w0 w1 : List ℕ) (to name id : ℕ) (moving : Bool) → StartsWithLine rest a0 a1 → IsNumeral a0 to → StartsWithLine a1 w0 w1 → Picks moving (codes "move") (codes "copy") w0
    → AreSpelled w1 (Number name ∷ Number id ∷ []) → IsBehind rest (calls.Send to moving name id)
send_spelled rest a0 a1 w0 w1 to name id true b n c p s = (a0, a1, b, n, (w0, w1, c, p, s))
send_spelled rest a0 a1 w0 w1 to name id false b n c p s = (a0, a1, b, n, (w0, w1, c, p, s))

extern_spelled : (rest a0 a1 w0 w1 : List ℕ) (name n : ℕ) (adding : Bool) → StartsWithLine rest a0 a1 → IsNumeral a0 name → StartsWithLine a1 w0 w1 → Picks adding (codes "add") (codes "drop") w0
    → AreSpelled w1 (Number n ∷ []) → IsBehind rest (calls.Extern name adding n)
extern_spelled rest a0 a1 w0 w1 name n true b i c p s = (a0, a1, b, i, (w0, w1, c, p, s))
extern_spelled rest a0 a1 w0 w1 name n false b i c p s = (a0, a1, b, i, (w0, w1, c, p, s))

pub send_told : (rest : List ℕ) → CallTold words.Send rest (send_of rest)
unfolding send_of
send_told rest =
    let Q : Why → Type 0 = NoCall words.Send rest in
    let S : Call → Type 0 = IsGood words.Send rest in
    told_bind Q (λ x. NumberAt top rest x.0 x.1) S (formed (number_at top rest)) _ (number_at_told Q (form words.Send rest) rest)
    (λ a h. told_bind Q (λ x. StartsWithLine a.1 x.0 x.1) S (formed (word_at a.1)) _ (word_told Q (form words.Send rest) a.1)
    (λ w b. told_bind Q (λ x. Picks x (codes "move") (codes "copy") w.0) S (either_of (codes "move") (codes "copy") w.0) _ (either_told Q (form words.Send rest) (codes "move") (codes "copy") w.0)
    (λ moving p. told_bind Q (λ x. TwoRead top w.1 x.0 x.1) S (formed (two_of top w.1)) _ (two_told Q (form words.Send rest) w.1)
    (λ t g.
    let spelled = send_spelled rest h.word a.1 w.0 w.1 h.is.number g.n g.m moving h.begins h.is.spelled b p g.spelled in
    let large : (IsSmall (calls.Send h.is.number moving g.n g.m) → ⊥) → Q Range = λ l. inr (refl, calls.Send h.is.number moving g.n g.m, refl, spelled, l) in
    told_bind Q (λ x. (x ≡ h.is.number) × (h.is.number < top)) S (fit a.0) _ (fit_told Q a.0 h.is.number h.is.read (λ l. large (λ s. l s.0)))
    (λ x f. told_bind Q (λ y. (y ≡ g.n) × (g.n < top)) S (fit t.0) _ (fit_told Q t.0 g.n g.first (λ l. large (λ s. l s.1)))
    (λ y k. told_bind Q (λ z. (z ≡ g.m) × (g.m < top)) S (fit t.1) _ (fit_told Q t.1 g.m g.second (λ l. large (λ s. l s.2)))
    (λ z m.
    let fx : x ≡ h.is.number = f.0 in
    let fy : y ≡ g.n = k.0 in
    let fz : z ≡ g.m = m.0 in
    let same : calls.Send h.is.number moving g.n g.m ≡ calls.Send x moving y z = cc in
    subst (λ (c : Call). IsGood words.Send rest c) same (refl, spelled, (f.1, k.1, m.1)))))))))

pub extern_told : (rest : List ℕ) → CallTold words.Extern rest (extern_of rest)
unfolding extern_of
extern_told rest =
    let Q : Why → Type 0 = NoCall words.Extern rest in
    let S : Call → Type 0 = IsGood words.Extern rest in
    told_bind Q (λ x. NumberAt top rest x.0 x.1) S (formed (number_at top rest)) _ (number_at_told Q (form words.Extern rest) rest)
    (λ a h. told_bind Q (λ x. StartsWithLine a.1 x.0 x.1) S (formed (word_at a.1)) _ (word_told Q (form words.Extern rest) a.1)
    (λ w b. told_bind Q (λ x. Picks x (codes "add") (codes "drop") w.0) S (either_of (codes "add") (codes "drop") w.0) _ (either_told Q (form words.Extern rest) (codes "add") (codes "drop") w.0)
    (λ adding p. told_bind Q (λ x. OneRead top w.1 x) S (formed (one_of top w.1)) _ (one_told Q (form words.Extern rest) w.1)
    (λ t g.
    let spelled = extern_spelled rest h.word a.1 w.0 w.1 h.is.number g.n adding h.begins h.is.spelled b p g.spelled in
    let large : (IsSmall (calls.Extern h.is.number adding g.n) → ⊥) → Q Range = λ l. inr (refl, calls.Extern h.is.number adding g.n, refl, spelled, l) in
    told_bind Q (λ x. (x ≡ h.is.number) × (h.is.number < top)) S (fit a.0) _ (fit_told Q a.0 h.is.number h.is.read (λ l. large (λ s. l s.0)))
    (λ x f. told_bind Q (λ y. (y ≡ g.n) × (g.n < top)) S (fit t) _ (fit_told Q t g.n g.read (λ l. large (λ s. l s.1)))
    (λ y k.
    let fx : x ≡ h.is.number = f.0 in
    let fy : y ≡ g.n = k.0 in
    let same : calls.Extern h.is.number adding g.n ≡ calls.Extern x adding y = cc in
    subst (λ (c : Call). IsGood words.Extern rest c) same (refl, spelled, (f.1, k.1))))))))

pub bare_told : (c : Call) (rest : List ℕ) → (rest ≡ [] → IsBehind rest c) → IsSmall c → CallTold (word_of c) rest (bare_of c rest)
unfolding bare_of
bare_told c rest spelled small =
    told_bind (NoCall (word_of c) rest) (λ u. rest ≡ []) (IsGood (word_of c) rest) (formed (end_of rest)) (λ u. Ok c) (end_told (NoCall (word_of c) rest) (form (word_of c) rest) rest)
    (λ u e. (refl, spelled e, small))

pub create_told : (rest : List ℕ) → CallTold words.Create rest (create_of rest)
unfolding create_of
create_told rest =
    let Q : Why → Type 0 = NoCall words.Create rest in
    let S : Call → Type 0 = IsGood words.Create rest in
    told_bind Q (λ x. StartsWithLine rest x.0 x.1) S (formed (word_at rest)) _ (word_told Q (form words.Create rest) rest)
    (λ w b. told_bind Q (λ u. w.1 ≡ []) S (formed (end_of w.1)) _ (end_told Q (form words.Create rest) w.1)
    (λ u e. told_bind Q (λ x. IsHex w.0 x) S (formed (bytes_of w.0)) _ (hex_told Q (form words.Create rest) w.0)
    (λ bytes h. (refl, (w.0, w.1, b, h, e), tt))))

-- what is read of a call that is spelled
abbrev pub verdict : Call → Result Call Why
verdict (calls.Create bytes) = Ok (calls.Create bytes)
verdict (calls.GiveUp name) = fit (min name top) >>= λ x. Ok (calls.GiveUp x)
verdict (calls.Extract name key) = fit (min name top) >>= λ x. fit (min key top) >>= λ y. Ok (calls.Extract x y)
verdict (calls.Recipes name) = fit (min name top) >>= λ x. Ok (calls.Recipes x)
verdict (calls.Send to moving name id) = fit (min to top) >>= λ x. fit (min name top) >>= λ y. fit (min id top) >>= λ z. Ok (calls.Send x moving y z)
verdict calls.Recv = Ok calls.Recv
verdict (calls.Extern name adding n) = fit (min name top) >>= λ x. fit (min n top) >>= λ y. Ok (calls.Extern x adding y)
verdict (calls.Charge name n) = fit (min name top) >>= λ x. fit (min n top) >>= λ y. Ok (calls.Charge x y)
verdict calls.Ledger = Ok calls.Ledger
verdict calls.Assertions = Ok calls.Assertions
verdict calls.Live = Ok calls.Live
verdict calls.Exit = Ok calls.Exit

pub give_up_again : (rest : List ℕ) (name : ℕ) → IsBehind rest (calls.GiveUp name) → give_up_of rest ≡ verdict (calls.GiveUp name)
unfolding give_up_of
give_up_again rest name h = rw (one_again rest name h) refl

pub extract_again : (rest : List ℕ) (name key : ℕ) → IsBehind rest (calls.Extract name key) → extract_of rest ≡ verdict (calls.Extract name key)
unfolding extract_of
extract_again rest name key h = rw (two_again rest name key h) refl

pub recipes_again : (rest : List ℕ) (name : ℕ) → IsBehind rest (calls.Recipes name) → recipes_of rest ≡ verdict (calls.Recipes name)
unfolding recipes_of
recipes_again rest name h = rw (one_again rest name h) refl

pub charge_again : (rest : List ℕ) (name n : ℕ) → IsBehind rest (calls.Charge name n) → charge_of rest ≡ verdict (calls.Charge name n)
unfolding charge_of
charge_again rest name n h = rw (two_again rest name n h) refl

move_again : (w : List ℕ) → w ≡ codes "move" → either_of (codes "move") (codes "copy") w ≡ Ok true
unfolding either_of is_word
move_again w e = ap (either_of (codes "move") (codes "copy")) e

copy_again : (w : List ℕ) → w ≡ codes "copy" → either_of (codes "move") (codes "copy") w ≡ Ok false
unfolding either_of is_word
copy_again w e = ap (either_of (codes "move") (codes "copy")) e

add_again : (w : List ℕ) → w ≡ codes "add" → either_of (codes "add") (codes "drop") w ≡ Ok true
unfolding either_of is_word
add_again w e = ap (either_of (codes "add") (codes "drop")) e

take_again : (w : List ℕ) → w ≡ codes "drop" → either_of (codes "add") (codes "drop") w ≡ Ok false
unfolding either_of is_word
take_again w e = ap (either_of (codes "add") (codes "drop")) e

pub send_again : (rest : List ℕ) (to : ℕ) (moving : Bool) (name id : ℕ) → IsBehind rest (calls.Send to moving name id) → send_of rest ≡ verdict (calls.Send to moving name id)
unfolding send_of
send_again rest to true name id h =
    let g = h.4 in
    rw (number_at_again rest h.0 h.1 to h.2 h.3 (spelled_follows h.1 (Text (codes "move") ∷ Number name ∷ Number id ∷ []) g), word_again h.1 g.0 g.1 g.2 (spelled_follows g.1 (Number name ∷ Number id ∷ []) g.4), move_again g.0 g.3, two_again g.1 name id g.4) refl
send_again rest to false name id h =
    let g = h.4 in
    rw (number_at_again rest h.0 h.1 to h.2 h.3 (spelled_follows h.1 (Text (codes "copy") ∷ Number name ∷ Number id ∷ []) g), word_again h.1 g.0 g.1 g.2 (spelled_follows g.1 (Number name ∷ Number id ∷ []) g.4), copy_again g.0 g.3, two_again g.1 name id g.4) refl

pub extern_again : (rest : List ℕ) (name : ℕ) (adding : Bool) (n : ℕ) → IsBehind rest (calls.Extern name adding n) → extern_of rest ≡ verdict (calls.Extern name adding n)
unfolding extern_of
extern_again rest name true n h =
    let g = h.4 in
    rw (number_at_again rest h.0 h.1 name h.2 h.3 (spelled_follows h.1 (Text (codes "add") ∷ Number n ∷ []) g), word_again h.1 g.0 g.1 g.2 (spelled_follows g.1 (Number n ∷ []) g.4), add_again g.0 g.3, one_again g.1 n g.4) refl
extern_again rest name false n h =
    let g = h.4 in
    rw (number_at_again rest h.0 h.1 name h.2 h.3 (spelled_follows h.1 (Text (codes "drop") ∷ Number n ∷ []) g), word_again h.1 g.0 g.1 g.2 (spelled_follows g.1 (Number n ∷ []) g.4), take_again g.0 g.3, one_again g.1 n g.4) refl

pub bare_again : (c : Call) (rest : List ℕ) → rest ≡ [] → bare_of c rest ≡ Ok c
unfolding bare_of
bare_again c rest e = rw (end_again rest e) refl

pub create_again : (rest bytes : List ℕ) → IsBehind rest (calls.Create bytes) → create_of rest ≡ Ok (calls.Create bytes)
unfolding create_of
create_again rest bytes h =
    rw (word_again rest h.0 h.1 h.2 (spelled_follows h.1 [] h.4), end_again h.1 h.4, hex_again h.0 bytes h.3) refl
