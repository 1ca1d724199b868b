-- What stands behind the task in a line, both ways.
use Rattle.std.proofs.Common.{◌≡◌, ℕ, ◌<◌, min, cond, eqb, ◌&&◌, List, Result, Ok, Err, refl, sym, ap, subst, ◌∙◌, arith, ◌⊎◌, inl, inr, codes}
use Rattle.std.proofs.lemmas.Grind.{common_steps}
use Rattle.std.proofs.lemmas.Bool.{cases_lt}
use Rattle.vch_model.specs.declared.call.Call.{Call}
use Rattle.vch_model.specs.declared.call.Call.TheVariants as calls
use Rattle.vch_model.specs.declared.call.Word.{Word}
use Rattle.vch_model.specs.declared.call.Word.TheVariants as words
use Rattle.vch_model.specs.Text.{word_text}
use Rattle.vch_scenario.specs.declared.fault.Why.{Why}
use Rattle.vch_scenario.specs.declared.fault.Why.TheVariants.{Form, Range}
use Rattle.vch_scenario.specs.Reading.{◌>>=◌, formed}
use Rattle.vch_text.specs.Words.{is_word, word_at}
use Rattle.vch_text.proofs.CallerLemmas.{word_true, both, spelled_follows}
use Rattle.vch_model.specs.Grammar.{top, StartsWithLine, IsSmall, behind_word}
use Rattle.vch_scenario.specs.Calls.{fit, verb_of, call_by, call_of}
use Rattle.vch_model.specs.Words.{word_of}
use Rattle.vch_model.specs.WellFormed.{IsWordOf}
use Rattle.vch_model.specs.Scenarios.{IsCallOf}
use Rattle.vch_scenario.proofs.drafts.Told.{Told, told_bind, told_test}
use Rattle.vch_scenario.proofs.drafts.Formed.{word_told, word_again}
use Rattle.vch_scenario.proofs.lines.CommandLines.{fit_small, fit_large, IsCall, IsBehind, NoCall, IsGood, CallTold, give_up_told, recipes_told, extract_told, charge_told, send_told, extern_told, bare_told, create_told, verdict, give_up_again, extract_again, recipes_again, charge_again, send_again, extern_again, bare_again, create_again}

-- ---- the word of a call

-- a word that a text of the version may have
abbrev pub IsVerb : ℕ → List ℕ → Word → Type 0
IsVerb version w v = (w ≡ word_text v) × IsWordOf version v

exit_told : (Q : Why → Type 0) → Q Form → (version : ℕ) (w : List ℕ) → Told Q (IsVerb version w) (cond (eqb version 2 && is_word w (codes "exit")) (Ok words.Exit) (Err Form))
exit_told Q f version w =
    told_test Q (IsVerb version w) (eqb version 2 && is_word w (codes "exit")) _ _
    (λ t. let b = both (eqb version 2) (is_word w (codes "exit")) t in (word_true w _ b.1, let e = b.0 in grind (arith, common_steps))) (λ n. f)

verb_told : (Q : Why → Type 0) → Q Form → (version : ℕ) (w : List ℕ) → Told Q (IsVerb version w) (verb_of version w)
unfolding verb_of
verb_told Q f version w =
    let S : Word → Type 0 = IsVerb version w in
    told_test Q S (is_word w (codes "create")) _ _ (λ t. (word_true w _ t, tt)) (λ n.
    told_test Q S (is_word w (codes "drop")) _ _ (λ t. (word_true w _ t, tt)) (λ n.
    told_test Q S (is_word w (codes "extract")) _ _ (λ t. (word_true w _ t, tt)) (λ n.
    told_test Q S (is_word w (codes "recipes")) _ _ (λ t. (word_true w _ t, tt)) (λ n.
    told_test Q S (is_word w (codes "send")) _ _ (λ t. (word_true w _ t, tt)) (λ n.
    told_test Q S (is_word w (codes "recv")) _ _ (λ t. (word_true w _ t, tt)) (λ n.
    told_test Q S (is_word w (codes "extern")) _ _ (λ t. (word_true w _ t, tt)) (λ n.
    told_test Q S (is_word w (codes "charge")) _ _ (λ t. (word_true w _ t, tt)) (λ n.
    told_test Q S (is_word w (codes "ledger")) _ _ (λ t. (word_true w _ t, tt)) (λ n.
    told_test Q S (is_word w (codes "assertions")) _ _ (λ t. (word_true w _ t, tt)) (λ n.
    told_test Q S (is_word w (codes "live")) _ _ (λ t. (word_true w _ t, tt)) (λ n. exit_told Q f version w)))))))))))

verb_again : (version : ℕ) (v : Word) → IsWordOf version v → verb_of version (word_text v) ≡ Ok v
unfolding verb_of is_word
verb_again version words.Create h = refl
verb_again version words.GiveUp h = refl
verb_again version words.Extract h = refl
verb_again version words.Recipes h = refl
verb_again version words.Send h = refl
verb_again version words.Recv h = refl
verb_again version words.Extern h = refl
verb_again version words.Charge h = refl
verb_again version words.Ledger h = refl
verb_again version words.Assertions h = refl
verb_again version words.Live h = refl
verb_again version words.Exit h = rw h refl

-- a call is one of the version exactly where its word is
word_call : (version : ℕ) (c : Call) → IsWordOf version (word_of c) → IsCallOf version c
word_call version calls.Exit h = h
word_call version c h = tt

call_word : (version : ℕ) (c : Call) → IsCallOf version c → IsWordOf version (word_of c)
call_word version calls.Exit h = h
call_word version c h = tt

by_told : (v : Word) (rest : List ℕ) → CallTold v rest (call_by v rest)
by_told words.Create rest = create_told rest
by_told words.GiveUp rest = give_up_told rest
by_told words.Extract rest = extract_told rest
by_told words.Recipes rest = recipes_told rest
by_told words.Send rest = send_told rest
by_told words.Recv rest = bare_told calls.Recv rest (λ e. e) tt
by_told words.Extern rest = extern_told rest
by_told words.Charge rest = charge_told rest
by_told words.Ledger rest = bare_told calls.Ledger rest (λ e. e) tt
by_told words.Assertions rest = bare_told calls.Assertions rest (λ e. e) tt
by_told words.Live rest = bare_told calls.Live rest (λ e. e) tt
by_told words.Exit rest = bare_told calls.Exit rest (λ e. e) tt

by_again : (c : Call) (rest : List ℕ) → IsBehind rest c → call_by (word_of c) rest ≡ verdict c
by_again (calls.Create bytes) rest h = create_again rest bytes h
by_again (calls.GiveUp name) rest h = give_up_again rest name h
by_again (calls.Extract name key) rest h = extract_again rest name key h
by_again (calls.Recipes name) rest h = recipes_again rest name h
by_again (calls.Send to moving name id) rest h = send_again rest to moving name id h
by_again calls.Recv rest h = bare_again calls.Recv rest h
by_again (calls.Extern name adding n) rest h = extern_again rest name adding n h
by_again (calls.Charge name n) rest h = charge_again rest name n h
by_again calls.Ledger rest h = bare_again calls.Ledger rest h
by_again calls.Assertions rest h = bare_again calls.Assertions rest h
by_again calls.Live rest h = bare_again calls.Live rest h
by_again calls.Exit rest h = bare_again calls.Exit rest h

-- ---- calls

abbrev pub NoCallAt : ℕ → List ℕ → Why → Type 0
NoCallAt version rest why = (why ≡ Form) ⊎ ((why ≡ Range) × (c : Call) × IsCall rest c × IsCallOf version c × (IsSmall c → ⊥))

abbrev pub IsCallAt : ℕ → List ℕ → Call → Type 0
IsCallAt version rest c = IsCall rest c × IsCallOf version c × IsSmall c

call_spelled : (rest w more : List ℕ) (v : Word) (c : Call) → StartsWithLine rest w more → w ≡ word_text v → word_of c ≡ v → IsBehind more c → IsCall rest c
call_spelled rest w more v c b e s h = (w, more, b, e ∙ ap word_text (sym s), h)

of_word : (version : ℕ) (v : Word) (c : Call) → word_of c ≡ v → IsWordOf version v → IsCallOf version c
of_word version v c s i = word_call version c (subst (λ (x : Word). IsWordOf version x) (sym s) i)

none_spelled : (version : ℕ) (rest w more : List ℕ) (v : Word) (why : Why) → StartsWithLine rest w more → IsVerb version w v → NoCall v more why → NoCallAt version rest why
none_spelled version rest w more v why b e h =
    elim h [ inl p ↦ inl p | inr p ↦ inr (p.0, p.1, call_spelled rest w more v p.1 b e.0 p.2 p.3, of_word version v p.1 p.2 e.1, p.4) ]

some_spelled : (version : ℕ) (rest w more : List ℕ) (v : Word) (c : Call) → StartsWithLine rest w more → IsVerb version w v → IsGood v more c → IsCallAt version rest c
some_spelled version rest w more v c b e h = (call_spelled rest w more v c b e.0 h.0 h.1, of_word version v c h.0 e.1, h.2)

pub told_change : {X : Type 0} (P Q : Why → Type 0) (R S : X → Type 0) (r : Result X Why) → ((e : Why) → P e → Q e) → ((x : X) → R x → S x) → Told P R r → Told Q S r
told_change P Q R S (Ok x) f g h = g x h
told_change P Q R S (Err e) f g h = f e h

-- what is read is spelled
pub call_told : (version : ℕ) (rest : List ℕ) → Told (NoCallAt version rest) (IsCallAt version rest) (call_of version rest)
unfolding call_of
call_told version rest =
    let Q : Why → Type 0 = NoCallAt version rest in
    let S : Call → Type 0 = IsCallAt version rest in
    told_bind Q (λ x. StartsWithLine rest x.0 x.1) S (formed (word_at rest)) _ (word_told Q (inl refl) rest)
    (λ w b. told_bind Q (λ v. IsVerb version w.0 v) S (verb_of version w.0) _ (verb_told Q (inl refl) version w.0)
    (λ v e. told_change (NoCall v w.1) Q (IsGood v w.1) S (call_by v w.1) (λ why h. none_spelled version rest w.0 w.1 v why b e h) (λ c h. some_spelled version rest w.0 w.1 v c b e h) (by_told v w.1)))

-- what is spelled is read, or out of range
pub call_again : (version : ℕ) (rest : List ℕ) (c : Call) → IsCall rest c → IsCallOf version c → call_of version rest ≡ verdict c
unfolding call_of
call_again version rest c h i =
    let v : verb_of version h.0 ≡ Ok (word_of c) = ap (verb_of version) h.3 ∙ verb_again version (word_of c) (call_word version c i) in
    rw (word_again rest h.0 h.1 h.2 (spelled_follows h.1 (behind_word c) h.4), v) (by_again c h.1 h.4)

-- ---- what a verdict is

pub verdict_small : (c : Call) → IsSmall c → verdict c ≡ Ok c
verdict_small (calls.Create bytes) s = refl
verdict_small (calls.GiveUp name) s = rw (fit_small name s) refl
verdict_small (calls.Extract name key) s = rw (fit_small name s.0, fit_small key s.1) refl
verdict_small (calls.Recipes name) s = rw (fit_small name s) refl
verdict_small (calls.Send to moving name id) s = rw (fit_small to s.0, fit_small name s.1, fit_small id s.2) refl
verdict_small calls.Recv s = refl
verdict_small (calls.Extern name adding n) s = rw (fit_small name s.0, fit_small n s.1) refl
verdict_small (calls.Charge name n) s = rw (fit_small name s.0, fit_small n s.1) refl
verdict_small calls.Ledger s = refl
verdict_small calls.Assertions s = refl
verdict_small calls.Live s = refl
verdict_small calls.Exit s = refl

abbrev small_or : ℕ → Type 0
small_or n = (n < top) ⊎ (n < top → ⊥)

size_of : (n : ℕ) → small_or n
size_of n = elim (cases_lt n top) [ inl lt ↦ inl lt | inr ge ↦ inr (λ lt. omega arith) ]

one_large : (n : ℕ) (f : ℕ → Result Call Why) → (n < top → ⊥) → (fit (min n top) >>= f) ≡ Err Range
one_large n f l = rw (fit_large n l) refl

two_large : (n m : ℕ) (f : ℕ → ℕ → Call) → ((n < top) × (m < top) → ⊥) → (fit (min n top) >>= λ x. fit (min m top) >>= λ y. Ok (f x y)) ≡ Err Range
two_large n m f l =
    elim (size_of n) [
      | inl a ↦ rw (fit_small n a, fit_large m (λ b. l (a, b))) refl
      | inr b ↦ rw (fit_large n b) refl
    ]

three_large : (n m k : ℕ) (f : ℕ → ℕ → ℕ → Call) → ((n < top) × (m < top) × (k < top) → ⊥) → (fit (min n top) >>= λ x. fit (min m top) >>= λ y. fit (min k top) >>= λ z. Ok (f x y z)) ≡ Err Range
three_large n m k f l =
    elim (size_of n) [
      | inl a ↦ elim (size_of m) [
        | inl b ↦ rw (fit_small n a, fit_small m b, fit_large k (λ d. l (a, b, d))) refl
        | inr b ↦ rw (fit_small n a, fit_large m b) refl
      ]
      | inr b ↦ rw (fit_large n b) refl
    ]

pub verdict_large : (c : Call) → (IsSmall c → ⊥) → verdict c ≡ Err Range
verdict_large (calls.Create bytes) l = absurd (l tt)
verdict_large (calls.GiveUp name) l = one_large name _ l
verdict_large (calls.Extract name key) l = two_large name key (λ x y. calls.Extract x y) l
verdict_large (calls.Recipes name) l = one_large name _ l
verdict_large (calls.Send to moving name id) l = three_large to name id (λ x y z. calls.Send x moving y z) l
verdict_large calls.Recv l = absurd (l tt)
verdict_large (calls.Extern name adding n) l = two_large name n (λ x y. calls.Extern x adding y) l
verdict_large (calls.Charge name n) l = two_large name n (λ x y. calls.Charge x y) l
verdict_large calls.Ledger l = absurd (l tt)
verdict_large calls.Assertions l = absurd (l tt)
verdict_large calls.Live l = absurd (l tt)
verdict_large calls.Exit l = absurd (l tt)

both_sizes : (n m : ℕ) → ((n < top) × (m < top)) ⊎ ((n < top) × (m < top) → ⊥)
both_sizes n m =
    elim (size_of n) [
      | inl a ↦ elim (size_of m) [ inl b ↦ inl (a, b) | inr b ↦ inr (λ s. b s.1) ]
      | inr a ↦ inr (λ s. a s.0)
    ]

three_sizes : (n m k : ℕ) → ((n < top) × (m < top) × (k < top)) ⊎ ((n < top) × (m < top) × (k < top) → ⊥)
three_sizes n m k =
    elim (size_of n) [
      | inl a ↦ elim (size_of m) [
        | inl b ↦ elim (size_of k) [ inl d ↦ inl (a, b, d) | inr d ↦ inr (λ s. d s.2) ]
        | inr b ↦ inr (λ s. b s.1)
      ]
      | inr a ↦ inr (λ s. a s.0)
    ]

pub call_size : (c : Call) → IsSmall c ⊎ (IsSmall c → ⊥)
call_size (calls.Create bytes) = inl tt
call_size (calls.GiveUp name) = size_of name
call_size (calls.Extract name key) = both_sizes name key
call_size (calls.Recipes name) = size_of name
call_size (calls.Send to moving name id) = three_sizes to name id
call_size calls.Recv = inl tt
call_size (calls.Extern name adding n) = both_sizes name n
call_size (calls.Charge name n) = both_sizes name n
call_size calls.Ledger = inl tt
call_size calls.Assertions = inl tt
call_size calls.Live = inl tt
call_size calls.Exit = inl tt
