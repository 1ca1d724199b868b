-- What the changes of names leave to find.
use Rattle.std.proofs.Common.{◌≡◌, ℕ, Bool, List, [], ◌∷◌, ◌++◌, ◌+◌, refl, true, false, ap, sym, ◌∙◌, subst, Some, None, Option, inl, inr, cond, ◌&&◌, arith}
use Rattle.std.specs.Prelude.{◌⊎◌, ◌==◌, nat_lt}
use Rattle.std.proofs.lemmas.Grind.{common_steps}
use Rattle.indexmap.specs.IndexMap.{IndexMap, get}
use Rattle.vch_books.specs.declared.numbers.Numbers.{Numbers}
use Rattle.vch_books.specs.declared.rows.Named.{Named}
use Rattle.vch_books.specs.Desks.{same_option, same_numbers, name_with, numbers_at, gone_with, one_more, one_less, without_name}
use Rattle.vch_books.specs.Naming.{AreDifferent, IsNamed, once_gone}

-- Equal vouchers.

number_eq : (a b : ℕ) → (a == b) ≡ true → a ≡ b
number_eq a b e = grind (arith, common_steps)

number_refl : (a : ℕ) → (a == a) ≡ true
number_refl a = grind (arith, common_steps)

option_eq : (a b : Option ℕ) → same_option a b ≡ true → a ≡ b
option_eq None None e = refl
option_eq (Some a) (Some b) e = ap (λ n. Some n) (number_eq a b e)
option_eq None (Some b) e = absurd (cc)
option_eq (Some a) None e = absurd (cc)

option_refl : (a : Option ℕ) → same_option a a ≡ true
option_refl None = refl
option_refl (Some a) = number_refl a

first : (a b : Bool) → (a && b) ≡ true → a ≡ true
first true b e = refl
first false b e = e

second : (a b : Bool) → (a && b) ≡ true → b ≡ true
second true b e = e
second false b e = absurd (cc)

joined : (v w : Numbers) → v.importance ≡ w.importance → v.bank ≡ w.bank → v.user ≡ w.user → v.test ≡ w.test → v ≡ w
joined v w i b u t =
    ap (λ x. record v { importance = x }) i
    ∙ (ap (λ x. record v { importance = w.importance; bank = x }) b
    ∙ (ap (λ x. record v { importance = w.importance; bank = w.bank; user = x }) u
    ∙ ap (λ x. record w { test = x }) t))

pub same_eq : (v w : Numbers) → same_numbers v w ≡ true → v ≡ w
same_eq v w e =
    let e2 = second (same_option v.importance w.importance) _ e in
    let e3 = second (same_option v.bank w.bank) _ e2 in
    let i : v.importance ≡ w.importance = option_eq v.importance w.importance (first _ _ e) in
    let b : v.bank ≡ w.bank = option_eq v.bank w.bank (first _ _ e2) in
    let u : v.user ≡ w.user = option_eq v.user w.user (first _ _ e3) in
    let t : v.test ≡ w.test = option_eq v.test w.test (second (same_option v.user w.user) _ e3) in
    joined v w i b u t

pub same_refl : (v : Numbers) → same_numbers v v ≡ true
same_refl v = rw (option_refl v.importance, option_refl v.bank, option_refl v.user, option_refl v.test) refl

some_none : (n : ℕ) → Some n ≡ None → ⊥
some_none n e = cc

true_false : (b : Bool) → b ≡ true → b ≡ false → ⊥
true_false b e f = let z : true ≡ false = sym e ∙ f in cc

turned : (v w : Numbers) → same_numbers v w ≡ false → same_numbers w v ≡ false
turned v w e = by (same_numbers w v) refl
  where
    by : (b : Bool) → same_numbers w v ≡ b → b ≡ false
    by false p = refl
    by true p = absurd (true_false (same_numbers v w) (subst (λ x. same_numbers v x ≡ true) (sym (same_eq w v p)) (same_refl v)) e)

-- One reference more.

pub more_found : (names : List Named) (name : ℕ) (v : Numbers) → name_with (one_more names name) v ≡ name_with names v
more_found [] name v = refl
more_found (n ∷ names) name v = by (n.name == name) (more_found names name v)
  where
    by : (b : Bool) → name_with (one_more names name) v ≡ name_with names v
        → name_with (cond b (record n { refs = n.refs + 1 } ∷ names) (n ∷ one_more names name)) v ≡ name_with (n ∷ names) v
    by true e = refl
    by false e = ap (λ o. cond (same_numbers n.voucher v) (Some n.name) o) e

pub more_different : (names : List Named) (name : ℕ) → AreDifferent names → AreDifferent (one_more names name)
more_different [] name d = tt
more_different (n ∷ names) name d = by (n.name == name) (more_different names name d.1)
  where
    by : (b : Bool) → AreDifferent (one_more names name) → AreDifferent (cond b (record n { refs = n.refs + 1 } ∷ names) (n ∷ one_more names name))
    by true e = d
    by false e = (more_found names name n.voucher ∙ d.0, e)

-- A name goes.

none_left : (names : List Named) (name : ℕ) (v : Numbers) → name_with names v ≡ None → name_with (without_name names name) v ≡ None
none_left [] name v e = refl
none_left (n ∷ names) name v e = by (n.name == name) (same_numbers n.voucher v) refl (none_left names name v) e
  where
    by : (b s : Bool) → same_numbers n.voucher v ≡ s → (name_with names v ≡ None → name_with (without_name names name) v ≡ None)
        → cond s (Some n.name) (name_with names v) ≡ None → name_with (cond b names (n ∷ without_name names name)) v ≡ None
    by b true p f e = absurd (some_none n.name e)
    by true false p f e = e
    by false false p f e = rw p (f e)

there : (names : List Named) (name : ℕ) (u : Numbers) → numbers_at names name ≡ Some u → name_with names u ≡ None → ⊥
there [] name u q e = cc
there (n ∷ names) name u q e = by (n.name == name) (same_numbers n.voucher u) refl (there names name u) q e
  where
    own : (v : Numbers) → Some v ≡ Some u → v ≡ u
    own v r = cc

    by : (b s : Bool) → same_numbers n.voucher u ≡ s → (numbers_at names name ≡ Some u → name_with names u ≡ None → ⊥)
        → cond b (Some n.voucher) (numbers_at names name) ≡ Some u
        → cond s (Some n.name) (name_with names u) ≡ None → ⊥
    by b true p f q e = some_none n.name e
    by true false p f q e = true_false (same_numbers n.voucher u) (subst (λ x. same_numbers n.voucher x ≡ true) (own n.voucher q) (same_refl n.voucher)) p
    by false false p f q e = f q e

pub without_found : (names : List Named) (name : ℕ) (v : Numbers) → AreDifferent names
    → name_with (without_name names name) v ≡ once_gone (numbers_at names name) v (name_with names v)
without_found [] name v d = refl
without_found (n ∷ names) name v d = by (n.name == name) (same_numbers n.voucher v) refl (without_found names name v d.1)
  where
    other : (o : Option Numbers) → numbers_at names name ≡ o → same_numbers n.voucher v ≡ true → Some n.name ≡ once_gone o v (Some n.name)
    other None q p = refl
    other (Some u) q p = at (same_numbers u v) refl
      where
        at : (s : Bool) → same_numbers u v ≡ s → Some n.name ≡ cond s None (Some n.name)
        at false r = refl
        at true r =
            let e : n.voucher ≡ u = same_eq n.voucher v p ∙ sym (same_eq u v r) in
            absurd (there names name u q (subst (λ x. name_with names x ≡ None) e d.0))

    by : (b s : Bool) → same_numbers n.voucher v ≡ s
        → name_with (without_name names name) v ≡ once_gone (numbers_at names name) v (name_with names v)
        → name_with (cond b names (n ∷ without_name names name)) v
        ≡ once_gone (cond b (Some n.voucher) (numbers_at names name)) v (cond s (Some n.name) (name_with names v))
    by true true p f = rw p (subst (λ x. name_with names x ≡ None) (same_eq n.voucher v p) d.0)
    by true false p f = rw p refl
    by false true p f = rw p (other (numbers_at names name) refl p)
    by false false p f = rw p f

pub without_different : (names : List Named) (name : ℕ) → AreDifferent names → AreDifferent (without_name names name)
without_different [] name d = tt
without_different (n ∷ names) name d = by (n.name == name) (without_different names name d.1)
  where
    by : (b : Bool) → AreDifferent (without_name names name) → AreDifferent (cond b names (n ∷ without_name names name))
    by true e = d.1
    by false e = (none_left names name n.voucher d.0, e)

-- One reference less.

-- a reference less leaves all there is to find
record Stays (names : List Named) (name : ℕ) : Type 0 where
  pub gone : gone_with names name ≡ None
  pub found : (v : Numbers) → name_with (one_less names name) v ≡ name_with names v
  pub different : AreDifferent names → AreDifferent (one_less names name)

-- or the name goes
record Goes (names : List Named) (name : ℕ) : Type 0 where
  pub gone : gone_with names name ≡ numbers_at names name
  pub less : one_less names name ≡ without_name names name

less_cases : (names : List Named) (name : ℕ) → Stays names name ⊎ Goes names name
less_cases [] name = inr (record { gone = refl; less = refl })
less_cases (n ∷ names) name = by (n.name == name) refl (nat_lt 1 n.refs) refl (less_cases names name)
  where
    by : (b : Bool) → (n.name == name) ≡ b → (m : Bool) → nat_lt 1 n.refs ≡ m → Stays names name ⊎ Goes names name → Stays (n ∷ names) name ⊎ Goes (n ∷ names) name
    by true p true q r = inl (record { gone = rw (p, q) refl; found = λ v. rw (p, q) refl; different = λ d. rw (p, q) d })
    by true p false q r = inr (record { gone = rw (p, q) refl; less = rw (p, q) refl })
    by false p m q (inl r) = inl (record {
      gone = rw p r.gone;
      found = λ v. rw p (ap (λ o. cond (same_numbers n.voucher v) (Some n.name) o) (r.found v));
      different = λ d. rw p (r.found n.voucher ∙ d.0, r.different d.1);
    })
    by false p m q (inr r) = inr (record { gone = rw p r.gone; less = rw p (ap (λ l. n ∷ l) r.less) })

pub less_found : (names : List Named) (name : ℕ) (v : Numbers) → AreDifferent names
    → name_with (one_less names name) v ≡ once_gone (gone_with names name) v (name_with names v)
less_found names name v d = elim (less_cases names name) [
  | inl r ↦ rw r.gone (r.found v)
  | inr r ↦ rw (r.gone, r.less) (without_found names name v d)
]

pub less_different : (names : List Named) (name : ℕ) → AreDifferent names → AreDifferent (one_less names name)
less_different names name d = elim (less_cases names name) [
  | inl r ↦ r.different d
  | inr r ↦ rw r.less (without_different names name d)
]

-- A name more.

pub end_found : (names : List Named) (n : Named) (v : Numbers) → name_with names n.voucher ≡ None
    → name_with (names ++ n ∷ []) v ≡ cond (same_numbers n.voucher v) (Some n.name) (name_with names v)
end_found [] n v e = refl
end_found (m ∷ names) n v e = at (same_numbers m.voucher n.voucher) refl (end_found names n v) e
  where
    by : (s t : Bool) → same_numbers m.voucher v ≡ s → same_numbers n.voucher v ≡ t → same_numbers m.voucher n.voucher ≡ false
        → cond s (Some m.name) (cond t (Some n.name) (name_with names v)) ≡ cond t (Some n.name) (cond s (Some m.name) (name_with names v))
    by false t p q r = refl
    by true false p q r = refl
    by true true p q r =
        let e : v ≡ n.voucher = sym (same_eq n.voucher v q) in
        absurd (true_false (same_numbers m.voucher n.voucher) (subst (λ x. same_numbers m.voucher x ≡ true) e p) r)

    at : (r : Bool) → same_numbers m.voucher n.voucher ≡ r
        → (name_with names n.voucher ≡ None → name_with (names ++ n ∷ []) v ≡ cond (same_numbers n.voucher v) (Some n.name) (name_with names v))
        → cond r (Some m.name) (name_with names n.voucher) ≡ None → name_with (m ∷ (names ++ n ∷ [])) v ≡ cond (same_numbers n.voucher v) (Some n.name) (name_with (m ∷ names) v)
    at true r f e = absurd (some_none m.name e)
    at false r f e = ap (λ o. cond (same_numbers m.voucher v) (Some m.name) o) (f e) ∙ by (same_numbers m.voucher v) (same_numbers n.voucher v) refl refl r

pub end_different : (names : List Named) (n : Named) → name_with names n.voucher ≡ None → AreDifferent names → AreDifferent (names ++ n ∷ [])
end_different [] n e d = (refl, tt)
end_different (m ∷ names) n e d = at (same_numbers m.voucher n.voucher) refl (λ none. end_different names n none d.1) e
  where
    at : (r : Bool) → same_numbers m.voucher n.voucher ≡ r → (name_with names n.voucher ≡ None → AreDifferent (names ++ n ∷ []))
        → cond r (Some m.name) (name_with names n.voucher) ≡ None → AreDifferent (m ∷ (names ++ n ∷ []))
    at true r f e = absurd (some_none m.name e)
    at false r f e = (end_found names n m.voucher e ∙ rw (turned m.voucher n.voucher r) d.0, f e)

-- The index follows.

module _ {S : Type 0} where
  pub named_more : (ix : IndexMap Numbers ℕ S) (names new : List Named) (name : ℕ) → IsNamed ix names → new ≡ one_more names name → IsNamed ix new
  named_more ix names new name is e = subst (IsNamed ix) (sym e) (record {
    finds = λ v. is.finds v ∙ sym (more_found names name v);
    different = more_different names name is.different;
  })

  pub named_less : (ix ix2 : IndexMap Numbers ℕ S) (names new : List Named) (name : ℕ) (gone : Option Numbers) → IsNamed ix names
      → new ≡ one_less names name → gone ≡ gone_with names name
      → ((v : Numbers) → get same_numbers ix2 v ≡ once_gone gone v (get same_numbers ix v)) → IsNamed ix2 new
  named_less ix ix2 names new name gone is e g u = subst (IsNamed ix2) (sym e) (record {
    finds = λ v. u v ∙ (ap (λ o. once_gone gone v o) (is.finds v) ∙ (ap (λ o. once_gone o v (name_with names v)) g ∙ sym (less_found names name v is.different)));
    different = less_different names name is.different;
  })

  pub named_without : (ix ix2 : IndexMap Numbers ℕ S) (names new : List Named) (name : ℕ) (gone : Option Numbers) → IsNamed ix names
      → new ≡ without_name names name → gone ≡ numbers_at names name
      → ((v : Numbers) → get same_numbers ix2 v ≡ once_gone gone v (get same_numbers ix v)) → IsNamed ix2 new
  named_without ix ix2 names new name gone is e g u = subst (IsNamed ix2) (sym e) (record {
    finds = λ v. u v ∙ (ap (λ o. once_gone gone v o) (is.finds v) ∙ (ap (λ o. once_gone o v (name_with names v)) g ∙ sym (without_found names name v is.different)));
    different = without_different names name is.different;
  })

  pub named_end : (ix ix2 : IndexMap Numbers ℕ S) (names new : List Named) (n : Named) → IsNamed ix names → name_with names n.voucher ≡ None
      → new ≡ names ++ n ∷ [] → ((v : Numbers) → get same_numbers ix2 v ≡ cond (same_numbers n.voucher v) (Some n.name) (get same_numbers ix v)) → IsNamed ix2 new
  named_end ix ix2 names new n is none e u = subst (IsNamed ix2) (sym e) (record {
    finds = λ v. u v ∙ (ap (λ o. cond (same_numbers n.voucher v) (Some n.name) o) (is.finds v) ∙ sym (end_found names n v none));
    different = end_different names n none is.different;
  })
