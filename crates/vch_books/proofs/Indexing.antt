-- The index follows the live values.
use Rattle.std.proofs.Common.{◌≡◌, ◌≢◌, ℕ, ◌<◌, Bool, List, [], ◌∷◌, ◌++◌, refl, true, false, arith, ap, sym, ◌∙◌, subst, Some, None, Option, inl, inr, cond, ◌||◌, ◌&&◌}
use Rattle.std.specs.Prelude.{◌⊎◌, ◌==◌, is_some}
use Rattle.std.proofs.lemmas.Grind.{common_steps}
use Rattle.std.specs.List.{AllByRecursion, list_any}
use Rattle.std.specs.Ordering.{nat_cmp, is_eq}
use Rattle.std.specs.declared.cmp.Ordering.TheVariants.{Greater}
use Rattle.std.specs.BTreeSet.{insert_key}
use Rattle.std.specs.Set.{remove_key}
use Rattle.indexmap.specs.IndexMap.{IndexMap}
use Rattle.vch_base.specs.declared.value.Value.{Value}
use Rattle.vch_base.specs.Values.{is_default}
use Rattle.vch_model.specs.declared.entry.Entry.{Entry}
use Rattle.vch_shelf.specs.Finds.{Finds}
use Rattle.vch_shelf.proofs.CallerLemmas.{finds_inserted, finds_removed}
use Rattle.vch_books.specs.Holding.{number_with, is_one}
use Rattle.vch_books.specs.Kept.{IsOneOf, without_number}
use Rattle.vch_books.specs.Numbered.{entry_at, key_made, numbered_value}
use Rattle.vch_books.specs.Living.{Content, same_content, content_of, content_at, found, Indexed, IsBelow}
use Rattle.vch_books.proofs.Values.{number_eq, eq_refl}
use Rattle.vch_books.proofs.Contents.{content_decides}
use Rattle.vch_books.proofs.FoundLive.{Is, found_is, one_is, is_one_of, found_some}
use Rattle.vch_books.proofs.Values.{values_refl}
use Rattle.vch_books.proofs.LiveChanges.{any_one, not_both}
use Rattle.vch_base.specs.Values.{equal_values}
use Rattle.vch_model.specs.Store.{is_alive}
use Rattle.vch_books.specs.Numbered.{alive_of}

-- The set's words are those of the list.

at_number : (e d : ℕ) → is_eq (nat_cmp e d) ≡ (d == e)
at_number e d = grind (arith, common_steps)

pub has_is : (ks : List ℕ) (e : ℕ) → list_any (λ d. is_eq (nat_cmp e d)) ks ≡ is_one ks e
has_is [] e = refl
has_is (d ∷ ks) e = rw (at_number e d, has_is ks e) refl

pub removed_is : (ks : List ℕ) (e : ℕ) → remove_key (λ d. is_eq (nat_cmp e d)) ks ≡ without_number ks e
removed_is [] e = refl
removed_is (d ∷ ks) e = rw (at_number e d, removed_is ks e) refl

pub inserted_is : (ks : List ℕ) (e : ℕ) → IsBelow ks e → insert_key nat_cmp ks e ≡ ks ++ e ∷ []
inserted_is [] e h = refl
inserted_is (d ∷ ks) e h = rw (above e d h.0) (ap (λ l. d ∷ l) (inserted_is ks e h.1))
  where
    above : (e d : ℕ) → d < e → nat_cmp e d ≡ Greater
    above e d l = grind (arith, common_steps)

-- what a removal leaves
pub gone_is : (old new : List ℕ) (e : ℕ) → ((q : ℕ) → list_any (λ d. is_eq (nat_cmp q d)) new ≡ cond (is_eq (nat_cmp e q)) false (list_any (λ d. is_eq (nat_cmp q d)) old)) → is_one new e ≡ false
gone_is old new e u = sym (has_is new e) ∙ (u e ∙ ap (λ b. cond b false (list_any (λ d. is_eq (nat_cmp e d)) old)) (at_number e e ∙ eq_refl e))

pub others_are : (old new : List ℕ) (e : ℕ) → ((q : ℕ) → list_any (λ d. is_eq (nat_cmp q d)) new ≡ cond (is_eq (nat_cmp e q)) false (list_any (λ d. is_eq (nat_cmp q d)) old)) → (k : ℕ) → k ≢ e → is_one new k ≡ is_one old k
others_are old new e u k n = sym (has_is new k) ∙ (u k ∙ (ap (λ b. cond b false (list_any (λ d. is_eq (nat_cmp k d)) old)) (at_number e k ∙ other k e n) ∙ has_is old k))
  where
    other : (k e : ℕ) → k ≢ e → (k == e) ≡ false
    other k e n = grind (arith, common_steps)

-- What is found.

both : (a b : Bool) → a ≡ true → b ≡ true → (a && b) ≡ true
both a b e f = grind arith

some_content : (h : List Entry) (live : List ℕ) (e : ℕ) (c : Content) → is_one live e ≡ true → content_of h e ≡ c → content_at h live e ≡ Some c
some_content h live e c one same = rw one (ap Some same)

record Known (h : List Entry) (live : List ℕ) (e : ℕ) (c : Content) : Type 0 where
  pub one : is_one live e ≡ true
  pub same : content_of h e ≡ c

known : (h : List Entry) (live : List ℕ) (e : ℕ) (c : Content) → content_at h live e ≡ Some c → Known h live e c
known h live e c q = by (is_one live e) refl q
  where
    some_eq : (a b : Content) → Some a ≡ Some b → a ≡ b
    some_eq a b r = cc

    by : (b : Bool) → is_one live e ≡ b → cond b (Some (content_of h e)) None ≡ Some c → Known h live e c
    by true p r = record { one = p; same = some_eq (content_of h e) c r }
    by false p r = absurd (cc)

-- the number of a live value is what the index has for its content
pub number_is : (f : Content → Option ℕ) (h : List Entry) (live : List ℕ) (k : ℕ) (x : Value) → Finds f (content_at h live) → number_with h live k x ≡ f (record { key = k; value = x })
number_is f h live k x is = by (number_with h live k x) refl
  where
    own : Content
    own = record { key = k; value = x }

    some_there : (e : ℕ) → content_at h live e ≡ Some own → number_with h live k x ≡ None → ⊥
    some_there e q none =
        let n = known h live e own q in
        let key : key_made (entry_at h e) ≡ k = ap (λ (c : Content). c.key) n.same in
        let value : numbered_value h e ≡ x = ap (λ (c : Content). c.value) n.same in
        let same : is_alive k x (alive_of h e) ≡ true = both _ _ (subst (λ y. (y == k) ≡ true) (sym key) (eq_refl k)) (subst (λ y. equal_values y x ≡ true) (sym value) (values_refl x)) in
        not_both (any_one h (is_alive k x) live e (one_is live e n.one) same) (sym (found_some h live k x) ∙ ap is_some none)

    by : (o : Option ℕ) → number_with h live k x ≡ o → o ≡ f own
    by (Some d) q =
        let i = found_is h live k x d q in
        sym ((is own d).1 (some_content h live d own (is_one_of live d i.one) (alike i)))
      where
        alike : Is h live k x d → content_of h d ≡ own
        alike i = rw (i.key, i.value) refl
    by None q = none (f own) refl
      where
        none : (o : Option ℕ) → f own ≡ o → None ≡ o
        none None r = refl
        none (Some e) r = absurd (some_there e ((is own e).0 r) q)

-- One more and one less.

pub one_end : (live : List ℕ) (n e : ℕ) → is_one (live ++ n ∷ []) e ≡ (is_one live e || (n == e))
one_end [] n e = by (n == e)
  where
    by : (b : Bool) → (b || false) ≡ (false || b)
    by true = refl
    by false = refl
one_end (d ∷ live) n e = rw (one_end live n e) (assoc (d == e) (is_one live e) (n == e))
  where
    assoc : (a b c : Bool) → (a || (b || c)) ≡ ((a || b) || c)
    assoc true b c = refl
    assoc false b c = refl

pub not_below : (live : List ℕ) (n : ℕ) → IsBelow live n → is_one live n ≡ false
not_below [] n h = refl
not_below (d ∷ live) n h = rw (other d n h.0, not_below live n h.1) refl
  where
    other : (d n : ℕ) → d < n → (d == n) ≡ false
    other d n l = grind (arith, common_steps)

not_equal : (n k : ℕ) → k ≢ n → (n == k) ≡ false
not_equal n k m = grind (arith, common_steps)

module _ {S : Type 0} where
  pub indexed_new : (ix ix2 : IndexMap Content ℕ S) (h : List Entry) (live : List ℕ) (n : ℕ) → Indexed ix h live → IsBelow live n
      → number_with h live (key_made (entry_at h n)) (numbered_value h n) ≡ None → is_default (numbered_value h n) ≡ false
      → ((q : Content) → found ix2 q ≡ cond (same_content (content_of h n) q) (Some n) (found ix q)) → Indexed ix2 h (live ++ n ∷ [])
  indexed_new ix ix2 h live n is below absent plain u = record {
    finds = finds_inserted same_content content_decides (found ix) (found ix2) _ _ (content_of h n) n is.finds u
        (sym (number_is (found ix) h live (key_made (entry_at h n)) (numbered_value h n) is.finds) ∙ absent)
        (rw (not_below live n below) refl)
        (rw (one_end live n n, not_below live n below, eq_refl n) refl)
        (λ k m. rw (one_end live n k, not_equal n k m) (by k (is_one live k)));
    plain = λ e o. all e (is_one live e) refl (sym (one_end live n e) ∙ o);
  }
    where
      by : (k : ℕ) (b : Bool) → cond (b || false) (Some (content_of h k)) None ≡ cond b (Some (content_of h k)) None
      by k true = refl
      by k false = refl

      all : (e : ℕ) (b : Bool) → is_one live e ≡ b → (b || (n == e)) ≡ true → is_default (numbered_value h e) ≡ false
      all e true p q = is.plain e p
      all e false p q = subst (λ y. is_default (numbered_value h y) ≡ false) (number_eq n e q) plain

  pub indexed_gone : (ix ix2 : IndexMap Content ℕ S) (h : List Entry) (live new : List ℕ) (n : ℕ) → Indexed ix h live → is_one live n ≡ true
      → is_one new n ≡ false → ((k : ℕ) → k ≢ n → is_one new k ≡ is_one live k)
      → ((q : Content) → found ix2 q ≡ cond (same_content (content_of h n) q) None (found ix q)) → Indexed ix2 h new
  indexed_gone ix ix2 h live new n is one none others u = record {
    finds = finds_removed same_content content_decides (found ix) (found ix2) _ _ (content_of h n) n is.finds u
        (rw one refl) (rw none refl) (λ k m. rw (others k m) refl);
    plain = λ e o. by e (n == e) refl o;
  }
    where
      apart : (e : ℕ) → (n == e) ≡ false → e ≢ n
      apart e q r = let z : true ≡ false = sym (subst (λ y. (n == y) ≡ true) (sym r) (eq_refl n)) ∙ q in cc

      by : (e : ℕ) (b : Bool) → (n == e) ≡ b → is_one new e ≡ true → is_default (numbered_value h e) ≡ false
      by e true q o = let z : true ≡ false = sym o ∙ ap (is_one new) (sym (number_eq n e q)) ∙ none in absurd (cc)
      by e false q o = is.plain e (sym (others e (apart e q)) ∙ o)
