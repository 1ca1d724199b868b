-- Whether a live value is held, by the numbers of all vouchers.
use Rattle.std.proofs.Common.{◌≡◌, ◌≢◌, ℕ, ◌<◌, ◌≤◌, Bool, List, [], ◌∷◌, ◌++◌, refl, true, false, arith, ap, sym, ◌∙◌, subst, Some, None, Option, inl, inr, cond, ◌&&◌, ◌||◌}
use Rattle.std.specs.Prelude.{◌⊎◌, ◌==◌, nat_lt}
use Rattle.std.proofs.lemmas.Grind.{common_steps}
use Rattle.std.proofs.lemmas.List.Folds.{list_any-append}
use Rattle.std.specs.List.{AllByRecursion, list_any, flat_map}
use Rattle.vch_base.specs.declared.key.Key.{Key}
use Rattle.vch_base.specs.declared.key.Key.TheVariants as keys
use Rattle.vch_base.specs.Keys.{number_of, key_numbered}
use Rattle.vch_base.specs.declared.value.Value.{Value}
use Rattle.vch_model.specs.declared.entry.Entry.{Entry}
use Rattle.vch_model.specs.Store as store
use Rattle.vch_model.specs.Store.{is_held, has_value}
use Rattle.vch_model.specs.Voucher.{equal_options}
use Rattle.vch_books.specs.declared.numbers.Numbers.{Numbers}
use Rattle.vch_books.specs.declared.rows.Named.{Named}
use Rattle.vch_books.specs.declared.rows.Message.{Message}
use Rattle.vch_books.specs.Desks.{Desk, same_option}
use Rattle.vch_books.specs.Holding.{is_one, numbers_of, desk_numbers, all_numbers, number_list, numbers_in, held_numbers}
use Rattle.vch_books.specs.Numbered.{StandsAt, Stands, at_key, entry_at, key_made, numbered_value, numbered_voucher, option_voucher, live_of}
use Rattle.vch_books.specs.Audits.{Audit, store_at}
use Rattle.vch_books.specs.Kept.{Lists, Keeps, IsMade, IsOneOf, AreApart}
use Rattle.vch_books.proofs.Values.{eq_refl, number_eq}
use Rattle.vch_books.proofs.Alike.{among, made_of, option_alike}
use Rattle.vch_books.proofs.CountLists.{any_alike}
use Rattle.vch_books.proofs.Ends.{all_stand}
use Rattle.vch_books.proofs.LiveChanges.{HeldBy, held_is, own_option, key_back}

-- a voucher has the number at the key
abbrev has_number : Key → ℕ → Numbers → Bool
has_number k e v = same_option (at_key k v) (Some e)

has_is : (h : List Entry) (n : ℕ) (live : List ℕ) → AreApart h live → AllByRecursion (IsMade h n) live → (k : Key) (v : Numbers) (e : ℕ) → IsOneOf live e → key_made (entry_at h e) ≡ number_of k
    → Stands h (live_of h live) v → has_value k (numbered_value h e) (numbered_voucher h v) ≡ has_number k e v
unfolding Stands
has_is h n live apart made k v e one key s =
    ap (λ o. equal_options o (Some (numbered_value h e))) (own_option h k v) ∙ option_alike h n live apart made k (at_key k v) (Some e) (s k) (inr (among h live e one, key))

any_where : {A : Type 0} (P : A → Type 0) (p q : A → Bool) (xs : List A) → ((x : A) → P x → p x ≡ q x) → AllByRecursion P xs → list_any p xs ≡ list_any q xs
any_where P p q [] f h = refl
any_where P p q (x ∷ xs) f h = rw (f x h.0, any_where P p q xs f h.1) refl

-- Of any list of lists.

pub any_flat : {A B : Type 0} (p : B → Bool) (f : A → List B) (xs : List A) → list_any p (flat_map f xs) ≡ list_any (λ x. list_any p (f x)) xs
any_flat p f [] = refl
any_flat p f (x ∷ xs) = list_any-append p (f x) (flat_map f xs) ∙ ap (λ b. list_any p (f x) || b) (any_flat p f xs)

or_none : (b : Bool) → (b || false) ≡ b
or_none true = refl
or_none false = refl

module _ (h : List Entry) (e : ℕ) (k : Key) where
  has : Numbers → Bool
  has v = has_value k (numbered_value h e) (numbered_voucher h v)

  desk_any : (d : Desk) → HeldBy h e (Some k) d ≡ list_any (λ v. has_value k (numbered_value h e) (numbered_voucher h v)) (desk_numbers d)
  desk_any d =
      let p : Numbers → Bool = λ v. has_value k (numbered_value h e) (numbered_voucher h v) in
      sym (list_any-append p (flat_map (λ (n : Named). n.voucher ∷ []) d.names) (flat_map numbers_of d.queue)
      ∙ (ap (λ b. b || list_any p (flat_map numbers_of d.queue)) (any_flat p (λ (n : Named). n.voucher ∷ []) d.names ∙ any_alike _ (λ (n : Named). p n.voucher) d.names (λ n. or_none (p n.voucher)))
      ∙ ap (λ b. list_any (λ (n : Named). p n.voucher) d.names || b) (any_flat p numbers_of d.queue ∙ any_alike _ (λ (q : Message). store.message_has k (numbered_value h e) (option_voucher h q.voucher)) d.queue (λ q. one q.sender q.id q.voucher))))
    where
      one : (s i : ℕ) (o : Option Numbers) → list_any (λ v. has_value k (numbered_value h e) (numbered_voucher h v)) (numbers_of (record { sender = s; id = i; voucher = o })) ≡ store.message_has k (numbered_value h e) (option_voucher h o)
      one s i None = refl
      one s i (Some v) = or_none (has_value k (numbered_value h e) (numbered_voucher h v))

  tasks_any : (tasks : List Desk) → list_any (HeldBy h e (Some k)) tasks ≡ list_any (λ v. has_value k (numbered_value h e) (numbered_voucher h v)) (all_numbers tasks)
  tasks_any [] = refl
  tasks_any (d ∷ tasks) =
      let p : Numbers → Bool = λ v. has_value k (numbered_value h e) (numbered_voucher h v) in
      ap (λ b. b || list_any (HeldBy h e (Some k)) tasks) (desk_any d) ∙ (ap (λ b. list_any p (desk_numbers d) || b) (tasks_any tasks) ∙ sym (list_any-append p (desk_numbers d) (all_numbers tasks)))

-- A number of a voucher that stands is that of a value at its own key.

number_one : (o : Option ℕ) (e : ℕ) → 1 ≤ e → is_one (number_list o) e ≡ same_option o (Some e)
number_one None e some = refl
number_one (Some n) e some = by (nat_lt 0 n) refl
  where
    zero_not : (n e : ℕ) → nat_lt 0 n ≡ false → 1 ≤ e → false ≡ (n == e)
    zero_not n e q s = grind (arith, common_steps)

    by : (b : Bool) → nat_lt 0 n ≡ b → is_one (cond b (n ∷ []) []) e ≡ (n == e)
    by true q = or_none (n == e)
    by false q = zero_not n e q some

wrong_key : (h : List Entry) (live : List ℕ) (j : Key) (o : Option ℕ) (e : ℕ) → 1 ≤ e → (key_made (entry_at h e) ≡ number_of j → ⊥) → StandsAt h (live_of h live) j o → same_option o (Some e) ≡ false
wrong_key h live j None e some other s = refl
wrong_key h live j (Some d) e some other s = by (d == e) refl s
  where
    none : (d e : ℕ) → d ≡ e → d ≡ 0 → 1 ≤ e → ⊥
    none d e p q r = omega (arith, p, q, r)

    by : (b : Bool) → (d == e) ≡ b → StandsAt h (live_of h live) j (Some d) → b ≡ false
    by false q s = refl
    by true q (inl z) = absurd (none d e (number_eq d e q) z some)
    by true q (inr p) = absurd (other (ap (λ y. key_made (entry_at h y)) (sym (number_eq d e q)) ∙ p.1))

four : (a b c d e : List ℕ) (n : ℕ) → is_one (a ++ (b ++ (c ++ d))) n ≡ (is_one a n || (is_one b n || (is_one c n || is_one d n)))
four a b c d e n =
    let p : ℕ → Bool = λ i. i == n in
    list_any-append p a (b ++ (c ++ d)) ∙ ap (λ x. list_any p a || x) (list_any-append p b (c ++ d) ∙ ap (λ x. list_any p b || x) (list_any-append p c d))

key_apart : (j k : Key) → number_of j ≡ number_of k → j ≡ k
key_apart j k e = let z : Some j ≡ Some k = sym (key_back j) ∙ (ap key_numbered e ∙ key_back k) in cc

module _ (h : List Entry) (live : List ℕ) (e : ℕ) (some : 1 ≤ e) where
  at_first : (a b c d : Bool) → b ≡ false → c ≡ false → d ≡ false → (a || (b || (c || d))) ≡ a
  at_first a b c d p q r = rw (p, q, r) (or_none a)

  at_second : (a b c d : Bool) → a ≡ false → c ≡ false → d ≡ false → (a || (b || (c || d))) ≡ b
  at_second a b c d p q r = rw (p, q, r) (or_none b)

  at_third : (a b c d : Bool) → a ≡ false → b ≡ false → d ≡ false → (a || (b || (c || d))) ≡ c
  at_third a b c d p q r = rw (p, q, r) (or_none c)

  at_fourth : (a b c d : Bool) → a ≡ false → b ≡ false → c ≡ false → (a || (b || (c || d))) ≡ d
  at_fourth a b c d p q r = rw (p, q, r) refl

  split : (v : Numbers) → is_one (numbers_in v) e ≡ (same_option v.importance (Some e) || (same_option v.bank (Some e) || (same_option v.user (Some e) || same_option v.test (Some e))))
  split v = four (number_list v.importance) (number_list v.bank) (number_list v.user) (number_list v.test) [] e
      ∙ rw (number_one v.importance e some, number_one v.bank e some, number_one v.user e some, number_one v.test e some) refl

  own_number : (k : Key) (v : Numbers) → key_made (entry_at h e) ≡ number_of k → Stands h (live_of h live) v → has_number k e v ≡ is_one (numbers_in v) e
  unfolding Stands
  own_number k v key s = by k key ∙ sym (split v)
    where
      off : (j : Key) → (key_made (entry_at h e) ≡ number_of j → ⊥) → has_number j e v ≡ false
      off j n = wrong_key h live j (at_key j v) e some n (s j)

      apart : (j k : Key) → (k ≡ j → ⊥) → key_made (entry_at h e) ≡ number_of k → key_made (entry_at h e) ≡ number_of j → ⊥
      apart j k n p q = n (key_apart k j (sym p ∙ q))

      by : (k : Key) → key_made (entry_at h e) ≡ number_of k → has_number k e v ≡ (same_option v.importance (Some e) || (same_option v.bank (Some e) || (same_option v.user (Some e) || same_option v.test (Some e))))
      by keys.Importance q = sym (at_first _ _ _ _ (off keys.Bank (apart keys.Bank keys.Importance (λ z. cc) q)) (off keys.User (apart keys.User keys.Importance (λ z. cc) q)) (off keys.Test (apart keys.Test keys.Importance (λ z. cc) q)))
      by keys.Bank q = sym (at_second _ _ _ _ (off keys.Importance (apart keys.Importance keys.Bank (λ z. cc) q)) (off keys.User (apart keys.User keys.Bank (λ z. cc) q)) (off keys.Test (apart keys.Test keys.Bank (λ z. cc) q)))
      by keys.User q = sym (at_third _ _ _ _ (off keys.Importance (apart keys.Importance keys.User (λ z. cc) q)) (off keys.Bank (apart keys.Bank keys.User (λ z. cc) q)) (off keys.Test (apart keys.Test keys.User (λ z. cc) q)))
      by keys.Test q = sym (at_fourth _ _ _ _ (off keys.Importance (apart keys.Importance keys.Test (λ z. cc) q)) (off keys.Bank (apart keys.Bank keys.Test (λ z. cc) q)) (off keys.User (apart keys.User keys.Test (λ z. cc) q)))

  no_number : (v : Numbers) → ((k : Key) → key_made (entry_at h e) ≡ number_of k → ⊥) → Stands h (live_of h live) v → false ≡ is_one (numbers_in v) e
  unfolding Stands
  no_number v n s = sym (split v ∙ rw (off keys.Importance, off keys.Bank, off keys.User, off keys.Test) refl)
    where
      off : (j : Key) → has_number j e v ≡ false
      off j = wrong_key h live j (at_key j v) e some (n j) (s j)

key_there : (n : ℕ) (k : Key) → key_numbered n ≡ Some k → n ≡ number_of k
key_there n k e = first (n == 2) refl e
  where
    some_eq : (a b : Key) → Some a ≡ Some b → a ≡ b
    some_eq a b r = cc

    is : (j : Key) → (n == number_of j) ≡ true → Some j ≡ Some k → n ≡ number_of k
    is j p q = number_eq n (number_of j) p ∙ ap number_of (some_eq j k q)

    fourth : (b : Bool) → (n == 8) ≡ b → cond b (Some keys.Test) None ≡ Some k → n ≡ number_of k
    fourth true p q = is keys.Test p q
    fourth false p q = absurd (cc)

    third : (b : Bool) → (n == 7) ≡ b → cond b (Some keys.User) (cond (n == 8) (Some keys.Test) None) ≡ Some k → n ≡ number_of k
    third true p q = is keys.User p q
    third false p q = fourth (n == 8) refl q

    second : (b : Bool) → (n == 3) ≡ b → cond b (Some keys.Bank) (cond (n == 7) (Some keys.User) (cond (n == 8) (Some keys.Test) None)) ≡ Some k → n ≡ number_of k
    second true p q = is keys.Bank p q
    second false p q = third (n == 7) refl q

    first : (b : Bool) → (n == 2) ≡ b → cond b (Some keys.Importance) (cond (n == 3) (Some keys.Bank) (cond (n == 7) (Some keys.User) (cond (n == 8) (Some keys.Test) None))) ≡ Some k → n ≡ number_of k
    first true p q = is keys.Importance p q
    first false p q = second (n == 3) refl q

pub held_kept : (a : Audit) (l : Lists) → Keeps a l → (e : ℕ) → IsOneOf l.live e → is_held (store_at a) (key_made (entry_at a.history e)) (numbered_value a.history e) ≡ is_one (held_numbers l.tasks) e
held_kept a l keeps e one =
    ap (λ s. is_held s (key_made (entry_at a.history e)) (numbered_value a.history e)) keeps.store
    ∙ (held_is a.history l.tasks l.live e (key_numbered (key_made (entry_at a.history e)))
    ∙ (by (key_numbered (key_made (entry_at a.history e))) refl ∙ sym (any_flat (λ d. d == e) numbers_in (all_numbers l.tasks))))
  where
    some : 1 ≤ e
    some = (made_of a.history a.taken l.live e keeps.made one).some

    stand : AllByRecursion (Stands a.history (live_of a.history l.live)) (all_numbers l.tasks)
    stand = all_stand a.history (live_of a.history l.live) l.tasks keeps.stands

    none : (ds : List Desk) → list_any (HeldBy a.history e None) ds ≡ false
    none [] = refl
    none (d ∷ ds) = none ds

    never : (vs : List Numbers) → list_any (λ (v : Numbers). false) vs ≡ false
    never [] = refl
    never (v ∷ vs) = never vs

    no_key : key_numbered (key_made (entry_at a.history e)) ≡ None → (k : Key) → key_made (entry_at a.history e) ≡ number_of k → ⊥
    no_key q k r = let z : None ≡ Some k = sym q ∙ (ap key_numbered r ∙ key_back k) in cc

    by : (o : Option Key) → key_numbered (key_made (entry_at a.history e)) ≡ o → list_any (HeldBy a.history e o) l.tasks ≡ list_any (λ v. is_one (numbers_in v) e) (all_numbers l.tasks)
    by None q =
        none l.tasks ∙ (sym (never (all_numbers l.tasks))
        ∙ any_where (Stands a.history (live_of a.history l.live)) (λ v. false) (λ v. is_one (numbers_in v) e) (all_numbers l.tasks) (λ v s. no_number a.history l.live e some v (no_key q) s) stand)
    by (Some k) q =
        tasks_any a.history e k l.tasks
        ∙ any_where (Stands a.history (live_of a.history l.live)) (λ v. has_value k (numbered_value a.history e) (numbered_voucher a.history v)) (λ v. is_one (numbers_in v) e) (all_numbers l.tasks)
        (λ v s. has_is a.history a.taken l.live keeps.apart keeps.made k v e one (key_there (key_made (entry_at a.history e)) k q) s ∙ own_number a.history l.live e some k v (key_there (key_made (entry_at a.history e)) k q) s) stand
