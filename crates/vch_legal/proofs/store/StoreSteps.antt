-- What is known of every store after a legal history, and that a Made and a Released entry keep it.
use Rattle.std.proofs.Common.{◌≡◌, ℕ, ◌+◌, ◌≤◌, Bool, List, [], ◌∷◌, ◌++◌, refl, true, false, ◌&&◌, ◌||◌, arith, sym, ap, ◌∙◌, subst, Some, None, Option, inl, inr}
use Rattle.std.proofs.lemmas.List.Folds.{list_any-append}
use Rattle.std.specs.Prelude.{if◌then◌else◌, ◌==◌}
use Rattle.std.specs.List.{list_any}
use Rattle.vch_base.specs.declared.key.Key.{Key}
use Rattle.vch_base.specs.declared.key.Key.TheVariants as keys
use Rattle.vch_base.specs.Keys.{number_of, key_of, key_numbered}
use Rattle.vch_base.specs.declared.value.Value.{Value}
use Rattle.vch_base.specs.Keyed.{of_key}
use Rattle.vch_base.specs.Managers.{is_user}
use Rattle.vch_base.specs.Values.{equal_values, is_default, BelongsAt, task_numbers}
use Rattle.vch_model.specs.declared.lists.Scenario.{Scenario}
use Rattle.vch_model.specs.Voucher.{Voucher, equal_options}
use Rattle.vch_model.specs.Store.{Store, Alive, message_has, is_held_at, is_held, is_held_by, is_alive, is_live, option_live}
use Rattle.vch_model.specs.After.{without_made}
use Rattle.vch_model.specs.Legal.{IsUnheld, find_made, all_tasks, option_all_live}
use Rattle.vch_legal.specs.Facts.{bit, times}
use Rattle.vch_legal.proofs.facts.Choices.{cases_bool, number_eq, and_left, and_right, neither_right, some_eq, or_case, or_left, or_right}
use Rattle.vch_legal.proofs.seen.SeenHeld.{values_eq}
use Rattle.vch_legal.proofs.store.StoreKeeps.{Gives}
use Rattle.vch_legal.proofs.values.ValueKeys.{key_for, key_number}

-- a live value belongs to its key and names tasks of the scenario
pub record AliveGood (sc : Scenario) (l : Alive) : Type 0 where
  pub belongs : BelongsAt (key_of sc.version l.key) l.value
  pub tasks : all_tasks sc (task_numbers l.value) ≡ true

abbrev pub AllGood : Scenario → List Alive → Type 0
AllGood sc [] = Unit {0}
AllGood sc (l ∷ live) = AliveGood sc l × AllGood sc live

abbrev pub equals : Value → Alive → Bool
equals x l = equal_values l.value x

pub record StoreFits (sc : Scenario) (s : Store) : Type 0 where
  pub good : AllGood sc s.live
  pub once : (x : Value) → is_user x ≡ false → times (equals x) s.live ≤ 1
  pub held : (k : Key) (x : Value) → is_held_at s k x ≡ true → is_live s (number_of k) x ≡ true

live_option : (s : Store) (n : ℕ) (o : Option Value) (x : Value) → option_live s n o ≡ true
    → equal_options o (Some x) ≡ true → is_live s n x ≡ true
live_option s n None x h e = cc
live_option s n (Some y) x h e = subst (λ (z : Value). is_live s n z ≡ true) (values_eq y x e) h

given_live : (s : Store) (v : Option Voucher) (k : Key) (x : Value) → option_all_live s v ≡ true
    → message_has k x v ≡ true → is_live s (number_of k) x ≡ true
given_live s None k x h e = cc
given_live s (Some v) k x h e = live_option s (number_of k) (of_key k v) x
    (each_live s v k (option_live s 2 v.importance) (option_live s 3 v.bank) (option_live s 7 v.user)
    (option_live s 8 v.test) refl refl refl refl h) e
  where
    each_live : (s : Store) (v : Voucher) (k : Key) (a b c d : Bool) → option_live s 2 v.importance ≡ a
        → option_live s 3 v.bank ≡ b → option_live s 7 v.user ≡ c → option_live s 8 v.test ≡ d
        → (a && (b && (c && (d && true)))) ≡ true → option_live s (number_of k) (of_key k v) ≡ true
    each_live s v keys.Importance a b c d p q r z h = p ∙ and_left a _ h
    each_live s v keys.Bank a b c d p q r z h = q ∙ and_left b _ (and_right a _ h)
    each_live s v keys.User a b c d p q r z h = r ∙ and_left c _ (and_right b _ (and_right a _ h))
    each_live s v keys.Test a b c d p q r z h = z ∙ and_left d _ (and_right c _ (and_right b _ (and_right a _ h)))

same_live : (s o : Store) (n : ℕ) (x : Value) → o.live ≡ s.live → is_live s n x ≡ true → is_live o n x ≡ true
same_live s o n x e h = ap (λ (live : List Alive). is_default x || list_any (is_alive n x) live) e ∙ h

pub call_keeps : (sc : Scenario) (s o : Store) (v : Option Voucher) → Gives v s o → option_all_live s v ≡ true
    → StoreFits sc s → StoreFits sc o
call_keeps sc s o v g a h = record {
  good = subst (AllGood sc) (sym g.live) h.good;
  once = λ x plain. subst (λ (live : List Alive). times (equals x) live ≤ 1) (sym g.live) (h.once x plain);
  held = λ k x e. same_live s o (number_of k) x g.live
      (elim (g.held k x e) as (λ _. is_live s (number_of k) x ≡ true)
      [ inl old ↦ h.held k x old | inr new ↦ given_live s v k x a new ]);
}

-- a value that is not live at its key is equal to no live value
pub none_equal : (sc : Scenario) (live : List Alive) (k : ℕ) (x : Value) → is_user x ≡ false → AllGood sc live
    → BelongsAt (key_of sc.version k) x → list_any (is_alive k x) live ≡ false → times (equals x) live ≡ 0
none_equal sc [] k x plain good b e = refl
none_equal sc (l ∷ live) k x plain good b e =
    cases_bool (equal_values l.value x) (times (equals x) (l ∷ live) ≡ 0)
    (λ same. absurd (no_way (list_any (is_alive k x) live) (l.key == k) (equal_values l.value x)
    (keys_same (values_eq l.value x same)) same e))
    (λ other. let i : times (equals x) live ≡ 0 = none_equal sc live k x plain good.1 b
    (later (is_alive k x l) (list_any (is_alive k x) live) e) in rw other (omega arith))
  where
    later : (a b : Bool) → (a || b) ≡ false → b ≡ false
    later a b g = grind arith

    equal_number : (a b : ℕ) → a ≡ b → (a == b) ≡ true
    equal_number a b g = grind arith

    keys_same : l.value ≡ x → (l.key == k) ≡ true
    keys_same g = equal_number l.key k (key_number sc.version l.key l.value (ap is_user g ∙ plain) good.0.belongs
        ∙ (ap (λ y. number_of (key_for y)) g ∙ sym (key_number sc.version k x plain b)))

    no_way : (r a b : Bool) → a ≡ true → b ≡ true → ((a && b) || r) ≡ false → ⊥
    no_way r a b p q g = let i : true ≡ false = sym (grind_true r a b p q) ∙ g in cc
      where
        grind_true : (r a b : Bool) → a ≡ true → b ≡ true → ((a && b) || r) ≡ true
        grind_true r a b p q = grind arith

good_more : (sc : Scenario) (live : List Alive) (l : Alive) → AllGood sc live → AliveGood sc l
    → AllGood sc (live ++ l ∷ [])
good_more sc [] l good g = (g, tt)
good_more sc (x ∷ live) l good g = (good.0, good_more sc live l good.1 g)

times_more : (p : Alive → Bool) (live : List Alive) (l : Alive) → times p (live ++ l ∷ []) ≡ times p live + bit (p l)
times_more p [] l = omega arith
times_more p (x ∷ live) l = let i : times p (live ++ l ∷ []) ≡ times p live + bit (p l) =
    times_more p live l in rw i (omega arith)

pub made_keeps : (sc : Scenario) (s : Store) (k n : ℕ) (x : Value) → BelongsAt (key_of sc.version k) x
    → all_tasks sc (task_numbers x) ≡ true → is_live s k x ≡ false → StoreFits sc s
    → StoreFits sc (record s { live = s.live ++ record { key = k; value = x; made = n } ∷ [] })
made_keeps sc s k n x b tasks absent h = record {
  good = good_more sc s.live (record { key = k; value = x; made = n }) h.good (record { belongs = b; tasks = tasks });
  once = λ y plain. cases_bool (equal_values x y) (times (equals y)
      (s.live ++ record { key = k; value = x; made = n } ∷ []) ≤ 1)
      (λ same. subst (λ (z : Value). times (equals z) (s.live ++ record { key = k; value = x; made = n } ∷ []) ≤ 1)
      (values_eq x y same)
      (rw (
        times_more (equals x) s.live (record { key = k; value = x; made = n }),
        none_equal sc s.live k x (ap is_user (values_eq x y same) ∙ plain) h.good b
            (neither_right (is_default x) (list_any (is_alive k x) s.live) absent),
      ) (one_most (equal_values x x))))
      (λ other. rw (times_more (equals y) s.live (record { key = k; value = x; made = n }), other)
      (no_more (times (equals y) s.live) (h.once y plain)));
  held = λ g y e. more_live (number_of g) y (h.held g y e);
}
  where
    one_most : (b : Bool) → 0 + bit b ≤ 1
    one_most true = omega arith
    one_most false = omega arith

    no_more : (a : ℕ) → a ≤ 1 → a + 0 ≤ 1
    no_more a g = omega arith

    more_live : (g : ℕ) (y : Value) → is_live s g y ≡ true →
        (is_default y || list_any (is_alive g y) (s.live ++ record { key = k; value = x; made = n } ∷ [])) ≡ true
    more_live g y e = elim (or_case (is_default y) (list_any (is_alive g y) s.live) e) as
        (λ _. (is_default y || list_any (is_alive g y) (s.live ++ record { key = k; value = x; made = n } ∷ []))
        ≡ true) [
          | inl default ↦ or_left (is_default y) _ default
          | inr live ↦ or_right (is_default y) _ (list_any-append (is_alive g y) s.live
              (record { key = k; value = x; made = n } ∷ []) ∙ or_left (list_any (is_alive g y) s.live) _ live)
        ]

-- Released

pub good_without : (sc : Scenario) (live : List Alive) (e : ℕ) → AllGood sc live → AllGood sc (without_made live e)
good_without sc [] e good = tt
good_without sc (l ∷ live) e good = by_test (l.made == e) (good_without sc live e good.1)
  where
    by_test : (b : Bool) → AllGood sc (without_made live e) → AllGood sc (if b then live else l ∷ without_made live e)
    by_test true later = good.1
    by_test false later = (good.0, later)

times_without : (p : Alive → Bool) (live : List Alive) (e : ℕ) → times p (without_made live e) ≤ times p live
times_without p [] e = omega arith
times_without p (l ∷ live) e = by_test (l.made == e) (times_without p live e)
  where
    by_test : (b : Bool) → times p (without_made live e) ≤ times p live
        → times p (if b then live else l ∷ without_made live e) ≤ times p (l ∷ live)
    by_test true later = omega arith
    by_test false later = omega arith

any_without : (p : Alive → Bool) (live : List Alive) (e : ℕ) (l : Alive) → find_made live e ≡ Some l → p l ≡ false
    → list_any p live ≡ true → list_any p (without_made live e) ≡ true
any_without p [] e l f n h = h
any_without p (y ∷ live) e l f n h = by_test (y.made == e) (any_without p live e l) f
  where
    by_test : (b : Bool) → (find_made live e ≡ Some l → p l ≡ false → list_any p live ≡ true
        → list_any p (without_made live e) ≡ true) → (if b then Some y else find_made live e) ≡ Some l
        → list_any p (if b then live else y ∷ without_made live e) ≡ true
    by_test true later g = elim (or_case (p y) (list_any p live) h) as (λ _. list_any p live ≡ true) [
      | inl here ↦ let i : p l ≡ true = subst (λ (z : Alive). p z ≡ true) (some_eq y l g) here
          in let j : true ≡ false = sym i ∙ n in cc
      | inr there ↦ there
    ]
    by_test false later g = elim (or_case (p y) (list_any p live) h) as
        (λ _. list_any p (y ∷ without_made live e) ≡ true) [
          | inl here ↦ or_left (p y) _ here
          | inr there ↦ or_right (p y) _ (later g n there)
        ]

key_of_number : (k : Key) → key_numbered (number_of k) ≡ Some k
key_of_number keys.Importance = refl
key_of_number keys.Bank = refl
key_of_number keys.User = refl
key_of_number keys.Test = refl

pub released_keeps : (sc : Scenario) (s : Store) (e : ℕ) (o : Option Alive) → find_made s.live e ≡ o → IsUnheld s o
    → StoreFits sc s → StoreFits sc (record s { live = without_made s.live e })
released_keeps sc s e None f u h = absurd u
released_keeps sc s e (Some l) f u h = record {
  good = good_without sc s.live e h.good;
  once = λ x plain. le_then (times_without (equals x) s.live e) (h.once x plain);
  held = λ k x g. elim (or_case (is_default x) (list_any (is_alive (number_of k) x) s.live) (h.held k x g)) as
      (λ _. (is_default x || list_any (is_alive (number_of k) x) (without_made s.live e)) ≡ true) [
        | inl default ↦ or_left (is_default x) _ default
        | inr live ↦ or_right (is_default x) _ (any_without (is_alive (number_of k) x) s.live e l f (other k x g) live)
      ];
}
  where
    le_then : {a b c : ℕ} → a ≤ b → b ≤ c → a ≤ c
    le_then x y = omega arith

    clash : (b : Bool) → b ≡ true → b ≡ false → ⊥
    clash b x y = cc

    other : (k : Key) (x : Value) → is_held_at s k x ≡ true → is_alive (number_of k) x l ≡ false
    other k x g = cases_bool (is_alive (number_of k) x l) (is_alive (number_of k) x l ≡ false)
        (λ same. absurd (clash (is_held s l.key l.value)
        (ap (λ n. is_held_by s (key_numbered n) l.value) (number_eq l.key (number_of k)
        (and_left (l.key == number_of k) (equal_values l.value x) same))
        ∙ (ap (λ o. is_held_by s o l.value) (key_of_number k)
        ∙ (ap (λ y. is_held_at s k y) (values_eq l.value x
        (and_right (l.key == number_of k) (equal_values l.value x) same)) ∙ g))) u))
        (λ no_. no_)
