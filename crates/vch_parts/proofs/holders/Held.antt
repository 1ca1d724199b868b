-- A handle is held in the state exactly where the picture counts a holder.
use Rattle.std.proofs.Common.{◌≡◌, ℕ, ◌+◌, ◌==◌, nat_lt, ◌&&◌, ◌||◌, Bool, true, false, cond, List, [], ◌∷◌, refl, arith, sym, ap, ◌∙◌, map, Option, Some, None}
use Rattle.std.specs.List.{list_any, flat_map}
use Rattle.std.proofs.lemmas.Grind.{common_steps}
use Rattle.std.proofs.lemmas.List.Sums.{sum_by-cons}
use Rattle.std.proofs.lemmas.List.Folds.{list_any-append}
use Rattle.vch_base.specs.declared.key.Key.{Key}
use Rattle.vch_base.specs.Keys.{same_key}
use Rattle.vch_base.specs.Keyed.{of_key}
use Rattle.vch_base.specs.Managers.{count}
use Rattle.vch_machine.specs.Naming.{same_handles}
use Rattle.vch_machine.specs.State as machine
use Rattle.vch_machine.specs.State.{Handles, Place, same_place, Named, Message, Machine, Tasked, has_place, option_has, is_held, is_handle}
use Rattle.vch_legal.proofs.CallerLemmas.{handles_eq}
use Rattle.vch_frame.specs.Indices.{listed}
use Rattle.vch_frame.proofs.CallerLemmas.{cases_of}
use Rattle.vch_parts.specs.Plain.{Plain}
use Rattle.vch_parts.specs.Pictures.{option_handles, task_vouchers, different, known_vouchers, voucher_holds, let_holds, forming_holds, frame_holds, task_holds, picture_of}

abbrev pub has : ℕ → List ℕ → Bool
has h xs = list_any (λ x. x == h) xs

pub any_same : {X : Type 0} (p q : X → Bool) → ((x : X) → p x ≡ q x) → (xs : List X) → list_any p xs ≡ list_any q xs
any_same p q e [] = refl
any_same p q e (x ∷ xs) = let r : list_any p xs ≡ list_any q xs = any_same p q e xs in rw (e x, r) refl

any_or : {X : Type 0} (p q : X → Bool) (xs : List X) → list_any (λ x. p x || q x) xs ≡ (list_any p xs || list_any q xs)
any_or p q [] = refl
any_or p q (x ∷ xs) = let r : list_any (λ x. p x || q x) xs ≡ (list_any p xs || list_any q xs) = any_or p q xs in rw r (grind arith)

any_flat : {X Y : Type 0} (p : Y → Bool) (f : X → List Y) (xs : List X) → list_any p (flat_map f xs) ≡ list_any (λ x. list_any p (f x)) xs
any_flat p f [] = refl
any_flat p f (x ∷ xs) = list_any-append p (f x) (flat_map f xs) ∙ ap (λ b. list_any p (f x) || b) (any_flat p f xs)

any_map : {X Y : Type 0} (p : Y → Bool) (f : X → Y) (xs : List X) → list_any p (map f xs) ≡ list_any (λ x. p (f x)) xs
any_map p f [] = refl
any_map p f (x ∷ xs) = ap (λ b. p (f x) || b) (any_map p f xs)

count_step : (b hs : Bool) (n total : ℕ) → total ≡ cond b 1 0 + n → hs ≡ nat_lt 0 n → (b || hs) ≡ nat_lt 0 total
count_step true hs n total e r = grind (arith, common_steps)
count_step false hs n total e r = let q : n ≡ total = omega (arith, e) in r ∙ ap (λ t. nat_lt 0 t) q

pub has_count : (h : ℕ) (xs : List ℕ) → has h xs ≡ nat_lt 0 (count h xs)
has_count h [] = refl
has_count h (x ∷ xs) = count_step (x == h) (has h xs) (count h xs) (count h (x ∷ xs)) (sum_by-cons (λ y. cond (y == h) 1 0) x xs) (has_count h xs)

-- a test of vouchers is passed by one of the different ones where one passes it

known_passes : (p : Handles → Bool) (v : Handles) (vs : List Handles) → list_any (same_handles v) vs ≡ true → p v ≡ true → list_any p vs ≡ true
known_passes p v [] e f = absurd (cc)
known_passes p v (u ∷ vs) e f = cases_of (same_handles v u) (list_any p (u ∷ vs) ≡ true)
    (λ same. let z : p u ≡ true = sym (ap p (handles_eq v u same)) ∙ f in rw z refl)
    (λ other. let z : list_any (same_handles v) vs ≡ true = rw other at e in let r : list_any p vs ≡ true = known_passes p v vs z f in rw r (grind arith))

absorbed : (a b : Bool) → (a ≡ true → b ≡ true) → b ≡ (a || b)
absorbed true b f = f refl
absorbed false b f = refl

any_different : (p : Handles → Bool) (vs : List Handles) → list_any p (different vs) ≡ list_any p vs
any_different p [] = refl
any_different p (v ∷ vs) = by (list_any (same_handles v) vs) refl (any_different p vs)
  where
    by : (b : Bool) → list_any (same_handles v) vs ≡ b → list_any p (different vs) ≡ list_any p vs → list_any p (cond b (different vs) (v ∷ different vs)) ≡ (p v || list_any p vs)
    by true e r = r ∙ absorbed (p v) (list_any p vs) (known_passes p v vs e)
    by false e r = ap (λ b. p v || b) r

listed_has : (o : Option ℕ) (h : ℕ) → has h (listed o) ≡ is_handle o h
listed_has None h = refl
listed_has (Some g) h = grind arith

module _ (k : Key) (h : ℕ) where
  abbrev pub here : Place
  here = record { key = k; handle = h }

  -- Frames.

  lets_has : (ps : List Place) → list_any (λ q. same_place q here) ps ≡ has h (flat_map (let_holds k) ps)
  lets_has ps = any_same (λ q. same_place q here) (λ q. has h (let_holds k q)) one ps ∙ sym (any_flat (λ x. x == h) (let_holds k) ps)
    where
      one : (q : Place) → same_place q here ≡ has h (let_holds k q)
      one q = by (same_key q.key k)
        where
          by : (b : Bool) → (b && (q.handle == h)) ≡ has h (cond b (q.handle ∷ []) [])
          by true = grind arith
          by false = refl

  frame_has : (f : Option machine.Frame) → machine.frame_holds f here ≡ has h (frame_holds k f)
  frame_has None = refl
  frame_has (Some f) = forming f.forming ∙ sym (list_any-append (λ x. x == h) (forming_holds k f.forming) (flat_map (let_holds k) f.lets))
    where
      forming : (o : Option Handles) → (option_has o here || list_any (λ q. same_place q here) f.lets) ≡ (has h (forming_holds k o) || has h (flat_map (let_holds k) f.lets))
      forming None = lets_has f.lets
      forming (Some v) = let a : has h (listed (of_key k v)) ≡ is_handle (of_key k v) h = listed_has (of_key k v) h in let b = lets_has f.lets in rw (a, b) refl

  -- Names and messages.

  message_has : (o : Option Handles) → list_any (λ v. has_place v here) (option_handles o) ≡ option_has o here
  message_has None = refl
  message_has (Some v) = grind arith

  abbrev kept_has : Tasked → Bool
  kept_has y = list_any (λ (n : Named). has_place n.voucher here) y.names || list_any (λ (q : Message). option_has q.voucher here) y.queue

  task_has : (y : Tasked) → list_any (λ v. has_place v here) (task_vouchers y) ≡ kept_has y
  task_has y =
      let a = any_map (λ v. has_place v here) (λ (n : Named). n.voucher) y.names in
      let b = any_flat (λ v. has_place v here) (λ (q : Message). option_handles q.voucher) y.queue ∙ any_same _ (λ (q : Message). option_has q.voucher here) (λ q. message_has q.voucher) y.queue in
      list_any-append (λ v. has_place v here) (map (λ (n : Named). n.voucher) y.names) (flat_map (λ (q : Message). option_handles q.voucher) y.queue) ∙ rw (a, b) refl

  known_has : (tasks : List Tasked) → has h (flat_map (voucher_holds k) (known_vouchers tasks)) ≡ list_any kept_has tasks
  known_has tasks =
      any_flat (λ x. x == h) (voucher_holds k) (known_vouchers tasks)
      ∙ any_same (λ v. has h (voucher_holds k v)) (λ v. has_place v here) (λ v. listed_has (of_key k v) h) (known_vouchers tasks)
      ∙ any_different (λ v. has_place v here) (flat_map task_vouchers tasks)
      ∙ any_flat (λ v. has_place v here) task_vouchers tasks
      ∙ any_same (λ y. list_any (λ v. has_place v here) (task_vouchers y)) kept_has task_has tasks

  turned : (a b d : Bool) → (a || (b || d)) ≡ (d || (a || b))
  turned a b d = grind arith

  -- the state holds a handle exactly where the picture counts a holder of it
  pub held_counted : (c : Plain) (m : Machine) → is_held m here ≡ nat_lt 0 (count h (picture_of k c m).holders)
  held_counted c m =
      any_same (machine.task_holds here) (λ y. machine.frame_holds y.frame here || kept_has y) (λ y. turned (list_any (λ (n : Named). has_place n.voucher here) y.names) (list_any (λ (q : Message). option_has q.voucher here) y.queue) (machine.frame_holds y.frame here)) m.tasks
      ∙ any_or (λ (y : Tasked). machine.frame_holds y.frame here) kept_has m.tasks
      ∙ ap (λ b. list_any (λ (y : Tasked). machine.frame_holds y.frame here) m.tasks || b) (sym (known_has m.tasks))
      ∙ ap (λ b. b || has h (flat_map (voucher_holds k) (known_vouchers m.tasks))) (any_same (λ (y : Tasked). machine.frame_holds y.frame here) (λ (y : Tasked). has h (task_holds k y)) (λ y. frame_has y.frame) m.tasks ∙ sym (any_flat (λ x. x == h) (task_holds k) m.tasks))
      ∙ sym (list_any-append (λ x. x == h) (flat_map (task_holds k) m.tasks) (flat_map (voucher_holds k) (known_vouchers m.tasks)))
      ∙ has_count h (picture_of k c m).holders
