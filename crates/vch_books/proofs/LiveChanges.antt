-- The live values after one is made, or released.
use Rattle.std.proofs.Common.{◌≡◌, ◌≢◌, ℕ, ◌+◌, ◌-◌, ◌<◌, ◌≤◌, Bool, List, [], ◌∷◌, ◌++◌, refl, true, false, arith, ap, sym, ◌∙◌, subst, length, map, Some, None, Option, inl, inr, cond, ◌&&◌, ◌||◌}
use Rattle.std.specs.Prelude.{◌⊎◌, ◌==◌, slice_get}
use Rattle.std.proofs.lemmas.Grind.{common_steps}
use Rattle.std.proofs.lemmas.List.{map-append}
use Rattle.std.specs.List.{AllByRecursion, list_any}
use Rattle.vch_base.specs.declared.key.Key.{Key}
use Rattle.vch_base.specs.declared.key.Key.TheVariants as keys
use Rattle.vch_base.specs.Keys.{number_of, key_numbered}
use Rattle.vch_base.specs.Keyed.{of_key}
use Rattle.vch_base.specs.declared.value.Value.{Value}
use Rattle.vch_base.specs.Values.{equal_values, is_default}
use Rattle.vch_model.specs.declared.entry.Entry.{Entry}
use Rattle.vch_model.specs.declared.entry.Entry.TheVariants as entries
use Rattle.vch_model.specs.Store as store
use Rattle.vch_model.specs.Store.{Store, Alive, is_alive, is_live, is_held, is_held_at, is_held_by, has_value, message_has}
use Rattle.vch_model.specs.After.{without_made}
use Rattle.vch_model.specs.Legal.{find_made, IsUnheld}
use Rattle.vch_model.specs.Voucher.{equal_options}
use Rattle.vch_books.specs.declared.numbers.Numbers.{Numbers}
use Rattle.vch_books.specs.declared.rows.Named.{Named}
use Rattle.vch_books.specs.declared.rows.Message.{Message}
use Rattle.vch_books.specs.Desks.{Desk}
use Rattle.vch_books.specs.Numbered.{StandsAt, Stands, OptionStands, at_key, entry_at, key_made, numbered_value, numbered_option, numbered_voucher, option_voucher, alive_of, live_of, named_of, names_of, message_of, queue_of, member_of, store_of_lists}
use Rattle.vch_books.specs.Audits.{Audit, past_at, advanced, IsNext}
use Rattle.vch_books.specs.Kept.{Lists, Keeps, IsMade, IsOneOf, IsRising, DeskStands, without_number}
use Rattle.vch_sums.specs.Summed.{Summed, Follows}
use Rattle.vch_books.proofs.Lists.{all_append, all_change}
use Rattle.vch_books.proofs.Values.{number_eq, values_refl}
use Rattle.vch_books.proofs.Alike.{one_of, among}
use Rattle.vch_books.proofs.Keeping.{past_long}
use Rattle.vch_books.proofs.Advancing.{keeps_next, all_later}

-- A value is made.

one_more : (live : List ℕ) (e d : ℕ) → IsOneOf live d → IsOneOf (live ++ e ∷ []) d
one_more [] e d p = absurd p
one_more (x ∷ live) e d (inl p) = inl p
one_more (x ∷ live) e d (inr p) = inr (one_more live e d p)

one_end : (live : List ℕ) (e d : ℕ) → IsOneOf (live ++ e ∷ []) d → IsOneOf live d ⊎ (e ≡ d)
one_end [] e d (inl p) = inr p
one_end [] e d (inr p) = absurd p
one_end (x ∷ live) e d (inl p) = inl (inl p)
one_end (x ∷ live) e d (inr p) = by (one_end live e d p)
  where
    by : IsOneOf live d ⊎ (e ≡ d) → ((x ≡ d) ⊎ IsOneOf live d) ⊎ (e ≡ d)
    by (inl q) = inl (inr q)
    by (inr q) = inr q

at_more : (h : List Entry) (live : List ℕ) (e : ℕ) (k : Key) (o : Option ℕ) → StandsAt h (live_of h live) k o → StandsAt h (live_of h (live ++ e ∷ [])) k o
at_more h live e k None p = tt
at_more h live e k (Some d) (inl p) = inl p
at_more h live e k (Some d) (inr p) = inr (among h (live ++ e ∷ []) d (one_more live e d (one_of h live d p.0)), p.1)

stands_more : (h : List Entry) (live : List ℕ) (e : ℕ) (v : Numbers) → Stands h (live_of h live) v → Stands h (live_of h (live ++ e ∷ [])) v
unfolding Stands
stands_more h live e v s = λ k. at_more h live e k (at_key k v) (s k)

option_more : (h : List Entry) (live : List ℕ) (e : ℕ) (v : Option Numbers) → OptionStands h (live_of h live) v → OptionStands h (live_of h (live ++ e ∷ [])) v
option_more h live e None s = tt
option_more h live e (Some v) s = stands_more h live e v s

desk_more : (h : List Entry) (live : List ℕ) (e : ℕ) (d : Desk) → DeskStands h (live_of h live) d → DeskStands h (live_of h (live ++ e ∷ [])) d
desk_more h live e d s = (
  all_change (λ (n : Named). Stands h (live_of h live) n.voucher) (λ (n : Named). Stands h (live_of h (live ++ e ∷ [])) n.voucher) d.names (λ n p. stands_more h live e n.voucher p) s.0,
  all_change (λ (q : Message). OptionStands h (live_of h live) q.voucher) (λ (q : Message). OptionStands h (live_of h (live ++ e ∷ [])) q.voucher) d.queue (λ q p. option_more h live e q.voucher p) s.1,
)

rising_more : (h : List Entry) (n : ℕ) (live : List ℕ) → AllByRecursion (IsMade h n) live → IsRising live → IsRising (live ++ (n + 1) ∷ [])
rising_more h n [] m r = (tt, tt)
rising_more h n (d ∷ live) m r = (all_append (λ x. d < x) live (n + 1) r.0 (under d n m.0.inside), rising_more h n live m.1 r.1)
  where
    under : (d n : ℕ) → d ≤ n → d < n + 1
    under d n l = omega (arith, l)

pub any_one : (h : List Entry) (p : Alive → Bool) (live : List ℕ) (d : ℕ) → IsOneOf live d → p (alive_of h d) ≡ true → list_any p (live_of h live) ≡ true
any_one h p [] d a e = absurd a
any_one h p (x ∷ live) d (inl a) e = let q : p (alive_of h x) ≡ true = subst (λ y. p (alive_of h y) ≡ true) (sym a) e in rw q refl
any_one h p (x ∷ live) d (inr a) e = or_right (p (alive_of h x)) (list_any p (live_of h live)) (any_one h p live d a e)
  where
    or_right : (a b : Bool) → b ≡ true → (a || b) ≡ true
    or_right a b e = grind arith

both : (a b : Bool) → a ≡ true → b ≡ true → (a && b) ≡ true
both a b e f = grind arith

pub neither_left : (a b : Bool) → (a || b) ≡ false → a ≡ false
neither_left a b e = grind arith

pub neither_right : (a b : Bool) → (a || b) ≡ false → b ≡ false
neither_right a b e = grind arith

pub not_both : {b : Bool} → b ≡ true → b ≡ false → ⊥
not_both e f = let k : true ≡ false = sym e ∙ f in cc

-- the number that is made next
pub made_entry : (a : Audit) (k : ℕ) (x : Value) → slice_get a.history a.taken ≡ Some (entries.Made k x) → entry_at a.history (a.taken + 1) ≡ Some (entries.Made k x)
made_entry a k x e = ap (λ i. slice_get a.history i) (back a.taken) ∙ e
  where
    back : (n : ℕ) → n + 1 - 1 ≡ n
    back n = omega arith

pub made_value : (h : List Entry) (n k : ℕ) (x : Value) → entry_at h (n + 1) ≡ Some (entries.Made k x) → numbered_value h (n + 1) ≡ x
unfolding numbered_value
made_value h n k x e = rw (some n, e) refl
  where
    some : (n : ℕ) → (n + 1 == 0) ≡ false
    some n = grind (arith, common_steps)

pub keeps_made : (a : Audit) (l : Lists) (sums : Summed) (k : ℕ) (x : Value) → Keeps a l → IsNext a (entries.Made k x) → Follows a.scenario (past_at a) (entries.Made k x) l.sums sums
    → Keeps (advanced a) (record l { live = l.live ++ (a.taken + 1) ∷ []; sums = sums })
keeps_made a l sums k x keeps n follows =
    let h = a.history in
    let e = a.taken + 1 in
    let entry = made_entry a k x n.here in
    let value = made_value h a.taken k x entry in
    let key : key_made (entry_at h e) ≡ k = rw entry refl in
    let dead : is_live (store_of_lists h l.tasks l.live) k x ≡ false = subst (λ s. is_live s k x ≡ false) keeps.store n.follows.2 in
    keeps_next a l (record l { live = l.live ++ e ∷ []; sums = sums }) (entries.Made k x) keeps n refl refl (record {
      store = ap (λ s. with_live s (length (past_at a))) keeps.store ∙ (ap (λ i. with_live (store_of_lists h l.tasks l.live) i) (past_long a keeps.inside)
          ∙ ap (λ ls. lists_with ls) (ap (λ (y : Alive). live_of h l.live ++ y ∷ []) (alive key value) ∙ sym (map-append (alive_of h) l.live (e ∷ []))));
      made = all_append (IsMade h (a.taken + 1)) l.live e (all_later h a.taken l.live keeps.made) (record {
        key = k;
        value = x;
        some = at_least a.taken;
        inside = at_most e;
        entry = entry;
        plain = neither_left (is_default x) _ dead;
      });
      rising = rising_more h a.taken l.live keeps.made keeps.rising;
      apart = λ d f p q. apart_by key value dead d f (one_end l.live e d p) (one_end l.live e f q);
      stands = all_change (DeskStands h (live_of h l.live)) (DeskStands h (live_of h (l.live ++ e ∷ []))) l.tasks (λ d p. desk_more h l.live e d p) keeps.stands;
      begun = keeps.begun;
      ended = keeps.ended;
      summed = follows (keeps.legal, n.follows) keeps.summed;
    })
  where
    at_least : (n : ℕ) → 1 ≤ n + 1
    at_least n = omega arith

    at_most : (n : ℕ) → n ≤ n
    at_most n = omega arith

    with_live : Store → ℕ → Store
    with_live s i = record s { live = s.live ++ record { key = k; value = x; made = i + 1 } ∷ [] }

    lists_with : List Alive → Store
    lists_with ls = record { tasks = map (member_of a.history) l.tasks; live = ls }

    alive : key_made (entry_at a.history (a.taken + 1)) ≡ k → numbered_value a.history (a.taken + 1) ≡ x → record { key = k; value = x; made = a.taken + 1 } ≡ alive_of a.history (a.taken + 1)
    alive p q = ap (λ y. of y x) (sym p) ∙ ap (λ y. of (key_made (entry_at a.history (a.taken + 1))) y) (sym q)
      where
        of : ℕ → Value → Alive
        of y z = record { key = y; value = z; made = a.taken + 1 }

    twice : key_made (entry_at a.history (a.taken + 1)) ≡ k → numbered_value a.history (a.taken + 1) ≡ x → is_live (store_of_lists a.history l.tasks l.live) k x ≡ false → (d : ℕ) → IsOneOf l.live d
        → key_made (entry_at a.history d) ≡ key_made (entry_at a.history (a.taken + 1)) → numbered_value a.history d ≡ numbered_value a.history (a.taken + 1) → ⊥
    twice p q dead d one same_key same_value =
        not_both (any_one a.history (is_alive k x) l.live d one (both _ _ (yes (key_made (entry_at a.history d)) (same_key ∙ p)) (subst (λ y. equal_values y x ≡ true) (sym (same_value ∙ q)) (values_refl x))))
        (neither_right (is_default x) _ dead)
      where
        yes : (y : ℕ) → y ≡ k → (y == k) ≡ true
        yes y e = grind (arith, common_steps)

    apart_by : key_made (entry_at a.history (a.taken + 1)) ≡ k → numbered_value a.history (a.taken + 1) ≡ x → is_live (store_of_lists a.history l.tasks l.live) k x ≡ false → (d f : ℕ)
        → IsOneOf l.live d ⊎ (a.taken + 1 ≡ d) → IsOneOf l.live f ⊎ (a.taken + 1 ≡ f)
        → key_made (entry_at a.history d) ≡ key_made (entry_at a.history f) → numbered_value a.history d ≡ numbered_value a.history f → d ≡ f
    apart_by p q dead d f (inl i) (inl j) same_key same_value = keeps.apart d f i j same_key same_value
    apart_by p q dead d f (inl i) (inr j) same_key same_value =
        absurd (twice p q dead d i (same_key ∙ ap (λ y. key_made (entry_at a.history y)) (sym j)) (same_value ∙ ap (λ y. numbered_value a.history y) (sym j)))
    apart_by p q dead d f (inr i) (inl j) same_key same_value =
        absurd (twice p q dead f j (sym same_key ∙ ap (λ y. key_made (entry_at a.history y)) (sym i)) (sym same_value ∙ ap (λ y. numbered_value a.history y) (sym i)))
    apart_by p q dead d f (inr i) (inr j) same_key same_value = sym i ∙ j

-- A value is released.

without_live : (h : List Entry) (live : List ℕ) (e : ℕ) → without_made (live_of h live) e ≡ live_of h (without_number live e)
without_live h [] e = refl
without_live h (d ∷ live) e = by (d == e) (without_live h live e)
  where
    by : (b : Bool) → without_made (live_of h live) e ≡ live_of h (without_number live e)
        → cond b (live_of h live) (alive_of h d ∷ without_made (live_of h live) e) ≡ live_of h (cond b live (d ∷ without_number live e))
    by true p = refl
    by false p = ap (λ ls. alive_of h d ∷ ls) p

one_less : (live : List ℕ) (e d : ℕ) → IsOneOf (without_number live e) d → IsOneOf live d
one_less [] e d p = p
one_less (x ∷ live) e d p = by (x == e) (one_less live e d) p
  where
    by : (b : Bool) → (IsOneOf (without_number live e) d → IsOneOf live d) → IsOneOf (cond b live (x ∷ without_number live e)) d → (x ≡ d) ⊎ IsOneOf live d
    by true f p = inr p
    by false f (inl p) = inl p
    by false f (inr p) = inr (f p)

one_stays : (live : List ℕ) (e d : ℕ) → IsOneOf live d → d ≢ e → IsOneOf (without_number live e) d
one_stays [] e d p n = p
one_stays (x ∷ live) e d p n = by (x == e) refl p (λ q. one_stays live e d q n)
  where
    by : (b : Bool) → (x == e) ≡ b → (x ≡ d) ⊎ IsOneOf live d → (IsOneOf live d → IsOneOf (without_number live e) d) → IsOneOf (cond b live (x ∷ without_number live e)) d
    by true q (inl p) f = absurd (n (sym p ∙ number_eq x e q))
    by true q (inr p) f = p
    by false q (inl p) f = inl p
    by false q (inr p) f = inr (f p)

all_without : (P : ℕ → Type 0) (live : List ℕ) (e : ℕ) → AllByRecursion P live → AllByRecursion P (without_number live e)
all_without P [] e h = tt
all_without P (x ∷ live) e h = by (x == e) (all_without P live e h.1)
  where
    by : (b : Bool) → AllByRecursion P (without_number live e) → AllByRecursion P (cond b live (x ∷ without_number live e))
    by true p = h.1
    by false p = (h.0, p)

rising_without : (live : List ℕ) (e : ℕ) → IsRising live → IsRising (without_number live e)
rising_without [] e r = tt
rising_without (x ∷ live) e r = by (x == e) (rising_without live e r.1)
  where
    by : (b : Bool) → IsRising (without_number live e) → IsRising (cond b live (x ∷ without_number live e))
    by true p = r.1
    by false p = (all_without (λ d. x < d) live e r.0, p)

-- what is found by a number
pub record Found (h : List Entry) (live : List ℕ) (e : ℕ) (o : Option Alive) : Type 0 where
  pub one : IsOneOf live e
  pub is : o ≡ Some (alive_of h e)

pub found : (h : List Entry) (live : List ℕ) (e : ℕ) (l : Alive) → find_made (live_of h live) e ≡ Some l → Found h live e (find_made (live_of h live) e)
found h [] e l q = absurd (cc)
found h (d ∷ live) e l q = by (d == e) refl q (found h live e l)
  where
    by : (b : Bool) → (d == e) ≡ b → cond b (Some (alive_of h d)) (find_made (live_of h live) e) ≡ Some l
        → (find_made (live_of h live) e ≡ Some l → Found h live e (find_made (live_of h live) e)) → Found h (d ∷ live) e (cond b (Some (alive_of h d)) (find_made (live_of h live) e))
    by true p q f = record { one = inl (number_eq d e p); is = ap (λ y. Some (alive_of h y)) (number_eq d e p) }
    by false p q f = let g = f q in record { one = inr g.one; is = g.is }

all_unless : {A : Type 0} (P Q : A → Type 0) (p : A → Bool) (xs : List A) → list_any p xs ≡ false → ((x : A) → P x → p x ≡ false → Q x) → AllByRecursion P xs → AllByRecursion Q xs
all_unless P Q p [] e f h = tt
all_unless P Q p (x ∷ xs) e f h = (f x h.0 (neither_left (p x) (list_any p xs) e), all_unless P Q p xs (neither_right (p x) (list_any p xs) e) f h.1)

any_map : {A B : Type 0} (p : B → Bool) (f : A → B) (xs : List A) → list_any p (map f xs) ≡ list_any (λ x. p (f x)) xs
any_map p f [] = refl
any_map p f (x ∷ xs) = ap (λ b. p (f x) || b) (any_map p f xs)

-- the voucher does not have the number at this key
at_less : (h : List Entry) (live : List ℕ) (e : ℕ) (k : Key) (o : Option ℕ) → (o ≡ Some e → key_made (entry_at h e) ≡ number_of k → ⊥) → StandsAt h (live_of h live) k o → StandsAt h (live_of h (without_number live e)) k o
at_less h live e k None n p = tt
at_less h live e k (Some d) n (inl p) = inl p
at_less h live e k (Some d) n (inr p) = inr (among h (without_number live e) d (one_stays live e d (one_of h live d p.0) other), p.1)
  where
    other : d ≢ e
    other q = n (ap (λ y. Some y) q) (ap (λ y. key_made (entry_at h y)) (sym q) ∙ p.1)

pub key_back : (k : Key) → key_numbered (number_of k) ≡ Some k
key_back keys.Importance = refl
key_back keys.Bank = refl
key_back keys.User = refl
key_back keys.Test = refl

pub own_option : (h : List Entry) (k : Key) (v : Numbers) → of_key k (numbered_voucher h v) ≡ numbered_option h (at_key k v)
own_option h keys.Importance v = refl
own_option h keys.Bank v = refl
own_option h keys.User v = refl
own_option h keys.Test v = refl

has_it : (h : List Entry) (k : Key) (v : Numbers) (e : ℕ) → at_key k v ≡ Some e → has_value k (numbered_value h e) (numbered_voucher h v) ≡ true
has_it h k v e q = ap (λ o. equal_options o (Some (numbered_value h e))) (own_option h k v ∙ ap (numbered_option h) q) ∙ values_refl (numbered_value h e)

-- no voucher has it at a key
voucher_less : (h : List Entry) (live : List ℕ) (e : ℕ) (v : Numbers) → ((k : Key) → key_made (entry_at h e) ≡ number_of k → has_value k (numbered_value h e) (numbered_voucher h v) ≡ false)
    → Stands h (live_of h live) v → Stands h (live_of h (without_number live e)) v
unfolding Stands
voucher_less h live e v n s = λ k. at_less h live e k (at_key k v) (λ q r. not_both (has_it h k v e q) (n k r)) (s k)

abbrev pub HeldBy : List Entry → ℕ → Option Key → Desk → Bool
HeldBy h e None d = false
HeldBy h e (Some k) d = list_any (λ (n : Named). has_value k (numbered_value h e) (numbered_voucher h n.voucher)) d.names || list_any (λ (q : Message). message_has k (numbered_value h e) (option_voucher h q.voucher)) d.queue

desk_less : (h : List Entry) (live : List ℕ) (e : ℕ) (o : Option Key) (d : Desk) → key_numbered (key_made (entry_at h e)) ≡ o → HeldBy h e o d ≡ false
    → DeskStands h (live_of h live) d → DeskStands h (live_of h (without_number live e)) d
desk_less h live e None d ko f s = (
  all_change (λ (n : Named). Stands h (live_of h live) n.voucher) (λ (n : Named). Stands h (live_of h (without_number live e)) n.voucher) d.names
      (λ n p. voucher_less h live e n.voucher (λ k r. absurd (no k r)) p) s.0,
  all_change (λ (q : Message). OptionStands h (live_of h live) q.voucher) (λ (q : Message). OptionStands h (live_of h (without_number live e)) q.voucher) d.queue
      (λ q p. option q.voucher p) s.1,
)
  where
    no : (k : Key) → key_made (entry_at h e) ≡ number_of k → ⊥
    no k r = let z : None ≡ Some k = sym ko ∙ (ap key_numbered r ∙ key_back k) in cc

    option : (v : Option Numbers) → OptionStands h (live_of h live) v → OptionStands h (live_of h (without_number live e)) v
    option None p = tt
    option (Some v) p = voucher_less h live e v (λ k r. absurd (no k r)) p
desk_less h live e (Some j) d ko f s = (
  all_unless (λ (n : Named). Stands h (live_of h live) n.voucher) (λ (n : Named). Stands h (live_of h (without_number live e)) n.voucher)
      (λ (n : Named). has_value j (numbered_value h e) (numbered_voucher h n.voucher)) d.names (neither_left _ _ f)
      (λ n p q. voucher_less h live e n.voucher (λ k r. subst (λ i. has_value i (numbered_value h e) (numbered_voucher h n.voucher) ≡ false) (same k r) q) p) s.0,
  all_unless (λ (q : Message). OptionStands h (live_of h live) q.voucher) (λ (q : Message). OptionStands h (live_of h (without_number live e)) q.voucher)
      (λ (q : Message). message_has j (numbered_value h e) (option_voucher h q.voucher)) d.queue (neither_right _ _ f)
      (λ q p r. option q.voucher p r) s.1,
)
  where
    some_eq : {A : Type 0} (a b : A) → Some a ≡ Some b → a ≡ b
    some_eq a b e = cc

    same : (k : Key) → key_made (entry_at h e) ≡ number_of k → j ≡ k
    same k r = some_eq j k (sym ko ∙ (ap key_numbered r ∙ key_back k))

    option : (v : Option Numbers) → OptionStands h (live_of h live) v → message_has j (numbered_value h e) (option_voucher h v) ≡ false → OptionStands h (live_of h (without_number live e)) v
    option None p q = tt
    option (Some v) p q = voucher_less h live e v (λ k r. subst (λ i. has_value i (numbered_value h e) (numbered_voucher h v) ≡ false) (same k r) q) p

member_any : (h : List Entry) (k : Key) (x : Value) (d : Desk)
    → (list_any (λ n. has_value k x n.voucher) (names_of h d.names) || list_any (λ q. message_has k x q.voucher) (queue_of h d.queue))
    ≡ (list_any (λ (n : Named). has_value k x (numbered_voucher h n.voucher)) d.names || list_any (λ (q : Message). message_has k x (option_voucher h q.voucher)) d.queue)
member_any h k x d = rw (any_map (λ (n : store.Named). has_value k x n.voucher) (named_of h) d.names, any_map (λ (q : store.Message). message_has k x q.voucher) (message_of h) d.queue) refl

pub any_alike : {A : Type 0} (p q : A → Bool) (xs : List A) → ((x : A) → p x ≡ q x) → list_any p xs ≡ list_any q xs
any_alike p q [] f = refl
any_alike p q (x ∷ xs) f = rw (f x, any_alike p q xs f) refl

-- whether a value is held, by the numbers
pub held_is : (h : List Entry) (tasks : List Desk) (live : List ℕ) (e : ℕ) (o : Option Key) → is_held_by (store_of_lists h tasks live) o (numbered_value h e) ≡ list_any (HeldBy h e o) tasks
held_is h tasks live e None = sym (none tasks)
  where
    none : (ds : List Desk) → list_any (HeldBy h e None) ds ≡ false
    none [] = refl
    none (d ∷ ds) = none ds
held_is h tasks live e (Some k) =
    any_map (λ (m : store.Member). list_any (λ n. has_value k (numbered_value h e) n.voucher) m.names || list_any (λ q. message_has k (numbered_value h e) q.voucher) m.queue) (member_of h) tasks
    ∙ any_alike _ (HeldBy h e (Some k)) tasks (λ d. member_any h k (numbered_value h e) d)

pub keeps_released : (a : Audit) (l : Lists) (sums : Summed) (e : ℕ) → Keeps a l → IsNext a (entries.Released e) → Follows a.scenario (past_at a) (entries.Released e) l.sums sums
    → Keeps (advanced a) (record l { live = without_number l.live e; sums = sums })
keeps_released a l sums e k n follows =
    let h = a.history in
    let unheld : IsUnheld (store_of_lists h l.tasks l.live) (find_made (live_of h l.live) e) = subst (λ (s : Store). IsUnheld s (find_made s.live e)) k.store n.follows in
    let none : is_held (store_of_lists h l.tasks l.live) (key_made (entry_at h e)) (numbered_value h e) ≡ false = there (find_made (live_of h l.live) e) refl unheld in
    let free : list_any (HeldBy h e (key_numbered (key_made (entry_at h e)))) l.tasks ≡ false = sym (held_is h l.tasks l.live e (key_numbered (key_made (entry_at h e)))) ∙ none in
    keeps_next a l (record l { live = without_number l.live e; sums = sums }) (entries.Released e) k n refl refl (record {
      store = ap (λ (s : Store). record s { live = without_made s.live e }) k.store ∙ ap (λ ls. lists_with ls) (without_live h l.live e);
      made = all_without (IsMade h (a.taken + 1)) l.live e (all_later h a.taken l.live k.made);
      rising = rising_without l.live e k.rising;
      apart = λ d f p q. k.apart d f (one_less l.live e d p) (one_less l.live e f q);
      stands = all_unless (DeskStands h (live_of h l.live)) (DeskStands h (live_of h (without_number l.live e))) (HeldBy h e (key_numbered (key_made (entry_at h e)))) l.tasks free
          (λ d p q. desk_less h l.live e (key_numbered (key_made (entry_at h e))) d refl q p) k.stands;
      begun = k.begun;
      ended = k.ended;
      summed = follows (k.legal, n.follows) k.summed;
    })
  where
    lists_with : List Alive → Store
    lists_with ls = record { tasks = map (member_of a.history) l.tasks; live = ls }

    there : (o : Option Alive) → find_made (live_of a.history l.live) e ≡ o → IsUnheld (store_of_lists a.history l.tasks l.live) o
        → is_held (store_of_lists a.history l.tasks l.live) (key_made (entry_at a.history e)) (numbered_value a.history e) ≡ false
    there None q u = absurd u
    there (Some x) q u =
        let f = found a.history l.live e x q in
        let is : x ≡ alive_of a.history e = some_eq x (alive_of a.history e) (sym q ∙ f.is) in
        subst (λ (y : Alive). is_held (store_of_lists a.history l.tasks l.live) y.key y.value ≡ false) is u
      where
        some_eq : {A : Type 0} (a b : A) → Some a ≡ Some b → a ≡ b
        some_eq a b e = cc
