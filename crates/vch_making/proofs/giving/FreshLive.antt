-- A value that was live, and a fresh one: what the machine's live values and handles are then, beside the manager's.
use Rattle.std.proofs.Common.{◌≡◌, ◌≢◌, ℕ, zero, suc, ◌+◌, ◌<◌, ◌==◌, nat_lt, Bool, true, false, List, [], ◌∷◌, ◌++◌, refl, arith, sym, ap, ◌∙◌, length, map, subst, Option, Some, None, inl, inr}
use Rattle.vch_base.specs.Tasks.{set_task, at_task}
use Rattle.std.proofs.Math.ListN.{set}
use Rattle.std.proofs.lemmas.Grind.{common_steps}
use Rattle.std.proofs.lemmas.Bool.{cases_eq}
use Rattle.std.proofs.lemmas.List.{get_or-set_same, get_or-set_other, map-set}
use Rattle.vch_base.specs.declared.key.Key.{Key}
use Rattle.vch_base.specs.declared.value.Value.{Value}
use Rattle.vch_base.specs.declared.places.Live.{Live}
use Rattle.vch_base.specs.Managers as managers
use Rattle.vch_base.specs.Managers.{Kept, IsAbsent, live_at, more_made, new_live, next_handle, slots_with, free_after}
use Rattle.vch_model.specs.declared.lists.Scenario.{Scenario}
use Rattle.vch_machine.specs.State as machine
use Rattle.vch_base.specs.Keyed.{of_key}
use Rattle.vch_machine.specs.State.{Living, Pool, Machine, Tasked, tasked, living_at, handle_of, value_at, same_place}
use Rattle.vch_machine.specs.Making.{fresh_handle, fewer_free, race_claim, on_task, on_claims, given_receipt}
use Rattle.vch_legal.specs.Facts.{Fits, bit, times}
use Rattle.vch_legal.proofs.CallerLemmas.{append_here, append_other, fresh_dead, found_value, claims_task, at_most_once}
use Rattle.vch_values.specs.Parts.{number_at}
use Rattle.vch_frame.specs.Living.{IsLiving}
use Rattle.vch_frame.proofs.CallerLemmas.{same_at}
use Rattle.vch_parts.proofs.CallerLemmas.{framed}
use Rattle.vch_making.proofs.giving.MadeLive.{IsFree, used_after, live_new, live_old}

-- The handle of a value.

found_at : (n : ℕ) (o : Option Live) (a : Option Living) (x : Value) → IsLiving n o a → managers.value_of o ≡ Some x → (P : Type 0) → ((b : Living) → a ≡ Some b → b.value ≡ x → P) → P
found_at n (Some l) (Some b) x i e P f = f b refl (sym i.0 ∙ same e)
  where
    same : {c d : Value} → Some c ≡ Some d → c ≡ d
    same q = cc
found_at n None a x i e P f = absurd (cc)
found_at n (Some l) None x i e P f = absurd i

-- one that was live is found at its handle
pub found_handle : (n : ℕ) (sc : Scenario) (m : Machine) (k : Key) (o : Option Live) (x : Value) (h : ℕ) → Fits sc m → IsLiving n o (living_at m.live (record { key = k; handle = h })) → managers.value_of o ≡ Some x → handle_of m.live k x ≡ Some h
found_handle n sc m k o x h fits i e = found_at n o (living_at m.live (record { key = k; handle = h })) x i e _ (λ b at same. ap (handle_of m.live k) (sym same) ∙ fits.different (record { key = k; handle = h }) b at)

live_of : (n : ℕ) (o : Option Live) (a : Option Living) (x : Value) → IsLiving n o a → machine.value_of a ≡ Some x → managers.value_of o ≡ Some x
live_of n (Some l) (Some b) x i e = ap (λ y. Some y) i.0 ∙ e
live_of n None None x i e = absurd (cc)
live_of n (Some l) None x i e = absurd i
live_of n None (Some b) x i e = absurd i

-- one that was absent has none
pub absent_handle : (sc : Scenario) (m : Machine) (k : Key) (slots : List (Option Live)) (numbers : List ℕ) (x : Value) → Fits sc m
    → ((h : ℕ) → IsLiving (number_at numbers h) (live_at slots h) (living_at m.live (record { key = k; handle = h }))) → IsAbsent slots x → handle_of m.live k x ≡ None
absent_handle sc m k slots numbers x fits living absent = by (handle_of m.live k x) refl
  where
    by : (o : Option ℕ) → handle_of m.live k x ≡ o → o ≡ None
    by None e = refl
    by (Some h) e = absurd (absent h (live_of (number_at numbers h) (live_at slots h) (living_at m.live (record { key = k; handle = h })) x (living h) (found_value m.live k x h (at_most_once m fits.each_once) e)))

-- The handles.

pub fresh_is : (p : Pool) → fresh_handle p ≡ next_handle p.free p.used
fresh_is p = by p.free refl
  where
    by : (free : List ℕ) → p.free ≡ free → fresh_handle p ≡ next_handle free p.used
    by [] e = rw e refl
    by (h ∷ free) e = rw e refl

pub free_is : (p : Pool) → (fewer_free p).free ≡ free_after p.free
free_is p = by p.free refl
  where
    by : (free : List ℕ) → p.free ≡ free → (fewer_free p).free ≡ free_after free
    by [] e = rw e refl
    by (h ∷ free) e = rw e refl

pub used_is : (p : Pool) → (fewer_free p).used ≡ used_after p.free p.used
used_is p = by p.free refl
  where
    by : (free : List ℕ) → p.free ≡ free → (fewer_free p).used ≡ used_after free p.used
    by [] e = rw e refl
    by (h ∷ free) e = rw e refl

-- the first free handle was used, and has no value
pub free_handle : (sc : Scenario) (m : Machine) (k : Key) (slots : List (Option Live)) (free : List ℕ) (numbers : List ℕ) → Fits sc m → free ≡ (of_key k m.pools).free → length slots ≡ (of_key k m.pools).used
    → ((h : ℕ) → IsLiving (number_at numbers h) (live_at slots h) (living_at m.live (record { key = k; handle = h }))) → IsFree slots free
free_handle sc m k slots free numbers fits is_free is_used living = record { inside = inside; dead = dead }
  where
    here : (h : ℕ) → (h == h) ≡ true
    here h = grind (arith, common_steps)

    below : (a b n : ℕ) (c : Bool) → a + (1 + b) ≡ bit c → c ≡ true
    below a b n true e = refl
    below a b n false e = absurd (omega (arith, e))

    inside : (h : ℕ) (rest : List ℕ) → free ≡ h ∷ rest → h < length slots
    inside h rest e =
        let p : (of_key k m.pools).free ≡ h ∷ rest = sym is_free ∙ e in
        let a = fits.each_once (record { key = k; handle = h }) in
        let b : times (λ (l : Living). same_place l.place (record { key = k; handle = h })) m.live + times (λ g. g == h) (h ∷ rest) ≡ bit (nat_lt h (of_key k m.pools).used) = subst (λ xs. times (λ (l : Living). same_place l.place (record { key = k; handle = h })) m.live + times (λ g. g == h) xs ≡ bit (nat_lt h (of_key k m.pools).used)) p a in
        let d : times (λ (l : Living). same_place l.place (record { key = k; handle = h })) m.live + (1 + times (λ g. g == h) rest) ≡ bit (nat_lt h (of_key k m.pools).used) = subst (λ c. times (λ (l : Living). same_place l.place (record { key = k; handle = h })) m.live + (bit c + times (λ g. g == h) rest) ≡ bit (nat_lt h (of_key k m.pools).used)) (here h) b in
        let f : nat_lt h (of_key k m.pools).used ≡ true = below (times (λ (l : Living). same_place l.place (record { key = k; handle = h })) m.live) (times (λ g. g == h) rest) h (nat_lt h (of_key k m.pools).used) d in
        let g : h < (of_key k m.pools).used = grind (arith, common_steps) in
        omega (arith, g, is_used)

    none : (n : ℕ) (o : Option Live) (a : Option Living) → IsLiving n o a → a ≡ None → o ≡ None
    none n None a i e = refl
    none n (Some l) None i e = absurd i
    none n (Some l) (Some b) i e = absurd (cc)

    same : fresh_handle (of_key k m.pools) ≡ next_handle free (length slots)
    same = fresh_is (of_key k m.pools) ∙ rw (is_free, is_used) refl

    dead : live_at slots (next_handle free (length slots)) ≡ None
    dead = none (number_at numbers (next_handle free (length slots))) (live_at slots (next_handle free (length slots))) _ (living (next_handle free (length slots)))
        (ap (λ h. living_at m.live (record { key = k; handle = h })) (sym same) ∙ fresh_dead m k fits.each_once)

-- The live values.

pub living_again : (n : ℕ) (a : Option Living) (o : Option Live) → IsLiving n o a → IsLiving n (more_made o) a
living_again n None None i = i
living_again n (Some b) (Some l) i = i
living_again n (Some b) None i = absurd i
living_again n None (Some l) i = absurd i

pub living_new : (m : Machine) (k : Key) (slots : List (Option Live)) (free : List ℕ) (numbers : List ℕ) (x : Value) (h n : ℕ) → IsFree slots free → h ≡ next_handle free (length slots) → h < length numbers → living_at m.live (record { key = k; handle = h }) ≡ None
    → ((i : ℕ) → IsLiving (number_at numbers i) (live_at slots i) (living_at m.live (record { key = k; handle = i })))
    → (i : ℕ) → IsLiving (number_at (set numbers h n) i) (live_at (slots_with slots free (new_live x)) i) (living_at (m.live ++ record { place = record { key = k; handle = h }; value = x; made = n } ∷ []) (record { key = k; handle = i }))
living_new m k slots free numbers x h n is_free is there dead living i = elim (cases_eq i h) [ inl e ↦ here e | inr e ↦ other e ]
  where
    l : Living
    l = record { place = record { key = k; handle = h }; value = x; made = n }

    here : i ≡ h → IsLiving (number_at (set numbers h n) i) (live_at (slots_with slots free (new_live x)) i) (living_at (m.live ++ record { place = record { key = k; handle = h }; value = x; made = n } ∷ []) (record { key = k; handle = i }))
    here e =
        let a : number_at (set numbers h n) h ≡ n = get_or-set_same numbers h n 0 there in
        let b : live_at (slots_with slots free (new_live x)) h ≡ Some (new_live x) = ap (live_at (slots_with slots free (new_live x))) is ∙ live_new slots free (new_live x) is_free in
        let d : living_at (m.live ++ l ∷ []) (record { key = k; handle = h }) ≡ Some l = append_here m.live l dead in
        subst (λ j. IsLiving (number_at (set numbers h n) j) (live_at (slots_with slots free (new_live x)) j) (living_at (m.live ++ l ∷ []) (record { key = k; handle = j }))) (sym e)
        (subst (λ o. IsLiving (number_at (set numbers h n) h) (live_at (slots_with slots free (new_live x)) h) o) (sym d) (subst (λ o. IsLiving (number_at (set numbers h n) h) o (Some l)) (sym b) (refl, a)))

    other : i ≢ h → IsLiving (number_at (set numbers h n) i) (live_at (slots_with slots free (new_live x)) i) (living_at (m.live ++ record { place = record { key = k; handle = h }; value = x; made = n } ∷ []) (record { key = k; handle = i }))
    other e =
        let a : number_at (set numbers h n) i ≡ number_at numbers i = get_or-set_other numbers h i n 0 e in
        let b : live_at (slots_with slots free (new_live x)) i ≡ live_at slots i = live_old slots free (new_live x) i (λ q. e (q ∙ sym is)) in
        let d : living_at (m.live ++ l ∷ []) (record { key = k; handle = i }) ≡ living_at m.live (record { key = k; handle = i }) = append_other m.live l (record { key = k; handle = i }) (same_at k h i e) in
        subst (λ o. IsLiving (number_at (set numbers h n) i) (live_at (slots_with slots free (new_live x)) i) o) (sym d) (subst (λ o. IsLiving (number_at (set numbers h n) i) o (living_at m.live (record { key = k; handle = i }))) (sym b)
        (subst (λ j. IsLiving j (live_at slots i) (living_at m.live (record { key = k; handle = i }))) (sym a) (living i)))

-- The tasks.

pub tasks_given : (n m : Machine) (t : ℕ) (f : machine.Frame) (p : machine.Place) → n.tasks ≡ m.tasks → f.claim ≡ None
    → (given_receipt n t f p).tasks ≡ set_task (on_claims (race_claim p) m).tasks t (framed (tasked (on_claims (race_claim p) m) t) (Some (record f { receipt = Some p })))
tasks_given n m t f p same claim = by n.tasks same
  where
    own : (x : Tasked) → on_task (race_claim p) (record x { frame = Some (record f { receipt = Some p }) }) ≡ framed (on_task (race_claim p) x) (Some (record f { receipt = Some p }))
    own x = by_claim f claim
      where
        by_claim : (f : machine.Frame) → f.claim ≡ None → on_task (race_claim p) (record x { frame = Some (record f { receipt = Some p }) }) ≡ framed (on_task (race_claim p) x) (Some (record f { receipt = Some p }))
        by_claim f e = rw e refl

    map_put : (g : Tasked → Tasked) (xs : List Tasked) (t : ℕ) (x : Tasked) → map g (set_task xs t x) ≡ set_task (map g xs) t (g x)
    map_put g xs zero x = refl
    map_put g xs (suc i) x = map-set g xs i x

    by : (xs : List Tasked) → xs ≡ m.tasks → map (on_task (race_claim p)) (set_task xs t (record (at_task xs t machine.idle) { frame = Some (record f { receipt = Some p }) }))
        ≡ set_task (map (on_task (race_claim p)) m.tasks) t (framed (tasked (on_claims (race_claim p) m) t) (Some (record f { receipt = Some p })))
    by xs e = rw e (map_put (on_task (race_claim p)) m.tasks t (record (tasked m t) { frame = Some (record f { receipt = Some p }) })
        ∙ ap (set_task (map (on_task (race_claim p)) m.tasks) t) (own (tasked m t) ∙ ap (λ y. framed y (Some (record f { receipt = Some p }))) (sym (claims_task m (race_claim p) t))))

-- a value that was absent is no previous value
pub absent_previous : (m : Machine) (k : Key) (slots : List (Option Live)) (numbers : List ℕ) (x : Value) → ((h : ℕ) → IsLiving (number_at numbers h) (live_at slots h) (living_at m.live (record { key = k; handle = h }))) → IsAbsent slots x
    → (o : Option ℕ) → value_at m.live k o ≡ Some x → ⊥
absent_previous m k slots numbers x living absent None e = no e
  where
    no : None ≡ Some x → ⊥
    no q = cc
absent_previous m k slots numbers x living absent (Some h) e = absent h (live_of (number_at numbers h) (live_at slots h) (living_at m.live (record { key = k; handle = h })) x (living h) e)
