-- A command makes a value.
use Rattle.std.proofs.Common.{◌≡◌, ◌≢◌, ◌≤◌, ◌<◌, ◌+◌, ℕ, zero, suc, List, [], ◌∷◌, ◌++◌, length, set, map, Option, Some, None, Result, Ok, Err, ℤ, pos, Bool, true, false, cond, ◌&&◌, not, nat_lt, ◌-◌, slice_index, ◌==◌, inl, inr, refl, sym, ap, ◌∙◌, arith}
use Rattle.std.proofs.lemmas.List.{get_or-set_same, get_or-set_other, get_or_past}
use Rattle.std.proofs.lemmas.Bool.{cases_lt}
use Rattle.vch_base.specs.declared.key.Key.{Key}
use Rattle.vch_base.specs.declared.key.Key.TheVariants as keys
use Rattle.vch_base.specs.declared.flags.Flags.{Flags}
use Rattle.vch_base.specs.declared.places.Live.{Live}
use Rattle.vch_base.specs.declared.value.Value.{Value}
use Rattle.vch_base.specs.declared.value.Value.TheVariants as values
use Rattle.vch_base.specs.declared.manager.Got.{Got}
use Rattle.vch_base.specs.declared.manager.Got.TheVariants as got
use Rattle.vch_base.specs.declared.manager.GetFault.{GetFault}
use Rattle.vch_base.specs.declared.manager.GetFault.TheVariants as fault
use Rattle.vch_base.specs.Values.{is_default}
use Rattle.vch_base.specs.Managers.{Kept, Lawful, Gets, IsAbsent, answer, own_answer, stored, bare, mapped, received, previous_of, live_at, value_of, value_at, count, vacancy, new_live, more_made, next_handle, slots_with, flags_in}
use Rattle.vch_base.proofs.CallerLemmas.{inside_of}
use Rattle.vch_entry.specs.Entries.{Entries}
use Rattle.vch_value.specs.Picture.{Picture, Depicts, AgreesAt, flags_at, claims_at, entry_of, made_picture, got_picture}
use Rattle.vch_value.proofs.Lists.{by_cases, test_same, test_other, race_here, race_other, raced, count_in}
use Rattle.vch_value.proofs.Spots.{same_spot}
use Rattle.vch_value.proofs.LetsGo.{stands_one}
use Rattle.vch_value.proofs.Hands.{hand_again, hand_fresh}

-- A value that is not live is not Default.

abbrev NotNew : List (Option Live) → Result (Option Value) ℤ → Type 0
NotNew slots a = (x : Value) → a ≡ Ok (Some x) → IsAbsent slots x → is_default x ≡ false

bare_new : (slots : List (Option Live)) (content : List ℕ) (o : Option Value) → NotNew slots (Ok o) → NotNew slots (bare content o)
bare_new slots content o f = by_cases (length content == 0) (λ b. NotNew slots (cond b (Ok o) (Err (pos 4)))) (λ _. f) (λ _ x e a. absurd (cc))

previous_new : (slots : List (Option Live)) (previous : Option ℕ) → NotNew slots (Ok (previous_of slots previous))
previous_new slots None x e a = absurd (cc)
previous_new slots (Some h) x e a = absurd (a h (cc))

default_apart : (slots : List (Option Live)) (x : Value) → value_at slots 0 ≡ Some values.Default → IsAbsent slots x → is_default x ≡ false
default_apart slots values.Default d a = absurd (a 0 d)
default_apart slots (values.User bytes) d a = refl
default_apart slots (values.Chain list) d a = refl
default_apart slots (values.Task t) d a = refl
default_apart slots (values.Account h m) d a = refl

received_new : (slots : List (Option Live)) (receiver : Bool) (by : ℕ) (previous : Option ℕ) → NotNew slots (Ok (mapped (received receiver by) (previous_of slots previous)))
received_new slots receiver by None x e a = absurd (cc)
received_new slots receiver by (Some h) x e a = go (value_at slots h) refl (cc)
  where
    go : (o : Option Value) → value_at slots h ≡ o → mapped (received receiver by) o ≡ Some x → is_default x ≡ false
    go None q r = absurd (cc)
    go (Some (values.Chain list)) q r =
        by_cases (receiver && (nat_lt (length list) 8 && not (slice_index list (length list - 1) == by)))
        (λ b. Some (cond b (values.Chain (list ++ by ∷ [])) (values.Chain list)) ≡ Some x → is_default x ≡ false)
        (λ _ t. let u : x ≡ values.Chain (list ++ by ∷ []) = cc in ap is_default u) (λ _ t. let u : x ≡ values.Chain list = cc in ap is_default u) r
    go (Some values.Default) q r = absurd (a h (cc))
    go (Some (values.User bytes)) q r = absurd (a h (cc))
    go (Some (values.Task t)) q r =
        by_cases (t == by) (λ b. Some (cond b (values.Task t) (values.Account t by)) ≡ Some x → is_default x ≡ false)
        (λ _ u. let v : x ≡ values.Task t = cc in ap is_default v) (λ _ u. let v : x ≡ values.Account t by = cc in ap is_default v) r
    go (Some (values.Account i m)) q r = absurd (a h (cc))

refused_new : (slots : List (Option Live)) (code : ℤ) → NotNew slots (Err code)
refused_new slots code x e a = absurd (cc)

stored_new : (slots : List (Option Live)) (command : ℕ) (content : List ℕ) → NotNew slots (stored command content)
stored_new slots command content =
    by_cases (command == 211) (λ b. NotNew slots (cond b (Ok (Some (values.User content))) (Err (pos 4)))) (λ _ x e a. let u : x ≡ values.User content = cc in ap is_default u) (λ _. refused_new slots (pos 4))

own_new : (slots : List (Option Live)) (row : Key) (tasks : Option (List Flags)) (by command : ℕ) (previous : Option ℕ) (content : List ℕ) → (row ≡ keys.Bank → value_at slots 0 ≡ Some values.Default)
    → NotNew slots (own_answer row tasks by command (previous_of slots previous) content)
own_new slots keys.User tasks by command previous content bank = stored_new slots command content
own_new slots keys.Test tasks by command previous content bank = stored_new slots command content
own_new slots keys.Bank tasks by command previous content bank = λ x e a. default_apart slots x (bank refl) a
own_new slots keys.Importance tasks by command previous content bank =
    by_cases (command == 200)
    (λ b. NotNew slots (cond b (bare content (Some (values.Chain (by ∷ [])))) (cond (command == 4) (bare content (mapped (received (flags_in tasks by).receiver by) (previous_of slots previous))) (Err (pos 4)))))
    (λ _. bare_new slots content _ (λ x e a. let u : x ≡ values.Chain (by ∷ []) = cc in ap is_default u))
    (λ _. by_cases (command == 4) (λ b. NotNew slots (cond b (bare content (mapped (received (flags_in tasks by).receiver by) (previous_of slots previous))) (Err (pos 4))))
    (λ _. bare_new slots content _ (received_new slots _ by previous)) (λ _. refused_new slots (pos 4)))

pub answer_new : (k : Kept) (by command : ℕ) (previous : Option ℕ) (content : List ℕ) → Lawful k → NotNew k.slots (answer k.rules by command (previous_of k.slots previous) content)
answer_new k by command previous content laws =
    by_cases (command == 10)
    (λ b. NotNew k.slots (cond b (bare content (previous_of k.slots previous)) (own_answer k.rules.row k.rules.tasks by command (previous_of k.slots previous) content)))
    (λ _. bare_new k.slots content _ (previous_new k.slots previous)) (λ _. own_new k.slots k.rules.row k.rules.tasks by command previous content laws.default)

-- The events.

free_handle : (k : Kept) (h : ℕ) (free : List ℕ) → k.free ≡ h ∷ free → Lawful k → (h < length k.slots) × (live_at k.slots h ≡ None)
free_handle k h free is laws = (inside, none (live_at k.slots h) refl)
  where
    one : count h k.free ≡ count h free + 1
    one = ap (count h) is ∙ count_in h free

    inside : h < length k.slots
    inside = elim (cases_lt h (length k.slots)) [ inl y ↦ y | inr n ↦ absurd (omega (arith, one, laws.within h n)) ]

    none : (o : Option Live) → live_at k.slots h ≡ o → o ≡ None
    none None e = refl
    none (Some l) e = let z : count h k.free ≡ 0 = laws.once h inside ∙ ap vacancy e in absurd (omega (arith, one))

push_last : (slots : List (Option Live)) (o : Option Live) → live_at (slots ++ o ∷ []) (length slots) ≡ o
push_last [] o = refl
push_last (x ∷ slots) o = push_last slots o

push_other : (slots : List (Option Live)) (o : Option Live) (k : ℕ) → k ≢ length slots → live_at (slots ++ o ∷ []) k ≡ live_at slots k
push_other [] o zero n = absurd (n refl)
push_other [] o (suc k) n = refl
push_other (x ∷ slots) o zero n = refl
push_other (x ∷ slots) o (suc k) n = push_other slots o k (λ e. n (ap suc e))

module _ (p : Picture) (old new : Entries) (k1 k2 : Kept) (laws : Lawful k1) (same : new.slots ≡ old.slots) (room : length p.receipts + 1 ≤ new.spare) (s : Depicts p old k1) where
  entries_same : (h : ℕ) → entry_of new.slots h ≡ entry_of old.slots h
  entries_same h = rw same refl

  unchanged : k2.slots ≡ k1.slots → Depicts p new k2
  unchanged e = record { at = λ h. same_spot _ _ _ _ _ _ _ _ _ _ refl refl refl (ap (λ t. live_at t h) e) (entries_same h) (s.at h); room = omega arith }

  -- a handle whose live value is another, and a receipt for it
  handed : (h : ℕ) (persist : Bool) → AgreesAt (count h p.holders) (persist ∷ flags_at h p.receipts) (map raced (claims_at h p.claims)) (live_at k2.slots h) (entry_of old.slots h)
      → ((k : ℕ) → k ≢ h → live_at k2.slots k ≡ live_at k1.slots k) → Depicts (made_picture (record { handle = h; persist = persist }) p) new k2
  handed h persist here others = stands_one p _ old new k1 k2 h s
      (same_spot _ _ _ _ _ _ _ _ _ _ refl (rw (test_same h) refl) (race_here h p.claims) refl (entries_same h) here)
      (λ k n. refl) (λ k n. rw (test_other h k (λ q. n (sym q))) refl) (λ k n. race_other h k p.claims n) others (λ k n. entries_same k) (omega arith)

  again : (x : Value) (h : ℕ) (persist : Bool) → persist ≡ is_default x → value_at k1.slots h ≡ Some x → k2.slots ≡ set k1.slots h (more_made (live_at k1.slots h)) → Depicts (made_picture (record { handle = h; persist = persist }) p) new k2
  again x h persist is at writes = by (live_at k1.slots h) refl at
    where
      by : (o : Option Live) → live_at k1.slots h ≡ o → value_of o ≡ Some x → Depicts (made_picture (record { handle = h; persist = persist }) p) new k2
      by None e v = absurd (cc)
      by (Some l) e v =
          let w : k2.slots ≡ set k1.slots h (Some (record l { made = l.made + 1 })) = writes ∙ ap (λ o. set k1.slots h (more_made o)) e in
          let flag : persist ≡ is_default l.value = is ∙ ap is_default (cc) in
          handed h persist (rw (w, get_or-set_same k1.slots h (Some (record l { made = l.made + 1 })) None (inside_of k1.slots h l e)) (hand_again _ _ _ l _ persist flag (rw e at (s.at h))))
          (λ k n. ap (λ t. live_at t k) w ∙ get_or-set_other k1.slots h k _ None n)

  fresh : (x : Value) (h : ℕ) (persist : Bool) → persist ≡ is_default x → is_default x ≡ false → (free : List ℕ) → k1.free ≡ free → h ≡ next_handle free (length k1.slots) → k2.slots ≡ slots_with k1.slots free (new_live x) → Depicts (made_picture (record { handle = h; persist = persist }) p) new k2
  fresh x h persist is other [] free at writes =
      let none : live_at k1.slots h ≡ None = get_or_past k1.slots h None (omega arith) in
      handed h persist (rw (writes, at, push_last k1.slots (Some (new_live x))) (hand_fresh _ _ _ _ x persist is other (rw (ap (live_at k1.slots) (sym at) ∙ none) at (s.at (length k1.slots)))))
      (λ k n. ap (λ t. live_at t k) writes ∙ push_other k1.slots (Some (new_live x)) k (λ e. n (e ∙ sym at)))
  fresh x h persist is other (f ∷ free) frees at writes =
      let there = free_handle k1 f free frees laws in
      rw at (handed f persist (rw (writes, get_or-set_same k1.slots f (Some (new_live x)) None there.0) (hand_fresh _ _ _ _ x persist is other (rw there.1 at (s.at f))))
      (λ k n. ap (λ t. live_at t k) writes ∙ get_or-set_other k1.slots f k _ None n))

  gets : (a : Result (Option Value) ℤ) (r : Result Got GetFault) → NotNew k1.slots a → Gets k1 a r k2 → Depicts (got_picture r p) new k2
  gets (Err code) (Err (fault.Refused c)) new_one g = unchanged (ap (λ (k : Kept). k.slots) g.1)
  gets (Err code) (Err (fault.NoMemory cause)) new_one g = absurd g
  gets (Err code) (Ok r) new_one g = absurd g
  gets (Ok None) (Ok got.Nothing) new_one g = unchanged (ap (λ (k : Kept). k.slots) g)
  gets (Ok None) (Ok (got.Value h f persist)) new_one g = absurd g
  gets (Ok None) (Err e) new_one g = absurd g
  gets (Ok (Some x)) (Ok got.Nothing) new_one g = absurd g.0
  gets (Ok (Some x)) (Ok (got.Value h false persist)) new_one g = again x h persist g.0.0 g.0.1.0 g.0.1.1
  gets (Ok (Some x)) (Ok (got.Value h true persist)) new_one g = fresh x h persist g.0.0 (new_one x refl g.0.1.0) k1.free refl g.0.1.1 g.0.1.2
  gets (Ok (Some x)) (Err (fault.Refused c)) new_one g = absurd g.0
  gets (Ok (Some x)) (Err (fault.NoMemory cause)) new_one g = unchanged g.0.0

  pub stands_make : (by command : ℕ) (previous : Option ℕ) (content : List ℕ) (r : Result Got GetFault) → Gets k1 (answer k1.rules by command (previous_of k1.slots previous) content) r k2 → Depicts (got_picture r p) new k2
  stands_make by command previous content r g = gets _ r (answer_new k1 by command previous content laws) g
