-- A fresh value that was handed out: its handle, its number, and what it is.
use Rattle.std.proofs.Common.{◌≡◌, ℕ, ◌<◌, ◌==◌, Bool, true, false, List, [], ◌∷◌, refl, arith, sym, ap, ◌∙◌, length, subst, Option, Some, None, inl, inr}
use Rattle.std.specs.Prelude.{IsSome, Result, Ok, Err, ℤ}
use Rattle.std.proofs.lemmas.List.{length-reverse}
use Rattle.vch_base.specs.declared.flags.Flags.{Flags}
use Rattle.vch_base.specs.declared.key.Key.{Key}
use Rattle.vch_base.specs.declared.manager.Got.TheVariants as got
use Rattle.vch_base.specs.declared.places.Live.{Live}
use Rattle.vch_base.specs.declared.value.Value.{Value}
use Rattle.vch_base.specs.declared.value.Value.TheVariants as values
use Rattle.vch_base.specs.Keyed.{of_key}
use Rattle.vch_base.specs.Managers as managers
use Rattle.vch_base.specs.Managers.{Kept, Handed, IsAbsent, answer, live_at, value_at, new_live, next_handle, slots_with, user_rules}
use Rattle.vch_value.specs.declared.flight.Made.TheVariants as made
use Rattle.vch_value.specs.Flight.{Receipt}
use Rattle.vch_value.specs.Calls.{Makes, previous_handle}
use Rattle.vch_machine.specs.State.{Machine}
use Rattle.vch_bounds.proofs.CallerLemmas.{counted}
use Rattle.vch_values.specs.Parts.{HasBytes, rules_at}
use Rattle.vch_parts.specs.declared.parts.Parts.{Parts}
use Rattle.vch_parts.specs.Reached.{plain_of, Reached, Stands}
use Rattle.vch_parts.specs.Stands.{KeyStands}
use Rattle.vch_parts.proofs.CallerLemmas.{numbers_of}
use Rattle.vch_moves.proofs.CallerLemmas.{from_state, stands_of, ties_of}
use Rattle.vch_making.specs.declared.question.Question.{Question}
use Rattle.vch_making.specs.Answers.{Answers, HasRoom, IsPrepared, content_of, reply_to}
use Rattle.vch_making.proofs.giving.FreshLive.{free_handle}
use Rattle.vch_making.proofs.giving.MadeLive.{IsFree, live_new}
use Rattle.vch_making.proofs.questions.Bounds.{calls_few, phases_few}

-- the history has fewer entries than its numbers
pub past_few : (p : Parts) → Reached p → length p.history.entries < 4294967295
past_few p r = numbers_of p _ r (λ m s ties n.
    let a : length p.history.entries ≡ length m.past = ap length s.history ∙ length-reverse m.past in
    let b = counted p.scenario m.past ties.legal in
    let d = b.entries in
    let e = b.answers in
    let f = b.phases in
    let g = b.released in
    let h = b.given_up in
    let i = n.made in
    let j = calls_few p r in
    let k = phases_few p r in
    omega (arith, a, d, e, f, g, h, i, j, k))

-- a receipt is for a value that the manager replied
pub value_is : (old new : Kept) (reply : Result (Option Value) ℤ) (r : Receipt) (fresh : Bool) (P : Type 0) → Makes old reply (Ok (made.Receipt r fresh)) new
    → ((x : Value) → reply ≡ Ok (Some x) → Handed old.slots old.free x (Ok (got.Value r.handle fresh r.persist)) new.slots new.free → new ≡ record old { slots = new.slots; free = new.free } → P) → P
value_is old new (Err code) r fresh P m h = absurd m
value_is old new (Ok None) r fresh P m h = absurd m
value_is old new (Ok (Some x)) r fresh P m h = h x refl m.0 m.1

-- the next handle is free
free_in : (p : Parts) (k : Key) (m : Machine) → Stands p m → IsFree (of_key k p.values).kept.slots (of_key k p.values).kept.free
free_in p k m st =
    let z : KeyStands p.scenario k (plain_of p) m = (stands_of p.scenario (plain_of p) m st).keyed k in
    free_handle p.scenario m k (of_key k p.values).kept.slots (of_key k p.values).kept.free (of_key k p.values).numbers (ties_of p.scenario (plain_of p) m st).fits z.free z.used z.living

below : (slots : List (Option Live)) (free : List ℕ) (n h : ℕ) → IsFree slots free → h ≡ next_handle free (length slots) → length slots < n → h < n
below slots [] n h f e l = omega (arith, e, l)
below slots (j ∷ free) n h f e l = let b : j < length slots = f.inside j free refl in omega (arith, e, b, l)

-- What a manager of bytes replies.

stored : (t command : ℕ) (previous : Option Value) (content : List ℕ) (x : Value) → answer user_rules t command previous content ≡ Ok (Some x) → (previous ≡ Some x → ⊥) → x ≡ values.User content
stored t command previous content x e other = by (command == 10) (command == 211) (length content == 0) refl refl refl
  where
    same : {a b : Value} → ◌≡◌ {A = Result (Option Value) ℤ} (Ok (Some a)) (Ok (Some b)) → b ≡ a
    same q = cc

    before : ◌≡◌ {A = Result (Option Value) ℤ} (Ok previous) (Ok (Some x)) → previous ≡ Some x
    before q = cc

    no : {n : ℤ} → ◌≡◌ {A = Result (Option Value) ℤ} (Err n) (Ok (Some x)) → ⊥
    no q = cc

    by : (a b d : Bool) → (command == 10) ≡ a → (command == 211) ≡ b → (length content == 0) ≡ d → x ≡ values.User content
    by true b true p q r = absurd (other (before (rw (p, r) at e)))
    by true b false p q r = absurd (no (rw (p, r) at e))
    by false true d p q r = same (rw (p, q) at e)
    by false false d p q r = absurd (no (rw (p, q) at e))

not_before : (slots : List (Option Live)) (o : Option ℕ) (x : Value) → IsAbsent slots x → managers.previous_of slots o ≡ Some x → ⊥
not_before slots None x absent e = cc
not_before slots (Some h) x absent e = absent h e

user_at : (k : Key) (flags : List Flags) → HasBytes k → rules_at k flags ≡ user_rules
user_at k flags (inl e) = ap (λ j. rules_at j flags) e
user_at k flags (inr e) = ap (λ j. rules_at j flags) e

module _ (p q : Parts) (t : ℕ) (a : Question) (r : Receipt) (reached : Reached p) (ans : Answers t a (Ok (made.Receipt r true)) p q) where
  abbrev old : Kept
  old = (of_key a.key p.values).kept

  abbrev new : Kept
  new = (of_key a.key q.values).kept

  abbrev IsHanded : Value → Type 0
  IsHanded x = Handed old.slots old.free x (Ok (got.Value r.handle true r.persist)) new.slots new.free

  by_value : (P : Type 0) → ((x : Value) → reply_to p t a ≡ Ok (Some x) → IsHanded x → P) → P
  by_value P h = value_is old new (reply_to p t a) r true P ans.call (λ x reply handed rest. h x reply handed)

  -- there is room for its number
  pub handle_few : HasRoom a.key p → r.handle < length (of_key a.key p.values).numbers
  handle_few room = by_value _ (λ x reply handed. from_state p _ reached (λ m st.
      below old.slots old.free (length (of_key a.key p.values).numbers) r.handle (free_in p a.key m st) handed.1.1 room.numbers))

  -- it is live
  live_now : (x : Value) → IsHanded x → live_at new.slots r.handle ≡ Some (new_live x)
  live_now x handed = from_state p _ reached (λ m st.
      ap (λ xs. live_at xs r.handle) handed.1.2 ∙ (ap (λ h. live_at (slots_with old.slots old.free (new_live x)) h) handed.1.1 ∙ live_new old.slots old.free (new_live x) (free_in p a.key m st)))

  pub value_now : (x : Value) → IsHanded x → value_at new.slots r.handle ≡ Some x
  value_now x handed = ap managers.value_of (live_now x handed)

  pub fresh_live : IsSome (live_at new.slots r.handle)
  fresh_live = by_value _ (λ x reply handed. subst (λ o. IsSome o) (sym (live_now x handed)) refl)

  -- of bytes, it is the one that was prepared
  stores : (x : Value) → reply_to p t a ≡ Ok (Some x) → IsAbsent old.slots x → HasBytes a.key → x ≡ values.User (content_of p t)
  stores x reply absent bytes = from_state p _ reached (λ m st.
      stored t a.command (managers.previous_of old.slots (previous_handle (of_key a.key p.values).entries.slots a.previous)) (content_of p t) x
      (subst (λ rules. answer rules t a.command (managers.previous_of old.slots (previous_handle (of_key a.key p.values).entries.slots a.previous)) (content_of p t) ≡ Ok (Some x))
      (((stands_of p.scenario (plain_of p) m st).keyed a.key).rules ∙ user_at a.key p.scenario.flags bytes) reply)
      (not_before old.slots (previous_handle (of_key a.key p.values).entries.slots a.previous) x absent))

  pub fresh_prepared : (v : Value) → IsPrepared p t a.key v → HasBytes a.key → value_at new.slots r.handle ≡ Some v
  fresh_prepared v prepared bytes = by_value _ (λ x reply handed. value_now x handed ∙ ap Some (stores x reply handed.1.0 bytes ∙ sym (prepared bytes)))
