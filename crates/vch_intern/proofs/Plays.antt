-- A manager after one more command.
use Rattle.std.proofs.Common.{◌≡◌, ◌≤◌, ◌<◌, ◌+◌, ℕ, List, [], ◌∷◌, ◌++◌, length, set, get_or, Option, Some, None, Result, Ok, Err, Bool, true, false, ℤ, inl, inr, refl, ap, subst, ◌∙◌, arith, IsSome}
use Rattle.std.proofs.lemmas.Grind.{common_steps}
use Rattle.std.proofs.lemmas.List.{get_or-set_other, get_or-set_same, length-set}
use Rattle.std.proofs.lemmas.Bool.{cases_eq}
use Rattle.vch_base.specs.Slots.{Writes}
use Rattle.vch_base.proofs.CallerLemmas.{place_of, writes_set, writes_push, handed_cases, again, first_free}
use Rattle.vch_base.specs.declared.places.Live.{Live}
use Rattle.vch_base.specs.declared.value.Value.{Value}
use Rattle.vch_base.specs.declared.manager.Got.{Got}
use Rattle.vch_base.specs.declared.manager.Got.TheVariants as got
use Rattle.vch_base.specs.declared.manager.GetFault.{GetFault}
use Rattle.vch_base.specs.declared.manager.GetFault.TheVariants as fault
use Rattle.vch_base.specs.Managers.{Kept, Lawful, Gets, Handed, live_at, value_of, made_of, made_at, more_made, new_live}
use Rattle.vch_base.specs.Places.{Placed}
use Rattle.vch_intern.specs.Played.{Played}

-- one value is written at a place, and counted once more there
module _ (slots slots2 : List (Option Live)) (h n : ℕ) (l : Live) (w : Writes slots slots2 h (Some l)) where
  made_after : l.made ≤ n + 1 → ((j : ℕ) → made_at slots j ≤ n) → (j : ℕ) → made_at slots2 j ≤ n + 1
  made_after few all j = elim (cases_eq j h) [
    | inl e ↦ let c : made_at slots2 j ≡ l.made = ap (made_at slots2) e ∙ ap made_of w.here in omega arith
    | inr d ↦ let c : made_at slots2 j ≡ made_at slots j = ap made_of (w.others j d) in omega (arith, all j)
  ]

  alive_after : (counted : List ℕ) → ((j : ℕ) → 0 < get_or counted j 0 → IsSome (live_at slots j)) → (j : ℕ) → 0 < get_or counted j 0 → IsSome (live_at slots2 j)
  alive_after counted all j y = elim (cases_eq j h) [
    | inl e ↦ rw (e, w.here) refl
    | inr d ↦ rw (w.others j d) (all j y)
  ]

-- what a command leaves of the slots
abbrev Keeps : ℕ → List ℕ → List (Option Live) → Type 0
Keeps n counted s = (length s ≤ n) × ((h : ℕ) → made_at s h ≤ n) × ((h : ℕ) → 0 < get_or counted h 0 → IsSome (live_at s h))

module _ (old new : Kept) (n : ℕ) (counted : List ℕ) (laws : Lawful old) (few : n < 65536) (p : Played old n counted) where
  placed : Placed (record { slots = old.slots; free = old.free })
  placed = record { one_handle = laws.one_handle; once = laws.once; within = laws.within; fits = let h = p.handles in omega arith }

  more : Keeps (n + 1) counted old.slots
  more = (omega (arith, p.handles), (λ h. omega (arith, p.counts h)), p.alive)

  handed : (x : Value) (r : Result Got GetFault) → Handed old.slots old.free x r new.slots new.free → Keeps (n + 1) counted new.slots
  handed x r is =
      handed_cases (λ b s. Keeps (n + 1) counted s) old.slots new.slots old.free new.free x r placed is more
      (λ h l e. let w = writes_set old.slots h (Some (again l)) (place_of old.slots h l e) in let m : made_at old.slots h ≡ l.made = ap made_of e in
      (omega (arith, p.handles, length-set old.slots h (Some (again l))), made_after old.slots _ h n (again l) w (omega (arith, m, p.counts h)) p.counts, alive_after old.slots _ h n (again l) w counted p.alive))
      (λ h b e. let w = writes_set old.slots h (Some (new_live x)) b in
      (omega (arith, p.handles, length-set old.slots h (Some (new_live x))), made_after old.slots _ h n (new_live x) w (omega arith) p.counts, alive_after old.slots _ h n (new_live x) w counted p.alive))
      (let w = writes_push old.slots (Some (new_live x)) in let long : length (old.slots ++ Some (new_live x) ∷ []) ≡ length old.slots + 1 = grind (arith, common_steps) in
      (omega (arith, p.handles), made_after old.slots _ (length old.slots) n (new_live x) w (omega arith) p.counts, alive_after old.slots _ (length old.slots) n (new_live x) w counted p.alive))

  -- any answer
  pub played : (a : Result (Option Value) ℤ) (r : Result Got GetFault) → Gets old a r new → Played new (n + 1) counted
  played a r y = let k = by a r y in record { handles = k.0; counts = k.1; alive = k.2 }
    where
      same : new ≡ old → Keeps (n + 1) counted new.slots
      same e = rw e more

      by : (a : Result (Option Value) ℤ) (r : Result Got GetFault) → Gets old a r new → Keeps (n + 1) counted new.slots
      by (Err code) (Err (fault.Refused c)) z = same z.1
      by (Err code) (Err (fault.NoMemory cause)) z = absurd z
      by (Err code) (Ok r) z = absurd z
      by (Ok None) (Ok got.Nothing) z = same z
      by (Ok None) (Ok (got.Value h f persist)) z = absurd z
      by (Ok None) (Err e) z = absurd z
      by (Ok (Some x)) r z = handed x r z.0

  -- a value that was handed out is live
  live_now : (x : Value) (h : ℕ) (fresh persist : Bool) → Handed old.slots old.free x (Ok (got.Value h fresh persist)) new.slots new.free → IsSome (live_at new.slots h)
  live_now x h false persist is = by (live_at old.slots h) refl is.1.0
    where
      by : (o : Option Live) → live_at old.slots h ≡ o → value_of o ≡ Some x → IsSome (live_at new.slots h)
      by None e v = absurd (cc)
      by (Some l) e v = rw (is.1.1, get_or-set_same old.slots h (more_made (live_at old.slots h)) None (place_of old.slots h l e), e) refl
  live_now x h true persist is = by old.free refl
    where
      by : (free : List ℕ) → old.free ≡ free → IsSome (live_at new.slots h)
      by [] e = rw (is.1.2, is.1.1, e, (writes_push old.slots (Some (new_live x))).here) refl
      by (f ∷ free) e =
          let inside : f < length old.slots = (first_free old.slots free f (subst (λ (fs : List ℕ). Placed (record { slots = old.slots; free = fs })) e placed)).0 in
          rw (is.1.2, is.1.1, e, get_or-set_same old.slots f (Some (new_live x)) None inside) refl

  pub played_value : (a : Result (Option Value) ℤ) (r : Result Got GetFault) (h m : ℕ) (fresh persist : Bool) → Gets old a r new → r ≡ Ok (got.Value h fresh persist) → Played new (n + 1) (set counted h m)
  played_value a r h m fresh persist y e =
      let k = played a r y in
      record {
        handles = k.handles;
        counts = k.counts;
        alive = λ j z. elim (cases_eq j h) [
          | inl q ↦ rw q (now a (subst (λ (s : Result Got GetFault). Gets old a s new) e y))
          | inr d ↦ k.alive j (rw (get_or-set_other counted h j m 0 d) at z)
        ];
      }
    where
      now : (b : Result (Option Value) ℤ) → Gets old b (Ok (got.Value h fresh persist)) new → IsSome (live_at new.slots h)
      now (Err code) z = absurd z
      now (Ok None) z = absurd z
      now (Ok (Some x)) z = live_now x h fresh persist z.0
