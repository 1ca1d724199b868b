-- New parts stand for the state at the start.
use Rattle.std.proofs.Common.{◌≡◌, ℕ, zero, suc, ◌-◌, ◌<◌, ◌==◌, false, List, [], ◌∷◌, refl, arith, sym, ap, ◌∙◌, subst, length, map, get_or, Some}
use Rattle.std.specs.Prelude.{replicate}
use Rattle.std.specs.List.{flat_map}
use Rattle.std.proofs.lemmas.Grind.{common_steps}
use Rattle.vch_base.specs.declared.flags.Flags.{Flags}
use Rattle.vch_base.specs.declared.key.Key.{Key}
use Rattle.vch_base.specs.declared.key.Key.TheVariants as keys
use Rattle.vch_base.specs.declared.limits.TheConstants.{USUAL_QUEUE}
use Rattle.vch_base.specs.declared.places.Live.{Live}
use Rattle.vch_base.specs.Keyed.{of_key}
use Rattle.vch_base.specs.Managers.{Kept, live_at}
use Rattle.vch_base.specs.Tasks.{at_task}
use Rattle.vch_value.specs.Picture as picture
use Rattle.vch_value.specs.Picture.{Picture}
use Rattle.vch_values.specs.Parts.{new_kept, rules_at, number_at, asked_in}
use Rattle.vch_values.proofs.CallerLemmas.{every, new_depicted, over_keys}
use Rattle.vch_model.specs.Scenarios.{IsLimited}
use Rattle.vch_model.specs.Store.{limit_of}
use Rattle.vch_model.specs.declared.lists.Scenario.{Scenario}
use Rattle.vch_machine.specs.State.{Tasked, idle, tasked, living_at, default_living, start}
use Rattle.vch_legal.specs.ValueAmounts.{amount_of}
use Rattle.vch_frame.specs.Living.{IsLiving}
use Rattle.vch_parts.specs.Fresh.{fresh_parts, IsFresh}
use Rattle.vch_parts.specs.Plain.{Plain, Part, idle_part, part_of}
use Rattle.vch_parts.specs.Shape.{IsTask}
use Rattle.vch_parts.specs.Pictures.{both, picture_of, task_holds, part_expects, both_claimed, task_vouchers}
use Rattle.vch_parts.specs.Stands.{StandsFor, KeyStands, Ledgers}
use Rattle.vch_parts.specs.Reached.{IsState, IsEnd}

-- Tasks that have done nothing.

abbrev idles : List Flags → List Tasked
idles flags = map (λ _. idle) flags

idle_at : (flags : List Flags) (i : ℕ) → get_or (idles flags) i idle ≡ idle
idle_at [] i = refl
idle_at (x ∷ flags) zero = refl
idle_at (x ∷ flags) (suc i) = idle_at flags i

abbrev IsResting : Part → Type 0
IsResting x = x ≡ record idle_part { limit = x.limit }

rest_at : (limits : List ℕ) (i : ℕ) → IsResting (get_or (fresh_parts limits) i idle_part)
rest_at [] i = refl
rest_at (l ∷ limits) zero = refl
rest_at (l ∷ limits) (suc i) = rest_at limits i

limit_at : (limits : List ℕ) (i : ℕ) → i < length (fresh_parts limits) → (get_or (fresh_parts limits) i idle_part).limit ≡ get_or limits i USUAL_QUEUE
limit_at [] i l = absurd (omega (arith, l))
limit_at (x ∷ limits) zero l = refl
limit_at (x ∷ limits) (suc i) l = limit_at limits i (omega (arith, l))

long_limits : (limits : List ℕ) → length (fresh_parts limits) ≡ length limits
long_limits [] = refl
long_limits (l ∷ limits) = ap suc (long_limits limits)

long_idles : (flags : List Flags) → length (idles flags) ≡ length flags
long_idles [] = refl
long_idles (x ∷ flags) = ap suc (long_idles flags)

-- Nothing is held, in flight or claimed.

module _ (k : Key) where
  no_holders : (flags : List Flags) → flat_map (task_holds k) (idles flags) ≡ []
  no_holders [] = refl
  no_holders (x ∷ flags) = no_holders flags

  no_receipts : (limits : List ℕ) → flat_map (part_expects k) (fresh_parts limits) ≡ []
  no_receipts [] = refl
  no_receipts (l ∷ limits) = no_receipts limits

  no_claims : (limits : List ℕ) (flags : List Flags) → flat_map (both_claimed k) (both (fresh_parts limits) (idles flags)) ≡ []
  no_claims [] flags = refl
  no_claims (l ∷ limits) [] = refl
  no_claims (l ∷ limits) (x ∷ flags) = no_claims limits flags

no_vouchers : (flags : List Flags) → flat_map task_vouchers (idles flags) ≡ []
no_vouchers [] = refl
no_vouchers (x ∷ flags) = no_vouchers flags

abbrev empty : Picture
empty = record { holders = []; receipts = []; claims = [] }

-- The managers.

default_lives : (h : ℕ) → IsLiving 0 (live_at (new_kept keys.Bank []).slots h) (living_at (default_living ∷ []) (record { key = keys.Bank; handle = h }))
default_lives zero = (refl, refl)
default_lives (suc h) = let e : (0 == suc h) ≡ false = grind (arith, common_steps) in rw e tt

new_lives : (k : Key) (flags : List Flags) (h : ℕ) → IsLiving (number_at [] h) (live_at (new_kept k flags).slots h) (living_at (default_living ∷ []) (record { key = k; handle = h }))
new_lives keys.Importance flags h = tt
new_lives keys.Bank flags h = default_lives h
new_lives keys.User flags h = tt
new_lives keys.Test flags h = tt

nothing_due : (sc : Scenario) (k : Key) (flags : List Flags) (h : ℕ) (l : Live) → live_at (new_kept k flags).slots h ≡ Some l → l.due ≡ amount_of sc [] l.value
nothing_due sc keys.Importance flags h l e = absurd (cc)
nothing_due sc keys.Bank flags zero l e = let z : record { value = default_living.value; made = 0; due = 0 } ≡ l = cc in subst (λ (x : Live). x.due ≡ amount_of sc [] x.value) z refl
nothing_due sc keys.Bank flags (suc h) l e = absurd (cc)
nothing_due sc keys.User flags h l e = absurd (cc)
nothing_due sc keys.Test flags h l e = absurd (cc)

abbrev zeros : ℕ → List ℕ
zeros n = replicate n 0

no_ledger : (n i : ℕ) → get_or (zeros n) i 0 ≡ 0
no_ledger zero i = refl
no_ledger (suc n) zero = refl
no_ledger (suc n) (suc i) = no_ledger n i

long_ledgers : (n : ℕ) → length (zeros n) ≡ n
long_ledgers zero = refl
long_ledgers (suc n) = ap suc (long_ledgers n)

new_ledgers : (sc : Scenario) → Ledgers sc [] (zeros (length sc.flags))
new_ledgers sc = record { long = long_ledgers (length sc.flags); each = λ t task. none t }
  where
    none : (t : ℕ) → at_task (zeros (length sc.flags)) t 0 ≡ 0
    none zero = refl
    none (suc i) = no_ledger (length sc.flags) i

module _ (sc : Scenario) (c : Plain) (limited : IsLimited sc) (fresh : IsFresh sc c) where
  picture_empty : (k : Key) → picture_of k c (start sc) ≡ empty
  picture_empty k = rw (fresh.tasks, no_holders k sc.flags, no_vouchers sc.flags, no_receipts k sc.queues, no_claims k sc.queues sc.flags) refl

  counts : (k : Key) → picture.Depicts (picture_of k c (start sc)) (of_key k c.keyed).entries (of_key k c.keyed).kept
  counts k = subst (λ (p : Picture). picture.Depicts p (of_key k c.keyed).entries (of_key k c.keyed).kept) (sym (picture_empty k)) (new_depicted k sc.flags (of_key k c.keyed) (fresh.keyed k))

  free : (k : Key) → (new_kept k sc.flags).free ≡ (of_key k (start sc).pools).free
  free = every (λ k. (new_kept k sc.flags).free ≡ (of_key k (start sc).pools).free) refl refl refl refl

  used : (k : Key) → length (new_kept k sc.flags).slots ≡ (of_key k (start sc).pools).used
  used = every (λ k. length (new_kept k sc.flags).slots ≡ (of_key k (start sc).pools).used) refl refl refl refl

  rules : (k : Key) → (new_kept k sc.flags).rules ≡ rules_at k sc.flags
  rules = every (λ k. (new_kept k sc.flags).rules ≡ rules_at k sc.flags) refl refl refl refl

  asked : (k : Key) → (new_kept k sc.flags).asked ≡ 0
  asked = every (λ k. (new_kept k sc.flags).asked ≡ 0) refl refl refl refl

  key_stands : (k : Key) → KeyStands sc k c (start sc)
  key_stands k = record {
    living = λ h. rw ((fresh.keyed k).kept, (fresh.keyed k).numbers) (new_lives k sc.flags h);
    free = rw (fresh.keyed k).kept (free k);
    used = rw (fresh.keyed k).kept (used k);
    rules = rw (fresh.keyed k).kept (rules k);
    dues = λ h l e. nothing_due sc k sc.flags h l (sym (ap (λ (x : Kept). live_at x.slots h) (fresh.keyed k).kept) ∙ e);
    counts = counts k;
    made = λ i. rw (fresh.keyed k).entries (omega arith);
  }

  none_asked : (k : Key) → (of_key k c.keyed).kept.asked ≡ 0
  none_asked k = ap (λ (x : Kept). x.asked) (fresh.keyed k).kept ∙ asked k

  all_asked : asked_in c.keyed ≡ 0
  all_asked =
      let a = none_asked keys.Importance in let b = none_asked keys.Bank in let d = none_asked keys.User in let e = none_asked keys.Test in
      let z = over_keys (λ k. (of_key k c.keyed).kept.asked) in omega (arith, a, b, d, e, z)

  idling_at : (t : ℕ) → tasked (start sc) t ≡ idle
  idling_at zero = refl
  idling_at (suc i) = idle_at sc.flags i

  resting_at : (t : ℕ) → IsResting (part_of c t)
  resting_at t = subst (λ ts. IsResting (at_task ts t idle_part)) (sym fresh.tasks) (by t)
    where
      by : (t : ℕ) → IsResting (at_task (fresh_parts sc.queues) t idle_part)
      by zero = refl
      by (suc i) = rest_at sc.queues i

  every_task : (t : ℕ) → IsTask c.keyed (part_of c t) (tasked (start sc) t)
  every_task t = subst (λ x. IsTask c.keyed x (tasked (start sc) t)) (sym (resting_at t))
      (subst (λ (y : Tasked). IsTask c.keyed (record idle_part { limit = (part_of c t).limit }) y) (sym (idling_at t))
      (record { names = tt; next = refl; queue = tt; begun = refl; frame = tt }))

  limits : (t : ℕ) → 0 < t → t - 1 < length c.tasks → (part_of c t).limit ≡ limit_of sc t
  limits t p i = subst (λ ts. t - 1 < length ts → (at_task ts t idle_part).limit ≡ limit_of sc t) (sym fresh.tasks) (by t p) i
    where
      back : (n : ℕ) → suc n - 1 ≡ n
      back n = omega arith

      by : (t : ℕ) → 0 < t → t - 1 < length (fresh_parts sc.queues) → (at_task (fresh_parts sc.queues) t idle_part).limit ≡ limit_of sc t
      by zero p i = absurd (omega (arith, p))
      by (suc n) p i = limit_at sc.queues n (subst (λ j. j < length (fresh_parts sc.queues)) (back n) i)

  pub start_stands : StandsFor sc c (start sc)
  start_stands = record {
    keyed = key_stands;
    ledgers = rw (fresh.keyed keys.Bank).kept (new_ledgers sc);
    shape = record {
      long = ap length fresh.tasks ∙ long_limits sc.queues ∙ limited.queues ∙ sym (long_idles sc.flags);
      tasks = λ t p i. every_task t;
      limits = limits;
    };
    history = fresh.history;
    phase = fresh.phase;
    tally = rw fresh.tally (record { claims = refl; refers = refl; asks = refl });
    asked = rw (fresh.tally, all_asked) refl;
    room = let a = fresh.room in omega (arith, a);
  }

  -- the parts at the start are the end of the run without a move
  pub start_reached : IsEnd sc c
  unfolding IsEnd IsState
  start_reached = (start sc, ([], refl, start_stands))
