-- A manager hands out a value that was live, or a fresh one: what the parts stand for then.
use Rattle.std.proofs.Common.{◌≡◌, ◌≢◌, ℕ, suc, ◌+◌, ◌*◌, ◌-◌, ◌<◌, ◌≤◌, true, false, List, [], ◌∷◌, ◌++◌, refl, arith, sym, ap, ◌∙◌, length, reverse, subst, Option, Some, None, inl, inr}
use Rattle.std.proofs.Math.ListN.{set}
use Rattle.std.proofs.lemmas.Bool.{cases_eq}
use Rattle.std.proofs.lemmas.Grind.{common_steps}
use Rattle.std.proofs.lemmas.List.{length-set, length-reverse}
use Rattle.std.proofs.lemmas.Option.{same_Some}
use Rattle.vch_base.specs.declared.key.Key.{Key}
use Rattle.vch_base.specs.declared.key.Key.TheVariants as keys
use Rattle.vch_base.specs.declared.places.Live.{Live}
use Rattle.vch_base.specs.declared.value.Value.{Value}
use Rattle.vch_base.specs.declared.value.Value.TheVariants as values
use Rattle.vch_base.specs.Tasks.{set_task}
use Rattle.vch_base.specs.Keys.{same_key, number_of}
use Rattle.vch_base.specs.Keyed.{of_key}
use Rattle.vch_base.specs.Managers.{Kept, live_at, value_at, more_made, new_live, next_handle, slots_with, free_after}
use Rattle.vch_base.specs.Managers as managers
use Rattle.vch_base.specs.Values.{Belongs, equal_values}
use Rattle.vch_value.specs.Flight.{Receipt}
use Rattle.vch_value.specs.Picture as picture
use Rattle.vch_value.specs.Picture.{made_picture}
use Rattle.vch_model.specs.declared.entry.Entry.{Entry}
use Rattle.vch_model.specs.declared.entry.Entry.TheVariants as entries
use Rattle.vch_model.specs.declared.lists.Scenario.{Scenario}
use Rattle.vch_machine.specs.State as machine
use Rattle.vch_machine.specs.State.{Machine, Living, Place, tasked, living_at, handle_of}
use Rattle.vch_machine.specs.Making.{made_at, minted, fresh_handle, fewer_free, given_receipt}
use Rattle.vch_legal.specs.Tie.{Ties}
use Rattle.vch_legal.specs.ValueAmounts.{amount_of}
use Rattle.vch_legal.proofs.CallerLemmas.{append_other, fresh_dead, made_amount, other_made, values_eq, cases_bool}
use Rattle.vch_bounds.specs.Rooms.{room_of}
use Rattle.vch_bounds.proofs.CallerLemmas.{room_grows}
use Rattle.vch_frame.specs.declared.frame.Claiming.{Claiming}
use Rattle.vch_frame.specs.Living.{IsLiving}
use Rattle.vch_values.specs.Parts.{KeyParts, number_at}
use Rattle.vch_values.proofs.CallerLemmas.{of_with, same_key_refl}
use Rattle.vch_parts.specs.declared.frame.Frame.{Frame}
use Rattle.vch_parts.specs.Plain.{Plain, part_of}
use Rattle.vch_parts.specs.Shape.{IsFrame}
use Rattle.vch_parts.specs.Pictures.{picture_of}
use Rattle.vch_parts.specs.Stands.{StandsFor}
use Rattle.vch_parts.proofs.CallerLemmas.{framed, other_with, value_belongs}
use Rattle.vch_making.specs.Given.{gave, gave_fresh, HandsOut}
use Rattle.vch_making.proofs.giving.FreshLive.{found_handle, absent_handle, fresh_is, free_is, used_is, free_handle, living_again, living_new, tasks_given}
use Rattle.vch_making.proofs.giving.MadeLive.{IsFree, live_again, live_new, live_old, length_new}
use Rattle.vch_making.proofs.giving.Receives as receives

-- What is due.

abbrev Settles : Scenario → List Entry → Option Live → Type 0
Settles sc past o = (l : Live) → o ≡ Some l → l.due ≡ amount_of sc past l.value

more_settles : (sc : Scenario) (past : List Entry) (o : Option Live) → Settles sc past o → Settles sc past (more_made o)
more_settles sc past None p l e = absurd (cc)
more_settles sc past (Some a) p l e = subst (λ (z : Live). z.due ≡ amount_of sc past z.value) (same_Some _ l e) (p a refl)

-- a value with an amount is one of a single key
chain_key : (k : Key) (list : List ℕ) → Belongs k (values.Chain list) → k ≡ keys.Importance
chain_key keys.Importance list b = refl
chain_key keys.Bank list b = absurd b
chain_key keys.User list b = absurd b
chain_key keys.Test list b = absurd b

account_key : (k : Key) (a b : ℕ) → Belongs k (values.Account a b) → k ≡ keys.Bank
account_key keys.Importance a b z = absurd z
account_key keys.Bank a b z = refl
account_key keys.User a b z = absurd z
account_key keys.Test a b z = absurd z

one_key : (k q j : Key) → k ≡ j → q ≡ j → same_key k q ≡ false → ⊥
one_key k q j a b e =
    let x : same_key j j ≡ false = subst (λ i. same_key i j ≡ false) a (subst (λ i. same_key k i ≡ false) b e) in
    let y : same_key j j ≡ true = same_key_refl j in
    cc

two_keys : (sc : Scenario) (past : List Entry) (k q : Key) (n : ℕ) (x : Value) → same_key k q ≡ false → Belongs k x → Belongs q x → amount_of sc (entries.Made n x ∷ past) x ≡ amount_of sc past x
two_keys sc past k q n (values.User bytes) e a b = refl
two_keys sc past k q n values.Default e a b = refl
two_keys sc past k q n (values.Task t) e a b = refl
two_keys sc past k q n (values.Chain list) e a b = absurd (one_key k q keys.Importance (chain_key k list a) (chain_key q list b) e)
two_keys sc past k q n (values.Account c d) e a b = absurd (one_key k q keys.Bank (account_key k c d a) (account_key q c d b) e)

one_behind : (e : Entry) (past : List Entry) → reverse (e ∷ past) ≡ reverse past ++ e ∷ []
one_behind e past = grind (arith, common_steps)

module _ (sc : Scenario) (c : Plain) (m : Machine) (t : ℕ) (positive : 0 < t) (inside : t - 1 < length c.tasks)
    (f : Frame) (g : machine.Frame) (k : Key) (receipt : Receipt)
    (own : (part_of c t).frame ≡ Some f) (task : (tasked m t).frame ≡ Some g)
    (frame : IsFrame c.keyed f g) (no_taken : f.receipt ≡ None) (no_claimed : f.claim ≡ Claiming.Nothing)
    (s : StandsFor sc c m) (ties : Ties sc m) (x : Value) (x2 : KeyParts)
    (counts : picture.Depicts (made_picture receipt (picture_of k c m)) x2.entries x2.kept) where
  abbrev kp : KeyParts
  kp = of_key k c.keyed

  abbrev h : ℕ
  h = receipt.handle

  abbrev Spot : Place
  Spot = record { key = k; handle = h }

  twin_claim : g.claim ≡ None
  twin_claim = receives.twin_claim sc c m t positive inside f g k receipt own task frame no_taken no_claimed s

  -- A value that was live.

  module _ (hands : HandsOut receipt false x kp x2) (numbers : x2.numbers ≡ kp.numbers) where
    abbrev n : Machine
    n = given_receipt m t g Spot

    slots_now : x2.kept.slots ≡ set kp.kept.slots h (more_made (live_at kp.kept.slots h))
    slots_now = hands.handed.1.1

    found : handle_of m.live k x ≡ Some h
    found = found_handle (number_at kp.numbers h) sc m k (live_at kp.kept.slots h) x h ties.fits ((s.keyed k).living h) hands.handed.1.0

    living : (i : ℕ) → IsLiving (number_at x2.numbers i) (live_at x2.kept.slots i) (living_at m.live (record { key = k; handle = i }))
    living i = rw (numbers, slots_now)
        (live_again (λ o. IsLiving (number_at kp.numbers i) o (living_at m.live (record { key = k; handle = i }))) kp.kept.slots h i
        (λ o l. living_again (number_at kp.numbers i) (living_at m.live (record { key = k; handle = i })) o l) ((s.keyed k).living i))

    dues : (i : ℕ) → Settles sc m.past (live_at x2.kept.slots i)
    dues i = subst (λ xs. Settles sc m.past (live_at xs i)) (sym slots_now)
        (live_again (Settles sc m.past) kp.kept.slots h i (more_settles sc m.past) ((s.keyed k).dues i))

    holds : receives.Holds sc c m t positive inside f g k receipt own task frame no_taken no_claimed s x2 c.history c.spare n hands.slots counts (tasks_given m m t g Spot refl twin_claim) refl
    holds = record {
      living = living;
      free = hands.handed.1.2 ∙ (s.keyed k).free;
      used = ap length slots_now ∙ length-set kp.kept.slots h (more_made (live_at kp.kept.slots h)) ∙ (s.keyed k).used;
      dues = dues;
      rules = ap (λ (a : Kept). a.rules) hands.rest;
      asked = ap (λ (a : Kept). a.asked) hands.rest;
      books = ap (λ (a : Kept). a.ledgers) hands.rest;
      elsewhere_living = λ q other i. refl;
      elsewhere_pools = λ q other. refl;
      elsewhere_dues = λ q other i l e. refl;
      ledgers = λ u. refl;
      history = s.history;
      phases = refl;
      room = s.room;
    }

    pub again_stands : StandsFor sc (gave c t f k receipt x2) (made_at m t g k x (handle_of m.live k x))
    again_stands = subst (λ o. StandsFor sc (gave c t f k receipt x2) (made_at m t g k x o)) (sym found)
        (receives.received sc c m t positive inside f g k receipt own task frame no_taken no_claimed s x2 c.history c.spare n hands.slots counts (tasks_given m m t g Spot refl twin_claim) refl holds)

  -- A fresh value.

  module _ (hands : HandsOut receipt true x kp x2) (numbers : x2.numbers ≡ set kp.numbers h (length c.history + 1)) (there : h < length kp.numbers)
      (belongs : Belongs k x) (room : room_of sc m.past + 2 ≤ length m.past + c.spare) where
    abbrev N : Machine
    N = given_receipt (minted m k x) t g Spot

    abbrev pool : machine.Pool
    pool = of_key k m.pools

    absent : (i : ℕ) → value_at kp.kept.slots i ≡ Some x → ⊥
    absent = hands.handed.1.0

    free_now : IsFree kp.kept.slots kp.kept.free
    free_now = free_handle sc m k kp.kept.slots kp.kept.free kp.numbers ties.fits (s.keyed k).free (s.keyed k).used (s.keyed k).living

    fresh_now : fresh_handle pool ≡ h
    fresh_now = fresh_is pool ∙ (rw (← (s.keyed k).free, ← (s.keyed k).used) refl ∙ sym hands.handed.1.1)

    dead : living_at m.live Spot ≡ None
    dead = ap (λ i. living_at m.live (record { key = k; handle = i })) (sym fresh_now) ∙ fresh_dead m k ties.fits.each_once

    missing : handle_of m.live k x ≡ None
    missing = absent_handle sc m k kp.kept.slots kp.numbers x ties.fits (s.keyed k).living absent

    long_history : length c.history ≡ length m.past
    long_history = ap length s.history ∙ length-reverse m.past

    slots_fresh : x2.kept.slots ≡ slots_with kp.kept.slots kp.kept.free (new_live x)
    slots_fresh = hands.handed.1.2

    living_then : (i : ℕ) → IsLiving (number_at x2.numbers i) (live_at x2.kept.slots i) (living_at N.live (record { key = k; handle = i }))
    living_then i = subst (λ xs. IsLiving (number_at x2.numbers i) (live_at xs i) (living_at N.live (record { key = k; handle = i }))) (sym slots_fresh)
        (subst (λ ns. IsLiving (number_at ns i) (live_at (slots_with kp.kept.slots kp.kept.free (new_live x)) i) (living_at N.live (record { key = k; handle = i }))) (sym (numbers ∙ ap (λ j. set kp.numbers h (j + 1)) long_history))
        (subst (λ j. IsLiving (number_at (set kp.numbers h (length m.past + 1)) i) (live_at (slots_with kp.kept.slots kp.kept.free (new_live x)) i) (living_at (m.live ++ record { place = record { key = k; handle = j }; value = x; made = length m.past + 1 } ∷ []) (record { key = k; handle = i }))) (sym fresh_now)
        (living_new m k kp.kept.slots kp.kept.free kp.numbers x h (length m.past + 1) free_now hands.handed.1.1 there dead (s.keyed k).living i)))

    free_then : x2.kept.free ≡ (of_key k N.pools).free
    free_then = hands.handed.1.3 ∙ ap free_after (s.keyed k).free ∙ sym (free_is pool) ∙ sym (ap (λ (z : machine.Pool). z.free) (of_with k (fewer_free pool) m.pools))

    used_then : length x2.kept.slots ≡ (of_key k N.pools).used
    used_then = ap length slots_fresh ∙ length_new kp.kept.slots kp.kept.free (new_live x) ∙ (rw ((s.keyed k).free, (s.keyed k).used) refl ∙ sym (used_is pool)) ∙ sym (ap (λ (z : machine.Pool). z.used) (of_with k (fewer_free pool) m.pools))

    -- the new value has nothing yet, and each other one keeps what it has
    dues_then : (i : ℕ) → Settles sc N.past (live_at x2.kept.slots i)
    dues_then i = subst (λ xs. Settles sc N.past (live_at xs i)) (sym slots_fresh) (elim (cases_eq i h) [ inl e ↦ here e | inr e ↦ other e ])
      where
        here : i ≡ h → Settles sc N.past (live_at (slots_with kp.kept.slots kp.kept.free (new_live x)) i)
        here e l q =
            let a : live_at (slots_with kp.kept.slots kp.kept.free (new_live x)) i ≡ Some (new_live x) = ap (live_at (slots_with kp.kept.slots kp.kept.free (new_live x))) (e ∙ hands.handed.1.1) ∙ live_new kp.kept.slots kp.kept.free (new_live x) free_now in
            subst (λ (z : Live). z.due ≡ amount_of sc N.past z.value) (same_Some (new_live x) l (sym a ∙ q)) (sym (made_amount sc m.past (number_of k) x))

        different : (l : Live) → live_at kp.kept.slots i ≡ Some l → equal_values l.value x ≡ false
        different l q = cases_bool (equal_values l.value x) (equal_values l.value x ≡ false)
            (λ same. absurd (absent i (ap managers.value_of q ∙ ap Some (values_eq l.value x same))))
            (λ no. no)

        other : i ≢ h → Settles sc N.past (live_at (slots_with kp.kept.slots kp.kept.free (new_live x)) i)
        other e l q =
            let a : live_at kp.kept.slots i ≡ Some l = sym (live_old kp.kept.slots kp.kept.free (new_live x) i (λ z. e (z ∙ sym hands.handed.1.1))) ∙ q in
            (s.keyed k).dues i l a ∙ sym (other_made sc m.past (number_of k) x l.value (different l a))

    other_dues : (q : Key) → same_key k q ≡ false → (i : ℕ) (l : Live) → live_at (of_key q c.keyed).kept.slots i ≡ Some l → amount_of sc N.past l.value ≡ amount_of sc m.past l.value
    other_dues q other i l e = cases_bool (equal_values l.value x) (amount_of sc N.past l.value ≡ amount_of sc m.past l.value)
        (λ same.
        let a : l.value ≡ x = values_eq l.value x same in
        subst (λ z. amount_of sc N.past z ≡ amount_of sc m.past z) (sym a)
        (two_keys sc m.past k q (number_of k) x other belongs (subst (Belongs q) a (value_belongs sc c m q i l s e ties))))
        (λ no. other_made sc m.past (number_of k) x l.value no)

    other_living : (q : Key) → same_key k q ≡ false → (i : ℕ) → living_at N.live (record { key = q; handle = i }) ≡ living_at m.live (record { key = q; handle = i })
    other_living q other i = append_other m.live (record { place = record { key = k; handle = fresh_handle pool }; value = x; made = length m.past + 1 }) (record { key = q; handle = i }) (rw other refl)

    room_then : room_of sc N.past ≤ length N.past + (c.spare - 1)
    room_then = less (room_of sc N.past) (room_of sc m.past) (length m.past) c.spare (room_grows sc m.past (entries.Made (number_of k) x)) room
      where
        less : (z a b n : ℕ) → z ≡ a + 2 * 1 → a + 2 ≤ b + n → z ≤ suc b + (n - 1)
        less z a b n q e = omega arith

    racing_tasks : N.tasks ≡ set_task (receives.mid sc c m t positive inside f g k receipt own task frame no_taken no_claimed s).tasks t (framed (tasked (receives.mid sc c m t positive inside f g k receipt own task frame no_taken no_claimed s) t) (Some (receives.G2 sc c m t positive inside f g k receipt own task frame no_taken no_claimed s)))
    racing_tasks = tasks_given (minted m k x) m t g Spot refl twin_claim

    fresh_holds : receives.Holds sc c m t positive inside f g k receipt own task frame no_taken no_claimed s x2 (c.history ++ entries.Made (number_of k) x ∷ []) (c.spare - 1) N hands.slots counts racing_tasks refl
    fresh_holds = record {
      living = living_then;
      free = free_then;
      used = used_then;
      dues = dues_then;
      rules = ap (λ (a : Kept). a.rules) hands.rest;
      asked = ap (λ (a : Kept). a.asked) hands.rest;
      books = ap (λ (a : Kept). a.ledgers) hands.rest;
      elsewhere_living = other_living;
      elsewhere_pools = λ q other. other_with q k (fewer_free pool) m.pools other;
      elsewhere_dues = other_dues;
      ledgers = λ u. refl;
      history = ap (λ xs. xs ++ entries.Made (number_of k) x ∷ []) s.history ∙ sym (one_behind (entries.Made (number_of k) x) m.past);
      phases = refl;
      room = room_then;
    }

    pub fresh_stands : StandsFor sc (gave_fresh c t f k receipt x2 x) (made_at m t g k x (handle_of m.live k x))
    fresh_stands = subst (λ o. StandsFor sc (gave_fresh c t f k receipt x2 x) (made_at m t g k x o)) (sym missing)
        (subst (λ j. StandsFor sc (gave_fresh c t f k receipt x2 x) (given_receipt (minted m k x) t g (record { key = k; handle = j }))) (sym fresh_now)
        (receives.received sc c m t positive inside f g k receipt own task frame no_taken no_claimed s x2 (c.history ++ entries.Made (number_of k) x ∷ []) (c.spare - 1) N hands.slots counts racing_tasks refl fresh_holds))
