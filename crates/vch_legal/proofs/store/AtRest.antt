-- Where all tasks are at rest: no frame is there, each call of the phase is answered, and each listed value is held.
use Rattle.std.proofs.Common.{◌≡◌, ℕ, zero, suc, ◌+◌, ◌<◌, ◌≤◌, Bool, List, [], ◌∷◌, ◌++◌, refl, true, false, not, ◌&&◌, ◌||◌, arith, sym, ap, ◌∙◌, subst, length, get_or, Some, None, Option}
use Rattle.std.specs.Prelude.{if◌then◌else◌, ◌==◌, nat_lt, is_some}
use Rattle.std.specs.List.{list_any, list_all}
use Rattle.vch_base.specs.declared.key.Key.{Key}
use Rattle.vch_base.specs.declared.key.Key.TheVariants as keys
use Rattle.vch_base.specs.declared.kind.Kind.TheVariants as kinds
use Rattle.vch_base.specs.Keys.{number_of}
use Rattle.vch_base.specs.Values.{Belongs, is_default}
use Rattle.vch_base.specs.declared.value.Value.{Value}
use Rattle.vch_base.specs.declared.value.Value.TheVariants as values
use Rattle.vch_model.specs.declared.call.Call.{Call}
use Rattle.vch_model.specs.declared.call.Call.TheVariants as calls
use Rattle.vch_model.specs.declared.lists.Scenario.{Scenario}
use Rattle.vch_model.specs.Store as store
use Rattle.vch_model.specs.Legal.{EachTask, all_held}
use Rattle.vch_model.specs.Lines.{calls_in, phases_in, is_task, lines_until}
use Rattle.vch_machine.specs.State.{Handles, Place, Living, Named, Claim, Frame, Tasked, Machine, idle, tasked, seen, living_at, handle_of, task_holds, frame_holds, is_empty, default_place, default_living}
use Rattle.vch_machine.specs.Events.{numbers, is_at_rest, all_at_rest}
use Rattle.vch_machine.specs.Leaving.{is_fixed, is_fixed_value}
use Rattle.vch_machine.specs.Next.{nth_call, call_next, unanswered_next, lets_next, unclaimed_next, frame_next}
use Rattle.vch_legal.specs.Facts.{Fits, bit}
use Rattle.vch_legal.specs.Tie.{FrameForms, IsForming, is_answering, is_open, any_frame}
use Rattle.vch_legal.proofs.facts.Choices.{cases_bool, number_eq, and_left, and_right}
use Rattle.vch_legal.proofs.spots.StartFits.{rest_held}
use Rattle.vch_legal.proofs.seen.SeenHeld.{seen_held, vouchers_hold}
use Rattle.vch_legal.proofs.seen.SeenValues.{at_most_once, each_of, all_listed, found_place}
use Rattle.vch_legal.proofs.tasks.OwnSteps.{Before}
use Rattle.vch_legal.proofs.seen.SeenReleased.{key_number}

keys_next : (b : Bool) → is_some (if b then Some kinds.Place else Some kinds.Make) ≡ true
keys_next true = refl
keys_next false = refl

-- a call that is not answered always has an event
call_has_next : (version : ℕ) (names : List Named) (place : ℕ) (ks : List Key) (call : Call)
    → is_some (call_next version names place ks (Some call)) ≡ true
call_has_next version names place ks (calls.Create bytes) = refl
call_has_next version names place ks (calls.GiveUp name) = keys_next (is_empty ks)
call_has_next version names place ks (calls.Extract name key) = keys_next (is_empty ks)
call_has_next version names place ks (calls.Recipes name) = keys_next (is_empty ks)
call_has_next version names place ks (calls.Send to moving name id) = keys_next (is_empty ks)
call_has_next version names place ks calls.Recv = keys_next (is_empty ks)
call_has_next version names place ks (calls.Extern name adding n) = keys_next (is_empty ks)
call_has_next version names place ks (calls.Charge name n) = keys_next (is_empty ks)
call_has_next version names place ks calls.Ledger = keys_next (is_empty ks)
call_has_next version names place ks calls.Assertions = keys_next (is_empty ks)
call_has_next version names place ks calls.Live = keys_next (is_empty ks)
call_has_next version names place ks calls.Exit = refl

-- so has a frame
unanswered_has_next : (sc : Scenario) (live : List Living) (x : store.Member) (t : ℕ) (names : List Named)
    (f : Frame) (v : Option Handles) (call : Option Call) (answered : Bool) → not answered ≡ true
    → FrameForms sc live x t f.at_byte f.keys f.receipt answered v call
    → is_some (unanswered_next sc.version names f call answered) ≡ true
unanswered_has_next sc live x t names f v call true e h = cc
unanswered_has_next sc live x t names f v (Some call) false e h = call_has_next sc.version names f.at_byte f.keys call
unanswered_has_next sc live x t names f (Some v) None false e h = absurd h
unanswered_has_next sc live x t names f None None false e h = let k : None ≡ Some calls.Exit = h in cc

pub frame_has_next : (sc : Scenario) (live : List Living) (x : store.Member) (t begun : ℕ) (names : List Named)
    (f : Frame) → IsForming sc live x t begun (Some f) → is_open f ≡ true
    → is_some (frame_next sc.version names f (nth_call sc t begun) f.receipt) ≡ true
frame_has_next sc live x t begun names f forming h = by_receipt f.receipt h
  where
    by_lets : (lets : List Place) → (not f.answered || not (is_empty lets)) ≡ true
        → is_some (lets_next sc.version names f (nth_call sc t begun) lets) ≡ true
    by_lets (p ∷ rest) h = refl
    by_lets [] h = unanswered_has_next sc live x t names f f.forming (nth_call sc t begun) f.answered
        (no_more (not f.answered) h) forming
      where
        no_more : (a : Bool) → (a || false) ≡ true → a ≡ true
        no_more a h = grind arith

    by_claim : (c : Option Claim) → (not f.answered || (is_some c || not (is_empty f.lets))) ≡ true
        → is_some (unclaimed_next sc.version names f (nth_call sc t begun) c) ≡ true
    by_claim (Some c) h = refl
    by_claim None h = by_lets f.lets h

    by_receipt : (r : Option Place) → (not f.answered || (is_some r || (is_some f.claim || not (is_empty f.lets))))
        ≡ true → is_some (frame_next sc.version names f (nth_call sc t begun) r) ≡ true
    by_receipt (Some q) h = refl
    by_receipt None h = by_claim f.claim h

-- a task at rest
pub record Rests (sc : Scenario) (m : Machine) (t : ℕ) : Type 0 where
  pub frame : (tasked m t).frame ≡ None
  pub begun : nat_lt (tasked m t).begun (lines_until sc (phases_in m.past + 1) t) ≡ false

pub task_rests : (sc : Scenario) (m : Machine) (t : ℕ) → is_at_rest sc (phases_in m.past) t (tasked m t) ≡ true
    → Rests sc m t
task_rests sc m t e = record {
  frame = none (tasked m t).frame (and_left (not (is_some (tasked m t).frame)) _ e);
  begun = not_so _ (and_right (not (is_some (tasked m t).frame)) _ e);
}
  where
    none : (f : Option Frame) → not (is_some f) ≡ true → f ≡ None
    none None h = refl
    none (Some f) h = cc

    not_so : (b : Bool) → not b ≡ true → b ≡ false
    not_so true h = cc
    not_so false h = refl

-- a task that rests has answered all that it had to
pub rest_answered : (sc : Scenario) (m : Machine) (t : ℕ) → Before sc t m → Rests sc m t → calls_in m.past t
    ≡ lines_until sc (phases_in m.past + 1) t
rest_answered sc m t s r =
    let a : (tasked m t).begun ≡ calls_in m.past t + bit false = s.counted
    ∙ ap (λ f. calls_in m.past t + bit (is_answering f)) r.frame in
    let b : (tasked m t).begun ≤ lines_until sc (phases_in m.past + 1) t = s.begun in
    let c : lines_until sc (phases_in m.past + 1) t ≤ (tasked m t).begun = not_below _ _ r.begun in omega arith
  where
    not_below : (a b : ℕ) → nat_lt a b ≡ false → b ≤ a
    not_below a b h = grind arith

-- what holds of the numbers up to one
all_append : (p : ℕ → Bool) (ts us : List ℕ) → list_all p (ts ++ us) ≡ true
    → (list_all p ts ≡ true) × (list_all p us ≡ true)
all_append p [] us e = (refl, e)
all_append p (t ∷ ts) us e =
    let later : (list_all p ts ≡ true) × (list_all p us ≡ true) = all_append p ts us (and_right (p t) _ e) in
    (both (and_left (p t) _ e) later.0, later.1)
  where
    both : {a b : Bool} → a ≡ true → b ≡ true → (a && b) ≡ true
    both g h = rw (g, h) refl

pub numbers_all : (p : ℕ → Bool) (n : ℕ) → list_all p (numbers n) ≡ true → (t : ℕ) → 0 < t → t ≤ n → p t ≡ true
numbers_all p zero e t a b = absurd (omega arith)
numbers_all p (suc n) e t a b =
    cases_bool (t == suc n) (p t ≡ true)
    (λ here. ap p (number_eq t (suc n) here) ∙ and_left (p (suc n)) true (all_append p (numbers n) (suc n ∷ []) e).1)
    (λ other. numbers_all p n (all_append p (numbers n) (suc n ∷ []) e).0 t a (earlier t n b other))
  where
    earlier : (a b : ℕ) → a ≤ suc b → (a == suc b) ≡ false → a ≤ b
    earlier a b h e = grind arith

-- where all are at rest, each task is
pub each_rests : (sc : Scenario) (m : Machine) → all_at_rest sc m ≡ true → (t : ℕ) → 0 < t → t ≤ length sc.flags
    → Rests sc m t
each_rests sc m e t a b = task_rests sc m t (numbers_all (λ u. is_at_rest sc (phases_in m.past) u (tasked m u))
    (length sc.flags) e t a b)

-- a number of a task
pub task_of : (sc : Scenario) (t : ℕ) → 0 < t → t ≤ length sc.flags → is_task sc t ≡ true
task_of sc t a b = by_numbers t (length sc.flags) a b
  where
    by_numbers : (t n : ℕ) → 0 < t → t ≤ n → (nat_lt 0 t && nat_lt t (n + 1)) ≡ true
    by_numbers t n a b = grind arith

-- where all tasks rest, no frame is there
pub none_frame : (xs : List Tasked) → ((i : ℕ) → i < length xs → (get_or xs i idle).frame ≡ None) → any_frame xs
    ≡ false
none_frame [] h = refl
none_frame (x ∷ xs) h = both (ap is_some (h 0 (omega arith))) (none_frame xs (λ i l. h (suc i) (omega arith)))
  where
    both : {a b : Bool} → a ≡ false → b ≡ false → (a || b) ≡ false
    both e g = rw (e, g) refl

pub each_task : (n : ℕ) (P : ℕ → Type 0) → ((t : ℕ) → 0 < t → t ≤ n → P t) → EachTask n P
each_task zero P h = tt
each_task (suc n) P h = (each_task n P (λ t a b. h t a (omega arith)), h (suc n) (omega arith) (omega arith))

-- Default stands at its own place alone
default_at : (sc : Scenario) (m : Machine) (p : Place) (a : Living) → Fits sc m → living_at m.live p ≡ Some a
    → is_default a.value ≡ true → a.made ≡ 0
default_at sc m p a f e d = by_value p.key a.value refl refl (f.values p a e).belongs d
  where
    some_eq : {A : Type 0} {x y : A} → Some x ≡ Some y → x ≡ y
    some_eq h = cc

    at : Key → ℕ → Place
    at k i = record { key = k; handle = i }

    place_eq : p.key ≡ keys.Bank → p.handle ≡ 0 → p ≡ default_place
    place_eq g h = ap (λ (k : Key). at k p.handle) g ∙ ap (at keys.Bank) h

    by_value : (k : Key) (x : Value) → p.key ≡ k → a.value ≡ x → Belongs p.key a.value → is_default a.value ≡ true
        → a.made ≡ 0
    by_value keys.Bank values.Default g h b d =
        let one : handle_of m.live p.key a.value ≡ Some p.handle = f.different p a e in
        let two : handle_of m.live keys.Bank values.Default ≡ Some 0 = f.different default_place default_living
        f.default_live in
        let three : handle_of m.live keys.Bank values.Default ≡ Some p.handle = ap
        (λ k. handle_of m.live k values.Default) (sym g) ∙ (ap (handle_of m.live p.key) (sym h) ∙ one) in
        let four : p.handle ≡ 0 = some_eq (sym three ∙ two) in
        let five : p ≡ default_place = place_eq g four in
        let six : living_at m.live p ≡ Some default_living = subst
        (λ (q : Place). living_at m.live q ≡ Some default_living) (sym five) f.default_live in
        ap (λ (l : Living). l.made) (some_eq (sym e ∙ six))
    by_value keys.Importance values.Default g h b d = absurd
        (subst (λ (k : Key). Belongs k values.Default) g (subst (Belongs p.key) h b))
    by_value keys.Test values.Default g h b d = absurd
        (subst (λ (k : Key). Belongs k values.Default) g (subst (Belongs p.key) h b))
    by_value keys.User values.Default g h b d = absurd
        (subst (λ (k : Key). Belongs k values.Default) g (subst (Belongs p.key) h b))
    by_value k (values.User bytes) g h b d = let i : is_default a.value ≡ false = ap is_default h in cc
    by_value k (values.Chain list) g h b d = let i : is_default a.value ≡ false = ap is_default h in cc
    by_value k (values.Task t) g h b d = let i : is_default a.value ≡ false = ap is_default h in cc
    by_value k (values.Account holder merchant) g h b d = let i : is_default a.value ≡ false = ap is_default h in cc

not_default : (sc : Scenario) (m : Machine) (p : Place) (a : Living) → Fits sc m → living_at m.live p ≡ Some a
    → nat_lt 0 a.made ≡ true → is_fixed m p ≡ false
not_default sc m p a f e h = ap is_fixed_value e ∙ by_test (is_default a.value) refl
  where
    by_test : (b : Bool) → is_default a.value ≡ b → is_default a.value ≡ false
    by_test true g = let k : a.made ≡ 0 = default_at sc m p a f e g in let n : nat_lt 0 a.made
        ≡ false = ap (nat_lt 0) k in cc
    by_test false g = g

-- without frames, held is held by names and messages
held_plainly : (p : Place) (xs : List Tasked) → any_frame xs ≡ false → list_any (task_holds p) xs ≡ true
    → list_any (vouchers_hold p) xs ≡ true
held_plainly p [] n h = h
held_plainly p (x ∷ xs) n h =
    by_frame x.frame (left (is_some x.frame) (any_frame xs) n) _ _ h
    (held_plainly p xs (right (is_some x.frame) (any_frame xs) n))
  where
    left : (a b : Bool) → (a || b) ≡ false → a ≡ false
    left a b e = grind arith

    right : (a b : Bool) → (a || b) ≡ false → b ≡ false
    right a b e = grind arith

    join : (a b c d : Bool) → ((a || (b || false)) || c) ≡ true → (c ≡ true → d ≡ true) → ((a || b) || d) ≡ true
    join a b true d h f = let k : d ≡ true = f refl in grind arith
    join a b false d h f = grind arith

    by_frame : (f : Option Frame) → is_some f ≡ false → (a b : Bool)
        → ((a || (b || frame_holds f p)) || list_any (task_holds p) xs) ≡ true
        → (list_any (task_holds p) xs ≡ true → list_any (vouchers_hold p) xs ≡ true)
        → ((a || b) || list_any (vouchers_hold p) xs) ≡ true
    by_frame None e a b h i = join a b _ _ h i
    by_frame (Some f) e a b h i = cc

-- where no frame is, each listed value is held in the store
pub rest_all_held : (sc : Scenario) (m : Machine) → Fits sc m → any_frame m.tasks ≡ false → all_held (seen m) ≡ true
rest_all_held sc m f none =
    all_listed (λ l. store.is_held (seen m) l.key l.value) m.live
    (each_of _ m.live (at_most_once m f.each_once) (λ p a e. held p a e))
  where
    held : (p : Place) (a : Living) → living_at m.live p ≡ Some a → nat_lt 0 a.made ≡ true
        → store.is_held (seen m) (number_of a.place.key) a.value ≡ true
    held p a e h =
        subst (λ (q : Place). store.is_held (seen m) (number_of q.key) a.value ≡ true) (sym (found_place m.live p a e))
        (ap (λ k. store.is_held_by (seen m) k a.value) (key_number p.key)
        ∙ (seen_held m p.key p.handle a f.different e ∙ held_plainly p m.tasks none
        (rest_held m p f.spots none (ap is_some e) (not_default sc m p a f e h))))
