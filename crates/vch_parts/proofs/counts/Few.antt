-- No count passes its type: bounds of what the parts count.
use Rattle.std.proofs.Common.{◌≡◌, ℕ, suc, ◌+◌, ◌*◌, ◌<◌, ◌≤◌, Bool, true, false, cond, List, [], ◌∷◌, ◌++◌, arith, sym, length, map, get_or, subst, Option, Some, None, length-append}
use Rattle.std.specs.Prelude.{◌^◌}
use Rattle.std.specs.List.{flat_map, list_any}
use Rattle.std.proofs.lemmas.List.{length-map}
use Rattle.std.proofs.lemmas.List.Sums.{count_by-le-length}
use Rattle.vch_base.specs.declared.key.Key.{Key}
use Rattle.vch_base.specs.Keys.{same_key}
use Rattle.vch_base.specs.Keyed.{of_key}
use Rattle.vch_base.specs.Managers.{count}
use Rattle.vch_values.proofs.CallerLemmas.{every, over_keys}
use Rattle.vch_bounds.specs.Bounded.{Limited}
use Rattle.vch_bounds.specs.Owned.{things_in}
use Rattle.vch_bounds.specs.Sums.{sum_tasks}
use Rattle.vch_bounds.proofs.CallerLemmas.{counted}
use Rattle.vch_model.specs.Store as store
use Rattle.vch_model.specs.declared.lists.Scenario.{Scenario}
use Rattle.vch_machine.specs.Naming.{same_handles}
use Rattle.vch_machine.specs.State as machine
use Rattle.vch_machine.specs.State.{Handles, Place, Living, Machine, Tasked, idle, tasked, member_of, named_of, message_of, seen}
use Rattle.vch_legal.specs.Facts.{OptionFits}
use Rattle.vch_legal.specs.Tie.{Ties}
use Rattle.vch_frame.specs.Indices.{listed}
use Rattle.vch_parts.specs.declared.parts.Parts.{Parts}
use Rattle.vch_parts.specs.Plain.{Plain}
use Rattle.vch_parts.specs.Pictures.{picture_of, option_handles, task_vouchers, different, known_vouchers, voucher_holds, let_holds, forming_holds, frame_holds, task_holds}
use Rattle.vch_parts.specs.Reached.{Reached}
use Rattle.vch_parts.proofs.framing.OfParts.{numbers_of}

-- The tally.

pub claims_few : (p : Parts) → Reached p → p.tally.claims < 2 ^ 63
claims_few p r = numbers_of p _ r (λ m s ties n. few p.tally.claims m.tally.claims m.tally.refers s.tally.claims n.claims)
  where
    few : (a b c : ℕ) → a ≡ b → b + c ≤ 2696937472 → a < 2 ^ 63
    few a b c e l = omega (arith, e, l)

below : (a b : ℕ) → a ≡ b → b ≤ 1342177280 → a < 2 ^ 63
below a b e l = omega (arith, e, l)

pub refers_few : (p : Parts) → Reached p → p.tally.refers < 2 ^ 63
refers_few p r = numbers_of p _ r (λ m s ties n. below p.tally.refers m.tally.refers s.tally.refers n.refers)

pub asks_few : (p : Parts) → Reached p → p.tally.asks < 2 ^ 63
asks_few p r = numbers_of p _ r (λ m s ties n. below p.tally.asks m.tally.asks s.tally.asks n.asks)

pub asked_few : (p : Parts) (k : Key) → Reached p → (of_key k p.values).kept.asked < 2 ^ 63
asked_few p k r = numbers_of p _ r (λ m s ties n.
    let a = over_keys (λ k. (of_key k p.values).kept.asked) in
    let b = asks_few p r in
    every (λ k. (of_key k p.values).kept.asked < 2 ^ 63) (omega (arith, a, b, s.asked)) (omega (arith, a, b, s.asked)) (omega (arith, a, b, s.asked)) (omega (arith, a, b, s.asked)) k)

-- The holders of a handle: nine for each frame at most, and one for each different voucher.

one_listed : (o : Option ℕ) → length (listed o) ≤ 1
one_listed None = omega arith
one_listed (Some h) = omega arith

lets_few : (k : Key) (ps : List Place) → length (flat_map (let_holds k) ps) ≤ length ps
lets_few k [] = omega arith
lets_few k (p ∷ ps) = by (same_key p.key k) (lets_few k ps)
  where
    by : (b : Bool) → length (flat_map (let_holds k) ps) ≤ length ps → length (cond b (p.handle ∷ []) [] ++ flat_map (let_holds k) ps) ≤ suc (length ps)
    by true l = omega (arith, l)
    by false l = omega (arith, l)

frame_few : (k : Key) (o : Option machine.Frame) → OptionFits o → length (frame_holds k o) ≤ 9
frame_few k None fits = omega arith
frame_few k (Some f) fits =
    let a : length (forming_holds k f.forming ++ flat_map (let_holds k) f.lets) ≡ length (forming_holds k f.forming) + length (flat_map (let_holds k) f.lets) = length-append (forming_holds k f.forming) (flat_map (let_holds k) f.lets) in
    let b : length (forming_holds k f.forming) ≤ 1 = forming f.forming in
    let d : length (flat_map (let_holds k) f.lets) ≤ length f.lets = lets_few k f.lets in
    omega (arith, a, b, d, fits.few)
  where
    forming : (o : Option Handles) → length (forming_holds k o) ≤ 1
    forming None = omega arith
    forming (Some v) = one_listed (of_key k v)

tasks_few : (k : Key) (xs : List Tasked) → ((i : ℕ) → OptionFits (get_or xs i idle).frame) → length (flat_map (task_holds k) xs) ≤ 9 * length xs
tasks_few k [] fits = omega arith
tasks_few k (x ∷ xs) fits =
    let a : length (task_holds k x ++ flat_map (task_holds k) xs) ≡ length (task_holds k x) + length (flat_map (task_holds k) xs) = length-append (task_holds k x) (flat_map (task_holds k) xs) in
    let b : length (task_holds k x) ≤ 9 = frame_few k x.frame (fits 0) in
    let d : length (flat_map (task_holds k) xs) ≤ 9 * length xs = tasks_few k xs (λ i. fits (suc i)) in
    omega (arith, a, b, d)

vouchers_few : (k : Key) (vs : List Handles) → length (flat_map (voucher_holds k) vs) ≤ length vs
vouchers_few k [] = omega arith
vouchers_few k (v ∷ vs) =
    let a : length (voucher_holds k v ++ flat_map (voucher_holds k) vs) ≡ length (voucher_holds k v) + length (flat_map (voucher_holds k) vs) = length-append (voucher_holds k v) (flat_map (voucher_holds k) vs) in
    let b : length (voucher_holds k v) ≤ 1 = one_listed (of_key k v) in
    let d : length (flat_map (voucher_holds k) vs) ≤ length vs = vouchers_few k vs in
    omega (arith, a, b, d)

different_few : (vs : List Handles) → length (different vs) ≤ length vs
different_few [] = omega arith
different_few (v ∷ vs) = by (list_any (same_handles v) vs) (different_few vs)
  where
    by : (b : Bool) → length (different vs) ≤ length vs → length (cond b (different vs) (v ∷ different vs)) ≤ suc (length vs)
    by true l = omega (arith, l)
    by false l = omega (arith, l)

-- names and messages, as many as in the store
queue_few : (qs : List machine.Message) → length (flat_map (λ (q : machine.Message). option_handles q.voucher) qs) ≤ length qs
queue_few [] = omega arith
queue_few (q ∷ qs) = by q.voucher (queue_few qs)
  where
    by : (o : Option Handles) → length (flat_map (λ (q : machine.Message). option_handles q.voucher) qs) ≤ length qs → length (option_handles o ++ flat_map (λ (q : machine.Message). option_handles q.voucher) qs) ≤ suc (length qs)
    by None l = omega (arith, l)
    by (Some v) l = omega (arith, l)

owned_few : (live : List Living) (t : ℕ) (xs : List Tasked) → length (flat_map task_vouchers xs) ≤ sum_tasks (λ t (x : store.Member). length x.names + length x.queue) t (map (member_of live) xs)
owned_few live t [] = omega arith
owned_few live t (x ∷ xs) =
    let a : length (task_vouchers x ++ flat_map task_vouchers xs) ≡ length (task_vouchers x) + length (flat_map task_vouchers xs) = length-append (task_vouchers x) (flat_map task_vouchers xs) in
    let b : length (task_vouchers x) ≡ length (map (λ (n : machine.Named). n.voucher) x.names) + length (flat_map (λ (q : machine.Message). option_handles q.voucher) x.queue) = length-append (map (λ (n : machine.Named). n.voucher) x.names) (flat_map (λ (q : machine.Message). option_handles q.voucher) x.queue) in
    let d : length (map (λ (n : machine.Named). n.voucher) x.names) ≡ length x.names = length-map x.names (λ (n : machine.Named). n.voucher) in
    let e : length (flat_map (λ (q : machine.Message). option_handles q.voucher) x.queue) ≤ length x.queue = queue_few x.queue in
    let f : length (map (named_of live) x.names) ≡ length x.names = length-map x.names (named_of live) in
    let g : length (map (message_of live) x.queue) ≡ length x.queue = length-map x.queue (message_of live) in
    let r : length (flat_map task_vouchers xs) ≤ sum_tasks (λ t (x : store.Member). length x.names + length x.queue) (t + 1) (map (member_of live) xs) = owned_few live (t + 1) xs in
    omega (arith, a, b, d, e, f, g, r)

pub holders_few : (sc : Scenario) (c : Plain) (m : Machine) (k : Key) (h : ℕ) → Limited sc → Ties sc m → count h (picture_of k c m).holders ≤ 1049152
holders_few sc c m k h limited ties =
    let a : count h (picture_of k c m).holders ≤ length (picture_of k c m).holders = count_by-le-length _ (picture_of k c m).holders in
    let b : length (picture_of k c m).holders ≡ length (flat_map (task_holds k) m.tasks) + length (flat_map (voucher_holds k) (known_vouchers m.tasks)) = length-append (flat_map (task_holds k) m.tasks) (flat_map (voucher_holds k) (known_vouchers m.tasks)) in
    let d : length (flat_map (task_holds k) m.tasks) ≤ 9 * length m.tasks = tasks_few k m.tasks (λ i. ties.fits.frames (suc i)) in
    let e : length (flat_map (voucher_holds k) (known_vouchers m.tasks)) ≤ length (known_vouchers m.tasks) = vouchers_few k (known_vouchers m.tasks) in
    let f : length (known_vouchers m.tasks) ≤ length (flat_map task_vouchers m.tasks) = different_few (flat_map task_vouchers m.tasks) in
    let g : length (flat_map task_vouchers m.tasks) ≤ things_in (seen m) = owned_few m.live 1 m.tasks in
    let n = counted sc m.past ties.legal in
    let i : things_in (seen m) ≤ 1048576 = subst (λ s. things_in s ≤ 1048576) (sym ties.same_store) (let x = n.given_up in let y = n.answers in omega (arith, x, y, limited.calls)) in
    omega (arith, a, b, d, e, f, g, i, ties.fits.tasks, limited.tasks)
