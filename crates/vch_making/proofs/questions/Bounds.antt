-- What bounds the values, the receipts and the history, and the room that a fresh value needs.
use Rattle.std.proofs.Common.{◌≡◌, ℕ, suc, ◌+◌, ◌*◌, ◌<◌, ◌≤◌, ◌==◌, Bool, true, false, cond, List, [], ◌∷◌, arith, sym, ap, ◌∙◌, length, take, subst, Option, Some, None}
use Rattle.std.specs.Prelude.{◌^◌, replicate, Result, Ok, Err, OnOk}
use Rattle.vch_model.specs.Rows.{Entries}
use Rattle.std.specs.List.{count_by}
use Rattle.std.proofs.lemmas.List.{length-replicate}
use Rattle.std.proofs.lemmas.List.Sums.{count_by-le-length}
use Rattle.vch_base.specs.Slots.{is_taken}
use Rattle.vch_base.specs.declared.key.Key.{Key}
use Rattle.vch_base.specs.declared.key.Key.TheVariants as keys
use Rattle.vch_base.specs.declared.places.Live.{Live}
use Rattle.vch_base.specs.Keyed.{Keyed, of_key, with_key}
use Rattle.vch_base.specs.Managers.{Kept, Knows, no_flags, MadeBelow, live_at, made_of}
use Rattle.vch_entry.specs.declared.table.Entry.{Entry}
use Rattle.vch_entry.specs.Entries as entry
use Rattle.vch_entry.specs.Entries.{entry_at}
use Rattle.vch_value.specs.Flight.{Receipt}
use Rattle.vch_value.specs.Picture.{Picture, Claimed, IsCounted, agreed_in, flags_at, claims_at, entry_of}
use Rattle.vch_model.specs.Lines.{is_task}
use Rattle.vch_model.specs.Scenarios.{line_count}
use Rattle.vch_model.specs.After.{store_of}
use Rattle.vch_model.specs.Store as store
use Rattle.vch_machine.specs.State.{Machine, seen}
use Rattle.vch_legal.specs.Tie.{Ties}
use Rattle.vch_bounds.specs.Rooms.{room_of}
use Rattle.vch_bounds.proofs.CallerLemmas.{counted}
use Rattle.vch_values.specs.Parts.{KeyParts, live_in, rules_at}
use Rattle.vch_frame.proofs.CallerLemmas.{task_number}
use Rattle.vch_values.proofs.CallerLemmas.{over_keys}
use Rattle.vch_replies.proofs.CallerLemmas.{values_live}
use Rattle.vch_parts.specs.declared.parts.Parts.{Parts}
use Rattle.vch_parts.specs.Pictures.{picture_of}
use Rattle.vch_parts.specs.Reached.{plain_of, parts_in, Reached, Stands}
use Rattle.vch_parts.specs.Stands.{StandsFor}
use Rattle.vch_parts.proofs.CallerLemmas.{numbers_of, each_key, other_with, parts_range}
use Rattle.vch_moves.proofs.CallerLemmas.{stands_of, ties_of}
use Rattle.vch_making.specs.Answers.{receipts_in, HasRoom}
use Rattle.vch_making.proofs.questions.Flights.{parts_receipts, expected_few}

-- The made counts.

made_within : (slots : List (Option Entry)) (n h : ℕ) → ((i : ℕ) → entry.made_of (entry_at slots i) ≤ n) → entry.made_of (entry_of slots h) ≤ n
made_within [] n h low = omega arith
made_within (None ∷ slots) n h low = made_within slots n h (λ i. low (suc i))
made_within (Some e ∷ slots) n h low = by (e.handle == h) (made_within slots n h (λ i. low (suc i)))
  where
    by : (b : Bool) → entry.made_of (entry_of slots h) ≤ n → entry.made_of (cond b (Some e) (entry_of slots h)) ≤ n
    by true next = low 0
    by false next = next

flags_within : (h : ℕ) (rs : List Receipt) → length (flags_at h rs) ≤ length rs
flags_within h [] = omega arith
flags_within h (r ∷ rs) = by (r.handle == h) (flags_within h rs)
  where
    by : (b : Bool) → length (flags_at h rs) ≤ length rs → length (cond b (r.persist ∷ flags_at h rs) (flags_at h rs)) ≤ suc (length rs)
    by true l = omega (arith, l)
    by false l = omega (arith, l)

count_within : (l : Option Live) (e : Option Entry) (flags : List Bool) (cs : List Claimed) → IsCounted l e flags cs → made_of l ≤ entry.made_of e + length flags
count_within None e flags cs c = omega arith
count_within (Some l) e flags cs c = let q : l.made + agreed_in cs ≡ entry.made_of e + length flags = c in omega (arith, q)

live_small : (x : Keyed KeyParts) → ((k : Key) → length (of_key k x).kept.slots ≤ 1342177281) → live_in x ≤ 5368709124
live_small x few =
    let s = over_keys (λ k. count_by is_taken (of_key k x).kept.slots) in
    let a : count_by is_taken x.importance.kept.slots ≤ length x.importance.kept.slots = count_by-le-length is_taken x.importance.kept.slots in
    let b : count_by is_taken x.bank.kept.slots ≤ length x.bank.kept.slots = count_by-le-length is_taken x.bank.kept.slots in
    let c : count_by is_taken x.user.kept.slots ≤ length x.user.kept.slots = count_by-le-length is_taken x.user.kept.slots in
    let d : count_by is_taken x.test.kept.slots ≤ length x.test.kept.slots = count_by-le-length is_taken x.test.kept.slots in
    let fa : length x.importance.kept.slots ≤ 1342177281 = few keys.Importance in
    let fb : length x.bank.kept.slots ≤ 1342177281 = few keys.Bank in
    let fc : length x.user.kept.slots ≤ 1342177281 = few keys.User in
    let fd : length x.test.kept.slots ≤ 1342177281 = few keys.Test in
    omega (arith, s, a, b, c, d, fa, fb, fc, fd)

-- the sums of the room that is made fit their types
pub room_fits : (a b d calls phases live : ℕ) → a ≡ calls → b ≡ phases → d ≡ live → calls ≤ 1048576 → phases ≤ 1024 → live ≤ 5368709124
    → (2 * a + b + d < 18446744073709551616) × (2 * a + b + d + 2 < 18446744073709551616)
room_fits a b d calls phases live x y z l m n = (omega arith, omega arith)

module _ (p : Parts) (r : Reached p) where
  pub slots_few : (k : Key) → length (of_key k p.values).kept.slots ≤ 1342177281
  slots_few k = numbers_of p _ r (λ m s ties n. let a : length (of_key k p.values).kept.slots ≡ (of_key k m.pools).used = (s.keyed k).used in let b = n.used k in omega (arith, a, b))

  pub live_few : live_in p.values ≤ 5368709124
  live_few = live_small p.values slots_few

  pub calls_few : line_count p.scenario.phases ≤ 1048576
  calls_few = r.limited.calls

  pub phases_few : length p.scenario.phases ≤ 1024
  phases_few = r.limited.phases

  pub tasks_few : length p.scenario.flags ≤ 64
  tasks_few = r.limited.tasks

  long_is : (m : Machine) → StandsFor p.scenario (plain_of p) m → Ties p.scenario m → length (parts_in p.vouchers p.frames) ≡ length p.scenario.flags
  long_is m s ties = s.shape.long ∙ ties.fits.tasks

  pub tasks_there : length p.scenario.flags ≤ length p.frames
  tasks_there = numbers_of p _ r (λ m s ties n. let a = long_is m s ties in let b = parts_range p.vouchers p.frames in omega (arith, a, b))

  -- the receipts of a key in flight
  pub flights_are : (k : Key) (m : Machine) → StandsFor p.scenario (plain_of p) m → Ties p.scenario m → length (picture_of k (plain_of p) m).receipts ≡ length (receipts_in k (take (length p.scenario.flags) p.frames))
  flights_are k m s ties = ap length (parts_receipts k p.vouchers p.frames) ∙ ap (λ n. length (receipts_in k (take n p.frames))) (long_is m s ties)

  in_flight : (k : Key) (m : Machine) → StandsFor p.scenario (plain_of p) m → Ties p.scenario m → length (picture_of k (plain_of p) m).receipts ≤ 64
  in_flight k m s ties =
      let a : length (picture_of k (plain_of p) m).receipts ≤ length (parts_in p.vouchers p.frames) = expected_few k (parts_in p.vouchers p.frames) in
      let b = long_is m s ties in
      let d = tasks_few in
      omega (arith, a, b, d)

  pub flying_few : (k : Key) → length (receipts_in k (take (length p.scenario.flags) p.frames)) ≤ 64
  flying_few k = numbers_of p _ r (λ m s ties n. let a = flights_are k m s ties in let b = in_flight k m s ties in omega (arith, a, b))

  pub counts_few : (k : Key) → MadeBelow (2 ^ 63) (of_key k p.values).kept.slots
  counts_few k h = numbers_of p _ r (λ m s ties n.
      let x : Picture = picture_of k (plain_of p) m in
      let a : made_of (live_at (of_key k p.values).kept.slots h) ≤ entry.made_of (entry_of (of_key k p.values).entries.slots h) + length (flags_at h x.receipts) =
      count_within (live_at (of_key k p.values).kept.slots h) (entry_of (of_key k p.values).entries.slots h) (flags_at h x.receipts) (claims_at h x.claims) ((s.keyed k).counts.at h).counted in
      let b : entry.made_of (entry_of (of_key k p.values).entries.slots h) ≤ m.tally.refers = made_within (of_key k p.values).entries.slots m.tally.refers h (s.keyed k).made in
      let d : length (flags_at h x.receipts) ≤ length x.receipts = flags_within h x.receipts in
      let e : length x.receipts ≤ 64 = in_flight k m s ties in
      let f : m.tally.refers ≤ 1342177280 = n.refers in
      small (made_of (live_at (of_key k p.values).kept.slots h)) (omega (arith, a, b, d, e, f)))
    where
      small : (n : ℕ) → n ≤ 1342177344 → n < 2 ^ 63
      small n l = omega arith

-- the room that is made is enough
pub room_then : (p : Parts) (t : ℕ) → is_task p.scenario t ≡ true → (spare : ℕ) → 2 * line_count p.scenario.phases + length p.scenario.phases + live_in p.values + 2 ≤ spare
    → (m : Machine) → Stands p m → room_of p.scenario m.past + 2 ≤ length m.past + spare
room_then p t task spare room m st =
    let s : StandsFor p.scenario (plain_of p) m = stands_of p.scenario (plain_of p) m st in
    let ties : Ties p.scenario m = ties_of p.scenario (plain_of p) m st in
    let n = counted p.scenario m.past ties.legal in
    let a = n.entries in
    let b = n.released in
    let d : 1 + length (seen m).live ≡ live_in p.values = values_live p.scenario (plain_of p) m t (record { stands = s; ties = ties; task = task }) in
    let e : length (seen m).live ≡ length (store_of p.scenario m.past).live = ap (λ (x : store.Store). length x.live) ties.same_store in
    omega (arith, a, b, d, e, room)

-- the live values are as many where each manager stays
live_same : (k : Key) (x y : Keyed KeyParts) → x ≡ with_key k (of_key k x) y → (of_key k x).kept ≡ (of_key k y).kept → live_in x ≡ live_in y
live_same k x y others kept =
    let here : (q : Key) → count_by is_taken (of_key q x).kept.slots ≡ count_by is_taken (of_key q y).kept.slots =
    each_key (λ q. count_by is_taken (of_key q x).kept.slots ≡ count_by is_taken (of_key q y).kept.slots) k
    (ap (λ (a : Kept). count_by is_taken a.slots) kept)
    (λ q other. ap (λ (z : Keyed KeyParts). count_by is_taken (of_key q z).kept.slots) others ∙ ap (λ (z : KeyParts). count_by is_taken z.kept.slots) (other_with q k (of_key k x) y other)) in
    over_keys (λ k. count_by is_taken (of_key k x).kept.slots)
    ∙ four _ _ _ _ _ _ _ _ (here keys.Importance) (here keys.Bank) (here keys.User) (here keys.Test)
    ∙ sym (over_keys (λ k. count_by is_taken (of_key k y).kept.slots))
  where
    four : (a b d e a2 b2 d2 e2 : ℕ) → a ≡ a2 → b ≡ b2 → d ≡ d2 → e ≡ e2 → a + b + d + e ≡ a2 + b2 + d2 + e2
    four a b d e a2 b2 d2 e2 p q r s = omega (arith, p, q, r, s)

pub on_ok : {A B : Type 0} (r : Result A B) (P Q : Type 0) → (P → Q) → OnOk r P → OnOk r Q
on_ok (Ok a) P Q f x = f x
on_ok (Err e) P Q f x = tt

pub room_made : (p : Parts) (t : ℕ) (k : Key) → is_task p.scenario t ≡ true → (x : Keyed KeyParts) (h2 : Entries) → x ≡ with_key k (of_key k x) p.values → (of_key k x).kept ≡ (of_key k p.values).kept
    → 2 * line_count p.scenario.phases + length p.scenario.phases + live_in p.values + 2 ≤ h2.spare → length (of_key k p.values).kept.slots < length (of_key k x).numbers
    → HasRoom k (record p { values = x; history = h2 })
room_made p t k task x h2 others kept room numbers = record {
  entries = λ m st. room_then (record p { values = x; history = h2 }) t task h2.spare (subst (λ n. 2 * line_count p.scenario.phases + length p.scenario.phases + n + 2 ≤ h2.spare) (sym (live_same k x p.values others kept)) room) m st;
  numbers = rw kept numbers;
}

-- each manager knows each task
pub knows_task : (p : Parts) (t : ℕ) (k : Key) → Reached p → is_task p.scenario t ≡ true → Knows (of_key k p.values).kept.rules t
knows_task p t k r task = numbers_of p _ r (λ m s ties n. subst (λ rules. Knows rules t) (sym (s.keyed k).rules) (by k))
  where
    number : (0 < t) × (t ≤ length p.scenario.flags)
    number = let n = task_number p.scenario t task in (n.0, omega (arith, n.0, n.1))

    by : (k : Key) → Knows (rules_at k p.scenario.flags) t
    by keys.Importance = number
    by keys.Bank = let e : length (replicate (length p.scenario.flags) no_flags) ≡ length p.scenario.flags = length-replicate (length p.scenario.flags) no_flags in (number.0, omega (arith, e, number.1))
    by keys.User = tt
    by keys.Test = tt
