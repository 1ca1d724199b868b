-- A legal history has room.
use Rattle.std.proofs.Common.{◌≡◌, ℕ, suc, ◌+◌, ◌*◌, ◌≤◌, Bool, List, [], ◌∷◌, refl, true, false, arith, ap, length, length-append, Some, None, Option}
use Rattle.std.specs.Prelude.{if◌then◌else◌, ◌==◌, ◌-◌}
use Rattle.std.specs.List.{sum_by}
use Rattle.vch_model.specs.declared.entry.Entry.{Entry}
use Rattle.vch_model.specs.declared.entry.Entry.TheVariants as entries
use Rattle.vch_model.specs.declared.lists.Scenario.{Scenario}
use Rattle.vch_model.specs.Legal.{LegalPast, CanFollow, IsUnheld, find_made}
use Rattle.vch_model.specs.Lines.{phases_in, line_at}
use Rattle.vch_model.specs.Store.{Store, Named, Member, Message, Alive, nobody, member, with_name}
use Rattle.vch_model.specs.Voucher.{Voucher}
use Rattle.vch_model.specs.After.{store_of, without_made, is_want, lost}
use Rattle.vch_legal.specs.Facts.{bit}
use Rattle.vch_legal.proofs.CallerLemmas.{call_live}
use Rattle.vch_bounds.specs.Owned.{things_in, references_in}
use Rattle.vch_bounds.specs.Rooms.{Counted, is_made, answers_in, made_in, released_in, given_up_in, room_of}
use Rattle.vch_bounds.specs.Sums.{sum_tasks}
use Rattle.vch_bounds.proofs.counts.AnsweredLines.{answers_few}
use Rattle.vch_bounds.proofs.counts.Names.{weight, few_names, few_references, weight_named, weight_less, weight_gone, next_named}
use Rattle.vch_bounds.proofs.counts.Owned.{IsCount, owned_few}
use Rattle.vch_bounds.proofs.lists.TaskSums.{one_of_all, no_more}

each_entry : (past : List Entry) → length past ≡ answers_in past + made_in past + released_in past + given_up_in past + phases_in past
each_entry [] = refl
each_entry (entries.Call t n word reply ∷ past) = let r = each_entry past in omega (arith, r)
each_entry (entries.Made k x ∷ past) = let r = each_entry past in omega (arith, r)
each_entry (entries.Released e ∷ past) = let r = each_entry past in omega (arith, r)
each_entry (entries.Gone t name ∷ past) = let r = each_entry past in omega (arith, r)
each_entry (entries.Lost t ∷ past) = let r = each_entry past in omega (arith, r)
each_entry (entries.Phase ∷ past) = let r = each_entry past in omega (arith, r)

phases_few : (sc : Scenario) (past : List Entry) → LegalPast sc past → phases_in past ≤ length sc.phases
phases_few sc [] h = omega arith
phases_few sc (entries.Call t n word reply ∷ past) h = phases_few sc past h.0
phases_few sc (entries.Made k x ∷ past) h = phases_few sc past h.0
phases_few sc (entries.Released e ∷ past) h = phases_few sc past h.0
phases_few sc (entries.Gone t name ∷ past) h = phases_few sc past h.0
phases_few sc (entries.Lost t ∷ past) h = phases_few sc past h.0
phases_few sc (entries.Phase ∷ past) h = let a = h.1.0 in omega (arith, a)

-- a value that is found is taken out
one_out : (s : Store) (live : List Alive) (e : ℕ) (o : Option Alive) → find_made live e ≡ o → IsUnheld s o
    → suc (length (without_made live e)) ≡ length live
one_out s [] e None g h = absurd h
one_out s [] e (Some l) g h = cc
one_out s (l ∷ live) e o g h = by_test (l.made == e) g (λ k. one_out s live e o k h)
  where
    by_test : (b : Bool) → (if b then Some l else find_made live e) ≡ o
        → (find_made live e ≡ o → suc (length (without_made live e)) ≡ length live)
        → suc (length (if b then live else l ∷ without_made live e)) ≡ suc (length live)
    by_test true g rec = refl
    by_test false g rec = ap suc (rec g)

lost_live : (s : Store) (t : ℕ) (queue : List Message) → (lost s t queue).live ≡ s.live
lost_live s t [] = refl
lost_live s t (q ∷ queue) = refl

all_released : (sc : Scenario) (past : List Entry) → LegalPast sc past
    → released_in past + length (store_of sc past).live ≡ made_in past
all_released sc [] h = refl
all_released sc (entries.Call t n word reply ∷ past) h =
    let r = all_released sc past h.0 in
    let a = ap length (call_live sc (store_of sc past) t (line_at sc t n) (is_want reply)) in
    omega (arith, r, a)
all_released sc (entries.Made k x ∷ past) h =
    let r = all_released sc past h.0 in
    let a = length-append (store_of sc past).live (record { key = k; value = x; made = length past + 1 } ∷ []) in
    omega (arith, r, a)
all_released sc (entries.Released e ∷ past) h =
    let r = all_released sc past h.0 in
    let a = one_out (store_of sc past) (store_of sc past).live e (find_made (store_of sc past).live e) refl h.1 in
    omega (arith, r, a)
all_released sc (entries.Gone t name ∷ past) h = let r = all_released sc past h.0 in omega (arith, r)
all_released sc (entries.Lost t ∷ past) h =
    let r = all_released sc past h.0 in
    let a = ap length (lost_live (store_of sc past) t (member (store_of sc past) t).queue) in
    omega (arith, r, a)
all_released sc (entries.Phase ∷ past) h = let r = all_released sc past h.0 in omega (arith, r)

-- names and messages, each name as much as its user references
abbrev owned : Member → ℕ
owned x = weight x.names + length x.queue

owned_counts : IsCount owned 1
owned_counts = record {
  nobody = refl;
  named = by_name;
  less = λ x name. let a = weight_less x.names name in omega (arith, a);
  gone = λ x name e. let a = weight_gone x.names name e in omega (arith, a);
  queued = λ x q. let a = length-append x.queue (q ∷ []) in omega (arith, a);
  taken = λ x q queue e. let a : length x.queue ≡ suc (length queue) = ap length e in omega (arith, a);
}
  where
    by_name : (x : Member) (v : Voucher) (name : Option ℕ) → owned (with_name x v name) ≤ owned x + 1
    by_name x v None = let a = weight_named x v None in omega (arith, a)
    by_name x v (Some name) = let a = weight_named x v (Some name) in omega (arith, a)

-- names that were given
abbrev names_given : Member → ℕ
names_given x = x.next - 1

given_counts : IsCount names_given 0
given_counts = record {
  nobody = refl;
  named = next_named;
  less = λ x name. omega arith;
  gone = λ x name e. omega arith;
  queued = λ x q. omega arith;
  taken = λ x q queue e. omega arith;
}

pub counted : (sc : Scenario) (past : List Entry) → LegalPast sc past → Counted sc past
counted sc past h =
    let all = owned_few owned 1 owned_counts sc past h in
    record {
      entries = each_entry past;
      answers = answers_few sc past h;
      phases = phases_few sc past h;
      released = all_released sc past h;
      given_up =
          let a : things_in (store_of sc past) ≤ sum_tasks (λ u (x : Member). owned x) 1 (store_of sc past).tasks =
          no_more (λ u (x : Member). length x.names + length x.queue) (λ u x. owned x)
          (λ u x. let b = few_names x.names in omega (arith, b)) (store_of sc past).tasks 1 in
          omega (arith, all, a);
      references =
          let a : references_in (store_of sc past) ≤ sum_tasks (λ u (x : Member). owned x) 1 (store_of sc past).tasks =
          no_more (λ u (x : Member). sum_by (λ (n : Named). n.refs) x.names + length x.queue) (λ u x. owned x)
          (λ u x. let b = few_references x.names in omega (arith, b)) (store_of sc past).tasks 1 in
          omega (arith, all, a);
      nexts = λ t.
          let given = owned_few names_given 0 given_counts sc past h in
          let a : names_given (member (store_of sc past) t) ≤ sum_tasks (λ u (x : Member). names_given x) 1 (store_of sc past).tasks =
          one_of_all (λ u (x : Member). names_given x) (store_of sc past).tasks t nobody refl in
          omega (arith, given, a);
    }

pub within : (sc : Scenario) (past : List Entry) → LegalPast sc past → length past ≤ room_of sc past
within sc past h =
    let c = counted sc past h in omega (arith, c.entries, c.answers, c.phases, c.released, c.given_up)

pub one_more : (sc : Scenario) (past : List Entry) (entry : Entry) → LegalPast sc past
    → CanFollow sc past (store_of sc past) entry → is_made entry ≡ false → length past + 1 ≤ room_of sc past
one_more sc past entry h f e =
    let a : suc (length past) ≤ room_of sc (entry ∷ past) = within sc (entry ∷ past) (h, f) in
    let b : made_in (entry ∷ past) ≡ made_in past = none (is_made entry) e in
    omega (arith, a, b)
  where
    none : (b : Bool) → b ≡ false → (if b then 1 else 0) + made_in past ≡ made_in past
    none true e = cc
    none false e = omega arith

-- what is reserved: two places more before a value is made
pub room_grows : (sc : Scenario) (past : List Entry) (entry : Entry) → room_of sc (entry ∷ past) ≡ room_of sc past + 2 * bit (is_made entry)
room_grows sc past entry = omega arith
