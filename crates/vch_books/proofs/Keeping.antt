-- What the books keep, at the start and from what they have.
use Rattle.std.proofs.Common.{◌≡◌, ℕ, suc, ◌+◌, ◌<◌, ◌≤◌, List, [], ◌∷◌, refl, true, arith, ap, sym, ◌∙◌, subst, length, map, replicate, take, Some, None, Option, nat_lt, ◌&&◌}
use Rattle.std.proofs.lemmas.Grind.{common_steps}
use Rattle.std.proofs.lemmas.List.{length-replicate, length-reverse, length-map, length-take-le}
use Rattle.std.specs.List.{AllByRecursion}
use Rattle.vch_base.specs.Tasks.{at_task}
use Rattle.vch_model.specs.declared.call.Call.{Call}
use Rattle.vch_model.specs.declared.entry.Entry.{Entry}
use Rattle.vch_model.specs.Store as store
use Rattle.vch_model.specs.Store.{Store, nobody, is_empty, gives_name}
use Rattle.vch_model.specs.After.{taken_first}
use Rattle.vch_model.specs.Lines.{is_task, current_call}
use Rattle.vch_model.specs.Scenarios.{IsLimited}
use Rattle.vch_model.specs.Totals.{named_voucher}
use Rattle.vch_script.specs.Places.{ArePlaces}
use Rattle.vch_sums.specs.Summed.{IsSummed}
use Rattle.vch_books.specs.declared.rows.Message.{Message}
use Rattle.vch_books.specs.Desks as desks
use Rattle.vch_books.specs.Desks.{Desk, empty_desk, numbers_at, name_with}
use Rattle.vch_books.specs.Numbered.{Stands, OptionStands, option_voucher, option_message, member_of, message_of, named_of, live_of}
use Rattle.vch_books.specs.Audits.{Audit, past_at, store_at, first_of, meant, IsGood}
use Rattle.vch_books.specs.Kept.{Lists, Keeps, DeskStands}
use Rattle.vch_books.specs.Turns.{call_in_phase}
use Rattle.vch_books.proofs.Lists.{all_at, map_replicate, all_replicate}
use Rattle.vch_books.proofs.Members.{member_is, voucher_is, lowest_is, first_is, empty_is, voucher_stands, desk_stands}
use Rattle.vch_books.proofs.CallTurns.{current_found, calls_below, now_current}
use Rattle.vch_books.proofs.Alike.{name_is, name_for_is}
use Rattle.vch_base.proofs.CallerLemmas.{own_item}
use Rattle.vch_books.specs.declared.numbers.Numbers.{Numbers}

begun_none : (n t : ℕ) → (at_task (replicate n empty_desk) t empty_desk).begun ≡ 0
begun_none n t = all_at (λ (d : Desk). d.begun ≡ 0) (replicate n empty_desk) t empty_desk refl (all_replicate (λ (d : Desk). d.begun ≡ 0) n empty_desk refl)

pub keeps_start : (a : Audit) (l : Lists) → IsLimited a.scenario → length a.history < 4294967296 → a.taken ≡ 0
    → l.tasks ≡ replicate (length a.scenario.flags) empty_desk → l.live ≡ [] → l.phases ≡ 0 → ArePlaces a.scenario l.places → IsSummed a.scenario [] l.sums → Keeps a l
keeps_start a l limited short none e f p placed summed =
    subst (λ n. Keeps (record a { taken = n }) l) (sym none)
    (subst (λ (xs : List Desk). Keeps (record a { taken = 0 }) (record l { tasks = xs })) (sym e)
    (subst (λ (ls : List ℕ). Keeps (record a { taken = 0 }) (record l { tasks = replicate (length a.scenario.flags) empty_desk; live = ls })) (sym f)
    (subst (λ n. Keeps (record a { taken = 0 }) (record l { tasks = replicate (length a.scenario.flags) empty_desk; live = []; phases = n })) (sym p) empty)))
  where
    store_with : List store.Member → Store
    store_with xs = record { tasks = xs; live = [] }

    empty : Keeps (record a { taken = 0 }) (record l { tasks = replicate (length a.scenario.flags) empty_desk; live = []; phases = 0 })
    empty = record {
      limited = limited;
      short = short;
      inside = omega arith;
      legal = tt;
      store = ap (λ xs. store_with xs) (sym (map_replicate (member_of a.history) empty_desk nobody a.scenario.flags refl));
      long = length-replicate (length a.scenario.flags) empty_desk;
      made = tt;
      rising = tt;
      apart = λ d e a b. absurd a;
      stands = all_replicate (DeskStands a.history []) (length a.scenario.flags) empty_desk (tt, tt);
      begun = λ t. begun_none (length a.scenario.flags) t;
      ended = refl;
      placed = placed;
      summed = summed;
    }

pub past_long : (a : Audit) → a.taken ≤ length a.history → length (past_at a) ≡ a.taken
past_long a inside = length-reverse (take a.taken a.history) ∙ length-take-le a.taken a.history inside

-- The questions.

pub member_kept : (a : Audit) (l : Lists) → Keeps a l → (t : ℕ) → store.member (store_at a) t ≡ member_of a.history (at_task l.tasks t empty_desk)
member_kept a l k t = ap (λ (s : Store). store.member s t) k.store ∙ member_is a.history l.tasks l.live t

pub live_kept : (a : Audit) (l : Lists) → Keeps a l → (store_at a).live ≡ live_of a.history l.live
live_kept a l k = ap (λ (s : Store). s.live) k.store

pub named_kept : (a : Audit) (l : Lists) → Keeps a l → (t name : ℕ)
    → option_voucher a.history (numbers_at (at_task l.tasks t empty_desk).names name) ≡ named_voucher (store_at a) t name
named_kept a l k t name =
    voucher_is a.history (at_task l.tasks t empty_desk).names name ∙ ap (λ (m : store.Member). store.voucher_of m.names name) (sym (member_kept a l k t))

pub named_good : (a : Audit) (l : Lists) → Keeps a l → (t name : ℕ) → OptionStands a.history (store_at a).live (numbers_at (at_task l.tasks t empty_desk).names name)
named_good a l k t name =
    subst (λ x. OptionStands a.history x (numbers_at (at_task l.tasks t empty_desk).names name)) (sym (live_kept a l k))
    (voucher_stands a.history (live_of a.history l.live) (at_task l.tasks t empty_desk).names name (desk_stands a.history (live_of a.history l.live) l.tasks t k.stands).0)

pub first_kept : (a : Audit) (l : Lists) → Keeps a l → (t : ℕ)
    → option_message a.history (first_of (at_task l.tasks t empty_desk).queue) ≡ first_of (store.member (store_at a) t).queue
first_kept a l k t =
    first_is a.history (at_task l.tasks t empty_desk).queue ∙ ap (λ (m : store.Member). first_of m.queue) (sym (member_kept a l k t))

abbrev pub MessageStands : List Entry → List store.Alive → Option Message → Type 0
MessageStands history live None = Unit {0}
MessageStands history live (Some q) = OptionStands history live q.voucher

pub first_good : (a : Audit) (l : Lists) → Keeps a l → (t : ℕ) → MessageStands a.history (store_at a).live (first_of (at_task l.tasks t empty_desk).queue)
first_good a l k t =
    subst (λ x. MessageStands a.history x (first_of (at_task l.tasks t empty_desk).queue)) (sym (live_kept a l k))
    (of_first (at_task l.tasks t empty_desk).queue (desk_stands a.history (live_of a.history l.live) l.tasks t k.stands).1)
  where
    of_first : (queue : List Message) → AllByRecursion (λ q. OptionStands a.history (live_of a.history l.live) q.voucher) queue → MessageStands a.history (live_of a.history l.live) (first_of queue)
    of_first [] s = tt
    of_first (q ∷ queue) s = s.0

pub lowest_kept : (a : Audit) (l : Lists) → Keeps a l → (t : ℕ) → desks.lowest (at_task l.tasks t empty_desk).names ≡ store.lowest (store.member (store_at a) t).names
lowest_kept a l k t =
    lowest_is a.history (at_task l.tasks t empty_desk).names ∙ ap (λ (m : store.Member). store.lowest m.names) (sym (member_kept a l k t))

pub names_kept : (a : Audit) (l : Lists) → Keeps a l → (t : ℕ) → is_empty (at_task l.tasks t empty_desk).names ≡ is_empty (store.member (store_at a) t).names
names_kept a l k t =
    empty_is (named_of a.history) (at_task l.tasks t empty_desk).names ∙ ap (λ (m : store.Member). is_empty m.names) (sym (member_kept a l k t))

pub queue_kept : (a : Audit) (l : Lists) → Keeps a l → (t : ℕ) → length (at_task l.tasks t empty_desk).queue ≡ length (store.member (store_at a) t).queue
queue_kept a l k t =
    as_long (at_task l.tasks t empty_desk).queue ∙ ap (λ (m : store.Member). length m.queue) (sym (member_kept a l k t))
  where
    as_long : (queue : List Message) → length queue ≡ length (map (message_of a.history) queue)
    as_long [] = refl
    as_long (q ∷ queue) = ap suc (as_long queue)

pub name_kept : (a : Audit) (l : Lists) → Keeps a l → (t : ℕ) (v : Numbers) → IsGood a v
    → desks.name_for (at_task l.tasks t empty_desk) (name_with (at_task l.tasks t empty_desk).names v) ≡ gives_name (store_at a) t (meant a v)
name_kept a l k t v good =
    let d = at_task l.tasks t empty_desk in
    let stands : Stands a.history (live_of a.history l.live) v = subst (λ x. Stands a.history x v) (live_kept a l k) good in
    let named = name_is a.history a.taken l.live k.apart k.made d.names v (desk_stands a.history (live_of a.history l.live) l.tasks t k.stands).0 stands in
    name_for_is a.history d (name_with d.names v)
    ∙ (ap (λ o. store.name_for (member_of a.history d) o) named
    ∙ ap (λ (m : store.Member). store.name_for m (store.name_of m.names (meant a v))) (sym (member_kept a l k t)))

task_low : (t n : ℕ) → (nat_lt 0 t && nat_lt t (n + 1)) ≡ true → 1 ≤ t
task_low t n e = grind (arith, common_steps)

task_high : (t n : ℕ) → (nat_lt 0 t && nat_lt t (n + 1)) ≡ true → t ≤ n
task_high t n e = grind (arith, common_steps)

pub task_within : (a : Audit) (l : Lists) → Keeps a l → (t : ℕ) → is_task a.scenario t ≡ true → (1 ≤ t) × (t ≤ length l.tasks)
task_within a l k t e = (task_low t (length a.scenario.flags) e, subst (λ n. t ≤ n) (sym k.long) (task_high t (length a.scenario.flags) e))

pub tasks_long : (a : Audit) (l : Lists) → Keeps a l → length (store_at a).tasks ≡ length l.tasks
tasks_long a l k = ap (λ (s : Store). length s.tasks) k.store ∙ length-map l.tasks (member_of a.history)

-- a voucher that comes with a message gets the name that it would get without it
pub name_received : (a : Audit) (l : Lists) → Keeps a l → (t : ℕ) (v : Numbers) → is_task a.scenario t ≡ true → IsGood a v → (queue : List store.Message)
    → desks.name_for (at_task l.tasks t empty_desk) (name_with (at_task l.tasks t empty_desk).names v) ≡ gives_name (taken_first (store_at a) t queue) t (meant a v)
name_received a l k t v task good queue =
    let w = task_within a l k t task in
    let m = store.member (store_at a) t in
    let own : store.member (taken_first (store_at a) t queue) t ≡ record m { queue = queue } =
    own_item (store_at a).tasks t (record m { queue = queue }) nobody w.0 (subst (λ n. t ≤ n) (sym (tasks_long a l k)) w.1) in
    name_kept a l k t v good ∙ (alike m ∙ ap (λ (x : store.Member). store.name_for x (store.name_of x.names (meant a v))) (sym own))
  where
    alike : (m : store.Member) → store.name_for m (store.name_of m.names (meant a v)) ≡ store.name_for (record m { queue = queue }) (store.name_of m.names (meant a v))
    alike m = by (store.name_of m.names (meant a v))
      where
        by : (o : Option ℕ) → store.name_for m o ≡ store.name_for (record m { queue = queue }) o
        by None = refl
        by (Some name) = refl

-- The current call.

pub few_kept : (a : Audit) (l : Lists) → Keeps a l → (t : ℕ) → (at_task l.tasks t empty_desk).begun ≤ 16384
few_kept a l k t = subst (λ n. n ≤ 16384) (sym (k.begun t)) (calls_below a.scenario (past_at a) k.limited k.legal t)

pub current_kept : (a : Audit) (l : Lists) → Keeps a l → (t : ℕ) → call_in_phase a.scenario t (at_task l.tasks t empty_desk).begun l.phases ≡ current_call a.scenario (past_at a) t
current_kept a l k t = rw (k.begun t, k.ended) (now_current a.scenario (past_at a) t)

pub current_task : (a : Audit) (l : Lists) → Keeps a l → (t : ℕ) (call : Call) → call_in_phase a.scenario t (at_task l.tasks t empty_desk).begun l.phases ≡ Some call → is_task a.scenario t ≡ true
current_task a l k t call e = (current_found a.scenario (past_at a) t call k.limited (sym (current_kept a l k t) ∙ e)).task
