-- The books with one entry more.
use Rattle.std.proofs.Common.{◌≡◌, ◌≢◌, ℕ, ◌+◌, ◌<◌, ◌≤◌, List, [], ◌∷◌, refl, true, false, arith, ap, sym, ◌∙◌, subst, length, Some, Option, inl, inr}
use Rattle.std.specs.Prelude.{◌⊎◌, ◌==◌, if◌then◌else◌}
use Rattle.std.proofs.lemmas.Grind.{common_steps}
use Rattle.std.specs.List.{AllByRecursion}
use Rattle.vch_base.specs.Tasks.{at_task, set_task}
use Rattle.vch_base.proofs.CallerLemmas.{own_item, other_items, as_long}
use Rattle.vch_model.specs.declared.entry.Entry.{Entry}
use Rattle.vch_model.specs.declared.entry.Entry.TheVariants as entries
use Rattle.vch_model.specs.Store as store
use Rattle.vch_model.specs.Store.{Store, is_empty}
use Rattle.vch_model.specs.After.{store_of, store_after, lost, taken_first}
use Rattle.vch_model.specs.Legal.{LegalPast}
use Rattle.vch_model.specs.Lines.{is_task, calls_in, phases_in, current_call}
use Rattle.vch_books.specs.Desks.{Desk, empty_desk}
use Rattle.vch_books.specs.Numbered.{member_of, live_of, store_of_lists, Stands, OptionStands}
use Rattle.vch_books.specs.Audits.{Audit, past_at, store_at, advanced, IsNext, Leaves, IsGood, IsGoodOption, rest_of}
use Rattle.vch_books.specs.Kept.{Lists, Keeps, IsMade, IsRising, AreApart, DeskStands}
use Rattle.vch_books.specs.Going.{Goes}
use Rattle.vch_script.specs.Places.{ArePlaces}
use Rattle.vch_sums.specs.Summed.{Summed, IsSummed, Follows, is_passed}
use Rattle.vch_sums.proofs.CallerLemmas.{passed}
use Rattle.vch_model.specs.declared.call.Word.{Word}
use Rattle.vch_model.specs.declared.entry.Reply.{Reply}
use Rattle.vch_books.proofs.Lists.{map_same, all_set, all_change, past_one, inside_of}
use Rattle.vch_books.proofs.Members.{desk_stands}
use Rattle.vch_books.proofs.CallTurns.{answered_current, current_found}
use Rattle.vch_books.proofs.Keeping.{task_within, few_kept, live_kept}
use Rattle.vch_model.specs.declared.call.Call.{Call}
use Rattle.vch_books.specs.declared.numbers.Numbers.{Numbers}

pub past_next : (a : Audit) (entry : Entry) → IsNext a entry → past_at (advanced a) ≡ entry ∷ past_at a
past_next a entry n = past_one a.history a.taken entry n.here

pub store_next : (a : Audit) (entry : Entry) → IsNext a entry → store_at (advanced a) ≡ store_after a.scenario (length (past_at a)) (store_at a) entry
store_next a entry n = ap (λ p. store_of a.scenario p) (past_next a entry n)

made_later : (h : List Entry) (n e : ℕ) → IsMade h n e → IsMade h (n + 1) e
made_later h n e m = record { key = m.key; value = m.value; some = m.some; inside = later e n m.inside; entry = m.entry; plain = m.plain }
  where
    later : (e n : ℕ) → e ≤ n → e ≤ n + 1
    later e n h = omega (arith, h)

pub all_later : (h : List Entry) (n : ℕ) (live : List ℕ) → AllByRecursion (IsMade h n) live → AllByRecursion (IsMade h (n + 1)) live
all_later h n live m = all_change (IsMade h n) (IsMade h (n + 1)) live (made_later h n) m

-- what is to be shown of the lists after an entry
pub record Fits (a : Audit) (entry : Entry) (l : Lists) : Type 0 where
  pub store : store_after a.scenario (length (past_at a)) (store_at a) entry ≡ store_of_lists a.history l.tasks l.live
  pub made : AllByRecursion (IsMade a.history (a.taken + 1)) l.live
  pub rising : IsRising l.live
  pub apart : AreApart a.history l.live
  pub stands : AllByRecursion (DeskStands a.history (live_of a.history l.live)) l.tasks
  pub begun : (t : ℕ) → (at_task l.tasks t empty_desk).begun ≡ calls_in (entry ∷ past_at a) t
  pub ended : l.phases ≡ phases_in (entry ∷ past_at a)
  pub summed : IsSummed a.scenario (entry ∷ past_at a) l.sums

pub keeps_next : (a : Audit) (l m : Lists) (entry : Entry) → Keeps a l → IsNext a entry → length m.tasks ≡ length l.tasks → m.places ≡ l.places → Fits a entry m → Keeps (advanced a) m
keeps_next a l m entry k n long places f = record {
  limited = k.limited;
  short = k.short;
  inside = up (inside_of a.history a.taken entry n.here);
  legal = subst (λ p. LegalPast a.scenario p) (sym (past_next a entry n)) (k.legal, n.follows);
  store = store_next a entry n ∙ f.store;
  long = long ∙ k.long;
  made = f.made;
  rising = f.rising;
  apart = f.apart;
  stands = f.stands;
  begun = λ t. f.begun t ∙ ap (λ p. calls_in p t) (sym (past_next a entry n));
  ended = f.ended ∙ ap phases_in (sym (past_next a entry n));
  placed = subst (λ p. ArePlaces a.scenario p) (sym places) k.placed;
  summed = subst (λ p. IsSummed a.scenario p m.sums) (sym (past_next a entry n)) f.summed;
}
  where
    up : {x y : ℕ} → x < y → x + 1 ≤ y
    up h = omega (arith, h)

-- the task has begun one more call
abbrev pub begun_one : List Desk → ℕ → List Desk
begun_one tasks t = set_task tasks t (record (at_task tasks t empty_desk) { begun = (at_task tasks t empty_desk).begun + 1 })

begun_is : (h : List Entry) (tasks : List Desk) (live : List ℕ) (t : ℕ) → store_of_lists h (begun_one tasks t) live ≡ store_of_lists h tasks live
begun_is h tasks live t = ap (λ xs. store_with xs) (map_same (member_of h) tasks t (record (at_task tasks t empty_desk) { begun = (at_task tasks t empty_desk).begun + 1 }) empty_desk refl)
  where
    store_with : List store.Member → Store
    store_with xs = record { tasks = xs; live = live_of h live }

-- the task of a call that may follow
pub answer_task : (a : Audit) (l : Lists) (t number : ℕ) (word : Word) (reply : Reply) → Keeps a l → IsNext a (entries.Call t number word reply) → is_task a.scenario t ≡ true
answer_task a l t number word reply k n =
    let c = answered_current a.scenario (past_at a) (store_at a) t word reply n.follows.1 in
    (current_found a.scenario (past_at a) t c.0 k.limited c.1).task

pub leaves_task : (a : Audit) (l : Lists) (t : ℕ) (s : Store) → Keeps a l → Leaves a t s → is_task a.scenario t ≡ true
leaves_task a l t s k v = answer_task a l t v.number v.word v.reply k v.next

-- a call of a task
pub keeps_answer : (a : Audit) (l : Lists) (mid : List Desk) (sums : Summed) (t number : ℕ) (word : Word) (reply : Reply) → Keeps a l → Goes a.history l.live l.tasks mid
    → IsNext a (entries.Call t number word reply) → store_after a.scenario (length (past_at a)) (store_at a) (entries.Call t number word reply) ≡ store_of_lists a.history mid l.live
    → Follows a.scenario (past_at a) (entries.Call t number word reply) l.sums sums → Keeps (advanced a) (record l { tasks = begun_one mid t; sums = sums })
keeps_answer a l mid sums t number word reply k g n e follows =
    let entry = entries.Call t number word reply in
    let w = task_within a l k t (answer_task a l t number word reply k n) in
    let d = record (at_task mid t empty_desk) { begun = (at_task mid t empty_desk).begun + 1 } in
    keeps_next a l (record l { tasks = begun_one mid t; sums = sums }) entry k n (as_long mid t d ∙ g.long) refl (record {
      store = e ∙ sym (begun_is a.history mid l.live t);
      made = all_later a.history a.taken l.live k.made;
      rising = k.rising;
      apart = k.apart;
      stands = let p = g.stands k.stands in all_set (DeskStands a.history (live_of a.history l.live)) mid t d (desk_stands a.history (live_of a.history l.live) mid t p) p;
      begun = λ u. by w u (split u t);
      ended = k.ended;
      summed = follows (k.legal, n.follows) k.summed;
    })
  where
    split : (a b : ℕ) → (a ≡ b) ⊎ (a ≢ b)
    split a b = grind arith

    yes_eq : (a b : ℕ) → a ≡ b → (b == a) ≡ true
    yes_eq a b e = grind (arith, common_steps)

    not_eq : (a b : ℕ) → a ≢ b → (b == a) ≡ false
    not_eq a b e = grind (arith, common_steps)

    none_more : (n : ℕ) → n ≡ n + 0
    none_more n = omega arith

    by : (1 ≤ t) × (t ≤ length l.tasks) → (u : ℕ) → (u ≡ t) ⊎ (u ≢ t) → (at_task (begun_one mid t) u empty_desk).begun ≡ calls_in (past_at a) u + (if t == u then 1 else 0)
    by w u (inl e) =
        rw (yes_eq u t e) (subst (λ x. (at_task (begun_one mid t) x empty_desk).begun ≡ calls_in (past_at a) x + 1) (sym e)
        (ap (λ (x : Desk). x.begun) (own_item mid t (record (at_task mid t empty_desk) { begun = (at_task mid t empty_desk).begun + 1 }) empty_desk w.0 (subst (λ n. t ≤ n) (sym g.long) w.1))
        ∙ ap (λ n. n + 1) (g.begun t ∙ k.begun t)))
    by w u (inr n) =
        rw (not_eq u t n) (ap (λ (x : Desk). x.begun) (other_items mid t u (record (at_task mid t empty_desk) { begun = (at_task mid t empty_desk).begun + 1 }) empty_desk n)
        ∙ (g.begun u ∙ (k.begun u ∙ none_more (calls_in (past_at a) u))))

pub keeps_call : (a : Audit) (l : Lists) (mid : List Desk) (t : ℕ) (s : Store) → Keeps a l → Goes a.history l.live l.tasks mid
    → s ≡ store_of_lists a.history mid l.live → Leaves a t s → Keeps (advanced a) (record l { tasks = begun_one mid t })
keeps_call a l mid t s k g e v =
    keeps_answer a l mid l.sums t v.number v.word v.reply k g v.next (v.leaves ∙ e) (passed a.scenario (past_at a) (entries.Call t v.number v.word v.reply) l.sums v.passed)

pub within_of : (a : Audit) (l : Lists) (t : ℕ) (s : Store) → Keeps a l → Leaves a t s → (1 ≤ t) × (t ≤ length l.tasks)
within_of a l t s k v = task_within a l k t (leaves_task a l t s k v)

pub within_after : (a : Audit) (l : Lists) (mid : List Desk) (t : ℕ) → Goes a.history l.live l.tasks mid → (1 ≤ t) × (t ≤ length l.tasks) → (1 ≤ t) × (t ≤ length mid)
within_after a l mid t g w = (w.0, subst (λ n. t ≤ n) (sym g.long) w.1)

pub few_after : (a : Audit) (l : Lists) (mid : List Desk) (t : ℕ) → Keeps a l → Goes a.history l.live l.tasks mid → (at_task mid t empty_desk).begun < 4294967295
few_after a l mid t k g = let e : (at_task mid t empty_desk).begun ≡ (at_task l.tasks t empty_desk).begun = g.begun t in let f : (at_task l.tasks t empty_desk).begun ≤ 16384 = few_kept a l k t in omega (arith, e, f)

pub taken_fits : (a : Audit) (l : Lists) (entry : Entry) → Keeps a l → IsNext a entry → a.taken + 1 < 18446744073709551616
taken_fits a l entry k n = let i : a.taken < length a.history = inside_of a.history a.taken entry n.here in let s : length a.history < 4294967296 = k.short in omega (arith, i, s)

pub stands_of : (a : Audit) (l : Lists) (v : Numbers) → Keeps a l → IsGood a v → Stands a.history (live_of a.history l.live) v
stands_of a l v k good = subst (λ x. Stands a.history x v) (live_kept a l k) good

pub option_stands_of : (a : Audit) (l : Lists) (v : Option Numbers) → Keeps a l → IsGoodOption a v → OptionStands a.history (live_of a.history l.live) v
option_stands_of a l v k good = subst (λ x. OptionStands a.history x v) (live_kept a l k) good

-- an entry that is no call, and changes what tasks have
pub keeps_goes : (a : Audit) (l : Lists) (mid : List Desk) (entry : Entry) → Keeps a l → Goes a.history l.live l.tasks mid → IsNext a entry
    → store_after a.scenario (length (past_at a)) (store_at a) entry ≡ store_of_lists a.history mid l.live
    → ((t : ℕ) → calls_in (entry ∷ past_at a) t ≡ calls_in (past_at a) t) → phases_in (entry ∷ past_at a) ≡ phases_in (past_at a)
    → is_passed a.scenario entry ≡ true → Keeps (advanced a) (record l { tasks = mid })
keeps_goes a l mid entry k g n e calls phases pass = keeps_next a l (record l { tasks = mid }) entry k n g.long refl (record {
  store = e;
  made = all_later a.history a.taken l.live k.made;
  rising = k.rising;
  apart = k.apart;
  stands = g.stands k.stands;
  begun = λ t. g.begun t ∙ (k.begun t ∙ sym (calls t));
  ended = k.ended ∙ sym phases;
  summed = passed a.scenario (past_at a) entry l.sums pass (k.legal, n.follows) k.summed;
})

-- the task of an exit
pub exit_within : (a : Audit) (l : Lists) (t : ℕ) (call : Call) → Keeps a l → current_call a.scenario (past_at a) t ≡ Some call → (1 ≤ t) × (t ≤ length l.tasks)
exit_within a l t call k e = task_within a l k t (current_found a.scenario (past_at a) t call k.limited e).task

pub lost_is : (s : Store) (t : ℕ) (queue : List store.Message) → is_empty queue ≡ false → lost s t queue ≡ taken_first s t (rest_of queue)
lost_is s t [] e = absurd (cc)
lost_is s t (q ∷ queue) e = refl

pub keeps_phase : (a : Audit) (l : Lists) → Keeps a l → IsNext a entries.Phase → Keeps (advanced a) (record l { phases = l.phases + 1 })
keeps_phase a l k n = keeps_next a l (record l { phases = l.phases + 1 }) entries.Phase k n refl refl (record {
  store = k.store;
  made = all_later a.history a.taken l.live k.made;
  rising = k.rising;
  apart = k.apart;
  stands = k.stands;
  begun = k.begun;
  ended = ap (λ n. n + 1) k.ended;
  summed = passed a.scenario (past_at a) entries.Phase l.sums refl (k.legal, n.follows) k.summed;
})

pub phases_fit : (a : Audit) (l : Lists) → Keeps a l → IsNext a entries.Phase → l.phases + 1 < 4294967296
phases_fit a l k n = let e : l.phases ≡ phases_in (past_at a) = k.ended in let f : phases_in (past_at a) < length a.scenario.phases = n.follows.0 in let m : length a.scenario.phases ≤ 1024 = k.limited.phases in omega (arith, e, f, m)
