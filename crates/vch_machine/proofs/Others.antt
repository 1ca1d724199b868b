-- An event of one task never changes which event of another is next.
use Rattle.std.proofs.Common.{◌≡◌, ◌≢◌, ℕ, zero, suc, Bool, true, false, List, [], ◌∷◌, map, refl, sym, ap, ◌∙◌, get_or, Some, None, Option}
use Rattle.std.proofs.Math.ListN.{get_or-map, set}
use Rattle.vch_base.specs.Keyed.{Keyed}
use Rattle.vch_base.specs.Tasks.{at_task, set_task}
use Rattle.vch_base.proofs.CallerLemmas.{other_items}
use Rattle.vch_model.specs.declared.call.Call.{Call}
use Rattle.vch_model.specs.declared.lists.Scenario.{Scenario}
use Rattle.vch_model.specs.Lines.{phases_in}
use Rattle.vch_machine.proofs.Walks.{Walk, still_claim, event_walked}
use Rattle.vch_model.specs.declared.entry.Entry.{Entry}
use Rattle.vch_machine.specs.State.{Living, Pool, Place, Claim, Frame, Tasked, Tally, Machine, Named, idle, tasked, with_tasked}
use Rattle.vch_machine.specs.Events.{event}
use Rattle.vch_machine.specs.Making.{on_claim, on_frame, on_task, on_claims}
use Rattle.vch_machine.specs.Next.{nth_call, unanswered_next, lets_next, frame_next, task_next, next_kind}

-- what decides which event of a task is next: no queue, and of a claim only its answer
abbrev pub still : Tasked → Tasked
still x = record x { queue = []; frame = on_frame still_claim x.frame }

still_unanswered : (version : ℕ) (names : List Named) (f : Frame) (call : Option Call) (answered : Bool)
    → unanswered_next version names f call answered ≡ unanswered_next version names (record f { claim = None }) call answered
still_unanswered version names f call true = refl
still_unanswered version names f call false = refl

still_lets : (version : ℕ) (names : List Named) (f : Frame) (call : Option Call) (lets : List Place)
    → lets_next version names f call lets ≡ lets_next version names (record f { claim = None }) call lets
still_lets version names f call (p ∷ rest) = refl
still_lets version names f call [] = still_unanswered version names f call f.answered

still_frame_next : (version : ℕ) (names : List Named) (f : Frame) (call : Option Call) (r : Option Place) (c : Option Claim)
    → f.claim ≡ c → f.receipt ≡ r → frame_next version names f call r ≡ frame_next version names (record f { claim = on_claim still_claim f.claim }) call r
still_frame_next version names f call (Some p) c e g = refl
still_frame_next version names f call None (Some c) e g = rw e
still_frame_next version names f call None None e g = rw e (still_lets version names f call f.lets)

still_next : (sc : Scenario) (n u : ℕ) (x : Tasked) (f : Option Frame) → task_next sc n u x f ≡ task_next sc n u (still x) (on_frame still_claim f)
still_next sc n u x None = refl
still_next sc n u x (Some f) = still_frame_next sc.version x.names f (nth_call sc u x.begun) f.receipt f.claim refl refl

-- a machine leaves another task as it was, to the eye of what is next
pub record Leaves (u : ℕ) (m n : Machine) : Type 0 where
  pub task : still (tasked n u) ≡ still (tasked m u)
  pub phases : phases_in n.past ≡ phases_in m.past

pub same_next : (sc : Scenario) (u : ℕ) (m n : Machine) → Leaves u m n → next_kind sc n u ≡ next_kind sc m u
same_next sc u m n l =
    still_next sc (phases_in n.past) u (tasked n u) (tasked n u).frame
    ∙ (ap (λ x. task_next sc (phases_in n.past) u x x.frame) l.task
    ∙ (ap (λ k. task_next sc k u (still (tasked m u)) (still (tasked m u)).frame) l.phases
    ∙ sym (still_next sc (phases_in m.past) u (tasked m u) (tasked m u).frame)))

leaves_self : (u : ℕ) (m : Machine) → Leaves u m m
leaves_self u m = record { task = refl; phases = refl }

then_leaves : (u : ℕ) (m n o : Machine) → Leaves u m n → Leaves u n o → Leaves u m o
then_leaves u m n o a b = record { task = b.task ∙ a.task; phases = b.phases ∙ a.phases }

-- another task is replaced
other_task : (u t : ℕ) (m : Machine) (x : Tasked) → u ≢ t → Leaves u m (with_tasked m t x)
other_task u t m x apart = record { task = ap still (other_items m.tasks t u x idle apart); phases = refl }

-- a queue is replaced, of any task
same_still : (xs : List Tasked) (i j : ℕ) (x : Tasked) → still x ≡ still (get_or xs i idle) → still (get_or (set xs i x) j idle) ≡ still (get_or xs j idle)
same_still [] i j x e = refl
same_still (y ∷ xs) zero zero x e = e
same_still (y ∷ xs) zero (suc j) x e = refl
same_still (y ∷ xs) (suc i) zero x e = refl
same_still (y ∷ xs) (suc i) (suc j) x e = same_still xs i j x e

same_at : (xs : List Tasked) (t u : ℕ) (x : Tasked) → still x ≡ still (at_task xs t idle) → still (at_task (set_task xs t x) u idle) ≡ still (at_task xs u idle)
same_at xs zero u x e = refl
same_at xs (suc t) zero x e = refl
same_at xs (suc t) (suc u) x e = same_still xs t u x e

like_task : (u t : ℕ) (m : Machine) (x : Tasked) → still x ≡ still (tasked m t) → Leaves u m (with_tasked m t x)
like_task u t m x e = record { task = same_at m.tasks t u x e; phases = refl }

-- all claims are changed, and no answer
on_still : (g : Claim → Claim) → ((c : Claim) → still_claim (g c) ≡ still_claim c) → (x : Tasked) → still (on_task g x) ≡ still x
on_still g same x = ap (λ f. record x { queue = []; frame = f }) (of_frame x.frame)
  where
    of_claim : (c : Option Claim) → on_claim still_claim (on_claim g c) ≡ on_claim still_claim c
    of_claim None = refl
    of_claim (Some c) = ap Some (same c)

    of_frame : (f : Option Frame) → on_frame still_claim (on_frame g f) ≡ on_frame still_claim f
    of_frame None = refl
    of_frame (Some f) = ap (λ c. Some (record f { claim = c })) (of_claim f.claim)

all_claims : (u : ℕ) (m : Machine) (g : Claim → Claim) → ((c : Claim) → still_claim (g c) ≡ still_claim c) → Leaves u m (on_claims g m)
all_claims u m g same = record { task = ap still (mapped_at m.tasks u) ∙ on_still g same (tasked m u); phases = refl }
  where
    mapped_at : (xs : List Tasked) (u : ℕ) → at_task (map (on_task g) xs) u idle ≡ on_task g (at_task xs u idle)
    mapped_at xs zero = refl
    mapped_at xs (suc u) = get_or-map (on_task g) xs u idle

-- values, history and tally are not looked at, but for the ends of phases
other_parts : (u : ℕ) (m : Machine) (live : List Living) (pools : Keyed Pool) (past : List Entry) (tally : Tally) → phases_in past ≡ phases_in m.past
    → Leaves u m (record m { live = live; pools = pools; past = past; tally = tally })
other_parts u m live pools past tally e = record { task = refl; phases = e }

leaving : (u t : ℕ) → u ≢ t → Walk t (Leaves u)
leaving u t apart = record {
  self_ = leaves_self u;
  joined = then_leaves u;
  own = λ m x l. other_task u t m x apart;
  queued = λ m v queue. like_task u v m (record (tasked m v) { queue = queue }) refl;
  claims = λ m g same. all_claims u m g same;
  others = other_parts u;
}

-- an event of one task leaves every other as it was
pub leaves_of : (sc : Scenario) (want : Bool) (t u : ℕ) (m n : Machine) → u ≢ t → event sc want m t ≡ Some n → Leaves u m n
leaves_of sc want t u m n apart e = event_walked t (Leaves u) (leaving u t apart) sc want m n e

-- an event of one task never changes which event of another is next
pub others_next : (sc : Scenario) (want : Bool) (t u : ℕ) (m n : Machine) → u ≢ t → event sc want m t ≡ Some n → next_kind sc n u ≡ next_kind sc m u
others_next sc want t u m n apart e = same_next sc u m n (leaves_of sc want t u m n apart e)
