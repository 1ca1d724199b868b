-- How many different vouchers names and messages have, in the parts and in the store.
use Rattle.std.proofs.Common.{◌≡◌, ℕ, suc, ◌+◌, ◌<◌, Bool, true, false, List, [], ◌∷◌, ◌++◌, length, map, refl, arith, sym, ap, ◌∙◌, Option, Some, None, is_some}
use Rattle.std.specs.Prelude.{if◌then◌else◌, slice_index_or, option_to_list}
use Rattle.std.specs.List.{list_any, flat_map, AllByRecursion}
use Rattle.vch_model.specs.declared.lists.Scenario.{Scenario}
use Rattle.vch_model.specs.Replies as model
use Rattle.vch_model.specs.Store as store
use Rattle.vch_model.specs.Voucher.{equal_vouchers}
use Rattle.vch_model.specs.Voucher as values
use Rattle.vch_machine.specs.State as machine
use Rattle.vch_machine.specs.State.{Handles, Living, Machine, Place, Tasked, living_at, member_of, message_of, named_of, option_has, has_place, frame_holds, idle, tasked, seen, valued}
use Rattle.vch_legal.specs.Facts.{Fits}
use Rattle.vch_legal.proofs.CallerLemmas.{LiveAll, AllLive, held_live, names_live, voucher_live, or_left, or_right}
use Rattle.vch_frame.specs.Pairs.{Optional, Pairwise}
use Rattle.vch_vouchers.specs.Desks.{Voucher, Named, vouchers_at, is_among, different}
use Rattle.vch_vouchers.specs.declared.answers.Message.{Message}
use Rattle.vch_parts.specs.Plain.{Part, Plain, idle_part}
use Rattle.vch_parts.specs.Shape.{IsMap, IsName, IsMessage, IsTask}
use Rattle.vch_replies.specs.Begins.{Begins}
use Rattle.vch_replies.specs.Known.{desk_in, all_vouchers, AreApart}
use Rattle.vch_replies.specs.Told.{values_of}
use Rattle.vch_replies.proofs.named.Named.{values_here}
use Rattle.vch_replies.proofs.known.Equal.{IsKnown, equal_exactly}

-- Lists that agree place by place agree pair by pair.
pairwise_from : {A B : Type 0} (r : A → B → Type 0) (xs : List A) (ys : List B) (d : A) (e : B) → length xs ≡ length ys
    → ((i : ℕ) → i < length xs → r (slice_index_or xs i d) (slice_index_or ys i e)) → Pairwise r xs ys
pairwise_from r [] [] d e l h = tt
pairwise_from r [] (y ∷ ys) d e l h = absurd (omega (arith, l))
pairwise_from r (x ∷ xs) [] d e l h = absurd (omega (arith, l))
pairwise_from r (x ∷ xs) (y ∷ ys) d e l h = (h 0 (omega arith), pairwise_from r xs ys d e (omega (arith, l)) (λ i k. h (suc i) (omega (arith, k))))

-- the vouchers of messages are live
abbrev LiveMessages : List Living → List machine.Message → Type 0
LiveMessages live [] = Unit {0}
LiveMessages live (q ∷ queue) = ((w : Handles) → q.voucher ≡ Some w → LiveAll live w) × LiveMessages live queue

messages_live : (sc : Scenario) (m : Machine) (t : ℕ) → Fits sc m → LiveMessages m.live (tasked m t).queue
messages_live sc m t fits = each (tasked m t).queue (λ p h. held_live sc m t p fits
    (or_right (list_any (λ (n : machine.Named). has_place n.voucher p) (tasked m t).names) _ (or_left _ (frame_holds (tasked m t).frame p) h)))
  where
    each : (queue : List machine.Message) → ((p : Place) → list_any (λ (q : machine.Message). option_has q.voucher p) queue ≡ true → is_some (living_at m.live p) ≡ true)
        → LiveMessages m.live queue
    each [] h = tt
    each (q ∷ queue) h = (
      λ w e. voucher_live m.live w (λ p g. h p (or_left (option_has q.voucher p) _ (ap (λ o. option_has o p) e ∙ g))),
      each queue (λ p g. h p (or_right (option_has q.voucher p) _ g)),
    )

-- the vouchers of the store are these, and each is live
record Shown (c : Plain) (m : Machine) (us : List values.Voucher) (vs : List Voucher) : Type 0 where
  known : AllByRecursion (IsKnown c m) vs
  values : us ≡ map (values_of c.keyed) vs

record IsSeen (c : Plain) (m : Machine) (x : Part) (y : Tasked) : Type 0 where
  task : IsTask c.keyed x y
  names : AllLive m.live y.names
  queue : LiveMessages m.live y.queue

module _ (sc : Scenario) (c : Plain) (m : Machine) (t : ℕ) (b : Begins sc c m t) where
  shown_one : (v : Voucher) (w : Handles) → IsMap c.keyed v w → LiveAll m.live w → Shown c m (valued m.live w ∷ []) (v ∷ [])
  shown_one v w p l = record {
    known = (record { handles = w; map = p; live = l }, tt);
    values = ap (λ x. x ∷ []) (sym (values_here sc c m b.stands v w p));
  }

  shown_join : (us : List values.Voucher) (vs : List Voucher) (xs : List values.Voucher) (ys : List Voucher) → Shown c m us vs → Shown c m xs ys → Shown c m (us ++ xs) (vs ++ ys)
  shown_join us vs xs ys s r = record { known = all_join vs s.known; values = ap (λ zs. zs ++ xs) s.values ∙ ap (λ zs. map (values_of c.keyed) vs ++ zs) r.values ∙ map_join vs }
    where
      all_join : (vs : List Voucher) → AllByRecursion (IsKnown c m) vs → AllByRecursion (IsKnown c m) (vs ++ ys)
      all_join [] h = r.known
      all_join (v ∷ vs) h = (h.0, all_join vs h.1)

      map_join : (vs : List Voucher) → map (values_of c.keyed) vs ++ map (values_of c.keyed) ys ≡ map (values_of c.keyed) (vs ++ ys)
      map_join [] = refl
      map_join (v ∷ vs) = ap (λ zs. values_of c.keyed v ∷ zs) (map_join vs)

  names_shown : (ns : List Named) (os : List machine.Named) → Pairwise (IsName c.keyed) ns os → AllLive m.live os
      → Shown c m (flat_map (λ (n : store.Named). n.voucher ∷ []) (map (named_of m.live) os)) (map (λ (n : Named). n.voucher) ns)
  names_shown [] [] p l = record { known = tt; values = refl }
  names_shown [] (o ∷ os) p l = absurd p
  names_shown (n ∷ ns) [] p l = absurd p
  names_shown (n ∷ ns) (o ∷ os) p l = shown_join _ (n.voucher ∷ []) _ (map (λ (n : Named). n.voucher) ns)
      (shown_one n.voucher o.voucher p.0.2 l.0) (names_shown ns os p.1 l.1)

  queue_shown : (qs : List Message) (os : List machine.Message) → Pairwise (IsMessage c.keyed) qs os → LiveMessages m.live os
      → Shown c m (flat_map model.vouchers_of (map (message_of m.live) os)) (flat_map (λ (q : Message). option_to_list q.voucher) qs)
  queue_shown [] [] p l = record { known = tt; values = refl }
  queue_shown [] (o ∷ os) p l = absurd p
  queue_shown (q ∷ qs) [] p l = absurd p
  queue_shown (q ∷ qs) (o ∷ os) p l = shown_join _ (option_to_list q.voucher) _ (flat_map (λ (q : Message). option_to_list q.voucher) qs)
      (of_voucher q.voucher o.voucher p.0.2 l.0) (queue_shown qs os p.1 l.1)
    where
      of_voucher : (v : Option Voucher) (w : Option Handles) → Optional (IsMap c.keyed) v w → ((x : Handles) → w ≡ Some x → LiveAll m.live x)
          → Shown c m (model.vouchers_of (message_of m.live (record o { voucher = w }))) (option_to_list v)
      of_voucher None None p l = record { known = tt; values = refl }
      of_voucher (Some v) (Some w) p l = shown_one v w p (l w refl)
      of_voucher None (Some w) p l = absurd p
      of_voucher (Some v) None p l = absurd p

  tasks_shown : (xs : List Part) (ys : List Tasked) → Pairwise (IsSeen c m) xs ys → Shown c m (model.all_vouchers (map (member_of m.live) ys)) (all_vouchers xs)
  tasks_shown [] [] p = record { known = tt; values = refl }
  tasks_shown [] (y ∷ ys) p = absurd p
  tasks_shown (x ∷ xs) [] p = absurd p
  tasks_shown (x ∷ xs) (y ∷ ys) p = shown_join _ (vouchers_at (desk_in x)) _ (all_vouchers xs)
      (shown_join _ (map (λ (n : Named). n.voucher) x.names) _ (flat_map (λ (q : Message). option_to_list q.voucher) x.queue)
      (names_shown x.names y.names p.0.task.names p.0.names)
      (queue_shown x.queue y.queue p.0.task.queue p.0.queue))
      (tasks_shown xs ys p.1)

  all_seen : Pairwise (IsSeen c m) c.tasks m.tasks
  all_seen = pairwise_from (IsSeen c m) c.tasks m.tasks idle_part idle b.stands.shape.long (λ i l. record {
    task = b.stands.shape.tasks (suc i) (omega arith) (omega (arith, l));
    names = names_live sc m (suc i) b.ties.fits;
    queue = messages_live sc m (suc i) b.ties.fits;
  })

  module _ (apart : AreApart c.keyed) where
    among_same : (v : Voucher) (vs : List Voucher) → IsKnown c m v → AllByRecursion (IsKnown c m) vs
        → list_any (equal_vouchers (values_of c.keyed v)) (map (values_of c.keyed) vs) ≡ is_among v vs
    among_same v [] x h = refl
    among_same v (u ∷ vs) x h = rw (equal_exactly sc c m t b apart v u x h.0, among_same v vs x h.1) refl

    counted_same : (vs : List Voucher) → AllByRecursion (IsKnown c m) vs → model.different (map (values_of c.keyed) vs) ≡ different vs
    counted_same [] h = refl
    counted_same (v ∷ vs) h = ap (λ d. (if d then 0 else 1) + model.different (map (values_of c.keyed) vs)) (among_same v vs h.0 h.1)
        ∙ ap (λ n. (if is_among v vs then 0 else 1) + n) (counted_same vs h.1) ∙ by_test (is_among v vs) (different vs)
      where
        by_test : (d : Bool) (n : ℕ) → (if d then 0 else 1) + n ≡ (if d then n else n + 1)
        by_test true n = omega arith
        by_test false n = omega arith

    pub vouchers_live : model.different (model.all_vouchers (seen m).tasks) ≡ different (all_vouchers c.tasks)
    vouchers_live = let s = tasks_shown c.tasks m.tasks all_seen in ap model.different s.values ∙ counted_same (all_vouchers c.tasks) s.known
