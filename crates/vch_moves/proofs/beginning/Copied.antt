-- A send or a recv begins with a copy of a voucher that a name or a message has: all that the parts stand for is kept.
use Rattle.std.proofs.Common.{◌≡◌, ℕ, ◌+◌, ◌-◌, ◌<◌, true, List, append-nil, refl, arith, sym, ap, ◌∙◌, length, subst, Option, Some, None}
use Rattle.vch_base.specs.declared.key.Key.{Key}
use Rattle.vch_base.specs.Keyed.{Keyed, of_key}
use Rattle.vch_base.specs.Managers.{count}
use Rattle.vch_base.specs.Tasks.{set_task}
use Rattle.vch_model.specs.declared.lists.Scenario.{Scenario}
use Rattle.vch_machine.specs.State.{Handles, Machine, Tasked, tasked, with_tasked}
use Rattle.vch_machine.specs.Frames as frames
use Rattle.vch_machine.specs.Naming.{is_known}
use Rattle.vch_machine.specs.Beginning as begins
use Rattle.vch_machine.specs.Beginning.{key_if}
use Rattle.vch_legal.proofs.CallerLemmas.{IsAmong}
use Rattle.vch_frame.specs.Pairs.{Optional}
use Rattle.vch_frame.specs.Indices.{listed, index_of}
use Rattle.vch_values.specs.Parts.{KeyParts}
use Rattle.vch_parts.specs.Plain.{Indices, Plain, part_of, with_frame}
use Rattle.vch_parts.specs.Shape.{IsIndexOf, IsMap, IsTask}
use Rattle.vch_parts.specs.Pictures.{frame_holds}
use Rattle.vch_parts.specs.Stands.{StandsFor}
use Rattle.vch_parts.proofs.CallerLemmas.{Keeps, map_stays, task_stays, at_key}
use Rattle.vch_moves.specs.Known.{known_in, vouchers_in}
use Rattle.vch_moves.specs.Shares.{SharesAll}
use Rattle.vch_moves.specs.Steps.{begun_one, fresh_frame, copied, IsIdle}
use Rattle.vch_moves.proofs.keeping.OneTask.{vouchers_stay}
use Rattle.vch_moves.proofs.ending.Replies.{framed_is}
use Rattle.vch_moves.proofs.sharing.Among.{known_held}
use Rattle.vch_moves.proofs.sharing.Shares.{shared_keeps, shared_each}
use Rattle.vch_moves.proofs.sharing.SharedStep.{SharedStep, shared_stands}

-- a key is asked on both sides, or on neither
pub asked_same : (x : Keyed KeyParts) (k : Key) (v : Indices) (w : Handles) → IsMap x v w → key_if k (index_of k v) ≡ key_if k (of_key k w)
asked_same x k v w map = by (index_of k v) (of_key k w) (at_key x k v w map)
  where
    by : (i h : Option ℕ) → Optional (IsIndexOf x k) i h → key_if k i ≡ key_if k h
    by None None p = refl
    by (Some i) (Some h) p = refl
    by None (Some h) p = absurd p
    by (Some i) None p = absurd p

module _ (sc : Scenario) (c : Plain) (m : Machine) (t : ℕ) (positive : 0 < t) (inside : t - 1 < length c.tasks) (s : StandsFor sc c m)
    (own : (part_of c t).frame ≡ None) (task : (tasked m t).frame ≡ None) (keyed : Keyed KeyParts) (v : Indices) (w : Handles) (ks : List Key)
    (map : IsMap c.keyed v w) (shares : SharesAll c.keyed v keyed) (known : is_known m w ≡ true) where
  among : IsAmong t m.tasks
  among = (positive, omega (arith, s.shape.long, inside))

  abbrev mid : Machine
  mid = with_tasked m t (begins.begun_one (tasked m t))

  abbrev d : Plain
  d = copied c t keyed v ks

  abbrev y : Tasked
  y = record (begins.begun_one (tasked m t)) { frame = Some (begins.fresh_frame w ks) }

  stable : Keeps c.keyed keyed
  stable = shared_keeps sc c d m s (λ k. index_of k v) (λ k. of_key k w) shares (λ k. at_key c.keyed k v w map)

  now : IsTask keyed (part_of c t) (tasked m t)
  now = task_stays c.keyed keyed stable (part_of c t) (tasked m t) (s.shape.tasks t positive inside)

  step : SharedStep sc c m t (with_frame (begun_one (part_of c t)) (Some (fresh_frame v ks))) y None keyed (λ k. of_key k w)
  step = record {
    positive = positive;
    inside = inside;
    idle_old = subst IsIdle (sym own) tt;
    idle_new = (refl, refl);
    keeps = stable;
    shared = λ k. shared_each sc c d m s (λ q. index_of q v) (λ q. of_key q w) shares (λ q. at_key c.keyed q v w map) k (λ g e. known_held k g c m w known e);
    own = record {
      names = now.names;
      next = now.next;
      queue = now.queue;
      begun = ap (λ n. n + 1) now.begun;
      frame = record { forming = map_stays c.keyed keyed stable v w map; answered = refl; at_byte = refl; keys = refl; receipt = tt; lets = tt; claim = tt };
    };
    limit = refl;
    holders = λ k h. ap (λ xs. count h xs + known_in k h (vouchers_in (set_task m.tasks t y))) (append-nil (listed (of_key k w)))
        ∙ ap (λ vs. count h (listed (of_key k w)) + known_in k h vs) (vouchers_stay m t y refl)
        ∙ zero_first (count h (listed (of_key k w))) (known_in k h (vouchers_in m.tasks))
        ∙ sym (ap (λ o. count h (listed (of_key k w)) + (count h (frame_holds k o) + known_in k h (vouchers_in m.tasks))) task);
    quiet = tt;
    room = omega arith;
  }
    where
      zero_first : (a b : ℕ) → a + b ≡ a + (0 + b)
      zero_first a b = omega arith

  pub copied_stands : StandsFor sc (copied c t keyed v ks) (frames.with_frame mid t (Some (begins.fresh_frame w ks)))
  copied_stands = subst (StandsFor sc (copied c t keyed v ks)) (sym (framed_is m t (begins.begun_one (tasked m t)) (Some (begins.fresh_frame w ks)) among))
      (shared_stands sc c m t (with_frame (begun_one (part_of c t)) (Some (fresh_frame v ks))) y None keyed (λ k. of_key k w) s step)
