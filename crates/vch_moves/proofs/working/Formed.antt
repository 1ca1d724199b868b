-- A frame's voucher is changed at some keys: all that the parts stand for is kept.
use Rattle.std.proofs.Common.{◌≡◌, ℕ, ◌+◌, ◌-◌, ◌<◌, List, [], ◌∷◌, ◌++◌, refl, arith, sym, ap, ◌∙◌, length, subst, Option, Some, None}
use Rattle.vch_base.specs.declared.key.Key.{Key}
use Rattle.vch_base.specs.Keyed.{Keyed, of_key}
use Rattle.vch_base.specs.Managers.{count}
use Rattle.vch_base.specs.Tasks.{set_task}
use Rattle.vch_model.specs.declared.lists.Scenario.{Scenario}
use Rattle.vch_machine.specs.State as machine
use Rattle.vch_machine.specs.State.{Handles, Place, Machine, Tasked, tasked}
use Rattle.vch_machine.specs.Frames as frames
use Rattle.vch_machine.specs.Working.{WorkDone, changed_each}
use Rattle.vch_frame.specs.Indices.{listed}
use Rattle.vch_frame.proofs.CallerLemmas.{pairwise}
use Rattle.vch_values.specs.Parts.{KeyParts}
use Rattle.vch_parts.specs.declared.frame.Frame.{Frame}
use Rattle.vch_parts.specs.Plain.{Indices, Plain, part_of, with_frame}
use Rattle.vch_parts.specs.Shape.{IsFrame, IsMap, IsTask, IsLet}
use Rattle.vch_parts.specs.Pictures.{picture_of, frame_holds, forming_holds}
use Rattle.vch_parts.specs.Stands.{StandsFor}
use Rattle.vch_parts.proofs.CallerLemmas.{Keeps, map_stays, task_stays, frame_stays, let_stays}
use Rattle.vch_moves.specs.Known.{known_in, vouchers_in}
use Rattle.vch_moves.specs.Steps.{IsIdle}
use Rattle.vch_moves.specs.Works.{Workspace, ChangesEach, Becomes, KeysDiffer, formed}
use Rattle.vch_moves.proofs.holding.InTasks.{lets_in}
use Rattle.vch_moves.proofs.holding.Items.{pairwise_append}
use Rattle.vch_moves.proofs.keeping.OneTask.{vouchers_stay}
use Rattle.vch_moves.proofs.ending.Ends.{forming_held}
use Rattle.vch_moves.proofs.ending.Received.{lets_both}
use Rattle.vch_moves.proofs.sharing.Shares.{shared_keeps, shared_each}
use Rattle.vch_moves.proofs.sharing.SharedStep.{SharedStep, shared_stands}
use Rattle.vch_moves.proofs.working.Given.{given, given_from, each_holds}
use Rattle.vch_moves.proofs.working.Related.{Related, Untouched, Given, related_each, shared_each_key}

-- a voucher is untouched at first
untouched_first : (x : Keyed KeyParts) (v : Handles) (ks : List Key) → Untouched x v ks v
untouched_first x v [] = tt
untouched_first x v (k ∷ ks) = (refl, untouched_first x v ks)

module _ (sc : Scenario) (c : Plain) (m : Machine) (t : ℕ) (positive : 0 < t) (inside : t - 1 < length c.tasks) (s : StandsFor sc c m)
    (f : Frame) (g : machine.Frame) (v : Indices) (w : Handles)
    (own : (part_of c t).frame ≡ Some f) (task : (tasked m t).frame ≡ Some g) (frame : IsFrame c.keyed f g) (idle_frame : IsIdle (Some f))
    (forms : g.forming ≡ Some w) (map : IsMap c.keyed v w)
    (becomes : Indices → Key → Option (Option ℕ)) (e : Key → Option (Option ℕ)) (ks : List Key) (differ : KeysDiffer ks)
    (agrees : (k : Key) (a : Indices) (b : Handles) → IsMap c.keyed a b → of_key k b ≡ of_key k w → Becomes c.keyed k (becomes a k) (e k))
    (held : (k : Key) (h : ℕ) → e k ≡ Some (Some h) → 0 < count h (picture_of k c m).holders)
    (new : Workspace) (changes : ChangesEach becomes ks (record { keyed = c.keyed; map = v; lets = [] }) new)
    (at : ℕ) (left : List Key) where
  abbrev old : Workspace
  old = record { keyed = c.keyed; map = v; lets = [] }

  abbrev first : WorkDone
  first = record { forming = w; left = [] }

  abbrev done : WorkDone
  done = changed_each e ks first

  related : Related c.keyed new done
  related = related_each c.keyed becomes e w agrees ks differ old new first (untouched_first c.keyed w ks) changes (record { map = map; lets = tt })

  given_at : (q : Key) → Given c.keyed becomes e w agrees q (given ks e q) (of_key q c.keyed) (of_key q new.keyed)
  given_at q = shared_each_key c.keyed becomes e w agrees q ks differ old new first (untouched_first c.keyed w ks) changes (record { map = map; lets = tt })

  abbrev d : Plain
  d = formed c t f at left new

  abbrev y : Tasked
  y = record (tasked m t) { frame = Some (record g { forming = Some done.forming; at_byte = at; keys = left; lets = g.lets ++ done.left }) }

  stable : Keeps c.keyed new.keyed
  stable = shared_keeps sc c d m s (λ q. (given_at q).index) (λ q. given ks e q) (λ q. (given_at q).shares) (λ q. (given_at q).handle)

  now : IsTask new.keyed (part_of c t) (tasked m t)
  now = task_stays c.keyed new.keyed stable (part_of c t) (tasked m t) (s.shape.tasks t positive inside)

  now_frame : IsFrame new.keyed f g
  now_frame = frame_stays c.keyed new.keyed stable f g frame

  holders : (k : Key) (h : ℕ) → count h (frame_holds k y.frame) + known_in k h (vouchers_in (set_task m.tasks t y)) ≡ count h (listed (given ks e k)) + (count h (frame_holds k (tasked m t).frame) + known_in k h (vouchers_in m.tasks))
  holders k h = sums _ _ _ _ _ _ _ _ _ _
      (forming_held k h (record g { forming = Some done.forming; at_byte = at; keys = left; lets = g.lets ++ done.left })) (lets_both k h g.lets done.left)
      (each_holds k h e ks differ first)
      (ap (λ o. count h (frame_holds k o)) task ∙ forming_held k h g ∙ ap (λ o. count h (forming_holds k o) + lets_in k h g.lets) forms)
      (ap (known_in k h) (vouchers_stay m t y refl))
    where
      sums : (fy wn l2 l ln n w0 fo k2 k1 : ℕ) → fy ≡ wn + l2 → l2 ≡ l + ln → wn + ln ≡ n + (w0 + 0) → fo ≡ w0 + l → k2 ≡ k1 → fy + k2 ≡ n + (fo + k1)
      sums fy wn l2 l ln n w0 fo k2 k1 p q r z u = omega (arith, p, q, r, z, u)

  step : SharedStep sc c m t (with_frame (part_of c t) (Some (record f { forming = Some new.map; at = at; keys = left; lets = f.lets ++ new.lets }))) y None new.keyed (λ k. given ks e k)
  step = record {
    positive = positive;
    inside = inside;
    idle_old = subst IsIdle (sym own) idle_frame;
    idle_new = idle_frame;
    keeps = stable;
    shared = λ k. shared_each sc c d m s (λ q. (given_at q).index) (λ q. given ks e q) (λ q. (given_at q).shares) (λ q. (given_at q).handle) k (λ h q. held k h (given_from e k h ks q));
    own = record {
      names = now.names;
      next = now.next;
      queue = now.queue;
      begun = now.begun;
      frame = record {
        forming = map_stays c.keyed new.keyed stable new.map done.forming related.map;
        answered = now_frame.answered;
        at_byte = refl;
        keys = refl;
        receipt = now_frame.receipt;
        lets = pairwise_append (IsLet new.keyed) f.lets g.lets new.lets done.left now_frame.lets (pairwise (IsLet c.keyed) (IsLet new.keyed) (let_stays c.keyed new.keyed stable) new.lets done.left related.lets);
        claim = now_frame.claim;
      };
    };
    limit = refl;
    holders = holders;
    quiet = tt;
    room = omega arith;
  }

  pub formed_stands : StandsFor sc (formed c t f at left new) (frames.with_frame m t (Some (record g { forming = Some done.forming; at_byte = at; keys = left; lets = g.lets ++ done.left })))
  formed_stands = shared_stands sc c m t (with_frame (part_of c t) (Some (record f { forming = Some new.map; at = at; keys = left; lets = f.lets ++ new.lets }))) y None new.keyed (λ k. given ks e k) s step
