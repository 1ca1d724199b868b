-- A voucher of indices is known exactly where that of handles is.
use Rattle.std.proofs.Common.{◌≡◌, ℕ, suc, ◌<◌, Bool, true, false, cond, List, [], ◌∷◌, refl, arith, sym, ◌∙◌, length, get_or, map, subst, Option, Some, None}
use Rattle.std.specs.Prelude.{option_to_list}
use Rattle.std.specs.List.{flat_map}
use Rattle.vch_base.specs.Keyed.{Keyed}
use Rattle.vch_model.specs.declared.lists.Scenario.{Scenario}
use Rattle.vch_machine.specs.Naming as naming
use Rattle.vch_machine.specs.State as machine
use Rattle.vch_machine.specs.State.{Handles, Place, Machine, Tasked, idle, tasked}
use Rattle.vch_frame.specs.Pairs.{Optional, Pairwise}
use Rattle.vch_values.specs.Parts.{KeyParts}
use Rattle.vch_vouchers.specs.Desks as desks
use Rattle.vch_vouchers.specs.Desks.{Named, vouchers_at, is_known}
use Rattle.vch_vouchers.specs.declared.answers.Message.{Message}
use Rattle.vch_parts.specs.Plain.{Indices, Part, Plain, idle_part}
use Rattle.vch_parts.specs.Shape.{IsMap, IsName, IsMessage, IsTask, IsLet, Shape}
use Rattle.vch_parts.specs.Pictures.{task_vouchers, option_handles}
use Rattle.vch_moves.specs.Desks.{desk_of, desks_of, option_items, items, orphaned, doubled, AllApart}
use Rattle.vch_moves.specs.Known.{is_among}
use Rattle.vch_moves.proofs.desks.Equal.{Tests, tests}
use Rattle.vch_moves.proofs.holding.Different.{same_turned}
use Rattle.vch_moves.proofs.holding.Items.{pairwise_append, items_lets}
use Rattle.vch_moves.proofs.holding.Vouchers.{known_among, named_in, queued_in}

module _ (x : Keyed KeyParts) where
  abbrev AreMaps : List Indices → List Handles → Type 0
  AreMaps vs ws = Pairwise (IsMap x) vs ws

  of_names : (ns : List Named) (os : List machine.Named) → Pairwise (IsName x) ns os → AreMaps (map (λ (n : Named). n.voucher) ns) (named_in os)
  of_names [] [] p = tt
  of_names [] (o ∷ os) p = absurd p
  of_names (n ∷ ns) [] p = absurd p
  of_names (n ∷ ns) (o ∷ os) p = (p.0.2, of_names ns os p.1)

  of_option : (v : Option Indices) (w : Option Handles) → Optional (IsMap x) v w → AreMaps (option_to_list v) (option_handles w)
  of_option None None p = tt
  of_option (Some v) (Some w) p = (p, tt)
  of_option None (Some w) p = absurd p
  of_option (Some v) None p = absurd p

  of_queue : (qs : List Message) (os : List machine.Message) → Pairwise (IsMessage x) qs os → AreMaps (flat_map (λ (q : Message). option_to_list q.voucher) qs) (queued_in os)
  of_queue [] [] p = tt
  of_queue [] (o ∷ os) p = absurd p
  of_queue (q ∷ qs) [] p = absurd p
  of_queue (q ∷ qs) (o ∷ os) p = pairwise_append (IsMap x) _ _ _ _ (of_option q.voucher o.voucher p.0.2) (of_queue qs os p.1)

  of_task : (a : Part) (y : Tasked) → IsTask x a y → AreMaps (vouchers_at (desk_of a)) (task_vouchers y)
  of_task a y p = pairwise_append (IsMap x) _ _ _ _ (of_names a.names y.names p.names) (of_queue a.queue y.queue p.queue)

  of_tasks : (as_ : List Part) (ys : List Tasked) → length as_ ≡ length ys → ((i : ℕ) → i < length as_ → IsTask x (get_or as_ i idle_part) (get_or ys i idle)) → AreMaps (flat_map vouchers_at (desks_of as_)) (flat_map task_vouchers ys)
  of_tasks [] [] l f = tt
  of_tasks [] (y ∷ ys) l f = absurd (omega arith)
  of_tasks (a ∷ as_) [] l f = absurd (omega arith)
  of_tasks (a ∷ as_) (y ∷ ys) l f = pairwise_append (IsMap x) _ _ _ _ (of_task a y (f 0 (omega arith))) (of_tasks as_ ys (omega (arith, l)) (λ i j. f (suc i) (omega (arith, j))))

  one_of : (u : Indices) (w : Handles) → Tests x u w → (vs : List Indices) (ws : List Handles) → AreMaps vs ws → desks.is_among u vs ≡ is_among w ws
  one_of u w t [] [] p = refl
  one_of u w t [] (z ∷ ws) p = absurd p
  one_of u w t (v ∷ vs) [] p = absurd p
  one_of u w t (v ∷ vs) (z ∷ ws) p = let a = t v z p.0 ∙ same_turned z w in let b = one_of u w t vs ws p.1 in rw (a, b) refl

module _ (sc : Scenario) (c : Plain) (m : Machine) (s : Shape sc c m) (apart : AllApart c.keyed) where
  pub known_is : (u : Indices) (w : Handles) → IsMap c.keyed u w → is_known (desks_of c.tasks) u ≡ naming.is_known m w
  known_is u w map = one_of c.keyed u w (tests c.keyed apart u w map) _ _
      (of_tasks c.keyed c.tasks m.tasks s.long (λ i l. s.tasks (suc i) (omega arith) (omega (arith, l)))) ∙ sym (known_among m w)

  -- so are the handles that a frame lets go of where the voucher is an orphan, or was known
  pub orphaned_is : (u : Option Indices) (w : Option Handles) → Optional (IsMap c.keyed) u w → Pairwise (IsLet c.keyed) (orphaned c.tasks u) (naming.orphaned m w)
  orphaned_is None None p = tt
  orphaned_is (Some u) (Some w) p = subst (λ b. Pairwise (IsLet c.keyed) (option_items (cond b None (Some u))) (naming.orphaned m (Some w))) (sym (known_is u w p)) (by (naming.is_known m w))
    where
      by : (b : Bool) → Pairwise (IsLet c.keyed) (option_items (cond b None (Some u))) (cond b [] (naming.places w))
      by true = tt
      by false = items_lets c.keyed u w p
  orphaned_is None (Some w) p = absurd p
  orphaned_is (Some u) None p = absurd p

  pub doubled_is : (u : Indices) (w : Handles) → IsMap c.keyed u w → Pairwise (IsLet c.keyed) (doubled c.tasks u) (naming.doubled m w)
  doubled_is u w p = subst (λ b. Pairwise (IsLet c.keyed) (cond b (items u) []) (naming.doubled m w)) (sym (known_is u w p)) (by (naming.is_known m w))
    where
      by : (b : Bool) → Pairwise (IsLet c.keyed) (cond b (items u) []) (cond b (naming.places w) [])
      by true = items_lets c.keyed u w p
      by false = tt
