-- Receipts and claims at a handle, in the state and in the picture.
use Rattle.std.proofs.Common.{◌≡◌, ℕ, suc, ◌<◌, ◌==◌, ◌&&◌, ◌||◌, Bool, true, false, cond, List, [], ◌∷◌, ◌++◌, refl, arith, sym, ap, ◌∙◌, length, get_or, Option, Some, None}
use Rattle.std.specs.List.{list_any, flat_map}
use Rattle.std.proofs.lemmas.Grind.{common_steps}
use Rattle.vch_base.specs.declared.key.Key.{Key}
use Rattle.vch_model.specs.declared.lists.Scenario.{Scenario}
use Rattle.vch_value.specs.Flight.{Receipt}
use Rattle.vch_value.specs.Picture.{flags_at, is_met}
use Rattle.vch_machine.specs.State as machine
use Rattle.vch_machine.specs.State.{Place, same_place, Claim, Machine, Tasked, tasked, idle, is_place, frame_expects, is_expected, claim_at, frame_claims, claims_on, is_empty}
use Rattle.vch_parts.specs.declared.frame.Frame.{Frame}
use Rattle.vch_frame.specs.declared.frame.KeyReceipt.{KeyReceipt}
use Rattle.vch_parts.specs.Plain.{Plain, Part, part_of, idle_part}
use Rattle.vch_frame.specs.Pairs.{Optional}
use Rattle.vch_parts.specs.Shape.{Shape, IsReceipt, IsFrame}
use Rattle.vch_parts.specs.Pictures.{picture_of, receipt_of, receipts_of}
use Rattle.vch_base.specs.Keys.{same_key}

any_along : {X Y : Type 0} (p : X → Bool) (q : Y → Bool) (d : X) (e : Y) (xs : List X) (ys : List Y) → length xs ≡ length ys → ((i : ℕ) → i < length xs → p (get_or xs i d) ≡ q (get_or ys i e)) → list_any p xs ≡ list_any q ys
any_along p q d e [] [] l f = refl
any_along p q d e [] (y ∷ ys) l f = absurd (omega arith)
any_along p q d e (x ∷ xs) [] l f = absurd (omega arith)
any_along p q d e (x ∷ xs) (y ∷ ys) l f =
    let a : p x ≡ q y = f 0 (omega arith) in
    let r : list_any p xs ≡ list_any q ys = any_along p q d e xs ys (omega (arith, l)) (λ i j. f (suc i) (omega (arith, j))) in
    rw (a, r) refl

module _ (k : Key) (h : ℕ) where
  abbrev pub here : Place
  here = record { key = k; handle = h }

  abbrev pub met : List Receipt → Bool
  met [] = false
  met (r ∷ rs) = (r.handle == h) || met rs

  pub met_flags : (rs : List Receipt) → met rs ≡ is_met (flags_at h rs)
  met_flags [] = refl
  met_flags (r ∷ rs) = by (r.handle == h) (met_flags rs)
    where
      by : (b : Bool) → met rs ≡ is_met (flags_at h rs) → (b || met rs) ≡ is_met (cond b (r.persist ∷ flags_at h rs) (flags_at h rs))
      by true e = grind (arith, common_steps)
      by false e = e

  met_append : (xs ys : List Receipt) → met (xs ++ ys) ≡ (met xs || met ys)
  met_append [] ys = refl
  met_append (x ∷ xs) ys = let e : met (xs ++ ys) ≡ (met xs || met ys) = met_append xs ys in rw e (grind arith)

  met_flat : {X : Type 0} (f : X → List Receipt) (xs : List X) → met (flat_map f xs) ≡ list_any (λ x. met (f x)) xs
  met_flat f [] = refl
  met_flat f (x ∷ xs) = met_append (f x) (flat_map f xs) ∙ ap (λ b. met (f x) || b) (met_flat f xs)

  receipt_same : (r : Option KeyReceipt) (p : Option Place) → Optional IsReceipt r p → met (receipt_of k r) ≡ is_place p here
  receipt_same None None e = refl
  receipt_same None (Some p) e = absurd e
  receipt_same (Some r) None e = absurd e
  receipt_same (Some r) (Some p) e = by (same_key r.key k) ∙ rw (e.0, e.1) refl
    where
      by : (b : Bool) → met (cond b (r.receipt ∷ []) []) ≡ (b && (r.receipt.handle == h))
      by true = grind arith
      by false = refl

  module _ (sc : Scenario) (c : Plain) (m : Machine) (s : Shape sc c m) where
    frame_same : (f : Option Frame) (g : Option machine.Frame) → Optional (IsFrame c.keyed) f g → met (receipts_of k f) ≡ frame_expects g here
    frame_same None None e = refl
    frame_same None (Some g) e = absurd e
    frame_same (Some f) None e = absurd e
    frame_same (Some f) (Some g) e = receipt_same f.receipt g.receipt e.receipt

    each_task : (i : ℕ) → i < length c.tasks → met (receipts_of k (get_or c.tasks i idle_part).frame) ≡ frame_expects (get_or m.tasks i idle).frame here
    each_task i l =
        let t = s.tasks (suc i) (omega arith) (omega (arith, l)) in
        (frame_same (part_of c (suc i)).frame (tasked m (suc i)).frame t.frame)

    -- some frame of the state expects a handle exactly where the picture has a receipt for it
    pub expected_met : is_expected m here ≡ is_met (flags_at h (picture_of k c m).receipts)
    expected_met =
        sym (any_along (λ (x : Part). met (receipts_of k x.frame)) (λ (y : Tasked). frame_expects y.frame here) idle_part idle c.tasks m.tasks s.long each_task)
        ∙ sym (met_flat (λ (x : Part). receipts_of k x.frame) c.tasks) ∙ met_flags (picture_of k c m).receipts
