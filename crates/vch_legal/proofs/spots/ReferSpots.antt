-- Refer keeps the facts of every handle.
use Rattle.std.proofs.Common.{◌≡◌, ℕ, Bool, List, ◌++◌, refl, true, false, not, ◌&&◌, ◌||◌, arith, sym, ap, ◌∙◌, subst, map, Some, None, drop}
use Rattle.std.specs.Prelude.{is_some, if◌then◌else◌, ◌==◌}
use Rattle.std.specs.List.{list_any}
use Rattle.std.proofs.lemmas.List.Folds.{list_any-append}
use Rattle.vch_base.specs.declared.key.Key.{Key}
use Rattle.vch_base.specs.Keys.{number_of}
use Rattle.vch_base.specs.Keyed.{of_key, with_key}
use Rattle.vch_base.specs.declared.key.TheConstants.{ALL_KEYS}
use Rattle.vch_recipe.specs.Recipes.{First, One, first_of}
use Rattle.vch_model.specs.declared.call.Call.{Call}
use Rattle.vch_model.specs.declared.call.Call.TheVariants as calls
use Rattle.vch_machine.specs.State.{Handles, Place, same_place, Frame, Machine, tasked, has_place, option_has, is_handle, frame_holds, frame_expects, frame_claims, claim_at, is_place, is_held, is_expected, claims_on, living_at, is_empty}
use Rattle.vch_machine.specs.Frames.{closed}
use Rattle.vch_machine.specs.Leaving.{is_fixed}
use Rattle.vch_machine.specs.Making.{on_claims, on_claim, back_claim, moved, moved_first, keys_left, tail_keys, do_refer}
use Rattle.vch_machine.specs.Naming.{item}
use Rattle.vch_legal.specs.Facts.{spot, spot_fits}
use Rattle.vch_legal.proofs.facts.Choices.{cases_bool}
use Rattle.vch_legal.proofs.spots.SpotSteps.{one, refer_keeps, back_now}
use Rattle.vch_legal.proofs.spots.Places.{Settled, same_place_eq, same_place_refl, closed_holds, closed_expects, closed_claims}
use Rattle.vch_legal.proofs.spots.FrameSpots.{one_eq, kept_named, others_expect, claims_before, claims_behind, spot_set, spot_of, spot_same, task_in_range}
use Rattle.vch_legal.proofs.spots.EventSpots.{AllFit, fits_of}
use Rattle.vch_legal.proofs.spots.WorkSpots.{item_holds, of_voucher, same_key_handle}
use Rattle.vch_legal.proofs.spots.ClaimMaps.{spot_on, spot_on_other, back_here, back_other, frame_on}

abbrev at_key : Key → ℕ → Place
at_key k h = record { key = k; handle = h }

abbrev lets_hold : List Place → Place → Bool
lets_hold lets p = list_any (λ q. same_place q p) lets

swap_at : (k g : Key) (h n : ℕ) (v : Handles) (a : Bool) → same_place (at_key k h) (at_key g n) ≡ false
    → (has_place (with_key k (Some h) v) (at_key g n) || (a || lets_hold (item k (of_key k v)) (at_key g n))) ≡
    (has_place v (at_key g n) || a)
swap_at k g h n v a e =
    ap (λ b. has_place (with_key k (Some h) v) (at_key g n) || (a || b))
    (item_holds k g (of_key k v) n ∙ same_key_handle k g v n)
    ∙ (ap (λ b. b || (a || ((number_of k == number_of g) && is_handle (of_key g v) n)))
    (of_voucher k g (Some h) v n)
    ∙ by_test (number_of k == number_of g) (h == n) (is_handle (of_key g v) n) a e)
  where
    by_test : (same x y a : Bool) → (same && x) ≡ false → ((if same then x else y) || (a || (same && y))) ≡ (y || a)
    by_test true x y a g = grind arith
    by_test false x y a g = grind arith

-- what moving on leaves of a frame
pub record Moved (f g : Frame) : Type 0 where
  pub forming : g.forming ≡ f.forming
  pub receipt : g.receipt ≡ f.receipt
  pub lets : g.lets ≡ f.lets
  pub claim : g.claim ≡ f.claim
  pub answered : g.answered ≡ f.answered

moved_if : (b : Bool) (f g h : Frame) → Moved f g → Moved f h → Moved f (if b then g else h)
moved_if true f g h x y = x
moved_if false f g h x y = y

moved_one : (version : ℕ) (f : Frame) (first : First) → Moved f (moved_first version f first)
moved_one version f (One r rest) = moved_if
    ((r.key == ALL_KEYS) && not (is_empty (tail_keys (keys_left version f.keys)))) f _ _
    (record { forming = refl; receipt = refl; lets = refl; claim = refl; answered = refl })
    (record { forming = refl; receipt = refl; lets = refl; claim = refl; answered = refl })
moved_one version f First.End = record { forming = refl; receipt = refl; lets = refl; claim = refl; answered = refl }
moved_one version f (First.HeaderCut left) =
    record { forming = refl; receipt = refl; lets = refl; claim = refl; answered = refl }
moved_one version f (First.ContentCut wanted left) =
    record { forming = refl; receipt = refl; lets = refl; claim = refl; answered = refl }

pub moved_same : (version : ℕ) (call : Call) (f : Frame) → Moved f (moved version call f)
moved_same version (calls.Create bytes) f = moved_one version f (first_of (drop f.at_byte bytes))
moved_same version call f = record { forming = refl; receipt = refl; lets = refl; claim = refl; answered = refl }

-- the frame after a Refer
abbrev pub referred : Frame → Handles → Place → Frame
referred f v q = record f {
  forming = Some (with_key q.key (Some q.handle) v);
  lets = f.lets ++ item q.key
      (of_key q.key v);
  receipt = None;
}

-- a call that has a receipt is not answered by its Refer
pub still_open : (version : ℕ) (call : Call) (f : Frame) (v : Handles) (q : Place) → f.answered ≡ false → Settled
    (moved version call (referred f v q))
still_open version call f v q going h = let k : false ≡ true =
    sym going ∙ (sym (moved_same version call (referred f v q)).answered ∙ h) in cc

pub holds_eq : (f g : Frame) (p : Place) → Moved f g → frame_holds (Some g) p ≡ frame_holds (Some f) p
holds_eq f g p same = ap (λ x. option_has x p || lets_hold g.lets p) same.forming
    ∙ ap (λ x. option_has f.forming p || lets_hold x p) same.lets

referred_holds : (f : Frame) (v : Handles) (q p : Place) → f.forming ≡ Some v → same_place q p ≡ false
    → frame_holds (Some (referred f v q)) p ≡ frame_holds (Some f) p
referred_holds f v q p e other =
    ap (λ x. has_place (with_key q.key (Some q.handle) v) p || x)
    (list_any-append (λ r. same_place r p) f.lets (item q.key (of_key q.key v)))
    ∙ (swap_at q.key p.key q.handle p.handle v (lets_hold f.lets p) other
    ∙ sym (ap (λ x. option_has x p || lets_hold f.lets p) e))

has_new : (k : Key) (h : ℕ) (v : Handles) → has_place (with_key k (Some h) v) (at_key k h) ≡ true
has_new k h v = of_voucher k k (Some h) v h ∙ by_test (number_of k == number_of k) (h == h) (is_handle (of_key k v) h)
    (same_place_refl (at_key k h))
  where
    by_test : (same x y : Bool) → (same && x) ≡ true → (if same then x else y) ≡ true
    by_test true x y g = g
    by_test false x y g = cc

or_true : (a b c : Bool) → a ≡ true → ((a || b) || c) ≡ true
or_true a b c e = grind arith

-- the machine with the claims of others marked as back
abbrev backed : Machine → Place → Machine
backed m q = on_claims (back_claim q) m

pub refer_other : (version : ℕ) (m : Machine) (t : ℕ) (f : Frame) (v : Handles) (call : Call) (q p : Place)
    → (tasked m t).frame ≡ Some f
    → f.answered ≡ false → f.forming ≡ Some v → f.claim ≡ None → f.receipt ≡ Some q → same_place q p ≡ false
    → spot (do_refer version m t f v call q) p ≡ spot m p
refer_other version m t f v call q p e going forming claim receipt other =
    spot_same (backed m q) t (record f { claim = on_claim (back_claim q) f.claim })
    (closed (moved version call (referred f v q))) p (frame_on m t f (back_claim q) e)
    (closed_holds (moved version call (referred f v q)) p (still_open version call f v q going) ∙
    (holds_eq (referred f v q) (moved version call (referred f v q)) p
    (moved_same version call (referred f v q)) ∙ referred_holds f v q p forming other))
    (closed_expects (moved version call (referred f v q)) p ∙ (ap (λ x. is_place x p)
    (moved_same version call (referred f v q)).receipt ∙ sym (ap (λ x. is_place x p) receipt ∙ other)))
    (closed_claims (moved version call (referred f v q)) p ∙ (ap (λ x. claim_at x p)
    ((moved_same version call (referred f v q)).claim ∙ claim) ∙ sym
    (ap (λ x. claim_at (on_claim (back_claim q) x) p) claim)))
    ∙ spot_on_other m (back_claim q) p (λ c. back_other q p c other)

-- a receipt is there after a Refer only by others
abbrev pub after_expects : ℕ → Machine → ℕ → Frame → Handles → Call → Place → Bool
after_expects version m t f v call q = frame_expects
    (closed (moved version call (referred f v q))) q || others_expect (backed m q) t q

pub refer_here : (version : ℕ) (m : Machine) (t : ℕ) (f : Frame) (v : Handles) (call : Call) (q : Place)
    → (tasked m t).frame
    ≡ Some f
    → f.answered ≡ false → f.forming ≡ Some v → f.claim ≡ None
    → spot (do_refer version m t f v call q) q ≡ one (is_some (living_at m.live q)) (is_fixed m q) true
    (after_expects version m t f v call q) (map back_now (claims_on m q))
refer_here version m t f v call q e going forming claim =
    spot_set (backed m q) t (closed (moved version call (referred f v q))) q
    (task_in_range (backed m q) t _ (frame_on m t f (back_claim q) e))
    ∙ one_eq _ _ _ _ _ _ _ _ held refl claims
  where
    held : (frame_holds (closed (moved version call (referred f v q))) q || kept_named (backed m q) t q) ≡ true
    held = ap (λ x. x || kept_named (backed m q) t q)
        (closed_holds (moved version call (referred f v q)) q (still_open version call f v q going)
        ∙ holds_eq (referred f v q) (moved version call (referred f v q)) q (moved_same version call (referred f v q)))
        ∙ or_true (has_place (with_key q.key (Some q.handle) v) q)
        (lets_hold (f.lets ++ item q.key (of_key q.key v)) q) (kept_named (backed m q) t q)
        (has_new q.key q.handle v)

    claims : claims_before (backed m q) t q ++ (frame_claims (closed (moved version call (referred f v q))) q ++ claims_behind
        (backed m q) t q) ≡ map back_now (claims_on m q)
    claims = ap (λ x. claims_before (backed m q) t q ++ (x ++ claims_behind (backed m q) t q))
        (closed_claims (moved version call (referred f v q)) q ∙ (ap (λ x. claim_at x q)
        ((moved_same version call (referred f v q)).claim ∙ claim)
        ∙ sym (ap (λ x. claim_at (on_claim (back_claim q) x) q) claim)))
        ∙ (sym (ap (λ s. s.claims) (spot_of (backed m q) t (record f { claim = on_claim (back_claim q) f.claim }) q
        (frame_on m t f (back_claim q) e)))
        ∙ ap (λ s. s.claims) (spot_on m (back_claim q) back_now q (back_here q)))

refer_same : (version : ℕ) (m : Machine) (t : ℕ) (f : Frame) (v : Handles) (call : Call) (q : Place)
    → (tasked m t).frame ≡ Some f
    → f.answered ≡ false → f.forming ≡ Some v → f.claim ≡ None → f.receipt ≡ Some q → spot_fits (spot m q) ≡ true
    → spot_fits (spot (do_refer version m t f v call q) q) ≡ true
refer_same version m t f v call q e going forming claim receipt h =
    fits_of (spot (do_refer version m t f v call q) q) _ (refer_here version m t f v call q e going forming claim)
    (refer_keeps (is_some (living_at m.live q)) (is_fixed m q) (is_held m q) _ (claims_on m q)
    (fits_of (one (is_some (living_at m.live q)) (is_fixed m q) (is_held m q) true (claims_on m q)) (spot m q)
    (ap (λ x. one (is_some (living_at m.live q)) (is_fixed m q) (is_held m q) x (claims_on m q)) (sym expected)) h))
  where
    or_left : (a b : Bool) → a ≡ true → (a || b) ≡ true
    or_left a b k = grind arith

    expected : is_expected m q ≡ true
    expected = ap (λ s. s.expected) (spot_of m t f q e) ∙ or_left (is_place f.receipt q) (others_expect m t q)
        (ap (λ x. is_place x q) receipt ∙ same_place_refl q)

-- Refer keeps the facts of every handle
pub refer_fits : (version : ℕ) (m : Machine) (t : ℕ) (f : Frame) (v : Handles) (call : Call) (q : Place)
    → (tasked m t).frame
    ≡ Some f
    → f.answered ≡ false → f.forming ≡ Some v → f.claim ≡ None → f.receipt ≡ Some q → AllFit m
    → AllFit (do_refer version m t f v call q)
refer_fits version m t f v call q e going forming claim receipt h p =
    cases_bool (same_place q p) (spot_fits (spot (do_refer version m t f v call q) p) ≡ true)
    (λ here. subst (λ (r : Place). spot_fits (spot (do_refer version m t f v call q) r) ≡ true) (same_place_eq q p here)
    (refer_same version m t f v call q e going forming claim receipt (h q)))
    (λ other. fits_of (spot (do_refer version m t f v call q) p) (spot m p)
    (refer_other version m t f v call q p e going forming claim receipt other) (h p))
