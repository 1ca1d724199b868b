-- What a call has come to where one of its own events is next.
use Rattle.std.proofs.Common.{◌≡◌, ℕ, ◌+◌, Bool, List, [], ◌∷◌, refl, true, false, not, ◌&&◌, sym, ◌∙◌, subst, drop, length, Some, None, Option}
use Rattle.std.specs.Prelude.{is_some, if◌then◌else◌, ◌==◌}
use Rattle.vch_base.specs.declared.key.Key.{Key}
use Rattle.vch_base.specs.declared.key.TheConstants.{ALL_KEYS}
use Rattle.vch_base.specs.declared.kind.Kind.{Kind}
use Rattle.vch_base.specs.declared.kind.Kind.TheVariants as kinds
use Rattle.vch_recipe.specs.Recipes.{First, One, first_of}
use Rattle.vch_model.specs.declared.call.Call.{Call}
use Rattle.vch_model.specs.declared.call.Call.TheVariants as calls
use Rattle.vch_model.specs.declared.lists.Scenario.{Scenario}
use Rattle.vch_model.specs.Store.{Member}
use Rattle.vch_machine.specs.State.{Handles, Place, Living, Named, Claim, Frame, Machine, tasked, valued, member_of, is_empty}
use Rattle.vch_machine.specs.Making.{keys_left, tail_keys, moved, moved_first}
use Rattle.vch_machine.specs.Next.{nth_call, claim_next, call_next, unanswered_next, lets_next, unclaimed_next, frame_next}
use Rattle.vch_legal.specs.Facts.{FrameFits}
use Rattle.vch_legal.specs.Tie.{Forms, FrameForms, IsForming, moved_keys, moved_place, moved_keys_first, moved_place_first, place_with, keys_with, map_with, Awaits}
use Rattle.vch_legal.proofs.tasks.OwnSteps.{Before}
use Rattle.vch_legal.proofs.steps.LeaveSteps.{forming_of}

pub some_kind : (a b : Kind) → Some a ≡ Some b → a ≡ b
some_kind a b e = cc

-- the events of the call itself
abbrev pub is_call_kind : Kind → Bool
is_call_kind kinds.Work = true
is_call_kind kinds.Make = true
is_call_kind kinds.Place = true
is_call_kind kind = false

not_call : (k kind : Kind) → Some k ≡ Some kind → is_call_kind kind ≡ true → is_call_kind k ≡ false → ⊥
not_call k kind e c n = let g : k ≡ kind = cc in let h : is_call_kind kind
    ≡ false = subst (λ (x : Kind). is_call_kind x ≡ false) g n in let i : true ≡ false = sym c ∙ h in cc

claim_kind : (c : Claim) → is_call_kind (claim_next c) ≡ false
claim_kind c = by_answer (is_some c.answer)
  where
    by_answer : (b : Bool) → is_call_kind (if b then kinds.Recheck else kinds.Ask) ≡ false
    by_answer true = refl
    by_answer false = refl

-- the call's next event
pub record Called (version : ℕ) (names : List Named) (f : Frame) (call : Option Call) (kind : Kind) : Type 0 where
  pub unanswered : f.answered ≡ false
  pub receipt : f.receipt ≡ None
  pub claim : f.claim ≡ None
  pub next : call_next version names f.at_byte f.keys call ≡ Some kind

called_answered : (version : ℕ) (names : List Named) (f : Frame) (call : Option Call) (b : Bool) (kind : Kind)
    → f.receipt
    ≡ None → f.claim ≡ None → f.answered ≡ b → unanswered_next version names f call b ≡ Some kind
    → Called version names f call kind
called_answered version names f call true kind r c e g = cc
called_answered version names f call false kind r c e g = record { unanswered = e; receipt = r; claim = c; next = g }

called_lets : (version : ℕ) (names : List Named) (f : Frame) (call : Option Call) (lets : List Place) (kind : Kind)
    → f.receipt ≡ None → f.claim ≡ None → lets_next version names f call lets ≡ Some kind → is_call_kind kind ≡ true
    → Called version names f call kind
called_lets version names f call (p ∷ rest) kind r c g k = absurd (not_call kinds.LetGo kind g k refl)
called_lets version names f call [] kind r c g k = called_answered version names f call f.answered kind r c refl g

called_claim : (version : ℕ) (names : List Named) (f : Frame) (call : Option Call) (o : Option Claim) (kind : Kind)
    → f.receipt ≡ None → f.claim ≡ o → unclaimed_next version names f call o ≡ Some kind → is_call_kind kind ≡ true
    → Called version names f call kind
called_claim version names f call (Some c) kind r e g k = absurd (not_call (claim_next c) kind g k (claim_kind c))
called_claim version names f call None kind r e g k = called_lets version names f call f.lets kind r e g k

called_receipt : (version : ℕ) (names : List Named) (f : Frame) (call : Option Call) (o : Option Place) (kind : Kind)
    → f.receipt ≡ o → frame_next version names f call o ≡ Some kind → is_call_kind kind ≡ true
    → Called version names f call kind
called_receipt version names f call (Some q) kind e g k = absurd (not_call kinds.Refer kind g k refl)
called_receipt version names f call None kind e g k = called_claim version names f call f.claim kind e refl g k

pub called : (version : ℕ) (names : List Named) (f : Frame) (call : Option Call) (kind : Kind)
    → frame_next version names f call f.receipt ≡ Some kind → is_call_kind kind ≡ true
    → Called version names f call kind
called version names f call kind g k = called_receipt version names f call f.receipt kind refl g k

-- what is formed, taken out of the frame
pub forms_at : (sc : Scenario) (t : ℕ) (m : Machine) (f : Frame) (v : Handles) (r : Option Place) (call : Call)
    → Before sc t m → (tasked m t).frame ≡ Some f → f.forming ≡ Some v → f.receipt ≡ r
    → nth_call sc t (tasked m t).begun ≡ Some call
    → Forms sc (member_of m.live (tasked m t)) t call (place_with sc.version call f.at_byte f.keys r)
    (keys_with sc.version call f.at_byte f.keys r) (valued m.live (map_with v r))
forms_at sc t m f v r call s e forming receipt there =
    (subst (λ (o : Option Call). FrameForms sc m.live (member_of m.live (tasked m t)) t f.at_byte f.keys r f.answered
    (Some v) o)
    there
    (subst (λ (w : Option Handles). FrameForms sc m.live (member_of m.live (tasked m t)) t f.at_byte f.keys r
    f.answered w
    (nth_call sc t (tasked m t).begun)) forming
    (subst (λ (q : Option Place). FrameForms sc m.live (member_of m.live (tasked m t)) t f.at_byte f.keys q f.answered
    f.forming
    (nth_call sc t (tasked m t).begun)) receipt (forming_of sc t m f s e)))).0

-- and put into a frame
pub forms_in : (sc : Scenario) (live : List Living) (x : Member) (t begun : ℕ) (g : Frame) (v : Handles)
    (r : Option Place) (call : Call) → g.forming ≡ Some v → g.receipt ≡ r → nth_call sc t begun ≡ Some call
    → Forms sc x t call (place_with sc.version call g.at_byte g.keys r) (keys_with sc.version call g.at_byte g.keys r)
    (valued live (map_with v r)) → Awaits sc live x t call g.at_byte g.keys v r → IsForming sc live x t begun (Some g)
forms_in sc live x t begun g v r call forming receipt there h a =
    subst (λ (q : Option Place). FrameForms sc live x t g.at_byte g.keys q g.answered g.forming (nth_call sc t begun))
    (sym receipt)
    (subst (λ (w : Option Handles). FrameForms sc live x t g.at_byte g.keys r g.answered w (nth_call sc t begun))
    (sym forming)
    (subst (λ (o : Option Call). FrameForms sc live x t g.at_byte g.keys r g.answered (Some v) o) (sym there) (h, a)))

-- a call that is not answered and forms no voucher is an exit
pub exits_at : (sc : Scenario) (t : ℕ) (m : Machine) (f : Frame) → Before sc t m → (tasked m t).frame ≡ Some f
    → f.answered ≡ false → f.forming ≡ None → nth_call sc t (tasked m t).begun ≡ Some calls.Exit
exits_at sc t m f s e unanswered forming =
    subst (λ (b : Bool). FrameForms sc m.live (member_of m.live (tasked m t)) t f.at_byte f.keys f.receipt b None
    (nth_call sc t (tasked m t).begun)) unanswered
    (subst (λ (w : Option Handles). FrameForms sc m.live (member_of m.live (tasked m t)) t f.at_byte f.keys f.receipt
    f.answered w
    (nth_call sc t (tasked m t).begun)) forming (forming_of sc t m f s e))

-- a call is under way while it is not answered
abbrev pub CallThere : Scenario → ℕ → Machine → Type 0
CallThere sc t m = (call : Call) × (nth_call sc t (tasked m t).begun ≡ Some call)

pub call_there : (sc : Scenario) (t : ℕ) (m : Machine) (f : Frame) → Before sc t m → (tasked m t).frame ≡ Some f
    → f.answered ≡ false → CallThere sc t m
call_there sc t m f s e unanswered = by_forming f.forming refl
  where
    by_call : (v : Handles) (o : Option Call) → nth_call sc t (tasked m t).begun ≡ o
        → FrameForms sc m.live (member_of m.live (tasked m t)) t f.at_byte f.keys f.receipt f.answered (Some v) o
        → CallThere sc t m
    by_call v None g h = absurd h
    by_call v (Some call) g h = (call, g)

    by_forming : (o : Option Handles) → f.forming ≡ o → CallThere sc t m
    by_forming None g = (calls.Exit, exits_at sc t m f s e unanswered g)
    by_forming (Some v) g =
        by_call v (nth_call sc t (tasked m t).begun) refl
        (subst (λ (w : Option Handles). FrameForms sc m.live (member_of m.live (tasked m t)) t f.at_byte f.keys
        f.receipt f.answered w
        (nth_call sc t (tasked m t).begun)) g (forming_of sc t m f s e))

-- a voucher is formed by a call that is not answered
pub still_open : (f : Frame) (v : Handles) → FrameFits f → f.forming ≡ Some v → f.answered ≡ false
still_open f v h g = by_answer f.answered refl
  where
    none : (w : Option Handles) → w ≡ Some v → w ≡ None → ⊥
    none w g h = cc

    by_answer : (b : Bool) → f.answered ≡ b → b ≡ false
    by_answer true e = absurd (none f.forming g (h.answered e))
    by_answer false e = refl

-- a key that is done, as the frame has it
abbrev pub at_keys : Frame → ℕ → List Key → Frame
at_keys f place ks = record f { at_byte = place; keys = ks }

moved_first_is : (version : ℕ) (f : Frame) (first : First) → moved_first version f first
    ≡ at_keys f (moved_place_first version f.keys f.at_byte first) (moved_keys_first version f.keys first)
moved_first_is version f (One r rest) =
    by_test ((r.key == ALL_KEYS) && not (is_empty (tail_keys (keys_left version f.keys))))
  where
    by_test : (b : Bool) → (if b then record f { keys = tail_keys (keys_left version f.keys) } else record f
        { keys = []; at_byte = f.at_byte + (16 + length r.content) })
        ≡ at_keys f (if b then f.at_byte else f.at_byte + (16 + length r.content))
        (if b then tail_keys (keys_left version f.keys) else [])
    by_test true = refl
    by_test false = refl
moved_first_is version f First.End = refl
moved_first_is version f (First.HeaderCut left) = refl
moved_first_is version f (First.ContentCut wanted left) = refl

pub moved_is : (version : ℕ) (call : Call) (f : Frame) → moved version call f
    ≡ at_keys f (moved_place version call f.at_byte f.keys) (moved_keys version call f.at_byte f.keys)
moved_is version (calls.Create bytes) f = moved_first_is version f (first_of (drop f.at_byte bytes))
moved_is version (calls.GiveUp name) f = refl
moved_is version (calls.Extract name key) f = refl
moved_is version (calls.Recipes name) f = refl
moved_is version (calls.Send to moving name id) f = refl
moved_is version calls.Recv f = refl
moved_is version (calls.Extern name adding n) f = refl
moved_is version (calls.Charge name n) f = refl
moved_is version calls.Ledger f = refl
moved_is version calls.Assertions f = refl
moved_is version calls.Live f = refl
moved_is version calls.Exit f = refl
