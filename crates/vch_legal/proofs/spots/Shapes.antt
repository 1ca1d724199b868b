-- What a frame is where an event of its is next.
use Rattle.std.proofs.Common.{◌≡◌, ℕ, Bool, List, [], ◌∷◌, refl, true, false, Some, None, Option, subst, drop}
use Rattle.std.specs.Prelude.{is_some, if◌then◌else◌}
use Rattle.vch_base.specs.declared.key.Key.{Key}
use Rattle.vch_recipe.specs.Recipes.{First, One, first_of}
use Rattle.vch_model.specs.declared.call.Call.{Call}
use Rattle.vch_model.specs.declared.call.Call.TheVariants as calls
use Rattle.vch_model.specs.Legal.{asks}
use Rattle.vch_base.specs.declared.kind.Kind.TheVariants as kinds
use Rattle.vch_machine.specs.State.{is_empty, Place, Named, Claim, Frame}
use Rattle.vch_base.specs.declared.kind.Kind.{Kind}
use Rattle.vch_machine.specs.Next.{claim_next, first_next, known_name, call_next, unanswered_next, lets_next, unclaimed_next, frame_next}

-- by the kind of the event
abbrev pub Shape : Frame → Kind → Type 0
Shape f kinds.Refer = (q : Place) × (f.receipt ≡ Some q)
Shape f kinds.Ask = (c : Claim) × (f.claim ≡ Some c) × (is_some c.answer ≡ false)
Shape f kinds.Recheck = (c : Claim) × (f.claim ≡ Some c) × (is_some c.answer ≡ true)
Shape f kinds.LetGo = (f.receipt ≡ None) × (f.claim ≡ None)
Shape f kind = (f.receipt ≡ None) × (f.claim ≡ None) × (f.lets ≡ [])

by_claim : (f : Frame) (c : Claim) (a : Bool) → f.claim ≡ Some c → is_some c.answer ≡ a
    → Shape f (if a then kinds.Recheck else kinds.Ask)
by_claim f c true e g = (c, e, g)
by_claim f c false e g = (c, e, g)

shape_if : (f : Frame) (b : Bool) (k l : Kind) → Shape f k → Shape f l → Shape f (if b then k else l)
shape_if f true k l x y = x
shape_if f false k l x y = y

shape_some : (f : Frame) (k kind : Kind) → Some k ≡ Some kind → Shape f k → Shape f kind
shape_some f k kind e s = let g : k ≡ kind = cc in subst (λ (x : Kind). Shape f x) g s

-- nothing but the call is left to do
abbrev Idle : Frame → Type 0
Idle f = (f.receipt ≡ None) × (f.claim ≡ None) × (f.lets ≡ [])

shape_first : (f : Frame) (version : ℕ) (names : List Named) (first : First) → Idle f
    → Shape f (first_next version names first)
shape_first f version names (One r rest) i = shape_if f (asks version (known_name names) r) kinds.Make kinds.Work i i
shape_first f version names First.End i = i
shape_first f version names (First.HeaderCut left) i = i
shape_first f version names (First.ContentCut wanted left) i = i

shape_keys : (f : Frame) (b : Bool) (kind : Kind) → Idle f → (if b then Some kinds.Place else Some kinds.Make)
    ≡ Some kind → Shape f kind
shape_keys f true kind i e = shape_some f kinds.Place kind e i
shape_keys f false kind i e = shape_some f kinds.Make kind e i

shape_call : (f : Frame) (version : ℕ) (names : List Named) (place : ℕ) (ks : List Key) (call : Option Call) (kind : Kind) → Idle f
    → call_next version names place ks call ≡ Some kind → Shape f kind
shape_call f version names place ks None kind i e = cc
shape_call f version names place ks (Some (calls.Create bytes)) kind i e =
    shape_some f (first_next version names (first_of (drop place bytes))) kind e
    (shape_first f version names (first_of (drop place bytes)) i)
shape_call f version names place ks (Some calls.Exit) kind i e = shape_some f kinds.Work kind e i
shape_call f version names place ks (Some call) kind i e = shape_keys f (is_empty ks) kind i e

shape_unanswered : (f : Frame) (version : ℕ) (names : List Named) (call : Option Call) (b : Bool) (kind : Kind) → Idle f
    → unanswered_next version names f call b ≡ Some kind → Shape f kind
shape_unanswered f version names call true kind i e = cc
shape_unanswered f version names call false kind i e = shape_call f version names f.at_byte f.keys call kind i e

shape_lets : (f : Frame) (version : ℕ) (names : List Named) (call : Option Call) (lets : List Place) (kind : Kind)
    → f.receipt ≡ None → f.claim ≡ None → f.lets ≡ lets → lets_next version names f call lets ≡ Some kind → Shape f kind
shape_lets f version names call (p ∷ rest) kind r c l e = shape_some f kinds.LetGo kind e (r, c)
shape_lets f version names call [] kind r c l e = shape_unanswered f version names call f.answered kind (r, c, l) e

shape_claim : (f : Frame) (version : ℕ) (names : List Named) (call : Option Call) (o : Option Claim) (kind : Kind)
    → f.receipt ≡ None → f.claim ≡ o → unclaimed_next version names f call o ≡ Some kind → Shape f kind
shape_claim f version names call (Some c) kind r g e = shape_some f (claim_next c) kind e
    (by_claim f c (is_some c.answer) g refl)
shape_claim f version names call None kind r g e = shape_lets f version names call f.lets kind r g refl e

shape_receipt : (f : Frame) (version : ℕ) (names : List Named) (call : Option Call) (o : Option Place) (kind : Kind)
    → f.receipt ≡ o
    → frame_next version names f call o ≡ Some kind → Shape f kind
shape_receipt f version names call (Some q) kind r e = shape_some f kinds.Refer kind e (q, r)
shape_receipt f version names call None kind r e = shape_claim f version names call f.claim kind r refl e

-- what is known of a frame where an event of this kind is next
pub shape_of : (f : Frame) (version : ℕ) (names : List Named) (call : Option Call) (kind : Kind)
    → frame_next version names f call f.receipt ≡ Some kind → Shape f kind
shape_of f version names call kind e = shape_receipt f version names call f.receipt kind refl e
