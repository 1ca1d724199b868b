-- What a reached core tells of a task: that a frame has a next event.
use Rattle.std.proofs.Common.{◌≡◌, ℕ, ◌<◌, ◌≤◌, Bool, true, false, refl, sym, ◌∙◌, arith, subst, Option, Some, None, IsTrue}
use Rattle.std.specs.Prelude.{is_some, IsSome, ◌↔◌, nat_lt}
use Rattle.std.proofs.lemmas.Grind.{common_steps}
use Rattle.vch_base.specs.declared.kind.Kind.{Kind}
use Rattle.vch_model.specs.Lines.{is_task}
use Rattle.vch_machine.specs.State.{Machine}
use Rattle.vch_machine.specs.Next.{next_kind}
use Rattle.vch_machine.specs.Events.{event}
use Rattle.vch_legal.proofs.CallerLemmas.{reached_stands, opened_next}
use Rattle.vch_parts.specs.declared.parts.Parts.{Parts}
use Rattle.vch_parts.specs.declared.frame.Frame.{Frame}
use Rattle.vch_parts.specs.Framed.{frame_of}
use Rattle.vch_parts.specs.Reached.{IsState, IsEventBy, MayFollow, Reached, Stands, IsNext, plain_of}
pub use Rattle.vch_whole.proofs.CallerLemmas.{Reach, reach, from_state, next_of, is_true, to_true, inside, frame_same, own_begun}
use Rattle.vch_runs.specs.Steps.{IsFrameNext}

pub is_there : (o : Option Frame) → IsSome o → is_some o ≡ true
is_there None e = cc
is_there (Some f) e = refl

pub true_some : (b : Bool) (o : Option Frame) → IsTrue b ↔ IsSome o → b ≡ true → is_some o ≡ true
true_some true o i e = is_there o (i.0 e)
true_some false o i e = cc

pub false_none : (b : Bool) (o : Option Frame) → IsTrue b ↔ IsSome o → b ≡ false → is_some o ≡ false
false_none true o i e = cc
false_none false None i e = refl
false_none false (Some f) i e = absurd (none (i.1 refl))
  where
    none : IsTrue false → ⊥
    none h = cc

some_is : (o : Option Frame) → is_some o ≡ true → IsSome o
some_is None e = cc
some_is (Some f) e = refl

pub frame_goes_on : (p : Parts) (t : ℕ) (kind : Option Kind) → Reached p → is_task p.scenario t ≡ true → is_some (frame_of p.frames t) ≡ true → IsNext p t kind → IsFrameNext p t kind
frame_goes_on p t kind r task frame e = by kind refl
  where
    x : Reach p
    x = reach p r

    there : is_some (next_kind p.scenario x.m t) ≡ true
    there = opened_next p.scenario x.m t ((reached_stands p.scenario x.moves x.m x.run).tasks t task) (frame_same p x.m t x.state task ∙ frame)

    by : (k : Option Kind) → kind ≡ k → IsFrameNext p t k
    by None g = let z : is_some kind ≡ true = subst (λ j. is_some j ≡ true) (next_of p t kind x.m e x.state) there in absurd (none_some kind g z)
      where
        none_some : (k : Option Kind) → k ≡ None → is_some k ≡ true → ⊥
        none_some None a b = cc
        none_some (Some j) a b = cc
    by (Some k) g = (some_is (frame_of p.frames t) frame, subst (IsNext p t) g e)

-- what an event does, from a state that the parts stand for
pub record Did (p q : Parts) (t : ℕ) (kind : Kind) (want : Bool) (m : Machine) : Type 0 where
  pub n : Machine
  pub event : event p.scenario want m t ≡ Some n
  pub next : next_kind p.scenario m t ≡ Some kind
  pub stands : Stands q n

pub did : (p q : Parts) (t : ℕ) (kind : Kind) (f : MayFollow kind t p q) (m : Machine) → Stands p m → Did p q t kind f.want m
unfolding IsEventBy
did p q t kind f m s = let e = f.event m s in record { n = e.0; event = e.1; next = e.2; stands = subst (λ sc. IsState sc (plain_of q) e.0) (sym f.scenario) e.3 }

pub same_kind : (p q : Parts) (t : ℕ) (kind done : Kind) → Reached p → IsNext p t (Some kind) → MayFollow done t p q → IsNext p t (Some done)
same_kind p q t kind done r e f =
    let x = reach p r in
    let y = did p q t done f x.m x.state in
    subst (IsNext p t) (sym (next_of p t (Some kind) x.m e x.state) ∙ y.next) e

pub not_ended : (a b : ℕ) (c : Bool) → IsTrue c ↔ (a ≤ b) → c ≡ false → b < a
not_ended a b c i e = test (nat_lt b a) refl
  where
    by : (c : Bool) → IsTrue c → c ≡ false → ⊥
    by true h e = cc
    by false h e = cc

    test : (d : Bool) → nat_lt b a ≡ d → b < a
    test true g = grind (arith, common_steps)
    test false g = let l : a ≤ b = grind (arith, common_steps) in absurd (by c (i.1 l) e)

pub when_ended : (a b : ℕ) (c : Bool) → IsTrue c ↔ (a ≤ b) → c ≡ true → a ≤ b
when_ended a b c i e = i.0 (to_true c e)
