-- What an event of one task has to pay for, and what it costs where it changes the frame alone.
use Rattle.std.proofs.Common.{◌≡◌, ℕ, ◌+◌, ◌*◌, ◌≤◌, Bool, true, false, List, [], ◌∷◌, ◌++◌, refl, arith, sym, ap, ◌∙◌, subst, length, length-append, Some, None, Option}
use Rattle.vch_base.specs.declared.key.Key.{Key}
use Rattle.vch_base.specs.declared.key.Key.TheVariants as keys
use Rattle.vch_base.specs.Keyed.{Keyed, of_key, with_key}
use Rattle.vch_model.specs.declared.call.Call.{Call}
use Rattle.vch_model.specs.declared.entry.Reply.{Reply}
use Rattle.vch_model.specs.declared.lists.Scenario.{Scenario}
use Rattle.vch_machine.specs.State.{Place, Claim, Pool, Frame, Tasked, Machine, tasked}
use Rattle.vch_machine.specs.Frames.{closed, with_frame, replied}
use Rattle.vch_machine.specs.Next.{nth_call}
use Rattle.vch_legal.specs.Facts.{most_lets}
use Rattle.vch_legal.proofs.CallerLemmas.{IsAmong, own_task, Near}
use Rattle.vch_bounds.specs.Rooms.{made_in, given_up_in}
use Rattle.vch_bounds.specs.Spent.{call_takes, call_lets, given_lets, takes_of, lets_of, flying_of, takes_in, lets_in, flying_in}

-- what an event of a task owes: its own share of each bound
pub record Pays (sc : Scenario) (t : ℕ) (m n : Machine) : Type 0 where
  pub refers : 4 * n.tally.refers + takes_in sc t (tasked n t) + call_takes * (tasked m t).begun
      ≤ 4 * m.tally.refers + takes_in sc t (tasked m t) + call_takes * (tasked n t).begun
  pub claims : 4 * n.tally.claims + lets_in sc t (tasked n t) + call_lets * (tasked m t).begun + given_lets * given_up_in m.past
      ≤ 4 * m.tally.claims + lets_in sc t (tasked m t) + call_lets * (tasked n t).begun + given_lets * given_up_in n.past
  pub made : made_in n.past + m.tally.refers + flying_in t (tasked m t) ≤ made_in m.past + n.tally.refers + flying_in t (tasked n t)
  pub used : (k : Key) → (of_key k n.pools).used + made_in m.past ≤ (of_key k m.pools).used + made_in n.past

-- its task after an event that begins no call
pub record Own (t : ℕ) (m n : Machine) (g : Option Frame) : Type 0 where
  pub begun : (tasked n t).begun ≡ (tasked m t).begun
  pub frame : (tasked n t).frame ≡ g

-- the task has another frame, behind a state that an event passes through
pub own_framed : (t : ℕ) (m mid : Machine) (g : Option Frame) → IsAmong t mid.tasks → (tasked mid t).begun ≡ (tasked m t).begun
    → Own t m (with_frame mid t g) g
own_framed t m mid g among begun =
    let e : tasked (with_frame mid t g) t ≡ record (tasked mid t) { frame = g } = own_task mid t _ among in
    record { begun = ap (λ (x : Tasked). x.begun) e ∙ begun; frame = ap (λ (x : Tasked). x.frame) e }

-- no more handles of a key were used
pub as_used : (n : ℕ) → n ≤ n + 0
as_used n = omega arith

-- the handles of one key are replaced, of which n more were used at most
pub used_with : (k j : Key) (p : Pool) (pools : Keyed Pool) (n : ℕ) → p.used ≤ (of_key k pools).used + n
    → (of_key j (with_key k p pools)).used ≤ (of_key j pools).used + n
used_with keys.Importance keys.Importance p pools n h = h
used_with keys.Importance keys.Bank p pools n h = omega arith
used_with keys.Importance keys.User p pools n h = omega arith
used_with keys.Importance keys.Test p pools n h = omega arith
used_with keys.Bank keys.Importance p pools n h = omega arith
used_with keys.Bank keys.Bank p pools n h = h
used_with keys.Bank keys.User p pools n h = omega arith
used_with keys.Bank keys.Test p pools n h = omega arith
used_with keys.User keys.Importance p pools n h = omega arith
used_with keys.User keys.Bank p pools n h = omega arith
used_with keys.User keys.User p pools n h = h
used_with keys.User keys.Test p pools n h = omega arith
used_with keys.Test keys.Importance p pools n h = omega arith
used_with keys.Test keys.Bank p pools n h = omega arith
used_with keys.Test keys.User p pools n h = omega arith
used_with keys.Test keys.Test p pools n h = h

-- what a change of the frame costs: references taken (r), claims (c), and names and messages given up (d)
pub record Costs (version : ℕ) (call : Option Call) (f g : Option Frame) (r c d : ℕ) : Type 0 where
  pub takes : 4 * r + takes_of version call g ≤ takes_of version call f
  pub lets : 4 * c + lets_of version call g ≤ lets_of version call f + given_lets * d

-- an event that costs so much
pub record Counts (m n : Machine) (r c d : ℕ) : Type 0 where
  pub refers : n.tally.refers ≡ m.tally.refers + r
  pub claims : n.tally.claims ≡ m.tally.claims + c
  pub given : given_up_in n.past ≡ given_up_in m.past + d

pub frame_pays : (sc : Scenario) (t : ℕ) (m n : Machine) (f g : Option Frame) (r c d : ℕ) → (tasked m t).frame ≡ f → Own t m n g
    → Counts m n r c d → Costs sc.version (nth_call sc t (tasked m t).begun) f g r c d
    → made_in n.past + flying_of f ≤ made_in m.past + r + flying_of g
    → ((k : Key) → (of_key k n.pools).used + made_in m.past ≤ (of_key k m.pools).used + made_in n.past) → Pays sc t m n
frame_pays sc t m n f g r c d frame own counts costs made used =
    let b : (tasked n t).begun ≡ (tasked m t).begun = own.begun in
    let x : takes_in sc t (tasked m t) ≡ takes_of sc.version (nth_call sc t (tasked m t).begun) f =
    ap (takes_of sc.version (nth_call sc t (tasked m t).begun)) frame in
    let y : takes_in sc t (tasked n t) ≡ takes_of sc.version (nth_call sc t (tasked m t).begun) g =
    ap (λ k. takes_of sc.version (nth_call sc t k) (tasked n t).frame) own.begun
    ∙ ap (takes_of sc.version (nth_call sc t (tasked m t).begun)) own.frame in
    let v : lets_in sc t (tasked m t) ≡ lets_of sc.version (nth_call sc t (tasked m t).begun) f =
    ap (lets_of sc.version (nth_call sc t (tasked m t).begun)) frame in
    let w : lets_in sc t (tasked n t) ≡ lets_of sc.version (nth_call sc t (tasked m t).begun) g =
    ap (λ k. lets_of sc.version (nth_call sc t k) (tasked n t).frame) own.begun
    ∙ ap (lets_of sc.version (nth_call sc t (tasked m t).begun)) own.frame in
    let p : flying_in t (tasked m t) ≡ flying_of f = ap flying_of frame in
    let q : flying_in t (tasked n t) ≡ flying_of g = ap flying_of own.frame in
    record {
      refers = take _ _ _ _ _ _ _ _ b x y counts.refers costs.takes;
      claims = let_go _ _ _ _ _ _ _ _ _ _ b v w counts.claims counts.given costs.lets;
      made = make _ _ _ _ _ _ _ _ p q counts.refers made;
      used = used;
    }
  where
    take : (tn tm bn bm rn rm x y : ℕ) → bn ≡ bm → tm ≡ x → tn ≡ y → rn ≡ rm + r → 4 * r + y ≤ x
        → 4 * rn + tn + call_takes * bm ≤ 4 * rm + tm + call_takes * bn
    take tn tm bn bm rn rm x y b e h k l = omega arith

    let_go : (ln lm bn bm cn cm gn gm x y : ℕ) → bn ≡ bm → lm ≡ x → ln ≡ y → cn ≡ cm + c → gn ≡ gm + d → 4 * c + y ≤ x + given_lets * d
        → 4 * cn + ln + call_lets * bm + given_lets * gm ≤ 4 * cm + lm + call_lets * bn + given_lets * gn
    let_go ln lm bn bm cn cm gn gm x y b e h k l q = omega arith

    make : (fn fm rn rm mn mm x y : ℕ) → fm ≡ x → fn ≡ y → rn ≡ rm + r → mn + x ≤ mm + r + y
        → mn + rm + fm ≤ mm + rn + fn
    make fn fm rn rm mn mm x y e h k l = omega arith

-- a frame that is gone had nothing left
pub closed_takes : (version : ℕ) (call : Option Call) (g : Frame) → takes_of version call (closed g) ≡ takes_of version call (Some g)
closed_takes version call g = by_parts g.answered g.receipt g.claim g.lets
  where
    by_parts : (b : Bool) (r : Option Place) (c : Option Claim) (lets : List Place)
        → takes_of version call (closed (record g { answered = b; receipt = r; claim = c; lets = lets }))
        ≡ takes_of version call (Some (record g { answered = b; receipt = r; claim = c; lets = lets }))
    by_parts false r c lets = refl
    by_parts true (Some q) c lets = refl
    by_parts true None (Some c) lets = refl
    by_parts true None None (q ∷ lets) = refl
    by_parts true None None [] = omega arith

pub closed_lets : (version : ℕ) (call : Option Call) (g : Frame) → lets_of version call (closed g) ≡ lets_of version call (Some g)
closed_lets version call g = by_parts g.answered g.receipt g.claim g.lets
  where
    by_parts : (b : Bool) (r : Option Place) (c : Option Claim) (lets : List Place)
        → lets_of version call (closed (record g { answered = b; receipt = r; claim = c; lets = lets }))
        ≡ lets_of version call (Some (record g { answered = b; receipt = r; claim = c; lets = lets }))
    by_parts false r c lets = refl
    by_parts true (Some q) c lets = refl
    by_parts true None (Some c) lets = refl
    by_parts true None None (q ∷ lets) = refl
    by_parts true None None [] = omega arith

pub closed_flying : (g : Frame) → flying_of (closed g) ≡ flying_of (Some g)
closed_flying g = by_parts g.answered g.receipt g.claim g.lets
  where
    by_parts : (b : Bool) (r : Option Place) (c : Option Claim) (lets : List Place)
        → flying_of (closed (record g { answered = b; receipt = r; claim = c; lets = lets }))
        ≡ flying_of (Some (record g { answered = b; receipt = r; claim = c; lets = lets }))
    by_parts false r c lets = refl
    by_parts true (Some q) c lets = refl
    by_parts true None (Some c) lets = refl
    by_parts true None None (q ∷ lets) = refl
    by_parts true None None [] = refl

pub closed_costs : (version : ℕ) (call : Option Call) (f : Option Frame) (g : Frame) (r c d : ℕ)
    → Costs version call f (Some g) r c d → Costs version call f (closed g) r c d
closed_costs version call f g r c d h =
    let a = closed_takes version call g in
    let b = closed_lets version call g in
    record {
      takes = subst (λ k. 4 * r + k ≤ takes_of version call f) (sym a) h.takes;
      lets = subst (λ k. 4 * c + k ≤ lets_of version call f + given_lets * d) (sym b) h.lets;
    }

-- an event that changes the frame, answers the call or not, and makes nothing
pub quiet_pays : (sc : Scenario) (t : ℕ) (m n : Machine) (f : Frame) (g : Option Frame) (c d : ℕ) → (tasked m t).frame ≡ Some f
    → Own t m n g → Counts m n 0 c d → Costs sc.version (nth_call sc t (tasked m t).begun) (Some f) g 0 c d
    → made_in n.past ≡ made_in m.past → ((k : Key) → (of_key k n.pools).used ≤ (of_key k m.pools).used + 0)
    → flying_of g ≡ flying_of (Some f) → Pays sc t m n
quiet_pays sc t m n f g c d frame own counts costs made pools flying =
    frame_pays sc t m n (Some f) g 0 c d frame own counts costs (same _ _ _ _ made flying) (λ k. used _ _ _ _ (pools k) made)
  where
    same : (a b x y : ℕ) → a ≡ b → x ≡ y → a + y ≤ b + 0 + x
    same a b x y e h = omega arith

    used : (a b x y : ℕ) → a ≤ b + 0 → x ≡ y → a + y ≤ b + x
    used a b x y e h = omega arith

-- the call is answered, and at most the handles of two vouchers more are to be let go
pub answered_costs : (version : ℕ) (call : Option Call) (f g : Frame) (lets : List Place) → f.answered ≡ false → g.answered ≡ true
    → g.receipt ≡ f.receipt → g.lets ≡ f.lets ++ lets → length lets ≤ most_lets → Costs version call (Some f) (Some g) 0 0 0
answered_costs version call f g lets open_ answered receipt added few = by_parts f.answered g.answered g.receipt f.receipt open_ answered receipt
  where
    long : length g.lets ≡ length f.lets + length lets
    long = ap length added ∙ length-append f.lets lets

    by_parts : (a b : Bool) (q r : Option Place) → a ≡ false → b ≡ true → q ≡ r
        → Costs version call (Some (record f { answered = a; receipt = r })) (Some (record g { answered = b; receipt = q })) 0 0 0
    by_parts true b q r e h k = cc
    by_parts false false q r e h k = cc
    by_parts false true None None e h k = record { takes = omega arith; lets = omega (arith, long, few) }
    by_parts false true (Some q) (Some r) e h k = record { takes = omega arith; lets = omega (arith, long, few) }
    by_parts false true None (Some r) e h k = cc
    by_parts false true (Some q) None e h k = cc

-- a task of a state that an event passes through
pub near_among : (t : ℕ) (m mid : Machine) → Near t m mid → IsAmong t m.tasks → IsAmong t mid.tasks
near_among t m mid near among = (among.0, subst (λ i. t ≤ i) (sym near.tasks) among.1)

-- an event that answers the call
pub answered_pays : (sc : Scenario) (t : ℕ) (m mid : Machine) (f g : Frame) (call : Call) (reply : Reply) (lets : List Place)
    → (tasked m t).frame ≡ Some f → f.answered ≡ false → IsAmong t m.tasks → Near t m mid → mid.past ≡ m.past
    → g.answered ≡ true → g.receipt ≡ f.receipt → g.lets ≡ f.lets ++ lets → length lets ≤ most_lets
    → Pays sc t m (replied (with_frame mid t (closed g)) t call reply)
answered_pays sc t m mid f g call reply lets frame open_ among near past answered receipt added few =
    quiet_pays sc t m (replied (with_frame mid t (closed g)) t call reply) f (closed g) 0 0 frame
    (record { begun = own.begun; frame = own.frame })
    (record {
      refers = let a = ap (λ y. y.refers) near.tally in omega (arith, a);
      claims = let a = ap (λ y. y.claims) near.tally in omega (arith, a);
      given = let a = ap given_up_in past in omega (arith, a);
    })
    (closed_costs sc.version _ (Some f) g 0 0 0 (answered_costs sc.version _ f g lets open_ answered receipt added few))
    (let a = ap made_in past in omega (arith, a))
    (λ k. let a = ap (λ (p : Keyed Pool). (of_key k p).used) near.pools in omega (arith, a))
    (closed_flying g ∙ ap (λ (q : Option Place). flying_of (Some (record g { receipt = q }))) receipt)
  where
    own : Own t m (with_frame mid t (closed g)) (closed g)
    own = own_framed t m mid (closed g) (near_among t m mid near among) near.begun
