-- What is left where one task of all is replaced, and where claims are raced or back.
use Rattle.std.proofs.Common.{◌≡◌, ℕ, zero, suc, ◌+◌, ◌*◌, ◌<◌, ◌≤◌, Bool, List, [], ◌∷◌, ◌++◌, refl, true, false, not, ◌&&◌, arith, ap, ◌∙◌, subst, length, length-append, map, drop, get_or, Some, None, Option}
use Rattle.std.proofs.Math.ListN.{set}
use Rattle.std.specs.Prelude.{if◌then◌else◌, is_some}
use Rattle.std.specs.List.{flat_map}
use Rattle.vch_base.specs.declared.key.Key.{Key}
use Rattle.vch_model.specs.declared.call.Call.{Call}
use Rattle.vch_model.specs.declared.lists.Scenario.{Scenario}
use Rattle.vch_model.specs.Lines.{lines_of}
use Rattle.vch_machine.specs.State.{Handles, Place, same_place, Claim, Frame, Tasked, Machine, idle, tasked, with_tasked, frame_claims, claim_at, claims_on}
use Rattle.vch_machine.specs.Frames.{closed, with_frame}
use Rattle.vch_machine.specs.Making.{race_claim, back_claim, on_claim, on_frame, on_task, on_claims}
use Rattle.vch_machine.specs.Next.{nth_call}
use Rattle.vch_legal.specs.Facts.{Fits, Spot, spot, spot_fits}
use Rattle.vch_legal.specs.Left.{claim_left, frame_base, frame_left, lines_left, owned_left, task_left, tasks_left}
use Rattle.vch_legal.proofs.tasks.TaskLists.{IsAmong}

-- one task is replaced
set_left : (sc : Scenario) (t : ℕ) (xs : List Tasked) (i : ℕ) (y : Tasked) → i < length xs
    → tasks_left sc t (set xs i y) + task_left sc (t + i) (get_or xs i idle)
    ≡ tasks_left sc t xs + task_left sc (t + i) y
set_left sc t [] i y l = absurd (omega arith)
set_left sc t (x ∷ xs) zero y l =
    swap (task_left sc t y) (tasks_left sc (t + 1) xs) (task_left sc t x) (task_left sc (t + 0) x)
    (task_left sc (t + 0) y)
    (ap (λ n. task_left sc n x) (same t)) (ap (λ n. task_left sc n y) (same t))
  where
    same : (t : ℕ) → t + 0 ≡ t
    same t = omega arith

    swap : (a b c d e : ℕ) → d ≡ c → e ≡ a → a + b + d ≡ c + b + e
    swap a b c d e g h = omega arith
set_left sc t (x ∷ xs) (suc i) y l =
    under (task_left sc t x) (tasks_left sc (t + 1) (set xs i y)) (tasks_left sc (t + 1) xs) _ _ _ _
    (ap (λ n. task_left sc n (get_or xs i idle)) (next t i)) (ap (λ n. task_left sc n y) (next t i))
    (set_left sc (t + 1) xs i y (omega arith))
  where
    next : (t i : ℕ) → t + suc i ≡ t + 1 + i
    next t i = omega arith

    under : (a b c d e f g : ℕ) → d ≡ f → e ≡ g → b + f ≡ c + g → a + b + d ≡ a + c + e
    under a b c d e f g h k l = omega arith

abbrev pub Left : Scenario → Machine → ℕ
Left sc m = tasks_left sc 1 m.tasks

pub task_set : (sc : Scenario) (t : ℕ) (m : Machine) (y : Tasked) → IsAmong t m.tasks
    → Left sc (with_tasked m t y) + task_left sc t (tasked m t) ≡ Left sc m + task_left sc t y
task_set sc zero m y l = absurd (none l.0)
  where
    none : 1 ≤ 0 → ⊥
    none l = omega arith
task_set sc (suc i) m y l =
    subst (λ k. tasks_left sc 1 (set m.tasks i y) + task_left sc k (get_or m.tasks i idle) ≡ tasks_left sc 1 m.tasks +
    task_left sc k y)
    (number i) (set_left sc 1 m.tasks i y (place i (length m.tasks) l.1))
  where
    number : (i : ℕ) → 1 + i ≡ suc i
    number i = omega arith

    place : (i n : ℕ) → suc i ≤ n → i < n
    place i n l = omega arith

-- one task is replaced by one that has no more left
same_set : (sc : Scenario) (t n : ℕ) (xs : List Tasked) (i : ℕ) (y : Tasked) → y.begun ≡ (get_or xs i idle).begun
    → y.frame ≡ (get_or xs i idle).frame → owned_left y ≤ owned_left (get_or xs i idle) + n
    → tasks_left sc t (set xs i y) ≤ tasks_left sc t xs + n
same_set sc t n [] i y b f o = omega arith
same_set sc t n (x ∷ xs) zero y b f o =
    let a : lines_left (drop y.begun (lines_of sc t)) ≡ lines_left (drop x.begun (lines_of sc t)) =
    ap (λ k. lines_left (drop k (lines_of sc t))) b in
    let c : frame_left sc.version (nth_call sc t y.begun) y.frame ≡ frame_left sc.version (nth_call sc t x.begun)
    x.frame =
    ap (λ k. frame_left sc.version (nth_call sc t k) y.frame) b ∙ ap (frame_left sc.version (nth_call sc t x.begun)) f
    in
    over (lines_left (drop y.begun (lines_of sc t))) _ _ _ _ _ (tasks_left sc (t + 1) xs) n a c o
  where
    over : (a a2 c c2 o o2 r n : ℕ) → a ≡ a2 → c ≡ c2 → o ≤ o2 + n → a + c + o + r ≤ a2 + c2 + o2 + r + n
    over a a2 c c2 o o2 r n e g h = omega arith
same_set sc t n (x ∷ xs) (suc i) y b f o =
    let h : tasks_left sc (t + 1) (set xs i y) ≤ tasks_left sc (t + 1) xs + n = same_set sc (t + 1) n xs i y b f o in
    over (task_left sc t x) (tasks_left sc (t + 1) (set xs i y)) (tasks_left sc (t + 1) xs) n h
  where
    over : (a b c n : ℕ) → b ≤ c + n → a + b ≤ a + c + n
    over a b c n h = omega arith

-- one that has as much more as it owns
pub same_task : (sc : Scenario) (t n : ℕ) (m : Machine) (y : Tasked) → y.begun ≡ (tasked m t).begun
    → y.frame ≡ (tasked m t).frame → owned_left y ≤ owned_left (tasked m t) + n
    → Left sc (with_tasked m t y) ≤ Left sc m + n
same_task sc zero n m y b f o = omega arith
same_task sc (suc i) n m y b f o = same_set sc 1 n m.tasks i y b f o

-- the call that a task has begun last
abbrev pub call_now : Scenario → ℕ → Machine → Option Call
call_now sc t m = nth_call sc t (tasked m t).begun

-- a frame is replaced by one that has less left
pub frame_set : (sc : Scenario) (t : ℕ) (m : Machine) (g : Option Frame) → IsAmong t m.tasks
    → Left sc (with_frame m t g) + frame_left sc.version (call_now sc t m) (tasked m t).frame
    ≡ Left sc m + frame_left sc.version (call_now sc t m) g
frame_set sc t m g l =
    drop_same (Left sc (with_frame m t g)) (Left sc m) _ _ _ _ (task_set sc t m (record (tasked m t) { frame = g }) l)
  where
    drop_same : (a b c d e o : ℕ) → a + (c + d + o) ≡ b + (c + e + o) → a + d ≡ b + e
    drop_same a b c d e o h = omega arith

-- a frame that is gone had nothing left
pub closed_left : (version : ℕ) (call : Option Call) (g : Frame) → frame_left version call (closed g)
    ≡ frame_left version call (Some g)
closed_left version call g = by_parts g.forming g.answered g.at_byte g.keys g.receipt g.lets g.claim
  where
    by_parts : (v : Option Handles) (answered : Bool) (n : ℕ) (ks : List Key) (r : Option Place) (lets : List Place)
        (c : Option Claim) → frame_left version call (closed (record {
          forming = v;
          answered = answered;
          at_byte = n;
          keys = ks;
          receipt = r;
          lets = lets;
          claim = c;
        }))
        ≡ frame_left version call (Some (record {
          forming = v;
          answered = answered;
          at_byte = n;
          keys = ks;
          receipt = r;
          lets = lets;
          claim = c;
        }))
    by_parts v false n ks r lets c = refl
    by_parts v true n ks (Some r) lets c = refl
    by_parts v true n ks None lets (Some c) = refl
    by_parts v true n ks None (q ∷ lets) None = refl
    by_parts v true n ks None [] None = omega arith

-- claims that are raced have as much left
race_left : (p : Place) (c : Option Claim) → claim_left (on_claim (race_claim p) c) ≡ claim_left c
race_left p None = refl
race_left p (Some c) = by_test (same_place c.place p && not (is_some c.answer))
  where
    by_test : (b : Bool) → claim_left (Some (if b then record c { raced = true } else c)) ≡ claim_left (Some c)
    by_test true = refl
    by_test false = refl

race_frame : (version : ℕ) (call : Option Call) (p : Place) (f : Option Frame)
    → frame_left version call (on_frame (race_claim p) f)
    ≡ frame_left version call f
race_frame version call p None = refl
race_frame version call p (Some f) = ap (λ n. frame_base version call f + n) (race_left p f.claim)

race_tasks : (sc : Scenario) (t : ℕ) (p : Place) (xs : List Tasked)
    → tasks_left sc t (map (on_task (race_claim p)) xs) ≡ tasks_left sc t xs
race_tasks sc t p [] = refl
race_tasks sc t p (x ∷ xs) =
    both (lines_left (drop x.begun (lines_of sc t))) (owned_left x) _ _ _ _
    (race_frame sc.version (nth_call sc t x.begun) p x.frame) (race_tasks sc (t + 1) p xs)
  where
    both : (e o a b c d : ℕ) → a ≡ b → c ≡ d → e + a + o + c ≡ e + b + o + d
    both e o a b c d h k = omega arith

pub race_all : (sc : Scenario) (m : Machine) (p : Place) → Left sc (on_claims (race_claim p) m) ≡ Left sc m
race_all sc m p = race_tasks sc 1 p m.tasks

-- a claim that is back has three more left, at most
back_left : (p : Place) (c : Option Claim) → claim_left (on_claim (back_claim p) c) ≤ claim_left c + 3 * length
    (claim_at c p)
back_left p None = omega arith
back_left p (Some c) = by_test (same_place c.place p)
  where
    by_test : (b : Bool) → claim_left (Some (if b then record c { back = true } else c)) ≤ claim_left (Some c) + 3 *
        length (if b then c ∷ [] else [])
    by_test true = more (if is_some c.answer then 1 else 2) (if c.back then 3 else 0)
      where
        more : (n b : ℕ) → n + 3 ≤ n + b + 3 * 1
        more n b = omega arith
    by_test false = omega arith

back_frame : (version : ℕ) (call : Option Call) (p : Place) (f : Option Frame)
    → frame_left version call (on_frame (back_claim p) f) ≤ frame_left version call f + 3 * length (frame_claims f p)
back_frame version call p None = omega arith
back_frame version call p (Some f) = let i : claim_left (on_claim (back_claim p) f.claim) ≤ claim_left f.claim + 3 *
    length
    (claim_at f.claim p) = back_left p f.claim in omega arith

back_tasks : (sc : Scenario) (t : ℕ) (p : Place) (xs : List Tasked)
    → tasks_left sc t (map (on_task (back_claim p)) xs) ≤ tasks_left sc t xs + 3 * length
    (flat_map (λ (x : Tasked). frame_claims x.frame p) xs)
back_tasks sc t p [] = omega arith
back_tasks sc t p (x ∷ xs) =
    let i : frame_left sc.version (nth_call sc t x.begun) (on_frame (back_claim p) x.frame) ≤ frame_left sc.version
    (nth_call sc t x.begun)
    x.frame + 3 * length (frame_claims x.frame p) = back_frame sc.version (nth_call sc t x.begun) p x.frame in
    let j : tasks_left sc (t + 1) (map (on_task (back_claim p)) xs) ≤ tasks_left sc (t + 1) xs + 3 * length
    (flat_map (λ (x : Tasked). frame_claims x.frame p) xs) = back_tasks sc (t + 1) p xs in
    let k : length (frame_claims x.frame p ++ flat_map (λ (x : Tasked). frame_claims x.frame p) xs)
    ≡ length (frame_claims x.frame p) + length (flat_map (λ (x : Tasked). frame_claims x.frame p) xs) =
    length-append (frame_claims x.frame p) (flat_map (λ (x : Tasked). frame_claims x.frame p) xs) in
    omega arith

one_claim : (s : Spot) → spot_fits s ≡ true → length s.claims ≤ 1
one_claim s h = by_claims s.claims refl
  where
    by_claims : (cs : List Claim) → s.claims ≡ cs → length cs ≤ 1
    by_claims [] e = omega arith
    by_claims (c ∷ []) e = omega arith
    by_claims (c ∷ d ∷ cs) e = let k : spot_fits (record s { claims = c ∷ d ∷ cs })
        ≡ true = subst (λ (xs : List Claim). spot_fits (record s { claims = xs }) ≡ true) e h in absurd (grind arith)

pub back_all : (sc : Scenario) (m : Machine) (p : Place) → Fits sc m
    → Left sc (on_claims (back_claim p) m) ≤ Left sc m + 3
back_all sc m p f =
    let i : Left sc (on_claims (back_claim p) m) ≤ Left sc m + 3 * length (claims_on m p) = back_tasks sc 1 p m.tasks
    in
    let j : length (claims_on m p) ≤ 1 = one_claim (spot m p) (f.spots p) in omega arith
