-- Which event of a task is next, in the parts and in each state that they stand for.
use Rattle.std.proofs.Common.{◌≡◌, ℕ, zero, suc, ◌+◌, ◌-◌, ◌<◌, ◌≤◌, ◌==◌, nat_lt, Bool, true, false, List, [], ◌∷◌, refl, arith, sym, ap, ◌∙◌, length, get_or, drop, Option, Some, None}
use Rattle.std.specs.Prelude.{is_some, if◌then◌else◌}
use Rattle.vch_base.specs.Tasks.{at_task}
use Rattle.vch_base.specs.declared.key.Key.{Key}
use Rattle.vch_base.specs.declared.kind.Kind.{Kind}
use Rattle.vch_base.specs.declared.kind.Kind.TheVariants as kinds
use Rattle.vch_base.specs.Keyed.{Keyed}
use Rattle.vch_recipe.specs.Recipes.{First, One, first_of}
use Rattle.vch_recipe.specs.declared.recipe.Recipe.{Recipe}
use Rattle.vch_values.specs.Parts.{KeyParts}
use Rattle.vch_vouchers.specs.Desks.{Desk, Named, voucher_of, desk, empty_desk}
use Rattle.vch_model.specs.Legal.{asks}
use Rattle.vch_model.specs.Lines.{is_task, phases_in, lines_until}
use Rattle.vch_model.specs.Voucher.{Voucher, nothing}
use Rattle.vch_model.specs.declared.call.Call.{Call}
use Rattle.vch_model.specs.declared.call.Call.TheVariants as calls
use Rattle.vch_model.specs.declared.lists.Scenario.{Scenario}
use Rattle.vch_machine.specs.Naming.{handles_of}
use Rattle.vch_machine.specs.Next.{nth_call, next_kind, task_next, frame_next, unclaimed_next, lets_next, unanswered_next, call_next, first_next, claim_next}
use Rattle.vch_machine.specs.Next as next
use Rattle.vch_machine.specs.State as machine
use Rattle.vch_machine.specs.State.{Handles, Place, Machine, Tasked, tasked, is_empty}
use Rattle.vch_legal.proofs.CallerLemmas.{reached_stands}
use Rattle.vch_frame.specs.declared.frame.Claiming.{Claiming}
use Rattle.vch_frame.specs.declared.frame.KeyIndex.{KeyIndex}
use Rattle.vch_frame.specs.declared.frame.KeyReceipt.{KeyReceipt}
use Rattle.vch_frame.specs.Pairs.{Optional, Pairwise}
use Rattle.vch_frame.specs.Releases.{lets_kind}
use Rattle.vch_frame.specs.Claims.{claim_kind}
use Rattle.vch_parts.specs.declared.frame.Frame.{Frame}
use Rattle.vch_parts.specs.declared.frames.Working.{Working}
use Rattle.vch_parts.specs.declared.parts.Parts.{Parts}
use Rattle.vch_parts.specs.Framed.{resting, working_of}
use Rattle.vch_parts.specs.Nexts.{known, known_name, record_kind, call_kind, open_kind, first_kind, task_kind, value_kind, receipt_kind}
use Rattle.vch_parts.specs.Plain.{Indices, Part, part_of, idle_part}
use Rattle.vch_parts.specs.Reached.{plain_of, part_in, parts_in, Reached, IsState, IsNext}
use Rattle.vch_parts.specs.Shape.{IsName, IsReceipt, IsLet, IsClaim, IsFrame, IsTask}
use Rattle.vch_parts.proofs.framing.Glue.{in_parts}
use Rattle.vch_parts.proofs.framing.OfParts.{range}
use Rattle.vch_parts.proofs.framing.Sides.{as_many_desks, side_at}

-- A name is there on both sides or on none.

abbrev found : Option Handles → Option Voucher
found o = elim o [ None ↦ None | Some v ↦ Some nothing ]

both_named : (a b : Bool) (x : Indices) (v : Handles) (o : Option Indices) (p : Option Handles) → a ≡ b → is_some (known o) ≡ is_some (found p) → is_some (known (if a then Some x else o)) ≡ is_some (found (if b then Some v else p))
both_named true true x v o p e r = refl
both_named true false x v o p e r = absurd (cc)
both_named false true x v o p e r = absurd (cc)
both_named false false x v o p e r = r

names_agree : (x : Keyed KeyParts) (names : List Named) (twins : List machine.Named) (n : ℕ) → Pairwise (IsName x) names twins → is_some (known_name names n) ≡ is_some (next.known_name twins n)
names_agree x [] [] n h = refl
names_agree x [] (y ∷ twins) n h = absurd h
names_agree x (a ∷ names) [] n h = absurd h
names_agree x (a ∷ names) (y ∷ twins) n h = both_named (a.name == n) (y.name == n) a.voucher y.voucher (voucher_of names n) (handles_of twins n) (ap (λ k. k == n) h.0.0) (names_agree x names twins n h.1)

asks_agree : (version : ℕ) (f g : ℕ → Option Voucher) (r : Recipe) → is_some (f r.previous) ≡ is_some (g r.previous) → asks version f r ≡ asks version g r
asks_agree version f g r e = rw e refl

record_agrees : (version : ℕ) (x : Keyed KeyParts) (names : List Named) (twins : List machine.Named) (first : First) → Pairwise (IsName x) names twins → record_kind version names first ≡ first_next version twins first
record_agrees version x names twins (One r rest) h = ap (λ b. if b then kinds.Make else kinds.Work) (asks_agree version (known_name names) (next.known_name twins) r (names_agree x names twins r.previous h))
record_agrees version x names twins First.End h = refl
record_agrees version x names twins (First.HeaderCut left) h = refl
record_agrees version x names twins (First.ContentCut wanted left) h = refl

call_agrees : (version : ℕ) (x : Keyed KeyParts) (names : List Named) (twins : List machine.Named) (place : ℕ) (ks : List Key) (call : Option Call) → Pairwise (IsName x) names twins → call_kind version names place ks call ≡ call_next version twins place ks call
call_agrees version x names twins place ks None h = refl
call_agrees version x names twins place ks (Some (calls.Create bytes)) h = ap (λ k. Some k) (record_agrees version x names twins (first_of (drop place bytes)) h)
call_agrees version x names twins place ks (Some calls.Exit) h = refl
call_agrees version x names twins place ks (Some (calls.GiveUp name)) h = refl
call_agrees version x names twins place ks (Some (calls.Extract name key)) h = refl
call_agrees version x names twins place ks (Some (calls.Recipes name)) h = refl
call_agrees version x names twins place ks (Some (calls.Send to moving name id)) h = refl
call_agrees version x names twins place ks (Some calls.Recv) h = refl
call_agrees version x names twins place ks (Some (calls.Extern name adding n)) h = refl
call_agrees version x names twins place ks (Some (calls.Charge name n)) h = refl
call_agrees version x names twins place ks (Some calls.Ledger) h = refl
call_agrees version x names twins place ks (Some calls.Assertions) h = refl
call_agrees version x names twins place ks (Some calls.Live) h = refl

-- The frame's.

module _ (version : ℕ) (x : Keyed KeyParts) (names : List Named) (twins : List machine.Named) (call : Option Call) (f : Frame) (g : machine.Frame) (named : Pairwise (IsName x) names twins) (same : IsFrame x f g) where
  abbrev other : Option Kind
  other = open_kind version names call f

  open_agrees : other ≡ unanswered_next version twins g call g.answered
  open_agrees =
      rw (same.answered, same.at_byte, same.keys) (by g.answered)
    where
      by : (b : Bool) → (if b then None else call_kind version names g.at_byte g.keys call) ≡ unanswered_next version twins g call b
      by true = refl
      by false = call_agrees version x names twins g.at_byte g.keys call named

  lets_agree : (ls : List KeyIndex) (ps : List Place) → Pairwise (IsLet x) ls ps → first_kind (lets_kind ls) other ≡ lets_next version twins g call ps
  lets_agree [] [] h = open_agrees
  lets_agree [] (p ∷ ps) h = absurd h
  lets_agree (l ∷ ls) [] h = absurd h
  lets_agree (l ∷ ls) (p ∷ ps) h = refl

  asked : (y : machine.Claim) → y.answer ≡ None → claim_next y ≡ kinds.Ask
  asked y e = rw e refl

  answered : (y : machine.Claim) (b : Bool) → y.answer ≡ Some b → claim_next y ≡ kinds.Recheck
  answered y b e = rw e refl

  claims_agree : (a : Claiming) (y : Option machine.Claim) → IsClaim x a y → first_kind (claim_kind f.lets a) other ≡ unclaimed_next version twins g call y
  claims_agree Claiming.Nothing None h = lets_agree f.lets g.lets same.lets
  claims_agree Claiming.Nothing (Some y) h = absurd h
  claims_agree (Claiming.Claimed k a) None h = absurd h
  claims_agree (Claiming.Claimed k a) (Some y) h = ap (λ kind. Some kind) (sym (asked y h.2))
  claims_agree (Claiming.Answered k a) None h = absurd h
  claims_agree (Claiming.Answered k a) (Some y) h = ap (λ kind. Some kind) (sym (answered y a.agreed h.2))

  receipts_agree : (r : Option KeyReceipt) (q : Option Place) → Optional IsReceipt r q → first_kind (receipt_kind f r) other ≡ frame_next version twins g call q
  receipts_agree None None h = claims_agree f.claim g.claim same.claim
  receipts_agree None (Some q) h = absurd h
  receipts_agree (Some r) None h = absurd h
  receipts_agree (Some r) (Some q) h = refl

  pub frame_agrees : first_kind (value_kind (Some f)) other ≡ frame_next version twins g call g.receipt
  frame_agrees = receipts_agree f.receipt g.receipt same.receipt

-- The task's.

task_agrees : (sc : Scenario) (x : Keyed KeyParts) (t phase : ℕ) (p : Part) (y : Tasked) → IsTask x p y → task_kind sc p.names t phase p.begun p.frame ≡ task_next sc phase t y y.frame
task_agrees sc x t phase p y s = by p.frame y.frame s.frame
  where
    by : (o : Option Frame) (q : Option machine.Frame) → Optional (IsFrame x) o q → task_kind sc p.names t phase p.begun o ≡ task_next sc phase t y q
    by None None h = ap (λ n. if nat_lt n (lines_until sc (phase + 1) t) then Some kinds.Begin else None) s.begun
    by None (Some g) h = absurd h
    by (Some f) None h = absurd h
    by (Some f) (Some g) h =
        ap (λ n. first_kind (value_kind (Some f)) (open_kind sc.version p.names (nth_call sc t n) f)) s.begun
        ∙ frame_agrees sc.version x p.names y.names (nth_call sc t y.begun) f g s.names h

-- A task's part, from its names and what it works at.

pub part_at : (ds : List Desk) (fs : List Working) (t : ℕ) → 0 < t → t - 1 < length (parts_in ds fs) → at_task (parts_in ds fs) t idle_part ≡ part_in (desk ds t) (working_of fs t)
part_at = side_at

-- each task has names
pub desk_inside : (p : Parts) (t : ℕ) → Reached p → is_task p.scenario t ≡ true → (1 ≤ t) × (t ≤ length p.vouchers)
desk_inside p t reached task =
    let n = range p t reached task in
    let a : t - 1 < length (parts_in p.vouchers p.frames) = n.1 in
    let b : length (parts_in p.vouchers p.frames) ≤ length p.vouchers = as_many_desks p.vouchers p.frames in
    (n.0, omega (arith, n.0, a, b))

pub next_agrees : (p : Parts) (t : ℕ) (m : Machine) → is_task p.scenario t ≡ true → IsState p.scenario (plain_of p) m
    → task_kind p.scenario (desk p.vouchers t).names t p.phase (working_of p.frames t).begun (working_of p.frames t).frame ≡ next_kind p.scenario m t
unfolding IsState
next_agrees p t m e s =
    let n = in_parts p.scenario (plain_of p) m t s.2 (reached_stands p.scenario s.0 m s.1) e in
    ap (λ (x : Part). task_kind p.scenario x.names t p.phase x.begun x.frame) (sym (part_at p.vouchers p.frames t n.0 n.1))
    ∙ (ap (λ phase. task_kind p.scenario (part_of (plain_of p) t).names t phase (part_of (plain_of p) t).begun (part_of (plain_of p) t).frame) s.2.phase
    ∙ task_agrees p.scenario p.values t (phases_in m.past) (part_of (plain_of p) t) (tasked m t) (s.2.shape.tasks t n.0 n.1))

-- the kind that was found is that of each state that the parts stand for
pub is_next : (p : Parts) (t : ℕ) (kind : Option Kind) (w : Working) → is_task p.scenario t ≡ true → w ≡ working_of p.frames t
    → kind ≡ task_kind p.scenario (desk p.vouchers t).names t p.phase w.begun w.frame → IsNext p t kind
unfolding IsNext
is_next p t kind w e b q = λ m s.
    sym (q ∙ (ap (λ (x : Working). task_kind p.scenario (desk p.vouchers t).names t p.phase x.begun x.frame) b ∙ next_agrees p t m e s))
