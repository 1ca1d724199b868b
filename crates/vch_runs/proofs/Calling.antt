-- Which call the next event of a task begins or carries on.
use Rattle.std.proofs.Common.{◌≡◌, ℕ, zero, suc, ◌+◌, ◌-◌, ◌<◌, ◌≤◌, Bool, true, false, inl, inr, List, [], ◌∷◌, refl, sym, ap, ◌∙◌, subst, drop, length, arith, Option, Some, None}
use Rattle.std.specs.Prelude.{is_some, IsSome, if◌then◌else◌, nat_lt, nat_le, slice_get}
use Rattle.std.proofs.lemmas.Grind.{common_steps}
use Rattle.vch_base.specs.declared.key.Key.{Key}
use Rattle.vch_base.specs.declared.kind.Kind.{Kind}
use Rattle.vch_base.specs.declared.kind.Kind.TheVariants as kinds
use Rattle.vch_recipe.specs.Recipes.{First, One, first_of}
use Rattle.vch_model.specs.declared.call.Call.{Call}
use Rattle.vch_model.specs.declared.call.Call.TheVariants as calls
use Rattle.vch_model.specs.declared.call.Word.{Word}
use Rattle.vch_model.specs.declared.call.Word.TheVariants as words
use Rattle.vch_model.specs.declared.lists.Scenario.{Scenario}
use Rattle.vch_model.specs.Legal.{asks}
use Rattle.vch_model.specs.declared.call.Line.{Line}
use Rattle.vch_model.specs.Lines.{is_task, lines_of, lines_until, line_at}
use Rattle.vch_model.specs.Scenarios.{line_count}
use Rattle.vch_model.specs.Store.{Member}
use Rattle.vch_model.specs.Words.{word_of}
use Rattle.vch_machine.specs.State as machine
use Rattle.vch_machine.specs.State.{Handles, Living, Machine, Place, Tasked, tasked, is_empty, member_of}
use Rattle.vch_machine.specs.Next.{nth_call, call_in}
use Rattle.vch_legal.specs.Tie.{FrameForms, IsForming, Ties}
use Rattle.vch_frame.specs.declared.frame.Claiming.{Claiming}
use Rattle.vch_frame.specs.declared.frame.KeyIndex.{KeyIndex}
use Rattle.vch_frame.specs.declared.frame.KeyReceipt.{KeyReceipt}
use Rattle.vch_frame.specs.Releases.{lets_kind}
use Rattle.vch_frame.specs.Claims.{claim_kind}
use Rattle.vch_vouchers.specs.Desks.{Named, desk}
use Rattle.vch_parts.specs.declared.frame.Frame.{Frame}
use Rattle.vch_parts.specs.declared.parts.Parts.{Parts}
use Rattle.vch_parts.specs.Framed.{frame_of, begun_of}
use Rattle.vch_parts.specs.Nexts.{value_kind, receipt_kind, record_kind, call_kind, open_kind, first_kind, task_kind, known_name}
use Rattle.vch_parts.specs.Reached.{Reached, IsNext, plain_of}
use Rattle.vch_parts.proofs.CallerLemmas.{next_agrees, twin_of, own_frame}
use Rattle.vch_runs.specs.declared.said.Said.{Said}
use Rattle.vch_runs.specs.declared.said.Said.TheVariants as sayings
use Rattle.vch_runs.specs.Said.{Says, word_said}
use Rattle.vch_runs.specs.Called.{HasNext, IsOpenKind, IsWordOf}
use Rattle.vch_runs.proofs.Framed.{Reach, reach, from_state, next_of, own_begun}
use Rattle.vch_runs.proofs.Starting.{few_filtered, few_until}

-- The kind of the next event of a call that is under way.

same_some : (a b : Kind) → Some a ≡ Some b → a ≡ b
same_some a b e = cc

create_word : (kind : Kind) → IsOpenKind kind → IsWordOf kind words.Create
create_word kinds.Work h = inl refl
create_word kinds.Make h = inl (inl refl)
create_word kinds.Place h = inl (inl refl)
create_word kinds.Begin h = absurd h
create_word kinds.Refer h = absurd h
create_word kinds.LetGo h = absurd h
create_word kinds.Ask h = absurd h
create_word kinds.Recheck h = absurd h
create_word kinds.Phase h = absurd h

record_open : (version : ℕ) (names : List Named) (first : First) → IsOpenKind (record_kind version names first)
record_open version names (One r rest) = by (asks version (known_name names) r)
  where
    by : (b : Bool) → IsOpenKind (if b then kinds.Make else kinds.Work)
    by true = tt
    by false = tt
record_open version names First.End = tt
record_open version names (First.HeaderCut left) = tt
record_open version names (First.ContentCut wanted left) = tt

-- a send or a receive, where its keys are asked
keys_open : (b : Bool) (word : Word) (kind : Kind) → IsWordOf kinds.Place word → (if b then Some kinds.Place else Some kinds.Make) ≡ Some kind → IsOpenKind kind × IsWordOf kind word
keys_open true word kind h e = subst (λ k. IsOpenKind k × IsWordOf k word) (same_some kinds.Place kind e) (tt, h)
keys_open false word kind h e = subst (λ k. IsOpenKind k × IsWordOf k word) (same_some kinds.Make kind e) (tt, h)

-- a call that forms nothing is an exit
no_other : (sc : Scenario) (live : List Living) (x : Member) (t place : ℕ) (ks : List Key) (r : Option Place) (o : Option Handles) (call : Call)
    → FrameForms sc live x t place ks r false o (Some call) → ((v : Handles) → FrameForms sc live x t place ks r false (Some v) (Some call) → ⊥) → (Some call ≡ Some calls.Exit → ⊥) → ⊥
no_other sc live x t place ks r None call h f g = g h
no_other sc live x t place ks r (Some v) call h f g = f v h

module _ (sc : Scenario) (live : List Living) (x : Member) (t place : ℕ) (ks : List Key) (r : Option Place) (o : Option Handles) where
  call_open : (version : ℕ) (names : List Named) (at : ℕ) (left : List Key) (call : Call) (kind : Kind) → FrameForms sc live x t place ks r false o (Some call)
      → call_kind version names at left (Some call) ≡ Some kind → IsOpenKind kind × IsWordOf kind (word_of call)
  call_open version names at left (calls.Create bytes) kind h e =
      let z : IsOpenKind kind = subst IsOpenKind (same_some _ kind e) (record_open version names (first_of (drop at bytes))) in (z, create_word kind z)
  call_open version names at left calls.Exit kind h e = subst (λ k. IsOpenKind k × IsWordOf k words.Exit) (same_some kinds.Work kind e) (tt, inr refl)
  call_open version names at left (calls.Send to moving name id) kind h e = keys_open (is_empty left) words.Send kind (inl (inr refl)) e
  call_open version names at left calls.Recv kind h e = keys_open (is_empty left) words.Recv kind (inr refl) e
  call_open version names at left (calls.GiveUp name) kind h e = absurd (no_other sc live x t place ks r o (calls.GiveUp name) h (λ v k. k.0) (λ q. cc))
  call_open version names at left (calls.Extract name key) kind h e = absurd (no_other sc live x t place ks r o (calls.Extract name key) h (λ v k. k.0) (λ q. cc))
  call_open version names at left (calls.Recipes name) kind h e = absurd (no_other sc live x t place ks r o (calls.Recipes name) h (λ v k. k.0) (λ q. cc))
  call_open version names at left (calls.Extern name adding n) kind h e = absurd (no_other sc live x t place ks r o (calls.Extern name adding n) h (λ v k. k.0) (λ q. cc))
  call_open version names at left (calls.Charge name n) kind h e = absurd (no_other sc live x t place ks r o (calls.Charge name n) h (λ v k. k.0) (λ q. cc))
  call_open version names at left calls.Ledger kind h e = absurd (no_other sc live x t place ks r o calls.Ledger h (λ v k. k.0) (λ q. cc))
  call_open version names at left calls.Assertions kind h e = absurd (no_other sc live x t place ks r o calls.Assertions h (λ v k. k.0) (λ q. cc))
  call_open version names at left calls.Live kind h e = absurd (no_other sc live x t place ks r o calls.Live h (λ v k. k.0) (λ q. cc))

-- a call that is under way, and its next event
pub record Opened (o : Option Call) (kind : Kind) : Type 0 where
  pub call : Call
  pub is : o ≡ Some call
  pub kind_is : IsOpenKind kind
  pub word_is : IsWordOf kind (word_of call)

same_call : (x y : Call) → Some x ≡ Some y → x ≡ y
same_call x y e = cc

-- the word of what a call says is its own
pub same_word : (s : Said) (call : Call) → Says s (Some call) → word_of call ≡ word_said s
same_word (sayings.Create n) call e = ap word_of (same_call call _ e.1)
same_word (sayings.GiveUp name) call e = ap word_of (same_call call _ e)
same_word (sayings.Extract name key) call e = ap word_of (same_call call _ e)
same_word (sayings.Recipes name) call e = ap word_of (same_call call _ e)
same_word (sayings.Send to moving name id) call e = ap word_of (same_call call _ e)
same_word sayings.Recv call e = ap word_of (same_call call _ e)
same_word (sayings.Extern name adding n) call e = ap word_of (same_call call _ e)
same_word (sayings.Charge name n) call e = ap word_of (same_call call _ e)
same_word sayings.Ledger call e = ap word_of (same_call call _ e)
same_word sayings.Assertions call e = ap word_of (same_call call _ e)
same_word sayings.Live call e = ap word_of (same_call call _ e)
same_word sayings.Exit call e = ap word_of (same_call call _ e)

frame_open : (sc : Scenario) (live : List Living) (x : Member) (t version : ℕ) (names : List Named) (f : Frame) (g : machine.Frame) (o : Option Call) (kind : Kind)
    → f.answered ≡ g.answered → FrameForms sc live x t g.at_byte g.keys g.receipt g.answered g.forming o → open_kind version names o f ≡ Some kind → Opened o kind
frame_open sc live x t version names f g o kind same forms e = by g.answered f.answered same forms e o refl
  where
    by_call : (q : Option Call) → FrameForms sc live x t g.at_byte g.keys g.receipt false g.forming q → call_kind version names f.at f.keys q ≡ Some kind → Opened q kind
    by_call None h z = absurd (cc)
    by_call (Some call) h z =
        let y = call_open sc live x t g.at_byte g.keys g.receipt g.forming version names f.at f.keys call kind h z in
        record { call = call; is = refl; kind_is = y.0; word_is = y.1 }

    by : (a b : Bool) → b ≡ a → FrameForms sc live x t g.at_byte g.keys g.receipt a g.forming o → (if b then None else call_kind version names f.at f.keys o) ≡ Some kind → (q : Option Call) → o ≡ q → Opened o kind
    by a true s h z q w = absurd (cc)
    by true false s h z q w = absurd (cc)
    by false false s h z q w = by_call o h z

-- Of parts.

-- what the parts tell of a task's next event
told : (p : Parts) (t : ℕ) (kind : Option Kind) → Reached p → is_task p.scenario t ≡ true → IsNext p t kind
    → task_kind p.scenario (desk p.vouchers t).names t p.phase (begun_of p.frames t) (frame_of p.frames t) ≡ kind
told p t kind r task e = let x = reach p r in next_agrees p t x.m task x.state ∙ next_of p t kind x.m e x.state

opened : (p : Parts) (t : ℕ) (f : Frame) (kind : Kind) → Reached p → is_task p.scenario t ≡ true → frame_of p.frames t ≡ Some f
    → open_kind p.scenario.version (desk p.vouchers t).names (nth_call p.scenario t (begun_of p.frames t)) f ≡ Some kind → Opened (nth_call p.scenario t (begun_of p.frames t)) kind
opened p t f kind r task own e =
    let x : Reach p = reach p r in
    let ties : Ties p.scenario x.m = (from_state p x.m x.state).1 in
    twin_of p.scenario (plain_of p) x.m t f (Opened (nth_call p.scenario t (begun_of p.frames t)) kind) x.stands ties task (own_frame p t r task ∙ own)
    (λ g there same.
    frame_open p.scenario x.m.live (member_of x.m.live (tasked x.m t)) t p.scenario.version (desk p.vouchers t).names f g (nth_call p.scenario t (begun_of p.frames t)) kind same.answered
    (subst (λ n. FrameForms p.scenario x.m.live (member_of x.m.live (tasked x.m t)) t g.at_byte g.keys g.receipt g.answered g.forming (nth_call p.scenario t n)) (sym (own_begun p x.m t x.state task))
    (subst (λ o. IsForming p.scenario x.m.live (member_of x.m.live (tasked x.m t)) t (tasked x.m t).begun o) there (ties.tasks t task).forming)) e)

-- a task without a frame begins a call
begins : (b : Bool) (kind : Kind) → (if b then Some kinds.Begin else None) ≡ Some kind → (b ≡ true) × (kinds.Begin ≡ kind)
begins true kind e = (refl, same_some kinds.Begin kind e)
begins false kind e = absurd (cc)

idle_kind : (o other : Option Kind) (kind : Kind) → o ≡ None → first_kind o other ≡ Some kind → other ≡ Some kind
idle_kind None other kind e h = h
idle_kind (Some k) other kind e h = absurd (cc)

pub opened_at : (p : Parts) (t : ℕ) (kind : Kind) → Reached p → is_task p.scenario t ≡ true → IsSome (frame_of p.frames t) → value_kind (frame_of p.frames t) ≡ None → IsNext p t (Some kind)
    → Opened (nth_call p.scenario t (begun_of p.frames t)) kind
opened_at p t kind r task under idle next = by (frame_of p.frames t) refl under idle (told p t (Some kind) r task next)
  where
    by : (o : Option Frame) → frame_of p.frames t ≡ o → IsSome o → value_kind o ≡ None → task_kind p.scenario (desk p.vouchers t).names t p.phase (begun_of p.frames t) o ≡ Some kind
        → Opened (nth_call p.scenario t (begun_of p.frames t)) kind
    by None own s i e = absurd (cc)
    by (Some f) own s i e = opened p t f kind r task own (idle_kind (value_kind (Some f)) _ kind i e)

pub none_next : (p : Parts) (t : ℕ) → Reached p → HasNext p t → IsNext p t None → ⊥
unfolding HasNext
none_next p t r has next = let x = reach p r in no_kind _ (has x.m x.state) (next_of p t None x.m next x.state)
  where
    no_kind : (o : Option Kind) → is_some o ≡ true → o ≡ None → ⊥
    no_kind None a b = cc
    no_kind (Some k) a b = cc

-- Where a call begins.

-- no event of a frame is a Begin
never_begins : (f : Frame) (other : Option Kind) → first_kind (value_kind (Some f)) other ≡ Some kinds.Begin → other ≡ Some kinds.Begin
never_begins f other e = by_receipt f.receipt e
  where
    by_lets : (ls : List KeyIndex) → first_kind (lets_kind ls) other ≡ Some kinds.Begin → other ≡ Some kinds.Begin
    by_lets [] z = z
    by_lets (l ∷ ls) z = absurd (cc)

    by_claim : (y : Claiming) → first_kind (claim_kind f.lets y) other ≡ Some kinds.Begin → other ≡ Some kinds.Begin
    by_claim Claiming.Nothing z = by_lets f.lets z
    by_claim (Claiming.Claimed key claim) z = absurd (cc)
    by_claim (Claiming.Answered key asked) z = absurd (cc)

    by_receipt : (q : Option KeyReceipt) → first_kind (receipt_kind f q) other ≡ Some kinds.Begin → other ≡ Some kinds.Begin
    by_receipt None z = by_claim f.claim z
    by_receipt (Some q) z = absurd (cc)

pub record Begins (p : Parts) (t : ℕ) : Type 0 where
  pub free : frame_of p.frames t ≡ None
  pub line : nat_lt (begun_of p.frames t) (lines_until p.scenario (p.phase + 1) t) ≡ true

pub begins_at : (p : Parts) (t : ℕ) → Reached p → is_task p.scenario t ≡ true → IsNext p t (Some kinds.Begin) → Begins p t
begins_at p t r task next = by (frame_of p.frames t) refl (told p t (Some kinds.Begin) r task next)
  where
    by : (o : Option Frame) → frame_of p.frames t ≡ o → task_kind p.scenario (desk p.vouchers t).names t p.phase (begun_of p.frames t) o ≡ Some kinds.Begin → Begins p t
    by None own e = record { free = own; line = (begins _ kinds.Begin e).0 }
    by (Some f) own e = absurd ((opened p t f kinds.Begin r task own (never_begins f _ e)).kind_is)

line_few : (p : Parts) (t : ℕ) → Reached p → lines_until p.scenario (p.phase + 1) t ≤ 1048576
line_few p t r = let a : lines_until p.scenario (p.phase + 1) t ≤ line_count p.scenario.phases = few_until p.scenario (p.phase + 1) t in let b = r.limited.calls in omega (arith, a, b)

-- its number fits
pub number_fits : (p : Parts) (t : ℕ) → Reached p → Begins p t → begun_of p.frames t + 1 < 4294967296
number_fits p t r b = below (begun_of p.frames t) (lines_until p.scenario (p.phase + 1) t) b.line (line_few p t r)
  where
    below : (a c : ℕ) → nat_lt a c ≡ true → c ≤ 1048576 → a + 1 < 4294967296
    below a c h l = let g : a < c = grind (arith, common_steps) in omega (arith, g, l)

-- there is a line of that number
get_there : {A : Type 0} (xs : List A) (i : ℕ) → i < length xs → slice_get xs i ≡ None → ⊥
get_there [] i l e = omega (arith, l)
get_there (x ∷ xs) zero l e = cc
get_there (x ∷ xs) (suc i) l e = get_there xs i (omega (arith, l)) e

no_line : (o : Option (ℕ × Line)) → call_in o ≡ None → o ≡ None
no_line None e = refl
no_line (Some l) e = absurd (cc)

pub call_there : (p : Parts) (t : ℕ) → Begins p t → nth_call p.scenario t (begun_of p.frames t + 1) ≡ None → ⊥
call_there p t b e =
    get_there (lines_of p.scenario t) (begun_of p.frames t)
    (below (begun_of p.frames t) (lines_until p.scenario (p.phase + 1) t) (length (lines_of p.scenario t)) b.line (few_filtered (λ l. nat_le l.0 (p.phase + 1)) (lines_of p.scenario t)))
    (subst (λ n. slice_get (lines_of p.scenario t) n ≡ None) (back (begun_of p.frames t)) (no_line (line_at p.scenario t (begun_of p.frames t + 1)) e))
  where
    below : (a c d : ℕ) → nat_lt a c ≡ true → c ≤ d → a < d
    below a c d h l = let g : a < c = grind (arith, common_steps) in omega (arith, g, l)

    back : (n : ℕ) → (n + 1) - 1 ≡ n
    back n = omega arith
