-- The call that a task has under way, or else its next one: that it is there, its word, and the kind of its next event.
use Rattle.std.proofs.Common.{◌≡◌, ℕ, ◌+◌, Bool, true, false, inl, inr, ◌⊎◌, List, refl, sym, ap, ◌∙◌, subst, Option, Some, None}
use Rattle.std.specs.Prelude.{is_some, IsSome, IsSomeAnd, IfSome, if◌then◌else◌, nat_lt}
use Rattle.std.specs.Option.{option_map}
use Rattle.vch_base.specs.declared.kind.Kind.{Kind}
use Rattle.vch_base.specs.declared.kind.Kind.TheVariants as kinds
use Rattle.vch_model.specs.declared.call.Call.{Call}
use Rattle.vch_model.specs.declared.call.Call.TheVariants as calls
use Rattle.vch_model.specs.declared.call.Word.{Word}
use Rattle.vch_model.specs.declared.call.Word.TheVariants as words
use Rattle.vch_model.specs.Lines.{is_task, lines_until}
use Rattle.vch_model.specs.Words.{word_of}
use Rattle.vch_machine.specs.Next.{nth_call}
use Rattle.vch_machine.specs.State.{is_empty}
use Rattle.vch_vouchers.specs.Desks.{desk}
use Rattle.vch_parts.specs.declared.frame.Frame.{Frame}
use Rattle.vch_parts.specs.declared.parts.Parts.{Parts}
use Rattle.vch_parts.specs.Framed.{frame_of, begun_of}
use Rattle.vch_parts.specs.Nexts.{value_kind, call_kind, open_kind, first_kind, task_kind}
use Rattle.vch_parts.specs.Reached.{Reached, IsNext}
use Rattle.vch_parts.proofs.CallerLemmas.{next_agrees}
use Rattle.vch_runs.specs.declared.said.Said.{Said}
use Rattle.vch_runs.specs.declared.said.Said.TheVariants as sayings
use Rattle.vch_runs.specs.Said.{Says, word_said}
use Rattle.vch_runs.specs.Called.{HasNext, IsCreatingCall, IsOpenKind, IsWordOf, carried_kind, is_creating, number_by, own_number, own_word}
use Rattle.vch_runs.proofs.Calling.{Opened, begins_at, call_there, same_word}
use Rattle.vch_runs.proofs.Framed.{Reach, reach}

-- Its word.

number_open : (p : Parts) (t : ℕ) → IsSome (frame_of p.frames t) → own_number p t ≡ begun_of p.frames t
number_open p t under = by (frame_of p.frames t) under
  where
    by : (o : Option Frame) → IsSome o → number_by (begun_of p.frames t) o ≡ begun_of p.frames t
    by None e = absurd (cc)
    by (Some f) e = refl

word_at : (p : Parts) (t n : ℕ) (call : Call) → own_number p t ≡ n → nth_call p.scenario t n ≡ Some call → own_word p t ≡ Some (word_of call)
word_at p t n call number is = ap (λ k. option_map word_of (nth_call p.scenario t k)) number ∙ ap (option_map word_of) is

word_open : (p : Parts) (t : ℕ) (call : Call) → IsSome (frame_of p.frames t) → nth_call p.scenario t (begun_of p.frames t) ≡ Some call → own_word p t ≡ Some (word_of call)
word_open p t call under is = word_at p t (begun_of p.frames t) call (number_open p t under) is

pub said_open : (p : Parts) (t : ℕ) (call : Call) (s : Said) → IsSome (frame_of p.frames t) → nth_call p.scenario t (begun_of p.frames t) ≡ Some call → Says s (Some call) → own_word p t ≡ Some (word_said s)
said_open p t call s under is says = word_open p t call under is ∙ ap (λ w. Some w) (same_word s call says)

pub said_begun : (p : Parts) (t : ℕ) (call : Call) (s : Said) → frame_of p.frames t ≡ None → nth_call p.scenario t (begun_of p.frames t + 1) ≡ Some call → Says s (Some call) → own_word p t ≡ Some (word_said s)
said_begun p t call s free is says =
    word_at p t (begun_of p.frames t + 1) call (ap (number_by (begun_of p.frames t)) free) is ∙ ap (λ w. Some w) (same_word s call says)

-- The kind of its next event.

-- what the parts tell of a task
abbrev told : Parts → ℕ → Option Frame → Option Kind
told p t o = task_kind p.scenario (desk p.vouchers t).names t p.phase (begun_of p.frames t) o

some_told : (p : Parts) (t : ℕ) → Reached p → is_task p.scenario t ≡ true → HasNext p t → is_some (told p t (frame_of p.frames t)) ≡ true
unfolding HasNext
some_told p t r task has = let x : Reach p = reach p r in ap is_some (next_agrees p t x.m task x.state) ∙ has x.m x.state

is_told : (p : Parts) (t : ℕ) (kind : Kind) → is_task p.scenario t ≡ true → told p t (frame_of p.frames t) ≡ Some kind → IsNext p t (Some kind)
unfolding IsNext
is_told p t kind task e m s = sym (next_agrees p t m task s) ∙ e

begin_kind : (b : Bool) → is_some (if b then Some kinds.Begin else None) ≡ true → (if b then Some kinds.Begin else None) ≡ Some kinds.Begin
begin_kind true e = refl
begin_kind false e = absurd (cc)

-- a task without a call under way begins one
pub begins_next : (p : Parts) (t : ℕ) → Reached p → is_task p.scenario t ≡ true → frame_of p.frames t ≡ None → HasNext p t → IsNext p t (Some kinds.Begin)
begins_next p t r task free has =
    is_told p t kinds.Begin task (ap (told p t) free ∙ begin_kind (nat_lt (begun_of p.frames t) (lines_until p.scenario (p.phase + 1) t))
    (subst (λ o. is_some (told p t o) ≡ true) free (some_told p t r task has)))

pub no_frame : (o : Option Frame) → is_some o ≡ false → o ≡ None
no_frame None e = refl
no_frame (Some f) e = absurd (cc)

not_answered : (b : Bool) (k : Option Kind) → is_some (if b then None else k) ≡ true → b ≡ false
not_answered true k e = absurd (cc)
not_answered false k e = refl

module _ (p : Parts) (t : ℕ) (r : Reached p) (task : is_task p.scenario t ≡ true) (idle : value_kind (frame_of p.frames t) ≡ None) (has : HasNext p t) where
  abbrev by_call : Frame → Option Call → Option Kind
  by_call f o = call_kind p.scenario.version (desk p.vouchers t).names f.at f.keys o

  -- a call that is under way goes on by its own kind
  goes_on : IsSome (frame_of p.frames t) → (P : Type 0) → ((f : Frame) → frame_of p.frames t ≡ Some f → told p t (frame_of p.frames t) ≡ by_call f (nth_call p.scenario t (begun_of p.frames t))
      → is_some (by_call f (nth_call p.scenario t (begun_of p.frames t))) ≡ true → P) → P
  goes_on under P h = by (frame_of p.frames t) refl under
    where
      opens : (f : Frame) → frame_of p.frames t ≡ Some f → told p t (frame_of p.frames t) ≡ open_kind p.scenario.version (desk p.vouchers t).names (nth_call p.scenario t (begun_of p.frames t)) f
      opens f own = ap (told p t) own
          ∙ ap (λ o. first_kind o (open_kind p.scenario.version (desk p.vouchers t).names (nth_call p.scenario t (begun_of p.frames t)) f)) (ap value_kind (sym own) ∙ idle)

      with_answer : (f : Frame) → frame_of p.frames t ≡ Some f → f.answered ≡ false → P
      with_answer f own e =
          let same : told p t (frame_of p.frames t) ≡ by_call f (nth_call p.scenario t (begun_of p.frames t)) =
          opens f own ∙ ap (λ b. if b then None else by_call f (nth_call p.scenario t (begun_of p.frames t))) e in
          h f own same (ap is_some (sym same) ∙ some_told p t r task has)

      by : (o : Option Frame) → frame_of p.frames t ≡ o → IsSome o → P
      by None own e = absurd (cc)
      by (Some f) own e = with_answer f own (not_answered f.answered (by_call f (nth_call p.scenario t (begun_of p.frames t))) (ap is_some (sym (opens f own)) ∙ some_told p t r task has))

  pub open_there : IsSome (frame_of p.frames t) → nth_call p.scenario t (begun_of p.frames t) ≡ None → ⊥
  open_there under e = goes_on under ⊥ (λ f own same some. no_kind (subst (λ o. is_some (by_call f o) ≡ true) e some))
    where
      no_kind : false ≡ true → ⊥
      no_kind q = cc

  pub own_there : nth_call p.scenario t (own_number p t) ≡ None → ⊥
  own_there e = by (frame_of p.frames t) refl
    where
      by : (o : Option Frame) → frame_of p.frames t ≡ o → ⊥
      by None own = call_there p t (begins_at p t r task (begins_next p t r task own has)) (subst (λ o. nth_call p.scenario t (number_by (begun_of p.frames t) o) ≡ None) own e)
      by (Some f) own = open_there (ap is_some own) (subst (λ o. nth_call p.scenario t (number_by (begun_of p.frames t) o) ≡ None) own e)

  pick : (b : Bool) → (if b then Some kinds.Place else Some kinds.Make) ≡ Some (if b then kinds.Place else kinds.Make)
  pick true = refl
  pick false = refl

  kind_is : (f : Frame) (s : Said) (o : Option Call) → Says s o → is_creating (word_said s) ≡ false → by_call f o ≡ Some (carried_kind s (is_empty f.keys))
  kind_is f (sayings.Create n) o says c = absurd (cc)
  kind_is f (sayings.GiveUp name) o says c = absurd (cc)
  kind_is f (sayings.Extract name key) o says c = absurd (cc)
  kind_is f (sayings.Recipes name) o says c = absurd (cc)
  kind_is f (sayings.Send to moving name id) o says c = ap (by_call f) says ∙ pick (is_empty f.keys)
  kind_is f sayings.Recv o says c = ap (by_call f) says ∙ pick (is_empty f.keys)
  kind_is f (sayings.Extern name adding n) o says c = ap (by_call f) says ∙ pick (is_empty f.keys)
  kind_is f (sayings.Charge name n) o says c = ap (by_call f) says ∙ pick (is_empty f.keys)
  kind_is f sayings.Ledger o says c = ap (by_call f) says ∙ pick (is_empty f.keys)
  kind_is f sayings.Assertions o says c = ap (by_call f) says ∙ pick (is_empty f.keys)
  kind_is f sayings.Live o says c = ap (by_call f) says ∙ pick (is_empty f.keys)
  kind_is f sayings.Exit o says c = ap (by_call f) says

  -- one of the eight goes on by the kind that is read off it
  pub carried_next : IsSome (frame_of p.frames t) → (s : Said) → Says s (nth_call p.scenario t (begun_of p.frames t)) → is_creating (word_said s) ≡ false
      → (asked : Bool) → IfSome (frame_of p.frames t) (λ f. asked ≡ is_empty f.keys) → IsNext p t (Some (carried_kind s asked))
  carried_next under s says other asked keys = goes_on under _ (λ f own same some.
      let e : asked ≡ is_empty f.keys = subst (λ o. IfSome o (λ (g : Frame). asked ≡ is_empty g.keys)) own keys in
      is_told p t (carried_kind s asked) task (same ∙ (kind_is f s (nth_call p.scenario t (begun_of p.frames t)) says other ∙ ap (λ b. Some (carried_kind s b)) (sym e))))

-- One of the four that is under way is a create.

created : (call : Call) → word_of call ≡ words.Create → (bytes : List ℕ) × (call ≡ calls.Create bytes)
created (calls.Create bytes) e = (bytes, refl)
created (calls.GiveUp name) e = absurd (cc)
created (calls.Extract name key) e = absurd (cc)
created (calls.Recipes name) e = absurd (cc)
created (calls.Send to moving name id) e = absurd (cc)
created calls.Recv e = absurd (cc)
created (calls.Extern name adding n) e = absurd (cc)
created (calls.Charge name n) e = absurd (cc)
created calls.Ledger e = absurd (cc)
created calls.Assertions e = absurd (cc)
created calls.Live e = absurd (cc)
created calls.Exit e = absurd (cc)

not_of_four : (word other : Word) → word ≡ other → is_creating other ≡ false → is_creating word ≡ true → ⊥
not_of_four word other e f g = no (sym f ∙ (ap is_creating (sym e) ∙ g))
  where
    no : false ≡ true → ⊥
    no q = cc

is_create_word : (word : Word) → ((word ≡ words.Create) ⊎ (word ≡ words.Send)) ⊎ (word ≡ words.Recv) → is_creating word ≡ true → word ≡ words.Create
is_create_word word (inl (inl e)) c = e
is_create_word word (inl (inr e)) c = absurd (not_of_four word words.Send e refl c)
is_create_word word (inr e) c = absurd (not_of_four word words.Recv e refl c)

create_word : (kind : Kind) (word : Word) → IsOpenKind kind → IsWordOf kind word → is_creating word ≡ true → word ≡ words.Create
create_word kinds.Work word o (inl e) c = e
create_word kinds.Work word o (inr e) c = absurd (not_of_four word words.Exit e refl c)
create_word kinds.Make word o h c = is_create_word word h c
create_word kinds.Place word o h c = is_create_word word h c
create_word kinds.Begin word o h c = absurd o
create_word kinds.Refer word o h c = absurd o
create_word kinds.LetGo word o h c = absurd o
create_word kinds.Ask word o h c = absurd o
create_word kinds.Recheck word o h c = absurd o
create_word kinds.Phase word o h c = absurd o

pub is_create : (p : Parts) (t : ℕ) (kind : Kind) → IsSome (frame_of p.frames t) → IsCreatingCall p t → Opened (nth_call p.scenario t (begun_of p.frames t)) kind
    → (bytes : List ℕ) × (nth_call p.scenario t (begun_of p.frames t) ≡ Some (calls.Create bytes))
is_create p t kind under creating a =
    let c : is_creating (word_of a.call) ≡ true = subst (λ o. IsSomeAnd o (λ word. is_creating word ≡ true)) (word_open p t a.call under a.is) creating in
    let b = created a.call (create_word kind (word_of a.call) a.kind_is a.word_is c) in
    (b.0, a.is ∙ ap (λ call. Some call) b.1)

-- the word of what a call says, of one of the four and of one of the eight
pub said_word : (p : Parts) (t : ℕ) (s : Said) (b : Bool) → IsSomeAnd (own_word p t) (λ word. is_creating word ≡ b) → own_word p t ≡ Some (word_said s) → is_creating (word_said s) ≡ b
said_word p t s b h e = subst (λ o. IsSomeAnd o (λ word. is_creating word ≡ b)) e h

pub word_is : (p : Parts) (t : ℕ) (word : Word) (b : Bool) → own_word p t ≡ Some word → is_creating word ≡ b → IsSomeAnd (own_word p t) (λ w. is_creating w ≡ b)
word_is p t word b e h = subst (λ o. IsSomeAnd o (λ w. is_creating w ≡ b)) (sym e) h

-- the next event of a call is one of its word
pub said_kind : (s : Said) (kind : Kind) (o : Option Call) → Says s o → Opened o kind → IsWordOf kind (word_said s)
said_kind s kind o says a = subst (IsWordOf kind) (same_word s a.call (subst (Says s) a.is says)) a.word_is
