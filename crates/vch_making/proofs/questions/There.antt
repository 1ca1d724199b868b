-- A call whose next event is a Make asks a manager, and has nothing in hand.
use Rattle.std.proofs.Common.{◌≡◌, ℕ, ◌==◌, ◌&&◌, ◌||◌, Bool, true, false, List, [], ◌∷◌, length, refl, sym, ap, ◌∙◌, subst, drop, Option, Some, None}
use Rattle.std.specs.Prelude.{is_some, if◌then◌else◌}
use Rattle.vch_base.specs.declared.commands.TheConstants as commands
use Rattle.vch_base.specs.declared.key.Key.{Key}
use Rattle.vch_base.specs.declared.key.TheConstants.{ALL_KEYS}
use Rattle.vch_base.specs.declared.kind.Kind.{Kind}
use Rattle.vch_base.specs.declared.kind.Kind.TheVariants as kinds
use Rattle.vch_base.specs.Keys.{key_of}
use Rattle.vch_recipe.specs.Recipes.{First, One, first_of}
use Rattle.vch_model.specs.Legal.{is_managers, is_exit}
use Rattle.vch_model.specs.Lines.{is_task}
use Rattle.vch_model.specs.Store.{Member}
use Rattle.vch_model.specs.Voucher.{Voucher}
use Rattle.vch_model.specs.declared.call.Call.{Call}
use Rattle.vch_model.specs.declared.call.Call.TheVariants as calls
use Rattle.vch_model.specs.declared.lists.Scenario.{Scenario}
use Rattle.vch_machine.specs.Making.{head_key, keys_left}
use Rattle.vch_machine.specs.Next.{first_next, call_next, known_name, nth_call}
use Rattle.vch_machine.specs.State as machine
use Rattle.vch_machine.specs.State.{Machine, tasked, member_of, valued}
use Rattle.vch_legal.specs.Tie as tie
use Rattle.vch_legal.specs.Tie.{Ties, place_with, keys_with, map_with}
use Rattle.vch_legal.proofs.CallerLemmas.{forms_at}
use Rattle.vch_frame.specs.declared.frame.Claiming.{Claiming}
use Rattle.vch_frame.specs.Pairs.{Optional}
use Rattle.vch_frame.specs.Releases.{lets_kind}
use Rattle.vch_frame.specs.Claims.{claim_kind}
use Rattle.vch_vouchers.specs.Desks.{Named, desk}
use Rattle.vch_parts.specs.declared.frame.Frame.{Frame}
use Rattle.vch_parts.specs.declared.parts.Parts.{Parts}
use Rattle.vch_parts.specs.Framed.{frame_of}
use Rattle.vch_parts.specs.Nexts.{value_kind, receipt_kind}
use Rattle.vch_parts.specs.Plain.{Indices}
use Rattle.vch_parts.specs.Reached.{plain_of, Reached, Stands, IsNext}
use Rattle.vch_parts.specs.Shape.{IsReceipt}
use Rattle.vch_parts.specs.Stands.{StandsFor}
use Rattle.vch_parts.proofs.CallerLemmas.{own_frame, own_begun, no_receipt}
use Rattle.vch_moves.proofs.CallerLemmas.{AtCall, at_call, forms_call, from_state, next_in, stands_of, ties_of}
use Rattle.vch_making.specs.Asked.{asked_key, question_at, question_by, question_first, question_next}
use Rattle.vch_making.specs.Answers.{question_of, question_with, framed_question}
use Rattle.vch_making.proofs.questions.Asks.{asks_here}

-- Some manager is asked.

no_key : (x m r l : Bool) → (x && ((m && false) || (r && (false && l)))) ≡ true → ⊥
no_key true true true l e = cc
no_key true true false l e = cc
no_key true false true l e = cc
no_key true false false l e = cc
no_key false m r l e = cc

no_head : (version : ℕ) (ks : List Key) → head_key (keys_left version ks) ≡ None → ⊥
no_head version [] e = cc
no_head version (k ∷ ks) e = cc

-- a record that asks a manager has a key
key_there : (version : ℕ) (ks : List Key) (x m r l b : Bool) (o : Option Key) → (x && ((m && is_some o) || (r && (b && l)))) ≡ true → (if b then head_key (keys_left version ks) else o) ≡ None → ⊥
key_there version ks x m r l true o e q = no_head version ks q
key_there version ks x m r l false (Some k) e q = cc
key_there version ks x m r l false None e q = no_key x m r l e

first_some : (version : ℕ) (names : List Named) (twins : List machine.Named) (ks : List Key) (u : Indices) (first : First) → first_next version twins first ≡ kinds.Make → question_first version names ks u first ≡ None → ⊥
first_some version names twins ks u (One r rest) next e = by (asked_key version ks r.key) refl e
  where
    by : (o : Option Key) → asked_key version ks r.key ≡ o → question_at names u r.command r.previous o ≡ None → ⊥
    by (Some k) q e = cc
    by None q e = key_there version ks ((r.previous == 0) || is_some (known_name twins r.previous)) (is_managers r.command) (r.command == commands.REDEEM) (length r.content == 0) (r.key == ALL_KEYS) (key_of version r.key) (asks_here version twins r rest next) q
first_some version names twins ks u First.End next e = cc
first_some version names twins ks u (First.HeaderCut left) next e = cc
first_some version names twins ks u (First.ContentCut wanted left) next e = cc

next_some : (version command place : ℕ) (twins : List machine.Named) (u : Indices) (ks : List Key) → call_next version twins place ks (Some calls.Recv) ≡ Some kinds.Make → question_next command u (head_key ks) ≡ None → ⊥
next_some version command place twins u [] next e = cc
next_some version command place twins u (k ∷ ks) next e = cc

make_is : (kind : Kind) → Some kind ≡ Some kinds.Make → kind ≡ kinds.Make
make_is kind e = cc

question_some : (sc : Scenario) (x : Member) (t place place2 : ℕ) (ks2 : List Key) (map : Voucher) (names : List Named) (twins : List machine.Named) (ks : List Key) (u : Indices) (call : Call)
    → tie.Forms sc x t call place2 ks2 map → call_next sc.version twins place ks (Some call) ≡ Some kinds.Make → question_by sc.version names place ks u (Some call) ≡ None → ⊥
question_some sc x t place place2 ks2 map names twins ks u (calls.Create bytes) f next e = first_some sc.version names twins ks u (first_of (drop place bytes)) (make_is _ next) e
question_some sc x t place place2 ks2 map names twins ks u (calls.Send to moving name id) f next e = next_some sc.version _ place twins u ks next e
question_some sc x t place place2 ks2 map names twins ks u calls.Recv f next e = next_some sc.version _ place twins u ks next e
question_some sc x t place place2 ks2 map names twins ks u (calls.GiveUp name) f next e = f
question_some sc x t place place2 ks2 map names twins ks u (calls.Extract name key) f next e = f
question_some sc x t place place2 ks2 map names twins ks u (calls.Recipes name) f next e = f
question_some sc x t place place2 ks2 map names twins ks u calls.Exit f next e = f
question_some sc x t place place2 ks2 map names twins ks u (calls.Extern name adding n) f next e = f
question_some sc x t place place2 ks2 map names twins ks u (calls.Charge name n) f next e = f
question_some sc x t place place2 ks2 map names twins ks u calls.Ledger f next e = f
question_some sc x t place place2 ks2 map names twins ks u calls.Assertions f next e = f
question_some sc x t place place2 ks2 map names twins ks u calls.Live f next e = f

not_exit : (version place : ℕ) (twins : List machine.Named) (ks : List Key) (call : Call) → call_next version twins place ks (Some call) ≡ Some kinds.Make → is_exit call ≡ false
not_exit version place twins ks (calls.Create bytes) e = refl
not_exit version place twins ks (calls.Send to moving name id) e = refl
not_exit version place twins ks calls.Recv e = refl
not_exit version place twins ks (calls.GiveUp name) e = refl
not_exit version place twins ks (calls.Extract name key) e = refl
not_exit version place twins ks (calls.Recipes name) e = refl
not_exit version place twins ks calls.Exit e = absurd (cc)
not_exit version place twins ks (calls.Extern name adding n) e = refl
not_exit version place twins ks (calls.Charge name n) e = refl
not_exit version place twins ks calls.Ledger e = refl
not_exit version place twins ks calls.Assertions e = refl
not_exit version place twins ks calls.Live e = refl

-- a frame with nothing in hand and nothing to let go of
idle_kind : (f : Frame) → f.receipt ≡ None → f.claim ≡ Claiming.Nothing → f.lets ≡ [] → value_kind (Some f) ≡ None
idle_kind f r x l = ap (receipt_kind f) r ∙ (ap (λ y. claim_kind f.lets y) x ∙ ap lets_kind l)

module _ (p : Parts) (t : ℕ) (reached : Reached p) (task : is_task p.scenario t ≡ true) (next : IsNext p t (Some kinds.Make)) where
  at_make : (P : Type 0) → ((m : Machine) (st : Stands p m) (f : Frame) (g : machine.Frame) → frame_of p.frames t ≡ Some f → AtCall p.scenario (plain_of p) m t f g kinds.Make → P) → P
  at_make P h = from_state p P reached (λ m st. at_call p.scenario (plain_of p) m t (stands_of p.scenario (plain_of p) m st) (ties_of p.scenario (plain_of p) m st) task kinds.Make refl (next_in p t (Some kinds.Make) m next st) P
      (λ f g own a. h m st f g (sym (own_frame p t reached task) ∙ own) a))

  pub make_idle : value_kind (frame_of p.frames t) ≡ None
  make_idle = at_make _ (λ m st f g own a. subst (λ o. value_kind o ≡ None) (sym own) (idle_kind f a.work.idle.0 a.work.idle.1 a.lets))

  asks_none : question_of p t ≡ None → (m : Machine) (st : Stands p m) (f : Frame) (g : machine.Frame) → frame_of p.frames t ≡ Some f → AtCall p.scenario (plain_of p) m t f g kinds.Make → ⊥
  asks_none e m st f g own a =
      let s : StandsFor p.scenario (plain_of p) m = stands_of p.scenario (plain_of p) m st in
      let ties : Ties p.scenario m = ties_of p.scenario (plain_of p) m st in
      forms_call p.scenario (plain_of p) m t s ties task f g a.call ⊥ a.work a.unanswered a.begun (not_exit p.scenario.version g.at_byte (tasked m t).names g.keys a.call a.asked) (λ u w forming forms.
      let none : question_by p.scenario.version (desk p.vouchers t).names f.at f.keys u (Some a.call) ≡ None =
      ap (question_by p.scenario.version (desk p.vouchers t).names f.at f.keys u) (sym (ap (nth_call p.scenario t) (sym (own_begun p t reached task)) ∙ a.begun))
      ∙ (ap (framed_question p t f.at f.keys) (sym forming) ∙ (ap (question_with p t) (sym own) ∙ e)) in
      question_some p.scenario (member_of m.live (tasked m t)) t g.at_byte (place_with p.scenario.version a.call g.at_byte g.keys None) (keys_with p.scenario.version a.call g.at_byte g.keys None) (valued m.live (map_with w None))
      (desk p.vouchers t).names (tasked m t).names g.keys u a.call
      (forms_at p.scenario t m g w None a.call (ties.tasks t task) a.work.task forms.forms (no_receipt g.receipt (subst (λ o. Optional IsReceipt o g.receipt) a.work.idle.0 a.work.frame.receipt)) a.current_is) a.asked
      (subst (λ ks. question_by p.scenario.version (desk p.vouchers t).names g.at_byte ks u (Some a.call) ≡ None) a.work.frame.keys
      (subst (λ i. question_by p.scenario.version (desk p.vouchers t).names i f.keys u (Some a.call) ≡ None) a.work.frame.at_byte none)))

  pub question_there : question_of p t ≡ None → ⊥
  question_there e = at_make ⊥ (asks_none e)
