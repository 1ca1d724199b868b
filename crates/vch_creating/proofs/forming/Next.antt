-- Where the Work of a create is next: what the frame forms, and the record at its place.
use Rattle.std.proofs.Common.{◌≡◌, ℕ, ◌-◌, ◌<◌, ◌≤◌, ◌==◌, Bool, true, false, List, [], refl, arith, sym, ap, ◌∙◌, length, drop, subst, Option, Some, None}
use Rattle.std.proofs.lemmas.Grind.{common_steps}
use Rattle.std.proofs.lemmas.List.{length-drop}
use Rattle.std.proofs.lemmas.Option.{same_Some}
use Rattle.vch_base.specs.declared.kind.Kind.{Kind}
use Rattle.vch_base.specs.declared.kind.Kind.TheVariants as kinds
use Rattle.vch_recipe.specs.Recipes.{First, first_of}
use Rattle.vch_model.specs.Lines.{is_task}
use Rattle.vch_model.specs.declared.call.Call.{Call}
use Rattle.vch_model.specs.declared.call.Call.TheVariants as calls
use Rattle.vch_machine.specs.Next.{nth_call, first_next, call_next}
use Rattle.vch_machine.specs.State as machine
use Rattle.vch_machine.specs.State.{Handles, Machine, tasked}
use Rattle.vch_machine.specs.Naming.{handles_of}
use Rattle.vch_legal.specs.Tie.{Ties}
use Rattle.vch_legal.proofs.CallerLemmas.{IsAmong}
use Rattle.vch_frame.specs.declared.frame.Claiming.{Claiming}
use Rattle.vch_frame.specs.Pairs.{Optional}
use Rattle.vch_frame.specs.Indices.{IsKeyed}
use Rattle.vch_vouchers.specs.Desks.{voucher_of}
use Rattle.vch_parts.specs.declared.frame.Frame.{Frame}
use Rattle.vch_parts.specs.declared.parts.Parts.{Parts}
use Rattle.vch_parts.specs.Framed.{frame_of, begun_of}
use Rattle.vch_parts.specs.Nexts.{value_kind}
use Rattle.vch_parts.specs.Plain.{Indices, Part, part_of}
use Rattle.vch_parts.specs.Reached.{plain_of, Reached, IsNext, IsState}
use Rattle.vch_parts.specs.Shape.{IsMap}
use Rattle.vch_parts.specs.Stands.{StandsFor}
use Rattle.vch_parts.proofs.CallerLemmas.{own_frame, own_begun, part_at}
use Rattle.vch_moves.specs.Moments.{Forms}
use Rattle.vch_moves.proofs.CallerLemmas.{AtCall, at_call, forms_call, from_state, next_in, stands_of, ties_of, voucher_is, own_known}
use Rattle.vch_creating.specs.declared.change.Deed.{Deed}
use Rattle.vch_creating.specs.declared.change.Deed.TheVariants as deeds
use Rattle.vch_creating.specs.Carried.{IsCreate}
use Rattle.vch_creating.specs.Reading.{named_by}
use Rattle.vch_creating.proofs.forming.Deeds.{CopiesKnown}
use Rattle.vch_creating.proofs.forming.Naming.{Named}

-- the bytes of a create
pub bytes_of : (o : Option Call) (P : Type 0) → IsCreate o → ((bytes : List ℕ) → o ≡ Some (calls.Create bytes) → P) → P
bytes_of None P e h = absurd e
bytes_of (Some (calls.Create bytes)) P e h = h bytes refl
bytes_of (Some (calls.GiveUp name)) P e h = absurd e
bytes_of (Some (calls.Extract name key)) P e h = absurd e
bytes_of (Some (calls.Recipes name)) P e h = absurd e
bytes_of (Some (calls.Send to moving name id)) P e h = absurd e
bytes_of (Some calls.Recv) P e h = absurd e
bytes_of (Some (calls.Extern name adding n)) P e h = absurd e
bytes_of (Some (calls.Charge name n)) P e h = absurd e
bytes_of (Some calls.Ledger) P e h = absurd e
bytes_of (Some calls.Assertions) P e h = absurd e
bytes_of (Some calls.Live) P e h = absurd e
bytes_of (Some calls.Exit) P e h = absurd e

-- a record is there, whole or cut
some_left : (version : ℕ) (names : List machine.Named) (place : ℕ) (bytes : List ℕ) → first_next version names (first_of (drop place bytes)) ≡ kinds.Work → place ≤ length bytes
some_left version names place bytes e = by (length (drop place bytes) == 0) refl
  where
    not_placed : kinds.Place ≡ kinds.Work → ⊥
    not_placed e = cc

    by : (b : Bool) → (length (drop place bytes) == 0) ≡ b → place ≤ length bytes
    by true q = let z : first_of (drop place bytes) ≡ First.End = rw q refl in absurd (not_placed (sym (ap (first_next version names) z) ∙ e))
    by false q = let l : length (drop place bytes) ≡ length bytes - place = length-drop place bytes in let n : 0 < length (drop place bytes) = grind (arith, common_steps) in omega (arith, l, n)

one_kind : {a b : Kind} → Some a ≡ Some b → a ≡ b
one_kind e = cc

idle_kind : (f : Frame) → f.receipt ≡ None → f.claim ≡ Claiming.Nothing → f.lets ≡ [] → value_kind (Some f) ≡ None
idle_kind f r y l = rw (r, y, l) refl

module _ (p : Parts) (t : ℕ) (reached : Reached p) (task : is_task p.scenario t ≡ true) (next : IsNext p t (Some kinds.Work)) where
  module _ (bytes : List ℕ) (there : nth_call p.scenario t (begun_of p.frames t) ≡ Some (calls.Create bytes)) where
    pub begun_there : nth_call p.scenario t (part_of (plain_of p) t).begun ≡ Some (calls.Create bytes)
    begun_there = ap (nth_call p.scenario t) (own_begun p t reached task) ∙ there

    -- the frame on both sides, and what it forms
    pub record Forming (m : Machine) (f : Frame) (g : machine.Frame) (u : Indices) (w : Handles) : Type 0 where
      pub own : frame_of p.frames t ≡ Some f
      pub at : AtCall p.scenario (plain_of p) m t f g kinds.Work
      pub voucher : f.forming ≡ Some u
      pub forms : Forms (plain_of p) g u w

    module _ (m : Machine) (st : IsState p.scenario (plain_of p) m) where
      abbrev s : StandsFor p.scenario (plain_of p) m
      s = stands_of p.scenario (plain_of p) m st

      abbrev ties : Ties p.scenario m
      ties = ties_of p.scenario (plain_of p) m st

      pub seen : (P : Type 0) → ((f : Frame) (g : machine.Frame) (u : Indices) (w : Handles) → Forming m f g u w → P) → P
      seen P h = at_call p.scenario (plain_of p) m t s ties task kinds.Work refl (next_in p t (Some kinds.Work) m next st) P (λ f g e a.
          forms_call p.scenario (plain_of p) m t s ties task f g (calls.Create bytes) P a.work a.unanswered begun_there refl (λ u w x y.
          h f g u w (record { own = sym (own_frame p t reached task) ∙ e; at = a; voucher = x; forms = y })))

      -- the same of a frame and a voucher that are known
      pub seen_of : (f : Frame) (u : Indices) (P : Type 0) → frame_of p.frames t ≡ Some f → f.forming ≡ Some u → ((g : machine.Frame) (w : Handles) → Forming m f g u w → P) → P
      seen_of f u P own forms h = seen P (λ f2 g u2 w z.
          let same : f2 ≡ f = same_Some f2 f (sym z.own ∙ own) in
          let one : u2 ≡ u = same_Some u2 u (sym z.voucher ∙ ap (λ (x : Frame). x.forming) same ∙ forms) in
          h g w (subst (λ x. Forming m x g u w) same (subst (λ v. Forming m f2 g v w) one z)))

      among : (f : Frame) (g : machine.Frame) → AtCall p.scenario (plain_of p) m t f g kinds.Work → IsAmong t m.tasks
      among f g a = (a.work.positive, let b = a.work.inside in let d = s.shape.long in omega (arith, b, d))

      pub names_same : (f : Frame) (g : machine.Frame) → AtCall p.scenario (plain_of p) m t f g kinds.Work → (name : ℕ) → Optional (IsMap p.values) (named_by p t name) (handles_of (tasked m t).names name)
      names_same f g a name =
          subst (λ (x : Part). Optional (IsMap p.values) (voucher_of x.names name) (handles_of (tasked m t).names name)) (part_at p.vouchers p.frames t a.work.positive a.work.inside)
          (voucher_is p.values (part_of (plain_of p) t).names (tasked m t).names name (s.shape.tasks t a.work.positive a.work.inside).names)

      -- the voucher of a copy is that of a name
      pub copies_known : (f : Frame) (g : machine.Frame) → AtCall p.scenario (plain_of p) m t f g kinds.Work → (deed : Deed) → Named (named_by p t) deed → CopiesKnown p.values m deed
      copies_known f g a (deeds.Copy v) n = by (handles_of (tasked m t).names n.0) refl (subst (λ o. Optional (IsMap p.values) o (handles_of (tasked m t).names n.0)) n.1 (names_same f g a n.0))
        where
          by : (o : Option Handles) → handles_of (tasked m t).names n.0 ≡ o → Optional (IsMap p.values) (Some v) o → CopiesKnown p.values m (deeds.Copy v)
          by None e z = absurd z
          by (Some u) e z = (u, z, own_known m t n.0 u (among f g a) e)
      copies_known f g a (deeds.Remove v) n = tt

      pub place_inside : (f : Frame) (g : machine.Frame) → AtCall p.scenario (plain_of p) m t f g kinds.Work → f.at ≤ length bytes
      place_inside f g a =
          let call : Some a.call ≡ Some (calls.Create bytes) = sym a.begun ∙ begun_there in
          let asked : call_next p.scenario.version (tasked m t).names g.at_byte g.keys (Some (calls.Create bytes)) ≡ Some kinds.Work =
          subst (λ o. call_next p.scenario.version (tasked m t).names g.at_byte g.keys o ≡ Some kinds.Work) call a.asked in
          subst (λ n. n ≤ length bytes) (sym a.work.frame.at_byte) (some_left p.scenario.version (tasked m t).names g.at_byte bytes (one_kind asked))

    -- what the code needs
    any : (P : Type 0) → ((m : Machine) (st : IsState p.scenario (plain_of p) m) (f : Frame) (g : machine.Frame) (u : Indices) (w : Handles) → Forming m f g u w → P) → P
    any P h = from_state p P reached (λ m st. seen m st P (λ f g u w z. h m st f g u w z))

    pub inside : (f : Frame) → frame_of p.frames t ≡ Some f → f.at ≤ length bytes
    inside f own = any (f.at ≤ length bytes) (λ m st f2 g u w z. subst (λ (x : Frame). x.at ≤ length bytes) (same_Some f2 f (sym z.own ∙ own)) (place_inside m st f2 g z.at))

    pub no_values : value_kind (frame_of p.frames t) ≡ None
    no_values = any _ (λ m st f g u w z. ap value_kind z.own ∙ idle_kind f z.at.work.idle.0 z.at.work.idle.1 z.at.lets)

    pub no_lets : (f : Frame) → frame_of p.frames t ≡ Some f → f.lets ≡ []
    no_lets f own = any _ (λ m st f2 g u w z. subst (λ (x : Frame). x.lets ≡ []) (same_Some f2 f (sym z.own ∙ own)) z.at.lets)

    pub few_lets : (f : Frame) → frame_of p.frames t ≡ Some f → length f.lets ≤ 8
    few_lets f own = let e : length f.lets ≡ 0 = ap length (no_lets f own) in omega (arith, e)

    pub is_keyed : (f : Frame) (u : Indices) → frame_of p.frames t ≡ Some f → f.forming ≡ Some u → IsKeyed u
    is_keyed f u own forms = from_state p (IsKeyed u) reached (λ m st. seen_of m st f u (IsKeyed u) own forms (λ g w z. z.forms.map.1))

    pub has_frame : frame_of p.frames t ≡ None → ⊥
    has_frame e = any ⊥ (λ m st f g u w z. two (sym e ∙ z.own))
      where
        two : {f : Frame} → None ≡ Some f → ⊥
        two q = cc

    pub has_voucher : (f : Frame) → frame_of p.frames t ≡ Some f → f.forming ≡ None → ⊥
    has_voucher f own e = any ⊥ (λ m st f2 g u w z. two (sym e ∙ ap (λ (x : Frame). x.forming) (same_Some f f2 (sym own ∙ z.own)) ∙ z.voucher))
      where
        two : {v : Indices} → None ≡ Some v → ⊥
        two q = cc
