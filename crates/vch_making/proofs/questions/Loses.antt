-- What a call that lost a key needs, and what it leaves.
use Rattle.std.proofs.Common.{◌≡◌, ℕ, ◌<◌, ◌≤◌, true, List, [], refl, arith, sym, ap, ◌∙◌, length, subst, drop, Some, None}
use Rattle.std.specs.Prelude.{IfSome}
use Rattle.std.proofs.lemmas.Option.{same_Some}
use Rattle.vch_base.specs.declared.key.Key.{Key}
use Rattle.vch_base.specs.declared.kind.Kind.TheVariants as kinds
use Rattle.vch_base.specs.Keys.{number_of}
use Rattle.vch_table.specs.Indices.{index_at, Bounded, SetsIndex}
use Rattle.vch_recipe.specs.Recipes.{First, One, first_of}
use Rattle.vch_model.specs.Lines.{is_task}
use Rattle.vch_model.specs.declared.call.Call.{Call}
use Rattle.vch_model.specs.declared.call.Call.TheVariants as calls
use Rattle.vch_machine.specs.Next.{nth_call}
use Rattle.vch_legal.proofs.CallerLemmas.{record_inside}
use Rattle.vch_frame.specs.declared.frame.KeyIndex.{KeyIndex}
use Rattle.vch_frame.proofs.CallerLemmas.{room_for}
use Rattle.vch_vouchers.specs.Desks.{Named, desk}
use Rattle.vch_parts.specs.declared.frame.Frame.{Frame}
use Rattle.vch_parts.specs.declared.frames.Working.{Working}
use Rattle.vch_parts.specs.declared.parts.Parts.{Parts}
use Rattle.vch_parts.specs.Framed.{frame_of, begun_of, with_frame_of}
use Rattle.vch_parts.specs.Moves.{PutsIndex, moved_on}
use Rattle.vch_parts.specs.Nexts.{IsInside}
use Rattle.vch_parts.specs.Plain.{Indices, with_frame_at}
use Rattle.vch_parts.specs.Reached.{plain_of, Reached, IsNext}
use Rattle.vch_parts.proofs.CallerLemmas.{tasks_then}
use Rattle.vch_moves.proofs.CallerLemmas.{from_state}
use Rattle.vch_making.specs.declared.question.Question.{Question}
use Rattle.vch_making.specs.Given.{gave_none}
use Rattle.vch_making.specs.Asked.{question_by, question_first}
use Rattle.vch_making.specs.Answers.{question_of, IsLoss}
use Rattle.vch_making.proofs.questions.Previous.{asking, seen}

-- a call that asks is not behind its bytes
inside_first : (version : ℕ) (names : List Named) (ks : List Key) (u : Indices) (bytes : List ℕ) (place : ℕ) (first : First) (q : Question) → first_of (drop place bytes) ≡ first → question_first version names ks u first ≡ Some q → place ≤ length bytes
inside_first version names ks u bytes place (One r rest) q is e = record_inside bytes place r rest is
inside_first version names ks u bytes place First.End q is e = absurd (cc)
inside_first version names ks u bytes place (First.HeaderCut left) q is e = absurd (cc)
inside_first version names ks u bytes place (First.ContentCut wanted left) q is e = absurd (cc)

inside_call : (version : ℕ) (names : List Named) (ks : List Key) (u : Indices) (place : ℕ) (call : Call) (q : Question) → question_by version names place ks u (Some call) ≡ Some q → IsInside place call
inside_call version names ks u place (calls.Create bytes) q e = inside_first version names ks u bytes place (first_of (drop place bytes)) q refl e
inside_call version names ks u place (calls.Send to moving name id) q e = tt
inside_call version names ks u place calls.Recv q e = tt
inside_call version names ks u place (calls.GiveUp name) q e = tt
inside_call version names ks u place (calls.Extract name key) q e = tt
inside_call version names ks u place (calls.Recipes name) q e = tt
inside_call version names ks u place calls.Exit q e = tt
inside_call version names ks u place (calls.Extern name adding n) q e = tt
inside_call version names ks u place (calls.Charge name n) q e = tt
inside_call version names ks u place calls.Ledger q e = tt
inside_call version names ks u place calls.Assertions q e = tt
inside_call version names ks u place calls.Live q e = tt

module _ (p : Parts) (t : ℕ) (q : Question) (reached : Reached p) (task : is_task p.scenario t ≡ true) (next : IsNext p t (Some kinds.Make)) (e : question_of p t ≡ Some q)
    (f : Frame) (own : frame_of p.frames t ≡ Some f) where
  same_frame : {g : Frame} → frame_of p.frames t ≡ Some g → g ≡ f
  same_frame {g} o = same_Some g f (sym o ∙ own)

  pub lose_keys : IfSome f.forming (λ v. index_at v (number_of q.key) ≡ None → length v < 4)
  lose_keys = from_state p _ reached (λ m st. seen p t q reached task next e m st _ (λ f2 u g w a forms own2 forming asks.
      subst (λ o. IfSome o (λ v. index_at v (number_of q.key) ≡ None → length v < 4)) (sym (ap (λ (x : Frame). x.forming) (sym (same_frame own2)) ∙ forming)) (room_for u q.key forms.map.1)))

  pub lose_lets : length f.lets < 12
  lose_lets = from_state p _ reached (λ m st. seen p t q reached task next e m st _ (λ f2 u g w a forms own2 forming asks.
      few f2.lets a.lets (ap (λ (x : Frame). x.lets) (same_frame own2))))
    where
      few : (ls : List KeyIndex) → ls ≡ [] → ls ≡ f.lets → length f.lets < 12
      few ls x y = let z : f.lets ≡ [] = sym y ∙ x in rw z (omega arith)

  pub lose_inside : (f3 : Frame) (call : Call) → nth_call p.scenario t (begun_of p.frames t) ≡ Some call → IfSome f.forming (λ v. PutsIndex q.key None v f f3) → IsInside f3.at call
  lose_inside f3 call is puts = asking p t q _ e (λ f2 u own2 forming asks.
      let same : f2 ≡ f = same_frame own2 in
      let put : IfSome (Some u) (λ v. PutsIndex q.key None v f f3) = subst (λ o. IfSome o (λ v. PutsIndex q.key None v f f3)) (ap (λ (x : Frame). x.forming) (sym same) ∙ forming) puts in
      let placed : f2.at ≡ f3.at = ap (λ (x : Frame). x.at) same ∙ sym (ap (λ (x : Frame). x.at) put.frame) in
      subst (λ n. IsInside n call) placed (inside_call p.scenario.version (desk p.vouchers t).names f2.keys u f2.at call q
      (subst (λ o. question_by p.scenario.version (desk p.vouchers t).names f2.at f2.keys u o ≡ Some q) is asks)))

  module _ (f3 f4 : Frame) (call : Call) (frames2 : List Working) (is : nth_call p.scenario t (begun_of p.frames t) ≡ Some call) (puts : IfSome f.forming (λ v. PutsIndex q.key None v f f3))
      (moved : f4 ≡ moved_on p.scenario.version call f3) (put : frames2 ≡ with_frame_of (with_frame_of p.frames t None) t (Some f4)) where
    abbrev Loses : Indices → Call → Frame → Type 0
    Loses u call2 g = (u2 : Indices) × Bounded u2 × SetsIndex u u2 (number_of q.key) None × (plain_of (record p { frames = frames2 }) ≡ gave_none (plain_of p) t g p.scenario.version call2 q.key u u2)

    here : (u : Indices) → f.forming ≡ Some u → Loses u call f
    here u forming =
        let w : IfSome (Some u) (λ v. PutsIndex q.key None v f f3) = subst (λ o. IfSome o (λ v. PutsIndex q.key None v f f3)) forming puts in (
          w.voucher,
          w.bounded,
          w.sets,
          ap (λ ts. record (plain_of p) { tasks = ts }) (tasks_then p t reached task frames2 (Some f4) put)
              ∙ ap (λ z. with_frame_at (plain_of p) t (Some z)) (moved ∙ ap (moved_on p.scenario.version call) w.frame),
        )

    pub lose_is : IsLoss t q.key p (record p { frames = frames2 })
    lose_is = record {
      scenario = refl;
      plain = λ g u call2 own2 forming is2.
          let same : g ≡ f = same_frame own2 in
          subst (Loses u call2) (sym same) (subst (λ z. Loses u z f) (same_Some call call2 (sym is ∙ is2)) (here u (ap (λ (x : Frame). x.forming) (sym same) ∙ forming)));
    }
