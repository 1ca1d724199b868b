-- The state in which a call asks, and that the value it begins with is live.
use Rattle.std.proofs.Common.{◌≡◌, ℕ, ◌==◌, ◌-◌, ◌<◌, length, Bool, true, false, cond, List, [], ◌∷◌, refl, sym, ap, ◌∙◌, subst, drop, Option, Some, None}
use Rattle.std.specs.Prelude.{IsSome, IfSome, is_some, if◌then◌else◌}
use Rattle.vch_base.specs.declared.key.Key.{Key}
use Rattle.vch_base.specs.declared.kind.Kind.TheVariants as kinds
use Rattle.vch_base.specs.declared.places.Live.{Live}
use Rattle.vch_base.specs.Keyed.{of_key}
use Rattle.vch_base.specs.Managers.{live_at}
use Rattle.vch_entry.specs.Entries.{entry_at}
use Rattle.vch_recipe.specs.Recipes.{First, One, first_of}
use Rattle.vch_value.specs.Calls.{previous_handle}
use Rattle.vch_model.specs.Lines.{is_task}
use Rattle.vch_model.specs.declared.call.Call.{Call}
use Rattle.vch_model.specs.declared.call.Call.TheVariants as calls
use Rattle.vch_model.specs.declared.lists.Scenario.{Scenario}
use Rattle.vch_machine.specs.Making as making
use Rattle.vch_machine.specs.Making.{head_key}
use Rattle.vch_machine.specs.Naming.{handles_of}
use Rattle.vch_machine.specs.Next.{nth_call}
use Rattle.vch_machine.specs.State as machine
use Rattle.vch_machine.specs.State.{Handles, Living, Machine, tasked, living_at}
use Rattle.vch_legal.specs.Tie.{Ties}
use Rattle.vch_legal.proofs.CallerLemmas.{AllLive, LiveAll, LiveAt, forming_live, names_live}
use Rattle.vch_frame.specs.Pairs.{Optional, Pairwise}
use Rattle.vch_frame.specs.Indices.{index_of}
use Rattle.vch_frame.specs.Living.{IsLiving}
use Rattle.vch_frame.proofs.CallerLemmas.{there_of}
use Rattle.vch_values.specs.Parts.{number_at}
use Rattle.vch_vouchers.specs.Desks.{Named, desk}
use Rattle.vch_replies.proofs.CallerLemmas.{map_at}
use Rattle.vch_parts.specs.declared.frame.Frame.{Frame}
use Rattle.vch_parts.specs.declared.parts.Parts.{Parts}
use Rattle.vch_parts.specs.Framed.{frame_of, begun_of}
use Rattle.vch_parts.specs.Plain.{Plain, Part, Indices, part_of}
use Rattle.vch_parts.specs.Reached.{plain_of, parts_in, Reached, Stands, IsNext}
use Rattle.vch_parts.specs.Shape.{IsMap, IsName, IsIndexOf}
use Rattle.vch_parts.specs.Stands.{StandsFor}
use Rattle.vch_parts.proofs.CallerLemmas.{own_frame, own_begun, part_at}
use Rattle.vch_moves.specs.Moments.{Forms}
use Rattle.vch_moves.proofs.CallerLemmas.{AtCall, at_call_of, forms_of, next_in, stands_of, ties_of}
use Rattle.vch_making.specs.declared.question.Question.{Question}
use Rattle.vch_making.specs.Asked as asked
use Rattle.vch_making.specs.Asked.{question_by, question_first, question_at, question_next}
use Rattle.vch_making.specs.Answers.{question_of, question_with, framed_question}
use Rattle.vch_making.proofs.questions.Asks.{previous_map}

-- a call that asks has a frame that forms a voucher
pub asking : (p : Parts) (t : ℕ) (q : Question) (P : Type 0) → question_of p t ≡ Some q
    → ((f : Frame) (u : Indices) → frame_of p.frames t ≡ Some f → f.forming ≡ Some u
    → question_by p.scenario.version (desk p.vouchers t).names f.at f.keys u (nth_call p.scenario t (begun_of p.frames t)) ≡ Some q → P) → P
asking p t q P e h = by_frame (frame_of p.frames t) refl e
  where
    by_forming : (f : Frame) (o : Option Indices) → frame_of p.frames t ≡ Some f → f.forming ≡ o → framed_question p t f.at f.keys o ≡ Some q → P
    by_forming f None own e d = absurd (cc)
    by_forming f (Some u) own e d = h f u own e d

    by_frame : (o : Option Frame) → frame_of p.frames t ≡ o → question_with p t o ≡ Some q → P
    by_frame None own d = absurd (cc)
    by_frame (Some f) own d = by_forming f f.forming own refl d

-- what is seen of a state where a call asks
pub seen : (p : Parts) (t : ℕ) (q : Question) → Reached p → is_task p.scenario t ≡ true → IsNext p t (Some kinds.Make) → question_of p t ≡ Some q → (m : Machine) → Stands p m → (P : Type 0)
    → ((f : Frame) (u : Indices) (g : machine.Frame) (w : Handles) (a : AtCall p.scenario (plain_of p) m t f g kinds.Make) → Forms (plain_of p) g u w → frame_of p.frames t ≡ Some f → f.forming ≡ Some u
    → question_by p.scenario.version (part_of (plain_of p) t).names f.at f.keys u (Some a.call) ≡ Some q → P) → P
seen p t q reached task next e m st P h = asking p t q P e (λ f u own forming asks.
    at_call_of p.scenario (plain_of p) m t s ties task kinds.Make refl (next_in p t (Some kinds.Make) m next st) f P (own_frame p t reached task ∙ own) (λ g a.
    forms_of p.scenario (plain_of p) m t s ties task f g u P a.work forming (λ w forms.
    h f u g w a forms own forming
    (subst (λ ns. question_by p.scenario.version ns f.at f.keys u (Some a.call) ≡ Some q) (sym (names a.work.positive a.work.inside))
    (subst (λ o. question_by p.scenario.version (desk p.vouchers t).names f.at f.keys u o ≡ Some q) (ap (nth_call p.scenario t) (sym (own_begun p t reached task)) ∙ a.begun) asks)))))
  where
    s : StandsFor p.scenario (plain_of p) m
    s = stands_of p.scenario (plain_of p) m st

    ties : Ties p.scenario m
    ties = ties_of p.scenario (plain_of p) m st

    names : 0 < t → t - 1 < length (parts_in p.vouchers p.frames) → (part_of (plain_of p) t).names ≡ (desk p.vouchers t).names
    names positive inside = ap (λ (x : Part). x.names) (part_at p.vouchers p.frames t positive inside)

-- The value that it begins with.

same_live : (n : ℕ) (o : Option Live) (a : Option Living) → IsLiving n o a → is_some a ≡ true → IsSome o
same_live n None None e l = absurd (cc)
same_live n (Some x) (Some a) e l = refl
same_live n None (Some a) e l = absurd e
same_live n (Some x) None e l = absurd e

named_live : (live : List Living) (names : List machine.Named) (w : Handles) (n : ℕ) → AllLive live names → LiveAll live w → LiveAll live (making.or_map (handles_of names n) w)
named_live live [] w n a l = l
named_live live (x ∷ names) w n a l = by (x.name == n) (named_live live names w n a.1 l)
  where
    by : (b : Bool) → LiveAll live (making.or_map (handles_of names n) w) → LiveAll live (making.or_map (cond b (Some x.voucher) (handles_of names n)) w)
    by true next = a.0
    by false next = next

previous_live : (live : List Living) (names : List machine.Named) (w : Handles) (n : ℕ) → AllLive live names → LiveAll live w → LiveAll live (making.previous_of names w n)
previous_live live names w n a l = by (n == 0)
  where
    by : (b : Bool) → LiveAll live (if b then w else making.or_map (handles_of names n) w)
    by true = l
    by false = named_live live names w n a l

module _ (sc : Scenario) (c : Plain) (m : Machine) (t : ℕ) (s : StandsFor sc c m) (names : List Named) (twins : List machine.Named) (u : Indices) (w : Handles)
    (named : Pairwise (IsName c.keyed) names twins) (map : IsMap c.keyed u w) (all : AllLive m.live twins) (own : LiveAll m.live w) (q : Question) (P : Type 0)
    (h : (v : Indices) (x : Handles) → IsMap c.keyed v x → LiveAll m.live x → q.previous ≡ index_of q.key v → P) where
  from_record : (command n : ℕ) (o : Option Key) → question_at names u command n o ≡ Some q → P
  from_record command n None e = absurd (cc)
  from_record command n (Some k) e =
      let mine : Question = record { key = k; command = command; previous = index_of k (asked.previous_of names u n) } in
      let same : mine ≡ q = cc in
      h (asked.previous_of names u n) (making.previous_of twins w n) (previous_map sc c m s names twins u w n named map) (previous_live m.live twins w n all own)
      (subst (λ (z : Question). z.previous ≡ index_of z.key (asked.previous_of names u n)) same refl)

  from_next : (command : ℕ) (o : Option Key) → question_next command u o ≡ Some q → P
  from_next command None e = absurd (cc)
  from_next command (Some k) e =
      let mine : Question = record { key = k; command = command; previous = index_of k u } in
      let same : mine ≡ q = cc in
      h u w map own (subst (λ (z : Question). z.previous ≡ index_of z.key u) same refl)

  from_first : (version : ℕ) (ks : List Key) (first : First) → question_first version names ks u first ≡ Some q → P
  from_first version ks (One r rest) e = from_record r.command r.previous _ e
  from_first version ks First.End e = absurd (cc)
  from_first version ks (First.HeaderCut left) e = absurd (cc)
  from_first version ks (First.ContentCut wanted left) e = absurd (cc)

  pub from_call : (version place : ℕ) (ks : List Key) (call : Call) → question_by version names place ks u (Some call) ≡ Some q → P
  from_call version place ks (calls.Create bytes) e = from_first version ks (first_of (drop place bytes)) e
  from_call version place ks (calls.Send to moving name id) e = from_next _ (head_key ks) e
  from_call version place ks calls.Recv e = from_next _ (head_key ks) e
  from_call version place ks (calls.GiveUp name) e = absurd (cc)
  from_call version place ks (calls.Extract name key) e = absurd (cc)
  from_call version place ks (calls.Recipes name) e = absurd (cc)
  from_call version place ks calls.Exit e = absurd (cc)
  from_call version place ks (calls.Extern name adding n) e = absurd (cc)
  from_call version place ks (calls.Charge name n) e = absurd (cc)
  from_call version place ks calls.Ledger e = absurd (cc)
  from_call version place ks calls.Assertions e = absurd (cc)
  from_call version place ks calls.Live e = absurd (cc)

module _ (p : Parts) (t : ℕ) (q : Question) (reached : Reached p) (task : is_task p.scenario t ≡ true) (next : IsNext p t (Some kinds.Make)) (e : question_of p t ≡ Some q) (m : Machine) (st : Stands p m) where
  s : StandsFor p.scenario (plain_of p) m
  s = stands_of p.scenario (plain_of p) m st

  ties : Ties p.scenario m
  ties = ties_of p.scenario (plain_of p) m st

  from_voucher : (P : Type 0) → ((v : Indices) (x : Handles) → IsMap p.values v x → LiveAll m.live x → q.previous ≡ index_of q.key v → P) → P
  from_voucher P h = seen p t q reached task next e m st P (λ f u g w a forms own forming asks.
      from_call p.scenario (plain_of p) m t s (part_of (plain_of p) t).names (tasked m t).names u w
      (s.shape.tasks t a.work.positive a.work.inside).names forms.map (names_live p.scenario m t ties.fits) (forming_live p.scenario m t g w ties.fits a.work.task forms.forms) q P h
      p.scenario.version f.at f.keys a.call asks)

  pub previous_there : IfSome q.previous (λ i. IsSome (entry_at (of_key q.key p.values).entries.slots i))
  previous_there = from_voucher _ (λ v x map live is. subst (λ o. IfSome o (λ i. IsSome (entry_at (of_key q.key p.values).entries.slots i))) (sym is) (by (index_of q.key v) (of_key q.key x) (map_at (plain_of p) q.key v x map)))
    where
      by : (i o : Option ℕ) → Optional (IsIndexOf p.values q.key) i o → IfSome i (λ i. IsSome (entry_at (of_key q.key p.values).entries.slots i))
      by None o e = tt
      by (Some i) None e = absurd e
      by (Some i) (Some h) e = there_of (of_key q.key p.values).entries.slots i h e

  pub previous_is_live : IfSome (previous_handle (of_key q.key p.values).entries.slots q.previous) (λ h. IsSome (live_at (of_key q.key p.values).kept.slots h))
  previous_is_live = from_voucher _ (λ v x map live is. subst (λ o. IfSome (previous_handle (of_key q.key p.values).entries.slots o) (λ h. IsSome (live_at (of_key q.key p.values).kept.slots h))) (sym is)
      (by (index_of q.key v) (of_key q.key x) (map_at (plain_of p) q.key v x map) (live q.key)))
    where
      by : (i o : Option ℕ) → Optional (IsIndexOf p.values q.key) i o → LiveAt m.live q.key o → IfSome (previous_handle (of_key q.key p.values).entries.slots i) (λ h. IsSome (live_at (of_key q.key p.values).kept.slots h))
      by None o e l = tt
      by (Some i) None e l = absurd e
      by (Some i) (Some h) e l = subst (λ o. IfSome o (λ h. IsSome (live_at (of_key q.key p.values).kept.slots h))) (sym e)
          (same_live (number_at (of_key q.key p.values).numbers h) (live_at (of_key q.key p.values).kept.slots h) (living_at m.live (record { key = q.key; handle = h })) ((s.keyed q.key).living h) l)
