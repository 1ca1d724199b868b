-- Work, to its own task.
use Rattle.std.proofs.Common.{◌≡◌, ℕ, ◌+◌, Bool, List, [], ◌∷◌, ◌++◌, refl, true, false, sym, ◌∙◌, subst, length, drop, Some, None, Ok, Err, Result}
use Rattle.std.specs.Prelude.{if◌then◌else◌, ◌||◌, not, ℤ}
use Rattle.vch_base.specs.declared.key.Key.{Key}
use Rattle.vch_base.specs.declared.codes.TheConstants.{KERN_INVALID_ARGUMENT}
use Rattle.vch_base.specs.declared.kind.Kind.{Kind}
use Rattle.vch_base.specs.declared.kind.Kind.TheVariants as kinds
use Rattle.vch_recipe.specs.Recipes.{First, One, End, HeaderCut, ContentCut, first_of}
use Rattle.vch_recipe.specs.declared.recipe.Recipe.{Recipe}
use Rattle.vch_model.specs.declared.call.Call.{Call}
use Rattle.vch_model.specs.declared.call.Call.TheVariants as calls
use Rattle.vch_model.specs.declared.lists.Scenario.{Scenario}
use Rattle.vch_model.specs.Eval.{eval}
use Rattle.vch_model.specs.Legal.{asks}
use Rattle.vch_machine.specs.State.{Handles, Frame, Machine, tasked, valued, member_of}
use Rattle.vch_machine.specs.Next.{known_name, first_next, call_next}
use Rattle.vch_machine.specs.Working.{WorkDone, work_first, work_done, do_work, size_of}
use Rattle.vch_legal.specs.Facts.{Fits}
use Rattle.vch_legal.specs.Tie.{KeysFit, FormsCreate}
use Rattle.vch_legal.proofs.values.HeldLive.{forming_live, names_live}
use Rattle.vch_legal.proofs.forming.Records.{seen_names, asks_same, record_alike}
use Rattle.vch_legal.proofs.forming.RecordChanges.{valued_result}
use Rattle.vch_legal.proofs.forming.Creates.{Names, worked_forms, refused_forms, Cut, cut_forms}
use Rattle.vch_legal.proofs.steps.Standing.{Step}
use Rattle.vch_legal.proofs.steps.LeaveSteps.{open_step}
use Rattle.vch_legal.proofs.steps.Nexts.{forms_at, forms_in, some_kind}
use Rattle.vch_legal.proofs.steps.Refusals.{Calling, create_refused}

-- where a record asks no manager, no keys are left
no_keys : (version : ℕ) (names : Names) (ks : List Key) (r : Recipe) (rest : List ℕ)
    → KeysFit version names ks (One r rest) → asks version names r
    ≡ false → ks ≡ []
no_keys version names [] r rest fit e = refl
no_keys version names (k ∷ ks) r rest fit e = let h : asks version names r ≡ true = fit.1 in cc

cut_keys : (version : ℕ) (names : Names) (ks : List Key) (first : First) → KeysFit version names ks first
    → Cut first → ks ≡ []
cut_keys version names [] first fit cut = refl
cut_keys version names (k ∷ ks) (HeaderCut left) fit cut = absurd fit
cut_keys version names (k ∷ ks) (ContentCut wanted left) fit cut = absurd fit
cut_keys version names (k ∷ ks) (One r rest) fit cut = absurd cut
cut_keys version names (k ∷ ks) End fit cut = absurd cut

not_asking : (b : Bool) → (if b then kinds.Make else kinds.Work) ≡ kinds.Work → b ≡ false
not_asking true e = cc
not_asking false e = refl

pub unanswered_open : {a : Bool} → a ≡ false → (b : Bool) → (not a || b) ≡ true
unanswered_open e b = rw e refl

work_result : (sc : Scenario) (t : ℕ) (m : Machine) (f : Frame) (v : Handles) (bytes : List ℕ) (r : Recipe)
    (rest : List ℕ) (x : Result WorkDone ℤ) → Calling sc t m f (calls.Create bytes) → f.forming ≡ Some v → f.receipt
    ≡ None
    → FormsCreate sc.version (seen_names m.live (tasked m t).names) t bytes f.at_byte [] (valued m.live v) → f.keys ≡ []
    → first_of (drop f.at_byte bytes) ≡ One r rest → asks sc.version (seen_names m.live (tasked m t).names) r ≡ false
    → valued_result m.live x ≡ eval sc.version (seen_names m.live (tasked m t).names) t r (valued m.live v)
    → Step sc t m (work_done m t f (calls.Create bytes) (16 + length r.content) x)
work_result sc t m f v bytes r rest (Ok w) c forming receipt forms empty e a g =
    open_step sc t m f (record f {
      forming = Some w.forming;
      at_byte = f.at_byte + (16 + length r.content);
      lets =
          f.lets ++ w.left;
    }) c.before c.frame refl
    (forms_in sc m.live (member_of m.live (tasked m t)) t (tasked m t).begun
    (record f { forming = Some w.forming; at_byte = f.at_byte + (16 + length r.content); lets = f.lets ++ w.left })
    w.forming None (calls.Create bytes) refl receipt c.there
    (subst (λ (ks : List Key). FormsCreate sc.version (seen_names m.live (tasked m t).names) t bytes
    (f.at_byte + (16 + length r.content)) ks (valued m.live w.forming)) (sym empty)
    (worked_forms sc.version (seen_names m.live (tasked m t).names) t bytes f.at_byte (valued m.live v)
    (valued m.live w.forming)
    r rest forms e a (sym g))) tt) (unanswered_open c.unanswered _)
work_result sc t m f v bytes r rest (Err code) c forming receipt forms empty e a g =
    create_refused sc t m f bytes code c forms.some forms.few
    (refused_forms sc.version (seen_names m.live (tasked m t).names) t bytes f.at_byte (valued m.live v) r rest code
    forms e
    (sym g))

-- by the first of the bytes that are left
work_at : (sc : Scenario) (t : ℕ) (m : Machine) (f : Frame) (v : Handles) (bytes : List ℕ) (first : First) → Fits sc m
    → Calling sc t m f (calls.Create bytes) → f.forming ≡ Some v → f.receipt ≡ None
    → FormsCreate sc.version (seen_names m.live (tasked m t).names) t bytes f.at_byte f.keys (valued m.live v)
    → first_of (drop f.at_byte bytes) ≡ first → first_next sc.version (tasked m t).names first ≡ kinds.Work
    → Step sc t m (work_done m t f (calls.Create bytes) (size_of first)
    (work_first sc.version (tasked m t).names first v))
work_at sc t m f v bytes (One r rest) fits c forming receipt forms e next =
    work_result sc t m f v bytes r rest _ c forming receipt
    (subst (λ (ks : List Key). FormsCreate sc.version (seen_names m.live (tasked m t).names) t bytes f.at_byte ks
    (valued m.live v)) empty forms) empty e free
    (record_alike sc.version m.live (tasked m t).names t r v fits.different (names_live sc m t fits)
    (forming_live sc m t f v fits c.frame forming) free)
  where
    free : asks sc.version (seen_names m.live (tasked m t).names) r ≡ false
    free = sym (asks_same sc.version m.live (tasked m t).names r)
        ∙ not_asking (asks sc.version (known_name (tasked m t).names) r) next

    empty : f.keys ≡ []
    empty = no_keys sc.version (seen_names m.live (tasked m t).names) f.keys r rest
        (subst (KeysFit sc.version (seen_names m.live (tasked m t).names) f.keys) e forms.fit) free
work_at sc t m f v bytes End fits c forming receipt forms e next = let k : kinds.Place
    ≡ kinds.Work = next in absurd (elim (apart k) [ ])
  where
    is_place : Kind → Type 0
    is_place kinds.Place = Unit {0}
    is_place kind = ⊥

    apart : kinds.Place ≡ kinds.Work → ⊥
    apart k = subst is_place k tt
work_at sc t m f v bytes (HeaderCut left) fits c forming receipt forms e next =
    create_refused sc t m f bytes KERN_INVALID_ARGUMENT c forms.some forms.few
    (cut_forms sc.version (seen_names m.live (tasked m t).names) t bytes f.at_byte (valued m.live v) (HeaderCut left)
    (subst (λ (ks : List Key). FormsCreate sc.version (seen_names m.live (tasked m t).names) t bytes f.at_byte ks
    (valued m.live v))
    (cut_keys sc.version (seen_names m.live (tasked m t).names) f.keys (HeaderCut left)
    (subst (KeysFit sc.version (seen_names m.live (tasked m t).names) f.keys) e forms.fit) tt) forms) e tt)
work_at sc t m f v bytes (ContentCut wanted left) fits c forming receipt forms e next =
    create_refused sc t m f bytes KERN_INVALID_ARGUMENT c forms.some forms.few
    (cut_forms sc.version (seen_names m.live (tasked m t).names) t bytes f.at_byte (valued m.live v)
    (ContentCut wanted left)
    (subst (λ (ks : List Key). FormsCreate sc.version (seen_names m.live (tasked m t).names) t bytes f.at_byte ks
    (valued m.live v))
    (cut_keys sc.version (seen_names m.live (tasked m t).names) f.keys (ContentCut wanted left)
    (subst (KeysFit sc.version (seen_names m.live (tasked m t).names) f.keys) e forms.fit) tt) forms) e tt)

pub no_work : (b : Bool) → (if b then Some kinds.Place else Some kinds.Make) ≡ Some kinds.Work → ⊥
no_work true e = cc
no_work false e = cc

-- Work, of a call that forms a voucher
pub work_step : (sc : Scenario) (t : ℕ) (m : Machine) (f : Frame) (v : Handles) (call : Call) → Fits sc m
    → Calling sc t m f call → f.forming ≡ Some v → f.receipt ≡ None
    → call_next sc.version (tasked m t).names f.at_byte f.keys (Some call) ≡ Some kinds.Work
    → Step sc t m (do_work sc.version m t f v call)
work_step sc t m f v (calls.Create bytes) fits c forming receipt next =
    work_at sc t m f v bytes (first_of (drop f.at_byte bytes)) fits c forming receipt
    (forms_at sc t m f v None (calls.Create bytes) c.before c.frame forming receipt c.there) refl
    (some_kind _ kinds.Work next)
work_step sc t m f v (calls.Send to moving name id) fits c forming receipt next = absurd (no_work _ next)
work_step sc t m f v calls.Recv fits c forming receipt next = absurd (no_work _ next)
work_step sc t m f v (calls.GiveUp name) fits c forming receipt next = absurd (no_work _ next)
work_step sc t m f v (calls.Extract name key) fits c forming receipt next = absurd (no_work _ next)
work_step sc t m f v (calls.Recipes name) fits c forming receipt next = absurd (no_work _ next)
work_step sc t m f v (calls.Extern name adding n) fits c forming receipt next = absurd (no_work _ next)
work_step sc t m f v (calls.Charge name n) fits c forming receipt next = absurd (no_work _ next)
work_step sc t m f v calls.Ledger fits c forming receipt next = absurd (no_work _ next)
work_step sc t m f v calls.Assertions fits c forming receipt next = absurd (no_work _ next)
work_step sc t m f v calls.Live fits c forming receipt next = absurd (no_work _ next)
work_step sc t m f v calls.Exit fits c forming receipt next =
    absurd (forms_at sc t m f v None calls.Exit c.before c.frame forming receipt c.there)
