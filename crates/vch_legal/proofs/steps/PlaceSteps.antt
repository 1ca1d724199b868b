-- Place, to its own task: the reply is the store's, or out of memory where that may be.
use Rattle.std.proofs.Common.{◌≡◌, inl, ℕ, Bool, List, [], ◌∷◌, ◌++◌, refl, true, false, sym, ap, ◌∙◌, subst, length, drop, Some, None, Option, Ok}
use Rattle.std.specs.Prelude.{if◌then◌else◌}
use Rattle.vch_base.specs.declared.key.Key.{Key}
use Rattle.vch_base.specs.declared.kind.Kind.TheVariants as kinds
use Rattle.vch_recipe.specs.Recipes.{First, One, End, HeaderCut, ContentCut, first_of}
use Rattle.vch_model.specs.declared.call.Call.{Call}
use Rattle.vch_model.specs.declared.call.Call.TheVariants as calls
use Rattle.vch_model.specs.declared.entry.Entry.TheVariants as entries
use Rattle.vch_model.specs.declared.entry.Reply.{Reply}
use Rattle.vch_model.specs.declared.entry.Reply.TheVariants as replies
use Rattle.vch_model.specs.declared.lists.Scenario.{Scenario}
use Rattle.vch_model.specs.Voucher.{nothing}
use Rattle.vch_model.specs.Store.{member, voucher_of}
use Rattle.vch_model.specs.Eval.{create, eval_all}
use Rattle.vch_model.specs.Words.{word_of}
use Rattle.vch_model.specs.After.{is_want, placed, store_after_call}
use Rattle.vch_model.specs.Replies.{created}
use Rattle.vch_model.specs.Legal.{IsAnswer, option_all_live, voucher_made, reaches}
use Rattle.vch_machine.specs.State.{Handles, Place, Frame, Tasked, Machine, tasked, with_tasked, seen, valued}
use Rattle.vch_machine.specs.Frames.{with_frame, replied}
use Rattle.vch_machine.specs.Naming.{name_of, name_for, with_name, doubled}
use Rattle.vch_machine.specs.Next.{first_next, call_next}
use Rattle.vch_machine.specs.Placing.{ended, place_create, do_place}
use Rattle.vch_legal.specs.Facts.{Fits}
use Rattle.vch_legal.specs.Tie.{KeysFit, FormsCreate}
use Rattle.vch_legal.proofs.tasks.TaskItems.{still_in}
use Rattle.vch_legal.proofs.tasks.TaskLists.{IsAmong}
use Rattle.vch_legal.proofs.tasks.OwnTask.{named_begun}
use Rattle.vch_legal.proofs.seen.SeenNames.{LiveAll, AllLive}
use Rattle.vch_legal.proofs.seen.SeenTasks.{seen_frame, own_task, frame_in}
use Rattle.vch_legal.proofs.seen.SeenCalls.{seen_given, gives_seen}
use Rattle.vch_legal.proofs.seen.SeenValues.{voucher_lives}
use Rattle.vch_legal.proofs.values.HeldLive.{forming_live, names_live}
use Rattle.vch_legal.proofs.forming.Records.{seen_names}
use Rattle.vch_legal.proofs.forming.Creates.{Names, ended_forms}
use Rattle.vch_legal.proofs.steps.Standing.{Step}
use Rattle.vch_legal.proofs.tasks.OwnSteps.{Answered, answered_step, closed_answered}
use Rattle.vch_legal.proofs.steps.Refusals.{Calling, calling_answers, create_seen, create_wants}
use Rattle.vch_legal.proofs.steps.Nexts.{some_kind}

-- the call is answered with another task state, whose frame is at its end
pub placed_step : (sc : Scenario) (t : ℕ) (m mid : Machine) (f : Frame) (lets : List Place) (call : Call)
    (reply : Reply) → Calling sc t m f call → mid.past ≡ m.past → mid.live ≡ m.live → IsAmong t mid.tasks
    → (tasked mid t).begun ≡ (tasked m t).begun → seen mid ≡
    (if is_want reply then seen m else store_after_call sc (seen m) t call) → IsAnswer sc m.past (seen m) t call reply
    → Step sc t m (replied (with_frame mid t (ended f lets)) t call reply)
placed_step sc t m mid f lets call reply c past live l begun store answer =
    answered_step sc t m (replied (with_frame mid t (ended f lets)) t call reply) call reply c.before
    (calling_answers sc t m f call c) c.there
    (ap (λ (x : Tasked). entries.Call t x.begun (word_of call) reply ∷ mid.past) own
    ∙ (ap (λ b. entries.Call t b (word_of call) reply ∷ mid.past) begun
    ∙ ap (λ p. entries.Call t (tasked m t).begun (word_of call) reply ∷ p) past))
    live (ap (λ (x : Tasked). x.begun) own ∙ begun)
    (subst (λ (x : Tasked). Answered x.frame) (sym own)
    (closed_answered (record f { forming = None; answered = true; keys = []; lets = f.lets ++ lets }) refl refl))
    (seen_frame mid t (ended f lets) ∙ store) answer
  where
    own : tasked (with_frame mid t (ended f lets)) t ≡ record (tasked mid t) { frame = ended f lets }
    own = own_task mid t (record (tasked mid t) { frame = ended f lets }) l

-- the end of a create
create_place : (sc : Scenario) (t : ℕ) (m : Machine) (f : Frame) (v : Handles) (bytes : List ℕ) → Fits sc m
    → Calling sc t m f (calls.Create bytes) → f.forming ≡ Some v
    → create sc.version (voucher_of (member (seen m) t).names) t bytes ≡ Ok (Some (valued m.live v))
    → Step sc t m (place_create m t f v (calls.Create bytes))
create_place sc t m f v bytes fits c forming made =
    placed_step sc t m mid f (doubled m v) (calls.Create bytes)
    (replies.Created (name_for (tasked m t) (name_of (tasked m t).names v))) c refl refl
    (still_in m.tasks t t (with_name (tasked m t) v (name_of (tasked m t).names v)) l)
    (ap (λ (x : Tasked). x.begun) (own_task m t (with_name (tasked m t) v (name_of (tasked m t).names v)) l)
    ∙ named_begun (tasked m t) v (name_of (tasked m t).names v))
    (seen_given m t v fits.different names live ∙ sym (ap (placed (seen m) t) made))
    (inl (
      refl,
      ap replies.Created (sym (gives_seen m t v fits.different names live)) ∙ sym (ap (created (seen m) t) made),
      ap (λ x. option_all_live (seen m) (voucher_made x)) made ∙ voucher_lives sc m v fits live,
    ))
  where
    mid : Machine
    mid = with_tasked m t (with_name (tasked m t) v (name_of (tasked m t).names v))

    l : IsAmong t m.tasks
    l = frame_in m t f c.frame

    names : AllLive m.live (tasked m t).names
    names = names_live sc m t fits

    live : LiveAll m.live v
    live = forming_live sc m t f v fits c.frame forming

-- where a Place is next, a create is at the end of its bytes
ending : (version : ℕ) (m : Machine) (t : ℕ) (first : First)
    → first_next version (tasked m t).names first ≡ kinds.Place → first ≡ End
ending version m t (One r rest) e = absurd (not_place _ e)
  where
    not_place : (b : Bool) → (if b then kinds.Make else kinds.Work) ≡ kinds.Place → ⊥
    not_place true e = cc
    not_place false e = cc
ending version m t End e = refl
ending version m t (HeaderCut left) e = cc
ending version m t (ContentCut wanted left) e = cc

no_keys : (version : ℕ) (names : Names) (ks : List Key) → KeysFit version names ks End → ks ≡ []
no_keys version names [] fit = refl
no_keys version names (k ∷ ks) fit = absurd fit

abbrev pub IsStep : Scenario → ℕ → Machine → Option Machine → Type 0
IsStep sc t m None = Unit {0}
IsStep sc t m (Some n) = Step sc t m n

pub is_step_if : (sc : Scenario) (t : ℕ) (m : Machine) (a b : Option Machine) (c : Bool)
    → (c ≡ true → IsStep sc t m a) → (c ≡ false → IsStep sc t m b) → IsStep sc t m (if c then a else b)
is_step_if sc t m a b true x y = x refl
is_step_if sc t m a b false x y = y refl

pub create_ends : (sc : Scenario) (want : Bool) (t : ℕ) (m : Machine) (f : Frame) (v : Handles) (bytes : List ℕ)
    → Fits sc m → Calling sc t m f (calls.Create bytes) → f.forming ≡ Some v
    → FormsCreate sc.version (seen_names m.live (tasked m t).names) t bytes f.at_byte f.keys (valued m.live v)
    → call_next sc.version (tasked m t).names f.at_byte f.keys (Some (calls.Create bytes)) ≡ Some kinds.Place
    → IsStep sc t m (do_place sc want m t f v (calls.Create bytes))
create_ends sc want t m f v bytes fits c forming forms next =
    is_step_if sc t m _ _ want (λ _. create_wants sc t m f bytes c forms.some forms.few whole.1)
    (λ _. create_place sc t m f v bytes fits c forming
    (create_seen sc.version m t bytes (Ok (valued m.live v)) forms.some forms.few whole.0))
  where
    at_end : first_of (drop f.at_byte bytes) ≡ End
    at_end = ending sc.version m t (first_of (drop f.at_byte bytes)) (some_kind _ kinds.Place next)

    whole : (eval_all sc.version (length bytes) (seen_names m.live (tasked m t).names) t nothing bytes
        ≡ Ok (valued m.live v))
        × (reaches sc.version (length bytes) (seen_names m.live (tasked m t).names) t nothing bytes ≡ true)
    whole = ended_forms sc.version (seen_names m.live (tasked m t).names) t bytes f.at_byte (valued m.live v)
        (subst (λ (ks : List Key). FormsCreate sc.version (seen_names m.live (tasked m t).names) t bytes f.at_byte ks
        (valued m.live v))
        (no_keys sc.version (seen_names m.live (tasked m t).names) f.keys
        (subst (KeysFit sc.version (seen_names m.live (tasked m t).names) f.keys) at_end forms.fit)) forms) at_end
