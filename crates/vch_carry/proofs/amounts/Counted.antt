-- A change of an external count, as its call begins.
use Rattle.std.proofs.Common.{◌≡◌, ℕ, ◌+◌, ◌≤◌, Bool, true, false, List, refl, sym, ap, ◌∙◌, subst, Option, Some, None, Result, Ok, Err, inl, inr, ℤ}
use Rattle.std.proofs.lemmas.Bool.{cases_eq}
use Rattle.std.proofs.lemmas.List.{get_or-set_same, get_or-set_other}
use Rattle.std.specs.Prelude.{slice_set, IsSome}
use Rattle.std.proofs.Math.ListN.{length-set}
use Rattle.vch_base.specs.declared.key.Key.{Key}
use Rattle.vch_base.specs.declared.key.Key.TheVariants as keys
use Rattle.vch_base.specs.declared.kind.Kind.TheVariants as kinds
use Rattle.vch_base.specs.declared.places.Live.{Live}
use Rattle.vch_base.specs.Keyed.{Keyed, of_key}
use Rattle.vch_base.specs.Managers.{live_at, with_due}
use Rattle.vch_base.proofs.CallerLemmas.{inside_of}
use Rattle.vch_importance.specs.Assertions.{counted_by}
use Rattle.vch_model.specs.Lines.{is_task}
use Rattle.vch_model.specs.Replies.{refused}
use Rattle.vch_model.specs.declared.call.Call.{Call}
use Rattle.vch_model.specs.declared.call.Call.TheVariants as calls
use Rattle.vch_model.specs.declared.call.Word.TheVariants as words
use Rattle.vch_model.specs.declared.entry.Reply.TheVariants as replies
use Rattle.vch_machine.specs.Beginning.{begin_call, store_reply}
use Rattle.vch_machine.specs.Frames.{replied}
use Rattle.vch_machine.specs.State.{Machine}
use Rattle.vch_frame.specs.Indices.{index_of}
use Rattle.vch_values.specs.Parts.{KeyParts}
use Rattle.vch_vouchers.specs.Desks.{Voucher, desk, voucher_of}
use Rattle.vch_parts.specs.declared.parts.Parts.{Parts}
use Rattle.vch_parts.specs.Plain.{part_of}
use Rattle.vch_parts.specs.Reached.{plain_of, Reached, MayFollow}
use Rattle.vch_parts.specs.Stands.{StandsFor}
use Rattle.vch_moves.specs.Steps.{machine_begun, answered_first}
use Rattle.vch_replies.specs.Left.{due_set, recounted}
use Rattle.vch_replies.specs.Replied.{changed, done_or, extern_told}
use Rattle.vch_replies.specs.Told.{handle_in, live_in}
use Rattle.vch_replies.proofs.CallerLemmas.{extern_reply, extern_left}
use Rattle.vch_answers.specs.Answered.{Answers, Begins}
use Rattle.vch_answers.proofs.CallerLemmas.{Moment, begin_follows, answer_room, named_is}
use Rattle.vch_carry.specs.Amounts.{Notes, handle_of, handle_or, named_handle, recounted_by}
use Rattle.vch_carry.proofs.amounts.Told.{calls_here}
use Rattle.vch_carry.proofs.amounts.Named.{Found, found}
use Rattle.vch_carry.proofs.amounts.Noted.{SameLive, SameButDues}
use Rattle.vch_carry.proofs.amounts.Begun.{due_answered}
use Rattle.vch_carry.proofs.amounts.Noting.{noted_scenario, noted_plain, refused_follows}

-- Another amount is due on one live value.

pub same_live : (o : Option Live) → SameLive o o
same_live None = tt
same_live (Some l) = (refl, refl)

pub same_key_parts : (a : KeyParts) → SameButDues a a
same_key_parts a = record { entries = refl; numbers = refl; free = refl; long = refl; rules = refl; asked = refl; live = λ h. same_live (live_at a.kept.slots h) }

due_live : (due : ℕ) (o : Option Live) → SameLive o (with_due due o)
due_live due None = tt
due_live due (Some l) = (refl, refl)

set_live : (slots : List (Option Live)) (h due : ℕ) (l : Live) → live_at slots h ≡ Some l → (j : ℕ) → SameLive (live_at slots j) (live_at (slice_set slots h (with_due due (live_at slots h))) j)
set_live slots h due l there j = elim (cases_eq j h) [
  | inl e ↦ subst (λ i. SameLive (live_at slots i) (live_at (slice_set slots h (with_due due (live_at slots h))) i)) (sym e)
      (subst (SameLive (live_at slots h)) (sym (get_or-set_same slots h (with_due due (live_at slots h)) None (inside_of slots h l there))) (due_live due (live_at slots h)))
  | inr other ↦ subst (SameLive (live_at slots j)) (sym (get_or-set_other slots h j (with_due due (live_at slots h)) None other)) (same_live (live_at slots j))
]

live_is : (o : Option Live) (P : Type 0) → IsSome o → ((l : Live) → o ≡ Some l → P) → P
live_is None P e f = absurd (cc)
live_is (Some l) P e f = f l refl

pub due_same : (a : KeyParts) (h due : ℕ) → IsSome (live_at a.kept.slots h) → SameButDues a (record a { kept = due_set a.kept h due })
due_same a h due some = live_is (live_at a.kept.slots h) _ some (λ l there. record {
  entries = refl;
  numbers = refl;
  free = refl;
  long = length-set a.kept.slots h (with_due due (live_at a.kept.slots h));
  rules = refl;
  asked = refl;
  live = set_live a.kept.slots h due l there;
})

recounted_same : (x : Keyed KeyParts) (h due : ℕ) → IsSome (live_at x.importance.kept.slots h) → (k : Key) → SameButDues (of_key k x) (of_key k (recounted x h due))
recounted_same x h due some keys.Importance = due_same x.importance h due some
recounted_same x h due some keys.Bank = same_key_parts x.bank
recounted_same x h due some keys.User = same_key_parts x.user
recounted_same x h due some keys.Test = same_key_parts x.test

module _ (p : Parts) (t name n : ℕ) (adding : Bool) (reached : Reached p) (task : is_task p.scenario t ≡ true) (begins : Begins p t (calls.Extern name adding n)) where
  abbrev call : Call
  call = calls.Extern name adding n

  told : (o : Option Voucher) → voucher_of (desk p.vouchers t).names name ≡ o → (m : Machine) → Moment p t call m
      → begin_call p.scenario false (machine_begun m t) t call (store_reply p.scenario m t call) ≡ replied (machine_begun m t) t call (extern_told p.values t adding n o)
  told o e m x = ap (replied (machine_begun m t) t call)
      (extern_reply p.scenario (plain_of p) m t name n adding (calls_here p t task call m x) ∙ ap (extern_told p.values t adding n) (named_is p t reached task name o e))

  -- without a list
  pub refused_told : (code : ℤ) → named_handle p t name keys.Importance ≡ Err code → (m : Machine) → Moment p t call m
      → begin_call p.scenario false (machine_begun m t) t call (store_reply p.scenario m t call) ≡ replied (machine_begun m t) t call (refused code)
  refused_told code e m x = by (voucher_of (desk p.vouchers t).names name) refl e
    where
      err_eq : (a b : ℤ) → ◌≡◌ {A = Result ℕ ℤ} (Err a) (Err b) → a ≡ b
      err_eq a b e = cc

      without : (v : Voucher) (o : Option ℕ) → handle_or o ≡ Err code → done_or (counted_by (changed adding) (live_in p.values.importance o) t n) ≡ refused code
      without v None e = ap refused (err_eq _ code e)
      without v (Some h) e = absurd (cc)

      by : (o : Option Voucher) → voucher_of (desk p.vouchers t).names name ≡ o → handle_of p.values keys.Importance o ≡ Err code
          → begin_call p.scenario false (machine_begun m t) t call (store_reply p.scenario m t call) ≡ replied (machine_begun m t) t call (refused code)
      by None q e = told None q m x ∙ ap (λ c. replied (machine_begun m t) t call (refused c)) (err_eq _ code e)
      by (Some v) q e = told (Some v) q m x ∙ ap (replied (machine_begun m t) t call) (without v (handle_in p.values.importance (index_of keys.Importance v)) e)

  pub refusal_follows : (code : ℤ) (new : Parts) → named_handle p t name keys.Importance ≡ Err code → Answers t words.Extern (refused code) p new → MayFollow kinds.Begin t p new
  refusal_follows code new e done = refused_follows p t reached task call begins code (refused_told code e) new _ done.scenario (done.plain call refl) refl

  -- with one
  module _ (h : ℕ) (there : named_handle p t name keys.Importance ≡ Ok h) where
    abbrev change : Result ℕ ℤ
    change = counted_by (changed adding) (live_at p.values.importance.kept.slots h) t n

    at : Found p t reached task name keys.Importance h
    at = found p t reached task name keys.Importance h there

    pub count_told : (m : Machine) → Moment p t call m → begin_call p.scenario false (machine_begun m t) t call (store_reply p.scenario m t call) ≡ replied (machine_begun m t) t call (done_or change)
    count_told m x = ap (replied (machine_begun m t) t call)
        (extern_reply p.scenario (plain_of p) m t name n adding (calls_here p t task call m x) ∙ ap (extern_told p.values t adding n) at.named
        ∙ ap (λ o. done_or (counted_by (changed adding) (live_in p.values.importance o) t n)) at.handle)

    pub count_room : 1 ≤ p.history.spare
    count_room = answer_room p t call reached task begins false (done_or change) count_told

    accepted : (due : ℕ) → change ≡ Ok due → (m : Machine) → Moment p t call m
        → StandsFor p.scenario (record (answered_first (plain_of p) t call replies.Done) { keyed = recounted p.values h due }) (replied (machine_begun m t) t call replies.Done)
    accepted due e m x = due_answered p.scenario (plain_of p) m t x.free (recounted p.values h due) call replies.Done (recounted_same p.values h due at.live)
        (extern_left p.scenario (plain_of p) m t ((part_of (plain_of p) t).begun + 1) name n due h adding words.Extern at.voucher (calls_here p t task call m x) x.there at.named at.handle e) count_room

    pub count_follows : (mid new : Parts) → mid ≡ record p { values = recounted_by p.values h change } → Notes t words.Extern (done_or change) mid new → MayFollow kinds.Begin t p new
    count_follows mid new same notes = by change refl same notes
      where
        by : (r : Result ℕ ℤ) → change ≡ r → mid ≡ record p { values = recounted_by p.values h r } → Notes t words.Extern (done_or r) mid new → MayFollow kinds.Begin t p new
        by (Ok due) e same notes = begin_follows p t call reached task begins new false (record (answered_first (plain_of p) t call replies.Done) { keyed = recounted p.values h due })
            (noted_scenario p t reached task (recounted p.values h due) mid same words.Extern replies.Done new notes)
            (noted_plain p t reached task (recounted p.values h due) mid same words.Extern replies.Done new notes call refl)
            (λ m x. subst (StandsFor p.scenario (record (answered_first (plain_of p) t call replies.Done) { keyed = recounted p.values h due })) (sym (count_told m x ∙ ap (λ r. replied (machine_begun m t) t call (done_or r)) e)) (accepted due e m x))
        by (Err code) e same notes = refused_follows p t reached task call begins code (λ m x. count_told m x ∙ ap (λ r. replied (machine_begun m t) t call (done_or r)) e) new _
            (noted_scenario p t reached task p.values mid same words.Extern (refused code) new notes)
            (noted_plain p t reached task p.values mid same words.Extern (refused code) new notes call refl) refl
