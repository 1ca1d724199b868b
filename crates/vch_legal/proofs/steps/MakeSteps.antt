-- Make and Refer, to their own task: a Made entry may follow where the value is not live, and what is formed goes on.
use Rattle.std.proofs.Common.{◌≡◌, ℕ, ◌≤◌, Bool, ◌++◌, refl, true, false, not, sym, ap, ◌∙◌, subst, Some, None, Option, Ok, Err, Result}
use Rattle.std.proofs.lemmas.List.{length-map}
use Rattle.vch_base.specs.Keyed.{of_key, with_key}
use Rattle.std.specs.Prelude.{if◌then◌else◌, ℤ}
use Rattle.vch_base.specs.declared.key.Key.{Key}
use Rattle.vch_base.specs.declared.kind.Kind.TheVariants as kinds
use Rattle.vch_base.specs.Keys.{number_of, key_of}
use Rattle.vch_base.specs.declared.value.Value.{Value}
use Rattle.vch_model.specs.declared.call.Call.{Call}
use Rattle.vch_model.specs.declared.lists.Scenario.{Scenario}
use Rattle.vch_model.specs.Voucher.{Voucher}
use Rattle.vch_machine.specs.State.{Handles, Place, Frame, Tasked, Machine, tasked, handle_of, valued, member_of}
use Rattle.vch_machine.specs.Frames.{closed, with_frame, tallied}
use Rattle.vch_machine.specs.Making.{Asked, asked_by, back_claim, on_task, on_claims, make_done, make_asked, do_make, one_refer, do_refer}
use Rattle.vch_machine.specs.Naming.{item}
use Rattle.vch_machine.specs.Next.{call_next}
use Rattle.vch_legal.specs.Facts.{Fits}
use Rattle.vch_legal.specs.Tie.{Forms, moved_place, moved_keys}
use Rattle.vch_legal.proofs.values.ValueSteps.{Asking, value_step}
use Rattle.vch_legal.proofs.forming.AskedAt.{asks_at}
use Rattle.vch_legal.proofs.forming.Forming.{valued_with}
use Rattle.vch_legal.proofs.seen.SeenTasks.{seen_frame, seen_claims, own_task, frame_in, claims_task}
use Rattle.vch_legal.proofs.steps.Follows.{Follows}
use Rattle.vch_legal.proofs.steps.Lifts.{Lives}
use Rattle.vch_legal.proofs.steps.Standing.{Step}
use Rattle.vch_legal.proofs.tasks.OwnSteps.{framed_step, closed_forming, closed_open, closed_answers}
use Rattle.vch_legal.proofs.steps.LeaveSteps.{tallied_step, open_step}
use Rattle.vch_legal.proofs.steps.Nexts.{at_keys, forms_at, forms_in, moved_is}
use Rattle.vch_legal.proofs.steps.Refusals.{Calling, calling_answers}
use Rattle.vch_legal.proofs.steps.WorkSteps.{unanswered_open}
use Rattle.vch_legal.proofs.forming.MakeGoes.{GoesOn, asked_goes, asked_managed, make_wants}

-- no value: the key is lost
lost_step : (sc : Scenario) (t : ℕ) (m : Machine) (f : Frame) (v : Handles) (call : Call) (k : Key)
    → Calling sc t m f call → f.forming ≡ Some v → f.receipt ≡ None
    → Forms sc (member_of m.live (tasked m t)) t call (moved_place sc.version call f.at_byte f.keys)
    (moved_keys sc.version call f.at_byte f.keys) (with_key k None (valued m.live v))
    → Step sc t m (make_done sc.version m t f v call k (Ok None))
lost_step sc t m f v call k c forming receipt forms =
    subst (λ (x : Frame). Step sc t m (with_frame m t (Some x))) (sym (moved_is sc.version call g))
    (open_step sc t m f
    (at_keys g (moved_place sc.version call f.at_byte f.keys) (moved_keys sc.version call f.at_byte f.keys))
    c.before
    c.frame refl
    (forms_in sc m.live (member_of m.live (tasked m t)) t (tasked m t).begun
    (at_keys g (moved_place sc.version call f.at_byte f.keys) (moved_keys sc.version call f.at_byte f.keys))
    (with_key k None v) None call
    refl receipt c.there
    (subst (λ (x : Voucher). Forms sc (member_of m.live (tasked m t)) t call
    (moved_place sc.version call f.at_byte f.keys)
    (moved_keys sc.version call f.at_byte f.keys) x) (sym (valued_with m.live k None v)) forms) tt)
    (unanswered_open c.unanswered _))
  where
    g : Frame
    g = record f { forming = Some (with_key k None v); lets = f.lets ++ item k (of_key k v) }

-- an answer is asked for, where it is a value
abbrev AskingReply : Scenario → ℕ → Machine → Frame → Handles → Call → Key → Result (Option Value) ℤ → Type 0
AskingReply sc t m f v call k (Err code) = Unit {0}
AskingReply sc t m f v call k (Ok None) = Unit {0}
AskingReply sc t m f v call k (Ok (Some x)) = Asking sc t m f v call k x

-- a step, where what follows meets the facts
abbrev pub MayStep : Scenario → ℕ → Machine → Option Machine → Type 0
MayStep sc t m None = Unit {0}
MayStep sc t m (Some n) = Fits sc n → Step sc t m n

done_step : (sc : Scenario) (t : ℕ) (m : Machine) (f : Frame) (v : Handles) (call : Call) (k : Key)
    (reply : Result (Option Value) ℤ) → Fits sc m → Calling sc t m f call → f.forming ≡ Some v → f.receipt ≡ None
    → key_of sc.version (number_of k) ≡ Some k → GoesOn sc t m f v call k reply → AskingReply sc t m f v call k reply
    → Fits sc (make_done sc.version m t f v call k reply)
    → Step sc t m (make_done sc.version m t f v call k reply)
done_step sc t m f v call k (Err code) fits c forming receipt managed goes asking after = goes
done_step sc t m f v call k (Ok None) fits c forming receipt managed goes asking after = lost_step sc t m f v call k c forming
    receipt goes
done_step sc t m f v call k (Ok (Some x)) fits c forming receipt managed goes asking after = value_step sc t m f v call k x
    (handle_of m.live k x) fits c forming receipt refl managed goes asking after

asked_step : (sc : Scenario) (t : ℕ) (m : Machine) (f : Frame) (v : Handles) (call : Call) (a : Option Asked)
    → Fits sc m → Calling sc t m f call → f.forming ≡ Some v → f.receipt ≡ None
    → ((b : Asked) → a ≡ Some b
    → (key_of sc.version (number_of b.key) ≡ Some b.key) × GoesOn sc t m f v call b.key b.reply
    × AskingReply sc t m f v call b.key b.reply)
    → MayStep sc t m (make_asked sc.version m t f v call a)
asked_step sc t m f v call None fits c forming receipt goes = tt
asked_step sc t m f v call (Some a) fits c forming receipt goes = done_step sc t m f v call a.key a.reply fits c
    forming receipt (goes a refl).0 (goes a refl).1 (goes a refl).2

may_if : (sc : Scenario) (t : ℕ) (m : Machine) (b : Bool) (x y : Option Machine) → MayStep sc t m x → MayStep sc t m y
    → MayStep sc t m (if b then x else y)
may_if sc t m true x y h k = h
may_if sc t m false x y h k = k

reply_asked : (sc : Scenario) (t : ℕ) (m : Machine) (f : Frame) (v : Handles) (call : Call) (k : Key)
    (reply : Result (Option Value) ℤ) → Forms sc (member_of m.live (tasked m t)) t call f.at_byte f.keys (valued m.live v)
    → asked_by sc m t f v call ≡ Some (record { key = k; reply = reply }) → AskingReply sc t m f v call k reply
reply_asked sc t m f v call k (Err code) forms e = tt
reply_asked sc t m f v call k (Ok None) forms e = tt
reply_asked sc t m f v call k (Ok (Some x)) forms e = (forms, asks_at sc t m f v call k x e)

-- Make
pub make_step : (sc : Scenario) (want : Bool) (t : ℕ) (m : Machine) (f : Frame) (v : Handles) (call : Call)
    → Fits sc m → Calling sc t m f call → f.forming ≡ Some v → f.receipt ≡ None
    → call_next sc.version (tasked m t).names f.at_byte f.keys (Some call) ≡ Some kinds.Make
    → MayStep sc t m (do_make sc want m t f v call)
make_step sc want t m f v call fits c forming receipt next =
    may_if sc t m want _ _ (λ _. make_wants sc t m f v call c forms next)
    (asked_step sc t m f v call (asked_by sc m t f v call) fits c forming receipt
    (λ a e. (
      asked_managed sc t m f v call a forms e,
      asked_goes sc t m f v call a c forms next e,
      reply_asked sc t m f v call a.key a.reply forms e,
    )))
  where
    forms : Forms sc (member_of m.live (tasked m t)) t call f.at_byte f.keys (valued m.live v)
    forms = forms_at sc t m f v None call c.before c.frame forming receipt c.there

-- Refer
pub refer_step : (sc : Scenario) (t : ℕ) (m : Machine) (f : Frame) (v : Handles) (call : Call) (q : Place)
    → Calling sc t m f call → f.forming ≡ Some v → f.receipt ≡ Some q → Step sc t m (do_refer sc.version m t f v call q)
refer_step sc t m f v call q c forming receipt =
    subst (λ (x : Frame). Step sc t m (tallied one_refer (with_frame (on_claims (back_claim q) m) t (closed x))))
    (sym (moved_is sc.version call g))
    (tallied_step sc t m (with_frame (on_claims (back_claim q) m) t (closed next)) one_refer
    (framed_step sc t m (with_frame (on_claims (back_claim q) m) t (closed next)) (closed next) c.before
    (Follows.Quiet refl (seen_frame (on_claims (back_claim q) m) t (closed next) ∙ seen_claims m (back_claim q)))
    (Lives.Same refl) refl own
    (closed_answers next ∙ (ap not c.unanswered ∙ sym (calling_answers sc t m f call c)))
    (closed_forming next sc m.live (member_of m.live (tasked m t)) t (tasked m t).begun
    (forms_in sc m.live (member_of m.live (tasked m t)) t (tasked m t).begun next (with_key q.key (Some q.handle) v)
    None call refl refl c.there
    (forms_at sc t m f v (Some q) call c.before c.frame forming receipt c.there) tt)) (closed_open next)))
  where
    g : Frame
    g = record f {
      forming = Some (with_key q.key (Some q.handle) v);
      lets = f.lets ++ item q.key (of_key q.key v);
      receipt = None;
    }

    next : Frame
    next = at_keys (record f {
      forming = Some (with_key q.key (Some q.handle) v);
      lets = f.lets ++ item q.key
          (of_key q.key v);
      receipt = None;
    }) (moved_place sc.version call f.at_byte f.keys) (moved_keys sc.version call f.at_byte f.keys)

    own : tasked (with_frame (on_claims (back_claim q) m) t (closed next)) t
        ≡ record (tasked m t) { frame = closed next }
    own = own_task (on_claims (back_claim q) m) t
        (record (tasked (on_claims (back_claim q) m) t) { frame = closed next }) (
          (frame_in m t f c.frame).0,
          subst (λ i. t ≤ i) (sym (length-map m.tasks (on_task (back_claim q)))) (frame_in m t f c.frame).1,
        )
        ∙ ap (λ (x : Tasked). record x { frame = closed next }) (claims_task m (back_claim q) t)
