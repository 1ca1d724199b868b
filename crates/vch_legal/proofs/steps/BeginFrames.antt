-- Begin, to its own task, by call.
use Rattle.std.proofs.Common.{◌≡◌, ℕ, suc, ◌+◌, ◌≤◌, Bool, List, [], ◌∷◌, ◌++◌, refl, true, false, not, ◌&&◌, ◌||◌, sym, ap, ◌∙◌, subst, length, Some, None, Option}
use Rattle.std.specs.Prelude.{if◌then◌else◌, ◌==◌, nat_lt, is_some}
use Rattle.vch_legal.proofs.forming.KeysThere.{sends_keys}
use Rattle.vch_base.specs.declared.key.Key.{Key}
use Rattle.vch_base.specs.declared.key.Key.TheVariants as keys
use Rattle.vch_base.specs.Keys.{number_of, managed, key_among}
use Rattle.vch_base.specs.declared.limits.TheConstants.{ARRAY_BYTES}
use Rattle.vch_model.specs.declared.call.Call.{Call}
use Rattle.vch_model.specs.declared.call.Call.TheVariants as calls
use Rattle.vch_model.specs.declared.lists.Scenario.{Scenario}
use Rattle.vch_model.specs.Voucher.{Voucher, nothing}
use Rattle.vch_model.specs.Store.{member, voucher_of, is_full}
use Rattle.vch_model.specs.Transfer.{received_value, before, after}
use Rattle.vch_base.specs.Managers.{preprocessed}
use Rattle.vch_model.specs.After.{is_want, queued, taken_first, received, placed, store_after_call}
use Rattle.vch_model.specs.After as stores
use Rattle.vch_model.specs.Lines.{is_task, phases_in, calls_in, lines_until}
use Rattle.vch_model.specs.Legal.{voucher_sent}
use Rattle.vch_machine.specs.State.{Handles, no_handles, Living, Frame, Tasked, Machine, tasked, seen, living_at, value_of, value_at, valued, valued_option, member_of, is_empty}
use Rattle.vch_machine.specs.Beginning.{begun_one, fresh_frame, key_if, store_reply, begin_call}
use Rattle.vch_machine.specs.Frames.{with_frame, replied}
use Rattle.vch_machine.specs.Naming.{handles_of}
use Rattle.vch_legal.specs.Facts.{Fits, bit}
use Rattle.vch_legal.specs.Tie.{AllAmong, Forms, IsForming, transfer_keys, is_answering, IsOpen}
use Rattle.vch_legal.proofs.forming.Forming.{LiveAt, eval_bound}
use Rattle.vch_legal.proofs.forming.Creates.{one_above, there_enough, reaches_bound}
use Rattle.vch_legal.proofs.seen.SeenNames.{LiveAll}
use Rattle.vch_legal.proofs.seen.SeenTasks.{seen_frame, own_task}
use Rattle.vch_legal.proofs.values.HeldLive.{names_live}
use Rattle.vch_legal.proofs.forming.Records.{voucher_seen, named_live}
use Rattle.vch_legal.proofs.forming.RecordChanges.{LiveOption}
use Rattle.vch_legal.proofs.steps.Follows.{Follows}
use Rattle.vch_legal.proofs.steps.Lifts.{Lives}
use Rattle.vch_legal.proofs.steps.Standing.{Step}
use Rattle.vch_legal.proofs.steps.Nexts.{forms_in}
use Rattle.vch_legal.proofs.steps.Refusals.{names_seen}
use Rattle.vch_legal.proofs.steps.BeginSteps.{Starting, counted, counted_seen, counted_task, start_number, quiet_answer, no_create}
use Rattle.vch_legal.proofs.tasks.TaskItems.{still_in}
use Rattle.vch_legal.proofs.facts.Choices.{neither_left, neither_right}
use Rattle.vch_legal.proofs.steps.LeaveSteps.{step_if}

-- a frame begins
pub frame_begins : (sc : Scenario) (t : ℕ) (m : Machine) (call : Call) (g : Frame) → Starting sc t m call
    → g.answered ≡ false → IsForming sc m.live (member_of m.live (tasked m t)) t ((tasked m t).begun + 1) (Some g)
    → Step sc t m (with_frame (counted m t) t (Some g))
frame_begins sc t m call g c unanswered forming = record {
  follows = Follows.Quiet refl (seen_frame (counted m t) t (Some g) ∙ counted_seen m t);
  lives = Lives.Same refl;
  counted = ap (λ (x : Tasked). x.begun) own ∙ (ap (λ a. a + 1) (start_number sc t m call c)
      ∙ (sym (ap (λ b. calls_in m.past t + bit (not b)) unanswered)
      ∙ sym (ap (λ (x : Tasked). calls_in m.past t + bit (is_answering x.frame)) own)));
  begun = subst (λ (x : Tasked). x.begun ≤ lines_until sc (phases_in m.past + 1) t) (sym own) c.more;
  forming = subst (λ (x : Tasked). IsForming sc m.live (member_of m.live x) t x.begun x.frame) (sym own) forming;
  open_frame = subst (λ (x : Tasked). IsOpen x.frame) (sym own) (opened g.answered unanswered _);
}
  where
    opened : (a : Bool) → a ≡ false → (b : Bool) → (not a || b) ≡ true
    opened a e b = rw e refl

    own : tasked (with_frame (counted m t) t (Some g)) t ≡ record (begun_one (tasked m t)) { frame = Some g }
    own = own_task (counted m t) t (record (tasked (counted m t) t) { frame = Some g })
        (still_in m.tasks t t (begun_one (tasked m t)) c.range)
        ∙ ap (λ (x : Tasked). record x { frame = Some g }) (counted_task m t c.range)

-- of a call that forms a voucher
pub framed_begin : (sc : Scenario) (t : ℕ) (m : Machine) (call : Call) (v : Handles) (ks : List Key)
    → Starting sc t m call → Forms sc (member_of m.live (tasked m t)) t call 0 ks (valued m.live v)
    → Step sc t m (with_frame (counted m t) t (Some (fresh_frame v ks)))
framed_begin sc t m call v ks c forms =
    frame_begins sc t m call (fresh_frame v ks) c refl
    (forms_in sc m.live (member_of m.live (tasked m t)) t ((tasked m t).begun + 1) (fresh_frame v ks) v None call
    refl refl c.there forms tt)

pub create_begins : (sc : Scenario) (want : Bool) (t : ℕ) (m : Machine) (bytes : List ℕ)
    → Starting sc t m (calls.Create bytes)
    → Step sc t m (begin_call sc want (counted m t) t (calls.Create bytes) (store_reply sc m t (calls.Create bytes)))
create_begins sc want t m bytes c =
    step_if sc t m _ _ ((length bytes == 0) || nat_lt ARRAY_BYTES (length bytes))
    (λ e. quiet_answer sc t m (calls.Create bytes) c refl
    ((no_create sc.version (voucher_of (member (seen m) t).names) t bytes e).1 (seen m) t)
    (no_create sc.version (voucher_of (member (seen m) t).names) t bytes e).0)
    (λ e. framed_begin sc t m (calls.Create bytes) no_handles [] c
    (record {
      some = neither_left (length bytes == 0) (nat_lt ARRAY_BYTES (length bytes)) e;
      few = neither_right (length bytes == 0)
          (nat_lt ARRAY_BYTES (length bytes)) e;
      made = eval_bound sc.version (suc (length bytes)) (length bytes) _ t _ bytes (one_above bytes)
          (there_enough bytes (neither_left (length bytes == 0) (nat_lt ARRAY_BYTES (length bytes)) e));
      may = λ h. sym (reaches_bound sc.version (suc (length bytes)) (length bytes) _ t _ bytes (one_above bytes)
          (there_enough bytes (neither_left (length bytes == 0) (nat_lt ARRAY_BYTES (length bytes)) e))) ∙ h;
      evaluated = record { number = 0; before = nothing; records = refl; done = refl };
      fit = tt;
      keys_managed = tt;
    }))

-- a key that is asked where there is a value
pub key_among_if : (all : List Key) (k : Key) (x : Option ℕ) → key_among all (number_of k) ≡ Some k
    → AllAmong all (key_if k x)
key_among_if all k None h = tt
key_among_if all k (Some i) h = (h, tt)

-- what asking the keys of a voucher makes of it
sends_before : (live : List Living) (t : ℕ) (v : Handles) (x : Option ℕ) → v.bank ≡ x
    → transfer_keys (preprocessed t) (key_if keys.Bank x) (valued live v) ≡ before t (valued live v)
sends_before live t v None e = ap (λ o. record (valued live v) { bank = value_at live keys.Bank o }) e
    ∙ sym (ap (λ o. before t (record (valued live v) { bank = value_at live keys.Bank o })) e)
sends_before live t v (Some h) e = refl

pub receives_after : (sc : Scenario) (live : List Living) (t : ℕ) (v : Handles) (x y : Option ℕ) → v.importance ≡ x
    → v.bank ≡ y
    → transfer_keys (received_value sc t) (key_if keys.Importance x ++ key_if keys.Bank y) (valued live v)
    ≡ after sc t (valued live v)
receives_after sc live t v None None e g = gone e g
  where
    gone : v.importance ≡ None → v.bank ≡ None → valued live v ≡ after sc t (valued live v)
    gone e g = ap (λ o. record (valued live v) { importance = value_at live keys.Importance o }) e
        ∙ (ap (λ o. record (valued live v) { importance = None; bank = value_at live keys.Bank o }) g
        ∙ sym (ap (λ o. after sc t (record (valued live v) { importance = value_at live keys.Importance o })) e
        ∙ ap (λ o. after sc t (record (valued live v) { importance = None; bank = value_at live keys.Bank o })) g))
receives_after sc live t v None (Some h) e g =
    ap (λ o. transfer_keys (received_value sc t) (keys.Bank ∷ [])
    (record (valued live v) { importance = value_at live keys.Importance o })) e
    ∙ sym (ap (λ o. after sc t (record (valued live v) { importance = value_at live keys.Importance o })) e)
receives_after sc live t v (Some h) None e g =
    ap (λ o. transfer_keys (received_value sc t) (keys.Importance ∷ [])
    (record (valued live v) { bank = value_at live keys.Bank o })) g
    ∙ sym (ap (λ o. after sc t (record (valued live v) { bank = value_at live keys.Bank o })) g)
receives_after sc live t v (Some h) (Some i) e g = refl

bank_there : (live : List Living) (v : Handles) (x : Option ℕ) → v.bank ≡ x → LiveAt live keys.Bank x
    → is_empty (key_if keys.Bank x) ≡ false → is_some (value_at live keys.Bank v.bank) ≡ true
bank_there live v None e l h = cc
bank_there live v (Some i) e l h = ap (λ o. is_some (value_at live keys.Bank o)) e
    ∙ of_living (living_at live (record { key = keys.Bank; handle = i })) l
  where
    of_living : (o : Option Living) → is_some o ≡ true → is_some (value_of o) ≡ true
    of_living None h = cc
    of_living (Some a) h = refl

-- a send of a name that is known, or not
pub named_begins : (sc : Scenario) (t : ℕ) (m : Machine) (to : ℕ) (moving : Bool) (name id : ℕ) (v : Option Handles)
    → Fits sc m → Starting sc t m (calls.Send to moving name id) → is_task sc to ≡ true → (name == 0) ≡ false
    → handles_of (tasked m t).names name ≡ v
    → Step sc t m (elim v [
      | None ↦ replied (counted m t) t (calls.Send to moving name id)
          (store_reply sc m t (calls.Send to moving name id))
      | Some w
          ↦ with_frame (counted m t) t (Some (fresh_frame w (key_if keys.Bank w.bank)))
    ])
named_begins sc t m to moving name id None fits c task named e =
    quiet_answer sc t m (calls.Send to moving name id) c refl
    (rw (task, named) (ap (stores.sent sc (seen m) t to moving name id) unknown))
    (ap (λ o. if is_task sc to && (not (name == 0) && not (is_full sc (seen m) to)) then voucher_sent
    t o else None) unknown ∙ none_either _)
  where
    unknown : voucher_of (member (seen m) t).names name ≡ None
    unknown = ap (λ names. names name) (names_seen m t) ∙
        (voucher_seen m.live (tasked m t).names name ∙ ap (valued_option m.live) e)

    none_either : (b : Bool) → ◌≡◌ {A = Option Voucher} (if b then None else None) None
    none_either true = refl
    none_either false = refl
named_begins sc t m to moving name id (Some w) fits c task named e =
    framed_begin sc t m (calls.Send to moving name id) w (key_if keys.Bank w.bank) c (record {
      to_task = task;
      is_named = named;
      voucher = valued m.live w;
      known = voucher_seen m.live (tasked m t).names name ∙ ap (valued_option m.live) e;
      made = sends_before m.live t w w.bank refl;
      evaluated = ([], sends_keys m.live w live, refl);
      asked = bank_there m.live w w.bank refl (live keys.Bank);
      keys_managed = key_among_if (managed sc.version) keys.Bank w.bank refl;
    })
  where
    live : LiveAll m.live w
    live = subst (LiveOption m.live) e (named_live m.live (tasked m t).names name (names_live sc m t fits))
