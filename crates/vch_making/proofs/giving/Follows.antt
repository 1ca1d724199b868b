-- From a manager's answer that leaves its values, to the event of the parts.
use Rattle.std.proofs.Common.{◌≡◌, ℕ, ◌≤◌, true, refl, arith, sym, ap, ◌∙◌, subst, Option, Some, None}
use Rattle.std.specs.Prelude.{Result, Ok, Err, ℤ}
use Rattle.vch_base.specs.declared.fault.Code.{Code}
use Rattle.vch_base.specs.declared.fault.NoMemory.{NoMemory}
use Rattle.vch_base.specs.declared.kind.Kind.TheVariants as kinds
use Rattle.vch_base.specs.declared.manager.GetFault.TheVariants as fault
use Rattle.vch_base.specs.declared.manager.GetFault.{GetFault}
use Rattle.vch_base.specs.declared.value.Value.{Value}
use Rattle.vch_base.specs.Keyed.{Keyed, of_key}
use Rattle.vch_base.specs.Managers.{Kept}
use Rattle.vch_value.specs.declared.flight.Made.{Made}
use Rattle.vch_value.specs.declared.flight.Made.TheVariants as made
use Rattle.vch_value.specs.Calls.{Makes}
use Rattle.vch_model.specs.Lines.{is_task}
use Rattle.vch_values.specs.Parts.{KeyParts, number_at}
use Rattle.vch_parts.specs.declared.parts.Parts.{Parts}
use Rattle.vch_parts.specs.Framed.{working_of}
use Rattle.vch_parts.specs.Reached.{plain_of, Reached, IsNext, IsState, IsEventBy, MayFollow}
use Rattle.vch_model.specs.Rows.{Entries}
use Rattle.vch_parts.proofs.CallerLemmas.{each_key, other_with, next_agrees, is_next}
use Rattle.vch_moves.proofs.CallerLemmas.{from_state, next_in}
use Rattle.vch_making.specs.declared.question.Question.{Question}
use Rattle.vch_making.specs.Given.{IsRoomier, RoomierKey}
use Rattle.vch_making.specs.Answers.{Answers, question_of}
use Rattle.vch_making.proofs.giving.Roomier.{roomier_state}

-- The reply, by the answer.

pub nothing_is : (old new : Kept) (reply : Result (Option Value) ℤ) → Makes old reply (Ok made.Nothing) new → (reply ≡ Ok None) × (new ≡ old)
nothing_is old new (Err code) m = absurd m
nothing_is old new (Ok None) m = (refl, m)
nothing_is old new (Ok (Some x)) m = absurd m.0

pub refused_is : (old new : Kept) (reply : Result (Option Value) ℤ) (c : Code) → Makes old reply (Err (fault.Refused c)) new → (reply ≡ Err c.number) × (new ≡ old)
refused_is old new (Err code) c m = (ap (λ n. Err n) (sym m.0), m.1)
refused_is old new (Ok None) c m = absurd m
refused_is old new (Ok (Some x)) c m = absurd m.0

pub memory_is : (old new : Kept) (reply : Result (Option Value) ℤ) (cause : NoMemory) → Makes old reply (Err (fault.NoMemory cause)) new → new ≡ old
memory_is old new reply cause m = m

-- Where the manager keeps what it kept, there is only more room.
pub answer_roomier : (t : ℕ) (q : Question) (result : Result Made GetFault) (old new : Parts) → Answers t q result old new → (of_key q.key new.values).kept ≡ (of_key q.key old.values).kept → IsRoomier old new
answer_roomier t q result old new a kept = record {
  others = a.others ∙ ap (λ h. record old { values = new.values; history = h }) (sym same_history);
  entries = ap (λ (h : Entries). h.entries) same_history;
  spare = subst (λ (h : Entries). old.history.spare ≤ h.spare) (sym same_history) (omega arith);
  keyed = each_key (λ k. RoomierKey (of_key k old.values) (of_key k new.values)) q.key
      (record { slots = a.slots; places = a.places; kept = kept; numbers = λ h. ap (λ ns. number_at ns h) a.numbers })
      (λ k other. subst (λ z. RoomierKey (of_key k old.values) z) (sym (ap (λ (x : Keyed KeyParts). of_key k x) a.keyed ∙ other_with k q.key (of_key q.key new.values) old.values other))
      (record { slots = refl; places = omega arith; kept = refl; numbers = λ h. refl }));
}
  where
    same_history : new.history ≡ old.history
    same_history = ap (λ (x : Parts). x.history) a.others

-- With more room, the same event is next.
pub roomier_next : (old new : Parts) (t : ℕ) → IsRoomier old new → Reached old → is_task old.scenario t ≡ true → IsNext old t (Some kinds.Make) → IsNext new t (Some kinds.Make)
roomier_next old new t r reached task next = from_state old _ reached (λ m st.
    subst (λ x. IsNext x t (Some kinds.Make)) (sym r.others)
    (is_next (record old { values = new.values; history = new.history }) t (Some kinds.Make) (working_of old.frames t) task refl (sym (next_in old t (Some kinds.Make) m next st) ∙ sym (next_agrees old t m task st))))

pub roomier_question : (old new : Parts) (t : ℕ) → IsRoomier old new → question_of new t ≡ question_of old t
roomier_question old new t r = ap (λ (x : Parts). question_of x t) r.others

-- An event from parts with more room is one from those before.
pub roomier_may : (old mid new : Parts) (t : ℕ) → IsRoomier old mid → MayFollow kinds.Make t mid new → MayFollow kinds.Make t old new
unfolding IsEventBy
roomier_may old mid new t r f =
    let scenario : mid.scenario ≡ old.scenario = ap (λ (x : Parts). x.scenario) r.others in
    record {
      scenario = f.scenario ∙ scenario;
      want = f.want;
      event = λ m st. subst (λ sc. IsEventBy sc f.want kinds.Make t (plain_of mid) (plain_of new)) scenario f.event m (subst (λ sc. IsState sc (plain_of mid) m) scenario (roomier_state old mid r m st));
    }
