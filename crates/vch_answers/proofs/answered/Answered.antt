-- A call that is answered as it begins, and counts nothing, is the event Begin; and there is room for its answer.
use Rattle.std.proofs.Common.{◌≡◌, ℕ, ◌+◌, ◌≤◌, nat_lt, Bool, true, false, refl, sym, ap, ◌∙◌, subst, Some}
use Rattle.vch_base.specs.declared.kind.Kind.TheVariants as kinds
use Rattle.vch_model.specs.Lines.{is_task, lines_until}
use Rattle.vch_model.specs.Words.{word_of}
use Rattle.vch_model.specs.declared.call.Call.{Call}
use Rattle.vch_model.specs.declared.call.Word.{Word}
use Rattle.vch_model.specs.declared.entry.Entry.TheVariants as entries
use Rattle.vch_model.specs.declared.entry.Reply.{Reply}
use Rattle.vch_machine.specs.Beginning.{begin_call, store_reply}
use Rattle.vch_machine.specs.Frames.{replied}
use Rattle.vch_machine.specs.State.{Machine, tasked}
use Rattle.vch_machine.specs.Next.{nth_call}
use Rattle.vch_legal.specs.ValueAmounts.{is_counting}
use Rattle.vch_legal.proofs.CallerLemmas.{call_uncounted}
use Rattle.vch_parts.specs.declared.parts.Parts.{Parts}
use Rattle.vch_parts.specs.Plain.{Plain, part_of}
use Rattle.vch_parts.specs.Stands.{StandsFor}
use Rattle.vch_parts.specs.Reached.{plain_of, MayFollow, IsState, Reached}
use Rattle.vch_parts.proofs.CallerLemmas.{own_frame, own_begun}
use Rattle.vch_moves.specs.Moments.{IsFree}
use Rattle.vch_moves.specs.Steps.{machine_begun, answered_first}
use Rattle.vch_moves.proofs.CallerLemmas.{answers_begin, stands_of, ties_of, from_state, may_follow, free_of, begin_next, begin_event, begin_happens, entry_room}
use Rattle.vch_answers.specs.Answered.{Answers, Begins}

-- what the machine has where the call begins
pub record Moment (p : Parts) (t : ℕ) (call : Call) (m : Machine) : Type 0 where
  pub state : IsState p.scenario (plain_of p) m
  pub free : IsFree p.scenario (plain_of p) m t
  pub there : nth_call p.scenario t ((part_of (plain_of p) t).begun + 1) ≡ Some call
  pub waits : nat_lt (part_of (plain_of p) t).begun (lines_until p.scenario (p.phase + 1) t) ≡ true

module _ (p : Parts) (t : ℕ) (call : Call) (reached : Reached p) (task : is_task p.scenario t ≡ true) (begins : Begins p t call) where
  pub moment : (m : Machine) → IsState p.scenario (plain_of p) m → Moment p t call m
  moment m st = record {
    state = st;
    free = free_of p.scenario (plain_of p) m t (stands_of p.scenario (plain_of p) m st) (ties_of p.scenario (plain_of p) m st) task (own_frame p t reached task ∙ begins.free);
    there = ap (λ n. nth_call p.scenario t (n + 1)) (own_begun p t reached task) ∙ begins.call_is;
    waits = ap (λ n. nat_lt n (lines_until p.scenario (p.phase + 1) t)) (own_begun p t reached task) ∙ begins.waits;
  }

  -- a call begins: from what becomes of each state that the parts stand for
  pub begin_follows : (new : Parts) (want : Bool) (d : Plain) → new.scenario ≡ p.scenario → plain_of new ≡ d
      → ((m : Machine) → Moment p t call m → StandsFor p.scenario d (begin_call p.scenario want (machine_begun m t) t call (store_reply p.scenario m t call))) → MayFollow kinds.Begin t p new
  begin_follows new want d same plain f = may_follow kinds.Begin t p new want d same plain (λ m st.
      let x = moment m st in
      let ties = ties_of p.scenario (plain_of p) m st in
      begin_happens p.scenario (plain_of p) m t ties task x.free want call (begin_next p.scenario (plain_of p) m t ties task x.free x.waits) x.there
      (begin_call p.scenario want (machine_begun m t) t call (store_reply p.scenario m t call)) d refl (f m x))

  module _ (want : Bool) (reply : Reply) (replies : (m : Machine) → Moment p t call m → begin_call p.scenario want (machine_begun m t) t call (store_reply p.scenario m t call) ≡ replied (machine_begun m t) t call reply) where
    pub answer_room : 1 ≤ p.history.spare
    answer_room = from_state p _ reached (λ m st.
        let x = moment m st in
        let ties = ties_of p.scenario (plain_of p) m st in
        entry_room p.scenario (plain_of p) m (replied (machine_begun m t) t call reply) t want (entries.Call t (tasked (machine_begun m t) t).begun (word_of call) reply) (stands_of p.scenario (plain_of p) m st) ties
        (begin_event p.scenario (plain_of p) m t ties task x.free want call (begin_next p.scenario (plain_of p) m t ties task x.free x.waits) x.there ∙ ap (λ n. Some n) (replies m x)) refl refl)

    pub answer_follows : (new : Parts) (word : Word) → word_of call ≡ word → is_counting call ≡ false → Answers t word reply p new → MayFollow kinds.Begin t p new
    answer_follows new word same none done = begin_follows new want (answered_first (plain_of p) t call reply) done.scenario (done.plain call same) (λ m x.
        subst (StandsFor p.scenario (answered_first (plain_of p) t call reply)) (sym (replies m x))
        (answers_begin p.scenario (plain_of p) m t call reply x.free
        (record { uncounted = call_uncounted p.scenario m.past t ((part_of (plain_of p) t).begun + 1) (word_of call) reply call x.there none; room = answer_room })))
